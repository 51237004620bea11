use Rattle.std.proofs.Common.{◌≡◌, [], Some}
use Rattle.feed.proofs.sessions.replay.Given as goal

abbrev pub invariant-loop : goal.invariant-loop
invariant-loop g l = g.R.Read.remaining l.fn.source ≡ Some [] → (l.on ≡ l.fn.on) × (g.R.Read.remaining l.feed.source ≡ Some [])
