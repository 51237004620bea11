-- The state that a head and lent arrays make up: how many packets stand in the arrays, and what the counts of a sound head say.
use Rattle.std.specs.Prelude.{◌≡◌, List, ℕ, length, true}
use Rattle.std.proofs.Common.{◌∙◌}
use Rattle.sent.specs.declared.head.Head.{Head}
use Rattle.sent.specs.State.{state_sound_of}
use Rattle.sent_lent.specs.Lent.{whole_in}
use Rattle.sent.specs.Laws.Sound.{CountsOf, state_counts}
use Rattle.sent_lent.specs.Laws.LentPackets.{packets_length}

module _ (h : Head) (samples times sizes marks : List ℕ) (places_512 : length times ≡ 512) where
  pub whole_full : length (whole_in h samples times sizes marks).packets ≡ 512
  whole_full = packets_length times sizes marks ∙ places_512

  pub whole-counts : state_sound_of (whole_in h samples times sizes marks) ≡ true → CountsOf (whole_in h samples times sizes marks)
  whole-counts e = state_counts (whole_in h samples times sizes marks) e whole_full
