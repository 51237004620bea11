-- The check tells whether the file is a session, and 20 goes before 10.
use Rattle.std.specs.Prelude.{refl}
use Rattle.std.proofs.Common.{arith, ap, ap₂, ◌∙◌}
use Rattle.common.specs.Answer.{Answer}
use Rattle.sent.specs.declared.state.SentPackets.{SentPackets}
use Rattle.session.specs.declared.replay.Replay.{Replay}
use Rattle.session.specs.Laws.Number.{setting_read}
use Rattle.session.specs.Laws.Session.{check_facts}
use Rattle.session.specs.Laws.Start.{start_none, start_with}
use Rattle.session.proofs.replay.Replay.start.Goals as goal

pub returns-in_default : goal.returns-in_default
returns-in_default c =
    ap₂ (λ (a : Answer (Unit {0})) (r : Replay). (a, r)) c.verdict.ensures c.none.ensures ∙ start_none c.args.file.now c.in_default.ensures

pub read_settings-settings-requires : goal.read_settings-settings-requires
read_settings-settings-requires c = omega (arith, (check_facts c.args.file.now _ c.in-Some.ensures).0.filled)

pub setting-requires : goal.setting-requires
setting-requires c = (omega (arith, (check_facts c.args.file.now _ c.in-Some.ensures).0.filled), omega arith)

pub overflow_cast-initial : goal.overflow_cast-initial
overflow_cast-initial c =
    omega (arith, c.setting.ensures, setting_read c.args.file.now 0 (omega arith), (check_facts c.args.file.now _ c.in-Some.ensures).0.initial_to)

pub returns : goal.returns
returns c =
    ap₂ (λ (a : Answer (Unit {0})) (r : Replay). (a, r)) c.verdict-2.ensures refl
    ∙ start_with c.args.file.now _ _ _ c.in-Some.ensures c.read_settings-settings.ensures c.in_range.ensures _ _ _ refl
    (c.setting.ensures ∙ setting_read c.args.file.now 0 (omega arith)) (ap (λ (p : Answer (Unit {0}) × SentPackets). p.1) c.new.ensures)
