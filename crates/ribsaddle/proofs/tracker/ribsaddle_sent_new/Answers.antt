-- A tracker with a setting out of range is not stored; another holds the new head and zeros.
use Rattle.std.proofs.Common.{ap, sym, ◌∙◌}
use Rattle.common.specs.Answer.{Answer}
use Rattle.outgoing.specs.Answers.{outcome}
use Rattle.sent.specs.declared.head.Head.{Head}
use Rattle.sent.specs.State.{new_answer}
use Rattle.ribsaddle.specs.Tracker.{Starting, settings_of, started_with, new_of}
use Rattle.ribsaddle.specs.Laws.Tracker.{created_done, created_refused, fresh_parts}
use Rattle.ribsaddle.proofs.tracker.ribsaddle_sent_new.Goals as goal

pub returns-in-Refused : goal.returns-in-Refused
unfolding new_of
returns-in-Refused c =
    let a = c.args in
    let settings = settings_of a.target_delay a.first_timeout a.minimum_timeout a.largest_packet a.increase a.delay_window a.gain in
    let refusal = sym (ap (λ (x : Answer (Unit {0}) × Head). x.0) c.new-fresh.ensures) ∙ ap outcome c.in-Refused.is in
    let e = sym (created_refused a.sent.now (new_answer (record { 0 = a.initial }) settings) _ refusal) in
    (c.number.ensures ∙ ap (λ (x : Starting). x.answer) e, ap (λ (x : Starting). x.state) e)

pub returns : goal.returns
unfolding new_of
returns c =
    let a = c.args in
    let settings = settings_of a.target_delay a.first_timeout a.minimum_timeout a.largest_packet a.increase a.delay_window a.gain in
    let done_is = sym (ap (λ (x : Answer (Unit {0}) × Head). x.0) c.new-fresh.ensures) ∙ ap outcome c.in_default.is in
    let e = sym (created_done a.sent.now (new_answer (record { 0 = a.initial }) settings) done_is) in (
      ap (λ (x : Starting). x.answer) e,
      c.started.ensures
          ∙ ap (λ (x : Answer (Unit {0}) × Head). started_with x.1) c.new-fresh.ensures
          ∙ sym (fresh_parts (record { 0 = a.initial }) settings)
          ∙ ap (λ (x : Starting). x.state) e,
    )
