-- Every public function of the crate, in the order of the source: nothing is asked of its caller, and no two different outcomes satisfy its promise.
use Rattle.std.specs.Prelude.{◌≡◌, []}
use Rattle.std.proofs.Common.{subst}
use denote.RattleType.{RattleType}
use mathlib.Core.List.{Mem, not-mem-nil}
use Rattle.common.specs.Promise.{Promise, by_value, by_code}
use Rattle.outgoing.specs.Answers.{outcome, answer_told}
use Rattle.outgoing.specs.Read.{told_of}
use Rattle.outgoing.specs.Laws.OneToOne.{outcome_one, answer_told_one}
use Rattle.outgoing.proofs.answer.Reason.number.Reads as reason-number
use Rattle.outgoing.proofs.ack.ack_check.Reads as ack-check
use Rattle.outgoing.proofs.ack.Ack.keeps.Reads as keeps
use Rattle.outgoing.proofs.ack.Ack.credited.Reads as credited
use Rattle.outgoing.proofs.ack.Ack.heard.Reads as heard
use Rattle.outgoing.proofs.ack.Ack.earlier_count.Reads as earlier-count
use Rattle.outgoing.proofs.kept.Packet.unacked.Reads as unacked
use Rattle.outgoing.proofs.kept.Packet.acked_one.Reads as acked-one
use Rattle.outgoing.proofs.kept.Packet.flying.Reads as flying
use Rattle.outgoing.proofs.kept.Packet.sound.Reads as sound
use Rattle.outgoing.proofs.kept.Packet.sent_again.Reads as sent-again
use Rattle.outgoing.proofs.kept.Packet.acked_now.Reads as acked-now
use Rattle.outgoing.proofs.kept.Packet.is_newly_lost.Reads as is-newly-lost
use Rattle.outgoing.proofs.kept.Packet.lost_now.Reads as lost-now
use Rattle.outgoing.proofs.kept.Packet.lost_one.Reads as lost_one_lem
use Rattle.outgoing.proofs.lost.type_of.Reads as type-of
use Rattle.outgoing.proofs.lost.wrap_place.Reads as wrap-place
use Rattle.outgoing.proofs.told.told.Reads as told
use Rattle.outgoing.proofs.told.any_told.Reads as any_told
use Rattle.outgoing.proofs.told.last_acked.Reads as last_acked
use Rattle.outgoing.proofs.transmit.transmit_check.Reads as transmit-check

reason_number_promise : Promise reason-number.Pre reason-number.Post (λ κs r s. r)
reason_number_promise = by_value _ (λ κs a. tt) (λ κs a r s p. p)

ack_check_promise : Promise ack-check.Pre ack-check.Post (λ κs r s. r)
ack_check_promise = by_code outcome outcome_one _ (λ κs a. tt) (λ κs a r s p. p)

keeps_promise : Promise keeps.Pre keeps.Post (λ κs r s. r)
keeps_promise = by_value _ (λ κs a. tt) (λ κs a r s p. p)

credited_promise : Promise credited.Pre credited.Post (λ κs r s. r)
credited_promise = by_value _ (λ κs a. tt) (λ κs a r s p. p)

heard_promise : Promise heard.Pre heard.Post (λ κs r s. r)
heard_promise = by_value _ (λ κs a. tt) (λ κs a r s p. p)

earlier_count_promise : Promise earlier-count.Pre earlier-count.Post (λ κs r s. r)
earlier_count_promise = by_value _ (λ κs a. tt) (λ κs a r s p. p)

unacked_promise : Promise unacked.Pre unacked.Post (λ κs r s. r)
unacked_promise = by_value _ (λ κs a. tt) (λ κs a r s p. p)

acked_one_promise : Promise acked-one.Pre acked-one.Post (λ κs r s. r)
acked_one_promise = by_value _ (λ κs a. tt) (λ κs a r s p. p)

flying_promise : Promise flying.Pre flying.Post (λ κs r s. r)
flying_promise = by_value _ (λ κs a. tt) (λ κs a r s p. p)

sound_promise : Promise sound.Pre sound.Post (λ κs r s. r)
sound_promise = by_value _ (λ κs a. tt) (λ κs a r s p. p)

sent_again_promise : Promise sent-again.Pre sent-again.Post (λ κs r s. r)
sent_again_promise = by_value _ (λ κs a. tt) (λ κs a r s p. p)

acked_now_promise : Promise acked-now.Pre acked-now.Post (λ κs r s. r)
acked_now_promise = by_value _ (λ κs a. tt) (λ κs a r s p. p)

is_newly_lost_promise : Promise is-newly-lost.Pre is-newly-lost.Post (λ κs r s. r)
is_newly_lost_promise = by_value _ (λ κs a. tt) (λ κs a r s p. p)

lost_now_promise : Promise lost-now.Pre lost-now.Post (λ κs r s. r)
lost_now_promise = by_value _ (λ κs a. tt) (λ κs a r s p. p)

lost_one_promise : Promise lost_one_lem.Pre lost_one_lem.Post (λ κs r s. r)
lost_one_promise = by_value _ (λ κs a. tt) (λ κs a r s p. p)

type_of_promise : Promise type-of.Pre type-of.Post (λ κs r s. r)
type_of_promise = by_value _ (λ κs a. tt) (λ κs a r s p. p)

wrap_place_promise : Promise wrap-place.Pre wrap-place.Post (λ κs r s. r)
wrap_place_promise = by_value _ (λ κs a. tt) (λ κs a r s p. p)

-- Whatever is told, as long as it holds no borrow.
told_promise : (T : RattleType) (laws : _) (copy : _) (ghosts : _) (dict : _) → T.lives ≡ [] → Promise (told.Pre T laws copy ghosts dict) (told.Post T laws copy ghosts dict) (λ κs r s. r)
told_promise T laws copy ghosts dict none =
    by_code {pre = told.Pre T laws copy ghosts dict} {post = told.Post T laws copy ghosts dict} {seen = λ κs r s. r} answer_told answer_told_one (λ κs a. told_of a.0 a.1.0) (λ κs a k m. absurd (not-mem-nil (subst (Mem k) none m))) (λ κs a r s p. p)

any_told_promise : Promise any_told.Pre any_told.Post (λ κs r s. r)
any_told_promise = by_code answer_told answer_told_one _ (λ κs a. tt) (λ κs a r s p. p)

last_acked_promise : Promise last_acked.Pre last_acked.Post (λ κs r s. r)
last_acked_promise = by_value _ (λ κs a. tt) (λ κs a r s p. p)

transmit_check_promise : Promise transmit-check.Pre transmit-check.Post (λ κs r s. r)
transmit_check_promise = by_code outcome outcome_one _ (λ κs a. tt) (λ κs a r s p. p)
