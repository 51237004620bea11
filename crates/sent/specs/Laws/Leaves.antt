-- A timeout leaves samples and packets, and a transmit leaves the samples.
use Rattle.std.specs.Prelude.{◌≡◌, refl, Bool, true, false, cond, List, [], ◌∷◌, ◌++◌, ℕ, zero, suc, leb, length, take, drop}
use Rattle.std.proofs.Common.{ap}
use Rattle.common.specs.Answer.{Answer, done, refused, ◌then◌}
use Rattle.seq.specs.declared.SeqNum.{SeqNum}
use Rattle.packet.specs.declared.kind.PacketType.{PacketType}
use Rattle.outgoing.specs.declared.kept.Packet.{Packet}
use Rattle.outgoing.specs.Sound.{timeout_of as timed_out_of}
use Rattle.outgoing.specs.Tracker.{Tracker as Sent, clocked_of, is_kept, offset_in, packet_at, with_packet_at}
use Rattle.outgoing.specs.Transmit.{first_sent, recorded_of, sent_of, transmit_check, transmit_of as sent_by, with_resent}
use Rattle.sent.specs.declared.state.SentPackets.{SentPackets}
use Rattle.sent.specs.State.{answered_of, state_sound_of, timeout_answer, tracker_of, transmit_answer}

-- ---- a timeout

pub take_rest : (n : ℕ) (l : List Packet) → take n l ++ drop (length (take n l)) l ≡ l
take_rest zero l = refl
take_rest (suc n) [] = refl
take_rest (suc n) (p ∷ l) = ap (λ (k : List Packet). p ∷ k) (take_rest n l)

pub timeout_delays : (s : SentPackets) → (timeout_answer s).1.delays ≡ s.delays
unfolding timeout_answer
timeout_delays s = by_test (state_sound_of s)
  where
    by_test : (b : Bool) → (answered_of s (cond b (done (timed_out_of (tracker_of s))) (refused 19))).1.delays ≡ s.delays
    by_test true = refl
    by_test false = refl

pub timeout_packets : (s : SentPackets) → (timeout_answer s).1.packets ≡ s.packets
unfolding timeout_answer
timeout_packets s = by_test (state_sound_of s)
  where
    by_test : (b : Bool) → (answered_of s (cond b (done (timed_out_of (tracker_of s))) (refused 19))).1.packets ≡ s.packets
    by_test true = take_rest s.live s.packets
    by_test false = refl

-- ---- a transmit

pub sent_delays : (t : Sent) (o : ℕ) (p : Packet) → (sent_of t o p).delays ≡ t.delays
unfolding sent_of
sent_delays t o p = by_test (leb o t.sent) (is_kept t o)
  where
    by_test : (b k : Bool) → (cond b (cond k (with_packet_at t o (with_resent (packet_at t o))) t) (recorded_of t p)).delays ≡ t.delays
    by_test true true = refl
    by_test true false = refl
    by_test false k = refl

pub transmit_delays : (s : SentPackets) (number : SeqNum) (type : PacketType) (tag len clock : ℕ) → (transmit_answer s number type tag len clock).1.delays ≡ s.delays
unfolding transmit_answer sent_by
transmit_delays s number type tag len clock =
    by_test (state_sound_of s) (transmit_check s.numbers s.count (length (tracker_of s).packets) (offset_in (tracker_of s) number) len clock)
    (clocked_of (sent_of (tracker_of s) (offset_in (tracker_of s) number) (first_sent type tag len clock)) clock) (sent_delays (tracker_of s) (offset_in (tracker_of s) number) (first_sent type tag len clock))
  where
    by_test : (b : Bool) (a : Answer (Unit {0})) (t : Sent) → t.delays ≡ s.delays → (answered_of s (cond b (a then done t) (refused 19))).1.delays ≡ s.delays
    by_test true (done u) t e = e
    by_test true (refused n) t e = refl
    by_test false a t e = refl
