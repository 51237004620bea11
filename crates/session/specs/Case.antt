-- The whole case of document 02, No. 3, over the definition.
use Rattle.std.specs.Prelude.{ℕ, List, [], ◌∷◌, ◌++◌, ◌≡◌, refl, take}
use Rattle.std.specs.Float.Ieee.{le, of_bits, to_signed, mul, of_int, div}
use Rattle.packet.specs.Layout.{bytes}
use Rattle.congestion.specs.Numbers.{sound_of, adjusted_of, timed_of, credited_of}
use Rattle.controller.specs.Delays.{remaining_of, room_of, take_of}
use Rattle.congestion.specs.Window.{adjustment_of, next_maximum_of}
use Rattle.congestion.specs.Trip.{moved_of}
use Rattle.outgoing.specs.Loss.{acked_count_of, loss_marked_of, loss_counted_of}
use Rattle.outgoing.specs.Transmit.{transmit_check, sent_of, transmit_of}
use Rattle.outgoing.specs.Ack.{ack_check, marked_of, ack_of, sacked_from, offsets_from, heard_of, newly_acked_of, all_acknowledged_of, from_unacked}
use Rattle.outgoing.specs.Lost.{lost_from, insert_of, ascending_of, lost_list_of}
use Rattle.session.specs.Format.{section_of, sections_of, gain_of, settings_in, event_of, events_of, all_known, sack_total, session_in, is_whole, session_of}
use Rattle.session.specs.Lines.{digits_of, decimal, line_text, bad_text, lines_from, fresh_of, lines_of, lines_text, printed}

-- Initial 100, target 100,000, first timeout 1,000,000, minimum 500,000, packet 1,000, increase 3,000, gain 1, window 120,000,000.
abbrev settings : List ℕ
settings =
    bytes 4 8
    ++ (bytes 8 100
    ++ (bytes 8 100000
    ++ (bytes 8 1000000
    ++ (bytes 8 500000
    ++ (bytes 8 1000
    ++ (bytes 8 3000
    ++ (bytes 8 0x3ff0_0000_0000_0000
    ++ bytes 8 120000000)))))))

-- A transmit of 101, 1,000 bytes, at 0; an ack of 101 at 100,000, delay 100,000, no SACK.
abbrev event : ℕ → ℕ → ℕ → ℕ → ℕ → List ℕ
event kind number size clock delay = bytes 1 kind ++ (bytes 1 0 ++ (bytes 2 number ++ (bytes 4 size ++ (bytes 8 clock ++ bytes 8 delay))))

abbrev pub whole_case : List ℕ
whole_case = settings ++ (bytes 4 2 ++ (event 1 101 1000 0 0 ++ (event 2 101 0 100000 100000 ++ bytes 4 0)))

-- The output is `0 0 1000 2000 1000000 0` and then `1 0 0 5000 500000 0`.
abbrev pub whole_output : List ℕ
whole_output =
    48 ∷ 32
    ∷ 48 ∷ 32
    ∷ 49 ∷ 48 ∷ 48 ∷ 48 ∷ 32
    ∷ 50 ∷ 48 ∷ 48 ∷ 48 ∷ 32
    ∷ 49 ∷ 48 ∷ 48 ∷ 48 ∷ 48 ∷ 48 ∷ 48 ∷ 32
    ∷ 48 ∷ 10
    ∷ 49 ∷ 32
    ∷ 48 ∷ 32
    ∷ 48 ∷ 32
    ∷ 53 ∷ 48 ∷ 48 ∷ 48 ∷ 32
    ∷ 53 ∷ 48 ∷ 48 ∷ 48 ∷ 48 ∷ 48 ∷ 32
    ∷ 48 ∷ 10
    ∷ []

pub whole_case_lem : printed whole_case ≡ whole_output
unfolding section_of sections_of gain_of settings_in event_of events_of all_known sack_total session_in is_whole session_of lines_from fresh_of lines_of digits_of decimal line_text lines_text printed acked_count_of loss_marked_of loss_counted_of transmit_check sent_of transmit_of ack_check marked_of ack_of sacked_from offsets_from heard_of newly_acked_of all_acknowledged_of from_unacked lost_from insert_of ascending_of lost_list_of sound_of adjusted_of timed_of credited_of remaining_of room_of take_of adjustment_of next_maximum_of moved_of le of_bits to_signed mul of_int div
whole_case_lem = refl

-- Its last byte cut off: `bad 20`.
pub cut_case : printed (take 123 whole_case) ≡ 98 ∷ 97 ∷ 100 ∷ 32 ∷ 50 ∷ 48 ∷ 10 ∷ []
unfolding section_of sections_of session_of fresh_of lines_of digits_of decimal bad_text printed
cut_case = refl
