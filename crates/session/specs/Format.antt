-- The file of a recorded sender session (document 02, No. 3), as a list of bytes. Definitions only.
use Rattle.std.specs.Prelude.{ℕ, zero, suc, ◌+◌, ◌*◌, Bool, true, ◌&&◌, cond, List, [], ◌∷◌, leb, eqb, Float, length, take, drop, Option, Some, None}
use Rattle.std.specs.Float.{binary64}
use Rattle.std.specs.Float.Ieee.{of_bits}
use Rattle.common.specs.Answer.{Answer, done, refused}
use Rattle.packet.specs.Layout.{big}
use Rattle.congestion.specs.declared.settings.Settings.{Settings}
use Rattle.session.specs.declared.event.Event.{Event}
use Rattle.session.specs.declared.event.Kind.{Kind}
use Rattle.session.specs.declared.event.Kind.TheVariants.{Transmit, Ack, Timeout}

infixr 30 ◌into◌
-- What follows goes on from what was handed over; a refusal stays.
abbrev pub ◌into◌ : {A B : Type 0} → Answer A → (A → Answer B) → Answer B
done a into f = f a
refused n into f = refused n

-- ---- sections

-- All numbers are big-endian: the number in `width` bytes from a place on.
abbrev pub field_at : List ℕ → ℕ → ℕ → ℕ
field_at l at width = big (take width (drop at l))

-- What a section holds: its count, the bytes of its items, and what follows it.
pub record Section : Type 0 where
  pub count : ℕ
  pub items : List ℕ
  pub rest : List ℕ

-- Each section stands after its count, a 4-byte number. 20: it is cut short.
unfoldable pub section_of : ℕ → List ℕ → Answer Section
section_of size l =
    cond (leb (4 + size * field_at l 0 4) (length l))
    (done (record { count = field_at l 0 4; items = take (size * field_at l 0 4) (drop 4 l); rest = drop (4 + size * field_at l 0 4) l }))
    (refused 20)

-- The file has three sections in this order.
pub record Sections : Type 0 where
  pub settings : Section
  pub events : Section
  pub sack : Section

-- The settings' count is 8, and each is an 8-byte number; an event has 24 bytes.
abbrev pub setting_count : ℕ
setting_count = 8

abbrev pub setting_size : ℕ
setting_size = 8

abbrev pub event_size : ℕ
event_size = 24

unfoldable pub sections_of : List ℕ → Answer Sections
sections_of file =
    section_of setting_size file
    into λ a. section_of event_size a.rest
    into λ b. section_of 1 b.rest
    into λ c. done (record { settings = a; events = b; sack = c })

-- ---- settings

abbrev pub setting_at : List ℕ → ℕ → ℕ
setting_at l i = field_at l (setting_size * i) setting_size

-- The gain's f64 bits. Each pattern of a NaN is the NaN, which the settings' range refuses.
unfoldable pub gain_of : ℕ → Float
gain_of bits = of_bits binary64 bits

-- Initial number, target, first timeout, minimum timeout, largest packet, increase, gain's f64 bits, delay window.
abbrev pub initial_in : List ℕ → ℕ
initial_in l = setting_at l 0

unfoldable pub settings_in : List ℕ → Settings
settings_in l =
    record {
      target_delay = setting_at l 1;
      first_timeout = setting_at l 2;
      minimum_timeout = setting_at l 3;
      largest_packet = setting_at l 4;
      increase = setting_at l 5;
      gain = gain_of (setting_at l 6);
      delay_window = setting_at l 7;
    }

-- ---- events

-- Kind, packet type, number (2), length or SACK byte count (4), now (8), delay (8).
unfoldable pub event_of : List ℕ → Event
event_of l =
    record {
      kind = field_at l 0 1;
      packet_type = field_at l 1 1;
      number = field_at l 2 2;
      size = field_at l 4 4;
      clock = field_at l 8 8;
      delay = field_at l 16 8;
    }

unfoldable pub events_of : ℕ → List ℕ → List Event
events_of zero l = []
events_of (suc n) l = event_of l ∷ events_of n (drop event_size l)

-- The kinds: 1 transmit, 2 ack, 3 timeout.
abbrev pub is_transmit : Event → Bool
is_transmit e = eqb e.kind 1

abbrev pub is_ack : Event → Bool
is_ack e = eqb e.kind 2

abbrev pub is_timeout : Event → Bool
is_timeout e = eqb e.kind 3

abbrev pub kind_of : ℕ → Option Kind
kind_of n = cond (eqb n 1) (Some Transmit) (cond (eqb n 2) (Some Ack) (cond (eqb n 3) (Some Timeout) None))

-- A kind that is known, and in a transmit a type that is known: 0 to 4.
abbrev pub is_known : Event → Bool
is_known e = cond (is_transmit e) (leb e.packet_type 4) (cond (is_ack e) true (is_timeout e))

unfoldable pub all_known : List Event → Bool
all_known [] = true
all_known (e ∷ es) = is_known e && all_known es

-- How many SACK bytes an event uses up: an ack its count, refused or not.
abbrev pub sack_size : Event → ℕ
sack_size e = cond (is_ack e) e.size 0

unfoldable pub sack_total : List Event → ℕ
sack_total [] = 0
sack_total (e ∷ es) = sack_size e + sack_total es

-- ---- the whole file

pub record Session : Type 0 where
  pub initial : ℕ
  pub settings : Settings
  pub events : List Event
  pub sack : List ℕ

unfoldable pub session_in : Sections → Session
session_in s =
    record {
      initial = initial_in s.settings.items;
      settings = settings_in s.settings.items;
      events = events_of s.events.count s.events.items;
      sack = s.sack.items;
    }

-- The settings' count is 8, the initial number at most 65,535, each event known, the SACK section's count the sum over the ack events, and nothing is left over.
unfoldable pub is_whole : Sections → Bool
is_whole s =
    eqb s.settings.count setting_count
    && leb (session_in s).initial 65535
    && all_known (session_in s).events
    && eqb s.sack.count (sack_total (session_in s).events)
    && eqb (length s.sack.rest) 0

-- 20: a section is cut short, or one of these fails.
unfoldable pub session_of : List ℕ → Answer Session
session_of file = sections_of file into λ s. cond (is_whole s) (done (session_in s)) (refused 20)
