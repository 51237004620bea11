-- What the soundness test says, and that every move of the controller's numbers keeps it.
use Rattle.std.specs.Prelude.{◌≡◌, ℕ, ◌+◌, ◌-◌, ◌^◌, ◌≤◌, Bool, true, false, ◌&&◌, pos, ◌+ℤ◌, ◌<ℤ◌, nat_le, unsigned_abs, refl}
use Rattle.std.proofs.Common.{◌∙◌, arith, leb-true, le-leb}
use Rattle.std.proofs.Math.Path.{subst⁻¹}
use Rattle.std.proofs.Math.IntN.{sub_ℕ}
use Rattle.congestion.specs.declared.settings.Settings.{Settings}
use Rattle.congestion.specs.declared.numbers.Numbers.{Numbers}
use Rattle.congestion.specs.Settings.{between, latest, gain_in_range_of, in_range_of, times_in_range_of}
use Rattle.congestion.specs.Trip.{variance_of, trip_of}
use Rattle.congestion.specs.Window.{adjustment_of, next_maximum_of}
use Rattle.congestion.specs.Numbers.{longest_timeout, minimum_of, moved_of, with_window, with_trip, start_of, rules_sound_of, running_sound_of, sound_of, accepted_of, sent_of, adjusted_of, landed_of, timed_of, credited_of, lost_of, timed_out_of}
use Rattle.congestion.specs.Laws.Trip.{moved_at_most, apart_at_most}
use Rattle.congestion.specs.Laws.Window.{maximum_at_least_minimum, maximum_grows_by_increase, maximum_falls_to_minimum}

-- ---- tests that hold together

pub both : (a b : Bool) → (a && b) ≡ true → (a ≡ true) × (b ≡ true)
both true b e = (refl, e)
both false b e = (e, cc)

pub and_of : (a b : Bool) → a ≡ true → b ≡ true → (a && b) ≡ true
and_of a b p q = simp (p, q)

pub between_of : (low high x : ℕ) → between low high x ≡ true → (low ≤ x) × (x ≤ high)
between_of low high x e = let p = both (nat_le low x) (nat_le x high) e in (leb-true low x p.0, leb-true x high p.1)

pub between_from : (low high x : ℕ) → low ≤ x → x ≤ high → between low high x ≡ true
between_from low high x p q = and_of (nat_le low x) (nat_le x high) (le-leb low x p) (le-leb x high q)

-- ---- the soundness test as facts

pub record Rules (n : Numbers) : Type 0 where
  pub target_from : 1000 ≤ n.target
  pub minimum_timeout_in : (1 ≤ n.minimum_timeout) × (n.minimum_timeout ≤ latest)
  pub delay_window_in : (1 ≤ n.delay_window) × (n.delay_window ≤ latest)
  pub largest_packet_in : (1 ≤ n.largest_packet) × (n.largest_packet ≤ 65535)
  pub increase_in : (1 ≤ n.increase) × (n.increase ≤ 2 ^ 20)
  pub gain_in : gain_in_range_of n.gain ≡ true

pub record Running (n : Numbers) : Type 0 where
  pub maximum_from : minimum_of n ≤ n.maximum
  pub trip_to : n.trip ≤ latest
  pub variance_to : n.variance ≤ latest
  pub timeout_in : (1 ≤ n.timeout) × (n.timeout ≤ longest_timeout)
  pub last_to : n.last ≤ latest

pub record Sound (n : Numbers) : Type 0 where
  pub rules : Rules n
  pub running : Running n

rules_of : (n : Numbers) → rules_sound_of n ≡ true → Rules n
rules_of n e =
    let g = both _ (gain_in_range_of n.gain) e in
    let i = both _ (between 1 (2 ^ 20) n.increase) g.0 in
    let l = both _ (between 1 65535 n.largest_packet) i.0 in
    let d = both _ (between 1 latest n.delay_window) l.0 in
    let m = both _ (between 1 latest n.minimum_timeout) d.0 in
    record {
      target_from = leb-true _ _ m.0;
      minimum_timeout_in = between_of _ _ _ m.1;
      delay_window_in = between_of _ _ _ d.1;
      largest_packet_in = between_of _ _ _ l.1;
      increase_in = between_of _ _ _ i.1;
      gain_in = g.1;
    }

running_of : (n : Numbers) → running_sound_of n ≡ true → Running n
running_of n e =
    let l = both _ (nat_le n.last latest) e in
    let t = both _ (between 1 longest_timeout n.timeout) l.0 in
    let v = both _ (nat_le n.variance latest) t.0 in
    let r = both _ (nat_le n.trip latest) v.0 in
    record {
      maximum_from = leb-true _ _ r.0;
      trip_to = leb-true _ _ r.1;
      variance_to = leb-true _ _ v.1;
      timeout_in = between_of _ _ _ t.1;
      last_to = leb-true _ _ l.1;
    }

pub sound_facts : (n : Numbers) → sound_of n ≡ true → Sound n
unfolding sound_of
sound_facts n e =
    let p = both (rules_sound_of n) (running_sound_of n) e in
    record { rules = rules_of n p.0; running = running_of n p.1 }

pub sound_from : (n : Numbers) → Sound n → sound_of n ≡ true
unfolding sound_of
sound_from n s =
    let r = s.rules in
    let w = s.running in
    and_of (rules_sound_of n) (running_sound_of n)
    (and_of _ _ (and_of _ _ (and_of _ _ (and_of _ _ (and_of _ _ (le-leb _ _ r.target_from)
    (between_from _ _ _ r.minimum_timeout_in.0 r.minimum_timeout_in.1))
    (between_from _ _ _ r.delay_window_in.0 r.delay_window_in.1))
    (between_from _ _ _ r.largest_packet_in.0 r.largest_packet_in.1))
    (between_from _ _ _ r.increase_in.0 r.increase_in.1))
    r.gain_in)
    (and_of _ _ (and_of _ _ (and_of _ _ (and_of _ _ (le-leb _ _ w.maximum_from) (le-leb _ _ w.trip_to)) (le-leb _ _ w.variance_to))
    (between_from _ _ _ w.timeout_in.0 w.timeout_in.1))
    (le-leb _ _ w.last_to))

-- ---- soundness is kept

moved_sound : (n : Numbers) (maximum in_flight trip variance timeout last : ℕ) → Sound n → Running (moved_of n maximum in_flight trip variance timeout last)
    → Sound (moved_of n maximum in_flight trip variance timeout last)
moved_sound n maximum in_flight trip variance timeout last s w =
    let r = s.rules in
    record {
      rules = record {
        target_from = r.target_from;
        minimum_timeout_in = r.minimum_timeout_in;
        delay_window_in = r.delay_window_in;
        largest_packet_in = r.largest_packet_in;
        increase_in = r.increase_in;
        gain_in = r.gain_in;
      };
      running = w;
    }

with_window_lem : (n : Numbers) (maximum in_flight : ℕ) → Sound n → minimum_of n ≤ maximum → Sound (with_window n maximum in_flight)
with_window_lem n maximum in_flight s h =
    let w = s.running in
    moved_sound n maximum in_flight _ _ _ _ s (record { maximum_from = h; trip_to = w.trip_to; variance_to = w.variance_to; timeout_in = w.timeout_in; last_to = w.last_to })

with_trip_lem : (n : Numbers) (trip variance timeout : ℕ) → Sound n → trip ≤ latest → variance ≤ latest → 1 ≤ timeout → timeout ≤ longest_timeout
    → Sound (with_trip n trip variance timeout)
with_trip_lem n trip variance timeout s t v o o' =
    let w = s.running in
    moved_sound n _ _ trip variance timeout _ s (record { maximum_from = w.maximum_from; trip_to = t; variance_to = v; timeout_in = (o, o'); last_to = w.last_to })

pub accepted_sound : (n : Numbers) (clock : ℕ) → Sound n → clock ≤ latest → Sound (accepted_of n clock)
accepted_sound n clock s h =
    let w = s.running in
    moved_sound n _ _ _ _ _ clock s (record { maximum_from = w.maximum_from; trip_to = w.trip_to; variance_to = w.variance_to; timeout_in = w.timeout_in; last_to = h })

pub sent_sound : (n : Numbers) (len : ℕ) → Sound n → Sound (sent_of n len)
sent_sound n len s = with_window_lem n _ _ s s.running.maximum_from

-- The maximum is never below the minimum.
pub adjusted_sound : (n : Numbers) (base delay len : ℕ) → Sound n → Sound (adjusted_of n base delay len)
unfolding adjusted_of
adjusted_sound n base delay len s =
    with_window_lem n _ _ s
    (maximum_at_least_minimum (minimum_of n) n.increase n.maximum _ s.running.maximum_from (omega (arith, s.rules.largest_packet_in.1)))

pub landed_sound : (n : Numbers) (len : ℕ) → Sound n → Sound (landed_of n len)
landed_sound n len s = with_window_lem n _ _ s s.running.maximum_from

pub timed_sound : (n : Numbers) (p : ℕ) → Sound n → p ≤ latest → Sound (timed_of n p)
unfolding timed_of
timed_sound n p s h =
    let r = s.running.trip_to in
    let v = s.running.variance_to in
    let r' : trip_of n.trip p ≤ latest = moved_at_most 8 n.trip p latest r h in
    let v' : variance_of n.trip n.variance p ≤ latest =
    moved_at_most 4 n.variance (unsigned_abs (sub_ℕ n.trip p)) latest v (apart_at_most n.trip p latest r h)
    in
    let t = s.rules.minimum_timeout_in in
    with_trip_lem n _ _ _ s r' v' (omega arith) (omega arith)

pub credited_sound : (n : Numbers) (base delay len : ℕ) (once : Bool) (p : ℕ) → Sound n → p ≤ latest → Sound (credited_of n base delay len once p)
unfolding credited_of
credited_sound n base delay len true p s h =
    timed_sound (landed_of (adjusted_of n base delay len) len) p (landed_sound (adjusted_of n base delay len) len (adjusted_sound n base delay len s)) h
credited_sound n base delay len false p s h = landed_sound (adjusted_of n base delay len) len (adjusted_sound n base delay len s)

pub lost_sound : (n : Numbers) → Sound n → Sound (lost_of n)
lost_sound n s = with_window_lem n _ _ s (omega arith)

pub timed_out_sound : (n : Numbers) → Sound n → Sound (timed_out_of n)
timed_out_sound n s =
    let t = s.running.timeout_in in
    with_trip_lem (with_window n (minimum_of n) n.in_flight) _ _ _ (with_window_lem n _ _ s (omega arith)) s.running.trip_to s.running.variance_to
    (omega arith) (omega arith)

-- In flight after an acknowledgement is in flight less the length.
pub credited_in_flight : (n : Numbers) (base delay len : ℕ) (once : Bool) (p : ℕ)
    → (credited_of n base delay len once p).in_flight ≡ n.in_flight - len
unfolding credited_of timed_of adjusted_of
credited_in_flight n base delay len true p = refl
credited_in_flight n base delay len false p = refl

-- The new maximum is the window rule's, whatever the round trip does.
pub credited_maximum : (n : Numbers) (base delay len : ℕ) (once : Bool) (p : ℕ)
    → (credited_of n base delay len once p).maximum
    ≡ next_maximum_of (minimum_of n) n.increase n.maximum (adjustment_of n.gain n.increase n.target delay base len n.in_flight)
unfolding credited_of timed_of adjusted_of
credited_maximum n base delay len true p = refl
credited_maximum n base delay len false p = refl

-- The fault that started this work, of a whole acknowledgement: where the delay is so far above the target that old maximum + adjustment falls below
-- the minimum, the new maximum is the minimum.
pub credited_falls_to_minimum : (n : Numbers) (base delay len : ℕ) (once : Bool) (p : ℕ) → Sound n
    → (pos n.maximum +ℤ adjustment_of n.gain n.increase n.target delay base len n.in_flight) <ℤ (pos (minimum_of n))
    → (credited_of n base delay len once p).maximum ≡ minimum_of n
credited_falls_to_minimum n base delay len once p s h =
    credited_maximum n base delay len once p
    ∙ maximum_falls_to_minimum (minimum_of n) n.increase n.maximum _ s.running.maximum_from (omega (arith, s.rules.largest_packet_in.1)) h

-- The maximum never grows by more than the increase.
pub credited_grows_by_increase : (n : Numbers) (base delay len : ℕ) (once : Bool) (p : ℕ)
    → (credited_of n base delay len once p).maximum ≤ n.maximum + n.increase
credited_grows_by_increase n base delay len once p =
    subst⁻¹ (λ (k : ℕ). k ≤ n.maximum + n.increase) (credited_maximum n base delay len once p) (maximum_grows_by_increase (minimum_of n) n.increase n.maximum _)

-- ---- the start

pub record InRange (s : Settings) : Type 0 where
  pub target_in : (1000 ≤ s.target_delay) × (s.target_delay ≤ 2 ^ 32 - 1)
  pub first_timeout_in : (1 ≤ s.first_timeout) × (s.first_timeout ≤ latest)
  pub minimum_timeout_in : (1 ≤ s.minimum_timeout) × (s.minimum_timeout ≤ latest)
  pub delay_window_in : (1 ≤ s.delay_window) × (s.delay_window ≤ latest)
  pub largest_packet_in : (1 ≤ s.largest_packet) × (s.largest_packet ≤ 65535)
  pub increase_in : (1 ≤ s.increase) × (s.increase ≤ 2 ^ 20)
  pub gain_in : gain_in_range_of s.gain ≡ true

pub settings_facts : (s : Settings) → in_range_of s ≡ true → InRange s
settings_facts s e =
    let g = both _ (gain_in_range_of s.gain) e in
    let i = both _ (between 1 (2 ^ 20) s.increase) g.0 in
    let l = both _ (between 1 65535 s.largest_packet) i.0 in
    let t = both _ (times_in_range_of s) l.0 in
    let d = both _ (between 1 latest s.delay_window) t.1 in
    let m = both _ (between 1 latest s.minimum_timeout) d.0 in
    record {
      target_in = between_of _ _ _ t.0;
      first_timeout_in = between_of _ _ _ m.0;
      minimum_timeout_in = between_of _ _ _ m.1;
      delay_window_in = between_of _ _ _ d.1;
      largest_packet_in = between_of _ _ _ l.1;
      increase_in = between_of _ _ _ i.1;
      gain_in = g.1;
    }

pub start_sound : (s : Settings) → InRange s → Sound (start_of s)
start_sound s h =
    record {
      rules = record {
        target_from = h.target_in.0;
        minimum_timeout_in = h.minimum_timeout_in;
        delay_window_in = h.delay_window_in;
        largest_packet_in = h.largest_packet_in;
        increase_in = h.increase_in;
        gain_in = h.gain_in;
      };
      running = record {
        maximum_from = omega arith;
        trip_to = omega arith;
        variance_to = omega arith;
        timeout_in = (h.first_timeout_in.0, omega (arith, h.first_timeout_in.1));
        last_to = omega arith;
      };
    }
