-- The soundness test, by the cases in which it is worked out.
use Rattle.std.specs.Prelude.{◌+◌, ◌-◌, ◌≤◌, ◌<◌, Bool, true, false, not, ◌&&◌, ◌≡◌, refl, leb, length, get_or}
use Rattle.std.proofs.Common.{◌∙◌, add-zero, get_or-take}
use borrow.Author.Tests.{le-leb, leb-true, not-true}
use Rattle.recv.specs.Table.{waits, bytes_in, last_waits, largest_length, limit, ahead}
use Rattle.recv.specs.State.{sound_of, table_of}
use Rattle.recv.specs.Laws.Table.{last_waits-take, waits_zero, waits_more}
use Rattle.recv.specs.declared.ReceiveBuffer.{ReceiveBuffer}

-- where the counts pass, the table and the bytes decide
module _ (s : ReceiveBuffer) (least : 1 ≤ s.length) (most : s.length ≤ largest_length) (places : s.span ≤ ahead) (reach : s.count + s.span ≤ limit) where
  by_table : sound_of s ≡ not (waits (get_or (table_of s) 0 0)) && last_waits true (table_of s) && leb (s.ready + bytes_in (table_of s)) s.length
  unfolding sound_of
  by_table = simp (le-leb 1 s.length least, le-leb s.length largest_length most, le-leb s.span ahead places, le-leb (s.count + s.span) limit reach)

  pub sound_none : s.span ≡ 0 → sound_of s ≡ leb s.ready s.length
  sound_none e = by_table ∙ rw e (rw add-zero)

  pub sound_first : 0 < s.span → (get_or s.waiting 0 0 ≡ 0 → ⊥) → sound_of s ≡ false
  sound_first some h = by_table ∙ simp (get_or-take s.span s.waiting 0 0 some, waits_more (get_or s.waiting 0 0) h)

  module _ (some : 0 < s.span) (fits : s.span ≤ length s.waiting) (first : get_or s.waiting 0 0 ≡ 0) where
    by_last : sound_of s ≡ waits (get_or s.waiting (s.span - 1) 0) && leb (s.ready + bytes_in (table_of s)) s.length
    by_last =
        by_table
        ∙ simp (get_or-take s.span s.waiting 0 0 some, waits_zero (get_or s.waiting 0 0) first, last_waits-take true s.waiting s.span some fits)

    pub sound_last : get_or s.waiting (s.span - 1) 0 ≡ 0 → sound_of s ≡ false
    sound_last h = by_last ∙ simp (waits_zero (get_or s.waiting (s.span - 1) 0) h)

    pub sound_bytes : (get_or s.waiting (s.span - 1) 0 ≡ 0 → ⊥) → sound_of s ≡ leb (s.ready + bytes_in (table_of s)) s.length
    sound_bytes h = by_last ∙ simp (waits_more (get_or s.waiting (s.span - 1) 0) h)

-- ---- what a sound state is known by

pub record Sound (s : ReceiveBuffer) : Type 0 where
  pub least : 1 ≤ s.length
  pub most : s.length ≤ 65536
  pub places : s.span ≤ 256
  pub reach : s.count + s.span ≤ 60000
  pub first : waits (get_or (table_of s) 0 0) ≡ false
  pub last : last_waits true (table_of s) ≡ true
  pub bytes : s.ready + bytes_in (table_of s) ≤ s.length

both : (a b : Bool) → a && b ≡ true → (a ≡ true) × (b ≡ true)
both true b h = (refl, h)
both false b h = (h, cc)

pub sound_facts : (s : ReceiveBuffer) → sound_of s ≡ true → Sound s
unfolding sound_of
sound_facts s h =
    let h6 = both _ _ h in
    let h5 = both _ _ h6.0 in
    let h4 = both _ _ h5.0 in
    let h3 = both _ _ h4.0 in
    let h2 = both _ _ h3.0 in
    let h1 = both _ _ h2.0 in
    record {
      least = leb-true _ _ h1.0;
      most = leb-true _ _ h1.1;
      places = leb-true _ _ h2.1;
      reach = leb-true _ _ h3.1;
      first = not-true _ h4.1;
      last = h5.1;
      bytes = leb-true _ _ h6.1;
    }

pub sound_test : (s : ReceiveBuffer) → Sound s → sound_of s ≡ true
unfolding sound_of
sound_test s f =
    simp (
      le-leb _ _ f.least,
      le-leb _ _ f.most,
      le-leb _ _ f.places,
      le-leb _ _ f.reach,
      f.first,
      f.last,
      le-leb _ _ f.bytes,
    )
