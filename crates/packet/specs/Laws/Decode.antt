-- Laws of decoding: what follows from what is kept of the chain.
use Rattle.std.specs.Prelude.{ℕ, ◌+◌, ◌-◌, ◌/◌, ◌%◌, ◌≤◌, ◌<◌, Bool, true, false, cond, ltb, eqb, length, get_or, List, ◌++◌, ◌≡◌}
use borrow.Author.Tests.{lt-ltb, le-ltb, le-leb, eq-eqb, ne_eqb}
use Rattle.packet.specs.Kind.{type_of}
use Rattle.packet.specs.Layout.{header_of, header_with, type_field, version_field}
use Rattle.std.proofs.Common.{length-append, take_at, drop_at, arith, ◌∙◌, ap, sym}
use Rattle.common.specs.Answer.{Answer, done, refused, ◌then◌}
use Rattle.packet.specs.Chain.{Chain, past, whole, Sacked, read_of, chain_from}
use Rattle.packet.specs.Decode.{header_answer, sack_answer, payload_answer, packet_of, behind_header, chain_of, decode_of, part_of}
use Rattle.packet.specs.Laws.Layout.{extension_field_lem, first_field}
use Rattle.packet.specs.declared.decode.Packet.{Packet}
use Rattle.packet.specs.declared.header.Header.{Header}

-- The chain begins with the byte that names the first extension.
pub chain_of_lem : (d : List ℕ) → 20 ≤ length d → read_of (chain_of d) ≡ read_of (chain_from d (record { number = get_or d 1 0; at = 20 }))
chain_of_lem d h = ap (λ (n : ℕ). read_of (chain_from d (record { number = n; at = 20 }))) (extension_field_lem d h)

module _ (h : Header) (size : ℕ) where
  abbrev pub behind_read : Answer (Sacked × ℕ) → Answer Packet
  behind_read (refused n) = refused n
  behind_read (done (sack, at)) = packet_of h (sack_answer sack) (payload_answer h size at)

  pub behind_read_lem : (k : Chain) (r : Answer (Sacked × ℕ)) → read_of k ≡ r → behind_header h size k ≡ behind_read r
  behind_read_lem past r e = ap behind_read e
  behind_read_lem (whole es at) r e = ap behind_read e

-- The header's checks, each by the bytes that it looks at: of the header alone, and of the whole datagram.
pub header_short : (d : List ℕ) → length d < 20 → header_answer d ≡ refused 1
header_short d h = simp (lt-ltb _ _ h)

module _ (d : List ℕ) (h : 20 ≤ length d) where
  pub header_unknown : ltb 4 (get_or d 0 0 / 16) ≡ true → header_answer d ≡ refused 2
  header_unknown t = simp (le-ltb _ _ h, first_field d h, t)

  module _ (t : ltb 4 (get_or d 0 0 / 16) ≡ false) where
    pub header_version : (get_or d 0 0 % 16 ≡ 1 → ⊥) → header_answer d ≡ refused 3
    header_version v = simp (le-ltb _ _ h, first_field d h, t, ne_eqb _ _ v)

    pub header_good : get_or d 0 0 % 16 ≡ 1 → header_answer d ≡ done (header_with (type_of (get_or d 0 0 / 16)) d)
    header_good v = simp (le-ltb _ _ h, first_field d h, t, eq-eqb _ _ v)

-- A header that was accepted is that of the datagram, and what stands behind it decides.
pub header_refused : (d : List ℕ) (n : ℕ) → refused n ≡ header_answer d → decode_of d ≡ refused n
unfolding decode_of
header_refused d n e = ap (λ (a : Answer Header). a then behind_header (header_of d) (length d) (chain_of d)) (sym e)

pub header_accepted : (d : List ℕ) (h : Header) → done h ≡ header_answer d → (h ≡ header_of d) × (decode_of d ≡ behind_header (header_of d) (length d) (chain_of d))
unfolding decode_of
header_accepted d h e =
    (go (ltb (length d) 20) (ltb 4 (type_field d)) (eqb (version_field d) 1) e, ap (λ (a : Answer Header). a then behind_header (header_of d) (length d) (chain_of d)) (sym e))
  where
    go : (b₁ b₂ b₃ : Bool) → done h ≡ cond b₁ (refused 1) (cond b₂ (refused 2) (cond b₃ (done (header_of d)) (refused 3))) → h ≡ header_of d
    go true b₂ b₃ f = let z : ◌≡◌ {A = ℕ} 0 1 = cc in absurd (omega arith)
    go false true b₃ f = let z : ◌≡◌ {A = ℕ} 0 1 = cc in absurd (omega arith)
    go false false false f = let z : ◌≡◌ {A = ℕ} 0 1 = cc in absurd (omega arith)
    go false false true f = cc

pub decode_short : (d : List ℕ) → length d < 20 → decode_of d ≡ refused 1
unfolding decode_of
decode_short d h = simp (lt-ltb _ _ h)

module _ (d : List ℕ) (h : 20 ≤ length d) where
  pub decode_type : ltb 4 (get_or d 0 0 / 16) ≡ true → decode_of d ≡ refused 2
  unfolding decode_of
  decode_type t = simp (le-ltb _ _ h, first_field d h, t)

  module _ (t : ltb 4 (get_or d 0 0 / 16) ≡ false) where
    pub decode_version : (get_or d 0 0 % 16 ≡ 1 → ⊥) → decode_of d ≡ refused 3
    unfolding decode_of
    decode_version v = simp (le-ltb _ _ h, first_field d h, t, ne_eqb _ _ v)

    pub decode_behind : get_or d 0 0 % 16 ≡ 1 → decode_of d ≡ behind_header (header_with (type_of (get_or d 0 0 / 16)) d) (length d) (chain_of d)
    unfolding decode_of
    decode_behind v = simp (le-ltb _ _ h, first_field d h, t, eq-eqb _ _ v)

-- With a header that was accepted, what is kept of the chain decides.
pub decode_read :
    (d : List ℕ) (h : Header) (r : Answer (Sacked × ℕ)) → done h ≡ header_answer d → 20 ≤ length d → r ≡ read_of (chain_from d (record { number = get_or d 1 0; at = 20 }))
    → decode_of d ≡ behind_read h (length d) r
decode_read d h r e long f =
    let accepted = header_accepted d h e in
    accepted.1
    ∙ (behind_read_lem (header_of d) (length d) (chain_of d) r (chain_of_lem d long ∙ sym f) ∙ ap (λ (k : Header). behind_read k (length d) r) (sym accepted.0))

-- With a good header what stands behind it decides.
pub decode_good : (d : List ℕ) → 20 ≤ length d → type_field d ≤ 4 → version_field d ≡ 1 → decode_of d ≡ behind_header (header_of d) (length d) (chain_of d)
unfolding decode_of
decode_good d long type version = simp (le-ltb _ _ long, le-ltb _ _ type, eq-eqb _ _ version)

-- A part in the middle, by its place and its length.
pub part_middle : (a b c : List ℕ) (at len : ℕ) → length a ≡ at → length b ≡ len → part_of (record { at = at; len = len }) (a ++ (b ++ c)) ≡ b
part_middle a b c at len e f =
    let size : length (a ++ (b ++ c)) ≡ length a + (length b + length c) = simp length-append in
    let front : at ≤ length (a ++ (b ++ c)) = omega arith in
    let room : len ≤ length (a ++ (b ++ c)) - at = omega arith in
    simp (le-leb _ _ front, le-leb _ _ room, drop_at a (b ++ c) at e, take_at b c len f)
