-- Writing a read packet: its bytes are those of the datagram, and the writer accepts it, when its chain is empty or is one SACK.
use Rattle.std.specs.Prelude.{ℕ, zero, suc, ◌+◌, ◌*◌, ◌-◌, ◌%◌, ◌≤◌, ◌<◌, Bool, true, false, cond, List, [], ◌∷◌, ◌++◌, ◌≡◌, refl, ltb, eqb, length, take, drop, get_or}
use Rattle.std.proofs.Common.{arith, ◌∙◌, ap, ap₂, sym, subst, take-append-drop, length-drop, drop-cons, drop-drop, take_all, length-take-le, le-leb, le-ltb, eqb-true, eq-eqb, ne_eqb, ltb-false}
use Rattle.common.specs.Answer.{Answer, done, refused, ◌then◌}
use Rattle.packet.specs.Kind.{type_number, type_of}
use Rattle.packet.specs.Laws.Kind.{number_back}
use Rattle.packet.specs.Layout.{bytes_of, fields_of, widths, fields_of_header, header_of, type_field, version_field, extension_field, empty_data}
use Rattle.packet.specs.Chain.{Next, ends, onward, Chain, past, whole, before, step_of, extension_at, go_on, chain_from, none, inside}
use Rattle.packet.specs.Decode.{behind_header, chain_of, decode_of, part_of, packet_of, sack_answer, payload_answer}
use Rattle.packet.specs.Encode.{extension_byte, extension_bytes, packet_bytes}
use Rattle.packet.specs.RoundTrips.{AtMostOneSack, empty, one-sack}
use Rattle.packet.specs.Sack.{mask_answer}
use Rattle.packet.specs.Laws.Chain.{chain_step, step_ends, step_found}
use Rattle.packet.specs.Laws.Decode.{decode_good}
use Rattle.common.specs.Bytes.{AllBytes}
use Rattle.packet.specs.Laws.Fields.{bytes_of_fields}
use Rattle.packet.specs.declared.decode.Packet.{Packet}
use Rattle.packet.specs.declared.extension.Cursor.{Cursor}
use Rattle.packet.specs.declared.extension.Extension.{Extension}
use Rattle.packet.specs.declared.extension.Part.{Part}
use Rattle.packet.specs.declared.header.Header.{Header}

-- ---- what an accepted datagram's header tells

record GoodHeader (d : List ℕ) : Type 0 where
  long : 20 ≤ length d
  type : type_field d ≤ 4
  version : version_field d ≡ 1

good_header : (d : List ℕ) (p : Packet) → decode_of d ≡ done p → GoodHeader d
unfolding decode_of
good_header d p e = go (ltb (length d) 20) (ltb 4 (type_field d)) (eqb (version_field d) 1) refl refl refl e
  where
    go :
        (b₁ b₂ b₃ : Bool) → ltb (length d) 20 ≡ b₁ → ltb 4 (type_field d) ≡ b₂ → eqb (version_field d) 1 ≡ b₃
        → (cond b₁ (refused 1) (cond b₂ (refused 2) (cond b₃ (done (header_of d)) (refused 3))) then behind_header (header_of d) (length d) (chain_of d)) ≡ done p
        → GoodHeader d
    go true b₂ b₃ t u v f = let z : ◌≡◌ {A = ℕ} 0 1 = cc in absurd (omega arith)
    go false true b₃ t u v f = let z : ◌≡◌ {A = ℕ} 0 1 = cc in absurd (omega arith)
    go false false false t u v f = let z : ◌≡◌ {A = ℕ} 0 1 = cc in absurd (omega arith)
    go false false true t u v f = record { long = ltb-false _ _ t; type = ltb-false _ _ u; version = eqb-true _ _ v }

-- The fields of the header that was read are the fields of the datagram.
fields_back : (d : List ℕ) → GoodHeader d → fields_of_header (header_of d) (extension_field d) ≡ fields_of widths d
unfolding fields_of
fields_back d g = ap (λ (n : ℕ). n ∷ drop 1 (fields_of widths d)) first
  where
    first : 16 * type_number (type_of (type_field d)) + 1 ≡ get_or (fields_of widths d) 0 0
    first = rw (number_back (type_field d) g.type) (omega (arith, g.version))

header_bytes_back : (d : List ℕ) (e : ℕ) → AllBytes d → GoodHeader d → extension_field d ≡ e → bytes_of widths (fields_of_header (header_of d) e) ≡ take 20 d
header_bytes_back d e all g f =
    ap (λ (k : ℕ). bytes_of widths (fields_of_header (header_of d) k)) (sym f) ∙ (ap (bytes_of widths) (fields_back d g) ∙ bytes_of_fields widths d all g.long)

-- ---- what a chain tells of its first step

chain_empty : (d : List ℕ) (c : Cursor) (at : ℕ) → chain_from d c ≡ whole [] at → (c.number ≡ 0) × (c.at ≡ at)
chain_empty d c at e = go (step_of d c) refl (sym (chain_step d c) ∙ e)
  where
    never : {A : Type 0} (x : Extension) (k : Chain) → before x k ≡ whole [] at → A
    never x past g = let z : ◌≡◌ {A = ℕ} 0 1 = cc in absurd (omega arith)
    never x (whole es place) g = let z : ◌≡◌ {A = ℕ} 0 1 = cc in absurd (omega arith)

    go : (s : Answer Next) → step_of d c ≡ s → go_on c.at s (chain_from d) ≡ whole [] at → (c.number ≡ 0) × (c.at ≡ at)
    go (done ends) t f = (step_ends d c t, cc)
    go (refused n) t f = let z : ◌≡◌ {A = ℕ} 0 1 = cc in absurd (omega arith)
    go (done (onward x next)) t f = never x (chain_from d next) f

-- One extension: it stands at the cursor, and behind it the chain ends.
record One (d : List ℕ) (c : Cursor) (x : Extension) (at : ℕ) : Type 0 where
  is : x ≡ extension_at d c
  last : get_or d c.at 0 ≡ 0
  end : c.at + 2 + get_or d (c.at + 1) 0 ≡ at
  within : c.at + 2 + get_or d (c.at + 1) 0 ≤ length d

chain_one : (d : List ℕ) (c : Cursor) (x : Extension) (at : ℕ) → chain_from d c ≡ whole (x ∷ []) at → One d c x at
chain_one d c x at e = go (step_of d c) refl (sym (chain_step d c) ∙ e)
  where
    tail : (y : Extension) (k : Chain) → before y k ≡ whole (x ∷ []) at → (y ≡ x) × (k ≡ whole [] at)
    tail y past g = let z : ◌≡◌ {A = ℕ} 0 1 = cc in absurd (omega arith)
    tail y (whole es place) g = (cc, cc)

    go : (s : Answer Next) → step_of d c ≡ s → go_on c.at s (chain_from d) ≡ whole (x ∷ []) at → One d c x at
    go (done ends) t f = let z : ◌≡◌ {A = ℕ} 0 1 = cc in absurd (omega arith)
    go (refused n) t f = let z : ◌≡◌ {A = ℕ} 0 1 = cc in absurd (omega arith)
    go (done (onward y next)) t f =
        let told = step_found d c y next t in
        let split = tail y (chain_from d next) f in
        let end = chain_empty d next at split.1 in
        record {
          is = sym split.0 ∙ told.0;
          last = ap (λ (k : Cursor). k.number) (sym told.1) ∙ end.0;
          end = ap (λ (k : Cursor). k.at) (sym told.1) ∙ end.1;
          within = told.2;
        }

-- ---- parts

part_inside : (d : List ℕ) (at len : ℕ) → at + len ≤ length d → part_of (record { at = at; len = len }) d ≡ take len (drop at d)
part_inside d at len h =
    let front : at ≤ length d = omega arith in
    let room : len ≤ length d - at = omega arith in
    simp (le-leb _ _ front, le-leb _ _ room)

part_tail : (d : List ℕ) (at : ℕ) → at ≤ length d → part_of (record { at = at; len = length d - at }) d ≡ drop at d
part_tail d at h = part_inside d at (length d - at) (omega arith) ∙ take_all (length d - at) (drop at d) (simp length-drop (omega arith))

-- ---- the packet that was read

packet_is :
    (h : Header) (sack : Part) (size at : ℕ) (p : Packet)
    → packet_of h (done sack) (payload_answer h size at) ≡ done p
    → (p ≡ record { header = h; sack = sack; payload = record { at = at; len = size - at } }) × (empty_data h (size - at) ≡ false)
packet_is h sack size at p = go (empty_data h (size - at))
  where
    go :
        (b : Bool) → packet_of h (done sack) (cond b (refused 7) (done (record { at = at; len = size - at }))) ≡ done p
        → (p ≡ record { header = h; sack = sack; payload = record { at = at; len = size - at } }) × (b ≡ false)
    go true e = let z : ◌≡◌ {A = ℕ} 0 1 = cc in absurd (omega arith)
    go false e = (cc, refl)

sack_is :
    (h : Header) (body : Part) (payload : Answer Part) (p : Packet) → packet_of h (sack_answer (inside body)) payload ≡ done p
    → (4 ≤ body.len) × (body.len % 4 ≡ 0) × (packet_of h (done body) payload ≡ done p)
sack_is h body payload p = go (ltb body.len 4) (eqb (body.len % 4) 0) refl refl
  where
    go :
        (b₁ b₂ : Bool) → ltb body.len 4 ≡ b₁ → eqb (body.len % 4) 0 ≡ b₂ → packet_of h (cond b₁ (refused 5) (cond b₂ (done body) (refused 6))) payload ≡ done p
        → (4 ≤ body.len) × (body.len % 4 ≡ 0) × (packet_of h (done body) payload ≡ done p)
    go true b₂ t u e = let z : ◌≡◌ {A = ℕ} 0 1 = cc in absurd (omega arith)
    go false true t u e = (ltb-false _ _ t, eqb-true _ _ u, e)
    go false false t u e = let z : ◌≡◌ {A = ℕ} 0 1 = cc in absurd (omega arith)

-- ---- the bytes

-- What is written of a packet read from `d`.
abbrev pub rewritten : List ℕ → Packet → List ℕ
rewritten d p = packet_bytes p.header (part_of p.sack d) (part_of p.payload d)

sack-bytes : (s : List ℕ) → 1 ≤ length s → (extension_byte s ≡ 1) × (extension_bytes s ≡ 0 ∷ length s ∷ s)
sack-bytes [] h = absurd (omega arith)
sack-bytes (b ∷ bs) h = (refl, refl)

-- A header, an extension's head, its body and the rest, put together again.
rejoined : (d : List ℕ) (n at : ℕ) → get_or d 20 0 ≡ 0 → get_or d 21 0 ≡ n → 22 + n ≡ at → at ≤ length d → take 20 d ++ ((0 ∷ n ∷ take n (drop 22 d)) ++ drop at d) ≡ d
rejoined d n at next len end within =
    let tail : take n (drop 22 d) ++ drop at d ≡ drop 22 d =
    ap (λ (l : List ℕ). take n (drop 22 d) ++ l) (ap (λ (k : ℕ). drop k d) (sym end) ∙ sym (drop-drop n 22 d)) ∙ take-append-drop n (drop 22 d) in
    let second : drop 21 d ≡ n ∷ drop 22 d = drop-cons d 21 0 (omega arith) ∙ ap (λ (k : ℕ). k ∷ drop 22 d) len in
    let first : drop 20 d ≡ 0 ∷ drop 21 d = drop-cons d 20 0 (omega arith) ∙ ap (λ (k : ℕ). k ∷ drop 21 d) next in
    let whole-tail : 0 ∷ n ∷ (take n (drop 22 d) ++ drop at d) ≡ drop 20 d = ap (λ (l : List ℕ). 0 ∷ n ∷ l) tail ∙ sym (first ∙ ap (◌∷◌ 0) second) in
    ap (λ (l : List ℕ). take 20 d ++ l) whole-tail ∙ take-append-drop 20 d

-- A mask of 4 to 255 bytes, a multiple of 4, may be written: it has at most 252.
mask_may : (n : ℕ) → 4 ≤ n → n % 4 ≡ 0 → n < 256 → mask_answer n ≡ done n
mask_may n least words most =
    let some : n ≡ 0 → ⊥ = λ e. omega arith in
    let short : n ≤ 252 = omega arith in
    simp (ne_eqb n 0 some, le-ltb _ _ least, eq-eqb _ _ words, le-ltb _ _ short)

byte_at : (d : List ℕ) (i : ℕ) → AllBytes d → get_or d i 0 < 256
byte_at [] i all = omega arith
byte_at (b ∷ bs) zero all = all.0
byte_at (b ∷ bs) (suc i) all = byte_at bs i all.1

-- What is to be shown of a packet read from `d`: its bytes are the datagram's, its SACK may be written, and so may its payload.
pub record Again (d : List ℕ) (p : Packet) : Type 0 where
  pub bytes : rewritten d p ≡ d
  pub mask : mask_answer (length (part_of p.sack d)) ≡ done (length (part_of p.sack d))
  pub payload : empty_data p.header (length (part_of p.payload d)) ≡ false

module _ (d : List ℕ) (p : Packet) (all : AllBytes d) (accepted : decode_of d ≡ done p) where
  g : GoodHeader d
  g = good_header d p accepted

  behind : behind_header (header_of d) (length d) (chain_of d) ≡ done p
  behind = sym (decode_good d g.long g.type g.version) ∙ accepted

  again-plain : chain_of d ≡ whole [] 20 → Again d p
  again-plain k =
      let is = packet_is (header_of d) none (length d) 20 p (ap (behind_header (header_of d) (length d)) (sym k) ∙ behind) in
      let zero-first = (chain_empty d (record { number = extension_field d; at = 20 }) 20 k).0 in
      let no-sack : part_of none d ≡ [] = part_inside d 0 0 (omega arith) in
      let tail = part_tail d 20 g.long in
      subst (Again d) (sym is.0)
      (record {
        bytes = simp (no-sack, tail, header_bytes_back d 0 all g zero-first) (take-append-drop 20 d);
        mask = ap (λ (l : List ℕ). mask_answer (length l)) no-sack ∙ ap (λ (l : List ℕ). done (length l)) (sym no-sack);
        payload = ap (λ (l : List ℕ). empty_data (header_of d) (length l)) tail ∙ (ap (empty_data (header_of d)) (length-drop 20 d) ∙ is.1);
      })

  again-sack : (body : Part) (at : ℕ) → chain_of d ≡ whole (record { number = 1; body = body } ∷ []) at → Again d p
  again-sack body at k =
      let n = get_or d 21 0 in
      let h = header_of d in
      let sack = take n (drop 22 d) in
      let one = chain_one d (record { number = extension_field d; at = 20 }) (record { number = 1; body = body }) at k in
      let number : extension_field d ≡ 1 = ap (λ (x : Extension). x.number) (sym one.is) in
      let place : body ≡ record { at = 22; len = n } = ap (λ (x : Extension). x.body) one.is in
      let told = sack_is h body (payload_answer h (length d) at) p (ap (behind_header h (length d)) (sym k) ∙ behind) in
      let is = packet_is h body (length d) at p told.2 in
      let end : 22 + n ≡ at = one.end in
      let within : at ≤ length d = omega (arith, one.within) in
      let len_is : body.len ≡ n = ap (λ (b : Part). b.len) place in
      let some : 4 ≤ n = rw len_is at told.0 in
      let words : n % 4 ≡ 0 = rw len_is at told.1 in
      let size : length sack ≡ n = length-take-le n (drop 22 d) (simp length-drop (omega arith)) in
      let body_bytes : part_of body d ≡ sack = ap (λ (b : Part). part_of b d) place ∙ part_inside d 22 n (omega arith) in
      let written = sack-bytes sack (omega arith) in
      let head : extension_bytes sack ≡ 0 ∷ n ∷ sack = written.1 ∙ ap (λ (m : ℕ). 0 ∷ m ∷ sack) size in
      let tail = part_tail d at within in
      let body-size : length (part_of body d) ≡ n = ap length body_bytes ∙ size in
      subst (Again d) (sym is.0)
      (record {
        bytes =
            ap₂ (packet_bytes h) body_bytes tail
            ∙ (ap₂ (λ (a b : List ℕ). a ++ (b ++ drop at d)) (ap (λ (e : ℕ). bytes_of widths (fields_of_header h e)) written.0 ∙ header_bytes_back d 1 all g number) head
            ∙ rejoined d n at one.last refl end within);
        mask = ap mask_answer body-size ∙ (mask_may n some words (byte_at d 21 all) ∙ ap done (sym body-size));
        payload = ap (λ (l : List ℕ). empty_data h (length l)) tail ∙ (ap (empty_data h) (length-drop at d) ∙ is.1);
      })

-- All three, for both kinds of chain.
pub again : (d : List ℕ) (p : Packet) → AllBytes d → decode_of d ≡ done p → AtMostOneSack d → Again d p
again d p all accepted (empty k) = again-plain d p all accepted k
again d p all accepted (one-sack body at k) = again-sack d p all accepted body at k
