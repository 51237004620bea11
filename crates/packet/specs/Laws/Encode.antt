-- Laws of writing: the size of a packet, and its pieces one behind another.
use Rattle.std.specs.Prelude.{ℕ, ◌+◌, ◌/◌, ◌%◌, ◌≤◌, ◌<◌, Bool, true, false, cond, List, [], ◌∷◌, ◌++◌, ◌≡◌, refl, length, ltb, eqb}
use Rattle.std.proofs.Common.{arith, append_assoc, ◌∙◌, ap, length-append, lt-ltb, le-ltb, ltb-false, eqb-true}
use Rattle.std.proofs.Math.Dec.{eqb-suc-zero}
use Rattle.common.specs.Answer.{Answer, done, refused, ◌then◌}
use Rattle.common.specs.Laws.Put.{put, put_on}
use Rattle.packet.specs.Layout.{bytes, bytes_of, widths, fields_of_header}
use Rattle.packet.specs.Sack.{mask_answer}
use Rattle.packet.specs.Encode.{packet_bytes, size_of, data_answer, encode_of, room_answer}
use Rattle.packet.specs.Laws.Number.{bytes-two}
use Rattle.packet.specs.declared.header.Header.{Header}

pub header-length : (h : Header) (e : ℕ) → length (bytes_of widths (fields_of_header h e)) ≡ 20
unfolding bytes_of
header-length h e = refl

pub packet_length : (h : Header) (sack payload : List ℕ) → length (packet_bytes h sack payload) ≡ size_of (length sack) (length payload)
packet_length h [] payload = simp (length-append, header-length) (omega arith)
packet_length h (b ∷ bs) payload = simp (length-append, header-length, eqb-suc-zero) (omega arith)

-- Without a SACK: the header, and behind it the payload.
pub plain-put :
    (h : Header) (payload l r₁ r₂ : List ℕ)
    → 20 ≤ length l
    → r₁ ≡ put l 0 (bytes_of widths (fields_of_header h 0))
    → r₂ ≡ put r₁ 20 payload
    → r₂ ≡ put l 0 (packet_bytes h [] payload)
plain-put h payload l r₁ r₂ long e₁ e₂ = put_on l _ _ _ _ 20 e₁ e₂ (header-length h 0) long

-- The head of an extension of n bytes, as one number of two bytes.
pub head_bytes : (n : ℕ) → n < 256 → bytes 2 n ≡ 0 ∷ n ∷ []
head_bytes n h =
    let high : n / 256 ≡ 0 = omega arith in
    let low : n % 256 ≡ n = omega arith in
    bytes-two n (omega arith) ∙ simp (high, low)

pieces :
    (h : Header) (sack payload : List ℕ)
    → 1 ≤ length sack
    → length sack ≤ 252
    → ((bytes_of widths (fields_of_header h 1) ++ bytes 2 (length sack)) ++ sack) ++ payload ≡ packet_bytes h sack payload
pieces h [] payload some short = absurd (omega arith)
pieces h (b ∷ bs) payload some short = rw (head_bytes (length (b ∷ bs)) (omega arith)) (simp append_assoc)

-- With a SACK: the header, the extension's head, its body, and behind it the payload.
pub sacked_put :
    (h : Header) (sack payload l r₁ r₂ r₃ r₄ : List ℕ)
    → 22 + length sack + length payload ≤ length l
    → 1 ≤ length sack
    → length sack ≤ 252
    → r₁ ≡ put l 0 (bytes_of widths (fields_of_header h 1))
    → r₂ ≡ put r₁ 20 (bytes 2 (length sack))
    → r₃ ≡ put r₂ 22 sack
    → r₄ ≡ put r₃ (22 + length sack) payload
    → r₄ ≡ put l 0 (packet_bytes h sack payload)
sacked_put h sack payload l r₁ r₂ r₃ r₄ long some short e₁ e₂ e₃ e₄ =
    let two : length (bytes_of widths (fields_of_header h 1) ++ bytes 2 (length sack)) ≡ 22 = simp (length-append, header-length) in
    let three : length ((bytes_of widths (fields_of_header h 1) ++ bytes 2 (length sack)) ++ sack) ≡ 22 + length sack = simp (length-append, header-length) in
    let r₂-is = put_on l (bytes_of widths (fields_of_header h 1)) (bytes 2 (length sack)) r₁ r₂ 20 e₁ e₂ (header-length h 1) (omega arith) in
    let r₃-is = put_on l (bytes_of widths (fields_of_header h 1) ++ bytes 2 (length sack)) sack r₂ r₃ 22 r₂-is e₃ two (omega arith) in
    put_on l ((bytes_of widths (fields_of_header h 1) ++ bytes 2 (length sack)) ++ sack) payload r₃ r₄ (22 + length sack) r₃-is e₄ three (omega arith)
    ∙ ap (put l 0) (pieces h sack payload some short)

-- Two checks and what follows them: a refusal of the two is that of the whole, and where there is none the rest decides.
two_refused : (a b c : Answer ℕ) (n : ℕ) → (a then b) ≡ refused n → (a then b then c) ≡ refused n
two_refused (done x) (done y) c n e = let z : ◌≡◌ {A = ℕ} 0 1 = cc in absurd (omega arith)
two_refused (done x) (refused m) c n e = e
two_refused (refused m) b c n e = e

two_done : (a b c : Answer ℕ) (n : ℕ) → (a then b) ≡ done n → (a then b then c) ≡ c
two_done (done x) (done y) c n e = refl
two_done (done x) (refused m) c n e = let z : ◌≡◌ {A = ℕ} 0 1 = cc in absurd (omega arith)
two_done (refused m) b c n e = let z : ◌≡◌ {A = ℕ} 0 1 = cc in absurd (omega arith)

-- The answers of writing, in the order of the checks: of the parts, then of the room.
module _ (h : Header) (sack payload : List ℕ) (room : ℕ) where
  pub encode_unfit : (n : ℕ) → (mask_answer (length sack) then data_answer h (length payload)) ≡ refused n → encode_of h sack payload room ≡ refused n
  unfolding encode_of
  encode_unfit n e = two_refused (mask_answer (length sack)) (data_answer h (length payload)) _ n e

  module _ (n : ℕ) (fit : (mask_answer (length sack) then data_answer h (length payload)) ≡ done n) where
    rest : encode_of h sack payload room ≡ room_answer (length (packet_bytes h sack payload)) room
    unfolding encode_of
    rest = two_done (mask_answer (length sack)) (data_answer h (length payload)) _ n fit

    pub encode_no_room : room < size_of (length sack) (length payload) → encode_of h sack payload room ≡ refused 9
    encode_no_room e = rest ∙ rw (packet_length h sack payload, lt-ltb _ _ e)

    pub encode_written : size_of (length sack) (length payload) ≤ room → encode_of h sack payload room ≡ done (size_of (length sack) (length payload))
    encode_written e = rest ∙ rw (packet_length h sack payload, le-ltb _ _ e)

-- A mask that may be written has at most 252 bytes.
pub mask_short : (n : ℕ) (b : Answer ℕ) (k : ℕ) → (mask_answer n then b) ≡ done k → n ≤ 252
mask_short n b k = go (eqb n 0) (ltb n 4) (eqb (n % 4) 0) (ltb 252 n) refl refl
  where
    go :
        (b₁ b₂ b₃ b₄ : Bool) → eqb n 0 ≡ b₁ → ltb 252 n ≡ b₄
        → (cond b₁ (done 0) (cond b₂ (refused 5) (cond b₃ (cond b₄ (refused 8) (done n)) (refused 6))) then b) ≡ done k
        → n ≤ 252
    go true b₂ b₃ b₄ t u e = omega (arith, eqb-true n 0 t)
    go false true b₃ b₄ t u e = let z : ◌≡◌ {A = ℕ} 0 1 = cc in absurd (omega arith)
    go false false false b₄ t u e = let z : ◌≡◌ {A = ℕ} 0 1 = cc in absurd (omega arith)
    go false false true true t u e = let z : ◌≡◌ {A = ℕ} 0 1 = cc in absurd (omega arith)
    go false false true false t u e = omega (arith, ltb-false 252 n u)
