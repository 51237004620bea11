-- Laws of the layout: each field stands at the sum of the widths before it.
use Rattle.std.specs.Prelude.{ℕ, ◌+◌, ◌*◌, ◌/◌, ◌%◌, ◌≤◌, ◌<◌, List, [], ◌∷◌, ◌++◌, ◌≡◌, refl, length, take, drop, get_or}
use Rattle.std.proofs.Common.{arith, ◌∙◌, ap, drop-cons, drop-drop}
use Rattle.common.specs.Laws.Put.{put, put_on}
use Rattle.packet.specs.declared.header.Header.{Header}
use Rattle.packet.specs.Kind.{type_number}
use Rattle.packet.specs.Layout.{fields_of_header, big, bytes, fields_of, bytes_of, widths, extension_field}

next_field : (w at : ℕ) (ws rest l : List ℕ) → fields_of ws (drop (at + w) l) ≡ rest → fields_of (w ∷ ws) (drop at l) ≡ big (take w (drop at l)) ∷ rest
unfolding fields_of
next_field w at ws rest l e = ap (λ (t : List ℕ). big (take w (drop at l)) ∷ fields_of ws t) (drop-drop w at l) ∙ ap (◌∷◌ (big (take w (drop at l)))) e

pub header_fields :
    (l : List ℕ)
    → fields_of widths l
    ≡ big (take 1 l)
    ∷ big (take 1 (drop 1 l))
    ∷ big (take 2 (drop 2 l))
    ∷ big (take 4 (drop 4 l))
    ∷ big (take 4 (drop 8 l))
    ∷ big (take 4 (drop 12 l))
    ∷ big (take 2 (drop 16 l))
    ∷ big (take 2 (drop 18 l))
    ∷ []
unfolding fields_of
header_fields l =
    next_field 1 0 (drop 1 widths) _ l
    (next_field 1 1 (drop 2 widths) _ l
    (next_field 2 2 (drop 3 widths) _ l
    (next_field 4 4 (drop 4 widths) _ l
    (next_field 4 8 (drop 5 widths) _ l
    (next_field 4 12 (drop 6 widths) _ l (next_field 2 16 (drop 7 widths) _ l (next_field 2 18 [] [] l refl)))))))

-- A field of one byte is that byte.
pub big-one : (l : List ℕ) (at : ℕ) → at < length l → big (take 1 (drop at l)) ≡ get_or l at 0
big-one l at h = simp (drop-cons l at 0 h) (omega arith)

pub first_field : (l : List ℕ) → 20 ≤ length l → get_or (fields_of widths l) 0 0 ≡ get_or l 0 0
first_field l h = simp (header_fields) (big-one l 0 (omega arith))

pub extension_field_lem : (l : List ℕ) → 20 ≤ length l → extension_field l ≡ get_or l 1 0
extension_field_lem l h = simp (header_fields) (big-one l 1 (omega arith))

-- The header's bytes, written two or four at a time.
pub header-bytes :
    (v e conn ts diff window seq ack : ℕ)
    → e < 256
    → (((((bytes 2 ((16 * v + 1) * 256 + e) ++ bytes 2 conn) ++ bytes 4 ts) ++ bytes 4 diff) ++ bytes 4 window) ++ bytes 2 seq) ++ bytes 2 ack
    ≡ bytes_of widths ((16 * v + 1) ∷ e ∷ conn ∷ ts ∷ diff ∷ window ∷ seq ∷ ack ∷ [])
unfolding bytes_of
header-bytes v e conn ts diff window seq ack h =
    let high : ((16 * v + 1) * 256 + e) / 256 % 256 ≡ (16 * v + 1) / 1 % 256 = omega arith in
    let low : ((16 * v + 1) * 256 + e) / 1 % 256 ≡ e / 1 % 256 = omega arith in
    simp (high, low)

-- The seven writings one behind another write the header.
pub header-put :
    (h : Header) (e front : ℕ) (l r₁ r₂ r₃ r₄ r₅ r₆ r₇ : List ℕ)
    → e < 256
    → 20 ≤ length l
    → front ≡ (16 * type_number h.packet_type + 1) * 256 + e
    → r₁ ≡ put l 0 (bytes 2 front)
    → r₂ ≡ put r₁ 2 (bytes 2 h.conn_id)
    → r₃ ≡ put r₂ 4 (bytes 4 h.ts_micros)
    → r₄ ≡ put r₃ 8 (bytes 4 h.ts_diff_micros)
    → r₅ ≡ put r₄ 12 (bytes 4 h.window_size)
    → r₆ ≡ put r₅ 16 (bytes 2 h.seq_num.0)
    → r₇ ≡ put r₆ 18 (bytes 2 h.ack_num.0)
    → r₇ ≡ put l 0 (bytes_of widths (fields_of_header h e))
header-put h e front l r₁ r₂ r₃ r₄ r₅ r₆ r₇ small long f e₁ e₂ e₃ e₄ e₅ e₆ e₇ =
    let t = type_number h.packet_type in
    let p₁ : r₁ ≡ put l 0 (bytes 2 ((16 * t + 1) * 256 + e)) = e₁ ∙ ap (λ (n : ℕ). put l 0 (bytes 2 n)) f in
    put_on l _ _ _ _ 18
    (put_on l _ _ _ _ 16
    (put_on l _ _ _ _ 12
    (put_on l _ _ _ _ 8 (put_on l _ _ _ _ 4 (put_on l _ _ _ _ 2 p₁ e₂ refl (omega arith)) e₃ refl (omega arith)) e₄ refl (omega arith))
    e₅
    refl
    (omega arith))
    e₆
    refl
    (omega arith))
    e₇
    refl
    (omega arith)
    ∙ ap
    (put l 0)
    (header-bytes t e h.conn_id h.ts_micros h.ts_diff_micros h.window_size h.seq_num.0 h.ack_num.0 small)
