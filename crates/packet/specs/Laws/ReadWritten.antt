-- Reading a written packet gives its parts back (document 01, "Packets on the wire").
use Rattle.std.specs.Prelude.{ℕ, ◌+◌, ◌*◌, ◌-◌, ◌/◌, ◌%◌, ◌≤◌, ◌<◌, Bool, true, false, cond, List, [], ◌∷◌, ◌++◌, ◌≡◌, refl, ltb, eqb, length, get_or}
use Rattle.std.proofs.Common.{arith, append_assoc, append-nil, ◌∙◌, ap, sym, length-append, get_or-append-add, le-leb, eqb-true}
use Rattle.std.proofs.Math.Dec.{eqb-suc-zero}
use Rattle.common.specs.Answer.{Answer, done, refused}
use Rattle.packet.specs.Kind.{type_number, type_of}
use Rattle.packet.specs.Layout.{bytes_of, fields_of, widths, fields_of_header, header_of, type_field, version_field, extension_field, empty_data}
use Rattle.packet.specs.Chain.{onward, step_of, chain_from, whole, none}
use Rattle.packet.specs.Sack.{mask_answer}
use Rattle.packet.specs.Decode.{behind_header, chain_of, decode_of, part_of}
use Rattle.packet.specs.Encode.{extension_byte, extension_bytes, packet_bytes, size_of, encode_of}
use Rattle.packet.specs.Laws.Chain.{chain_ends, chain_found}
use Rattle.packet.specs.Laws.Decode.{decode_good, part_middle}
use Rattle.packet.specs.Laws.Encode.{header-length, packet_length, encode_unfit}
use Rattle.packet.specs.Laws.Kind.{type_small, type_back}
use Rattle.packet.specs.Laws.Fields.{Fitted, fields_of-bytes}
use Rattle.packet.specs.RoundTrips.{HeaderFits}
use Rattle.packet.specs.declared.extension.Cursor.{Cursor}
use Rattle.packet.specs.declared.extension.Extension.{Extension}
use Rattle.packet.specs.declared.extension.Part.{Part}
use Rattle.packet.specs.declared.header.Header.{Header}
use Rattle.packet.specs.declared.kind.PacketType.{PacketType}

-- Where a written packet's parts stand: the SACK behind the header and its head of two bytes, the payload behind all.
abbrev pub place_of_sack : List ℕ → Part
place_of_sack [] = none
place_of_sack (b ∷ bs) = record { at = 22; len = length (b ∷ bs) }

abbrev pub place_of_payload : List ℕ → List ℕ → Part
place_of_payload sack payload = record { at = size_of (length sack) 0; len = length payload }

module _ (h : Header) (fits : HeaderFits h) where
  fitted : (e : ℕ) → e < 256 → Fitted widths (fields_of_header h e)
  fitted e small =
      let t = type_small h.packet_type in
      (omega arith, (small, (fits.conn_id, (fits.ts, (fits.ts_diff, (fits.window, (fits.seq, (fits.ack, tt))))))))

  module _ (e : ℕ) (small : e < 256) (rest : List ℕ) where
    abbrev written : List ℕ
    written = bytes_of widths (fields_of_header h e) ++ rest

    fields : fields_of widths written ≡ fields_of_header h e
    fields = fields_of-bytes widths (fields_of_header h e) rest (fitted e small)

    type_field_lem : type_field written ≡ type_number h.packet_type
    type_field_lem = rw fields (omega arith)

    version_field_lem : version_field written ≡ 1
    version_field_lem = rw fields (omega arith)

    extension_back : extension_field written ≡ e
    extension_back = rw fields

    header_back : header_of written ≡ h
    header_back = simp (fields) (ap (λ (t : PacketType). header_as t) (ap type_of type_field' ∙ type_back h.packet_type))
      where
        type_field' : (16 * type_number h.packet_type + 1) / 16 ≡ type_number h.packet_type
        type_field' = omega arith

        header_as : PacketType → Header
        header_as t =
            record {
              packet_type = t;
              conn_id = h.conn_id;
              ts_micros = h.ts_micros;
              ts_diff_micros = h.ts_diff_micros;
              window_size = h.window_size;
              seq_num = h.seq_num;
              ack_num = h.ack_num;
            }

-- A mask that may be written and is not empty passes the decoder's checks too.
mask_good : (n m : ℕ) → mask_answer n ≡ done m → 1 ≤ n → (ltb n 4 ≡ false) × (eqb (n % 4) 0 ≡ true)
mask_good n m e some = go (eqb n 0) (ltb n 4) (eqb (n % 4) 0) (ltb 252 n) refl e
  where
    go :
        (b₁ b₂ b₃ b₄ : Bool) → eqb n 0 ≡ b₁
        → cond b₁ (done 0) (cond b₂ (refused 5) (cond b₃ (cond b₄ (refused 8) (done n)) (refused 6))) ≡ done m
        → (b₂ ≡ false) × (b₃ ≡ true)
    go true b₂ b₃ b₄ t f = absurd (omega (arith, eqb-true n 0 t))
    go false true b₃ b₄ t f = let z : ◌≡◌ {A = ℕ} 0 1 = cc in absurd (omega arith)
    go false false false b₄ t f = let z : ◌≡◌ {A = ℕ} 0 1 = cc in absurd (omega arith)
    go false false true true t f = let z : ◌≡◌ {A = ℕ} 0 1 = cc in absurd (omega arith)
    go false false true false t f = (refl, refl)

-- ---- the chain of a written packet

module _ (h : Header) (fits : HeaderFits h) (payload : List ℕ) where
  plain_chain : chain_of (packet_bytes h [] payload) ≡ whole [] 20
  plain_chain =
      let d = packet_bytes h [] payload in
      ap (λ (n : ℕ). chain_from d (record { number = n; at = 20 })) (extension_back h fits 0 (omega arith) payload)
      ∙ chain_ends d (record { number = 0; at = 20 }) refl

  module _ (b : ℕ) (bs : List ℕ) where
    abbrev sacked : List ℕ
    sacked = packet_bytes h (b ∷ bs) payload

    abbrev behind : List ℕ
    behind = 0 ∷ length (b ∷ bs) ∷ b ∷ (bs ++ payload)

    next_byte : get_or sacked 20 0 ≡ 0
    next_byte =
        ap (λ (n : ℕ). get_or sacked (n + 0) 0) (sym (header-length h 1)) ∙ get_or-append-add (bytes_of widths (fields_of_header h 1)) behind 0 0

    length_byte : get_or sacked 21 0 ≡ length (b ∷ bs)
    length_byte =
        ap (λ (n : ℕ). get_or sacked (n + 1) 0) (sym (header-length h 1)) ∙ get_or-append-add (bytes_of widths (fields_of_header h 1)) behind 1 0

    size : length sacked ≡ 22 + length (b ∷ bs) + length payload
    size = simp (length-append, header-length) (omega arith)

    sacked_step :
        step_of sacked (record { number = 1; at = 20 })
        ≡ done (onward (record { number = 1; body = record { at = 22; len = length (b ∷ bs) } }) (record { number = 0; at = 22 + length (b ∷ bs) }))
    sacked_step =
        let head : 22 ≤ length sacked = omega (arith, size) in
        let body : 22 + length (b ∷ bs) ≤ length sacked = omega (arith, size) in
        simp (le-leb _ _ head, length_byte, le-leb _ _ body, next_byte)

    sacked_chain : chain_of sacked ≡ whole (record { number = 1; body = record { at = 22; len = length (b ∷ bs) } } ∷ []) (22 + length (b ∷ bs))
    sacked_chain =
        let start : Cursor = record { number = 1; at = 20 } in
        let end : Cursor = record { number = 0; at = 22 + length (b ∷ bs) } in
        let e : Extension = record { number = 1; body = record { at = 22; len = length (b ∷ bs) } } in
        ap (λ (n : ℕ). chain_from sacked (record { number = n; at = 20 })) (extension_back h fits 1 (omega arith) (extension_bytes (b ∷ bs) ++ payload))
        ∙ (chain_found sacked start e end sacked_step ∙ ap (Rattle.packet.specs.Chain.before e) (chain_ends sacked end refl))

-- ---- reading

module _ (h : Header) (fits : HeaderFits h) (sack payload : List ℕ) where
  abbrev packet : List ℕ
  packet = packet_bytes h sack payload

  abbrev rest : List ℕ
  rest = extension_bytes sack ++ payload

  small : extension_byte sack < 256
  small = go sack
    where
      go : (s : List ℕ) → extension_byte s < 256
      go [] = omega arith
      go (b ∷ bs) = omega arith

  long : 20 ≤ length packet
  long = simp (length-append, header-length) (omega arith)

  decode_packet : decode_of packet ≡ behind_header h (length packet) (chain_of packet)
  decode_packet =
      let t = type_small h.packet_type in
      decode_good packet long (rw (type_field_lem h fits (extension_byte sack) small rest) t) (version_field_lem h fits (extension_byte sack) small rest)
      ∙ ap (λ (k : Header). behind_header k (length packet) (chain_of packet)) (header_back h fits (extension_byte sack) small rest)

-- Reading a packet that may be written gives its header, and the places of its SACK and its payload,
pub read_written :
    (h : Header) (sack payload : List ℕ) (m : ℕ)
    → HeaderFits h
    → mask_answer (length sack) ≡ done m
    → empty_data h (length payload) ≡ false
    → decode_of (packet_bytes h sack payload) ≡ done (record { header = h; sack = place_of_sack sack; payload = place_of_payload sack payload })
read_written h [] payload m fits mask some =
    let size : length (packet_bytes h [] payload) - 20 ≡ length payload = simp (length-append, header-length) (omega arith) in
    decode_packet h fits [] payload ∙ simp (plain_chain h fits payload, size, some)
read_written h (b ∷ bs) payload m fits mask some =
    let left : length (packet_bytes h (b ∷ bs) payload) - (22 + length (b ∷ bs)) ≡ length payload = omega (arith, size h fits payload b bs) in
    let good = mask_good (length (b ∷ bs)) m mask (omega arith) in
    let place : size_of (length (b ∷ bs)) 0 ≡ 22 + length (b ∷ bs) = simp eqb-suc-zero (omega arith) in
    decode_packet h fits (b ∷ bs) payload ∙ simp (sacked_chain h fits payload b bs, good.0, good.1, left, some, place)

-- and the bytes at those places are the SACK and the payload.
pub sack_back : (h : Header) (sack payload : List ℕ) → part_of (place_of_sack sack) (packet_bytes h sack payload) ≡ sack
sack_back h [] payload = simp (le-leb 0 (length (packet_bytes h [] payload)) (omega arith), le-leb 0 (length (packet_bytes h [] payload) - 0) (omega arith))
sack_back h (b ∷ bs) payload =
    let front = bytes_of widths (fields_of_header h 1) ++ (0 ∷ length (b ∷ bs) ∷ []) in
    let whole : packet_bytes h (b ∷ bs) payload ≡ front ++ ((b ∷ bs) ++ payload) = sym (append_assoc (bytes_of widths (fields_of_header h 1)) (0 ∷ length (b ∷ bs) ∷ []) ((b ∷ bs) ++ payload)) in
    ap (part_of (place_of_sack (b ∷ bs))) whole ∙ part_middle front (b ∷ bs) payload 22 (length (b ∷ bs)) (simp (length-append, header-length)) refl

pub payload_back : (h : Header) (sack payload : List ℕ) → part_of (place_of_payload sack payload) (packet_bytes h sack payload) ≡ payload
payload_back h sack payload =
    let front = bytes_of widths (fields_of_header h (extension_byte sack)) ++ extension_bytes sack in
    let whole : packet_bytes h sack payload ≡ front ++ (payload ++ []) =
    sym (append_assoc (bytes_of widths (fields_of_header h (extension_byte sack))) (extension_bytes sack) payload) ∙ ap (λ (l : List ℕ). front ++ l) (sym (append-nil payload)) in
    let size : length front ≡ size_of (length sack) 0 =
    ap length (ap (λ (l : List ℕ). bytes_of widths (fields_of_header h (extension_byte sack)) ++ l) (sym (append-nil (extension_bytes sack)))) ∙ packet_length h sack [] in
    ap (part_of (place_of_payload sack payload)) whole ∙ part_middle front payload [] (size_of (length sack) 0) (length payload) size refl

-- So whatever the writer accepts, the decoder reads back.
pub read_encoded :
    (h : Header) (sack payload : List ℕ) (room n : ℕ)
    → HeaderFits h
    → encode_of h sack payload room ≡ done n
    → decode_of (packet_bytes h sack payload) ≡ done (record { header = h; sack = place_of_sack sack; payload = place_of_payload sack payload })
read_encoded h sack payload room n fits e = by_mask (mask_answer (length sack)) refl
  where
    by_data :
        (m : ℕ) → mask_answer (length sack) ≡ done m
        → (b : Bool) → empty_data h (length payload) ≡ b
        → decode_of (packet_bytes h sack payload) ≡ done (record { header = h; sack = place_of_sack sack; payload = place_of_payload sack payload })
    by_data m mask true t =
        let no = encode_unfit h sack payload room 7 (rw (mask, t)) in
        let z : ◌≡◌ {A = ℕ} 0 1 = cc in
        absurd (omega arith)
    by_data m mask false t = read_written h sack payload m fits mask t

    by_mask :
        (a : Answer ℕ) → mask_answer (length sack) ≡ a
        → decode_of (packet_bytes h sack payload) ≡ done (record { header = h; sack = place_of_sack sack; payload = place_of_payload sack payload })
    by_mask (refused k) bad =
        let no = encode_unfit h sack payload room k (rw bad) in
        let z : ◌≡◌ {A = ℕ} 0 1 = cc in
        absurd (omega arith)
    by_mask (done m) mask = by_data m mask (empty_data h (length payload)) refl
