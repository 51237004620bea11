-- What a header comes to once its type is known: by the version in the low four bits of its first byte. Over plain variables, so that the search finds it whatever the test in the code is called.
use Rattle.std.proofs.Common.{◌≡◌, ℕ, ◌/◌, ◌%◌, ◌≤◌, ◌≢◌, ◌∙◌, List, length, get_or, sym, ap}
use Rattle.common.specs.Answer.{done, refused}
use Rattle.packet.specs.Answers.{type_read}
use Rattle.packet.specs.Kind.{type_answer}
use Rattle.packet.specs.Layout.{header_with}
use Rattle.packet.specs.Decode.{header_answer}
use Rattle.packet.specs.Laws.Kind.{type_known}
use Rattle.packet.specs.Laws.Decode.{header_version, header_good}
use Rattle.packet.specs.declared.header.Header.{Header}
use Rattle.packet.specs.declared.kind.PacketType.{PacketType}
use Rattle.packet.specs.declared.kind.TypeRead.TheVariants.{Known}

pub of_version_one :
    (d : List ℕ) (t : PacketType) (h : Header) → h ≡ header_with t d → type_read (Known t) ≡ type_answer (get_or d 0 0 / 16) → 20 ≤ length d → get_or d 0 0 % 16 ≡ 1
    → done h ≡ header_answer d
of_version_one d t h made known long one =
    let kind = type_known (get_or d 0 0 / 16) t known in
    ap done (made ∙ ap (λ (k : PacketType). header_with k d) kind.1) ∙ sym (header_good d long kind.0 one)

pub of_other_version :
    (d : List ℕ) (t : PacketType) → type_read (Known t) ≡ type_answer (get_or d 0 0 / 16) → 20 ≤ length d → get_or d 0 0 % 16 ≢ 1 → refused 3 ≡ header_answer d
of_other_version d t known long other =
    let kind = type_known (get_or d 0 0 / 16) t known in
    sym (header_version d long kind.0 other)
