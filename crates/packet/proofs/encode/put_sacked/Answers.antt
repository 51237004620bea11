-- Four writings, each right behind the one before.
use Rattle.std.proofs.Common.{List, ℕ, arith, ap, sym, ◌∙◌, length}
use Rattle.common.specs.Laws.Put.{put}
use Rattle.packet.specs.Laws.Encode.{head_bytes, sacked_put}
use Rattle.packet.proofs.encode.put_sacked.Goals as goal

pub returns : goal.returns
returns c =
    let a = c.args in
    let p = c.requires in
    sacked_put
    a.header
    a.sack.now
    a.payload.now
    _
    _
    _
    _
    _
    p.payload_in_bounds
    p.sack_in_bounds.0
    p.sack_in_bounds.1
    c.put.ensures
    (c.put_all.ensures ∙ ap (λ (head : List ℕ). put c.put.new.room 20 head) (sym (head_bytes (length a.sack.now) (omega (arith, p.sack_in_bounds.1)))))
    c.put_all-2.ensures
    c.put_all-3.ensures
