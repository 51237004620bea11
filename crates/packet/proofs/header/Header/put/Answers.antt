-- The fields are written one behind another, each at the sum of the widths before it.
use Rattle.std.proofs.Common.{refl}
use Rattle.packet.proofs.Numbers.{front_written, two_written, four_written}
use Rattle.packet.specs.Kind.{type_number}
use Rattle.packet.specs.Laws.Kind.{type_small}
use Rattle.packet.specs.Laws.Layout.{header-put}
use Rattle.packet.proofs.header.Header.put.Goals as goal

pub returns : goal.returns
returns c =
    let h = c.args.self in
    let e = c.args.extension in
    header-put
    h
    e
    _
    _
    _
    _
    _
    _
    _
    _
    _
    c.ranges.extension.fits
    c.requires
    refl
    (front_written _ _ (type_number h.packet_type) _ e c.put_all.ensures c.number.ensures (type_small h.packet_type) c.ranges.extension.fits)
    (two_written _ _ 2 h.conn_id _ c.put_all-2.ensures c.to_be_bytes.ensures)
    (four_written _ _ 4 h.ts_micros _ c.put_all-3.ensures c.to_be_bytes-2.ensures)
    (four_written _ _ 8 h.ts_diff_micros _ c.put_all-4.ensures c.to_be_bytes-3.ensures)
    (four_written _ _ 12 h.window_size _ c.put_all-5.ensures c.to_be_bytes-4.ensures)
    (two_written _ _ 16 h.seq_num.0 _ c.put_all-6.ensures c.to_be_bytes-5.ensures)
    (two_written _ _ 18 h.ack_num.0 _ c.put_all-7.ensures c.to_be_bytes-6.ensures)
