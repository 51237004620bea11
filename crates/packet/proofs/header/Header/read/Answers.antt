-- An unknown type, and a known one with version 1. Another version is found by proofs/Version.antt.
use Rattle.std.proofs.Common.{◌/◌, rules, sym, get_or}
use Rattle.packet.specs.Laws.Kind.{type_unknown}
use Rattle.packet.specs.Laws.Decode.{header_unknown}
use Rattle.packet.proofs.Version.{of_version_one}
use Rattle.packet.proofs.header.Header.read.Goals as goal

pub returns-in_default-clause-header : goal.returns-in_default-clause-header
returns-in_default-clause-header c =
    let d = c.args.datagram.now in
    sym (header_unknown d c.if-datagram-lt20.false (type_unknown (get_or d 0 0 / 16) c.in_default.ensures))

pub returns-clause-header : goal.returns-clause-header
returns-clause-header c = of_version_one c.args.datagram.now _ _ c.of_type.ensures c.in-Known.ensures c.if-datagram-lt20.false (search rules)
