-- The parts in their order: the first refusal is that of the whole.
use Rattle.std.proofs.Common.{◌∙◌, ap, sym, length}
use Rattle.std.proofs.lemmas.Result.{err_from_is_err_and}
use Rattle.common.specs.Answer.{Answer, done, refused}
use Rattle.packet.specs.Answers.{sacked}
use Rattle.packet.specs.Decode.{packet_of, payload_answer}
use Rattle.packet.specs.Laws.Decode.{header_refused, decode_read}
use Rattle.packet.specs.declared.extension.Part.{Part}
use Rattle.packet.proofs.decode.read_packet.Goals as goal

pub returns-in_err-header : goal.returns-in_err-header
returns-in_err-header c =
    let is = err_from_is_err_and c.from_residual.result c.from_residual.ensures.1 in
    rw (is.1, is.2) (sym (header_refused c.args.datagram.now _ c.in_err-header.ensures.header))

pub returns-in_err-found : goal.returns-in_err-found
returns-in_err-found c =
    let header = c.in_ok-header.ensures in
    let is = err_from_is_err_and c.from_residual-in_err-found.result c.from_residual-in_err-found.ensures.1 in
    rw (is.1, is.2) (sym (decode_read c.args.datagram.now c.in_ok-header.header (refused 4) header.header header.long c.in_err-found.ensures))

pub returns-in_err-sack : goal.returns-in_err-sack
returns-in_err-sack c =
    let d = c.args.datagram.now in
    let h = c.in_ok-header.header in
    let found = c.in_ok-found in
    let read = decode_read d h (done (sacked found.found, found.at)) c.in_ok-header.ensures.header c.in_ok-header.ensures.long found.ensures in
    let is = err_from_is_err_and c.from_residual-in_err-sack.result c.from_residual-in_err-sack.ensures.1 in
    rw (is.1, is.2) (ap (λ (a : Answer Part). packet_of h a (payload_answer h (length d) found.at)) c.in_err-sack.ensures ∙ sym read)

pub returns-in_err-payload : goal.returns-in_err-payload
returns-in_err-payload c =
    let d = c.args.datagram.now in
    let h = c.in_ok-header.header in
    let found = c.in_ok-found in
    let read = decode_read d h (done (sacked found.found, found.at)) c.in_ok-header.ensures.header c.in_ok-header.ensures.long found.ensures in
    let is = err_from_is_err_and c.from_residual-in_err-payload.result c.from_residual-in_err-payload.ensures.1 in
    rw (is.1, is.2)
    (ap (packet_of h (done c.in_ok-sack.sack)) c.in_err-payload.ensures
    ∙ (ap (λ (a : Answer Part). packet_of h a (payload_answer h (length d) found.at)) c.in_ok-sack.ensures ∙ sym read))

pub returns : goal.returns
returns c =
    let d = c.args.datagram.now in
    let h = c.in_ok-header.header in
    let found = c.in_ok-found in
    let read = decode_read d h (done (sacked found.found, found.at)) c.in_ok-header.ensures.header c.in_ok-header.ensures.long found.ensures in
    ap (packet_of h (done c.in_ok-sack.sack)) c.in_ok-payload.ensures
    ∙ (ap (λ (a : Answer Part). packet_of h a (payload_answer h (length d) found.at)) c.in_ok-sack.ensures ∙ sym read)
