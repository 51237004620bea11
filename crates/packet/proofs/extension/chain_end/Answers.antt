-- Each way round keeps what Invariants.antt beside this says, and at the end it is what the contract says.
use Rattle.std.proofs.Common.{◌∙◌, sym, ap}
use Rattle.std.proofs.lemmas.Result.{err_from_is_err_and}
use Rattle.packet.specs.Chain.{end_of, chain_from}
use Rattle.packet.specs.Laws.Chain.{chain_ends, chain_past, chain_found, end_before}
use Rattle.packet.proofs.Step.{found}
use Rattle.packet.proofs.extension.chain_end.Goals as goal

pub returns-in_err-next : goal.returns-in_err-next
returns-in_err-next c =
    let l = c.loop-next in
    let past = chain_past c.args.datagram.now l.cursor (sym c.in_err-next.ensures) in
    let is = err_from_is_err_and c.from_residual.result c.from_residual.ensures.1 in
    rw is.1 (sym (l.invariant ∙ ap end_of past))

pub loop-next-preserved : goal.loop-next-preserved
loop-next-preserved c =
    let d = c.args.datagram.now in
    let l = c.loop-next in
    l.invariant ∙ (ap end_of (chain_found d l.cursor _ c.in-Some.next (found d l.cursor _ _ c.in-Some.is c.in_ok-next.ensures)) ∙ end_before _ (chain_from d c.in-Some.next))

pub returns : goal.returns
returns c =
    let d = c.args.datagram.now in
    let l = c.loop-next in
    sym (l.invariant ∙ ap end_of (chain_ends d l.cursor (found d l.cursor _ _ c.in_default.is c.in_ok-next.ensures)))
