-- Each way round keeps what Invariants.antt beside this says, and at the end it is what the contract says.
use Rattle.std.proofs.Common.{◌∙◌, sym, ap, ne_eqb, eq-eqb}
use Rattle.std.proofs.lemmas.Result.{err_from_is_err_and}
use Rattle.packet.specs.Chain.{read_of, chain_from}
use Rattle.packet.specs.Laws.Chain.{chain_ends, chain_past, chain_found, read_before, read_sack, read_past}
use Rattle.packet.proofs.Step.{found}
use Rattle.packet.proofs.extension.read_chain.Goals as goal

pub returns-in_err-extension : goal.returns-in_err-extension
returns-in_err-extension c =
    let l = c.loop-extension in
    let past = chain_past c.args.datagram.now l.cursor (sym c.in_err-extension.ensures) in
    let is = err_from_is_err_and c.from_residual.result c.from_residual.ensures.1 in
    rw is.1 (sym (l.invariant ∙ ap read_of past))

pub returns-in_err-end : goal.returns-in_err-end
returns-in_err-end c =
    let d = c.args.datagram.now in
    let l = c.loop-extension in
    let x = c.in-Some.extension in
    let next = c.in-Some.next in
    let is = err_from_is_err_and c.from_residual-in_err-end.result c.from_residual-in_err-end.ensures.1 in
    rw is.1
    (sym
    (l.invariant
    ∙ (ap read_of (chain_found d l.cursor x next (found d l.cursor _ _ c.in-Some.is c.in_ok-extension.ensures))
    ∙ read_past x (chain_from d next) (sym c.in_err-end.ensures))))

pub returns-then-extension-eq1 : goal.returns-then-extension-eq1
returns-then-extension-eq1 c =
    let d = c.args.datagram.now in
    let l = c.loop-extension in
    let x = c.in-Some.extension in
    let next = c.in-Some.next in
    sym
    (l.invariant
    ∙ (ap read_of (chain_found d l.cursor x next (found d l.cursor _ _ c.in-Some.is c.in_ok-extension.ensures))
    ∙ read_sack x _ (chain_from d next) (eq-eqb _ _ c.if-extension-eq1.true) (sym c.in_ok-end.ensures)))

pub loop-extension-preserved : goal.loop-extension-preserved
loop-extension-preserved c =
    let d = c.args.datagram.now in
    let l = c.loop-extension in
    let x = c.in-Some.extension in
    let next = c.in-Some.next in
    l.invariant
    ∙ (ap read_of (chain_found d l.cursor x next (found d l.cursor _ _ c.in-Some.is c.in_ok-extension.ensures))
    ∙ read_before x (chain_from d next) (ne_eqb _ _ c.if-extension-eq1.false))

pub returns : goal.returns
returns c =
    let d = c.args.datagram.now in
    let l = c.loop-extension in
    sym (l.invariant ∙ ap read_of (chain_ends d l.cursor (found d l.cursor _ _ c.in_default.is c.in_ok-extension.ensures)))
