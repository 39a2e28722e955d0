use Rattle.std.proofs.Common.{[], ◌∷◌, ◌++◌, map, ap, sym, ◌∙◌, append-nil}
use Rattle.std.proofs.lemmas.List.{take_all}
use Rattle.std.proofs.lemmas.Result.{IfOk-from_err}
use Rattle.rtl_remarks.specs.Remarks.{at_process}
use Rattle.rtl_remarks.proofs.Listed.{next_number}
use Rattle.rtl_remarks.proofs.processes.push_each.Goals as goal

pub loop-net-init : goal.loop-net-init
loop-net-init c = sym (append-nil c.args.remarks.now.items)

pub loop-net-preserved : goal.loop-net-preserved
loop-net-preserved c =
    let l = c.loop-net in
    next_number (at_process c.args.kind c.args.process) c.args.nets.now l.net-index _ _ _ c.loop-net-test.true l.invariant
    (c.in_ok-push.ensures.items ∙ ap (λ r. l.remarks.items ++ r ∷ []) c.at_process.ensures)

pub returns-in_err-push : goal.returns-in_err-push
returns-in_err-push c = IfOk-from_err c.from_residual.result _ c.from_residual.ensures.0

pub returns : goal.returns
returns c =
    let l = c.loop-net in
    l.invariant ∙ ap (λ xs. c.args.remarks.now.items ++ map (at_process c.args.kind c.args.process) xs) (take_all l.net-index c.args.nets.now c.loop-net-test.false)
