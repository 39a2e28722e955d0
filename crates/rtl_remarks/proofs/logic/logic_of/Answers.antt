use Rattle.std.proofs.Common.{Bool, ap, sym, ◌∙◌, ◌||◌}
use Rattle.std.specs.List.{list_any}
use Rattle.std.proofs.lemmas.List.{take_all}
use Rattle.std.proofs.lemmas.Result.{IfOk-from_err}
use Rattle.rtl_net.specs.declared.process.Process.{Process}
use Rattle.rtl_body_facts.specs.Reading.{is_in}
use Rattle.rtl_body_facts.proofs.EveryPath.{any_more}
use Rattle.rtl_remarks.specs.Remarks.{is_made}
use Rattle.rtl_remarks.proofs.logic.logic_of.Goals as goal

pub loop-process-init : goal.loop-process-init
loop-process-init c = λ n. ap (is_in n) c.new-nets.ensures.items

pub loop-process-preserved : goal.loop-process-preserved
loop-process-preserved c =
    let l = c.loop-process in
    let p = c.process-item.result in
    λ n. c.in_ok-push_made.ensures n
    ∙ (ap (λ (b : Bool). b || is_made p n) (l.invariant n)
    ∙ sym (any_more (λ (q : Process). is_made q n) c.processes-processes.result.now l.process-index p c.loop-process-test.true c.process-item.is))

pub returns-in_err-push_made : goal.returns-in_err-push_made
returns-in_err-push_made c = IfOk-from_err c.from_residual.result _ c.from_residual.ensures.0

pub returns : goal.returns
returns c = record {
  rise = c.sort_once.ensures.rise;
  are = λ n.
      c.sort_once.ensures.same n ∙ c.loop-process.invariant n
      ∙ ap (list_any (λ (p : Process). is_made p n)) (take_all c.loop-process.process-index c.processes-processes.result.now c.loop-process-test.false)
      ∙ ap (list_any (λ (p : Process). is_made p n)) c.processes-processes.ensures;
}
