use Rattle.std.proofs.Common.{ℕ, false, List, Bool, ◌||◌, ap, sym, ◌∙◌}
use Rattle.std.specs.List.{list_any}
use Rattle.std.proofs.lemmas.List.{take_all}
use Rattle.rtl_model.specs.bodies.Reads.{events}
use Rattle.rtl_model.proofs.bodies.Leaves.{leaves_tell}
use Rattle.rtl_net.specs.Bodies.{statements_of}
use Rattle.rtl_net.specs.Nets.{body_of}
use Rattle.rtl_net.specs.declared.process.Process.{Process}
use Rattle.rtl_net.specs.declared.body.Statement.{Statement}
use Rattle.rtl_body_facts.specs.Reading.{is_in}
use Rattle.rtl_body_facts.proofs.EveryPath.{any_more}
use Rattle.rtl_remarks.proofs.Events.{told}
use Rattle.rtl_remarks.proofs.clocks.clocks_of.Goals as goal

pub loop-process-preserved : goal.loop-process-preserved
loop-process-preserved c =
    let l = c.loop-process in
    let p = c.process-item.result in
    let f : (n : ℕ) (q : Process) → Bool = λ n q. is_in n (events (body_of q)) in
    λ none n.
    let (before, found) = told _ _ _ c.walk_body.ensures none in
    found n ∙ ap (λ xs. is_in n l.events.nets.items || is_in n xs) (sym (leaves_tell.events_are (statements_of c.deref.result.now)))
    ∙ ap (λ (xs : List Statement). is_in n l.events.nets.items || is_in n (events (statements_of xs))) c.deref.ensures.value
    ∙ ap (λ b. b || f n p) (l.invariant before n)
    ∙ sym (any_more (f n) c.processes-processes.result.now l.process-index p c.loop-process-test.true c.process-item.is)

pub returns : goal.returns
returns c =
    let l = c.loop-process in
    let f : (n : ℕ) (q : Process) → Bool = λ n q. is_in n (events (body_of q)) in
    record {
      rise = c.sort_once.ensures.rise;
      are = λ n. c.sort_once.ensures.same n ∙ l.invariant c.if-refused.false n
          ∙ (ap (list_any (f n)) (take_all l.process-index c.processes-processes.result.now c.loop-process-test.false) ∙ ap (list_any (f n)) c.processes-processes.ensures);
    }
