use Rattle.std.proofs.Common.{Bool, List, not, map, subst, ap, ◌∙◌}
use Rattle.std.proofs.lemmas.List.{with_items_is}
use Rattle.std.proofs.lemmas.Result.{IfOk-weaker}
use Rattle.rtl_net.specs.Bodies.{statements_of}
use Rattle.rtl_model.specs.bodies.Assigns.{is_element, stmts_assign}
use Rattle.rtl_kept_bodies.specs.Steps.{Marked}
use Rattle.rtl_kept_bodies.proofs.Knowing.{flags_know}
use Rattle.rtl_kept_bodies.proofs.sets.never_set.Goals as goal

pub returns : goal.returns
returns c =
    let body = statements_of c.args.body.now in
    let marks = c.mark_all_set.new.marks in
    let all = c.deref.ensures.value ∙ with_items_is c.in_ok-set.set marks (c.mark_all_set.auto.marks ∙ c.deref_mut.ensures.len) in
    let marked = subst (λ (ms : List Bool). Marked (λ e. stmts_assign (is_element e) body) ms marks) (c.deref_mut.ensures.value ∙ c.in_ok-set.ensures) c.mark_all_set.ensures in
    IfOk-weaker c.inverted.result _ _ (λ v h. flags_know body c.args.many marks v.items c.requires marked (h ∙ ap (map (λ (b : Bool). not b)) all)) c.inverted.ensures
