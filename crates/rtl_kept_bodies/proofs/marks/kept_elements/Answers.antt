use Rattle.std.proofs.Common.{List, Bool, map, sym, ap, subst, ◌∙◌}
use Rattle.std.specs.List.{range_with_len}
use Rattle.std.proofs.lemmas.List.{with_items_is}
use Rattle.rtl_model.specs.bodies.Body.{Stmts}
use Rattle.rtl_model.specs.bodies.Stored.{stores_element}
use Rattle.rtl_net.specs.declared.body.Statement.{Statement}
use Rattle.rtl_net.specs.Bodies.{statements_of}
use Rattle.rtl_variable_registers.specs.Bodies.{with_branches, keeps_element}
use Rattle.rtl_model.specs.bodies.Assigns.{is_element, stmts_assign}
use Rattle.rtl_kept_bodies.specs.Steps.{Marks}
use Rattle.rtl_kept_bodies.proofs.Marking.{reset_sets, kept_marks, marked_as}
use Rattle.rtl_kept_bodies.proofs.Shapes.{put_back}
use Rattle.rtl_kept_bodies.proofs.marks.kept_elements.Goals as goal

pub returns-clause-same : goal.returns-clause-same
returns-clause-same c =
    put_back _ _ _ _ (c.replace_reset-reset.ensures.left ∙ ap (λ (xs : List Statement). with_branches (λ a. statements_of xs) (λ s. s) (statements_of c.args.body.now)) c.new.ensures.items)
    (c.replace_reset-reset.ensures.taken (ap (λ (xs : List Statement). statements_of xs) c.new.ensures.items)) c.replace_reset-nothing.ensures.left

pub returns-clause-are : goal.returns-clause-are
returns-clause-are c =
    let body = statements_of c.args.body.now in
    let empty = ap (λ (xs : List Statement). statements_of xs) c.new.ensures.items in
    let left = c.replace_reset-reset.ensures.left ∙ ap (λ (s : Stmts). with_branches (λ a. s) (λ s. s) body) empty in
    let taken = ap (λ (xs : List Statement). statements_of xs) c.deref.ensures.value ∙ c.replace_reset-reset.ensures.taken empty in
    subst (λ (ms : List Bool). Marks c.args.many (keeps_element body) ms)
    (sym (with_items_is c.in_ok-marks.marks c.mark_all_set.new.marks (c.mark_all_set.auto.marks ∙ c.deref_mut.ensures.len)))
    (kept_marks body c.args.many _ c.mark_all_set.new.marks c.requires
    (c.deref_mut.ensures.value ∙ c.in_ok-marks.ensures ∙ ap (λ (s : Stmts). map (λ e. stores_element e s) (range_with_len 0 c.args.many)) left)
    (marked_as _ _ _ _ (λ e. ap (λ (s : Stmts). stmts_assign (is_element e) s) taken ∙ reset_sets body c.requires e) c.mark_all_set.ensures))

pub returns-clause-bytes : goal.returns-clause-bytes
returns-clause-bytes c = c.replace_reset-nothing.ensures.bytes ∙ c.replace_reset-reset.ensures.bytes
