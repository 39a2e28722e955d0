use Rattle.std.proofs.Common.{List, subst, sym, ap, ◌∙◌}
use Rattle.std.proofs.lemmas.List.{with_items_is}
use Rattle.rtl_model.specs.bodies.Body.{Stmts, followed_by}
use Rattle.rtl_net.specs.declared.body.Statement.{Statement}
use Rattle.rtl_net.specs.Bodies.{statements_of}
use Rattle.rtl_variable_registers.specs.Bodies.{with_branches}
use Rattle.rtl_variable_registers.specs.Known.{at_start, with_constants}
use Rattle.rtl_kept_bodies.specs.Steps.{recall_all, remember_all, all_at_reset, place_at, CanCompute}
use Rattle.rtl_kept_bodies.proofs.Shapes.{rewritten}
use Rattle.rtl_kept_bodies.proofs.keeping.keep_body.Goals as goal

pub keep_reset-requires : goal.keep_reset-requires
keep_reset-requires c =
    subst (CanCompute c.args.starts.now)
    (sym (ap (λ (xs : List Statement). statements_of xs) c.deref_mut.ensures.value
    ∙ c.replace_reset-reset.ensures.taken (ap (λ (xs : List Statement). statements_of xs) c.new.ensures.items))) c.requires

pub returns-clause-body : goal.returns-clause-body
returns-clause-body c =
    let ks = c.args.kept.now in
    let places = place_at c.args.places.now in
    let f = λ (a : Stmts). all_at_reset places (with_constants (at_start c.args.starts.now) a) in
    let taken = ap (λ (xs : List Statement). statements_of xs) c.deref_mut.ensures.value
    ∙ c.replace_reset-reset.ensures.taken (ap (λ (xs : List Statement). statements_of xs) c.new.ensures.items) in
    let g = λ (s : Stmts). followed_by (recall_all ks) (followed_by s (remember_all ks)) in
    rewritten f g _ _ _ _ _ (statements_of c.keep_reset.new.reset) _
    (c.replace_reset-reset.ensures.left ∙ ap (λ (xs : List Statement). with_branches (λ a. statements_of xs) (λ s. s) (statements_of c.args.body.now)) c.new.ensures.items)
    (c.in_ok-keep_reset.ensures ∙ ap f taken)
    (c.replace_reset-nothing.ensures.left ∙ ap (λ (xs : List Statement). with_branches (λ a. statements_of xs) (λ s. s) (statements_of c.replace_reset-reset.new.body))
    (with_items_is c.replace_reset-reset.result c.keep_reset.new.reset (c.keep_reset.auto.reset ∙ c.deref_mut.ensures.len)))
    (c.in_ok-keep_at_edge.ensures ∙ ap g (c.replace_edge-edge.ensures.taken (ap (λ (xs : List Statement). statements_of xs) c.new-2.ensures.items)))
    (c.replace_edge-edge.ensures.left ∙ ap (λ (xs : List Statement). with_branches (λ a. a) (λ s. statements_of xs) (statements_of c.replace_reset-nothing.new.body)) c.new-2.ensures.items)
    c.replace_edge-nothing.ensures.left

pub returns-clause-bytes : goal.returns-clause-bytes
returns-clause-bytes c =
    c.replace_edge-nothing.ensures.bytes ∙ c.replace_edge-edge.ensures.bytes ∙ c.replace_reset-nothing.ensures.bytes ∙ c.replace_reset-reset.ensures.bytes
