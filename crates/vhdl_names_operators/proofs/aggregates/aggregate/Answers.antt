use Rattle.std.proofs.Common.{◌≡◌, Option, Some, None, Box, Global, refl, ap, sym, ◌∙◌}
use Rattle.std.specs.Prelude.{option_map, is_some}
use Rattle.vhdl_names_trees.specs.declared.integer.StaticRange.{StaticRange}
use Rattle.vhdl_names_rules.specs.units.Expressions as u
use Rattle.vhdl_names_rules.specs.Aggregates.{arranged}
use Rattle.vhdl_names_trees.specs.views.Integers.{option_range_view}
use Rattle.vhdl_names_trees.specs.views.Vectors.{vector_view}
use Rattle.vhdl_names_trees.specs.views.Expressions.{typed_elements_view}
use Rattle.vhdl_names_rules.specs.problems.Aggregates as broken
use Rattle.vhdl_names_rules.proofs.Passing.{passed_on, told_by}
use Rattle.vhdl_names_rules.proofs.Telling.{told_same}
use Rattle.vhdl_names_operators.proofs.aggregates.aggregate.Goals as goal

seen : (r : Option (Box StaticRange Global)) → is_some (option_range_view r) ≡ is_some r
seen None = refl
seen (Some x) = refl

pub returns-in_err-elements-clause-given : goal.returns-in_err-elements-clause-given
returns-in_err-elements-clause-given c =
    let f = c.in_err-elements.field-0.0 in
    let r = option_range_view c.args.range in
    passed_on vector_view _ f _ c.from_residual.result c.from_residual.ensures.1 (λ e p. p)
    (λ n. ap (λ b. option_map (u.aggregate c.args.at r) (arranged c.args.kind b (typed_elements_view c.args.elements.items))) (seen c.args.range ∙ sym c.is_some.ensures)
    ∙ ap (option_map (u.aggregate c.args.at r)) (c.in_err-elements.ensures.given n))

pub returns-in_err-elements-clause-told : goal.returns-in_err-elements-clause-told
returns-in_err-elements-clause-told c =
    let f = c.in_err-elements.field-0.0 in
    told_by _ f _ c.from_residual.result c.from_residual.ensures.1 (λ e p. p)
    (told_same _ _ f (ap (λ b. broken.aggregate c.args.kind b (typed_elements_view c.args.elements.items)) c.is_some.ensures) c.in_err-elements.ensures.told)

pub returns-clause-given : goal.returns-clause-given
returns-clause-given c =
    let r = option_range_view c.args.range in
    ap (λ b. option_map (u.aggregate c.args.at r) (arranged c.args.kind b (typed_elements_view c.args.elements.items))) (seen c.args.range ∙ sym c.is_some.ensures)
    ∙ ap (option_map (u.aggregate c.args.at r)) c.in_ok-elements.ensures.given
    ∙ ap Some (sym c.aggregate.ensures)
