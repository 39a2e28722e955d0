use Rattle.std.proofs.Common.{arith, map, sym, ap, ◌∙◌}
use Rattle.vhdl_names_trees.specs.views.Expressions.{typed_view}
use Rattle.vhdl_names_expressions.specs.Steps.{is_one_range}
use Rattle.vhdl_names_expressions.proofs.Soles.{range_first, range_taken, range_alone, not_range}
use Rattle.vhdl_names_expressions.proofs.name.suffix_of.Goals as goal

pub returns-then-not-is_one_range : goal.returns-then-not-is_one_range
returns-then-not-is_one_range c = sym (not_range c.args.is_name (map typed_view c.args.arguments.items) (ap (λ xs. is_one_range (map typed_view xs)) (sym c.deref.ensures.value) ∙ sym c.is_one_range.ensures ∙ c.if-not-is_one_range.true))

pub swap_remove-operand-requires : goal.swap_remove-operand-requires
swap_remove-operand-requires c =
    let some = range_first c.args.arguments.items (ap (λ xs. is_one_range (map typed_view xs)) (sym c.deref.ensures.value) ∙ sym c.is_one_range.ensures ∙ c.if-not-is_one_range.false) in
    omega (arith, some, c.args.arguments.ok.0)

pub returns : goal.returns
returns c = sym (range_taken c.args.is_name c.args.arguments.items c.swap_remove-operand.result c.in-Interval.range (ap (λ xs. is_one_range (map typed_view xs)) (sym c.deref.ensures.value) ∙ sym c.is_one_range.ensures ∙ c.if-not-is_one_range.false) c.swap_remove-operand.ensures.value c.in-Interval.is)

pub unreachable-requires : goal.unreachable-requires
unreachable-requires c = range_alone c.args.arguments.items c.swap_remove-operand.result (ap (λ xs. is_one_range (map typed_view xs)) (sym c.deref.ensures.value) ∙ sym c.is_one_range.ensures ∙ c.if-not-is_one_range.false) c.swap_remove-operand.ensures.value c.in_default.not-Interval
