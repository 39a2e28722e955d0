use Rattle.std.proofs.Common.{ap}
use Rattle.vhdl_names_rules.specs.problems.Expressions.{of_ranged}
use Rattle.vhdl_names_trees.specs.views.Expressions.{typed_suffix_view}
use Rattle.vhdl_names_rules.proofs.Telling.{told_same}
use Rattle.vhdl_names_sight.specs.Views.{entry_of}
use Rattle.vhdl_tree.specs.View.{attribute_view}
use Rattle.vhdl_names_parts.proofs.ranges.range_attribute.Goals as goal

pub returns-in_default-clause-told : goal.returns-in_default-clause-told
returns-in_default-clause-told c =
    let a = attribute_view c.args.attribute.now in
    let s = typed_suffix_view c.args.suffix in
    λ n. told_same _ _ _ (ap (of_ranged c.args.at a (entry_of n c.args.entry.now) s) (c.in_default.ensures n)) (c.no_range.ensures n s)
