use Rattle.std.proofs.Common.{◌≡◌, ◌+◌, length}
use Rattle.vhdl_names_rules.specs.problems.Aggregates as broken
use Rattle.vhdl_names_trees.specs.views.Expressions.{typed_elements_view}
use Rattle.vhdl_names_operators.proofs.Composing.{Fills}
use Rattle.vhdl_names_operators.proofs.aggregates.arranged.Given as goal

-- what is done and the values of what is left are those of all; what is left breaks first what all break first
abbrev pub invariant-loop-each : goal.invariant-loop-each
invariant-loop-each l = record {
  filled : Fills l.kind (typed_elements_view l.fn.elements.items) l.done.items l.each-iterator.rest.items;
  breaks :
      broken.each l.form.is_ranged l.form.is_named l.form.is_only l.kind (typed_elements_view l.fn.elements.items)
      ≡ broken.each l.form.is_ranged l.form.is_named l.form.is_only l.kind (typed_elements_view l.each-iterator.rest.items);
  counted : length l.done.items + length l.each-iterator.rest.items ≡ l.count;
}
