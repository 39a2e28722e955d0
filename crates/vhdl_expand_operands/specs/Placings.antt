-- What contracts see of the elements of an aggregate.
use Rattle.std.specs.Prelude.{ℕ, List, ℤ}
use Rattle.std.specs.Borrow.{Bor}
use Rattle.rtl_model.specs.bodies.Body as bodies
use Rattle.vhdl_expand_rules.specs.Aggregates as definition
use Rattle.vhdl_expand_operands.specs.Operands.{operand_view}
use Rattle.vhdl_expand_operands.specs.declared.indexes.Indexes.{Indexes}
use Rattle.vhdl_expand_operands.specs.declared.row.Element.{Element}
use Rattle.vhdl_expand_operands.specs.declared.placed.Neighbours.{Neighbours}
use Rattle.vhdl_expand_operands.specs.declared.placed.Placed.{Placed}
use Rattle.vhdl_expand_operands.specs.declared.placed.Placed.TheVariants as p

abbrev pub indexes_view : Indexes → List ℤ
indexes_view x = x.numbers.items

abbrev pub element_view : Bor Element → bodies.Expr
element_view e = operand_view e.now.operand

abbrev pub placed_view : Placed → definition.Placed
placed_view (p.Next o) = definition.next (operand_view o)
placed_view (p.Chosen is e) = definition.chosen is.items (operand_view e.operand)
placed_view (p.Others e) = definition.others (operand_view e.operand)

abbrev pub run_view : Neighbours → ℕ × ℕ
run_view r = (r.number, r.count)
