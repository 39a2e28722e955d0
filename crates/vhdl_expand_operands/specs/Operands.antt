-- What contracts see of expanded expressions.
use Rattle.rtl_model.specs.bodies.Body as bodies
use Rattle.rtl_net.specs.Bodies.{expr_view, links_of}
use Rattle.vhdl_expand_operands.specs.declared.operand.Operand.{Operand}
use Rattle.vhdl_expand_operands.specs.declared.operand.Chain.{Chain}

abbrev pub operand_view : Operand → bodies.Expr
operand_view o = expr_view o.expr

abbrev pub chain_view : Chain → bodies.Expr
chain_view c = links_of (expr_view c.first.value) c.rest.items
