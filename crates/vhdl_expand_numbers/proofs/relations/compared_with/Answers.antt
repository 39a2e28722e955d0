use Rattle.std.proofs.Common.{ap}
use Rattle.rtl_model.specs.bodies.Body as bodies
use Rattle.vhdl_expand_rules.specs.Computed.{Number, natural}
use Rattle.vhdl_expand_operands.specs.Operands.{operand_view}
use Rattle.vhdl_expand_numbers.proofs.relations.compared_with.Goals as goal

pub returns : goal.returns
unfolding natural
returns c = ap (λ (n : Number). bodies.compared c.args.comparison n.digits (operand_view c.args.right)) c.in_ok-left.ensures
