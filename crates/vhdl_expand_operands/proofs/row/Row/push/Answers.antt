use Rattle.std.proofs.Common.{◌≡◌, ◌+◌, rules, arith}
use Rattle.std.proofs.lemmas.Grind.{common_steps}
use Rattle.vhdl_expand_operands.proofs.Rows.{row_more, row_longer}
use Rattle.vhdl_expand_operands.proofs.row.Row.push.Goals as goal

pub invariant_of-self-2 : goal.invariant_of-self-2
invariant_of-self-2 c =
    let s = c.args.self.now in
    let long : c.in-Some.len ≡ s.len + c.args.operand.width.len = first_of (search rules, grind (arith, common_steps)) in
    record { counted = row_longer s.operands.items c.push.new.self.items c.args.operand s.len c.in-Some.len c.in_ok-push.ensures.items s.counted long }

pub returns : goal.returns
returns c = row_more c.args.self.now.operands.items c.push.new.self.items c.args.operand c.in_ok-push.ensures.items
