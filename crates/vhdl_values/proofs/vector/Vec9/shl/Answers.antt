use Rattle.std.proofs.Common.{◌∙◌, ap, replicate, sym, arith}
use Rattle.vhdl_values.specs.declared.scalar.Nine.TheVariants.{Zero}
use Rattle.vhdl_values.proofs.Shifting.{shifted_left-all}
use Rattle.vhdl_values.proofs.vector.Vec9.shl.Goals as goal

pub returns-else-count-len-clause-list : goal.returns-else-count-len-clause-list
returns-else-count-len-clause-list c =
    c.fill-else-count-len.ensures.list
    ∙ ap (λ n. replicate n Zero) c.len-len.ensures.len
    ∙ sym (shifted_left-all c.args.count c.args.self.now (omega arith))
