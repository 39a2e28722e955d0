use Rattle.std.proofs.Common.{◌∙◌, ap, replicate, sym, arith}
use Rattle.vhdl_values.proofs.Shifting.{shifted_right-all, shifted_right-part}
use Rattle.vhdl_values.proofs.vector.Vec9.moved_right.Goals as goal

pub returns-then-count-len-clause-list : goal.returns-then-count-len-clause-list
returns-then-count-len-clause-list c =
    c.concat.ensures.list
    ∙ rw (c.fill.ensures.list, c.slice.ensures.list, c.len-len.ensures.len) (sym (shifted_right-part c.args.filler c.args.count c.args.self.now (omega arith)))

pub returns-else-count-len-clause-list : goal.returns-else-count-len-clause-list
returns-else-count-len-clause-list c =
    c.fill-else-count-len.ensures.list
    ∙ ap (λ n. replicate n c.args.filler) c.len-len.ensures.len
    ∙ sym (shifted_right-all c.args.filler c.args.count c.args.self.now (omega arith))
