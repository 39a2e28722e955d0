use Rattle.std.proofs.Common.{◌∙◌, ap, length, sym}
use Rattle.vhdl_values.specs.Logic.{logic_of_all}
use Rattle.vhdl_values.proofs.Lengths.{length-logic_of_all}
use Rattle.vhdl_values.proofs.Remade.{map-strip-logic}
use Rattle.vhdl_values.proofs.vector.Vec9.logic.Goals as goal

pub returns-clause-list : goal.returns-clause-list
returns-clause-list c =
    c.of_stripped.ensures (logic_of_all c.args.kind c.args.self.now c.args.other.now)
    (c.logic-stripped.ensures c.args.self.now c.args.other.now c.stripped.ensures c.stripped-2.ensures c.requires)
    (length-logic_of_all c.args.kind c.args.self.now c.args.other.now c.requires ∙ sym c.len.ensures.len)
    ∙ map-strip-logic c.args.kind c.args.self.now c.args.other.now

pub returns-clause-len : goal.returns-clause-len
returns-clause-len c = ap length (returns-clause-list c) ∙ length-logic_of_all c.args.kind c.args.self.now c.args.other.now c.requires
