use Rattle.std.proofs.Common.{false, refl}
use Rattle.vhdl_connect.specs.declared.uses.Sources.TheVariants.{Zero}
use Rattle.vhdl_connect.proofs.Marking.{read_there, read_behind}
use Rattle.vhdl_connect.proofs.uses.set_read.Goals as goal

pub returns : goal.returns
returns c = λ driven read h. read_there driven read c.args.uses.now c.args.element _ (record { sources = Zero; is_read = false }) c.if-element-uses.false refl h

pub returns-then-element-uses : goal.returns-then-element-uses
returns-then-element-uses c = λ driven read h. read_behind driven read c.args.uses.now c.args.element c.if-element-uses.true h
