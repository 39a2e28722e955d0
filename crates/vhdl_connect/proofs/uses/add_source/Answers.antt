use Rattle.std.proofs.Common.{false, refl}
use Rattle.vhdl_connect.specs.declared.uses.Sources.TheVariants.{Zero}
use Rattle.vhdl_connect.proofs.Marking.{driven_there, driven_behind}
use Rattle.vhdl_connect.proofs.uses.add_source.Goals as goal

pub returns : goal.returns
returns c = λ driven read h. driven_there driven read c.args.uses.now c.args.element _ (record { sources = Zero; is_read = false }) _ c.if-element-uses.false refl c.and_one.ensures h

pub returns-then-element-uses : goal.returns-then-element-uses
returns-then-element-uses c = λ driven read h. driven_behind driven read c.args.uses.now c.args.element c.if-element-uses.true h
