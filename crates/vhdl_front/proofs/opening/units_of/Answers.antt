use Rattle.std.proofs.Common.{sym, subst}
use Rattle.vhdl_tree.specs.View.{file_view}
use Rattle.vhdl_front_rules.specs.declared.fault.SourceFault.{SourceFault}
use Rattle.vhdl_front.specs.Steps.{HasNameFault}
use Rattle.vhdl_front.proofs.Layers.{no_units}
use Rattle.vhdl_front.proofs.opening.units_of.Goals as goal

pub returns-in-Err-clause-given : goal.returns-in-Err-clause-given
returns-in-Err-clause-given c =
    subst (λ (f : SourceFault). HasNameFault c.args.language (file_view c.args.file.now) f) (sym c.from.ensures)
    (no_units c.args.language (file_view c.args.file.now) c.in-Err.fault c.in-Err.ensures.given c.in-Err.ensures.told)
