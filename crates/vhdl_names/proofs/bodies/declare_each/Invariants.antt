use Rattle.std.proofs.Common.{drop}
use Rattle.vhdl_names_sight.specs.Views.{region_view}
use Rattle.vhdl_names_declarations.proofs.Labelling.{labels_in}
use Rattle.vhdl_names.proofs.Labels.{Labelled}
use Rattle.vhdl_names.proofs.bodies.declare_each.Given as goal

abbrev pub invariant-loop-statement : goal.invariant-loop-statement
invariant-loop-statement l = Labelled (region_view l.initial.region) (labels_in l.statements) (region_view l.region) l.told (labels_in (drop l.statement-index l.statements))
