use Rattle.std.proofs.Common.{◌≡◌, drop}
use Rattle.vhdl_names_rules.specs.Files.{labelled}
use Rattle.vhdl_names_rules.specs.problems.Declarations.{standing_twice}
use Rattle.vhdl_names_sight.specs.Views.{region_view}
use Rattle.vhdl_names_declarations.specs.Entered.{more}
use Rattle.vhdl_names_interfaces.proofs.Asserting.{names_of_these, labels_of_these}
use Rattle.vhdl_names_interfaces.proofs.interface.labels_in.Given as goal

-- what is left, on what is done, gives the whole; of what is left the same is told
abbrev pub invariant-loop-assertion : goal.invariant-loop-assertion
invariant-loop-assertion l =
    (more (region_view l.initial.region) (labelled (names_of_these l.assertions)) ≡ more (region_view l.region) (labelled (names_of_these (drop l.assertion-index l.assertions))))
    × (standing_twice (region_view l.initial.region) (labels_of_these l.assertions) ≡ standing_twice (region_view l.region) (labels_of_these (drop l.assertion-index l.assertions)))
