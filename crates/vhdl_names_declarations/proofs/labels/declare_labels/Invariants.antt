use Rattle.std.proofs.Common.{◌≡◌, map, drop}
use Rattle.vhdl_names_rules.specs.Concurrent.{concurrent_labels}
use Rattle.vhdl_names_rules.specs.Files.{labelled}
use Rattle.vhdl_tree.specs.Tree.{concurrents_of}
use Rattle.vhdl_tree.specs.View.{concurrent_view}
use Rattle.vhdl_names_sight.specs.Views.{region_view}
use Rattle.vhdl_names_rules.specs.problems.Declarations.{standing_twice}
use Rattle.vhdl_names_rules.specs.problems.Labels.{labels_of}
use Rattle.vhdl_names_declarations.specs.Entered.{more}
use Rattle.vhdl_names_declarations.proofs.labels.declare_labels.Given as goal

-- what is left, on what is done, gives the whole; of what is left the same is told
abbrev pub invariant-loop-statement : goal.invariant-loop-statement
invariant-loop-statement l =
    (more (region_view l.initial.region) (labelled (concurrent_labels (concurrents_of (map concurrent_view l.statements))))
    ≡ more (region_view l.region) (labelled (concurrent_labels (concurrents_of (map concurrent_view (drop l.statement-index l.statements))))))
    × (standing_twice (region_view l.initial.region) (labels_of (concurrents_of (map concurrent_view l.statements)))
    ≡ standing_twice (region_view l.region) (labels_of (concurrents_of (map concurrent_view (drop l.statement-index l.statements)))))
