use Rattle.std.proofs.Common.{◌≡◌, map, drop, length}
use Rattle.vhdl_names_rules.specs.Declarations.{literals}
use Rattle.vhdl_names_rules.specs.Visibility.{names_of}
use Rattle.vhdl_tree.specs.View.{ident_view}
use Rattle.vhdl_names_sight.specs.Views.{region_view}
use Rattle.vhdl_names_rules.specs.problems.Declarations.{standing_twice}
use Rattle.vhdl_names_declarations.specs.Entered.{more}
use Rattle.vhdl_names_declarations.proofs.enumeration.literals.Given as goal

-- what is left, on what is done, gives the whole; of what is left the same is told
abbrev pub invariant-loop-position : goal.invariant-loop-position
invariant-loop-position l =
    (more (region_view l.initial.region) (literals l.number (length l.literals) 0 (names_of (map ident_view l.literals)))
    ≡ more (region_view l.region) (literals l.number (length l.literals) l.position (names_of (map ident_view (drop l.position l.literals)))))
    × (standing_twice (region_view l.initial.region) (map ident_view l.literals) ≡ standing_twice (region_view l.region) (map ident_view (drop l.position l.literals)))
