-- Enumerations as they enter a region.
use Rattle.std.specs.Prelude.{ℕ, nat_le, List, ◌∷◌, length, Option}
use Rattle.vhdl_tree.specs.Tree as t
use Rattle.vhdl_names_rules.specs.units.Units as u
use Rattle.vhdl_names_rules.specs.declared.fault.NameProblem.TheVariants.{LeftOut}
use Rattle.vhdl_names_rules.specs.Rules.{◌>>◌, rule}
use Rattle.vhdl_names_rules.specs.Visibility as visibility
use Rattle.vhdl_names_rules.specs.Visibility.{Sight, Declared, Declares, declare, declared_here, names_of}
use Rattle.vhdl_names_rules.specs.Declarations.{literals, enumeration_in}
use Rattle.vhdl_names_declarations.specs.Entered.{more}

-- a type of this number, and its literals
abbrev pub enumerated : List Declared → ℕ → t.Enumeration → Option (List Declared)
enumerated region number d = do
  rule LeftOut (nat_le (length d.literals) 256)
  more region (declare d.name.text (visibility.enumeration_type number (length d.literals))
      ∷ literals number (length d.literals) 0 (names_of d.literals))

-- of a process
abbrev pub of_process : Sight → t.Enumeration → Option (Declares u.Declaration)
of_process sight d = enumeration_in (declared_here sight) d
