-- What is so of the units of a file is so of them in each language.
use Rattle.std.proofs.Common.{◌≡◌, Bool, true, ◌&&◌, [], ◌∷◌, map, Some, refl, ap, sym, ◌∙◌}
use Rattle.vhdl_lexer.specs.declared.language.Language.{Language}
use Rattle.vhdl_lexer.specs.declared.language.Language.TheVariants.{Profile, Wide}
use Rattle.vhdl_tree.specs.Tree.{File}
use Rattle.vhdl_tree.specs.grammar.Units.{IsFileIn}
use Rattle.vhdl_tree.proofs.Narrow.{files_are_wide}
use Rattle.vhdl_names_rules.specs.units.Units as u
use Rattle.vhdl_names_rules.specs.units.Units.{Units}
use Rattle.vhdl_names_rules.specs.Visibility.{are_distinct}
use Rattle.vhdl_names_rules.specs.Files.{units_of}
use Rattle.vhdl_names_rules.specs.Registers.{units_written, units_in}
use Rattle.vhdl_names_rules.specs.sound.Units.{are_sound}
use Rattle.vhdl_names_rules.specs.sound.Named.{are_named}
use Rattle.vhdl_names_rules.proofs.kept.Keeping.{mapped}
use Rattle.vhdl_names_laws.specs.Words.{small, HasWords}
use Rattle.vhdl_names_laws.specs.Laws.{small_ports_are_distinct}
use Rattle.vhdl_names_laws.proofs.Units.{units_are_sound}
use Rattle.vhdl_names_laws.proofs.Named.{units_are_named, small_ports_distinct}
use Rattle.vhdl_names_registers.proofs.Sound.{written_are_sound}
use Rattle.vhdl_names_registers.proofs.Named.{written_are_named}

module _ (holds : Units → Bool) (written : (units : Units) → holds units ≡ true → holds (units_written units) ≡ true) where
  -- what holds of the units, and stays where they are written anew
  in_each : (language : Language) (f : File) (units : Units) → ((units : Units) → units_of language f ≡ Some units → holds units ≡ true) → units_in language f ≡ Some units
      → holds units ≡ true
  in_each Profile f units h e = h units e
  in_each Wide f units h e =
      let m = mapped units_written (units_of Wide f) units e in
      ap holds (sym m.is) ∙ written m.value (h m.value m.from)

pub units_in_are_sound : (language : Language) (f : File) (units : Units) → IsFileIn language f → units_in language f ≡ Some units → are_sound units ≡ true
units_in_are_sound language f units formed e = in_each are_sound written_are_sound language f units (λ units q. units_are_sound language f units (files_are_wide language f formed) q) e

pub units_in_are_named : (language : Language) (f : File) (units : Units) → HasWords f → units_in language f ≡ Some units → are_named units ≡ true
units_in_are_named language f units has e = in_each are_named written_are_named language f units (λ units q. units_are_named language f units has q) e

-- no port is touched
ports_written : (units : Units) → small_ports_are_distinct (units_written units) ≡ small_ports_are_distinct units
ports_written [] = refl
ports_written (x ∷ xs) = ap (λ b. are_distinct (map (λ (p : u.Port). small p.object.name) x.ports) && b) (ports_written xs)

pub ports_in_are_distinct : (language : Language) (f : File) (units : Units) → HasWords f → units_in language f ≡ Some units → small_ports_are_distinct units ≡ true
ports_in_are_distinct language f units has e =
    in_each small_ports_are_distinct (λ units h. ports_written units ∙ h) language f units (λ units q. small_ports_distinct language f units has q) e
