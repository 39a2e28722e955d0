-- Names and labels stay where registers are written anew.
use Rattle.std.proofs.Common.{◌≡◌, true, ◌&&◌, [], ◌∷◌, map, Option, Some, None, refl, ap, ◌∙◌}
use Rattle.std.specs.Prelude.{option_map}
use Rattle.std.specs.List.{list_all}
use Rattle.vhdl_names_rules.specs.units.Units as u
use Rattle.vhdl_names_rules.specs.units.Units.{Units}
use Rattle.vhdl_names_rules.specs.Registers.{concurrent_written, concurrents_written, architecture_written, units_written}
use Rattle.vhdl_names_rules.specs.sound.Named.{has_text, objects_are_named, declaration_is_named, concurrent_is_named, concurrents_are_named, architecture_is_named, entity_is_named, are_named}

mutual
  unfolding concurrent_is_named concurrent_written

  concurrent_same : (x : u.Concurrent) → concurrent_is_named (concurrent_written x) ≡ concurrent_is_named x
  concurrent_same (u.process p) = refl
  concurrent_same (u.instance x) = refl
  concurrent_same (u.generate_for at label r body) = ap (λ b. has_text label && b) (concurrents_same body)
  concurrent_same (u.generate_if at label t body) = ap (λ b. has_text label && b) (concurrents_same body)

  concurrents_same : (xs : u.Concurrents) → concurrents_are_named (concurrents_written xs) ≡ concurrents_are_named xs
  concurrents_same u.no_concurrents = refl
  concurrents_same (u.concurrent x xs) =
      ap (λ b. b && concurrents_are_named (concurrents_written xs)) (concurrent_same x) ∙ ap (λ b. concurrent_is_named x && b) (concurrents_same xs)

architecture_same : (o : Option u.Architecture) → architecture_is_named (option_map architecture_written o) ≡ architecture_is_named o
architecture_same None = refl
architecture_same (Some a) = ap (λ b. list_all declaration_is_named a.declarations && b) (concurrents_same a.statements)

entities_same : (xs : Units) → list_all entity_is_named (units_written xs) ≡ list_all entity_is_named xs
entities_same [] = refl
entities_same (x ∷ xs) =
    ap (λ b. has_text x.name && objects_are_named (map (λ (p : u.Port). p.object) x.ports) && b && list_all entity_is_named (units_written xs)) (architecture_same x.architecture)
    ∙ ap (λ b. entity_is_named x && b) (entities_same xs)

pub written_are_named : (units : Units) → are_named units ≡ true → are_named (units_written units) ≡ true
unfolding are_named
written_are_named units h = entities_same units ∙ h
