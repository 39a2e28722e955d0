-- Units of a text, in which each name and label is an identifier: it has a letter.
use Rattle.std.specs.Prelude.{ℕ, Bool, true, false, ◌&&◌, List, [], ◌∷◌, map, Option, Some, None}
use Rattle.std.specs.List.{list_all}
use Rattle.vhdl_names_rules.specs.units.Units as u
use Rattle.vhdl_names_rules.specs.units.Units.{Units}

abbrev pub has_text : List ℕ → Bool
has_text [] = false
has_text (c ∷ cs) = true

abbrev pub label_is_named : Option (List ℕ) → Bool
label_is_named None = true
label_is_named (Some label) = has_text label

abbrev pub objects_are_named : List u.Object → Bool
objects_are_named os = list_all (λ (o : u.Object). has_text o.name) os

abbrev pub declaration_is_named : u.Declaration → Bool
declaration_is_named (u.Declaration.signal o) = has_text o.name
declaration_is_named (u.Declaration.variable o) = has_text o.name
declaration_is_named _ = true

unfoldable mutual
  pub concurrent_is_named : u.Concurrent → Bool
  concurrent_is_named (u.process p) = label_is_named p.label && list_all declaration_is_named p.declarations
  concurrent_is_named (u.instance x) = has_text x.label
  concurrent_is_named (u.generate_for at label r body) = has_text label && concurrents_are_named body
  concurrent_is_named (u.generate_if at label t body) = has_text label && concurrents_are_named body

  pub concurrents_are_named : u.Concurrents → Bool
  concurrents_are_named u.no_concurrents = true
  concurrents_are_named (u.concurrent x xs) = concurrent_is_named x && concurrents_are_named xs

abbrev pub architecture_is_named : Option u.Architecture → Bool
architecture_is_named None = true
architecture_is_named (Some a) = list_all declaration_is_named a.declarations && concurrents_are_named a.statements

abbrev pub entity_is_named : u.Entity → Bool
entity_is_named x =
    has_text x.name && objects_are_named (map (λ (p : u.Port). p.object) x.ports)
    && architecture_is_named x.architecture

unfoldable pub are_named : Units → Bool
are_named units = list_all entity_is_named units
