-- The entities of a file, unit by unit.
use Rattle.std.specs.Prelude.{List, [], ◌∷◌, Option, Some, option_map}
use Rattle.vhdl_lexer.specs.declared.language.Language.{Language}
use Rattle.vhdl_tree.specs.Tree as t
use Rattle.vhdl_tree.specs.Tree.{ContextItem, DesignUnit, LibraryUnit}
use Rattle.vhdl_names_rules.specs.Rules.{◌>>=◌}
use Rattle.vhdl_names_rules.specs.Interfaces.{EntityView, entity}
use Rattle.vhdl_names_rules.specs.problems.Files.{with_entities}
use Rattle.vhdl_names.specs.Views.{Keyed}
use Rattle.vhdl_names.specs.steps.Outlines.{described_of}

-- with the architectures of the file
module _ (language : Language) (as' : List Keyed) where
  -- an entity, seen with its architecture's name
  abbrev pub viewed_by : List ContextItem × t.Entity → Option EntityView
  viewed_by e = entity language e.0 e.1 (option_map (λ a. a.1.name.text) (described_of e.1.name.text as'))

  abbrev pub with_entity : List EntityView → List ContextItem → t.Entity → Option (List EntityView)
  with_entity es items e = viewed_by (items, e) >>= λ v. Some (with_entities es (v ∷ []))

  abbrev pub with_unit : List EntityView → DesignUnit → Option (List EntityView)
  with_unit es d = of_unit d.context d.unit
    where
      of_unit : List ContextItem → LibraryUnit → Option (List EntityView)
      of_unit items (t.LibraryUnit.entity e) = with_entity es items e
      of_unit items (t.architecture a) = Some es
