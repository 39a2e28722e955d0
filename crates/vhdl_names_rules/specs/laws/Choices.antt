-- The laws of choices (IEEE 1076-2008, 10.9).
use Rattle.std.specs.Prelude.{◌≡◌, ℕ, suc, ◌<◌, false, List, [], ◌∷◌, flat_map, length, slice_get, Some}
use Rattle.vhdl_tree.specs.Tree as t
use Rattle.vhdl_names_rules.specs.declared.kind.ObjectType.{ObjectType}
use Rattle.vhdl_names_rules.specs.units.Statements.{Choice}
use Rattle.vhdl_names_rules.specs.Visibility.{Sight}
use Rattle.vhdl_names_rules.specs.Choices.{same_choice, covered}

-- No two choices, of one alternative or of several, are the same.
abbrev pub ChoicesDiffer : Type 0
ChoicesDiffer = (sight : Sight) (type : ObjectType) (alternatives : List (List t.Choice)) (css : List (List Choice))
    → covered sight type alternatives ≡ Some css
    → (i j : ℕ) (c d : Choice) → i < j → slice_get (flat_map (λ cs. cs) css) i ≡ Some c
    → slice_get (flat_map (λ cs. cs) css) j ≡ Some d
    → same_choice c d ≡ false

-- Where others stands, it is in the last alternative, and alone.
abbrev pub OthersIsLast : Type 0
OthersIsLast = (sight : Sight) (type : ObjectType) (alternatives : List (List t.Choice)) (css : List (List Choice))
    → covered sight type alternatives ≡ Some css
    → (k place at : ℕ) (cs : List t.Choice) → slice_get alternatives k ≡ Some cs
    → slice_get cs place ≡ Some (t.otherwise at)
    → (suc k ≡ length alternatives) × (cs ≡ t.otherwise at ∷ [])
