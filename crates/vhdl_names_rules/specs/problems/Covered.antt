-- Which rules the choices of a whole case statement or selected assignment break, as they stand (IEEE 1076-2008, 10.9
-- and 11.6).
use Rattle.std.specs.Prelude.{ℕ, Bool, true, false, not, ◌||◌, List, [], ◌∷◌, ◌++◌, flat_map, filter_map}
use Rattle.std.specs.List.{list_any}
use Rattle.vhdl_tree.specs.Tree as t
use Rattle.vhdl_names_rules.specs.declared.kind.ObjectType.{ObjectType}
use Rattle.vhdl_names_rules.specs.declared.fault.NameProblem.TheVariants.{WrongKind, NoOthers, ChoiceTwice, LeftOut}
use Rattle.vhdl_names_rules.specs.units.Statements as units
use Rattle.vhdl_names_rules.specs.Rules.{each}
use Rattle.vhdl_names_rules.specs.Visibility.{Sight}
use Rattle.vhdl_names_rules.specs.Choices as are
use Rattle.vhdl_names_rules.specs.Choices.{same_choice, is_last_others, names_all}
use Rattle.vhdl_names_rules.specs.problems.Broken.{Broken, nothing, ◌▸◌, earlier, unless, where_given}
use Rattle.vhdl_names_rules.specs.problems.Places.{choice_place}
use Rattle.vhdl_names_rules.specs.problems.Choices.{choice}

-- ---- one choice after another

-- a choice that one of these before it is
abbrev pub stands : Sight → ObjectType → List t.Choice → units.Choice → Bool
stands sight type before x = list_any (same_choice x) (filter_map (are.choice sight type) before)

-- a choice by itself, which none before it is
abbrev pub once : Sight → ObjectType → List t.Choice → t.Choice → Broken
once sight type before c =
    choice sight type c ▸ where_given (are.choice sight type c)
    (λ x. unless ChoiceTwice (choice_place c) (not (stands sight type before x)))

abbrev pub each_once : Sight → ObjectType → List t.Choice → List t.Choice → Broken
each_once sight type before [] = nothing
each_once sight type before (c ∷ cs) = once sight type before c ▸ each_once sight type (before ++ c ∷ []) cs

-- ---- one alternative after another

-- others alone stands in the last one
abbrev pub alternative_in_place : Sight → ObjectType → List t.Choice → (is_last : Bool) → List t.Choice → Broken
alternative_in_place sight type before is_last (t.otherwise at ∷ []) = unless WrongKind at is_last
alternative_in_place sight type before is_last cs = each_once sight type before cs

abbrev pub is_empty : {A : Type 0} → List A → Bool
is_empty [] = true
is_empty (x ∷ xs) = false

abbrev pub in_place : Sight → ObjectType → List t.Choice → List (List t.Choice) → Broken
in_place sight type before [] = nothing
in_place sight type before (cs ∷ rest) =
    alternative_in_place sight type before (is_empty rest) cs ▸ in_place sight type (before ++ cs) rest

-- others or each literal has to stand there, and an alternative: that is known at the end
abbrev pub complete : Sight → ObjectType → ℕ → List (List t.Choice) → Broken
complete sight type at alternatives =
    where_given (each (are.choices sight type) alternatives)
    (λ css. unless NoOthers at (is_last_others alternatives || names_all type (flat_map (λ cs. cs) css)))

-- the choices stand among what the alternatives are and do; the word at this byte begins all
abbrev pub covered : Sight → ObjectType → ℕ → List (List t.Choice) → Broken → Broken
covered sight type at alternatives broken =
    earlier (in_place sight type [] alternatives) broken ▸ complete sight type at alternatives

-- there is an alternative
abbrev pub any_alternative : {A : Type 0} → ℕ → List A → Broken
any_alternative at xs = unless LeftOut at (not (is_empty xs))
