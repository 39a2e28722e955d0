-- Which rules statements and assignments break, in the parts in which the code comes to them.
use Rattle.std.specs.Prelude.{◌≡◌, ℕ, Bool, true, false, not, List, [], ◌∷◌, ◌++◌, filter_map, Option, Some, None, Vec}
use Rattle.std.specs.Global.{Global}
use Rattle.vhdl_tree.specs.Tree as t
use Rattle.vhdl_tree.specs.Tree.{Ident}
use Rattle.vhdl_names_rules.specs.declared.kind.ObjectType.{ObjectType}
use Rattle.vhdl_names_rules.specs.declared.fault.NameProblem.TheVariants.{WrongKind, ChoiceTwice}
use Rattle.vhdl_names_rules.specs.Rules.{each}
use Rattle.vhdl_names_rules.specs.Visibility.{Name, Sight}
use Rattle.vhdl_names_rules.specs.Choices as are
use Rattle.vhdl_names_rules.specs.problems.Broken.{Broken, nothing, ◌▸◌, unless, where_given, any_of, of_any}
use Rattle.vhdl_names_rules.specs.problems.Places.{choice_place}
use Rattle.vhdl_names_rules.specs.problems.Expressions.{condition}
use Rattle.vhdl_names_rules.specs.problems.Choices.{choice, choices}
use Rattle.vhdl_names_rules.specs.problems.Covered.{is_empty, covered, any_alternative}
use Rattle.vhdl_names_rules.specs.problems.Statements as broken
use Rattle.vhdl_names_units.specs.declared.sequential.Alternative.{Alternative}
use Rattle.vhdl_names_units.specs.views.Sequential.{alternatives_view}
use Rattle.vhdl_names_statements.specs.steps.Cases as cases
use Rattle.vhdl_names_statements.specs.steps.Keys as keyed
use Rattle.vhdl_names_statements.specs.steps.Keys.{is_taken}

-- ---- assignments

abbrev pub assigned : Sight → (is_variable : Bool) → t.Name → t.Value → Broken
assigned sight false n v = broken.assigned sight n v
assigned sight true n v = broken.variable_assigned sight n v

-- value when condition
abbrev pub waveform : Sight → (is_variable : Bool) → t.Name → t.Branch → Broken
waveform sight is_variable n b = assigned sight is_variable n b.value ▸ condition sight b.condition

-- values under conditions, or where none holds
abbrev pub branched : Sight → (is_variable : Bool) → t.Name → List t.Branch → Option t.Value → Broken
branched sight is_variable n bs o = any_of (waveform sight is_variable n) bs ▸ of_any (assigned sight is_variable n) o

-- ---- statements with statements in them

abbrev pub labelled : Sight → t.Sequential → Broken
labelled sight q = broken.statement sight q.label q.statement

abbrev pub guarded : Sight → t.Conditional → Broken
guarded sight b = condition sight b.condition ▸ broken.statements sight (t.statements_of b.statements)

abbrev pub alternative : Sight → ObjectType → t.Alternative → Broken
alternative sight type a = choices sight type a.choices ▸ broken.statements sight (t.statements_of a.statements)

-- a case by a value of this type, which starts at this byte
abbrev pub parts : Sight → ObjectType → Option Ident → ℕ → List t.Alternative → Option Ident → Broken
parts sight type label at alts end =
    covered sight type at (cases.choice_lists alts) (broken.alternatives sight type (t.alternatives_of alts))
    ▸ broken.end_label label end ▸ any_alternative at (cases.choice_lists alts)

-- ---- choices as they stand, told apart by their keys

-- the keys of those that are given
abbrev pub keys_of : Sight → ObjectType → List t.Choice → List Name
keys_of sight type cs = keyed.keys_of (filter_map (are.choice sight type) cs)

-- with those of choices, one after another
abbrev pub with_choice : Sight → ObjectType → List Name → t.Choice → List Name
with_choice sight type keys c = keys ++ keys_of sight type (c ∷ [])

abbrev pub with_list : Sight → ObjectType → List Name → List t.Choice → List Name
with_list sight type keys [] = keys
with_list sight type keys (c ∷ cs) = with_list sight type (with_choice sight type keys c) cs

abbrev pub with_lists : Sight → ObjectType → List Name → List (List t.Choice) → List Name
with_lists sight type keys [] = keys
with_lists sight type keys (cs ∷ rest) = with_lists sight type (with_list sight type keys cs) rest

abbrev pub once : Sight → ObjectType → List Name → t.Choice → Broken
once sight type keys c =
    choice sight type c
    ▸ where_given (are.choice sight type c) (λ x. unless ChoiceTwice (choice_place c) (not (is_taken keys x)))

abbrev pub each_once : Sight → ObjectType → List Name → List t.Choice → Broken
each_once sight type keys [] = nothing
each_once sight type keys (c ∷ cs) = once sight type keys c ▸ each_once sight type (with_choice sight type keys c) cs

-- where others stands, if it stands alone
abbrev pub others_alone : List t.Choice → Option ℕ
others_alone (t.otherwise at ∷ []) = Some at
others_alone _ = None

abbrev pub alternative_in_place : Sight → ObjectType → List Name → Bool → List t.Choice → Broken
alternative_in_place sight type keys is_last (t.otherwise at ∷ []) = unless WrongKind at is_last
alternative_in_place sight type keys is_last cs = each_once sight type keys cs

abbrev pub in_place : Sight → ObjectType → List Name → List (List t.Choice) → Broken
in_place sight type keys [] = nothing
in_place sight type keys (cs ∷ rest) =
    alternative_in_place sight type keys (is_empty rest) cs ▸ in_place sight type (with_list sight type keys cs) rest

-- alternatives whose choices are those that stand there
abbrev pub HasChoices : Sight → ObjectType → List (List t.Choice) → Vec Alternative Global → Type 0
HasChoices sight type lists all = each (are.choices sight type) lists ≡ Some (cases.choices_of (alternatives_view all))
