-- Case statements and selected assignments in the order in which the code comes to their parts.
use Rattle.std.specs.Prelude.{ℕ, Bool, true, false, List, [], ◌∷◌, map, flat_map, Option, Some, ◌||◌}
use Rattle.std.specs.List.{list_all, range_with_len}
use Rattle.std.specs.Borrow.{Bor}
use Rattle.vhdl_tree.specs.declared.expression.Choice.{Choice}
use Rattle.vhdl_tree.specs.View.{choice_view}
use Rattle.vhdl_tree.specs.Tree as t
use Rattle.vhdl_tree.specs.Tree.{Ident}
use Rattle.vhdl_names_rules.specs.declared.kind.ObjectType.{ObjectType}
use Rattle.vhdl_names_rules.specs.declared.kind.ObjectType.TheVariants.{Elements, Enumeration, Integers, Booleans}
use Rattle.vhdl_names_rules.specs.units.Statements as s
use Rattle.vhdl_names_rules.specs.declared.fault.NameProblem.TheVariants.{WrongKind, NoOthers, ChoiceTwice}
use Rattle.vhdl_names_rules.specs.Rules.{◌>>=◌, ◌>>◌, rule, each}
use Rattle.vhdl_names_rules.specs.Visibility.{Name, Sight, label_ends, is_among, are_distinct}
use Rattle.vhdl_names_rules.specs.Choices as rules
use Rattle.vhdl_names_rules.specs.Choices.{choices, only_last_others, is_last_others, names_all}
use Rattle.vhdl_names_asked.specs.Asked.{selected_by}
use Rattle.vhdl_names_units.specs.views.Answers.{choices_view}
use Rattle.vhdl_names_units.specs.views.Sequential.{Chosen, chosen_by, statements_of, alternatives_of, alternatives_view, body_view, last_alternative}
use Rattle.vhdl_names_statements.specs.declared.choices.Divided.{Divided}
use Rattle.vhdl_names_statements.specs.steps.Keys.{keys_of}
use Rattle.vhdl_names_statements.specs.steps.Sequential.{all_labelled}

-- the choices of an alternative, and what it does
abbrev pub chosen : Sight → ObjectType → t.Alternative → Option Chosen
chosen sight type a = do
  cs ← choices sight type a.choices
  xs ← all_labelled sight a.statements
  Some (chosen_by cs xs)

abbrev pub all_choices : List Chosen → List s.Choice
all_choices alts = flat_map (λ (a : Chosen). a.choices) alts

-- what choices of all alternatives are asked
abbrev pub cover : ObjectType → List (List t.Choice) → List s.Choice → Option (Unit {0})
cover type lists cs = do
  rule WrongKind (only_last_others lists)
  rule ChoiceTwice (are_distinct (keys_of cs))
  rule NoOthers (is_last_others lists || names_all type cs)

abbrev pub choices_of : List Chosen → List (List s.Choice)
choices_of all = map (λ (a : Chosen). a.choices) all

-- alternatives whose choices are as they are asked to be
abbrev pub covering : ObjectType → List (List t.Choice) → Option (List Chosen) → Option (List Chosen)
covering type lists found = found >>= λ all. cover type lists (all_choices all) >>= λ _. Some all

abbrev pub bodies_of : List Chosen → List s.Statements
bodies_of all = map (λ (a : Chosen). statements_of a.statements) all

-- the last one is done otherwise
abbrev pub arranged : List Chosen → Option s.Alternatives
arranged all = rules.arranged (choices_of all) (bodies_of all)

-- whether its choices are of integers, as the first one is
abbrev pub is_numbers : s.Choice → Bool
is_numbers (s.numbers i) = true
is_numbers _ = false

abbrev pub are_numbers : List s.Choice → Bool
are_numbers [] = false
are_numbers (c ∷ cs) = is_numbers c

abbrev pub arranged_view : Divided → s.Alternatives
arranged_view a =
    alternatives_of (alternatives_view a.alternatives) (last_alternative (choices_view a.last) (body_view a.others))

abbrev pub choice_lists : List t.Alternative → List (List t.Choice)
choice_lists = map (λ a. a.choices)

-- what is done by a value of this type
abbrev pub parts : Sight → ObjectType → Option Ident → List t.Alternative → Option Ident → Option s.Alternatives
parts sight type label alts end = do
  all ← covering type (choice_lists alts) (each (chosen sight type) alts)
  rule WrongKind (label_ends label end)
  arranged all

-- a case that starts at this byte
abbrev pub selection : Sight → Option Ident → (at : ℕ) → t.Expr → List t.Alternative → Option Ident → Option s.Statement
selection sight label at e alts end = do
  by ← selected_by sight e
  all ← parts sight by.0 label alts end
  Some (rules.selecting at by.1 all)

-- ---- tables of choices

-- each of the first so many literals has its key
abbrev pub has_positions : List Name → (count : ℕ) → Bool
has_positions keys count = list_all (λ p. is_among (9 ∷ p ∷ []) keys) (range_with_len 0 count)

abbrev pub has_all : ObjectType → List Name → Bool
has_all (Elements k) keys = false
has_all (Enumeration e count) keys = has_positions keys count
has_all Booleans keys = has_positions keys 2
has_all Integers keys = true

abbrev pub choice_list : Bor (List Choice) → List t.Choice
choice_list b = map choice_view b.now

abbrev pub all_lists : List (Bor (List Choice)) → List (List t.Choice)
all_lists = map choice_list
