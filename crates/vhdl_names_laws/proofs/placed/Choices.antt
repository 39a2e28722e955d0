-- What is told of choices stands at a piece of them.
use Rattle.std.proofs.Common.{ℕ, Bool, not, ◌||◌, List, [], ◌∷◌, ◌++◌, Some, None}
use Rattle.std.specs.Prelude.{flat_map}
use Rattle.std.specs.List.{AllByRecursion}
use Rattle.vhdl_tree.specs.Tree as t
use Rattle.vhdl_tree.specs.Tree.{Expr}
use Rattle.vhdl_tree.specs.grammar.Expressions.{spell, spell_choice}
use Rattle.vhdl_names_rules.specs.declared.kind.ObjectType.{ObjectType}
use Rattle.vhdl_names_rules.specs.declared.kind.ObjectType.TheVariants.{Integers}
use Rattle.vhdl_names_rules.specs.declared.fault.NameProblem.TheVariants.{WrongKind, NoOthers, ChoiceTwice, LeftOut}
use Rattle.vhdl_names_rules.specs.Rules.{each}
use Rattle.vhdl_names_rules.specs.Visibility as visibility
use Rattle.vhdl_names_rules.specs.Visibility.{Sight}
use Rattle.vhdl_names_rules.specs.Expressions.{typed_choice}
use Rattle.vhdl_names_rules.specs.Choices as are
use Rattle.vhdl_names_rules.specs.Choices.{named_choice, numbers_of, selector, is_last_others, names_all}
use Rattle.vhdl_names_rules.specs.problems.Broken.{Broken, any_of, lacking, unless}
use Rattle.vhdl_names_rules.specs.problems.Places.{start, choice_place}
use Rattle.vhdl_names_rules.specs.problems.Choices as broken
use Rattle.vhdl_names_rules.specs.problems.Choices.{choice_problem}
use Rattle.vhdl_names_rules.specs.problems.Covered.{stands, once, each_once, alternative_in_place, is_empty, in_place, covered, any_alternative}
use Rattle.vhdl_names_laws.proofs.placed.Told.{Stand, EachStands, first, Told, told_nothing, told_refused, told_unless, told_lacking, told_given, told_behind, told_earlier, told_any}
use Rattle.vhdl_names_laws.proofs.placed.Starts.{start_stands, choice_stands}
use Rattle.vhdl_names_laws.proofs.placed.Expressions as expressions
use Rattle.vhdl_names_laws.proofs.placed.Expressions.{meaning_told, asked_told}
use Rattle.vhdl_names_laws.proofs.placed.Subtypes.{literal_told}

-- ---- one choice

chosen_told : (P : ℕ → Type 0) (sight : Sight) (type : ObjectType) (e : Expr) → Stand P (spell e) → Told P (broken.chosen sight type e)
chosen_told P sight type (t.named n t.plain None) h =
    told_behind (meaning_told P sight n h.0)
    (told_given (visibility.meaning sight n.text) (λ d. lacking (choice_problem d) n.at (named_choice type d)) (λ d. told_lacking (choice_problem d) n.at (named_choice type d) h.0))
chosen_told P sight type (t.named n t.plain (Some a)) h = told_behind (meaning_told P sight n h.0) (told_refused LeftOut n.at h.0)
chosen_told P sight type (t.named n (t.arguments es) a) h = told_behind (meaning_told P sight n h.0) (told_refused LeftOut n.at h.0)
chosen_told P sight type (t.named n (t.sliced d direction e) a) h = told_behind (meaning_told P sight n h.0) (told_refused LeftOut n.at h.0)
chosen_told P sight type e h = literal_told P type e h

-- integers
integer_choice_told : (P : ℕ → Type 0) (sight : Sight) (c : t.Choice) → Stand P (spell_choice c) → Told P (broken.integer_choice sight c)
integer_choice_told P sight c h =
    told_behind (expressions.choice_told c P sight h)
    (told_given (typed_choice sight c) (λ x. lacking LeftOut (choice_place c) (numbers_of x)) (λ x. told_lacking LeftOut (choice_place c) (numbers_of x) (choice_stands P c h)))

choice_told : (P : ℕ → Type 0) (sight : Sight) (type : ObjectType) (c : t.Choice) → Stand P (spell_choice c) → Told P (broken.choice sight type c)
choice_told P sight Integers (t.otherwise at) h = told_refused WrongKind at h.0
choice_told P sight Integers c h = integer_choice_told P sight c h
choice_told P sight type (t.chosen e) h = chosen_told P sight type e h
choice_told P sight type (t.chosen_range d direction e) h = told_refused LeftOut (start d) (start_stands P d (first P (spell d) _ h))
choice_told P sight type (t.otherwise at) h = told_refused WrongKind at h.0

abbrev pub ChoicesStand : (ℕ → Type 0) → List t.Choice → Type 0
ChoicesStand P = EachStands P spell_choice

any_choice_told : (P : ℕ → Type 0) (sight : Sight) (type : ObjectType) (cs : List t.Choice) → ChoicesStand P cs → Told P (any_of (broken.choice sight type) cs)
any_choice_told P sight type cs h = told_any (λ c. Stand P (spell_choice c)) (broken.choice sight type) (choice_told P sight type) cs h

pub choices_told : (P : ℕ → Type 0) (sight : Sight) (type : ObjectType) (cs : List t.Choice) → ChoicesStand P cs → Told P (broken.choices sight type cs)
choices_told P sight type (t.otherwise at ∷ (c ∷ cs)) h = any_choice_told P sight type (t.otherwise at ∷ (c ∷ cs)) h
choices_told P sight type (t.chosen e ∷ cs) h = any_choice_told P sight type (t.chosen e ∷ cs) h
choices_told P sight type (t.chosen_range d direction e ∷ cs) h = any_choice_told P sight type (t.chosen_range d direction e ∷ cs) h
choices_told _ sight type _ h = told_nothing

pub selected_by_told : (P : ℕ → Type 0) (sight : Sight) (e : Expr) → Stand P (spell e) → Told P (broken.selected_by sight e)
selected_by_told P sight e h = asked_told P (selector sight.language) sight e h

-- ---- the choices of a whole case

once_told : (P : ℕ → Type 0) (sight : Sight) (type : ObjectType) (before : List t.Choice) (c : t.Choice) → Stand P (spell_choice c) → Told P (once sight type before c)
once_told P sight type before c h =
    told_behind (choice_told P sight type c h)
    (told_given (are.choice sight type c) (λ x. unless ChoiceTwice (choice_place c) (not (stands sight type before x)))
    (λ x. told_unless ChoiceTwice (choice_place c) (not (stands sight type before x)) (choice_stands P c h)))

each_once_told : (P : ℕ → Type 0) (sight : Sight) (type : ObjectType) (cs before : List t.Choice) → ChoicesStand P cs → Told P (each_once sight type before cs)
each_once_told P sight type [] before h = told_nothing
each_once_told P sight type (c ∷ cs) before h = told_behind (once_told P sight type before c h.0) (each_once_told P sight type cs (before ++ c ∷ []) h.1)

alternative_told : (P : ℕ → Type 0) (sight : Sight) (type : ObjectType) (before : List t.Choice) (is_last : Bool) (cs : List t.Choice) → ChoicesStand P cs
    → Told P (alternative_in_place sight type before is_last cs)
alternative_told P sight type before is_last [] h = told_nothing
alternative_told P sight type before is_last (t.otherwise at ∷ []) h = told_unless WrongKind at is_last h.0.0
alternative_told P sight type before is_last cs h = each_once_told P sight type cs before h

in_place_told : (P : ℕ → Type 0) (sight : Sight) (type : ObjectType) (css : List (List t.Choice)) (before : List t.Choice) → AllByRecursion (ChoicesStand P) css
    → Told P (in_place sight type before css)
in_place_told P sight type [] before h = told_nothing
in_place_told P sight type (cs ∷ rest) before h =
    told_behind (alternative_told P sight type before (is_empty rest) cs h.0) (in_place_told P sight type rest (before ++ cs) h.1)

pub covered_told : (P : ℕ → Type 0) (sight : Sight) (type : ObjectType) (at : ℕ) (css : List (List t.Choice)) (b : Broken) → P at → AllByRecursion (ChoicesStand P) css → Told P b
    → Told P (covered sight type at css b)
covered_told P sight type at css b h g told =
    told_behind (told_earlier (in_place_told P sight type css [] g) told)
    (told_given (each (are.choices sight type) css) (λ xss. unless NoOthers at (is_last_others css || names_all type (flat_map (λ xs. xs) xss)))
    (λ xss. told_unless NoOthers at (is_last_others css || names_all type (flat_map (λ xs. xs) xss)) h))

pub any_alternative_told : {A : Type 0} (P : ℕ → Type 0) (at : ℕ) (xs : List A) → P at → Told P (any_alternative at xs)
any_alternative_told P at xs h = told_unless LeftOut at (not (is_empty xs)) h
