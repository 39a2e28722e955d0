-- Choices that are given break no rule (IEEE 1076-2008, 10.9 and 11.6).
use Rattle.std.proofs.Common.{◌≡◌, List, [], ◌∷◌, Option, Some, None}
use Rattle.vhdl_tree.specs.Tree as t
use Rattle.vhdl_tree.specs.Tree.{Expr, Ident, Attribute}
use Rattle.vhdl_names_rules.specs.declared.kind.ObjectType.{ObjectType}
use Rattle.vhdl_names_rules.specs.declared.kind.ObjectType.TheVariants.{Elements, Integers}
use Rattle.vhdl_names_rules.specs.declared.fault.NameProblem.TheVariants.{TypeMismatch, LeftOut}
use Rattle.vhdl_names_rules.specs.units.Statements as units
use Rattle.vhdl_names_rules.specs.units.Statements.{Choice}
use Rattle.vhdl_names_rules.specs.Rules.{◌>>=◌}
use Rattle.vhdl_names_rules.specs.Visibility.{Sight, meaning}
use Rattle.vhdl_names_rules.specs.Operators.{Typed}
use Rattle.vhdl_names_rules.specs.Subtypes.{literal_values}
use Rattle.vhdl_names_rules.specs.Expressions.{typed, typed_choice}
use Rattle.vhdl_names_rules.specs.Choices as are
use Rattle.vhdl_names_rules.specs.Choices.{literal_choice, named_choice, numbers_of, Selector, selector}
use Rattle.vhdl_names_rules.specs.problems.Broken.{lacking}
use Rattle.vhdl_names_rules.specs.problems.Places.{start, choice_place}
use Rattle.vhdl_names_rules.specs.problems.Subtypes.{literal}
use Rattle.vhdl_names_rules.specs.problems.Choices as broken
use Rattle.vhdl_names_rules.specs.problems.Choices.{choice_problem}
use Rattle.vhdl_names_rules.proofs.laws.Rules.{comes}
use Rattle.vhdl_names_rules.proofs.Telling.{IsKept, both_kept, lacking_kept, given_kept}
use Rattle.vhdl_names_rules.proofs.kept.Keeping.{nothing_kept, mapped, each_kept}
use Rattle.vhdl_names_rules.proofs.kept.Expressions.{meaning_kept, typed_kept, typed_choice_kept}
use Rattle.vhdl_names_rules.proofs.kept.Values.{literal_kept, no_literal}

-- ---- one choice

pub literal_choice_kept : (type : ObjectType) (e : Expr) (c : Choice) → literal_choice type e ≡ Some c → IsKept (literal type e)
literal_choice_kept (Elements k) e c h =
    let m = mapped units.values (literal_values k e) c h in
    literal_kept k e m.value m.from
literal_choice_kept _ d c h = absurd cc

no_literal_choice : (type : ObjectType) (n : Ident) (s : t.Suffix) (a : Option Attribute) (c : Choice) → literal_choice type (t.named n s a) ≡ Some c → ⊥
no_literal_choice (Elements k) n s a c h =
    let m = mapped units.values (literal_values k (t.named n s a)) c h in
    no_literal k n s a m.value m.from
no_literal_choice _ n s a c h = cc

pub chosen_kept : (sight : Sight) (type : ObjectType) (e : Expr) (c : Choice) → are.chosen sight type e ≡ Some c → IsKept (broken.chosen sight type e)
chosen_kept sight type (t.named n t.plain None) c h =
    let d = comes (meaning sight n.text) (named_choice type) c h in
    both_kept _ _ (meaning_kept sight n d.value d.is)
    (given_kept (λ d. lacking (choice_problem d) n.at (named_choice type d)) (meaning sight n.text) d.value d.is
    (lacking_kept (choice_problem d.value) n.at (named_choice type d.value) c d.rest))
chosen_kept sight type (t.named n t.plain (Some a)) c h = absurd (no_literal_choice type n t.plain (Some a) c h)
chosen_kept sight type (t.named n (t.arguments es) a) c h = absurd (no_literal_choice type n (t.arguments es) a c h)
chosen_kept sight type (t.named n (t.sliced l r y) a) c h = absurd (no_literal_choice type n (t.sliced l r y) a c h)
chosen_kept sight type e c h = literal_choice_kept type e c h

-- integers
integer_choice_kept : (sight : Sight) (x : t.Choice) (c : Choice) → (typed_choice sight x >>= numbers_of) ≡ Some c → IsKept (broken.integer_choice sight x)
integer_choice_kept sight x c h =
    let a = comes (typed_choice sight x) numbers_of c h in
    both_kept _ _ (typed_choice_kept x sight a.value a.is)
    (given_kept (λ y. lacking LeftOut (choice_place x) (numbers_of y)) (typed_choice sight x) a.value a.is
    (lacking_kept LeftOut (choice_place x) (numbers_of a.value) c a.rest))

pub choice_kept : (sight : Sight) (type : ObjectType) (x : t.Choice) (c : Choice) → are.choice sight type x ≡ Some c → IsKept (broken.choice sight type x)
unfolding typed
choice_kept sight Integers (t.otherwise at) c h = absurd cc
choice_kept sight Integers x c h = integer_choice_kept sight x c h
choice_kept sight type (t.chosen e) c h = chosen_kept sight type e c h
choice_kept sight type (t.chosen_range d direction e) c h = absurd cc
choice_kept sight type (t.otherwise at) c h = absurd cc

pub choices_kept : (sight : Sight) (type : ObjectType) (xs : List t.Choice) (cs : List Choice) → are.choices sight type xs ≡ Some cs → IsKept (broken.choices sight type xs)
choices_kept sight type (t.otherwise at ∷ []) cs h = nothing_kept
choices_kept sight type xs cs h = each_kept (broken.choice sight type) (are.choice sight type) (choice_kept sight type) xs cs h

-- ---- what a case selects by

pub selected_by_kept : (sight : Sight) (e : Expr) (x : Typed) (by : ObjectType × Selector) → typed sight e ≡ Some x → selector sight.language x ≡ Some by → IsKept (broken.selected_by sight e)
selected_by_kept sight e x by h g =
    both_kept _ _ (typed_kept e sight x h)
    (given_kept (λ x. lacking TypeMismatch (start e) (selector sight.language x)) (typed sight e) x h (lacking_kept TypeMismatch (start e) (selector sight.language x) by g))
