-- What is told of the parts of statements is told of the whole.
use Rattle.std.proofs.Common.{◌≡◌, ℕ, Bool, true, false, ◌+◌, ◌<◌, arith, List, [], ◌∷◌, ◌++◌, map, length, get_or, drop, Option, Some, None, Result, IfErr, refl, ap, sym, ◌∙◌}
use Rattle.std.specs.Prelude.{IsErrAnd, option_map}
use Rattle.vhdl_tree.specs.Tree as t
use Rattle.vhdl_tree.specs.Tree.{Ident}
use Rattle.vhdl_tree.specs.View as tree
use Rattle.vhdl_tree.specs.declared.sequential.Case.{Case, out-Case}
use Rattle.vhdl_tree.specs.declared.sequential.If.{If, out-If}
use Rattle.vhdl_tree.specs.declared.sequential.For.{For, out-For}
use Rattle.vhdl_names_rules.specs.declared.kind.ObjectType.{ObjectType}
use Rattle.vhdl_names_rules.specs.declared.fault.NameFault.{NameFault}
use Rattle.vhdl_names_rules.specs.units.Expressions.{Range}
use Rattle.vhdl_names_rules.specs.units.Statements as s
use Rattle.vhdl_names_rules.specs.Rules.{◌>>=◌, each, if_any}
use Rattle.vhdl_names_rules.specs.Visibility.{Sight, within_loop}
use Rattle.vhdl_names_rules.specs.Operators.{Typed}
use Rattle.vhdl_names_rules.specs.Expressions as are
use Rattle.vhdl_names_rules.specs.Choices.{Selector, selector}
use Rattle.vhdl_names_rules.specs.Choices as chosen
use Rattle.vhdl_names_rules.proofs.laws.Rules.{comes}
use Rattle.vhdl_names_asked.specs.Asked.{selected_by}
use Rattle.vhdl_names_units.specs.views.Sequential.{Guarded, Chosen, statements_of}
use Rattle.vhdl_names_rules.specs.problems.Broken.{Broken, Tells, ◌▸◌, where_given, any_of}
use Rattle.vhdl_names_rules.specs.problems.Expressions.{condition, static_range}
use Rattle.vhdl_names_rules.specs.problems.Choices.{choices}
use Rattle.vhdl_names_rules.specs.problems.Choices as asked
use Rattle.vhdl_names_rules.specs.problems.Covered.{covered, any_alternative}
use Rattle.vhdl_names_rules.specs.problems.Statements as broken
use Rattle.vhdl_names_rules.specs.problems.Statements.{end_label, by_selector}
use Rattle.vhdl_names_rules.proofs.Telling.{IsKept, both_kept, behind_kept, told_same, told_left, told_right, told_given, told_on}
use Rattle.vhdl_names_rules.proofs.Passing.{told_second}
use Rattle.vhdl_names_rules.proofs.kept.Keeping.{nothing_kept}
use Rattle.vhdl_names_rules.proofs.kept.Expressions.{condition_kept, static_range_kept}
use Rattle.vhdl_names_rules.proofs.kept.Choices.{choices_kept, selected_by_kept}
use Rattle.vhdl_names_rules.proofs.kept.Statements.{statement_kept, statements_kept}
use Rattle.vhdl_names_units.specs.Lists.{in_turn, one_more}
use Rattle.vhdl_names_units.proofs.Behind.{next, next_told, next_left}
use Rattle.vhdl_names_statements.specs.steps.Cases as cases
use Rattle.vhdl_names_statements.specs.steps.Sequential as steps
use Rattle.vhdl_names_statements.specs.steps.Told as told
use Rattle.vhdl_names_statements.proofs.steps.Sequential.{statements_each, if_is, for_is}
use Rattle.vhdl_names_statements.proofs.steps.Cases.{case_is, lists_each}

-- ---- of parts

pub on_along : {X : Type 0} (a b : Broken) (r : Result X NameFault) → a ≡ b → IfErr r (Tells a) → IfErr r (Tells b)
on_along a b r e h = told_on a b r (λ f. told_same a b f e) h

-- what is told of what is given, behind what breaks nothing
pub told_wanted : {A X : Type 0} (a : Broken) (b : A → Broken) (o : Option A) (v : A) (fault : NameFault) (P : NameFault → Type 0) (r : Result X NameFault) → IsErrAnd r P
    → ((e : NameFault) → P e → e ≡ fault) → IsKept a → o ≡ Some v → Tells (b v) fault → IfErr r (Tells (a ▸ where_given o b))
told_wanted a b o v fault P r h same kept is told = told_second a (where_given o b) fault P r h same kept (told_given b o v fault is told)

pub three : (a b c : Broken) → (a ▸ b) ▸ c ≡ a ▸ (b ▸ c)
unfolding ◌▸◌
three None b c = refl
three (Some x) b c = refl

-- no things are fewer than one
pub none_below : {A : Type 0} (xs : List A) → length xs < 1 → xs ≡ []
none_below [] lt = refl
none_below (x ∷ xs) lt = absurd (omega (arith, lt))

-- ---- one of a list, whose others before it went well

module _ {A B : Type 0} (view : A → B) (xs : List A) (i : ℕ) (x : A) (lt : i < length xs) (is : x ≡ get_or xs i x) where
  pub more_done : {C : Type 0} (g : B → Option C) (done new : List C) (y : C) (all : Option (List C))
      → all ≡ in_turn (one_more g) done (map view (drop i xs)) → g (view x) ≡ Some y → new ≡ done ++ y ∷ []
      → all ≡ in_turn (one_more g) new (map view (drop (i + 1) xs))
  more_done {C} g done new y all inv h e =
      inv ∙ ap (λ l. in_turn (one_more g) done (map view l)) (next xs i x lt is)
      ∙ ap (λ (o : Option C). (o >>= λ y. Some (done ++ y ∷ [])) >>= λ z. in_turn (one_more g) z (map view (drop (i + 1) xs))) h
      ∙ ap (λ z. in_turn (one_more g) z (map view (drop (i + 1) xs))) (sym e)

  -- where it is refused, the whole is
  pub none_more : {C : Type 0} (g : B → Option C) (done : List C) (all : Option (List C)) → all ≡ in_turn (one_more g) done (map view (drop i xs)) → g (view x) ≡ None → all ≡ None
  none_more {C} g done all inv h =
      inv ∙ ap (λ l. in_turn (one_more g) done (map view l)) (next xs i x lt is)
      ∙ ap (λ (o : Option C). (o >>= λ y. Some (done ++ y ∷ [])) >>= λ z. in_turn (one_more g) z (map view (drop (i + 1) xs))) h

-- ---- a turn over one of a list, in a sight that is as it was

module _ {A B C : Type 0} (view : A → B) (g : Sight → B → Option C) (b : Sight → B → Broken) (sight now : Sight) (same : now ≡ sight)
    (xs : List A) (i : ℕ) (x : A) (lt : i < length xs) (is : x ≡ get_or xs i x) where
  abbrev whole : Broken
  whole = any_of (b sight) (map view xs)

  abbrev left : ℕ → Broken
  left k = any_of (b sight) (map view (drop k xs))

  abbrev given_left : List C → ℕ → Option (List C)
  given_left done k = in_turn (one_more (g sight)) done (map view (drop k xs))

  -- what is told of it is told of the whole
  pub turn_told : (all : Broken) (f : NameFault) → whole ≡ all → whole ≡ left i → Tells (b now (view x)) f → Tells all f
  turn_told all f e inv h = told_same whole all f e (next_told view xs i x lt is (b sight) f inv (told_same _ _ f (ap (λ o. b o (view x)) same) h))

  -- where it is refused, the whole is
  pub turn_none : (done : List C) (all : Option (List C)) → all ≡ given_left done i → g now (view x) ≡ None → all ≡ None
  turn_none done all inv h = none_more view xs i x lt is (g sight) done all inv (sym (ap (λ o. g o (view x)) same) ∙ h)

  -- where it goes well, what is left goes on
  pub turn_done : (after : Sight) (done new : List C) (y : C) (all : Option (List C)) → all ≡ given_left done i → whole ≡ left i → after ≡ now → g now (view x) ≡ Some y
      → new ≡ done ++ y ∷ [] → ((z : B) (w : C) → g sight z ≡ Some w → IsKept (b sight z)) → (after ≡ sight) × (all ≡ given_left new (i + 1)) × (whole ≡ left (i + 1))
  turn_done after done new y all inv told kept h e fine =
      let given : g sight (view x) ≡ Some y = sym (ap (λ o. g o (view x)) same) ∙ h in (
        kept ∙ same,
        more_done view xs i x lt is (g sight) done new y all inv given e,
        next_left view xs i x lt is (b sight) told (fine (view x) y given),
      )

-- ---- lists of statements, branches and alternatives

pub statements_any : (sight : Sight) (qs : List t.Sequential) → any_of (told.labelled sight) qs ≡ broken.statements sight (t.statements_of qs)
unfolding broken.statements
statements_any sight [] = refl
statements_any sight (q ∷ qs) = ap (λ b. broken.statement sight q.label q.statement ▸ b) (statements_any sight qs)

pub conditionals_any : (sight : Sight) (bs : List t.Conditional) → any_of (told.guarded sight) bs ≡ broken.conditionals sight (t.conditionals_of bs)
unfolding broken.conditionals
conditionals_any sight [] = refl
conditionals_any sight (b ∷ bs) =
    let c = condition sight b.condition in
    let x = broken.statements sight (t.statements_of b.statements) in
    three c x (any_of (told.guarded sight) bs) ∙ ap (λ r. c ▸ (x ▸ r)) (conditionals_any sight bs)

pub alternatives_any : (sight : Sight) (type : ObjectType) (alts : List t.Alternative)
    → any_of (told.alternative sight type) alts ≡ broken.alternatives sight type (t.alternatives_of alts)
unfolding broken.alternatives
alternatives_any sight type [] = refl
alternatives_any sight type (a ∷ alts) =
    let c = choices sight type a.choices in
    let x = broken.statements sight (t.statements_of a.statements) in
    three c x (any_of (told.alternative sight type) alts) ∙ ap (λ r. c ▸ (x ▸ r)) (alternatives_any sight type alts)

-- ---- what is given breaks nothing

pub labelled_kept : (sight : Sight) (q : t.Sequential) (y : s.Statement) → steps.labelled sight q ≡ Some y → IsKept (told.labelled sight q)
labelled_kept sight q y h = statement_kept q.statement sight q.label y h

pub all_kept : (sight : Sight) (qs : List t.Sequential) (ys : List s.Statement) → steps.all_labelled sight qs ≡ Some ys → IsKept (broken.statements sight (t.statements_of qs))
all_kept sight qs ys h = statements_kept (t.statements_of qs) sight (statements_of ys) (statements_each sight qs ∙ ap (option_map statements_of) h)

pub guarded_kept : (sight : Sight) (b : t.Conditional) (y : Guarded) → steps.guarded sight b ≡ Some y → IsKept (told.guarded sight b)
guarded_kept sight b y h =
    let c = comes (are.condition sight b.condition) _ y h in
    let xs = comes (steps.all_labelled sight b.statements) _ y c.rest in
    both_kept _ _ (condition_kept sight b.condition c.value c.is) (all_kept sight b.statements xs.value xs.is)

pub alternative_kept : (sight : Sight) (type : ObjectType) (a : t.Alternative) (y : Chosen) → cases.chosen sight type a ≡ Some y → IsKept (told.alternative sight type a)
alternative_kept sight type a y h =
    let c = comes (chosen.choices sight type a.choices) _ y h in
    let xs = comes (steps.all_labelled sight a.statements) _ y c.rest in
    both_kept _ _ (choices_kept sight type a.choices c.value c.is) (all_kept sight a.statements xs.value xs.is)

pub conditionals_kept : (sight : Sight) (bs : List t.Conditional) (ys : List Guarded) → each (steps.guarded sight) bs ≡ Some ys → IsKept (broken.conditionals sight (t.conditionals_of bs))
conditionals_kept sight bs ys h = sym (conditionals_any sight bs) ∙ go bs ys h
  where
    go : (bs : List t.Conditional) (ys : List Guarded) → each (steps.guarded sight) bs ≡ Some ys → IsKept (any_of (told.guarded sight) bs)
    go [] ys h = nothing_kept
    go (b ∷ bs) ys h =
        let c = comes (steps.guarded sight b) _ ys h in
        let d = comes (each (steps.guarded sight) bs) _ ys c.rest in
        both_kept _ _ (guarded_kept sight b c.value c.is) (go bs d.value d.is)

pub alternatives_kept : (sight : Sight) (type : ObjectType) (alts : List t.Alternative) (ys : List Chosen) → each (cases.chosen sight type) alts ≡ Some ys
    → IsKept (broken.alternatives sight type (t.alternatives_of alts))
alternatives_kept sight type alts ys h = sym (alternatives_any sight type alts) ∙ go alts ys h
  where
    go : (alts : List t.Alternative) (ys : List Chosen) → each (cases.chosen sight type) alts ≡ Some ys → IsKept (any_of (told.alternative sight type) alts)
    go [] ys h = nothing_kept
    go (a ∷ alts) ys h =
        let c = comes (cases.chosen sight type a) _ ys h in
        let d = comes (each (cases.chosen sight type) alts) _ ys c.rest in
        both_kept _ _ (alternative_kept sight type a c.value c.is) (go alts d.value d.is)

pub otherwise_kept : (sight : Sight) (o : Option (List t.Sequential)) (y : Option (List s.Statement)) → if_any (steps.all_labelled sight) o ≡ Some y
    → IsKept (broken.otherwise sight (t.otherwise_of o))
unfolding broken.otherwise
otherwise_kept sight None y h = nothing_kept
otherwise_kept sight (Some qs) y h = let c = comes (steps.all_labelled sight qs) _ y h in all_kept sight qs c.value c.is

-- ---- statements by their kinds

pub assigned_told : (sight : Sight) (label : Option Ident) (n : t.Name) (v : t.Value) → told.assigned sight false n v ≡ broken.statement sight label (t.assigned n v)
unfolding broken.statement
assigned_told sight label n v = refl

pub set_told : (sight : Sight) (label : Option Ident) (n : t.Name) (v : t.Value) → told.assigned sight true n v ≡ broken.statement sight label (t.variable_assigned n v)
unfolding broken.statement
set_told sight label n v = refl

pub conditional_told : (sight : Sight) (label : Option Ident) (b : Bool) (n : t.Name) (bs : List t.Branch) (o : Option t.Value) →
    broken.conditional sight b n bs o ≡ broken.statement sight label (t.assigned_when b n bs o)
unfolding broken.statement
conditional_told sight label b n bs o = refl

pub otherwise_done : (sight : Sight) (qs : List t.Sequential) → broken.statements sight (t.statements_of qs) ≡ broken.otherwise sight (t.else_do (t.statements_of qs))
unfolding broken.otherwise
otherwise_done sight qs = refl

-- ---- if statements and loops

module _ (sight : Sight) (label : Option Ident) (i : If) (f : NameFault) where
  abbrev if_label : Broken
  if_label = end_label label (tree.option_ident_view (out-If i).end_label)

  abbrev if_branches : Broken
  if_branches = broken.conditionals sight (t.conditionals_of (tree.conditionals_view (out-If i).branches))

  abbrev if_otherwise : Broken
  if_otherwise = broken.otherwise sight (t.otherwise_of (tree.option_sequentials_view (out-If i).otherwise))

  if_told : Tells (if_branches ▸ (if_otherwise ▸ if_label)) f → Tells (broken.statement sight label (tree.if_view i)) f
  unfolding broken.statement
  if_told h = told_same (if_branches ▸ (if_otherwise ▸ if_label)) (broken.statement sight label (tree.if_view i)) f (sym (ap (broken.statement sight label) (if_is i))) h

  pub if_branch : Tells if_branches f → Tells (broken.statement sight label (tree.if_view i)) f
  if_branch h = if_told (told_left if_branches (if_otherwise ▸ if_label) f h)

  module _ (ys : List Guarded) (given : each (steps.guarded sight) (tree.conditionals_view (out-If i).branches) ≡ Some ys) where
    if_behind : Tells (if_otherwise ▸ if_label) f → Tells (broken.statement sight label (tree.if_view i)) f
    if_behind h = if_told (told_right if_branches (if_otherwise ▸ if_label) f (conditionals_kept sight (tree.conditionals_view (out-If i).branches) ys given) h)

    pub if_else : Tells if_otherwise f → Tells (broken.statement sight label (tree.if_view i)) f
    if_else h = if_behind (told_left if_otherwise if_label f h)

    pub if_ends : (y : Option (List s.Statement)) → if_any (steps.all_labelled sight) (tree.option_sequentials_view (out-If i).otherwise) ≡ Some y → Tells if_label f
        → Tells (broken.statement sight label (tree.if_view i)) f
    if_ends y e h = if_behind (told_right if_otherwise if_label f (otherwise_kept sight (tree.option_sequentials_view (out-If i).otherwise) y e) h)

module _ (sight : Sight) (label : Option Ident) (l : For) (f : NameFault) where
  abbrev for_label : Broken
  for_label = end_label label (tree.option_ident_view (out-For l).end_label)

  abbrev for_range : Broken
  for_range = static_range sight (tree.discrete_range_view (out-For l).range)

  abbrev for_sight : Sight
  for_sight = within_loop sight (tree.ident_view (out-For l).parameter)

  abbrev for_turn : Broken
  for_turn = broken.statements for_sight (t.statements_of (tree.sequentials_view (out-For l).statements))

  for_told : Tells (for_range ▸ (for_turn ▸ for_label)) f → Tells (broken.statement sight label (tree.for_view l)) f
  unfolding broken.statement
  for_told h = told_same (for_range ▸ (for_turn ▸ for_label)) (broken.statement sight label (tree.for_view l)) f (sym (ap (broken.statement sight label) (for_is l))) h

  pub loop_range : Tells for_range f → Tells (broken.statement sight label (tree.for_view l)) f
  loop_range h = for_told (told_left for_range (for_turn ▸ for_label) f h)

  module _ (r : Range) (given : are.static_range sight (tree.discrete_range_view (out-For l).range) ≡ Some r) where
    loop_behind : Tells (for_turn ▸ for_label) f → Tells (broken.statement sight label (tree.for_view l)) f
    loop_behind h = for_told (told_right for_range (for_turn ▸ for_label) f (static_range_kept sight (tree.discrete_range_view (out-For l).range) r given) h)

    pub loop_turn : Tells for_turn f → Tells (broken.statement sight label (tree.for_view l)) f
    loop_turn h = loop_behind (told_left for_turn for_label f h)

    pub loop_ends : (ys : List s.Statement) → steps.turn sight (tree.ident_view (out-For l).parameter) (tree.sequentials_view (out-For l).statements) ≡ Some ys
        → Tells for_label f → Tells (broken.statement sight label (tree.for_view l)) f
    loop_ends ys e h = loop_behind (told_right for_turn for_label f (all_kept for_sight (tree.sequentials_view (out-For l).statements) ys e) h)

-- ---- what is selected by

-- where the selector is given what is broken by its type is the whole
pub selector_given : (sight : Sight) (e : t.Expr) (b : ObjectType → Broken) (by : ObjectType × Selector) → selected_by sight e ≡ Some by → by_selector sight e b ≡ b by.0
selector_given sight e b by is =
    let x = comes (are.typed sight e) (selector sight.language) by is in
    behind_kept (asked.selected_by sight e) (where_given (are.typed sight e) (λ x. where_given (selector sight.language x) (λ k. b k.0))) (selected_by_kept sight e x.value by x.is x.rest)
    ∙ ap (λ (o : Option Typed). where_given o (λ x. where_given (selector sight.language x) (λ k. b k.0))) x.is
    ∙ ap (λ (o : Option (ObjectType × Selector)). where_given o (λ k. b k.0)) x.rest

-- ---- case statements

module _ (sight : Sight) (label : Option Ident) (c : Case) (f : NameFault) where
  abbrev case_alternatives : List t.Alternative
  case_alternatives = tree.alternatives_view (out-Case c).alternatives

  abbrev case_ends : Option Ident
  case_ends = tree.option_ident_view (out-Case c).end_label

  abbrev case_covers : List (List t.Choice) → ObjectType → Broken
  case_covers lists type = covered sight type (out-Case c).at lists (broken.alternatives sight type (t.alternatives_of case_alternatives))

  abbrev case_behind : List (List t.Choice) → Broken
  case_behind lists = end_label label case_ends ▸ any_alternative (out-Case c).at lists

  abbrev case_whole : List (List t.Choice) → Broken
  case_whole lists = by_selector sight (tree.view (out-Case c).selector) (case_covers lists) ▸ case_behind lists

  case_told : Tells (case_whole (cases.choice_lists case_alternatives)) f → Tells (broken.statement sight label (tree.case_view c)) f
  unfolding broken.statement
  case_told h =
      told_same (case_whole (cases.choice_lists case_alternatives)) (broken.statement sight label (tree.case_view c)) f
      (ap case_whole (sym (lists_each case_alternatives)) ∙ sym (ap (broken.statement sight label) (case_is c))) h

  pub case_selector : Tells (asked.selected_by sight (tree.view (out-Case c).selector)) f → Tells (broken.statement sight label (tree.case_view c)) f
  case_selector h =
      let lists = cases.choice_lists case_alternatives in
      let e = tree.view (out-Case c).selector in
      case_told (told_left (by_selector sight e (case_covers lists)) (case_behind lists) f (told_left (asked.selected_by sight e) _ f h))

  pub case_parts : (by : ObjectType × Selector) → selected_by sight (tree.view (out-Case c).selector) ≡ Some by
      → Tells (told.parts sight by.0 label (out-Case c).at case_alternatives case_ends) f → Tells (broken.statement sight label (tree.case_view c)) f
  case_parts by is h =
      let lists = cases.choice_lists case_alternatives in
      case_told (told_same (case_covers lists by.0 ▸ case_behind lists) (case_whole lists) f
      (ap (λ b. b ▸ case_behind lists) (sym (selector_given sight (tree.view (out-Case c).selector) (case_covers lists) by is))) h)
