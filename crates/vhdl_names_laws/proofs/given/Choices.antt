-- Choices that break no rule are given, and cover their selector (IEEE 1076-2008, 10.9 and 11.6).
use Rattle.std.proofs.Common.{◌≡◌, ℕ, Bool, true, false, not, ◌||◌, List, [], ◌∷◌, ◌++◌, length, Option, Some, None, refl, ap, sym, ◌∙◌, arith}
use Rattle.std.specs.List.{list_any, flat_map, filter_map}
use Rattle.std.proofs.lemmas.Bool.{and_from}
use Rattle.std.proofs.lemmas.List.{append_assoc, append-nil}
use Rattle.std.proofs.lemmas.List.Elements.{filter_map-append}
use Rattle.vhdl_tree.specs.Tree as t
use Rattle.vhdl_tree.specs.Tree.{Expr}
use Rattle.vhdl_names_rules.specs.declared.kind.ObjectType.{ObjectType}
use Rattle.vhdl_names_rules.specs.declared.kind.ObjectType.TheVariants.{Elements, Enumeration, Integers, Booleans}
use Rattle.vhdl_names_rules.specs.declared.fault.NameProblem.TheVariants.{WrongKind, TypeMismatch, NoOthers, ChoiceTwice, LeftOut}
use Rattle.vhdl_names_rules.specs.units.Statements as units
use Rattle.vhdl_names_rules.specs.units.Statements.{Choice, Statements, alternative}
use Rattle.vhdl_names_rules.specs.Rules.{◌>>=◌, each}
use Rattle.vhdl_names_rules.specs.Visibility.{Sight, meaning}
use Rattle.vhdl_names_rules.specs.Operators.{Typed}
use Rattle.vhdl_names_rules.specs.Subtypes.{literal_values}
use Rattle.vhdl_names_rules.specs.Expressions.{typed, typed_choice}
use Rattle.vhdl_names_rules.specs.Choices as are
use Rattle.vhdl_names_rules.specs.Choices.{literal_choice, named_choice, same_choice, are_distinct_choices, is_others, is_last_others, only_last_others, names_all, numbers_of, Selector, selector, last_by, arranged}
use Rattle.vhdl_names_rules.specs.problems.Broken.{Broken, unless, lacking, where_given}
use Rattle.vhdl_names_rules.specs.problems.Places.{start, choice_place}
use Rattle.vhdl_names_rules.specs.problems.Subtypes.{literal}
use Rattle.vhdl_names_rules.specs.problems.Choices as broken
use Rattle.vhdl_names_rules.specs.problems.Choices.{choice_problem}
use Rattle.vhdl_names_rules.specs.problems.Covered as covering
use Rattle.vhdl_names_rules.specs.problems.Covered.{stands, each_once, is_empty, alternative_in_place, in_place, any_alternative}
use Rattle.vhdl_names_rules.specs.problems.Statements.{by_selector}
use Rattle.vhdl_names_rules.proofs.laws.Rules.{comes, both, neither, some_is, not_true}
use Rattle.vhdl_names_rules.proofs.Telling.{IsKept}
use Rattle.vhdl_names_rules.proofs.kept.Keeping.{among_left, among_right}
use Rattle.vhdl_names_rules.proofs.kept.Covered as kept_choices
use Rattle.vhdl_names_rules.proofs.kept.Covered.{choice_sym, given_next}
use Rattle.vhdl_names_laws.proofs.given.Giving.{IsGiven, this, bound, bound_is, ruled_is, mapped_given, parts, holds, given, of_given, each_given}
use Rattle.vhdl_names_laws.proofs.given.Expressions.{meaning_given, typed_given}
use Rattle.vhdl_names_laws.proofs.given.Expressions as expressions
use Rattle.vhdl_names_laws.proofs.given.Values.{values_given, no_literal}

-- ---- one choice

literal_given : (type : ObjectType) (e : Expr) → IsKept (literal type e) → IsGiven (literal_choice type e)
literal_given (Elements k) e h = mapped_given units.values (literal_values k e) (values_given k e h)
literal_given (Enumeration n count) e h = absurd (no_literal (Enumeration n count) e refl refl h)
literal_given Integers e h = absurd (no_literal Integers e refl refl h)
literal_given Booleans e h = absurd (no_literal Booleans e refl refl h)

chosen_given : (sight : Sight) (type : ObjectType) (e : Expr) → IsKept (broken.chosen sight type e) → IsGiven (are.chosen sight type e)
chosen_given sight type (t.named n t.plain None) h =
    let k = parts _ _ h in
    let d = meaning_given sight n k.0 in
    bound (meaning sight n.text) (named_choice type) d.value d.is
    (given (choice_problem d.value) n.at (named_choice type d.value)
    (of_given (λ d. lacking (choice_problem d) n.at (named_choice type d)) (meaning sight n.text) d.value d.is k.1))
chosen_given sight type (t.named n s a) h =
    let none = (parts _ _ h).1 in
    absurd cc
chosen_given sight type e h = literal_given type e h

-- integers
integer_choice_given : (sight : Sight) (x : t.Choice) → IsKept (broken.integer_choice sight x) → IsGiven (typed_choice sight x >>= numbers_of)
integer_choice_given sight x h =
    let k = parts _ _ h in
    let c = expressions.choice_given x sight k.0 in
    bound (typed_choice sight x) numbers_of c.value c.is
    (given LeftOut (choice_place x) (numbers_of c.value) (of_given (λ y. lacking LeftOut (choice_place x) (numbers_of y)) (typed_choice sight x) c.value c.is k.1))

pub choice_given : (sight : Sight) (type : ObjectType) (x : t.Choice) → IsKept (broken.choice sight type x) → IsGiven (are.choice sight type x)
choice_given sight Integers (t.otherwise at) h = absurd cc
choice_given sight Integers x h = integer_choice_given sight x h
choice_given sight type (t.chosen e) h = chosen_given sight type e h
choice_given sight type (t.chosen_range d direction e) h = absurd cc
choice_given sight type (t.otherwise at) h = absurd cc

pub choices_given : (sight : Sight) (type : ObjectType) (xs : List t.Choice) → IsKept (broken.choices sight type xs) → IsGiven (are.choices sight type xs)
choices_given sight type (t.otherwise at ∷ []) h = this []
choices_given sight type xs h = each_given (broken.choice sight type) (are.choice sight type) (choice_given sight type) xs h

-- ---- one choice after another

none_next : (c x : Choice) (cs : List Choice) → list_any (same_choice c) cs ≡ false → same_choice c x ≡ false → list_any (same_choice c) (cs ++ x ∷ []) ≡ false
none_next c x [] h e = ap (λ t. t || false) e
none_next c x (d ∷ cs) h e =
    let b = neither (same_choice c d) (list_any (same_choice c) cs) h in
    ap (λ t. t || list_any (same_choice c) (cs ++ x ∷ [])) b.0 ∙ none_next c x cs b.1 e

-- distinct choices, and one that is none of them
choices_next : (cs : List Choice) (x : Choice) → are_distinct_choices cs ≡ true → list_any (same_choice x) cs ≡ false → are_distinct_choices (cs ++ x ∷ []) ≡ true
choices_next [] x e h = refl
choices_next (c ∷ cs) x e h =
    let b = both (not (list_any (same_choice c) cs)) (are_distinct_choices cs) e in
    let n = neither (same_choice x c) (list_any (same_choice x) cs) h in
    and_from (not (list_any (same_choice c) (cs ++ x ∷ []))) (are_distinct_choices (cs ++ x ∷ []))
    (ap not (none_next c x cs (not_true (list_any (same_choice c) cs) b.0) (choice_sym c x ∙ n.0))) (choices_next cs x b.1 n.1)

once_distinct : (sight : Sight) (type : ObjectType) (ds : List t.Choice) (before : List t.Choice) (cs ys : List Choice) → filter_map (are.choice sight type) before ≡ cs
    → are_distinct_choices cs ≡ true → each (are.choice sight type) ds ≡ Some ys → IsKept (each_once sight type before ds) → are_distinct_choices (cs ++ ys) ≡ true
once_distinct sight type [] before cs ys e d h k = ap (λ ys. are_distinct_choices (cs ++ ys)) (sym (some_is [] ys h)) ∙ ap are_distinct_choices (append-nil cs) ∙ d
once_distinct sight type (c ∷ ds) before cs ys e d h k =
    let x = comes (are.choice sight type c) _ ys h in
    let xs = comes (each (are.choice sight type) ds) _ ys x.rest in
    let p = parts _ _ k in
    let q = parts _ _ p.0 in
    let new = holds ChoiceTwice (choice_place c) (not (stands sight type before x.value))
    (of_given (λ x. unless ChoiceTwice (choice_place c) (not (stands sight type before x))) (are.choice sight type c) x.value x.is q.1) in
    let apart : list_any (same_choice x.value) cs ≡ false = ap (list_any (same_choice x.value)) (sym e) ∙ not_true (stands sight type before x.value) new in
    let rest = once_distinct sight type ds (before ++ c ∷ []) (cs ++ x.value ∷ []) xs.value (given_next sight type before c cs x.value e x.is)
    (choices_next cs x.value d apart) xs.is p.1 in
    ap (λ ys. are_distinct_choices (cs ++ ys)) (sym (some_is (x.value ∷ xs.value) ys xs.rest))
    ∙ ap are_distinct_choices (sym (append_assoc cs (x.value ∷ []) xs.value)) ∙ rest

-- ---- one alternative after another

alternative_distinct : (sight : Sight) (type : ObjectType) (ds : List t.Choice) (before : List t.Choice) (last : Bool) (cs ys : List Choice)
    → filter_map (are.choice sight type) before ≡ cs → are_distinct_choices cs ≡ true → are.choices sight type ds ≡ Some ys
    → IsKept (alternative_in_place sight type before last ds) → are_distinct_choices (cs ++ ys) ≡ true
alternative_distinct sight type (t.otherwise at ∷ []) before last cs ys e d h k =
    ap (λ ys. are_distinct_choices (cs ++ ys)) (sym (some_is [] ys h)) ∙ ap are_distinct_choices (append-nil cs) ∙ d
alternative_distinct sight type ds before last cs ys e d h k = once_distinct sight type ds before cs ys e d h k

others_last : (sight : Sight) (type : ObjectType) (ds : List t.Choice) (before : List t.Choice) (last : Bool) → IsKept (alternative_in_place sight type before last ds)
    → is_others ds ≡ true → last ≡ true
others_last sight type (t.otherwise at ∷ []) before last k h = holds WrongKind at last k
others_last sight type _ before last k h = absurd cc

only_first : (ds : List t.Choice) (rest : List (List t.Choice)) → (is_others ds ≡ true → is_empty rest ≡ true) → only_last_others rest ≡ true → only_last_others (ds ∷ rest) ≡ true
only_first ds [] f e = refl
only_first ds (r ∷ rest) f e = and_from (not (is_others ds)) (only_last_others (r ∷ rest)) (go (is_others ds) f) e
  where
    go : (b : Bool) → (b ≡ true → false ≡ true) → not b ≡ true
    go true f = f refl
    go false f = refl

-- what alternatives in their places keep
record InPlace (cs : List Choice) (css : List (List Choice)) (alternatives : List (List t.Choice)) : Type 0 where
  only : only_last_others alternatives ≡ true
  distinct : are_distinct_choices (cs ++ flat_map (λ cs. cs) css) ≡ true

in_place_given : (sight : Sight) (type : ObjectType) (alternatives : List (List t.Choice)) (before : List t.Choice) (cs : List Choice) (css : List (List Choice))
    → filter_map (are.choice sight type) before ≡ cs → are_distinct_choices cs ≡ true → each (are.choices sight type) alternatives ≡ Some css
    → IsKept (in_place sight type before alternatives) → InPlace cs css alternatives
in_place_given sight type [] before cs css e d h k = record {
  only = refl;
  distinct =
      ap (λ css. are_distinct_choices (cs ++ flat_map (λ cs. cs) css)) (sym (some_is [] css h)) ∙ ap are_distinct_choices (append-nil cs) ∙ d;
}
in_place_given sight type (ds ∷ rest) before cs css e d h k =
    let y = comes (are.choices sight type ds) _ css h in
    let ys = comes (each (are.choices sight type) rest) _ css y.rest in
    let p = parts _ _ k in
    let first = alternative_distinct sight type ds before (is_empty rest) cs y.value e d y.is p.0 in
    let behind : filter_map (are.choice sight type) (before ++ ds) ≡ cs ++ y.value =
    filter_map-append (are.choice sight type) before ds ∙ ap (λ cs. cs ++ filter_map (are.choice sight type) ds) e
    ∙ ap (λ ds. cs ++ ds) (kept_choices.choices_given sight type ds y.value y.is) in
    let more = in_place_given sight type rest (before ++ ds) (cs ++ y.value) ys.value behind first ys.is p.1 in
    record {
      only = only_first ds rest (others_last sight type ds before (is_empty rest) p.0) more.only;
      distinct =
          ap (λ css. are_distinct_choices (cs ++ flat_map (λ cs. cs) css)) (sym (some_is (y.value ∷ ys.value) css ys.rest))
          ∙ ap are_distinct_choices (sym (append_assoc cs y.value (flat_map (λ cs. cs) ys.value))) ∙ more.distinct;
    }

pub covered_is : (sight : Sight) (type : ObjectType) (at : ℕ) (alternatives : List (List t.Choice)) (b : Broken) (css : List (List Choice))
    → each (are.choices sight type) alternatives ≡ Some css → IsKept (covering.covered sight type at alternatives b) → are.covered sight type alternatives ≡ Some css
covered_is sight type at alternatives b css h k =
    let p = parts _ _ k in
    let placed = in_place_given sight type alternatives [] [] css refl refl h (among_left (in_place sight type [] alternatives) b p.0) in
    let others = holds NoOthers at (is_last_others alternatives || names_all type (flat_map (λ cs. cs) css))
    (of_given (λ css. unless NoOthers at (is_last_others alternatives || names_all type (flat_map (λ cs. cs) css))) (each (are.choices sight type) alternatives) css h p.1) in
    ruled_is (only_last_others alternatives) _ css placed.only
    (bound_is (each (are.choices sight type) alternatives) _ css css h
    (ruled_is (are_distinct_choices (flat_map (λ cs. cs) css)) _ css placed.distinct
    (ruled_is (is_last_others alternatives || names_all type (flat_map (λ cs. cs) css)) (Some css) css others refl)))

-- what the alternatives themselves keep
pub of_alternatives : (sight : Sight) (type : ObjectType) (at : ℕ) (alternatives : List (List t.Choice)) (b : Broken) → IsKept (covering.covered sight type at alternatives b)
    → IsKept b
of_alternatives sight type at alternatives b k = among_right (in_place sight type [] alternatives) b (parts _ _ k).0

-- ---- alternatives, arranged

pub each_length : {A B : Type 0} (f : A → Option B) (xs : List A) (ys : List B) → each f xs ≡ Some ys → length ys ≡ length xs
each_length f [] ys h = ap length (sym (some_is [] ys h))
each_length f (x ∷ xs) ys h =
    let c = comes (f x) _ ys h in
    let d = comes (each f xs) _ ys c.rest in
    let more = each_length f xs d.value d.is in
    ap length (sym (some_is (c.value ∷ d.value) ys d.rest)) ∙ omega (arith, more)

same_empty : {A B : Type 0} (xs : List A) (ys : List B) → length xs ≡ length ys → is_empty ys ≡ false → is_empty xs ≡ false
same_empty [] [] l e = e
same_empty [] (y ∷ ys) l e = absurd (omega (arith, l))
same_empty (x ∷ xs) ys l e = refl

long_arranged : (css : List (List Choice)) (bodies : List Statements) → length css ≡ length bodies → is_empty css ≡ false → IsGiven (arranged css bodies)
long_arranged [] bodies l e = absurd cc
long_arranged (cs ∷ []) (b ∷ []) l e = this (last_by cs b)
long_arranged (cs ∷ ds ∷ css) (b ∷ bs) l e = mapped_given (alternative cs b) (arranged (ds ∷ css) bs) (long_arranged (ds ∷ css) bs (omega (arith, l)) refl)
long_arranged _ _ l e = absurd (omega (arith, l))

-- one body for each alternative, of which there are some
pub arranged_given : {A : Type 0} (at : ℕ) (xs : List A) (css : List (List Choice)) (bodies : List Statements) → IsKept (any_alternative at xs) → length css ≡ length xs
    → length bodies ≡ length xs → IsGiven (arranged css bodies)
arranged_given at xs css bodies k l m =
    long_arranged css bodies (l ∙ sym m) (same_empty css xs l (not_true (is_empty xs) (holds LeftOut at (not (is_empty xs)) k)))

-- ---- what a case selects by

pub record IsSelected (sight : Sight) (e : Expr) (f : ObjectType → Broken) : Type 0 where
  pub operand : Typed
  pub typed_is : typed sight e ≡ Some operand
  pub by : ObjectType × Selector
  pub selected : selector sight.language operand ≡ Some by
  pub rest : IsKept (f by.0)

pub selected_given : (sight : Sight) (e : Expr) (f : ObjectType → Broken) → IsKept (by_selector sight e f) → IsSelected sight e f
selected_given sight e f h =
    let k = parts _ _ h in
    let l = parts _ _ k.0 in
    let x = typed_given e sight l.0 in
    let by = given TypeMismatch (start e) (selector sight.language x.value) (of_given (λ x. lacking TypeMismatch (start e) (selector sight.language x)) (typed sight e) x.value x.is l.1) in
    record {
      operand = x.value;
      typed_is = x.is;
      by = by.value;
      selected = by.is;
      rest =
          of_given (λ by. f by.0) (selector sight.language x.value) by.value by.is
          (of_given (λ x. where_given (selector sight.language x) (λ by. f by.0)) (typed sight e) x.value x.is k.1);
    }
