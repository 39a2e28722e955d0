-- Choices that cover their selector break no rule (IEEE 1076-2008, 10.9 and 11.6).
use Rattle.std.proofs.Common.{◌≡◌, ℕ, Bool, true, false, not, ◌||◌, ◌==◌, List, [], ◌∷◌, ◌++◌, map, Option, Some, refl, ap, sym, ◌∙◌}
use Rattle.std.specs.Prelude.{bytes_eq}
use Rattle.std.specs.List.{list_any, flat_map, filter_map, cons_option}
use Rattle.std.proofs.lemmas.Bool.{and_from, eqb-true, eqb-false}
use Rattle.std.proofs.lemmas.List.{append_assoc}
use Rattle.std.proofs.lemmas.List.Elements.{filter_map-append}
use Rattle.std.proofs.lemmas.Slice.Eq.{bytes_eq-Decides}
use Rattle.vhdl_values.specs.Scalar.{code_of}
use Rattle.vhdl_tree.specs.Tree as t
use Rattle.vhdl_names_rules.specs.declared.kind.ObjectType.{ObjectType}
use Rattle.vhdl_names_rules.specs.declared.fault.NameProblem.TheVariants.{WrongKind, NoOthers, ChoiceTwice}
use Rattle.vhdl_names_rules.specs.units.Statements.{Choice, values, position, numbers, Statements, Alternatives}
use Rattle.vhdl_names_rules.specs.Rules.{each}
use Rattle.vhdl_names_rules.specs.Visibility.{Sight}
use Rattle.vhdl_names_rules.specs.Choices as are
use Rattle.vhdl_names_rules.specs.Choices.{same_choice, are_distinct_choices, is_others, is_last_others, only_last_others, names_all, arranged}
use Rattle.vhdl_names_rules.specs.problems.Broken.{Broken, unless}
use Rattle.vhdl_names_rules.specs.problems.Places.{choice_place}
use Rattle.vhdl_names_rules.specs.problems.Covered as broken
use Rattle.vhdl_names_rules.specs.problems.Covered.{stands, is_empty, alternative_in_place, in_place, each_once, any_alternative}
use Rattle.vhdl_names_rules.proofs.laws.Rules.{comes, kept, both, neither, not_true, some_is}
use Rattle.vhdl_names_rules.proofs.laws.Choices.{others_none}
use Rattle.vhdl_names_rules.proofs.Telling.{IsKept, both_kept, unless_kept, given_kept}
use Rattle.vhdl_names_rules.proofs.kept.Keeping.{nothing_kept, among_kept}
use Rattle.vhdl_names_rules.proofs.kept.Choices.{choice_kept}

-- ---- choices that are the same

-- of two answers of which each is there where the other is
same_answers : (a b : Bool) → (a ≡ true → b ≡ true) → (b ≡ true → a ≡ true) → a ≡ b
same_answers true b f g = sym (f refl)
same_answers false true f g = g refl
same_answers false false f g = refl

names_sym : (as' bs : List ℕ) → bytes_eq as' bs ≡ bytes_eq bs as'
names_sym as' bs =
    same_answers (bytes_eq as' bs) (bytes_eq bs as') (λ e. (bytes_eq-Decides bs as').1 (sym ((bytes_eq-Decides as' bs).0 e)))
    (λ e. (bytes_eq-Decides as' bs).1 (sym ((bytes_eq-Decides bs as').0 e)))

pub choice_sym : (c d : Choice) → same_choice c d ≡ same_choice d c
choice_sym (values vs) (values ws) = names_sym (map code_of vs) (map code_of ws)
choice_sym (position p) (position q) = number_sym p q (p == q) refl (q == p) refl
  where
    number_sym : (p q : ℕ) (a : Bool) → (p == q) ≡ a → (b : Bool) → (q == p) ≡ b → (p == q) ≡ (q == p)
    number_sym p q true e true f = e ∙ sym f
    number_sym p q false e false f = e ∙ sym f
    number_sym p q true e false f = absurd (eqb-false q p f (sym (eqb-true p q e)))
    number_sym p q false e true f = absurd (eqb-false p q e (sym (eqb-true q p f)))
choice_sym (numbers i) (values ws) = refl
choice_sym (numbers i) (position q) = refl
choice_sym (numbers i) (numbers j) = refl
choice_sym _ _ = refl

none_at : {A : Type 0} (f : A → Bool) (xs : List A) (x : A) (rest : List A) → list_any f (xs ++ x ∷ rest) ≡ false → f x ≡ false
none_at f [] x rest e = (neither (f x) (list_any f rest) e).0
none_at f (y ∷ xs) x rest e = none_at f xs x rest (neither (f y) (list_any f (xs ++ x ∷ rest)) e).1

-- a choice behind others is none of them
pub choices_apart : (cs : List Choice) (x : Choice) (rest : List Choice) → are_distinct_choices (cs ++ x ∷ rest) ≡ true → list_any (same_choice x) cs ≡ false
choices_apart [] x rest e = refl
choices_apart (c ∷ cs) x rest e =
    let b = both (not (list_any (same_choice c) (cs ++ x ∷ rest))) (are_distinct_choices (cs ++ x ∷ rest)) e in
    ap (λ t. t || list_any (same_choice x) cs)
    (choice_sym x c ∙ none_at (same_choice c) cs x rest (not_true (list_any (same_choice c) (cs ++ x ∷ rest)) b.0))
    ∙ choices_apart cs x rest b.1

none_front : {A : Type 0} (f : A → Bool) (xs ys : List A) → list_any f (xs ++ ys) ≡ false → list_any f xs ≡ false
none_front f [] ys e = refl
none_front f (x ∷ xs) ys e =
    let b = neither (f x) (list_any f (xs ++ ys)) e in
    ap (λ t. t || list_any f xs) b.0 ∙ none_front f xs ys b.1

-- of distinct choices the first ones are distinct
pub choices_front : (cs ds : List Choice) → are_distinct_choices (cs ++ ds) ≡ true → are_distinct_choices cs ≡ true
choices_front [] ds e = refl
choices_front (c ∷ cs) ds e =
    let b = both (not (list_any (same_choice c) (cs ++ ds))) (are_distinct_choices (cs ++ ds)) e in
    and_from (not (list_any (same_choice c) cs)) (are_distinct_choices cs)
    (ap not (none_front (same_choice c) cs ds (not_true (list_any (same_choice c) (cs ++ ds)) b.0))) (choices_front cs ds b.1)

-- ---- one choice after another

-- the choices that are given, with one more
pub given_next : (sight : Sight) (type : ObjectType) (before : List t.Choice) (c : t.Choice) (cs : List Choice) (x : Choice)
    → filter_map (are.choice sight type) before ≡ cs → are.choice sight type c ≡ Some x → filter_map (are.choice sight type) (before ++ c ∷ []) ≡ cs ++ x ∷ []
given_next sight type before c cs x e h =
    filter_map-append (are.choice sight type) before (c ∷ [])
    ∙ ap (λ cs. cs ++ filter_map (are.choice sight type) (c ∷ [])) e ∙ ap (λ o. cs ++ cons_option o []) h

pub each_given : {A B : Type 0} (f : A → Option B) (xs : List A) (ys : List B) → each f xs ≡ Some ys → filter_map f xs ≡ ys
each_given f [] ys h = some_is [] ys h
each_given f (x ∷ xs) ys h =
    let c = comes (f x) _ ys h in
    let d = comes (each f xs) _ ys c.rest in
    ap (λ o. cons_option o (filter_map f xs)) c.is ∙ ap (λ ys. c.value ∷ ys) (each_given f xs d.value d.is) ∙ some_is (c.value ∷ d.value) ys d.rest

pub once_kept : (sight : Sight) (type : ObjectType) (before : List t.Choice) (cs : List Choice) (c : t.Choice) (x : Choice)
    → filter_map (are.choice sight type) before ≡ cs → are.choice sight type c ≡ Some x → list_any (same_choice x) cs ≡ false → IsKept (broken.once sight type before c)
once_kept sight type before cs c x e h apart =
    both_kept _ _ (choice_kept sight type c x h)
    (given_kept (λ x. unless ChoiceTwice (choice_place c) (not (stands sight type before x))) (are.choice sight type c) x h
    (unless_kept ChoiceTwice (choice_place c) (not (stands sight type before x)) (ap not (ap (list_any (same_choice x)) e ∙ apart))))

pub each_once_kept : (sight : Sight) (type : ObjectType) (ds : List t.Choice) (before : List t.Choice) (cs ys : List Choice) → filter_map (are.choice sight type) before ≡ cs
    → each (are.choice sight type) ds ≡ Some ys → are_distinct_choices (cs ++ ys) ≡ true → IsKept (each_once sight type before ds)
each_once_kept sight type [] before cs ys e h distinct = nothing_kept
each_once_kept sight type (d ∷ ds) before cs ys e h distinct =
    let x = comes (are.choice sight type d) _ ys h in
    let xs = comes (each (are.choice sight type) ds) _ ys x.rest in
    let all : are_distinct_choices (cs ++ x.value ∷ xs.value) ≡ true = ap (λ ys. are_distinct_choices (cs ++ ys)) (some_is (x.value ∷ xs.value) ys xs.rest) ∙ distinct in
    both_kept _ _ (once_kept sight type before cs d x.value e x.is (choices_apart cs x.value xs.value all))
    (each_once_kept sight type ds (before ++ d ∷ []) (cs ++ x.value ∷ []) xs.value (given_next sight type before d cs x.value e x.is) xs.is
    (ap are_distinct_choices (append_assoc cs (x.value ∷ []) xs.value) ∙ all))

-- ---- one alternative after another

only_rest : (ds : List t.Choice) (rest : List (List t.Choice)) → only_last_others (ds ∷ rest) ≡ true → only_last_others rest ≡ true
only_rest ds [] h = refl
only_rest ds (es ∷ rest) h = (both (not (is_others ds)) (only_last_others (es ∷ rest)) h).1

-- others is in the last alternative
is_last : (at : ℕ) (rest : List (List t.Choice)) → only_last_others ((t.otherwise at ∷ []) ∷ rest) ≡ true → is_empty rest ≡ true
is_last at [] h = refl
is_last at (ds ∷ rest) h = absurd cc

pub choices_given : (sight : Sight) (type : ObjectType) (ds : List t.Choice) (ys : List Choice) → are.choices sight type ds ≡ Some ys → filter_map (are.choice sight type) ds ≡ ys
choices_given sight type (t.otherwise at ∷ []) ys h = ap (λ (o : Option Choice). cons_option o []) (others_none sight type at) ∙ some_is [] ys h
choices_given sight type ds ys h = each_given (are.choice sight type) ds ys h

pub alternative_kept : (sight : Sight) (type : ObjectType) (ds : List t.Choice) (rest : List (List t.Choice)) (before : List t.Choice) (cs ys : List Choice)
    → filter_map (are.choice sight type) before ≡ cs → are.choices sight type ds ≡ Some ys → are_distinct_choices (cs ++ ys) ≡ true → only_last_others (ds ∷ rest) ≡ true
    → IsKept (alternative_in_place sight type before (is_empty rest) ds)
alternative_kept sight type (t.otherwise at ∷ []) rest before cs ys e h distinct last = unless_kept WrongKind at (is_empty rest) (is_last at rest last)
alternative_kept sight type ds rest before cs ys e h distinct last = each_once_kept sight type ds before cs ys e h distinct

pub in_place_kept : (sight : Sight) (type : ObjectType) (alternatives : List (List t.Choice)) (before : List t.Choice) (cs : List Choice) (css : List (List Choice))
    → filter_map (are.choice sight type) before ≡ cs → each (are.choices sight type) alternatives ≡ Some css
    → are_distinct_choices (cs ++ flat_map (λ cs. cs) css) ≡ true → only_last_others alternatives ≡ true → IsKept (in_place sight type before alternatives)
in_place_kept sight type [] before cs css e h distinct last = nothing_kept
in_place_kept sight type (ds ∷ rest) before cs css e h distinct last =
    let y = comes (are.choices sight type ds) _ css h in
    let ys = comes (each (are.choices sight type) rest) _ css y.rest in
    let all : are_distinct_choices ((cs ++ y.value) ++ flat_map (λ cs. cs) ys.value) ≡ true =
    ap are_distinct_choices (append_assoc cs y.value (flat_map (λ cs. cs) ys.value))
    ∙ ap (λ css. are_distinct_choices (cs ++ flat_map (λ cs. cs) css)) (some_is (y.value ∷ ys.value) css ys.rest) ∙ distinct in
    both_kept _ _ (alternative_kept sight type ds rest before cs y.value e y.is (choices_front (cs ++ y.value) (flat_map (λ cs. cs) ys.value) all) last)
    (in_place_kept sight type rest (before ++ ds) (cs ++ y.value) ys.value
    (filter_map-append (are.choice sight type) before ds ∙ ap (λ cs. cs ++ filter_map (are.choice sight type) ds) e
    ∙ ap (λ ds. cs ++ ds) (choices_given sight type ds y.value y.is)) ys.is all (only_rest ds rest last))

pub covered_kept : (sight : Sight) (type : ObjectType) (at : ℕ) (alternatives : List (List t.Choice)) (b : Broken) (css : List (List Choice))
    → are.covered sight type alternatives ≡ Some css → IsKept b → IsKept (broken.covered sight type at alternatives b)
covered_kept sight type at alternatives b css h k =
    let l = kept (only_last_others alternatives) _ css h in
    let c = comes (each (are.choices sight type) alternatives) _ css l.1 in
    let d = kept (are_distinct_choices (flat_map (λ cs. cs) c.value)) _ css c.rest in
    let n = kept (is_last_others alternatives || names_all type (flat_map (λ cs. cs) c.value)) _ css d.1 in
    both_kept _ _
    (among_kept (in_place sight type [] alternatives) b
    (in_place_kept sight type alternatives [] [] c.value refl c.is d.0 l.0) k)
    (given_kept (λ css. unless NoOthers at (is_last_others alternatives || names_all type (flat_map (λ cs. cs) css))) (each (are.choices sight type) alternatives) c.value c.is
    (unless_kept NoOthers at (is_last_others alternatives || names_all type (flat_map (λ cs. cs) c.value)) n.0))

-- where alternatives are arranged there is one
pub any_alternative_kept : (sight : Sight) (type : ObjectType) (at : ℕ) (alternatives : List (List t.Choice)) (css : List (List Choice)) (bodies : List Statements) (all : Alternatives)
    → are.covered sight type alternatives ≡ Some css → arranged css bodies ≡ Some all → IsKept (any_alternative at alternatives)
any_alternative_kept sight type at [] css bodies all h g =
    let k = kept (names_all type []) _ css h in
    let e : arranged [] bodies ≡ Some all = ap (λ css. arranged css bodies) (some_is [] css k.1) ∙ g in
    absurd cc
any_alternative_kept sight type at (xs ∷ alternatives) css bodies all h g = nothing_kept

pub choices_of_covered : (sight : Sight) (type : ObjectType) (alternatives : List (List t.Choice)) (css : List (List Choice))
    → are.covered sight type alternatives ≡ Some css → each (are.choices sight type) alternatives ≡ Some css
choices_of_covered sight type alternatives css h =
    let l = kept (only_last_others alternatives) _ css h in
    let c = comes (each (are.choices sight type) alternatives) _ css l.1 in
    let d = kept (are_distinct_choices (flat_map (λ cs. cs) c.value)) _ css c.rest in
    let n = kept (is_last_others alternatives || names_all type (flat_map (λ cs. cs) c.value)) _ css d.1 in
    c.is ∙ n.1
