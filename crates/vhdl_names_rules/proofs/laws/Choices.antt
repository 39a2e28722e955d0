-- Choices differ, and others is last and alone.
use Rattle.std.proofs.Common.{◌≡◌, ℕ, zero, suc, ◌<◌, true, false, not, ◌||◌, List, [], ◌∷◌, length, Option, Some, None, refl, ap, sym, ◌∙◌, arith}
use Rattle.std.specs.List.{slice_get, list_any, flat_map}
use Rattle.vhdl_tree.specs.Tree as t
use Rattle.vhdl_names_rules.specs.declared.kind.ObjectType.{ObjectType}
use Rattle.vhdl_names_rules.specs.declared.kind.ObjectType.TheVariants.{Elements, Enumeration, Integers, Booleans}
use Rattle.vhdl_names_rules.specs.units.Statements.{Choice}
use Rattle.vhdl_names_rules.specs.Rules.{◌>>=◌, ◌>>◌, met, each}
use Rattle.vhdl_names_rules.specs.Visibility.{Sight}
use Rattle.vhdl_names_rules.specs.Expressions.{typed}
use Rattle.vhdl_names_rules.specs.Choices.{same_choice, covered, choice, choices, are_distinct_choices, is_others, only_last_others, is_last_others, names_all}
use Rattle.vhdl_names_rules.specs.laws.Choices.{ChoicesDiffer, OthersIsLast}
use Rattle.vhdl_names_rules.proofs.laws.Rules.{comes, Comes, kept, both, not_true, none_passes, made}

differ : (cs : List Choice) → are_distinct_choices cs ≡ true
    → (i j : ℕ) (c d : Choice) → i < j → slice_get cs i ≡ Some c → slice_get cs j ≡ Some d → same_choice c d ≡ false
differ [] e i j c d l p q = cc
differ (x ∷ xs) e i zero c d l p q = absurd (omega arith)
differ (x ∷ xs) e zero (suc j) c d l p q =
    let h : x ≡ c = cc in
    ap (λ x. same_choice x d) (sym h)
    ∙ none_passes (same_choice x) xs j d (not_true (list_any (same_choice x) xs) (both (not (list_any (same_choice x) xs)) (are_distinct_choices xs) e).0) q
differ (x ∷ xs) e (suc i) (suc j) c d l p q =
    differ xs (both (not (list_any (same_choice x) xs)) (are_distinct_choices xs) e).1 i j c d (omega arith) p q

-- what covered asks for
record IsCovered (sight : Sight) (type : ObjectType) (alternatives : List (List t.Choice)) (css : List (List Choice)) : Type 0 where
  last : only_last_others alternatives ≡ true
  chosen : each (choices sight type) alternatives ≡ Some css
  distinct : are_distinct_choices (flat_map (λ cs. cs) css) ≡ true

is_covered : (sight : Sight) (type : ObjectType) (alternatives : List (List t.Choice)) (css : List (List Choice))
    → covered sight type alternatives ≡ Some css → IsCovered sight type alternatives css
is_covered sight type alternatives css e = first (kept (only_last_others alternatives) _ css e)
  where
    then : List (List Choice) → Option (List (List Choice))
    then css = do
      met (are_distinct_choices (flat_map (λ cs. cs) css))
      met (is_last_others alternatives || names_all type (flat_map (λ cs. cs) css))
      Some css

    second : only_last_others alternatives ≡ true → Comes (each (choices sight type) alternatives) then css → IsCovered sight type alternatives css
    second l c =
        let d = kept (are_distinct_choices (flat_map (λ cs. cs) c.value)) _ css c.rest in
        let n = kept (is_last_others alternatives || names_all type (flat_map (λ cs. cs) c.value)) _ css d.1 in
        let g : c.value ≡ css = cc in
        record { last = l; chosen = c.is ∙ ap Some g; distinct = ap (λ css. are_distinct_choices (flat_map (λ cs. cs) css)) (sym g) ∙ d.0 }

    first : (only_last_others alternatives ≡ true) × ((each (choices sight type) alternatives >>= then) ≡ Some css) → IsCovered sight type alternatives css
    first k = second k.0 (comes (each (choices sight type) alternatives) then css k.1)

pub choices_differ : ChoicesDiffer
choices_differ sight type alternatives css e = differ (flat_map (λ cs. cs) css) (is_covered sight type alternatives css e).distinct

-- others is no choice among others
pub others_none : (sight : Sight) (type : ObjectType) (at : ℕ) → choice sight type (t.otherwise at) ≡ None
unfolding typed
others_none sight (Elements k) at = refl
others_none sight (Enumeration e count) at = refl
others_none sight Integers at = refl
others_none sight Booleans at = refl

no_choice : (sight : Sight) (type : ObjectType) (cs : List t.Choice) (ds : List Choice) (place at : ℕ)
    → each (choice sight type) cs ≡ Some ds → slice_get cs place ≡ Some (t.otherwise at) → ⊥
no_choice sight type cs ds place at e p =
    let m = made (choice sight type) cs ds place (t.otherwise at) e p in
    let h : None ≡ Some m.value = sym (others_none sight type at) ∙ m.is in
    cc

alone : (sight : Sight) (type : ObjectType) (cs : List t.Choice) (ds : List Choice) (place at : ℕ)
    → choices sight type cs ≡ Some ds → slice_get cs place ≡ Some (t.otherwise at) → cs ≡ t.otherwise at ∷ []
alone sight type [] ds place at e p = cc
alone sight type (t.chosen c ∷ cs) ds place at e p = absurd (no_choice sight type (t.chosen c ∷ cs) ds place at e p)
alone sight type (t.chosen_range l w r ∷ cs) ds place at e p = absurd (no_choice sight type (t.chosen_range l w r ∷ cs) ds place at e p)
alone sight type (t.otherwise b ∷ []) ds zero at e p = cc
alone sight type (t.otherwise b ∷ []) ds (suc place) at e p = cc
alone sight type (t.otherwise b ∷ c ∷ cs) ds place at e p = absurd (no_choice sight type (t.otherwise b ∷ c ∷ cs) ds place at e p)

is_last : (alternatives : List (List t.Choice)) (k at : ℕ) → only_last_others alternatives ≡ true
    → slice_get alternatives k ≡ Some (t.otherwise at ∷ []) → suc k ≡ length alternatives
is_last (cs ∷ []) zero at e p = refl
is_last (cs ∷ ds ∷ rest) zero at e p =
    let h : cs ≡ t.otherwise at ∷ [] = cc in
    let o : is_others cs ≡ true = ap is_others h in
    let n = not_true (is_others cs) (both (not (is_others cs)) (only_last_others (ds ∷ rest)) e).0 in
    cc
is_last (cs ∷ ds ∷ rest) (suc k) at e p = ap suc (is_last (ds ∷ rest) k at (both (not (is_others cs)) (only_last_others (ds ∷ rest)) e).1 p)
is_last _ _ at e p = cc

pub others_is_last : OthersIsLast
others_is_last sight type alternatives css e k place at cs p q =
    let c = is_covered sight type alternatives css e in
    let m = made (choices sight type) alternatives css k cs c.chosen p in
    let one : cs ≡ t.otherwise at ∷ [] = alone sight type cs m.value place at m.is q in
    (is_last alternatives k at c.last (p ∙ ap Some one), one)
