-- Which branch of an if is taken, and which alternative of a case.
use Rattle.std.proofs.Common.{◌≡◌, ℕ, zero, suc, ◌<◌, Bool, true, false, cond, ◌||◌, List, [], ◌∷◌, length, map, get_or, refl, ap, ◌∙◌, arith, All}
use Rattle.std.specs.List.{list_any}
use Rattle.rtl_model.specs.bodies.Body as bodies
use Rattle.rtl_model.specs.bodies.Values.{Seen}
use Rattle.rtl_model.specs.bodies.Tests.{same}
use Rattle.rtl_model.specs.bodies.Effect.{Entries, effect, branches_effect, alternatives_effect, entries_if}
use Rattle.rtl_model.specs.bodies.Variables.{variables_after, branches_variables, alternatives_variables}
use Rattle.rtl_model.specs.bodies.Types.{ElementType}
use Rattle.rtl_model.specs.bodies.Fits.{Scope, Fits, FitsTest, FitsBranches, FitsAlternatives}
use Rattle.rtl_net.specs.declared.body.Branch.{Branch}
use Rattle.rtl_net.specs.declared.body.Alternative.{Alternative}
use Rattle.rtl_net.specs.Bodies.{test_view, choice_view, statements_of, branches_of, alternatives_of}
use Rattle.rtl_eval.specs.Running.{IsFirstTrue, NoneIsTrue, met_by, chosen_by}

take_first : (t : Bool) (a b : Entries) → t ≡ true → entries_if t a b ≡ a
take_first true a b h = λ i place. a place
take_first false a b h = absurd cc

take_later : (t : Bool) (a b : Entries) → t ≡ false → entries_if t a b ≡ b
take_later true a b h = absurd cc
take_later false a b h = λ i place. b place

first_later : (t : Bool) (tests : List Bool) (k : ℕ) → IsFirstTrue (t ∷ tests) (suc k) → IsFirstTrue tests k
first_later t tests k h = record { there = let l = h.there in omega arith; is = h.is; before = λ j l. h.before (suc j) (omega arith) }

none_later : (t : Bool) (tests : List Bool) → NoneIsTrue (t ∷ tests) → NoneIsTrue tests
none_later t tests h j l = h (suc j) (omega arith)

-- ---- an if

-- branches do what these do
pub record Lead (seen : Seen) (bs : bodies.Branches) (e : Entries) (variables : List ℕ) : Type 0 where
  pub effect_is : branches_effect seen bs ≡ e
  pub variables_are : branches_variables seen bs ≡ variables

module _ (seen : Seen) (last : bodies.Branches) where
  met_first : (b : Branch) (bs : bodies.Branches) → met_by seen b ≡ true
      → Lead seen (bodies.branch (test_view b.test) (statements_of b.statements.items) bs) (effect seen (statements_of b.statements.items)) (variables_after seen (statements_of b.statements.items))
  met_first b bs h = record {
    effect_is = take_first (met_by seen b) (effect seen (statements_of b.statements.items)) (branches_effect seen bs) h;
    variables_are = ap (λ t. cond t (variables_after seen (statements_of b.statements.items)) (branches_variables seen bs)) h;
  }

  met_later : (b : Branch) (bs : bodies.Branches) (e : Entries) (variables : List ℕ) → met_by seen b ≡ false → Lead seen bs e variables
      → Lead seen (bodies.branch (test_view b.test) (statements_of b.statements.items) bs) e variables
  met_later b bs e variables h more = record {
    effect_is = take_later (met_by seen b) (effect seen (statements_of b.statements.items)) (branches_effect seen bs) h ∙ more.effect_is;
    variables_are = ap (λ t. cond t (variables_after seen (statements_of b.statements.items)) (branches_variables seen bs)) h ∙ more.variables_are;
  }

  pub branch_taken : (bs : List Branch) (k : ℕ) (d : Branch) → IsFirstTrue (map (met_by seen) bs) k
      → Lead seen (branches_of last bs) (effect seen (statements_of (get_or bs k d).statements.items)) (variables_after seen (statements_of (get_or bs k d).statements.items))
  branch_taken [] k d h = let l = h.there in absurd (omega arith)
  branch_taken (b ∷ bs) zero d h = met_first b (branches_of last bs) h.is
  branch_taken (b ∷ bs) (suc k) d h =
      met_later b (branches_of last bs) _ _ (h.before 0 (omega arith)) (branch_taken bs k d (first_later (met_by seen b) (map (met_by seen) bs) k h))

  pub no_branch_taken : (bs : List Branch) → NoneIsTrue (map (met_by seen) bs) → Lead seen (branches_of last bs) (branches_effect seen last) (branches_variables seen last)
  no_branch_taken [] h = record { effect_is = refl; variables_are = refl }
  no_branch_taken (b ∷ bs) h = met_later b (branches_of last bs) _ _ (h 0 (omega arith)) (no_branch_taken bs (none_later (met_by seen b) (map (met_by seen) bs) h))

module _ (scope : Scope) (last : bodies.Branches) where
  pub branch_fits : (bs : List Branch) (k : ℕ) (d : Branch) → k < length bs → FitsBranches scope (branches_of last bs)
      → FitsTest scope (test_view (get_or bs k d).test) × Fits scope (statements_of (get_or bs k d).statements.items)
  branch_fits [] k d l h = absurd (omega arith)
  branch_fits (b ∷ bs) zero d l h = (h.0, h.1)
  branch_fits (b ∷ bs) (suc k) d l h = branch_fits bs k d (omega arith) h.2

  pub tests_fit : (bs : List Branch) → FitsBranches scope (branches_of last bs) → All (λ (b : Branch). FitsTest scope (test_view b.test)) bs
  tests_fit bs h k d l = (branch_fits bs k d l h).0

  pub last_fits : (bs : List Branch) → FitsBranches scope (branches_of last bs) → FitsBranches scope last
  last_fits [] h = h
  last_fits (b ∷ bs) h = last_fits bs h.2

-- ---- a case

pub record Choose (seen : Seen) (value : List ℕ) (alts : bodies.Alternatives) (body : bodies.Stmts) : Type 0 where
  pub effect_is : alternatives_effect seen value alts ≡ effect seen body
  pub variables_are : alternatives_variables seen value alts ≡ variables_after seen body

any_map : {X Y : Type 0} (p : Y → Bool) (f : X → Y) (xs : List X) → list_any p (map f xs) ≡ list_any (λ x. p (f x)) xs
any_map p f [] = refl
any_map p f (x ∷ xs) = ap (λ b. p (f x) || b) (any_map p f xs)

module _ (seen : Seen) (value : List ℕ) (last : bodies.Stmts) where
  choose_first : (a : Alternative) (alts : bodies.Alternatives) → chosen_by value a ≡ true
      → Choose seen value (bodies.alternative (map choice_view a.choices.items) (statements_of a.statements.items) alts) (statements_of a.statements.items)
  choose_first a alts h =
      let t = any_map (same value) choice_view a.choices.items ∙ h in
      record {
        effect_is = take_first _ (effect seen (statements_of a.statements.items)) (alternatives_effect seen value alts) t;
        variables_are = ap (λ b. cond b (variables_after seen (statements_of a.statements.items)) (alternatives_variables seen value alts)) t;
      }

  choose_later : (a : Alternative) (alts : bodies.Alternatives) (body : bodies.Stmts) → chosen_by value a ≡ false → Choose seen value alts body
      → Choose seen value (bodies.alternative (map choice_view a.choices.items) (statements_of a.statements.items) alts) body
  choose_later a alts body h more =
      let t = any_map (same value) choice_view a.choices.items ∙ h in
      record {
        effect_is = take_later _ (effect seen (statements_of a.statements.items)) (alternatives_effect seen value alts) t ∙ more.effect_is;
        variables_are = ap (λ b. cond b (variables_after seen (statements_of a.statements.items)) (alternatives_variables seen value alts)) t ∙ more.variables_are;
      }

  pub alternative_taken : (xs : List Alternative) (k : ℕ) (d : Alternative) → IsFirstTrue (map (chosen_by value) xs) k
      → Choose seen value (alternatives_of last xs) (statements_of (get_or xs k d).statements.items)
  alternative_taken [] k d h = let l = h.there in absurd (omega arith)
  alternative_taken (a ∷ xs) zero d h = choose_first a (alternatives_of last xs) h.is
  alternative_taken (a ∷ xs) (suc k) d h =
      choose_later a (alternatives_of last xs) _ (h.before 0 (omega arith)) (alternative_taken xs k d (first_later (chosen_by value a) (map (chosen_by value) xs) k h))

  pub others_taken : (xs : List Alternative) → NoneIsTrue (map (chosen_by value) xs) → Choose seen value (alternatives_of last xs) last
  others_taken [] h = record { effect_is = refl; variables_are = refl }
  others_taken (a ∷ xs) h = choose_later a (alternatives_of last xs) _ (h 0 (omega arith)) (others_taken xs (none_later (chosen_by value a) (map (chosen_by value) xs) h))

module _ (scope : Scope) (t : ElementType) (len : ℕ) (last : bodies.Stmts) where
  pub alternative_fits : (xs : List Alternative) (k : ℕ) (d : Alternative) → k < length xs → FitsAlternatives scope t len (alternatives_of last xs)
      → Fits scope (statements_of (get_or xs k d).statements.items)
  alternative_fits [] k d l h = absurd (omega arith)
  alternative_fits (a ∷ xs) zero d l h = h.1
  alternative_fits (a ∷ xs) (suc k) d l h = alternative_fits xs k d (omega arith) h.2

  pub others_fit : (xs : List Alternative) → FitsAlternatives scope t len (alternatives_of last xs) → Fits scope last
  others_fit [] h = h
  others_fit (a ∷ xs) h = others_fit xs h.2
