-- Changes, noted in order.
use Rattle.std.proofs.Common.{◌≡◌, ℕ, zero, suc, ◌<◌, length, get_or, subst, arith, ◌==◌, if◌then◌else◌, Bool, List, [], ◌∷◌, ◌++◌, Option, None, Some, unwrap_or, refl, ap, ◌∙◌, ◌⊎◌, inl, inr, true, false}
use Rattle.std.specs.Prelude.{IsTrue, IsSome}
use Rattle.std.proofs.lemmas.Bool.{cases_eq, eq-eqb, ne_eqb}
use Rattle.rtl_looks.specs.declared.hubs.Look.{Look}
use Rattle.rtl_looks.specs.declared.table.Change.{Change}
use Rattle.rtl_looks.specs.Denoting.{look_at}
use Rattle.rtl_looks.specs.Targets.{first_at, was_at}

-- a change more is noted, of a number that looks at this
pub was_noted : (cs : List Change) (x : ℕ) (before look : Option Look) (looks looks' : List (Option Look)) → before ≡ look_at looks x
    → ((k : ℕ) → look_at looks' k ≡ (if x == k then look else look_at looks k))
    → (k : ℕ) → was_at (cs ++ record { number = x; before = before } ∷ []) looks' k ≡ was_at cs looks k
was_noted [] x before look looks looks' is set k = go (cases_eq x k)
  where
    go : (x ≡ k) ⊎ (x ≡ k → ⊥) → unwrap_or (if x == k then Some before else None) (look_at looks' k) ≡ look_at looks k
    go (inl e) = ap (λ (b : Bool). unwrap_or (if b then Some before else None) (look_at looks' k)) (eq-eqb x k e) ∙ (is ∙ ap (look_at looks) e)
    go (inr ne) =
        ap (λ (b : Bool). unwrap_or (if b then Some before else None) (look_at looks' k)) (ne_eqb x k ne)
        ∙ (set k ∙ ap (λ (b : Bool). if b then look else look_at looks k) (ne_eqb x k ne))
was_noted (c ∷ cs) x before look looks looks' is set k = by (was_noted cs x before look looks looks' is set k) (c.number == k)
  where
    by : was_at (cs ++ record { number = x; before = before } ∷ []) looks' k ≡ was_at cs looks k → (b : Bool)
        → unwrap_or (if b then Some c.before else first_at (cs ++ record { number = x; before = before } ∷ []) k) (look_at looks' k)
        ≡ unwrap_or (if b then Some c.before else first_at cs k) (look_at looks k)
    by rest true = refl
    by rest false = rest

-- the last change is taken back
pub was_taken : (cs : List Change) (c : Change) (looks looks' : List (Option Look)) → ((k : ℕ) → look_at looks' k ≡ (if c.number == k then c.before else look_at looks k))
    → (k : ℕ) → was_at cs looks' k ≡ was_at (cs ++ c ∷ []) looks k
was_taken [] c looks looks' set k = set k ∙ by (c.number == k)
  where
    by : (b : Bool) → (if b then c.before else look_at looks k) ≡ unwrap_or (if b then Some c.before else None) (look_at looks k)
    by true = refl
    by false = refl
was_taken (d ∷ cs) c looks looks' set k = by (was_taken cs c looks looks' set k) (d.number == k)
  where
    by : was_at cs looks' k ≡ was_at (cs ++ c ∷ []) looks k → (b : Bool) → unwrap_or (if b then Some d.before else first_at cs k) (look_at looks' k) ≡ unwrap_or (if b then Some d.before else first_at (cs ++ c ∷ []) k) (look_at looks k)
    by rest true = refl
    by rest false = rest

-- a change of this number stands at some place
pub stands : (cs : List Change) (place : ℕ) (d : Change) (x : ℕ) → place < length cs → IsTrue ((get_or cs place d).number == x) → IsSome (first_at cs x)
stands [] place d x within is = absurd (omega arith)
stands (c ∷ cs) zero d x within is = by (c.number == x) is
  where
    by : (b : Bool) → IsTrue b → IsSome (if b then Some c.before else first_at cs x)
    by true h = refl
    by false h = absurd cc
stands (c ∷ cs) (suc place) d x within is = by (stands cs place d x (omega arith) is) (c.number == x)
  where
    by : IsSome (first_at cs x) → (b : Bool) → IsSome (if b then Some c.before else first_at cs x)
    by rest true = refl
    by rest false = rest

-- of a number that is changed, whatever it looks at now
pub was_kept : (cs : List Change) (x : ℕ) (look : Option Look) (looks looks' : List (Option Look)) → IsSome (first_at cs x)
    → ((k : ℕ) → look_at looks' k ≡ (if x == k then look else look_at looks k))
    → (k : ℕ) → was_at cs looks' k ≡ was_at cs looks k
was_kept cs x look looks looks' there set k = go (cases_eq x k)
  where
    first : (o : Option (Option Look)) → IsSome o → unwrap_or o (look_at looks' k) ≡ unwrap_or o (look_at looks k)
    first None h = absurd cc
    first (Some b) h = refl

    go : (x ≡ k) ⊎ (x ≡ k → ⊥) → was_at cs looks' k ≡ was_at cs looks k
    go (inl e) = first (first_at cs k) (subst (λ (n : ℕ). IsSome (first_at cs n)) e there)
    go (inr ne) = ap (unwrap_or (first_at cs k)) (set k ∙ ap (λ (b : Bool). if b then look else look_at looks k) (ne_eqb x k ne))
