-- Sums of terms, as the code makes them.
use Rattle.std.proofs.Common.{◌≡◌, ℕ, zero, suc, ◌+◌, ◌<◌, ◌≤◌, Bool, true, false, cond, List, [], ◌∷◌, ◌++◌, length, map, get_or, drop, set, ◌&&◌, Some, None, Ok, Err, refl, sym, ap, ◌∙◌, arith, ltb}
use Rattle.std.specs.Prelude.{ℤ, pos, negsuc, ◌+ℤ◌, ◌*ℤ◌, nat_abs, ◌==◌, ◌≢◌}
use Rattle.std.specs.List.{position, position_or_len, list_all}
use Rattle.std.proofs.lemmas.Bool.{cond-true, cond-false, ltb-false, ne_eqb}
use Rattle.std.proofs.lemmas.List.Quantifiers.{position-Some}
use Rattle.std.proofs.lemmas.List.Sums.{fails_before_first}
use Rattle.rtl_net.specs.Bodies.{expr_view}
use Rattle.vhdl_expand_rules.specs.Elab.{Elab, Told, ◌>>=◌, each}
use Rattle.vhdl_expand_rules.specs.Integers.{checked_integer}
use Rattle.vhdl_expand_rules.specs.SameExpr.{same_expr}
use Rattle.vhdl_expand_rules.specs.Linear as definition
use Rattle.vhdl_expand_rules.specs.Linear.{with_factor, with_term, times, falls_out}
use Rattle.vhdl_expand_rules.proofs.Steps.{given}
use Rattle.vhdl_expand_rules.proofs.Items.{next_left, none_left}
use Rattle.vhdl_expand_numbers.specs.declared.linear.Term.{Term}
use Rattle.vhdl_expand_numbers.specs.Views.{term_view}

-- ---- the first term of a number

none-passes : {X : Type 0} (p : X → Bool) (xs : List X) (d : X) → position p xs ≡ None → (k : ℕ) → k < length xs → p (get_or xs k d) ≡ false
none-passes {X} p xs d h k l = by (ltb (position_or_len p xs) (length xs)) refl h
  where
    by : (t : Bool) → ltb (position_or_len p xs) (length xs) ≡ t → cond t (Some (position_or_len p xs)) None ≡ None → p (get_or xs k d) ≡ false
    by true e f = absurd cc
    by false e f = let past : length xs ≤ position_or_len p xs = ltb-false (position_or_len p xs) (length xs) e in fails_before_first p xs k d (omega (arith, l, past))

module _ (at : ℕ) (t : Term) where
  abbrev is-same : Term → Bool
  is-same s = same_expr (expr_view s.number) (expr_view t.number)

  grown : List Term → ℕ → Elab (List definition.Term)
  grown xs k = with_factor at (term_view (get_or xs k t)) ((get_or xs k t).factor +ℤ t.factor) >>= λ new. given (set (map term_view xs) k new)

  behind-one : (x : definition.Term) (r : Elab definition.Term) (ys : List definition.Term) (k : ℕ)
      → ((r >>= λ new. given (set ys k new)) >>= λ rest. given (x ∷ rest)) ≡ (r >>= λ new. given (set (x ∷ ys) (suc k) new))
  behind-one x (Ok new) ys k = refl
  behind-one x (Err told) ys k = refl

  with-at : (xs : List Term) (k : ℕ) → k < length xs → is-same (get_or xs k t) ≡ true → ((j : ℕ) → j < k → is-same (get_or xs j t) ≡ false)
      → with_term at (map term_view xs) (term_view t) ≡ grown xs k
  unfolding grown
  with-at [] k l here before = absurd (omega (arith, l))
  with-at (x ∷ xs) zero l here before = cond-true (is-same x) _ _ here
  with-at (x ∷ xs) (suc k) l here before =
      cond-false (is-same x) _ _ (before 0 (omega arith))
      ∙ ap (λ r. r >>= λ rest. given (term_view x ∷ rest)) (with-at xs k (omega (arith, l)) here (λ j m. before (suc j) (omega (arith, m))))
      ∙ behind-one (term_view x) (with_factor at (term_view (get_or xs k t)) ((get_or xs k t).factor +ℤ t.factor)) (map term_view xs) k

  with-none : (xs : List Term) → ((k : ℕ) → k < length xs → is-same (get_or xs k t) ≡ false) → with_term at (map term_view xs) (term_view t) ≡ Ok (map term_view (xs ++ t ∷ []))
  with-none [] none = refl
  with-none (x ∷ xs) none =
      cond-false (is-same x) _ _ (none 0 (omega arith))
      ∙ ap (λ r. r >>= λ rest. given (term_view x ∷ rest)) (with-none xs (λ k l. none (suc k) (omega (arith, l))))

  pub place_below : (xs : List Term) (k : ℕ) → position is-same xs ≡ Some k → k < length xs
  place_below xs k h = (position-Some is-same xs k t h).0

  -- a term of the same number has another factor
  pub term_found : (xs : List Term) (k : ℕ) (n : ℤ) → position is-same xs ≡ Some k → checked_integer at ((get_or xs k t).factor +ℤ t.factor) ≡ Ok n
      → with_term at (map term_view xs) (term_view t) ≡ Ok (set (map term_view xs) k (record { number = expr_view (get_or xs k t).number; factor = n }))
  unfolding grown
  term_found xs k n h e =
      let w = position-Some is-same xs k t h in
      with-at xs k w.0 w.1 w.2
      ∙ ap (λ (r : Elab ℤ). (r >>= λ factor. given (record (term_view (get_or xs k t)) { factor = factor })) >>= λ new. given (set (map term_view xs) k new)) e

  pub term_refused : (xs : List Term) (k : ℕ) (told : Told) → position is-same xs ≡ Some k → checked_integer at ((get_or xs k t).factor +ℤ t.factor) ≡ Err told
      → with_term at (map term_view xs) (term_view t) ≡ Err told
  unfolding grown
  term_refused xs k told h e =
      let w = position-Some is-same xs k t h in
      with-at xs k w.0 w.1 w.2
      ∙ ap (λ (r : Elab ℤ). (r >>= λ factor. given (record (term_view (get_or xs k t)) { factor = factor })) >>= λ new. given (set (map term_view xs) k new)) e

  -- or else it stands behind the others
  pub term_added : (xs ys : List Term) → position is-same xs ≡ None → ys ≡ xs ++ t ∷ [] → with_term at (map term_view xs) (term_view t) ≡ Ok (map term_view ys)
  term_added xs ys h is = with-none xs (none-passes is-same xs t h) ∙ ap (λ (zs : List Term). given (map term_view zs)) (sym is)

-- ---- all terms, so many times

abbrev linear : List definition.Term → ℤ → definition.Linear
linear ts n = record { terms = ts; rest = n }

module _ (at : ℕ) (n : ℤ) (x : definition.Linear) (rest : ℤ) (h : checked_integer at (n *ℤ x.rest) ≡ Ok rest) where
  pub times_made : (ts : List definition.Term) → each (λ (t : definition.Term). with_factor at t (n *ℤ t.factor)) x.terms ≡ Ok ts → times at n x ≡ Ok (record { terms = ts; rest = rest })
  unfolding times
  times_made ts e =
      ap (λ (r : Elab ℤ). r >>= λ m. each (λ (t : definition.Term). with_factor at t (n *ℤ t.factor)) x.terms >>= λ us. given (linear us m)) h
      ∙ ap (λ (r : Elab (List definition.Term)). r >>= λ us. given (linear us rest)) e

  pub times_refused : (told : Told) → each (λ (t : definition.Term). with_factor at t (n *ℤ t.factor)) x.terms ≡ Err told → times at n x ≡ Err told
  unfolding times
  times_refused told e =
      ap (λ (r : Elab ℤ). r >>= λ m. each (λ (t : definition.Term). with_factor at t (n *ℤ t.factor)) x.terms >>= λ us. given (linear us m)) h
      ∙ ap (λ (r : Elab (List definition.Term)). r >>= λ us. given (linear us rest)) e

-- a term with another factor, where it is checked
pub factor_made : (at : ℕ) (t : Term) (n m : ℤ) → checked_integer at n ≡ Ok m → with_factor at (term_view t) n ≡ Ok (record { number = expr_view t.number; factor = m })
factor_made at t n m h = ap (λ (r : Elab ℤ). r >>= λ factor. given (record (term_view t) { factor = factor })) h

pub factor_refused : (at : ℕ) (t : Term) (n : ℤ) (told : Told) → checked_integer at n ≡ Err told → with_factor at (term_view t) n ≡ Err told
factor_refused at t n told h = ap (λ (r : Elab ℤ). r >>= λ factor. given (record (term_view t) { factor = factor })) h

-- ---- whether each term falls out

no-size : (n : ℤ) → nat_abs n ≡ 0 → n ≡ pos 0
no-size (pos m) h = ap pos h
no-size (negsuc m) h = absurd (omega (arith, h))

module _ (total : Bool) (xs : List Term) (i : ℕ) (so_far : total ≡ list_all falls_out (map term_view (drop i xs))) where
  pub falls_on : (x : Term) → i < length xs → x ≡ get_or xs i x → x.factor ≡ pos 0 → total ≡ list_all falls_out (map term_view (drop (i + 1) xs))
  falls_on x below is none =
      so_far ∙ ap (λ (ys : List Term). list_all falls_out (map term_view ys)) (next_left xs i x below is)
      ∙ ap (λ (f : ℤ). (nat_abs f == 0) && list_all falls_out (map term_view (drop (i + 1) xs))) none

  pub falls_not : (x : Term) → i < length xs → x ≡ get_or xs i x → x.factor ≢ pos 0 → total ≡ false
  falls_not x below is some =
      so_far ∙ ap (λ (ys : List Term). list_all falls_out (map term_view ys)) (next_left xs i x below is)
      ∙ ap (λ t. t && list_all falls_out (map term_view (drop (i + 1) xs))) (ne_eqb (nat_abs x.factor) 0 (λ e. some (no-size x.factor e)))

  pub falls_all : length xs ≤ i → total ≡ true
  falls_all past = so_far ∙ ap (λ (ys : List Term). list_all falls_out (map term_view ys)) (none_left xs i past)
