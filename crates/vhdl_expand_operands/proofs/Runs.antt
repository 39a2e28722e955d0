-- Neighbours of one number, as a loop comes to them from the left.
use Rattle.std.proofs.Common.{◌≡◌, ℕ, suc, ◌+◌, Bool, true, false, cond, ◌==◌, List, [], ◌∷◌, refl, sym, ap, ◌∙◌, arith}
use Rattle.std.proofs.lemmas.Bool.{eqb-true, eqb-false, eq-eqb, ne_eqb}
use Rattle.vhdl_expand_rules.specs.Aggregates.{run_before, runs}

-- these neighbours, and those of some more numbers behind them
abbrev pub runs_on : (k n : ℕ) → List ℕ → List (ℕ × ℕ)
runs_on k n [] = (k, n) ∷ []
runs_on k n (j ∷ js) = cond (j == k) (runs_on k (suc n) js) ((k, n) ∷ runs_on j 1 js)

-- so many more of the first
abbrev grown : ℕ → List (ℕ × ℕ) → List (ℕ × ℕ)
grown n [] = []
grown n (r ∷ rs) = (r.0, n + r.1) ∷ rs

grown-none : (rs : List (ℕ × ℕ)) → grown 0 rs ≡ rs
grown-none [] = refl
grown-none (r ∷ rs) = ap (λ m. (r.0, m) ∷ rs) (let e : 0 + r.1 ≡ r.1 = omega arith in e)

-- the first neighbours of numbers are of the first number
record Begun (k : ℕ) (rs : List (ℕ × ℕ)) : Type 0 where
  many : ℕ
  rest : List (ℕ × ℕ)
  is : rs ≡ (k, many) ∷ rest

begun : (k : ℕ) (ks : List ℕ) → Begun k (runs (k ∷ ks))
begun k ks = by (runs ks)
  where
    by : (rs : List (ℕ × ℕ)) → Begun k (run_before k rs)
    by [] = record { many = 1; rest = []; is = refl }
    by (r ∷ rs) = chosen (k == r.0) (λ e. eqb-true k r.0 e)
      where
        chosen : (t : Bool) → (t ≡ true → k ≡ r.0) → Begun k (cond t ((r.0, suc r.1) ∷ rs) ((k, 1) ∷ (r ∷ rs)))
        chosen true e = record { many = suc r.1; rest = rs; is = ap (λ j. (j, suc r.1) ∷ rs) (sym (e refl)) }
        chosen false e = record { many = 1; rest = r ∷ rs; is = refl }

-- one more of the first number, and a number before another
before-same : (k : ℕ) (rs : List (ℕ × ℕ)) → Begun k rs → (n : ℕ) → grown n (run_before k rs) ≡ grown (suc n) rs
before-same k rs b n =
    ap (λ xs. grown n (run_before k xs)) b.is
    ∙ ap (λ t. grown n (cond t ((k, suc b.many) ∷ b.rest) ((k, 1) ∷ ((k, b.many) ∷ b.rest)))) (eq-eqb k k refl)
    ∙ ap (λ m. (k, m) ∷ b.rest) (let e : n + suc b.many ≡ suc n + b.many = omega arith in e)
    ∙ ap (grown (suc n)) (sym b.is)

before-other : (k j : ℕ) (rs : List (ℕ × ℕ)) → Begun j rs → (k == j) ≡ false → run_before k rs ≡ (k, 1) ∷ rs
before-other k j rs b h =
    ap (run_before k) b.is ∙ ap (λ t. cond t ((j, suc b.many) ∷ b.rest) ((k, 1) ∷ ((j, b.many) ∷ b.rest))) h ∙ ap (λ xs. (k, 1) ∷ xs) (sym b.is)

several : (ks : List ℕ) (k n : ℕ) → runs_on k (suc n) ks ≡ grown n (runs (k ∷ ks))
several [] k n = ap (λ m. (k, m) ∷ []) (let e : suc n ≡ n + 1 = omega arith in e)
several (j ∷ js) k n = by (j == k) (λ e. eqb-true j k e) (λ e. ne_eqb k j (λ h. eqb-false j k e (sym h))) (several js k (suc n)) (several js j 0)
  where
    by : (t : Bool) → (t ≡ true → j ≡ k) → (t ≡ false → (k == j) ≡ false) → runs_on k (suc (suc n)) js ≡ grown (suc n) (runs (k ∷ js)) → runs_on j 1 js ≡ grown 0 (runs (j ∷ js))
        → cond t (runs_on k (suc (suc n)) js) ((k, suc n) ∷ runs_on j 1 js) ≡ grown n (runs (k ∷ (j ∷ js)))
    by true same other on new =
        on ∙ sym (before-same k (runs (k ∷ js)) (begun k js) n)
        ∙ ap (λ i. grown n (run_before k (runs (i ∷ js)))) (sym (same refl))
    by false same other on new =
        ap (λ xs. (k, suc n) ∷ xs) (new ∙ grown-none (runs (j ∷ js)))
        ∙ ap (λ m. (k, m) ∷ runs (j ∷ js)) (let e : suc n ≡ n + 1 = omega arith in e)
        ∙ ap (grown n) (sym (before-other k j (runs (j ∷ js)) (begun j js) (other refl)))

pub runs_of : (k : ℕ) (ks : List ℕ) → runs (k ∷ ks) ≡ runs_on k 1 ks
runs_of k ks = sym (several ks k 0 ∙ grown-none (runs (k ∷ ks)))
