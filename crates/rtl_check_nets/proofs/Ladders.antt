-- Where below each number of a level above 1 there is one of the next lower level, no level is above how many numbers
-- have one.
use Rattle.std.proofs.Common.{◌≡◌, ℕ, zero, suc, ◌<◌, ◌≤◌, true, false, List, [], ◌∷◌, length, get_or, eqb, refl, sym, ap, subst, ◌∙◌, arith, Contains}
use Rattle.std.specs.List.{IsDistinct, list_any}
use Rattle.std.proofs.lemmas.Bool.{ne_eqb, eqb-true}
use Rattle.std.proofs.lemmas.List.Elements.{All-from_get_or, Contains-get_or, recursion_from_All}
use Rattle.std.proofs.lemmas.Map.Keys.{IsDistinct-cons}
use Rattle.std.proofs.lemmas.Map.Steps.{length-le_from_distinct_below}
use Rattle.rtl_model.proofs.basics.Lists.{any_at}

module _ (level : ℕ → ℕ) (size : ℕ) (inside : (q k : ℕ) → level q ≡ suc k → q < size) (lower : (q k : ℕ) → level q ≡ suc (suc k) → (p : ℕ) × (level p ≡ suc k)) where
  -- one of each level from 1 to this one
  record Ladder (many : ℕ) (ps : List ℕ) : Type 0 where
    so_many : length ps ≡ many
    distinct : IsDistinct eqb ps
    low : (p : ℕ) → Contains ps p → (k : ℕ) × (k < many) × (level p ≡ suc k)

  ladder : (k q : ℕ) → level q ≡ suc k → (ps : List ℕ) × Ladder (suc k) ps
  unfolding IsDistinct
  ladder zero q e = (
    q ∷ [],
    record {
      so_many = refl;
      distinct = IsDistinct-cons eqb q [] tt tt;
      low = low;
    },
  )
    where
      low : (p : ℕ) → Contains (q ∷ []) p → (k : ℕ) × (k < 1) × (level p ≡ suc k)
      low p (zero, h, is) = (0, omega arith, sym (ap level is) ∙ e)
      low p (suc k, h, is) = absurd (omega arith)
  ladder (suc k) q e =
      let (p, is) = lower q k e in
      let (ps, l) = ladder k p is in (
        q ∷ ps,
        record {
          so_many = ap suc l.so_many;
          distinct = IsDistinct-cons eqb q ps (recursion_from_All (λ y. eqb q y ≡ false) ps (All-from_get_or (λ y. eqb q y ≡ false) ps 0 (λ i h. ne_eqb q _ (other ps l i h)))) l.distinct;
          low = low ps l;
        },
      )
    where
      other : (ps : List ℕ) → Ladder (suc k) ps → (i : ℕ) → i < length ps → q ≡ get_or ps i 0 → ⊥
      other ps l i h same =
          let (j, below, has) = l.low (get_or ps i 0) (Contains-get_or ps i 0 h) in
          let top : suc (suc k) ≡ suc j = sym e ∙ ap level same ∙ has in
          omega arith

      low : (ps : List ℕ) → Ladder (suc k) ps → (p : ℕ) → Contains (q ∷ ps) p → (j : ℕ) × (j < suc (suc k)) × (level p ≡ suc j)
      low ps l p (zero, h, is) = (suc k, omega arith, sym (ap level is) ∙ e)
      low ps l p (suc i, h, is) = let (j, below, has) = l.low p (i, omega arith, is) in (j, omega arith, has)

  pub level_fits : (q k : ℕ) → level q ≡ k → k ≤ size
  level_fits q zero e = omega arith
  level_fits q (suc k) e =
      let (ps, l) = ladder k q e in
      let fits = length-le_from_distinct_below ps size l.distinct (there ps l) in
      let many = l.so_many in
      omega arith
    where
      there : (ps : List ℕ) → Ladder (suc k) ps → (r : ℕ) → list_any (eqb r) ps ≡ true → r < size
      there ps l r t =
          let (p, c, same) = any_at (eqb r) ps t in
          let (j, below, has) = l.low p c in
          let is : r ≡ p = eqb-true r p same in
          inside r j (ap level is ∙ has)
