-- How many elements pass a test, once one is replaced.
use Rattle.std.proofs.Common.{◌≡◌, ℕ, ◌+◌, ◌<◌, Bool, true, false, cond, List, length, get_or, set, arith}
use Rattle.std.specs.List.{count_by}
use Rattle.std.proofs.lemmas.List.Sums.{sum_by-set}

module _ {X : Type 0} (p : X → Bool) (xs : List X) (i : ℕ) (y d : X) (within : i < length xs) where
  pub count_by-set_more : p (get_or xs i d) ≡ false → p y ≡ true → count_by p (set xs i y) ≡ count_by p xs + 1
  count_by-set_more fails passes =
      let h = sum_by-set (λ x. cond (p x) 1 0) xs i y d within in
      omega (arith, rw (fails, passes) at h)

  pub count_by-set_less : p (get_or xs i d) ≡ true → p y ≡ false → count_by p (set xs i y) + 1 ≡ count_by p xs
  count_by-set_less passes fails =
      let h = sum_by-set (λ x. cond (p x) 1 0) xs i y d within in
      omega (arith, rw (fails, passes) at h)

  pub count_by-set_same : p y ≡ p (get_or xs i d) → count_by p (set xs i y) ≡ count_by p xs
  count_by-set_same same =
      let h = sum_by-set (λ x. cond (p x) 1 0) xs i y d within in
      omega (arith, rw same at h)
