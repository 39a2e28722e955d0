-- The codes of values, one after another.
use Rattle.std.proofs.Common.{◌≡◌, ℕ, zero, suc, ◌+◌, List, [], ◌∷◌, ◌++◌, map, drop, add-one, replicate, Some, refl, sym, ap, ◌∙◌}
use Rattle.std.specs.Prelude.{slice_get}
use Rattle.std.proofs.lemmas.List.{append_assoc}
use Rattle.std.proofs.lemmas.Option.{same_Some}
use Rattle.vhdl_values.specs.declared.scalar.Nine.{Nine}
use Rattle.vhdl_values.specs.Scalar.{code_of}

next-suc : (xs : List Nine) (k : ℕ) (x : Nine) → slice_get xs k ≡ Some x → drop k xs ≡ x ∷ drop (suc k) xs
next-suc [] k x h = absurd cc
next-suc (y ∷ xs) zero x h = ap (λ z. z ∷ xs) (same_Some y x h)
next-suc (y ∷ xs) (suc k) x h = next-suc xs k x h

next : (xs : List Nine) (k : ℕ) (x : Nine) → slice_get xs k ≡ Some x → drop k xs ≡ x ∷ drop (k + 1) xs
next xs k x h = next-suc xs k x h ∙ ap (λ j. x ∷ drop j xs) (sym (add-one k))

pub codes_step : (xs : List Nine) (now : List ℕ) (k : ℕ) (x : Nine) → map code_of xs ≡ now ++ map code_of (drop k xs) → slice_get xs k ≡ Some x
    → map code_of xs ≡ (now ++ code_of x ∷ []) ++ map code_of (drop (k + 1) xs)
codes_step xs now k x so_far h =
    so_far ∙ ap (λ ys. now ++ map code_of ys) (next xs k x h) ∙ sym (append_assoc now (code_of x ∷ []) (map code_of (drop (k + 1) xs)))

more-suc : {A : Type 0} (n : ℕ) (x : A) → replicate (suc n) x ≡ replicate n x ++ x ∷ []
more-suc zero x = refl
more-suc (suc n) x = ap (λ ys. x ∷ ys) (more-suc n x)

pub one_more : {A : Type 0} (n : ℕ) (x : A) → replicate (n + 1) x ≡ replicate n x ++ x ∷ []
one_more n x = ap (λ m. replicate m x) (add-one n) ∙ more-suc n x
