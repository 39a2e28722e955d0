-- Runs of numbers.
use Rattle.std.proofs.Common.{◌≡◌, ℕ, suc, ◌+◌, ◌-◌, ◌<◌, Bool, false, ◌||◌, sym, ap, ◌∙◌, arith}
use Rattle.std.specs.List.{list_any, range_with_len}

-- a run without its first number
pub run_on : (f : ℕ → Bool) (a n i : ℕ) → i < n → list_any f (range_with_len (a + i) (n - i)) ≡ (f (a + i) || list_any f (range_with_len (a + (i + 1)) (n - (i + 1))))
run_on f a n i l =
    ap (λ (k : ℕ). list_any f (range_with_len (a + i) k)) (one n i l) ∙ ap (λ (b : ℕ). f (a + i) || list_any f (range_with_len b (n - (i + 1)))) (next a i)
  where
    one : (n i : ℕ) → i < n → n - i ≡ suc (n - (i + 1))
    one n i l = omega arith

    next : (a i : ℕ) → (a + i) + 1 ≡ a + (i + 1)
    next a i = omega arith

pub run_goes : (f : ℕ → Bool) (a n i : ℕ) (all : Bool) → i < n → f (a + i) ≡ false → list_any f (range_with_len (a + i) (n - i)) ≡ all
    → list_any f (range_with_len (a + (i + 1)) (n - (i + 1))) ≡ all
run_goes f a n i all l e inv = sym (ap (λ (b : Bool). b || list_any f (range_with_len (a + (i + 1)) (n - (i + 1)))) e) ∙ (sym (run_on f a n i l) ∙ inv)
