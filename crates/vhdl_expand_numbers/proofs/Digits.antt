-- How many digits numbers need.
use Rattle.std.proofs.Common.{◌≡◌, ℕ, zero, suc, ◌+◌, ◌-◌, ◌*◌, ◌^◌, ◌<◌, ◌≤◌, ◌⊎◌, inl, inr, Bool, true, ◌&&◌, max, refl, sym, ◌∙◌, subst, pow-suc, pow_mono, arith, w64}
use Rattle.std.specs.Prelude.{ℤ, pos, negsuc, nat_lt, FitsSigned}
use Rattle.std.proofs.lemmas.Bool.{and_parts, and_from, ltb-true, lt-ltb, cases_lt}
use Rattle.std.proofs.lemmas.Nat.{leading_length}
use lib.Count.{count_leading_zeros}
use Rattle.vhdl_numbers.specs.Digits.{without_sign}
use Rattle.vhdl_expand_rules.specs.Computed.{Span, hold, digits_needed}
use Rattle.vhdl_expand_rules.proofs.FirstPassing.{first_passing, first_by, first_passes, first_within}

pub size_small : (x : ℤ) → FitsSigned w64 x → without_sign x < 2 ^ 63
size_small (pos n) h = h.sfits
size_small (negsuc n) h = h.sfits

hold-without_sign : (d : ℕ) (x : ℤ) → hold d x ≡ nat_lt (without_sign x * 2) (2 ^ d)
hold-without_sign d (pos n) = refl
hold-without_sign d (negsuc n) = refl

-- what is below a power needs a digit more than that
enough-below : (a m : ℕ) → a < 2 ^ m → a * 2 < 2 ^ suc m
enough-below a m h = let e = pow-suc 2 m in omega (arith, e, h)

few-above : (a m k : ℕ) → 2 ^ m ≤ 2 * a + 1 → a * 2 < 2 ^ suc k → m ≤ k
few-above a m k low high = by (cases_lt k m)
  where
    by : (k < m) ⊎ (m ≤ k) → m ≤ k
    by (inr l) = l
    by (inl l) =
        let p : 2 ^ suc k ≤ 2 ^ m = pow_mono l in
        let e = pow-suc 2 k in
        absurd (omega (arith, low, high, p, e))

module _ (x : ℤ) (a zeros d : ℕ) (is : a ≡ without_sign x) (word : a < 2 ^ 64) (counted : zeros ≡ count_leading_zeros 64 a) (made : d ≡ 65 - zeros) where
  pub digits_hold : hold d x ≡ true
  digits_hold =
      let w = leading_length 64 a word in
      let long : d ≡ suc w.0 = omega (arith, counted, made, w.1) in
      hold-without_sign d x
      ∙ lt-ltb (without_sign x * 2) (2 ^ d)
      (subst (λ n. without_sign x * 2 < 2 ^ n) (sym long) (subst (λ n. n * 2 < 2 ^ suc w.0) is (enough-below a w.0 w.2)))

  pub digits_fewest : (n : ℕ) → 1 ≤ n → hold n x ≡ true → d ≤ n
  digits_fewest zero l h = absurd (omega (arith, l))
  digits_fewest (suc k) l h =
      let w = leading_length 64 a word in
      let high : without_sign x * 2 < 2 ^ suc k = ltb-true (without_sign x * 2) (2 ^ suc k) (sym (hold-without_sign (suc k) x) ∙ h) in
      let few = few-above a w.0 k w.3 (subst (λ n. n * 2 < 2 ^ suc k) (sym is) high) in
      omega (arith, few, counted, made, w.1)

  pub digits_few : a < 2 ^ 63 → d ≤ 64
  digits_few small =
      let w = leading_length 64 a word in
      let m : w.0 ≤ 63 = few-above a w.0 63 w.3 (omega (arith, small)) in
      omega (arith, counted, made, w.1, m)

-- more digits hold it too
hold-more : (x : ℤ) (m n : ℕ) → m ≤ n → hold m x ≡ true → hold n x ≡ true
hold-more x m n l h =
    let small : without_sign x * 2 < 2 ^ m = ltb-true (without_sign x * 2) (2 ^ m) (sym (hold-without_sign m x) ∙ h) in
    let p : 2 ^ m ≤ 2 ^ n = pow_mono l in
    hold-without_sign n x ∙ lt-ltb (without_sign x * 2) (2 ^ n) (omega (arith, small, p))

-- the digits that hold both ends are the longer ones
pub needed : (s : Span) (a b : ℕ) → hold a s.least ≡ true → ((n : ℕ) → 1 ≤ n → hold n s.least ≡ true → a ≤ n) → 1 ≤ a → a ≤ 64
    → hold b s.greatest ≡ true → ((n : ℕ) → 1 ≤ n → hold n s.greatest ≡ true → b ≤ n) → b ≤ 64 → max a b ≡ digits_needed s
unfolding digits_needed first_passing
needed s a b h f some few g k less =
    let p : ℕ → Bool = λ n. hold n s.least && hold n s.greatest in
    let both : p (max a b) ≡ true = and_from (hold (max a b) s.least) (hold (max a b) s.greatest) (hold-more s.least a (max a b) (omega arith) h) (hold-more s.greatest b (max a b) (omega arith) g) in
    let low : 1 ≤ max a b = omega (arith, some) in
    let high : max a b < 1 + 64 = omega (arith, few, less) in
    let found : p (first_passing p 1 64) ≡ true = first_passes p 64 1 (max a b) low high both in
    let under : first_passing p 1 64 ≤ max a b = first_by p 64 1 (max a b) low high both in
    let there : 1 ≤ first_passing p 1 64 = (first_within p 64 1 (omega arith) (omega arith)).0 in
    let ends = and_parts (hold (first_passing p 1 64) s.least) (hold (first_passing p 1 64) s.greatest) found in
    let left = f (first_passing p 1 64) there ends.0 in
    let right = k (first_passing p 1 64) there ends.1 in
    omega (arith, under, left, right)
