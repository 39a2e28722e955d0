-- How a vector is kept: four words, the planes. Bit k of word j is bit j of the code of the value that stands k
-- places from the right.
use Rattle.std.specs.Prelude.{◌≡◌, ℕ, ◌+◌, ◌*◌, ◌%◌, ◌^◌, ◌<◌, ◌≤◌, ◌==◌, Bool, if◌then◌else◌, List, [], ◌∷◌, length, refl}
use Prim.Native.Nat.{zero, suc}
use Rattle.std.specs.Int.{bit_at}
use Rattle.std.proofs.Common.{arith, ap, sym, ◌∙◌}
use Rattle.std.proofs.lemmas.Nat.{mod-pow-add}
use Rattle.std.proofs.lemmas.Nat.Bits.{bit_at-lt}
use Rattle.std.proofs.Math.Nat.{mod-eq_of_lt}
use Rattle.vhdl_values.specs.declared.scalar.Nine.{Nine}
use Rattle.vhdl_values.specs.Scalar.{code_of, value_of_code}

-- 1 for yes, 0 for no
abbrev pub bit : Bool → ℕ
bit b = if b then 1 else 0

-- the word whose bit k tells whether the element that stands k places from the right has a property
unfoldable pub marks : {A : Type 0} → (A → Bool) → List A → ℕ
marks f [] = 0
marks f (x ∷ xs) = bit (f x) * 2 ^ length xs + marks f xs

-- whether bit j of a code is 1
abbrev pub code_has : ℕ → ℕ → Bool
code_has j code = bit_at code j == 1

-- whether bit j of a value's code is 1
abbrev pub has_bit : ℕ → Nine → Bool
has_bit j v = code_has j (code_of v)

-- word j of a vector
abbrev pub plane_of : ℕ → List Nine → ℕ
plane_of j vs = marks (has_bit j) vs

-- the four words
abbrev pub planes_of : List Nine → List ℕ
planes_of vs = plane_of 0 vs ∷ plane_of 1 vs ∷ plane_of 2 vs ∷ plane_of 3 vs ∷ []

-- these words are the planes of a vector, or of a part of one
abbrev pub ArePlanes : List Nine → ℕ → ℕ → ℕ → ℕ → Type 0
ArePlanes vs a b c d = (a ≡ plane_of 0 vs) × (b ≡ plane_of 1 vs) × (c ≡ plane_of 2 vs) × (d ≡ plane_of 3 vs)

-- the code that four words have at a place from the right
abbrev pub code_at : ℕ → ℕ → ℕ → ℕ → ℕ → ℕ
code_at a b c d k = bit_at a k + 2 * bit_at b k + 4 * bit_at c k + 8 * bit_at d k

-- the values that four words have at so many places, leftmost first
unfoldable pub values_at : ℕ → ℕ → ℕ → ℕ → ℕ → List Nine
values_at zero a b c d = []
values_at (suc k) a b c d = value_of_code (code_at a b c d k) ∷ values_at k a b c d

-- a length from 1 to 64, a code below 9 at each place, and no bit at the length or above
pub record IsPlanes (len a b c d : ℕ) : Type 0 where
  pub some : 1 ≤ len
  pub room : len ≤ 64
  pub codes : (k : ℕ) → k < len → code_at a b c d k < 9
  pub first : a < 2 ^ len
  pub second : b < 2 ^ len
  pub third : c < 2 ^ len
  pub fourth : d < 2 ^ len

-- the words have the bits of codes that come one after the other, leftmost first
pub record HaveCodes (codes : List ℕ) (a b c d : ℕ) : Type 0 where
  pub firsts : a ≡ marks (code_has 0) codes
  pub seconds : b ≡ marks (code_has 1) codes
  pub thirds : c ≡ marks (code_has 2) codes
  pub fourths : d ≡ marks (code_has 3) codes

pub length-values_at : (len a b c d : ℕ) → length (values_at len a b c d) ≡ len
unfolding values_at
length-values_at zero a b c d = refl
length-values_at (suc k) a b c d = ap suc (length-values_at k a b c d)

-- the code of the value of a code
pub code_of-value_of_code : (code : ℕ) → code < 9 → code_of (value_of_code code) ≡ code
code_of-value_of_code (suc (suc (suc (suc (suc (suc (suc (suc (suc n))))))))) lt = absurd (omega arith)
code_of-value_of_code _ lt = refl

-- a bit as a test and back
pub bit-test : (n : ℕ) → n < 2 → bit (n == 1) ≡ n
bit-test (suc (suc n)) lt = absurd (omega arith)
bit-test _ lt = refl

-- the bits of a code
bit-code : (a b c d k : ℕ) →
    (bit_at (code_at a b c d k) 0 ≡ bit_at a k) × (bit_at (code_at a b c d k) 1 ≡ bit_at b k)
    × (bit_at (code_at a b c d k) 2 ≡ bit_at c k) × (bit_at (code_at a b c d k) 3 ≡ bit_at d k)
bit-code a b c d k = (omega arith, omega arith, omega arith, omega arith)

-- plane j of the values is the low part of word w, which holds bit j of each code
plane_of-values_at : (j w len a b c d : ℕ) → ((k : ℕ) → bit_at (code_at a b c d k) j ≡ bit_at w k) →
    ((k : ℕ) → k < len → code_at a b c d k < 9) → plane_of j (values_at len a b c d) ≡ w % 2 ^ len
unfolding values_at marks
plane_of-values_at j w zero a b c d same codes = omega arith
plane_of-values_at j w (suc k) a b c d same codes =
    let here : code_of (value_of_code (code_at a b c d k)) ≡ code_at a b c d k =
    code_of-value_of_code _ (codes k (omega arith)) in
    let digit : bit (has_bit j (value_of_code (code_at a b c d k))) ≡ bit_at w k =
    ap (λ n. bit (bit_at n j == 1)) here ∙ ap (λ n. bit (n == 1)) (same k) ∙ bit-test (bit_at w k) (bit_at-lt w k) in
    let rest : plane_of j (values_at k a b c d) ≡ w % 2 ^ k =
    plane_of-values_at j w k a b c d same (λ i lt. codes i (omega arith)) in
    let one : 1 + k ≡ suc k = omega arith in
    let whole : w % 2 ^ suc k ≡ bit_at w k * 2 ^ k + w % 2 ^ k = ap (λ n. w % 2 ^ n) (sym one) ∙ mod-pow-add w 1 k in
    ap (λ n. n * 2 ^ length (values_at k a b c d) + plane_of j (values_at k a b c d)) digit
    ∙ ap (λ n. bit_at w k * 2 ^ n + plane_of j (values_at k a b c d)) (length-values_at k a b c d)
    ∙ ap (λ n. bit_at w k * 2 ^ k + n) rest
    ∙ sym whole

pub plane_of-first : (len a b c d : ℕ) → IsPlanes len a b c d → plane_of 0 (values_at len a b c d) ≡ a
plane_of-first len a b c d h =
    plane_of-values_at 0 a len a b c d (λ k. (bit-code a b c d k).0) h.codes ∙ mod-eq_of_lt h.first

pub plane_of-second : (len a b c d : ℕ) → IsPlanes len a b c d → plane_of 1 (values_at len a b c d) ≡ b
plane_of-second len a b c d h =
    plane_of-values_at 1 b len a b c d (λ k. (bit-code a b c d k).1) h.codes ∙ mod-eq_of_lt h.second

pub plane_of-third : (len a b c d : ℕ) → IsPlanes len a b c d → plane_of 2 (values_at len a b c d) ≡ c
plane_of-third len a b c d h =
    plane_of-values_at 2 c len a b c d (λ k. (bit-code a b c d k).2) h.codes ∙ mod-eq_of_lt h.third

pub plane_of-fourth : (len a b c d : ℕ) → IsPlanes len a b c d → plane_of 3 (values_at len a b c d) ≡ d
plane_of-fourth len a b c d h =
    plane_of-values_at 3 d len a b c d (λ k. (bit-code a b c d k).3) h.codes ∙ mod-eq_of_lt h.fourth
