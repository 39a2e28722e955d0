-- The values of a parameter, one a turn.
use Rattle.std.proofs.Common.{◌≡◌, ℕ, zero, suc, ◌+◌, ◌<◌, ◌≤◌, [], ◌∷◌, length, drop, refl, ap, ◌∙◌, arith}
use Rattle.std.specs.Prelude.{ℤ}
use Rattle.std.proofs.lemmas.Int.{ints}
use Rattle.vhdl_tree.specs.declared.operator.Direction.{Direction}
use Rattle.vhdl_tree.specs.declared.operator.Direction.TheVariants.{To, Downto}
use Rattle.vhdl_expand_rules.specs.Integers.{numbers_from, next}
use Rattle.vhdl_expand_rules.specs.Parameters.{parameter}

parameter-next : (direction : Direction) (x : ℤ) (k : ℕ) → parameter direction (next direction x) k ≡ parameter direction x (suc k)
parameter-next To x k = omega (arith, ints)
parameter-next Downto x k = omega (arith, ints)

parameter-first : (direction : Direction) (x : ℤ) → x ≡ parameter direction x 0
parameter-first To x = omega (arith, ints)
parameter-first Downto x = omega (arith, ints)

pub next-turn : (direction : Direction) (x : ℤ) (count k : ℕ) → k < count → drop k (numbers_from direction x count) ≡ parameter direction x k ∷ drop (k + 1) (numbers_from direction x count)
next-turn direction x zero k h = absurd (omega arith)
next-turn direction x (suc count) zero h = ap (λ j. j ∷ numbers_from direction (next direction x) count) (parameter-first direction x)
next-turn direction x (suc count) (suc k) h =
    let e : suc (k + 1) ≡ suc k + 1 = omega arith in
    next-turn direction (next direction x) count k (omega arith)
    ∙ ap (λ j. j ∷ drop (k + 1) (numbers_from direction (next direction x) count)) (parameter-next direction x k)
    ∙ ap (λ m. parameter direction x (suc k) ∷ drop m (numbers_from direction x (suc count))) e

pub no-turn : (direction : Direction) (x : ℤ) (count k : ℕ) → count ≤ k → drop k (numbers_from direction x count) ≡ []
no-turn direction x zero zero h = refl
no-turn direction x zero (suc k) h = refl
no-turn direction x (suc count) zero h = absurd (omega arith)
no-turn direction x (suc count) (suc k) h = no-turn direction (next direction x) count k (omega arith)

pub counted-length : (direction : Direction) (x : ℤ) (count : ℕ) → length (numbers_from direction x count) ≡ count
counted-length direction x zero = refl
counted-length direction x (suc count) = ap suc (counted-length direction (next direction x) count)
