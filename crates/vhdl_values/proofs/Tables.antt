-- Truth tables: tests that computation decides for all values, or all pairs of values.
use Rattle.std.proofs.Common.{◌≡◌, Bool, true, false, refl}
use Rattle.std.specs.Prelude.{◌&&◌}
use Rattle.std.specs.List.{list_all}
use Rattle.vhdl_values.specs.declared.scalar.Nine.{Nine}
use Rattle.vhdl_values.specs.declared.scalar.Nine.TheVariants.{U, X, Zero, One, Z, W, L, H, Dash}
use Rattle.vhdl_values.specs.Scalar.{nines}

-- whether two truth values are the same
abbrev pub agree : Bool → Bool → Bool
agree true b = b
agree false true = false
agree false false = true

agree-same : (a b : Bool) → agree a b ≡ true → a ≡ b
agree-same true false e = cc
agree-same false true e = cc
agree-same _ _ e = refl

pub both-first : (a b : Bool) → (a && b) ≡ true → a ≡ true
both-first true b e = refl
both-first false b e = e

pub both-second : (a b : Bool) → (a && b) ≡ true → b ≡ true
both-second true b e = e
both-second false b e = cc

-- what holds of the nine values holds of each
pub each : (p : Nine → Bool) → list_all p nines ≡ true → (v : Nine) → p v ≡ true
each p e U = both-first _ _ e
each p e X = both-first _ _ (both-second (p U) _ e)
each p e Zero = both-first _ _ (both-second (p X) _ (both-second (p U) _ e))
each p e One = both-first _ _ (both-second (p Zero) _ (both-second (p X) _ (both-second (p U) _ e)))
each p e Z = both-first _ _ (both-second (p One) _ (both-second (p Zero) _ (both-second (p X) _ (both-second (p U) _ e))))
each p e W = both-first _ _ (both-second (p Z) _ (both-second (p One) _ (both-second (p Zero) _ (both-second (p X) _ (both-second (p U) _ e)))))
each p e L = both-first _ _ (both-second (p W) _ (both-second (p Z) _ (both-second (p One) _ (both-second (p Zero) _ (both-second (p X) _ (both-second (p U) _ e))))))
each p e H = both-first _ _ (both-second (p L) _ (both-second (p W) _ (both-second (p Z) _ (both-second (p One) _ (both-second (p Zero) _ (both-second (p X) _ (both-second (p U) _ e)))))))
each p e Dash = both-first _ _ (both-second (p H) _ (both-second (p L) _ (both-second (p W) _ (both-second (p Z) _ (both-second (p One) _ (both-second (p Zero) _ (both-second (p X) _ (both-second (p U) _ e))))))))

-- two properties that agree on the nine values
pub same_for_each : (f g : Nine → Bool) → list_all (λ v. agree (f v) (g v)) nines ≡ true → (v : Nine) → f v ≡ g v
same_for_each f g e v = agree-same (f v) (g v) (each (λ w. agree (f w) (g w)) e v)

-- and on all their pairs
pub same_for_pairs : (f g : Nine → Nine → Bool) → list_all (λ v. list_all (λ w. agree (f v w) (g v w)) nines) nines ≡ true → (v w : Nine) → f v w ≡ g v w
same_for_pairs f g e v w = same_for_each (f v) (g v) (each (λ a. list_all (λ b. agree (f a b) (g a b)) nines) e v) w
