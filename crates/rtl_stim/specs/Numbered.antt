-- Lists of which each place gives something.
use Rattle.std.specs.Prelude.{ℕ, suc, List, [], ◌∷◌}

-- what each of these gives with its place, the first having this one
abbrev pub numbered : {X Y : Type 0} → (f : (place : ℕ) → X → Y) → (place : ℕ) → List X → List Y
numbered f place [] = []
numbered f place (x ∷ xs) = f place x ∷ numbered f (suc place) xs
