-- Lists in order.
use Rattle.std.specs.Prelude.{◌≡◌, ℕ, ◌<◌, ◌⊎◌, Bool, true, false, List, [], ◌∷◌}
use Rattle.std.specs.List.{AllPairs}

abbrev pub is_empty : {X : Type 0} → List X → Bool
is_empty [] = true
is_empty (x ∷ xs) = false

-- the order of a dictionary: the first numbers that differ decide
abbrev pub IsLess : List ℕ → List ℕ → Type 0
IsLess [] bs = ⊥
IsLess (a ∷ as') [] = ⊥
IsLess (a ∷ as') (b ∷ bs) = (a < b) ⊎ ((a ≡ b) × IsLess as' bs)

-- each thing's key is above the keys of those before it, so that each is there once
abbrev pub RisesBy : {X : Type 0} → (key : X → List ℕ) → List X → Type 0
RisesBy key xs = AllPairs (λ x y. IsLess (key x) (key y)) xs
