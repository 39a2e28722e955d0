-- A search that has come one further.
use Rattle.std.proofs.Common.{◌≡◌, ℕ, ◌+◌, ◌<◌, Bool, false, List, length, map, get_or, ◌∙◌, below_more}
use Rattle.rtl_model.proofs.basics.Lists.{get_or-map_within}

pub none_more : {X : Type 0} (f : X → Bool) (xs : List X) (i : ℕ) (d : X) → i < length xs → f (get_or xs i d) ≡ false
    → ((k : ℕ) → k < i → get_or (map f xs) k false ≡ false) → (k : ℕ) → k < i + 1 → get_or (map f xs) k false ≡ false
none_more f xs i d l fails below = below_more (λ k. get_or (map f xs) k false ≡ false) i below (get_or-map_within f xs i d false l ∙ fails)
