-- Lists in the order in which the code comes to their elements.
use Rattle.std.specs.Prelude.{List, [], ◌∷◌, ◌++◌, Option, Some}
use Rattle.vhdl_names_rules.specs.Rules.{◌>>=◌}

-- each thing in turn, on what the ones before it gave
abbrev pub in_turn : {A B : Type 0} → (A → B → Option A) → A → List B → Option A
in_turn f x [] = Some x
in_turn f x (y ∷ ys) = f x y >>= λ z. in_turn f z ys

-- what is done, and what one more thing gives
abbrev pub one_more : {A B : Type 0} → (A → Option B) → List B → A → Option (List B)
one_more f done x = f x >>= λ y. Some (done ++ y ∷ [])
