-- Whether numbers are in a list.
use Rattle.std.specs.Prelude.{ℕ, Bool, not, ◌==◌, List}
use Rattle.std.specs.List.{list_any}
use Rattle.rtl_model.specs.basics.Lists.{is_empty}

-- this number is
abbrev pub is_in : (n : ℕ) → List ℕ → Bool
is_in n xs = list_any (λ m. m == n) xs

-- there are some
abbrev pub some : List ℕ → Bool
some xs = not (is_empty xs)
