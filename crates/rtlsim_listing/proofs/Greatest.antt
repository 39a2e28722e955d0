-- The greatest of some levels.
use Rattle.std.proofs.Common.{◌≡◌, ℕ, ◌+◌, ◌<◌, List, [], ◌∷◌, ◌++◌, max, length, take, get_or, ap, ◌∙◌, arith}
use Rattle.std.specs.Prelude.{Option}
use Rattle.std.specs.Option.{unwrap_or}
use Rattle.std.proofs.lemmas.List.{take_more}
use Rattle.rtlsim_listing.specs.CheckText.{greatest_level}

behind : (levels : List (Option ℕ)) (level : Option ℕ) → greatest_level (levels ++ level ∷ []) ≡ max (greatest_level levels) (unwrap_or level 0)
behind [] level = omega arith
behind (l ∷ levels) level = omega (arith, behind levels level)

-- one level more
pub greatest_more : (levels : List (Option ℕ)) (i : ℕ) (d : Option ℕ) → i < length levels
    → greatest_level (take (i + 1) levels) ≡ max (greatest_level (take i levels)) (unwrap_or (get_or levels i d) 0)
greatest_more levels i d lt = ap greatest_level (take_more levels i d lt) ∙ behind (take i levels) (get_or levels i d)
