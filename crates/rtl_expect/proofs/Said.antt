-- What is said of differences.
use Rattle.std.proofs.Common.{◌≡◌, ℕ, zero, suc, ◌<◌, List, [], ◌∷◌, ◌++◌, length, map, get_or, refl, arith}
use Rattle.std.specs.Prelude.{codes, decimal}
use Rattle.rtl_net.specs.Nets.{NetlistView}
use Rattle.rtl_expect.specs.Telling.{difference_line, first_line, more_said}
use Rattle.rtl_expect.specs.Watching.{difference_view}
use Rattle.rtl_expect.specs.declared.difference.Difference.{Difference}

pub more_words : (more : ℕ) → (more ≡ 0 → ⊥) → codes "and " ++ decimal more ++ codes " more\n" ≡ more_said more
more_words zero some = absurd (some refl)
more_words (suc more) some = refl

pub first_of : (net : NetlistView) (ds : List Difference) (d : Difference) → 0 < length ds → difference_line net (difference_view (get_or ds 0 d)) ≡ first_line net (map difference_view ds)
first_of net [] d some = absurd (omega (arith, some))
first_of net (x ∷ ds) d some = refl
