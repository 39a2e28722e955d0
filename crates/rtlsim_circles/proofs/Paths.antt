-- A step down a path.
use Rattle.std.proofs.Common.{◌≡◌, ℕ, zero, suc, ◌-◌, List, ◌++◌, Option, Some, None, refl, arith}
use Rattle.std.specs.Prelude.{slice_index_or}
use Rattle.rtl_net.specs.Nets.{NetlistView}
use Rattle.rtlsim_circles.specs.Paths.{step_text, steps_text}

pub one_down : (net : NetlistView) (looks : List (Option ℕ)) (room n : ℕ) → (room ≡ 0 → ⊥)
    → steps_text net looks room (Some n) ≡ step_text net n ++ steps_text net looks (room - 1) (slice_index_or looks n None)
one_down net looks zero n some = absurd (some refl)
one_down net looks (suc room) n some = let less : suc room - 1 ≡ room = omega arith in rw less refl
