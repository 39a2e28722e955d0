-- What is pushed of inputs that are busy, one more at a time.
use Rattle.std.proofs.Common.{◌≡◌, ℕ, true, cond, List, [], ap}
use Rattle.rtl_stim_lines.specs.Inputs.{Input}
use Rattle.rtl_stim_lines.specs.Courses.{is_busy}
use Rattle.rtl_stim_lines.specs.Reading.{Schedule}
use Rattle.rtl_stim_lines.specs.View.{course_in}
use Rattle.rtl_stim.specs.Pushes.{place_pushes, busy_pushes}

pub busy_pushed : (inputs : List Input) (schedule : Schedule) (time place : ℕ) → is_busy (course_in schedule place) time ≡ true → busy_pushes inputs schedule time place ≡ place_pushes inputs schedule time place
busy_pushed inputs schedule time place is = ap (λ b. cond b (place_pushes inputs schedule time place) []) is
