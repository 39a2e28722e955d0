-- The inputs' values at each time, and the moments of a simulation.
use Rattle.std.specs.Prelude.{ℕ, suc, ◌==◌, ◌||◌, Bool, List, [], ◌∷◌, ◌++◌, map, filter, Option, Some, None, if◌then◌else◌}
use Rattle.std.specs.List.{list_any, range_with_len}
use Rattle.vhdl_values.specs.declared.scalar.Nine.{Nine}
use Rattle.vhdl_values.specs.declared.scalar.Nine.TheVariants.{U}
use Rattle.rtl_stim_lines.specs.Inputs.{Input, Element}
use Rattle.rtl_stim_lines.specs.Courses.{Course, course_value, is_busy}
use Rattle.rtl_stim_lines.specs.Reading.{Schedule}

-- the nets of an input, and those of all inputs, each input's from the left
abbrev pub nets_of : Input → List ℕ
nets_of input = map (λ element. element.net) input.elements

abbrev pub all_nets : List Input → List ℕ
all_nets [] = []
all_nets (input ∷ inputs) = nets_of input ++ all_nets inputs

-- ---- values

-- the value at a time of the net among these elements, from a place on, of an input with this course; U where it
-- isn't there
abbrev pub element_value : Course → (place : ℕ) → List Element → (net t : ℕ) → Option Nine
element_value course place [] net t = None
element_value course place (element ∷ elements) net t =
    if element.net == net then Some (course_value course place element.start t)
    else element_value course (suc place) elements net t

abbrev pub value_or : Option Nine → Nine → Nine
value_or None other = other
value_or (Some value) other = value

-- The value of a net at a time: of the input that has it, by the input's course. U where it is no input's.
abbrev pub value_of : List Input → List Course → (net t : ℕ) → Nine
value_of [] courses net t = U
value_of (input ∷ inputs) [] net t = U
value_of (input ∷ inputs) (course ∷ courses) net t =
    value_or (element_value course 0 input.elements net t) (value_of inputs courses net t)

abbrev pub value_at : List Input → Schedule → (net t : ℕ) → Nine
value_at inputs schedule net t = value_of inputs schedule.courses net t

-- ---- moments

-- Moments are 0 and the times at which some input is set or some clock toggles,
abbrev pub is_moment : Schedule → (t : ℕ) → Bool
is_moment schedule t = t == 0 || list_any (λ course. is_busy course t) schedule.courses

-- up to and with the stop, as they rise
abbrev pub moments : Schedule → List ℕ
moments schedule = filter (is_moment schedule) (range_with_len 0 (suc schedule.stop))
