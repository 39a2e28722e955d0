-- What contracts see of the reader's values.
use Rattle.std.specs.Prelude.{◌≡◌, ◌≢◌, ◌≤◌, ℕ, List, [], slice_index_or, All, map, length, Option, Some, None, Result, Ok, Err, Vec}
use Rattle.std.specs.Global.{Global}
use Rattle.indexmap.specs.IndexMap.{IndexMap}
use Rattle.rtl_stim_lines.specs.declared.inputs.Input.{Input as KeptInput}
use Rattle.rtl_stim_lines.specs.declared.inputs.Element.{Element as KeptElement}
use Rattle.rtl_stim_lines.specs.declared.inputs.ValueType.{ValueType as KeptValueType}
use Rattle.rtl_stim_lines.specs.declared.inputs.ValueType.TheVariants as v
use Rattle.rtl_stim_lines.specs.declared.courses.Course.{Course as KeptCourse}
use Rattle.rtl_stim_lines.specs.declared.courses.Course.TheVariants as kept
use Rattle.rtl_stim_lines.specs.declared.faults.StimFault.{StimFault}
use Rattle.rtl_stim_lines.specs.declared.faults.StimFault.TheVariants.{NoMemory}
use Rattle.vhdl_values.specs.declared.scalar.Nine.{Nine}
use Rattle.rtl_stim_lines.specs.Inputs.{ValueType, nines, integers, truths, Input, Element}
use Rattle.rtl_stim_lines.specs.Courses.{Course, Sets, Ticks}
use Rattle.rtl_stim_lines.specs.Reading.{Said, Schedule}
use Rattle.rtl_stim_lines.specs.declared.reading.Said.{Said as KeptSaid}
use Rattle.rtl_stim_lines.specs.declared.schedule.Schedule.{Schedule as KeptSchedule}

abbrev pub value_type_view : KeptValueType → ValueType
value_type_view v.Nines = nines
value_type_view (v.Integers least greatest) = integers least greatest
value_type_view v.Truths = truths

abbrev pub element_view : KeptElement → Element
element_view e = record { net = e.net; start = e.start }

abbrev pub named_input : (name : List ℕ) → KeptInput → Input
named_input name input =
    record {
      name = name;
      is_scalar = input.is_scalar;
      values = value_type_view input.values;
      elements = map element_view input.elements.items;
    }

abbrev pub input_view : Vec ℕ Global × KeptInput → Input
input_view e = named_input e.0.items e.1

abbrev pub inputs_view : {S : Type 0} → IndexMap (Vec ℕ Global) KeptInput S → List Input
inputs_view m = map input_view m.entries

abbrev pub elements_view : KeptInput → List Element
elements_view input = map element_view input.elements.items

-- from 1 to 64 elements
abbrev pub IsVector : List Element → Type 0
IsVector elements = (1 ≤ length elements) × (length elements ≤ 64)

abbrev pub AreVectors : List Input → Type 0
AreVectors inputs = All (λ input. IsVector input.elements) inputs

abbrev pub course_view : KeptCourse → Course
course_view (kept.Sets sets) = Sets sets.entries
course_view (kept.Ticks first half) = Ticks first half

-- What a function answered is what is expected: it leaves this value where that is Ok. It refuses for want of memory,
-- or with that fault.
abbrev pub Leads : {A B : Type 0} → Result A StimFault → A → Result B StimFault → Type 0
Leads expected left (Ok b) = expected ≡ Ok left
Leads expected left (Err fault) = fault ≢ NoMemory → expected ≡ Err fault

-- the input that was found is the one that stands at the place
abbrev pub IsElementsOf : KeptInput → Input → Type 0
IsElementsOf found input =
    (input.is_scalar ≡ found.is_scalar) × (input.values ≡ value_type_view found.values)
    × (input.elements ≡ elements_view found)

abbrev pub courses_view : Vec KeptCourse Global → List Course
courses_view courses = map course_view courses.items

abbrev pub said_view : KeptSaid → Said
said_view said = record { courses = courses_view said.courses; stop = said.stop }

abbrev pub schedule_view : KeptSchedule → Schedule
schedule_view s = record { courses = courses_view s.courses; stop = s.stop }

-- A schedule is the one that is expected. It is refused for want of memory, or with the fault that is expected.
abbrev pub IsGiven : Result Schedule StimFault → Result KeptSchedule StimFault → Type 0
IsGiven expected (Ok schedule) = expected ≡ Ok (schedule_view schedule)
IsGiven expected (Err fault) = fault ≢ NoMemory → expected ≡ Err fault

-- the value at a place, of values that may not be there
abbrev pub value_in : Option (List Nine) → (place : ℕ) → (start : Nine) → Nine
value_in None place start = start
value_in (Some values) place start = slice_index_or values place start

-- the course of the input at a place
abbrev pub course_in : Schedule → (input : ℕ) → Course
course_in schedule input = slice_index_or schedule.courses input (Sets [])
