-- What the words of a line say: `at TIME NAME VALUE`, `clock NAME FIRST HALF` or `stop TIME`. Times are in ns.
use Rattle.std.specs.Prelude.{ℕ, ◌==◌, ◌+◌, ◌-◌, ◌*◌, ◌&&◌, nat_le, Bool, List, [], ◌∷◌, Option, Some, None, bytes_eq, codes, if◌then◌else◌}
use Rattle.rtl_stim_lines.specs.Lines.{Word}

abbrev pub is_digit : ℕ → Bool
is_digit byte = nat_le 48 byte && nat_le byte 57

-- the number that digits spell behind those of n
abbrev pub number_after : ℕ → Word → Option ℕ
number_after n [] = Some n
number_after n (byte ∷ bytes) = if is_digit byte then number_after (10 * n + (byte - 48)) bytes else None

-- the number of a word of one digit or more
abbrev pub number_of : Word → Option ℕ
number_of [] = None
number_of (byte ∷ bytes) = number_after 0 (byte ∷ bytes)

pub data Form : Type 0 where
  At : (time : ℕ) → (name value : Word) → Form
  Clock : (name : Word) → (first half : ℕ) → Form
  Stop : (time : ℕ) → Form

abbrev pub at_form : Option ℕ → (name value : Word) → Option Form
at_form None name value = None
at_form (Some time) name value = Some (At time name value)

-- a clock toggles after a time of 1 ns at least
abbrev pub clock_form : Word → (first half : Option ℕ) → Option Form
clock_form name None half = None
clock_form name (Some first) None = None
clock_form name (Some first) (Some half) = if half == 0 then None else Some (Clock name first half)

abbrev pub stop_form : Option ℕ → Option Form
stop_form None = None
stop_form (Some time) = Some (Stop time)

-- what the words say, None where they are no such line
abbrev pub form_of : List Word → Option Form
form_of (keyword ∷ time ∷ []) = if bytes_eq keyword (codes "stop") then stop_form (number_of time) else None
form_of (keyword ∷ second ∷ third ∷ fourth ∷ []) =
    if bytes_eq keyword (codes "at") then at_form (number_of second) third fourth
    else (if bytes_eq keyword (codes "clock") then clock_form second (number_of third) (number_of fourth) else None)
form_of _ = None
