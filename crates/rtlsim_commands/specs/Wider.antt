-- How far the wider language reads a source that the narrower one refuses: a line below the explanation of its first
-- fault.
use Rattle.std.specs.Prelude.{◌≡◌, ◌⊎◌, ℕ, ◌&&◌, ◌||◌, not, Bool, true, false, nat_lt, if◌then◌else◌, List, [], ◌++◌, Option, Some, bytes_eq, codes, decimal}
use Rattle.byte_streams.specs.Written.{SinkState, Goes}
use Rattle.rtl_net.specs.Nets.{NetlistView}
use Rattle.rtlsim_refusals.specs.Places.{position_behind}
use Rattle.rtlsim_command_faults.specs.declared.status.Status.{Status}
use Rattle.rtlsim_command_faults.specs.declared.status.Status.TheVariants as status
use Rattle.vhdl_source_files.specs.Files.{FileView, Spot, before, spot_in}
use Rattle.vhdl_lexer.specs.declared.language.Language.{Language}
use Rattle.vhdl_lexer.specs.declared.language.Language.TheVariants.{Profile, Wide}
use Rattle.vhdl_front_rules.specs.Asking.{Asked, widely}
use Rattle.vhdl_front_rules.specs.Designs.{IsNetOf}
use Rattle.vhdl_front_rules.specs.Faults.{fault_byte}
use Rattle.vhdl_front_rules.specs.Refusals.{Refuses}
use Rattle.vhdl_front_rules.specs.declared.fault.SourceFault.{SourceFault}

-- ---- the lines

abbrev pub line_of : Spot → ℕ
line_of spot = (position_behind (before spot)).line

abbrev pub is_of_one_file : (first spot : Spot) → Bool
is_of_one_file first spot = bytes_eq first.file.name spot.file.name

-- it stands in another file, or in a later line
abbrev pub is_further : (first spot : Spot) → Bool
is_further first spot = not (is_of_one_file first spot) || nat_lt (line_of first) (line_of spot)

abbrev pub read_line : List ℕ
read_line = codes "help: read with --wide: there this source is read\n"

-- the file's name stands behind the line where it is another one than the first fault's
abbrev pub in_file : (first spot : Spot) → List ℕ
in_file first spot = if is_of_one_file first spot then [] else codes " of " ++ spot.file.name

abbrev pub further_line : (first spot : Spot) → List ℕ
further_line first spot =
    codes "help: read with --wide: there it goes on to line " ++ decimal (line_of spot) ++ in_file first spot
    ++ codes "\n"

-- ---- what the wider language says of the source

-- this line is told where the wider language reads the source
pub record ReadsWidely (asked : Asked) (line : List ℕ) : Type 0 where
  pub net : NetlistView
  pub is : IsNetOf (widely asked) net
  pub told : line ≡ read_line

-- this fault of the wider language is told at this byte
pub record Stops (asked : Asked) (at : ℕ) : Type 0 where
  pub fault : SourceFault
  pub refused : Refuses (widely asked) fault
  pub told : fault_byte fault ≡ Some at

abbrev pub is_behind : List FileView → (first at : ℕ) → Bool
is_behind files first at = nat_lt first at && is_further (spot_in files first) (spot_in files at)

-- what is told where it stops at a byte, the first fault standing at another
abbrev pub stopped_line : List FileView → (first at : ℕ) → List ℕ
stopped_line files first at =
    if is_behind files first at then further_line (spot_in files first) (spot_in files at) else []

-- Below a fault at this byte a line is told where the wider language reads the source, or goes on to another line. No
-- clause says when none is told: memory for the wider reading may be refused.
abbrev pub Widens : List FileView → Asked → (first : ℕ) → (line : List ℕ) → Type 0
Widens files asked first line =
    ReadsWidely asked line
    ⊎ (((at : ℕ) × Stops asked at × (line ≡ stopped_line files first at))
    ⊎ (line ≡ []))

-- ---- where it is told

-- memory was refused
abbrev pub is_memory : Status → Bool
is_memory status.Memory = true
is_memory _ = false

-- it is asked for where the narrower language was read, explanations are told, and the fault was told whole
abbrev pub asks_wider : (explains : Bool) → Language → (said : Status) → Bool
asks_wider explains Profile said = explains && not (is_memory said)
asks_wider explains Wide said = false

-- the line is written behind the explanation of the first fault, and else nothing
abbrev pub TellsWider : (asked_for : Bool) → List FileView → Asked → Option ℕ → (old new : SinkState) → Type 0
TellsWider true files asked (Some at) old new = (line : List ℕ) × Widens files asked at line × Goes old new line
TellsWider _ files asked at old new = new ≡ old
