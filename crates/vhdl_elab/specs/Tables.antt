-- What is told of a design by the table of its elements and their uses.
use Rattle.std.specs.Prelude.{ℕ, Bool, true, false, not, ◌&&◌, nat_le, List, length, map, filter, find, Option, option_map}
use Rattle.smallvec.specs.SmallVec.{SmallVec}
use Rattle.rtl_net.specs.declared.building.IdlePort.{IdlePort}
use Rattle.vhdl_elab_rules.specs.Wiring.{is_input, is_output}
use Rattle.vhdl_connect.specs.declared.uses.Sources.{Sources}
use Rattle.vhdl_connect.specs.declared.uses.Sources.TheVariants.{Zero, One, Several}
use Rattle.vhdl_connect.specs.declared.uses.Use.{Use}
use Rattle.vhdl_connect.specs.Held.{items_at}
use Rattle.vhdl_elab.specs.declared.made.Element.{Element}
use Rattle.vhdl_elab.specs.Made.{role_of, is_of_top}

-- an element, and how it is used in its instance
abbrev pub Used : Type 0
Used = Element × Use

-- ---- inputs

abbrev pub is_input_of_top : Element → Bool
is_input_of_top e = is_input (role_of e.role) && is_of_top e.role

-- the nets of the top's in ports
abbrev pub inputs_in : List Element → List ℕ
inputs_in es = map (λ (e : Element). e.net) (filter is_input_of_top es)

-- ---- idle ports

abbrev pub has_no_source : Sources → Bool
has_no_source Zero = true
has_no_source One = false
has_no_source Several = false

-- of an out port below the top, without a source in its instance
abbrev pub is_idle : Used → Bool
is_idle x = is_output (role_of x.0.role) && has_no_source x.1.sources && not (is_of_top x.0.role)

abbrev pub idle_port : Element → IdlePort
idle_port e = record { net = e.net; start = e.start }

abbrev pub idle_in : List Used → List IdlePort
idle_in xs = map (λ (x : Used). idle_port x.0) (filter is_idle xs)

-- ---- what is refused

-- where the first element is declared of which this is so
abbrev pub first_at : (Used → Bool) → List Used → Option ℕ
first_at is xs = option_map (λ (x : Used). x.0.at) (find is xs)

abbrev pub has_several : Sources → Bool
has_several Zero = false
has_several One = false
has_several Several = true

abbrev pub is_two_unresolved : Used → Bool
is_two_unresolved x = has_several x.1.sources && not x.0.is_resolved

-- where the sources of each net hold these values
abbrev pub is_read_of_shared : List (SmallVec ℕ) → Used → Bool
is_read_of_shared held x = is_output (role_of x.0.role) && (x.1.is_read && nat_le 2 (length (items_at held x.0.net)))
