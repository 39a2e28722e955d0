-- What the tables of a design tell of it as a whole.
use Rattle.std.specs.Prelude.{◌≡◌, ℕ, List, ◌++◌, length, map, slice_index, None, Some}
use Rattle.std.specs.List.{zip, range_with_len}
use Rattle.smallvec.specs.SmallVec.{SmallVec}
use Rattle.vhdl_expand_rules.specs.declared.fault.ElabProblem.TheVariants.{TwoUnresolved, ReadOfShared}
use Rattle.vhdl_expand_rules.specs.Elab.{Told}
use Rattle.vhdl_connect.specs.Held.{Holds, processes_hold, idle_hold, items_at, start_with}
use Rattle.vhdl_elab.specs.declared.made.Made.{Made}
use Rattle.vhdl_elab.specs.declared.wires.Wires.{Wires}
use Rattle.vhdl_elab.specs.Tables.{Used, inputs_in, idle_in, first_at, is_two_unresolved, is_read_of_shared}

abbrev pub used : Made → List Used
used m = zip m.elements.items m.uses.items

-- a table of what the sources of each net hold
pub record IsHeld (m : Made) (table : List (SmallVec ℕ)) : Type 0 where
  pub long : length table ≡ length m.kinds.items
  pub each : Holds (λ n. processes_hold m.processes.items n ++ idle_hold (idle_in (used m)) n) table

pub record IsWires (m : Made) (w : Wires) : Type 0 where
  pub table : List (SmallVec ℕ)
  pub held : IsHeld m table
  pub idle : w.idle.items ≡ idle_in (used m)
  pub inputs : w.inputs.items ≡ inputs_in m.elements.items
  pub starts : w.starts.items ≡ map (λ n. start_with (slice_index m.defaults.items n) (items_at table n))
      (range_with_len 0 (length m.defaults.items))
  pub resolved : first_at is_two_unresolved (used m) ≡ None
  pub unread : first_at (is_read_of_shared table) (used m) ≡ None

-- with this problem, at this byte
pub data IsRefused (m : Made) (told : Told) : Type 0 where
  two_unresolved : told.0 ≡ TwoUnresolved → first_at is_two_unresolved (used m) ≡ Some told.1 → IsRefused m told
  read_of_shared : told.0 ≡ ReadOfShared → first_at is_two_unresolved (used m) ≡ None
      → (table : List (SmallVec ℕ)) → IsHeld m table
      → first_at (is_read_of_shared table) (used m) ≡ Some told.1 → IsRefused m told
