-- What the sources of nets hold before a simulation begins, and what the nets start with (IEEE 1076-2008, 14.7.3).
use Rattle.std.specs.Prelude.{◌≡◌, ℕ, false, ◌<◌, ◌==◌, if◌then◌else◌, List, [], ◌∷◌, length, map, flat_map, slice_index_or}
use Rattle.std.specs.List.{range_with_len}
use Rattle.smallvec.specs.SmallVec.{SmallVec}
use Rattle.rtl_model.specs.bodies.Types.{ElementType}
use Rattle.rtl_model.specs.nets.FlatNetlist.{FlatNetlist}
use Rattle.rtl_model.specs.nets.CoreNetlist.{core_resolve}
use Rattle.rtl_net.specs.declared.building.IdlePort.{IdlePort}
use Rattle.rtl_net.specs.declared.process.Driver.{Driver}
use Rattle.rtl_net.specs.declared.process.Process.{Process}
use Rattle.rtl_net.specs.Nets.{process_view}
use Rattle.rtl_net.specs.Parts.{idle_at}

-- a value, at one net alone
abbrev pub at_net : (net value : ℕ) → (n : ℕ) → List ℕ
at_net net value n = if net == n then value ∷ [] else []

-- what these hold at each net
abbrev pub drivers_hold : List Driver → (n : ℕ) → List ℕ
drivers_hold drives n = flat_map (λ (d : Driver). at_net d.net d.start n) drives

abbrev pub processes_hold : List Process → (n : ℕ) → List ℕ
processes_hold processes n = flat_map (λ (p : Process). drivers_hold p.drives.items n) processes

abbrev pub idle_hold : List IdlePort → (n : ℕ) → List ℕ
idle_hold idle n = flat_map (λ (p : IdlePort). at_net p.net p.start n) idle

abbrev pub items_at : List (SmallVec ℕ) → (n : ℕ) → List ℕ
items_at table n = slice_index_or (map (λ (v : SmallVec ℕ). v.items) table) n []

-- the table has these values for each net
pub record Holds (values : (n : ℕ) → List ℕ) (table : List (SmallVec ℕ)) : Type 0 where
  pub each : (n : ℕ) → n < length table → items_at table n ≡ values n

-- what a net with this default starts with, where its sources hold these values
abbrev pub start_with : (default : ℕ) → List ℕ → ℕ
start_with default [] = default
start_with default (v ∷ vs) = core_resolve (v ∷ vs)

-- a flat netlist, with the defaults of the nets' own names in place of what they start with
abbrev pub with_defaults : (types : List ElementType) (inputs defaults : List ℕ)
    → List IdlePort → List Process → FlatNetlist
with_defaults types inputs defaults idle processes = record {
  types = types;
  start = defaults;
  inputs = inputs;
  idle = map (idle_at idle) (range_with_len 0 (length defaults));
  processes = map process_view processes;
  wide = false;
}
