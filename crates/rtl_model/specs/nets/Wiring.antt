-- What elaboration owes beside the ranges.
use Rattle.std.specs.Prelude.{◌≡◌, ℕ, ◌≤◌, [], length, map, slice_index, Contains}
use Rattle.rtl_model.specs.bodies.Types.{nine_valued, HasType}
use Rattle.rtl_model.specs.nets.FlatNetlist.{FlatNetlist, flat_sources, starts}
use Rattle.rtl_model.specs.nets.CoreNetlist.{core_resolve}
use Rattle.rtl_model.specs.simulation.Netlist.{Source}
use Rattle.rtl_model.specs.simulation.Cycle.{source_value}

pub record IsConnected (net : FlatNetlist) : Type 0 where
  -- nothing inside the top drives its in ports
  pub inputs_have_no_source : (n : ℕ) → Contains net.inputs n → flat_sources net n ≡ []
  -- a net with sources starts with the resolution of what they start with (IEEE 1076-2008, 14.7.5.2)
  pub nets_start : (n : ℕ) (source : Source) → Contains (flat_sources net n) source
      → slice_index net.start n ≡ core_resolve (map (source_value (map starts net.processes)) (flat_sources net n))
  -- Where several sources meet, they are of the nine values, which alone are resolved: a net of an enumeration has one
  -- source at most.
  pub shared_are_resolved : (n : ℕ) → 2 ≤ length (flat_sources net n) → HasType net.types nine_valued n
