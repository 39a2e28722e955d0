-- The wiring of a netlist of sound units: idle ports hold values of their nets' types, the top's in ports are elements
-- of the nine values that nothing inside drives, and a net with sources starts with their resolution (IEEE 1076-2008,
-- 14.7.3, 14.7.5.2).
use Rattle.std.specs.Prelude.{◌≡◌, ℕ, ◌<◌, All, [], map, slice_index, slice_index_or, Contains, Ok, IsTrue}
use Rattle.std.specs.List.Sorted.{IsStrictlyIncreasing}
use Rattle.rtl_model.specs.bodies.Types.{ElementType, nine_valued, limit_of, HasType}
use Rattle.rtl_model.specs.nets.FlatNetlist.{FlatNetlist, starts, flat_sources}
use Rattle.rtl_model.specs.nets.CoreNetlist.{core_resolve}
use Rattle.rtl_model.specs.simulation.Netlist.{Source}
use Rattle.rtl_model.specs.simulation.Cycle.{source_value}
use Rattle.vhdl_names_rules.specs.units.Units.{Units}
use Rattle.vhdl_names_rules.specs.sound.Units.{are_sound}
use Rattle.vhdl_expand_rules.specs.Expansion.{Design, expanded_design}
use Rattle.vhdl_expand_rules.specs.Tops.{Top}
use Rattle.vhdl_elab_rules.specs.Numbering.{numbered_design}
use Rattle.vhdl_elab_rules.specs.Wiring.{flat_net}

pub record IsWired (net : FlatNetlist) : Type 0 where
  pub idle : (n : ℕ) (t : ElementType) → HasType net.types t n
      → All (λ v. v < limit_of t) (slice_index_or net.idle n [])
  pub inputs_rise : IsStrictlyIncreasing net.inputs
  pub inputs : All (HasType net.types nine_valued) net.inputs
  pub inputs_have_no_source : (n : ℕ) → Contains net.inputs n → flat_sources net n ≡ []
  pub nets_start : (n : ℕ) (source : Source) → Contains (flat_sources net n) source
      → slice_index net.start n ≡ core_resolve (map (source_value (map starts net.processes)) (flat_sources net n))

abbrev pub EachNetIsWired : Type 0
EachNetIsWired =
    (units : Units) (top : Top) (design : Design) → IsTrue (are_sound units) → expanded_design units top ≡ Ok design
    → IsWired (flat_net (numbered_design design))
