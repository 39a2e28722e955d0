-- The lists of an elaborated netlist are as long as it has nets, and the nets that a process is sensitive to rise.
use Rattle.std.specs.Prelude.{◌≡◌, ℕ, ◌<◌, All, length, Ok}
use Rattle.std.specs.List.Sorted.{IsStrictlyIncreasing}
use Rattle.vhdl_names_rules.specs.units.Units.{Units}
use Rattle.rtl_model.specs.nets.FlatNetlist.{FlatProcess}
use Rattle.vhdl_expand_rules.specs.Expansion.{Design, expanded_design}
use Rattle.vhdl_expand_rules.specs.Tops.{Top}
use Rattle.vhdl_elab_rules.specs.Numbering.{Numbered, numbered_design}
use Rattle.vhdl_elab_rules.specs.Wiring.{flat_net}

-- rising, and all there
pub record WakesRise (count : ℕ) (p : FlatProcess) : Type 0 where
  pub rise : IsStrictlyIncreasing p.wakes
  pub there : All (λ n. n < count) p.wakes

pub record HasShape (d : Numbered) : Type 0 where
  pub types : length (flat_net d).types ≡ d.nets
  pub starts : length (flat_net d).start ≡ d.nets
  pub idle : length (flat_net d).idle ≡ d.nets
  pub processes : length (flat_net d).processes ≡ length d.processes
  pub wakes : All (WakesRise d.nets) (flat_net d).processes

abbrev pub EachHasShape : Type 0
EachHasShape =
    (units : Units) (top : Top) (design : Design)
    → expanded_design units top ≡ Ok design → HasShape (numbered_design design)
