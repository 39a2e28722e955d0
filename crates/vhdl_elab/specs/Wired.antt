-- The flat netlist of a numbered design, none of whose rules is broken.
use Rattle.std.specs.Prelude.{◌<◌, All, Ok}
use Rattle.std.specs.List.{AllByRecursion}
use Rattle.vhdl_expand_rules.specs.Elab.{Elab, ◌>>◌}
use Rattle.vhdl_elab_rules.specs.Numbering.{Placed, Numbered}
use Rattle.vhdl_elab_rules.specs.Wiring.{Element, elements_of}
use Rattle.vhdl_elab_rules.specs.Elaboration.{Elaborated, net_of, resolves, shares_unread}
use Rattle.vhdl_elab.specs.Settled.{NetsAreBelow}

-- what connection makes of a design within the limits
abbrev pub wired : Numbered → Elab Elaborated
wired d = do
  resolves d
  shares_unread d
  Ok (net_of d)

-- each element has a net that is there
pub record NetsAreThere (d : Numbered) : Type 0 where
  pub elements : AllByRecursion (λ (p : Placed). All (λ (e : Element). e.net < d.nets) (elements_of p)) d.instances
  pub round : NetsAreBelow d.nets d.processes
