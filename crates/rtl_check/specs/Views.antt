-- How the code's faults and clocks are seen.
use Rattle.std.specs.Prelude.{◌↔◌, IsTrue, ℕ, List}
use Rattle.std.specs.List.Sorted.{IsStrictlyIncreasing}
use Rattle.rtl_model.specs.simulation.Netlist as m
use Rattle.rtl_model.specs.simulation.Accepted as f
use Rattle.rtl_net.specs.Nets.{source_view}
use Rattle.rtl_body_facts.specs.Reading.{is_in}
use Rattle.rtl_check.specs.declared.fault.CheckFault.{CheckFault}
use Rattle.rtl_check.specs.declared.fault.CheckFault.TheVariants as c

abbrev pub fault_view : CheckFault → f.Fault
fault_view (c.TwoDrivers net first second) = f.TwoDrivers net (source_view first) (source_view second)
fault_view (c.Mixed process) = f.MixedProcess process
fault_view (c.ClockNotInput process net) = f.ClockNotInput process net
fault_view (c.EdgeNotSensitive process net) = f.EdgeNotSensitive process net
fault_view (c.ClockAsData process net) = f.ClockAsData process net
fault_view (c.MissingSensitivity process net) = f.MissingSensitivity process net
fault_view (c.Latch process net) = f.Latch process net
fault_view (c.Loop processes) = f.Loop processes.items
fault_view (c.NetLoop nets) = f.NetLoop nets.items
fault_view (c.StoredVariable process variable place) = f.StoredVariable process variable place

-- the clocks of a netlist, rising
pub record AreClockNets (net : m.Netlist) (clocks : List ℕ) : Type 0 where
  pub rise : IsStrictlyIncreasing clocks
  pub are : (n : ℕ) → IsTrue (is_in n clocks) ↔ f.IsClock net n
