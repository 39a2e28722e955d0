-- What faults of a stimulus and of a simulation are to the caller of a run.
use Rattle.rtl_stim_lines.specs.declared.faults.StimFault.{StimFault}
use Rattle.rtl_stim_lines.specs.declared.faults.StimFault.TheVariants.{NoMemory}
use Rattle.rtl_run.specs.declared.fault.MachineFault.{MachineFault}
use Rattle.rtl_run.specs.declared.fault.MachineFault.TheVariants as machine
use Rattle.rtl_simulation.specs.declared.summary.RunFault.{RunFault}
use Rattle.rtl_simulation.specs.declared.summary.RunFault.TheVariants as run

-- want of memory for a stimulus is Memory
abbrev pub of_stim : StimFault → MachineFault
of_stim NoMemory = machine.Memory
of_stim fault = machine.Stim fault

-- of a run whose moments all settle, so that NoSettling doesn't come
abbrev pub of_run : RunFault → MachineFault
of_run run.Output = machine.Output
of_run fault = machine.Memory
