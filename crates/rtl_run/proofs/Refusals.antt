-- Why a netlist or a stimulus is not admitted.
use Rattle.std.proofs.Common.{ℕ, List, Err}
use Rattle.rtl_model.specs.simulation.Accepted.{IsAccepted}
use Rattle.rtl_net.specs.Nets.{NetlistView}
use Rattle.rtl_net.specs.Core.{core}
use Rattle.rtl_stim_lines.specs.declared.faults.StimFault.{StimFault}
use Rattle.rtl_stim_lines.specs.declared.faults.StimFault.TheVariants.{InLine, NoStop, Race, NoMemory}
use Rattle.rtl_stim.specs.Ports.{inputs_of}
use Rattle.rtl_stim.specs.Stimuli.{IsRead}
use Rattle.rtl_run.specs.Faults.{of_stim}
use Rattle.rtl_run.specs.Admitted.{RefusesNet}
use Rattle.rtl_run.proofs.BadLines.{never_race}

-- the text is refused
pub refused_text : (net : NetlistView) (text : List ℕ) (fault : StimFault) → IsAccepted (core net) → IsRead net text (Err fault) → RefusesNet net text (of_stim fault)
refused_text net text NoMemory accepted read = tt
refused_text net text (InLine problem line) accepted read = (accepted, read (λ e. cc))
refused_text net text NoStop accepted read = (accepted, read (λ e. cc))
refused_text net text (Race time input clock) accepted read = absurd (never_race (inputs_of net) text time input clock (read (λ e. cc)))
