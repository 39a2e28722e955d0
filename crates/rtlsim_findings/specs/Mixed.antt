-- Why the process of a fault is neither clocked nor combinational, or its reset not calm, and what is said of it.
use Rattle.std.specs.Prelude.{ℕ, List, [], ◌++◌, Option, Some, None}
use Rattle.rtl_model.specs.simulation.Accepted.{Fault, MixedProcess}
use Rattle.rtl_net.specs.Names.{process_name}
use Rattle.rtl_net.specs.Nets.{NetlistView}
use Rattle.rtl_mixed_reasons.specs.Notes.{note_of}
use Rattle.rtl_mixed_reasons.specs.Unsteady.{reason_of}
use Rattle.rtl_mixed_reasons.specs.declared.reason.Reason.{Reason}
use Rattle.rtlsim_circles.specs.Circles.{name_of_net}

abbrev pub why : NetlistView → Fault → Option Reason
why net (MixedProcess process) = reason_of net process
why net _ = None

abbrev pub name_of_process : NetlistView → Option ℕ → List ℕ
name_of_process net None = []
name_of_process net (Some process) = process_name net process

-- with the net, and the process or the second net, that it names, where it names one
abbrev pub reason_text : NetlistView → Reason → List ℕ
reason_text net reason =
    (note_of reason.kind).opening.now ++ name_of_net net reason.net ++ (note_of reason.kind).middle.now
    ++ name_of_process net reason.driver ++ name_of_net net reason.second ++ (note_of reason.kind).closing.now
