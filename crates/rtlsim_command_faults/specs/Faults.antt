-- What a layer's fault is to the caller of a command, and the status that it ends with.
use Rattle.std.specs.Prelude.{Bool, true, false}
use Rattle.rtlsim_command_faults.specs.declared.faults.Fault.{Fault}
use Rattle.rtlsim_command_faults.specs.declared.faults.Fault.TheVariants.{Lex, Syntax, Name, Elab, Rejected, Stim, Expect, Differs, Untraced, NoSettling, Memory, Output}
use Rattle.rtlsim_command_faults.specs.declared.status.Status.{Status}
use Rattle.rtlsim_command_faults.specs.declared.status.Status.TheVariants as status
use Rattle.fault_rules.specs.declared.expecting.ExpectRule.TheVariants as expecting
use Rattle.fault_rules.specs.declared.report.Rule.TheVariants as rule
use Rattle.rtl_expect.specs.declared.faults.ExpectFault.{ExpectFault}
use Rattle.rtl_expect.specs.declared.faults.ExpectFault.TheVariants as expect
use Rattle.rtl_run.specs.declared.fault.MachineFault.{MachineFault}
use Rattle.rtl_run.specs.declared.fault.MachineFault.TheVariants as machine
use Rattle.rtl_simulation.specs.declared.summary.RunFault.{RunFault}
use Rattle.rtl_simulation.specs.declared.summary.RunFault.TheVariants as run
use Rattle.rtl_stim_lines.specs.declared.faults.StimFault.{StimFault}
use Rattle.rtl_stim_lines.specs.declared.faults.StimFault.TheVariants as stim
use Rattle.rtlsim_refusals.specs.Stimuli.{is_of_two}
use Rattle.vhdl_expand_rules.specs.declared.fault.ElabFault.TheVariants as elab
use Rattle.vhdl_lexer.specs.declared.fault.LexFault.TheVariants as lex
use Rattle.vhdl_names_rules.specs.declared.fault.NameFault.TheVariants as names
use Rattle.vhdl_parser_rules.specs.declared.fault.SyntaxFault.TheVariants as syntax
use Rattle.vhdl_front_rules.specs.declared.fault.SourceFault.{SourceFault}
use Rattle.vhdl_front_rules.specs.declared.fault.SourceFault.TheVariants as source

abbrev pub of_source : SourceFault → Fault
of_source (source.Lex fault) = Lex fault
of_source (source.Syntax fault) = Syntax fault
of_source (source.Name fault) = Name fault
of_source (source.Elab fault) = Elab fault
of_source source.NoMemory = Memory

abbrev pub of_stim : StimFault → Fault
of_stim stim.NoMemory = Memory
of_stim fault = Stim fault

abbrev pub of_expect : ExpectFault → Fault
of_expect expect.NoMemory = Memory
of_expect fault = Expect fault

abbrev pub of_run : RunFault → Fault
of_run (run.NoSettling time) = NoSettling time
of_run run.Memory = Memory
of_run run.Output = Output

abbrev pub of_machine : MachineFault → Fault
of_machine (machine.Rejected faults) = Rejected faults
of_machine (machine.Stim fault) = Stim fault
of_machine machine.Memory = Memory
of_machine machine.Output = Output

abbrev pub status_of : Fault → Status
status_of (Lex lex.NoMemory) = status.Memory
status_of (Lex fault) = status.Source
status_of (Syntax syntax.NoMemory) = status.Memory
status_of (Syntax fault) = status.Source
status_of (Name names.NoMemory) = status.Memory
status_of (Name fault) = status.Source
status_of (Elab elab.NoMemory) = status.Memory
status_of (Elab fault) = status.Source
status_of (Rejected faults) = status.Rejected
status_of (Stim stim.NoMemory) = status.Memory
status_of (Stim fault) = status.Stimulus
status_of (Expect expect.NoMemory) = status.Memory
status_of (Expect fault) = status.Stimulus
status_of (Differs differences) = status.Differs
status_of (Untraced place) = status.Stimulus
status_of (NoSettling time) = status.Unsettled
status_of Memory = status.Memory
status_of Output = status.Failed

-- one of the checker, of a stimulus, of a value, or of a name that no signal has, which is told by the netlist: what is
-- told of it may name signals, nets or processes
abbrev pub is_of_names : Fault → Bool
is_of_names (Rejected faults) = true
is_of_names (Stim fault) = true
is_of_names (Expect (expect.InLine expecting.NotASignal line)) = true
is_of_names (Differs differences) = true
is_of_names (Untraced place) = true
is_of_names _ = false

-- the lines of a fault name signals, nets or processes
abbrev pub has_names : Fault → Bool
has_names (Rejected faults) = true
has_names (Stim (stim.Race time input clock)) = true
has_names (Differs differences) = true
has_names _ = false

-- These names take memory, but for those of a value, and so do the words of lines, to find the first of two that can't
-- both stand. A name that no signal has takes memory to explain it alone.
abbrev pub takes_memory : (explains : Bool) → Fault → Bool
takes_memory explains (Expect (expect.InLine expecting.NotASignal line)) = explains
takes_memory explains (Differs differences) = false
takes_memory explains (Untraced place) = explains
takes_memory explains (Stim (stim.InLine its_rule line)) = is_of_two (rule.Stim its_rule)
takes_memory explains fault = has_names fault
