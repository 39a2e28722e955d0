-- The lines that tell faults.
use Rattle.std.specs.Prelude.{ℕ, List, [], ◌∷◌, Option, Some, None, ◌++◌, codes, decimal}
use Rattle.fault_rules.specs.Rules.{words_of}
use Rattle.fault_rules.specs.declared.report.Place.{Place}
use Rattle.fault_rules.specs.declared.report.Place.TheVariants.{Byte, Line, Time}
use Rattle.fault_rules.specs.declared.report.Report.{Report}
use Rattle.fault_rules.specs.declared.report.Rule.{Rule}
use Rattle.fault_rules.specs.declared.report.Rule.TheVariants as rules
use Rattle.fault_rules.specs.declared.stimuli.StimRule.TheVariants as stimuli
use Rattle.rtlsim_command_faults.specs.Reports.{lex_report, syntax_report, name_report, elab_report, stim_report, expect_report, untraced_report, settle_report}
use Rattle.rtlsim_command_faults.specs.declared.faults.Fault.{Fault}
use Rattle.rtlsim_command_faults.specs.declared.faults.Fault.TheVariants.{Lex, Syntax, Name, Elab, Rejected, Stim, Expect, Differs, Untraced, NoSettling, Memory, Output}
use Rattle.rtl_expect.specs.Telling.{first_line}
use Rattle.rtl_expect.specs.Watching.{told_view}
use Rattle.rtlsim_listing.specs.CheckText.{rejection_text}
use Rattle.rtl_net.specs.Names.{net_name}
use Rattle.rtl_net.specs.Nets.{NetlistView}
use Rattle.rtl_stim_lines.specs.declared.faults.StimFault.{StimFault}
use Rattle.rtl_stim_lines.specs.declared.faults.StimFault.TheVariants.{Race}
use Rattle.vhdl_source_files.specs.Files.{FileView, Spot, spot_in}

-- a byte of a file
abbrev pub spot_text : Spot → List ℕ
spot_text spot = codes " at " ++ decimal spot.at ++ codes " in " ++ spot.file.name

-- a byte of the source; of several files it is told by its own
abbrev pub byte_text : List FileView → (at : ℕ) → List ℕ
byte_text (file ∷ next ∷ files) at = spot_text (spot_in (file ∷ next ∷ files) at)
byte_text _ at = codes " at " ++ decimal at

-- where a fault is found
abbrev pub place_text : List FileView → Place → List ℕ
place_text files (Byte at) = byte_text files at
place_text files (Line line) = codes " line " ++ decimal line
place_text files (Time time) = codes " " ++ decimal time
place_text files _ = []

-- "LAYER NUMBER NAME"
abbrev pub rule_words : Rule → List ℕ
rule_words rule =
    (words_of rule).layer.now ++ codes " " ++ decimal (words_of rule).number ++ codes " " ++ (words_of rule).name.now

-- "rtlsim: LAYER NUMBER NAME"
abbrev pub rule_text : Rule → List ℕ
rule_text rule = codes "rtlsim: " ++ rule_words rule

-- the rule, and where it is broken
abbrev pub report_text : List FileView → Report → List ℕ
report_text files r = rule_text r.rule ++ place_text files r.place

abbrev pub memory_line : List ℕ
memory_line = codes "rtlsim: memory\n"

-- a layer's report, or its want of memory
abbrev pub told_line : List FileView → Option Report → List ℕ
told_line files None = memory_line
told_line files (Some r) = report_text files r ++ codes "\n"

abbrev pub input_line : List ℕ
input_line = codes "rtlsim: input\n"

abbrev pub output_line : List ℕ
output_line = codes "rtlsim: output\n"

-- the data input that changes, and then the clock
abbrev pub race_line : NetlistView → (time input clock : ℕ) → List ℕ
race_line net time input clock =
    rule_text (rules.Stim stimuli.Race) ++ codes " " ++ decimal time ++ codes " "
    ++ net_name net input ++ codes " " ++ net_name net clock ++ codes "\n"

abbrev pub stim_line : List FileView → NetlistView → StimFault → List ℕ
stim_line files net (Race time input clock) = race_line net time input clock
stim_line files net fault = told_line files (stim_report fault)

-- what tells a fault, with the names of the netlist that has it
abbrev pub fault_lines : List FileView → NetlistView → Fault → List ℕ
fault_lines files net (Lex fault) = told_line files (lex_report fault)
fault_lines files net (Syntax fault) = told_line files (syntax_report fault)
fault_lines files net (Name fault) = told_line files (name_report fault)
fault_lines files net (Elab fault) = told_line files (elab_report fault)
fault_lines files net (Rejected faults) = rejection_text net faults.items
fault_lines files net (Stim fault) = stim_line files net fault
fault_lines files net (Expect fault) = told_line files (expect_report fault)
fault_lines files net (Differs differences) = first_line net (told_view differences)
fault_lines files net (Untraced place) = told_line files (Some (untraced_report place))
fault_lines files net (NoSettling time) = told_line files (Some (settle_report time))
fault_lines files net Memory = memory_line
fault_lines files net Output = output_line
