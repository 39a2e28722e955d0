-- What is told below the lines of a fault: an explanation, where one is asked for.
use Rattle.std.specs.Prelude.{◌≡◌, ℕ, ◌-◌, Bool, true, false, if◌then◌else◌, List, [], ◌++◌, Option, Some, None, map, option_map, unwrap_or, slice_index_or, codes, decimal}
use Rattle.rtl_check.specs.declared.judging.Judgement.{Judgement}
use Rattle.rtl_check.specs.declared.judging.Judgement.TheVariants.{Faulty}
use Rattle.rtl_net.specs.Nets.{NetlistView}
use Rattle.fault_rules.specs.declared.expecting.ExpectRule.TheVariants.{NotASignal}
use Rattle.fault_rules.specs.Rules.{words_of}
use Rattle.fault_rules.specs.declared.report.Report.{Report}
use Rattle.fault_rules.specs.declared.report.Rule.{Rule}
use Rattle.fault_rules.specs.declared.report.Rule.TheVariants as rule
use Rattle.fault_rules.specs.declared.settling.RunRule.TheVariants.{NotTraced}
use Rattle.rtl_expect.specs.Telling.{differences_said, word_in}
use Rattle.rtl_expect.specs.Watching.{told_view}
use Rattle.rtl_expect.specs.declared.difference.FirstDifferences.{FirstDifferences}
use Rattle.rtl_expect.specs.declared.faults.ExpectFault.TheVariants.{InLine}
use Rattle.rtlsim_command_faults.specs.Expecting.{IsExpectedBy}
use Rattle.rtlsim_command_faults.specs.Further.{told_of}
use Rattle.rtlsim_command_faults.specs.Lines.{fault_lines, rule_words}
use Rattle.rtlsim_command_faults.specs.Reports.{lex_report, syntax_report, name_report, elab_report, stim_report}
use Rattle.rtlsim_command_faults.specs.declared.faults.Fault.{Fault}
use Rattle.rtlsim_command_faults.specs.declared.faults.Fault.TheVariants.{Lex, Syntax, Name, Elab, Rejected, Stim, Expect, Differs, Untraced, NoSettling}
use Rattle.rtlsim_command_faults.specs.declared.telling.Telling.{Telling}
use Rattle.rtlsim_nearest.specs.Likeness.{nearest_line}
use Rattle.rtlsim_refusals.specs.Explained.{explained, refusal_explained}
use Rattle.rtlsim_refusals.specs.Stimuli.{stim_explained, settle_explained}
use Rattle.vhdl_literals.specs.Declarations.{names_in}
use Rattle.vhdl_slips.specs.Words.{Read, read_of}
use Rattle.rtlsim_findings_text.specs.Explained.{rejection_explained}
use Rattle.vhdl_source_files.specs.Files.{FileView, file_view, joined, source_name}
use Rattle.vhdl_parser_rules.specs.Expected.{Expected, nothing}
use Rattle.vhdl_lexer.specs.Cut.{Cuts}
use Rattle.vhdl_lexer.specs.declared.language.Language.{Language}

abbrev pub files_of : Telling → List FileView
files_of telling = map file_view telling.files.now

-- ---- a fault of the source

-- a source with its tokens, and what was expected at the one that the parser refuses
pub record Source : Type 0 where
  pub read : Read
  pub expected : Expected

-- the source of these files, which is read in this language and has this report
abbrev pub IsRead : Language → List FileView → Option Report → Source → Type 0
IsRead language files report source =
    (source.read.text ≡ joined files) × Cuts None 0 source.read.text source.read.tokens
    × IsExpectedBy language source.read report source.expected

-- a source that isn't read
abbrev pub unread : Source
unread = record { read = record { text = []; tokens = [] }; expected = nothing }

-- what is said of a report, if there is one
abbrev pub reported : (said : Report → List ℕ) → Option Report → List ℕ
reported said None = []
reported said (Some report) = said report

abbrev pub refusal_said : List FileView → Option Report → List ℕ
refusal_said files report = reported (refusal_explained files) report

abbrev pub source_said : Language → List FileView → Source → Option Report → List ℕ
source_said language files source report = explained (told_of language files source.read source.expected report)

-- ---- what differs, and names that no signal has

-- each difference that is told, with what was expected
abbrev pub differing_said : Telling → NetlistView → FirstDifferences → List ℕ
differing_said telling net d =
    differences_said (names_in (read_of telling.source)) telling.expected.now net (told_view d) d.more

-- `FILE:LINE: LAYER NUMBER NAME: SENTENCE: ` and the name; and the nearest that a signal has
abbrev pub name_said : (file : List ℕ) → Rule → (line : ℕ) → NetlistView → (name : List ℕ) → List ℕ
name_said file rule line net name =
    file ++ codes ":" ++ decimal line ++ codes ": " ++ rule_words rule ++ codes ": " ++ (words_of rule).middle.now
    ++ codes ": " ++ name ++ codes "\n" ++ nearest_line net name

-- the third word of a line of what is expected
abbrev pub expected_name : Telling → (line : ℕ) → List ℕ
expected_name telling line = word_in line 2 (unwrap_or (option_map (λ text. text.now) telling.expected_text) [])

-- the name at a place, from 1, of those that a trace is to show
abbrev pub traced_name : Telling → (place : ℕ) → List ℕ
traced_name telling place = slice_index_or (map (λ name. name.now) telling.trace.now) (place - 1) []

-- ---- each fault

-- `read`: the source, of a fault of grammar, of names or of elaboration
abbrev pub explanation : Telling → (read : Source) → NetlistView → Fault → List ℕ
explanation telling read net (Lex fault) = refusal_said (files_of telling) (lex_report fault)
explanation telling read net (Syntax fault) = source_said telling.language (files_of telling) read (syntax_report fault)
explanation telling read net (Name fault) = source_said telling.language (files_of telling) read (name_report fault)
explanation telling read net (Elab fault) = source_said telling.language (files_of telling) read (elab_report fault)
explanation telling read net (Rejected faults) =
    rejection_explained (files_of telling) (read_of telling.source) net faults.items
explanation telling read net (Stim fault) =
    reported (stim_explained telling.stimulus.now (option_map (λ text. text.now) telling.stimulus_text) net)
    (stim_report fault)
explanation telling read net (Expect (InLine NotASignal line)) =
    name_said telling.expected.now (rule.Expect NotASignal) line net (expected_name telling line)
explanation telling read net (Differs differences) = differing_said telling net differences
explanation telling read net (Untraced place) =
    name_said (codes "--trace") (rule.Run NotTraced) place net (traced_name telling place)
explanation telling read net (NoSettling time) = settle_explained (source_name (files_of telling)) time
explanation telling read net _ = []

-- the source is read for its explanation
abbrev pub is_read : Fault → Bool
is_read (Syntax fault) = true
is_read (Name fault) = true
is_read (Elab fault) = true
is_read _ = false

-- what such a fault reports
abbrev pub source_report : Fault → Option Report
source_report (Syntax fault) = syntax_report fault
source_report (Name fault) = name_report fault
source_report (Elab fault) = elab_report fault
source_report _ = None

-- what is told of a fault: its lines, and below them its explanation where that is asked for
abbrev pub told : Telling → (read : Source) → NetlistView → Fault → List ℕ
told telling read net fault =
    fault_lines (files_of telling) net fault ++ (if telling.explains then explanation telling read net fault else [])

-- ---- judgements

abbrev pub faults_explained : Telling → NetlistView → Judgement → List ℕ
faults_explained telling net (Faulty faults) =
    rejection_explained (files_of telling) (read_of telling.source) net faults.items
faults_explained telling net _ = []

-- a judgement's text, and below it the explanation of its faults where that is asked for
abbrev pub with_explanation : (text_of : NetlistView → Judgement → List ℕ) → Telling → NetlistView → Judgement → List ℕ
with_explanation text_of telling net j =
    text_of net j ++ (if telling.explains then faults_explained telling net j else [])
