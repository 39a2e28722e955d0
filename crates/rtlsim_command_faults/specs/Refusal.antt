-- What is told of the faults of a source that is refused, as an object.
use Rattle.std.specs.Prelude.{◌≡◌, ◌≢◌, ℕ, List, ◌∷◌, Option, Some, None}
use Rattle.fault_rules.specs.declared.report.Report.{Report}
use Rattle.byte_streams.specs.Written.{SinkState, Goes}
use Rattle.rtlsim_refusals.specs.Explained.{Told, told_of_refusal}
use Rattle.vhdl_slips.specs.Words.{with_tokens}
use Rattle.rtlsim_command_faults.specs.Faults.{of_source}
use Rattle.rtlsim_command_faults.specs.Behind.{Behind}
use Rattle.rtlsim_command_faults.specs.Expecting.{IsExpectedBy}
use Rattle.rtlsim_command_faults.specs.Further.{Found, told_by, told_of}
use Rattle.rtlsim_command_faults.specs.Reports.{lex_report, syntax_report, name_report, elab_report}
use Rattle.rtlsim_command_faults.specs.declared.faults.Fault.{Fault}
use Rattle.rtlsim_command_faults.specs.declared.faults.Fault.TheVariants.{Lex, Syntax, Name, Elab}
use Rattle.rtlsim_command_faults.specs.declared.search.End.TheVariants as end
use Rattle.vhdl_source_files.specs.Files.{FileView}
use Rattle.rtlsim_findings_text.specs.Refusals.{refused_text}
use Rattle.vhdl_parser_rules.specs.Expected.{Expected}
use Rattle.vhdl_lexer.specs.Cut.{Cuts}
use Rattle.vhdl_lexer.specs.declared.language.Language.{Language}
use Rattle.vhdl_lexer.specs.declared.token.Token.{Token}
use Rattle.vhdl_front_rules.specs.declared.fault.SourceFault.{SourceFault}
use Rattle.vhdl_front_rules.specs.declared.fault.SourceFault.TheVariants as refused
use Rattle.vhdl_front_rules.specs.Asking.{Asked}

-- this is told of a report on a source that has tokens and is read in this language
abbrev pub TellsRead : Language → List FileView → (source : List ℕ) → Option Report → Option Told → Type 0
TellsRead language files source report told =
    (tokens : List Token) × (expected : Expected) × Cuts None 0 source tokens
    × IsExpectedBy language (with_tokens source tokens) report expected
    × (told ≡ told_of language files (with_tokens source tokens) expected report)

-- this is told of the first fault; nothing of another one than a source's
abbrev pub TellsFirst : List FileView → Asked → Fault → Option Told → Type 0
TellsFirst files asked (Lex fault) told = told ≡ told_by (told_of_refusal files) (lex_report fault)
TellsFirst files asked (Syntax fault) told = TellsRead asked.language files asked.source (syntax_report fault) told
TellsFirst files asked (Name fault) told = TellsRead asked.language files asked.source (name_report fault) told
TellsFirst files asked (Elab fault) told = TellsRead asked.language files asked.source (elab_report fault) told
TellsFirst files asked fault told = told ≡ None

-- this is told of the first fault and of those behind it, for which memory sufficed
pub record AreTold (files : List FileView) (asked : Asked) (fault : Fault) (told : List Told) : Type 0 where
  pub first : Told
  pub is : TellsFirst files asked fault (Some first)
  pub found : Found
  pub behind : Behind files asked fault found
  pub whole : found.end ≢ end.NoMemory
  pub are : told ≡ first ∷ found.told

-- the object of all of them
abbrev pub IsObject : List FileView → Asked → Fault → (text : List ℕ) → Type 0
IsObject files asked fault text =
    (told : List Told) × AreTold files asked fault told × (text ≡ refused_text told)

-- it is written; of want of memory nothing is
abbrev pub Describes : List FileView → Asked → SourceFault → (old new : SinkState) → Type 0
Describes files asked refused.NoMemory old new = new ≡ old
Describes files asked fault old new =
    (text : List ℕ) × IsObject files asked (of_source fault) text × Goes old new text
