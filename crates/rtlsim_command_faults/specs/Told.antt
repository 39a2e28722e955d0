-- What is told of a fault and of a run that is done, on the standard error.
use Rattle.std.specs.Prelude.{◌≡◌, ◌⊎◌, ℕ, Bool, true, false, List, Option, ◌++◌, codes, decimal}
use Rattle.fault_rules.specs.declared.report.Report.{Report}
use Rattle.vhdl_lexer.specs.declared.language.Language.{Language}
use Rattle.vhdl_source_files.specs.Files.{FileView}
use Rattle.rtlsim_command_faults.specs.Faults.{status_of, takes_memory}
use Rattle.rtlsim_command_faults.specs.Explanations.{IsRead, Source, explanation, files_of, is_read, source_report, source_said, told, unread}
use Rattle.rtlsim_command_faults.specs.Lines.{fault_lines, memory_line}
use Rattle.rtlsim_command_faults.specs.declared.faults.Fault.{Fault}
use Rattle.rtlsim_command_faults.specs.declared.status.Status.{Status}
use Rattle.rtlsim_command_faults.specs.declared.status.Status.TheVariants as status
use Rattle.rtlsim_command_faults.specs.declared.telling.Telling.{Telling}
use Rattle.rtl_run.specs.declared.level_summary.LevelSummary.{LevelSummary}
use Rattle.rtl_net.specs.Nets.{NetlistView}
use Rattle.rtl_simulation.specs.declared.summary.Summary.{Summary}
use Rattle.byte_streams.specs.Written.{SinkState, TakesBeginning, Goes}

-- ---- explanations of faults that name no net

-- the source is read, and its fault explained; or memory for that is refused, and nothing is written
abbrev pub ExplainsRead : Language → List FileView → Option Report → (whole : Bool) → (old new : SinkState) → Type 0
ExplainsRead language files report true old new =
    (read : Source) × IsRead language files report read × Goes old new (source_said language files read report)
ExplainsRead language files report false old new = new ≡ old

-- the fault is explained, whichever netlist is looked at; or memory to read the source is refused, and nothing
-- is written
abbrev pub Explains : Telling → Fault → (whole : Bool) → (old new : SinkState) → Type 0
Explains telling fault true old new =
    (read : Source) × (is_read fault ≡ true → IsRead telling.language (files_of telling) (source_report fault) read)
    × ((net : NetlistView) → Goes old new (explanation telling read net fault))
Explains telling fault false old new = (is_read fault ≡ true) × (new ≡ old)

-- ---- what is told of a fault

-- The fault is told whole; where its explanation is asked for, the source is read for that.
pub record TellsWhole (telling : Telling) (net : NetlistView) (fault : Fault) (old new : SinkState) : Type 0 where
  pub read : Source
  pub is : telling.explains ≡ true → is_read fault ≡ true
      → IsRead telling.language (files_of telling) (source_report fault) read
  pub goes : Goes old new (told telling read net fault)

-- Where memory for its names, or to explain it, is refused, a beginning of what is told goes out, and then the refusal.
pub record TellsInPart (telling : Telling) (net : NetlistView) (fault : Fault) (old new : SinkState) : Type 0 where
  pub takes : takes_memory telling.explains fault ≡ true
  pub between : SinkState
  pub part : TakesBeginning old between (told telling unread net fault)
  pub memory : Goes between new memory_line

-- Where memory to read the source is refused, the refusal stands in place of the explanation.
pub record TellsUnread (telling : Telling) (net : NetlistView) (fault : Fault) (old new : SinkState) : Type 0 where
  pub asked : telling.explains ≡ true
  pub source : is_read fault ≡ true
  pub goes : Goes old new (fault_lines (files_of telling) net fault ++ memory_line)

abbrev pub TellsFault : Telling → NetlistView → Fault → (old new : SinkState) → (outcome : Status) → Type 0
TellsFault telling net fault old new outcome =
    (TellsWhole telling net fault old new × (outcome ≡ status_of fault))
    ⊎ ((TellsInPart telling net fault old new ⊎ TellsUnread telling net fault old new) × (outcome ≡ status.Memory))

-- ---- of a run that is done

abbrev pub summary_line : Summary → List ℕ
summary_line s = codes "moments " ++ decimal s.moments ++ codes " deltas " ++ decimal s.most_deltas ++ codes "\n"

abbrev pub levels_line : LevelSummary → List ℕ
levels_line s = codes "moments " ++ decimal s.moments ++ codes " bound " ++ decimal s.bound ++ codes "\n"
