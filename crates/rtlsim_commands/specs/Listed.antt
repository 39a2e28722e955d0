-- What `net` and `check` write of a netlist.
use Rattle.std.specs.Prelude.{◌≡◌, ◌⊎◌, ℕ, Bool, if◌then◌else◌, List, [], ◌++◌, Result, Ok, Err}
use Rattle.rtl_check.specs.Verdicts.{IsJudgement, JudgesLoopsOnce, accepts}
use Rattle.rtl_net.specs.Core.{core}
use Rattle.rtl_check.specs.declared.judging.Judgement.{Judgement}
use Rattle.rtlsim_command_faults.specs.Explanations.{files_of, with_explanation}
use Rattle.rtlsim_command_faults.specs.declared.faults.Fault.{Fault}
use Rattle.rtlsim_command_faults.specs.declared.faults.Fault.TheVariants.{Memory, Output}
use Rattle.rtlsim_command_faults.specs.declared.telling.Telling.{Telling}
use Rattle.rtlsim_circles.specs.Paths.{path_text}
use Rattle.rtlsim_findings_text.specs.Json.{json_text}
use Rattle.rtlsim_listing.specs.CheckText.{check_text}
use Rattle.rtlsim_listing.specs.DotText.{dot_text}
use Rattle.rtlsim_findings_text.specs.RemarkText.{remarks_text}
use Rattle.rtlsim_listing.specs.NetText.{net_text}
use Rattle.rtl_net.specs.Nets.{NetlistView}
use Rattle.vhdl_slips.specs.Words.{read_of}
use Rattle.byte_streams.specs.Written.{SinkState, IsIntact, HasFailed, TakesAll, TakesBeginning}
use Rattle.rtlsim_commands.specs.declared.listing.Form.{Form}
use Rattle.rtlsim_commands.specs.declared.listing.Form.TheVariants.{Lines, Graph, ToldLines, ToldGraph, Object}

-- The text went out; or a beginning of it, since the sink has failed, or since memory was refused.
abbrev pub Writes : {A : Type 0} → (text : List ℕ) → Result A Fault → (old new : SinkState) → Type 0
Writes text (Ok x) old new = IsIntact new × TakesAll old new text
Writes text (Err Output) old new = HasFailed new × TakesBeginning old new text
Writes text (Err Memory) old new = TakesBeginning old new text
Writes text (Err _) old new = ⊥

-- the lines of the netlist
abbrev pub ListsNet : NetlistView → Result (Unit {0}) Fault → (old new : SinkState) → Type 0
ListsNet net answer old new = Writes (net_text net) answer old new

-- the text of the checker's judgement of the netlist, in which a loop stands once round
pub record WritesJudgement (text_of : NetlistView → Judgement → List ℕ) (net : NetlistView)
    (answer : Result Bool Fault) (old new : SinkState) : Type 0 where
  pub judgement : Judgement
  pub is : IsJudgement (core net) judgement
  pub once : JudgesLoopsOnce judgement
  pub written : Writes (text_of net judgement) answer old new

-- it answers whether the netlist is accepted; memory may also be refused before that is known
abbrev pub AnswersVerdict : (text_of : NetlistView → Judgement → List ℕ)
    → NetlistView → Result Bool Fault → (old new : SinkState) → Type 0
AnswersVerdict text_of net (Ok passed) old new =
    (w : WritesJudgement text_of net (Ok passed) old new) × (accepts w.judgement ≡ passed)
AnswersVerdict text_of net (Err fault) old new =
    WritesJudgement text_of net (Err fault) old new ⊎ ((fault ≡ Memory) × (new ≡ old))

-- the lines of the verdict
abbrev pub ChecksNet : NetlistView → Result Bool Fault → (old new : SinkState) → Type 0
ChecksNet net answer old new = AnswersVerdict check_text net answer old new

-- the graph of an accepted netlist's levels, or the lines of another verdict
abbrev pub DrawsNet : NetlistView → Result Bool Fault → (old new : SinkState) → Type 0
DrawsNet net answer old new = AnswersVerdict dot_text net answer old new

-- the path to the greatest level, and the remarks on the netlist
abbrev pub path_and_remarks : Telling → NetlistView → Judgement → List ℕ
path_and_remarks telling net j = path_text net j ++ remarks_text (files_of telling) net

-- the lines with explanations of the faults, and these below them, where they are asked for
abbrev pub with_remarks : Telling → NetlistView → Judgement → List ℕ
with_remarks telling net j =
    with_explanation check_text telling net j ++ (if telling.explains then path_and_remarks telling net j else [])

abbrev pub ChecksNetTold : Telling → NetlistView → Result Bool Fault → (old new : SinkState) → Type 0
ChecksNetTold telling net answer old new = AnswersVerdict (with_remarks telling) net answer old new

-- the verdict as an object of JSON
abbrev pub ChecksNetJson : Telling → NetlistView → Result Bool Fault → (old new : SinkState) → Type 0
ChecksNetJson telling net answer old new =
    AnswersVerdict (json_text (files_of telling) (read_of telling.source)) net answer old new

-- the graph, or the lines with explanations; a graph stays one, so no remarks stand below it
abbrev pub DrawsNetTold : Telling → NetlistView → Result Bool Fault → (old new : SinkState) → Type 0
DrawsNetTold telling net answer old new = AnswersVerdict (with_explanation dot_text telling) net answer old new

-- what is written of a verdict in each form
abbrev pub form_text : Form → NetlistView → Judgement → List ℕ
form_text Lines = check_text
form_text Graph = dot_text
form_text (ToldLines telling) = with_remarks telling.now
form_text (ToldGraph telling) = with_explanation dot_text telling.now
form_text (Object telling) = json_text (files_of telling.now) (read_of telling.now.source)
