-- What a run answers that ends with a remark on the first integer that is lost in it.
use Rattle.std.specs.Prelude.{◌≡◌, ◌≢◌, ◌⊎◌, ℕ, true, if◌then◌else◌, List, [], ◌++◌, Option, Some, None, Result, Ok, Err, Vec}
use Rattle.std.specs.Global.{Global}
use Rattle.byte_streams.specs.Stands.{Stand}
use Rattle.byte_streams.specs.Written.{SinkState}
use Rattle.rtl_lost_integers.specs.Lost.{first_lost, integers_of}
use Rattle.rtl_lost_integers.specs.Told.{lost_text}
use Rattle.rtl_lost_integers.specs.declared.watching.LostInteger.{LostInteger}
use Rattle.rtl_net.specs.Nets.{NetlistView}
use Rattle.rtlsim_command_faults.specs.Explanations.{files_of}
use Rattle.rtlsim_command_faults.specs.Lines.{memory_line}
use Rattle.rtlsim_command_faults.specs.declared.faults.Fault.{Fault}
use Rattle.rtlsim_command_faults.specs.declared.faults.Fault.TheVariants.{Memory}
use Rattle.rtlsim_command_faults.specs.declared.telling.Telling.{Telling}
use Rattle.rtlsim_commands.specs.Sights.{Sight, Seen}
use Rattle.rtlsim_commands.specs.Told.{Done}
use Rattle.rtlsim_remarked_runs.specs.declared.answering.Remarked.{Remarked}
use Rattle.vhdl_source_files.specs.Files.{source_name}

-- the line of the first integer that is lost while these stand, where explanations are asked for
abbrev pub remark_text : Telling → NetlistView → List Stand → List ℕ
remark_text telling net stands =
    if telling.explains then lost_text (source_name (files_of telling)) net (first_lost (integers_of net) stands)
    else []

-- what is told of a remark: its text, or that memory for it was refused
abbrev pub told_text : Option (Vec ℕ Global) → List ℕ
told_text None = memory_line
told_text (Some text) = text.items

-- nothing takes no memory
abbrev pub IsText : (text : List ℕ) → Option (Vec ℕ Global) → Type 0
IsText text (Some t) = t.items ≡ text
IsText text None = text ≢ []

-- what the run does, and the remark on what is seen of it
abbrev pub Remarking : {A : Type 0} → Sight
    → (Runs : NetlistView → Result A Fault → SinkState → SinkState → Type 0) → Telling
    → NetlistView → Result (Remarked A) Fault → (old new : SinkState) → Type 0
Remarking sight Runs telling net (Ok told) old new =
    Runs net (Ok told.answer) old new × Seen sight (λ stands. IsText (remark_text telling net stands) told.remark) net
-- memory may be refused before a run whose integers are looked at
Remarking sight Runs telling net (Err Memory) old new =
    Runs net (Err Memory) old new ⊎ ((telling.explains ≡ true) × (new ≡ old))
Remarking sight Runs telling net (Err fault) old new = Runs net (Err fault) old new

-- the remark is told behind the answer
abbrev pub with_remark : {A : Type 0} → Done A → Done (Remarked A)
with_remark done =
    record {
      text = λ told. done.text told.answer ++ told_text told.remark;
      status = λ told. done.status told.answer;
      events = done.events;
    }

-- ---- a step of the code: the remark on this integer

abbrev pub WithRemark : {A : Type 0} → Telling → NetlistView → Option LostInteger
    → Result A Fault → Result (Remarked A) Fault → Type 0
WithRemark telling net lost (Ok answer) (Ok told) =
    (told.answer ≡ answer) × IsText (lost_text (source_name (files_of telling)) net lost) told.remark
WithRemark telling net lost (Err fault) (Err told) = told ≡ fault
WithRemark telling net lost _ _ = ⊥
