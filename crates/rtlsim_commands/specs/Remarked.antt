-- The remarks on a stimulus that are told behind a run.
use Rattle.std.specs.Prelude.{◌≡◌, ◌⊎◌, ℕ, Bool, true, List, Option, Some, option_map}
use Rattle.rtl_net.specs.Nets.{NetlistView}
use Rattle.byte_streams.specs.Written.{SinkState, Goes}
use Rattle.rtlsim_command_faults.specs.Explanations.{files_of}
use Rattle.rtlsim_command_faults.specs.Lines.{memory_line}
use Rattle.rtlsim_command_faults.specs.declared.telling.Telling.{Telling}
use Rattle.vhdl_source_files.specs.Files.{FileView}
use Rattle.rtlsim_findings_text.specs.RemarkText.{stimulus_remarks_text}

-- They are told where explanations are asked for and there is a stimulus, unless memory for them is refused; else
-- nothing is.
abbrev pub RemarksIf : (explains : Bool) → (stimulus : Option (List ℕ))
    → List FileView → NetlistView → (old new : SinkState) → Type 0
RemarksIf true (Some text) files net old new =
    Goes old new (stimulus_remarks_text files net text) ⊎ Goes old new memory_line
RemarksIf explains stimulus files net old new = new ≡ old

abbrev pub TellsRemarks : Telling → NetlistView → (old new : SinkState) → Type 0
TellsRemarks telling net old new =
    RemarksIf telling.explains (option_map (λ text. text.now) telling.stimulus_text) (files_of telling) net old new
