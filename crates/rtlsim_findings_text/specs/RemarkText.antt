-- What is written of remarks: a line for each, but one for elements of a vector that stand side by side and of which
-- the same is told.
use Rattle.std.specs.Prelude.{ℕ, List, ◌++◌, flat_map, codes}
use Rattle.rtl_net.specs.Nets.{NetlistView}
use Rattle.rtl_remarks.specs.Remarks.{remarks_of}
use Rattle.rtl_remarks.specs.declared.remark.Remark.{Remark}
use Rattle.rtl_undriven_inputs.specs.Naming.{stimulus_remarks_of}
use Rattle.vhdl_source_files.specs.Files.{FileView}
use Rattle.rtlsim_findings.specs.Causes.{at_process}
use Rattle.rtlsim_findings.specs.Remarked.{RemarkView, process_of, message, found}
use Rattle.rtlsim_findings_text.specs.Placed.{place_text}

-- at the place of its process, of the source where it has none
abbrev pub line : List FileView → NetlistView → RemarkView → List ℕ
line files net f =
    place_text files (at_process net (process_of f.remark)) ++ codes "remark: " ++ message net f ++ codes "\n"

abbrev pub lines : List FileView → NetlistView → List Remark → List ℕ
lines files net remarks = flat_map (line files net) (found net remarks)

abbrev pub remarks_text : List FileView → NetlistView → List ℕ
remarks_text files net = lines files net (remarks_of net)

-- of the stimulus of this text
abbrev pub stimulus_remarks_text : List FileView → NetlistView → (stimulus : List ℕ) → List ℕ
stimulus_remarks_text files net stimulus = lines files net (stimulus_remarks_of net stimulus)
