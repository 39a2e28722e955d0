use Rattle.std.proofs.Common.{◌≡◌, map, take}
use Rattle.std.specs.Prelude.{All}
use Rattle.vhdl_source_files.specs.Files.{file_view}
use Rattle.rtlsim_findings_text.specs.Marks.{IsMarked, view}
use Rattle.rtlsim_findings_text.proofs.places.mark_files.Given as goal

-- the files before this one are marked
abbrev pub invariant-loop-file : goal.invariant-loop-file
invariant-loop-file l = record {
  are : map view l.marked.items ≡ map file_view (take l.file-index l.files);
  marks : All IsMarked l.marked.items;
}
