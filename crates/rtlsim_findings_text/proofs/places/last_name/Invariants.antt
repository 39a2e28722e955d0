use Rattle.std.proofs.Common.{◌≡◌, [], map, drop}
use Rattle.vhdl_source_files.specs.Files.{last_name}
use Rattle.rtlsim_findings_text.specs.Marks.{view}
use Rattle.rtlsim_findings_text.proofs.places.last_name.Given as goal

abbrev pub invariant-loop-file : goal.invariant-loop-file
invariant-loop-file l = last_name l.name (map view (drop l.file-index l.files)) ≡ last_name [] (map view l.files)
