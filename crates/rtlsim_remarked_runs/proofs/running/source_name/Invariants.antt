use Rattle.std.proofs.Common.{◌≡◌, [], map, drop}
use Rattle.vhdl_source_files.specs.Files.{file_view, last_name}
use Rattle.rtlsim_remarked_runs.proofs.running.source_name.Given as goal

abbrev pub invariant-loop-file : goal.invariant-loop-file
invariant-loop-file l = last_name l.name (map file_view (drop l.file-index l.files)) ≡ last_name [] (map file_view l.files)
