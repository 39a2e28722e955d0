use Rattle.std.proofs.Common.{◌≡◌, map, take}
use Rattle.rtlsim.specs.Texts.{read_view}
use Rattle.vhdl_source_files.specs.Files.{file_view}
use Rattle.rtlsim.proofs.prepared.files_of.Given as goal

-- the files so far
abbrev pub invariant-loop-file : goal.invariant-loop-file
invariant-loop-file l = map file_view l.files.items ≡ map read_view (take l.file-index l.texts.before.items)
