-- Bytes of one file, and of several.
use Rattle.std.proofs.Common.{◌≡◌, ℕ, ◌<◌, ◌≤◌, List, ◌∷◌, ◌++◌, length, map, refl, codes, arith}
use Rattle.std.specs.Prelude.{decimal}
use Rattle.rtlsim_command_faults.specs.Lines.{byte_text, spot_text}
use Rattle.vhdl_source_files.specs.Files.{file_view, spot_in}
use Rattle.vhdl_source_files.specs.declared.file.SourceFile.{SourceFile}

pub one_file : (files : List SourceFile) (at : ℕ) → length files < 2 → byte_text (map file_view files) at ≡ codes " at " ++ decimal at
one_file (file ∷ next ∷ files) at few = absurd (omega (arith, few))
one_file _ at few = refl

pub several_files : (files : List SourceFile) (at : ℕ) → 2 ≤ length files
    → byte_text (map file_view files) at ≡ spot_text (spot_in (map file_view files) at)
several_files (file ∷ next ∷ files) at many = refl
several_files _ at many = absurd (omega (arith, many))
