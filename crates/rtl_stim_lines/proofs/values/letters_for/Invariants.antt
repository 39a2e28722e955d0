use Rattle.std.proofs.Common.{◌≡◌, length, take, drop}
use Rattle.rtl_stim_lines.specs.Inputs.{values_named}
use Rattle.rtl_stim_lines.proofs.Named.{before_all}
use Rattle.rtl_stim_lines.proofs.values.letters_for.Given as goal

abbrev pub invariant-loop-place : goal.invariant-loop-place
invariant-loop-place l = (values_named l.text ≡ before_all (take l.place l.values) (values_named (drop l.place l.text))) × (length l.values ≡ 64)
