use Rattle.std.proofs.Common.{◌≡◌, take}
use Rattle.vhdl_values.specs.Packed.{packed}
use Rattle.vhdl_values.proofs.transposed.packed.Given as goal

abbrev pub invariant-loop-code : goal.invariant-loop-code
invariant-loop-code l = l.word ≡ packed (take l.code-index l.codes)
