use Rattle.std.proofs.Common.{◌≡◌, take}
use Rattle.arrayvec.specs.ArrayVec.{array_vec_len}
use Rattle.rtl_net.specs.Values.{letters_of}
use Rattle.rtl_net.proofs.values.letters_of.Given as goal

-- the letters of those before this one are there
abbrev pub invariant-loop-code : goal.invariant-loop-code
invariant-loop-code l = (l.letters.items ≡ letters_of (take l.code-index l.values)) × (array_vec_len l.letters ≡ l.code-index)
