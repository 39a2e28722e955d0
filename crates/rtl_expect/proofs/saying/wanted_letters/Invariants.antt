use Rattle.std.proofs.Common.{◌≡◌, map, take}
use Rattle.arrayvec.specs.ArrayVec.{array_vec_len}
use Rattle.rtl_expect.specs.Telling.{wanted_letter}
use Rattle.rtl_expect.proofs.saying.wanted_letters.Given as goal

-- the letters of those before this one are there
abbrev pub invariant-loop-code : goal.invariant-loop-code
invariant-loop-code l = (l.letters.items ≡ map wanted_letter (take l.code-index l.wanted)) × (array_vec_len l.letters ≡ l.code-index)
