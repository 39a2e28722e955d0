use Rattle.std.proofs.Common.{◌≡◌, take}
use Rattle.arrayvec.specs.ArrayVec.{array_vec_len}
use Rattle.rtl_net.proofs.values.text_of.Given as goal

-- the bytes before this one are there
abbrev pub invariant-loop-byte : goal.invariant-loop-byte
invariant-loop-byte l = (l.bytes.items ≡ take l.byte-index l.text) × (array_vec_len l.bytes ≡ l.byte-index)
