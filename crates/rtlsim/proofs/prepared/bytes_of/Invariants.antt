use Rattle.std.proofs.Common.{◌≡◌, map, take}
use Rattle.rtlsim.proofs.prepared.bytes_of.Given as goal

-- the bytes of the texts so far
abbrev pub invariant-loop-text : goal.invariant-loop-text
invariant-loop-text l = map (λ bytes. bytes.now) l.all.items ≡ map (λ text. text.now) (take l.text-index l.texts)
