use Rattle.std.proofs.Common.{◌≡◌, map, string_bytes, take}
use Rattle.rtlsim.proofs.arguments.texts_of.Given as goal

-- the texts of the words so far
abbrev pub invariant-loop-word : goal.invariant-loop-word
invariant-loop-word l = map (λ word. word.now) l.words.items ≡ map string_bytes (take l.word-index l.args)
