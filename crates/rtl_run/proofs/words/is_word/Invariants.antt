use Rattle.std.proofs.Common.{◌≡◌, drop}
use Rattle.rtl_run.specs.Words.{is_word}
use Rattle.rtl_run.proofs.words.is_word.Given as goal

-- what is left is a word where the whole is
abbrev pub invariant-loop-byte : goal.invariant-loop-byte
invariant-loop-byte l = is_word l.word ≡ is_word (drop l.byte-index l.word)
