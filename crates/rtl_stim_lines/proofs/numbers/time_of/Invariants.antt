use Rattle.std.proofs.Common.{◌≡◌, ℕ, ◌≤◌, ◌<◌, drop}
use Rattle.rtl_stim_lines.specs.Forms.{number_after}
use Rattle.rtl_stim_lines.specs.Lines.{Word}
use Rattle.rtl_stim_lines.proofs.numbers.time_of.Given as goal

-- the digits so far spell a number, which is kept unless it is too large
pub record IsSpelled (word rest : Word) (time : ℕ) : Type 0 where
  pub number : ℕ
  pub same : number_after 0 word ≡ number_after number rest
  pub kept : number ≤ 1_000_000_000_000_000 → time ≡ number
  pub above : 1_000_000_000_000_000 < number → 1_000_000_000_000_000 < time
  pub small : time ≤ 10_000_000_000_000_009

abbrev pub invariant-loop-byte : goal.invariant-loop-byte
invariant-loop-byte l = IsSpelled l.word (drop l.byte-index l.word) l.time
