use Rattle.std.proofs.Common.{◌≡◌, ◌<◌, ℕ, false, get_or}
use Rattle.rtl_drives.proofs.spans.are_free.Given as goal

abbrev pub invariant-loop-mark : goal.invariant-loop-mark
invariant-loop-mark l = l.any ≡ false → (k : ℕ) → k < l.mark-index → get_or l.marks k false ≡ false
