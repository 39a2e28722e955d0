use Rattle.std.proofs.Common.{◌≡◌, ℕ, ◌<◌, ◌≤◌, true, false, length, get_or}
use Rattle.rtl_kernel.proofs.worklist.unmark.Given as goal

abbrev pub invariant-loop-place : goal.invariant-loop-place
invariant-loop-place l = record {
  as_many : length l.marks ≡ length l.initial.marks;
  later : (place : ℕ) → get_or l.marks place false ≡ true → (k : ℕ) × (l.place-index ≤ k) × (k < length l.places) × (get_or l.places k 0 ≡ place);
}
