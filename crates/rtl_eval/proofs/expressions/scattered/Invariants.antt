use Rattle.std.proofs.Common.{◌≡◌, length, map, take, slice_index}
use Rattle.rtl_eval.proofs.expressions.scattered.Given as goal

abbrev pub invariant-loop-at : goal.invariant-loop-at
invariant-loop-at l = (length l.codes ≡ 64) × (take l.at l.codes ≡ map (slice_index l.values) (take l.at l.places))
