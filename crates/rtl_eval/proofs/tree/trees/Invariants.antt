use Rattle.std.proofs.Common.{◌≡◌, ℕ, map}
use Rattle.std.specs.List.{range_with_len}
use Rattle.rtl_eval.specs.Trees.{ProcessOf}
use Rattle.rtl_eval.proofs.tree.trees.Given as goal

abbrev pub invariant-loop-number : goal.invariant-loop-number
invariant-loop-number l = l.trees.items ≡ map {B = ProcessOf} (λ (number : ℕ). record { net = l.fn.net; number = number }) (range_with_len 0 l.number)
