use Rattle.std.proofs.Common.{ℕ, zero, suc, ◌<◌, List, [], ◌∷◌, take, arith, length}
use Rattle.std.specs.List.{All}
use Rattle.std.proofs.lemmas.List.Elements.{All-replicate, All-set}
use Rattle.rows_front.proofs.operands.coded.Goals as goal

below_taken : (n : ℕ) (codes : List ℕ) → All (λ code. code < 9) codes → All (λ code. code < 9) (take n codes)
below_taken zero codes all k d lt = absurd (omega arith)
below_taken (suc n) [] all k d lt = absurd (omega arith)
below_taken (suc n) (code ∷ codes) all zero d lt = all 0 d (omega arith)
below_taken (suc n) (code ∷ codes) all (suc k) d lt = below_taken n codes (λ i e less. all (suc i) e (omega arith)) k d (omega arith)

pub loop-at-init : goal.loop-at-init
loop-at-init c = All-replicate (λ code. code < 9) 64 0 (omega arith)

pub loop-at-preserved : goal.loop-at-preserved
loop-at-preserved c = All-set (λ code. code < 9) c.loop-at.codes c.loop-at.at _ (omega arith) c.loop-at.invariant

pub of_codes-requires-clause-codes : goal.of_codes-requires-clause-codes
of_codes-requires-clause-codes c = below_taken _ c.loop-at.codes c.loop-at.invariant
