use Rattle.rtl_copy_ends.specs.Steps.{IsEach}
use Rattle.rtl_copy_ends.proofs.table.places.Given as goal

abbrev pub invariant-loop-place : goal.invariant-loop-place
invariant-loop-place l = IsEach l.place l.places.items
