use Rattle.std.proofs.Common.{◌≡◌, ◌||◌, ℕ, take}
use Rattle.rtl_body_facts.specs.Reading.{is_in}
use Rattle.rtl_latches.specs.Parts.{has_left}
use Rattle.rtl_latches.proofs.parts.push_left.Given as goal

abbrev pub invariant-loop-one : goal.invariant-loop-one
invariant-loop-one l = (n : ℕ) → is_in n l.nets.items ≡ (is_in n l.initial.nets.items || has_left n (take l.one-index l.left))
