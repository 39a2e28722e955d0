use Rattle.std.proofs.Common.{◌≡◌, length}
use Rattle.std.specs.List.{list_all}
use Rattle.rtl_body_facts.specs.Reading.{is_in}
use Rattle.rtl_mixed_reasons.proofs.nets.are_among.Given as goal

abbrev pub invariant-loop-left : goal.invariant-loop-left
invariant-loop-left l = list_all (λ n. is_in n l.others) l.left ≡ list_all (λ n. is_in n l.others) l.nets

abbrev pub decreases-loop-left : goal.decreases-loop-left
decreases-loop-left l = length l.left
