use Rattle.std.proofs.Common.{◌≡◌, false}
use Rattle.std.specs.List.{list_any, range_with_len}
use Rattle.rtl_body_facts.specs.Reading.{is_in}
use Rattle.rtl_outside_ranges.proofs.looked.any_in_run.Given as goal

-- none of those before this one is
abbrev pub invariant-loop-i : goal.invariant-loop-i
invariant-loop-i l = list_any (λ n. is_in n l.some) (range_with_len l.first l.i) ≡ false
