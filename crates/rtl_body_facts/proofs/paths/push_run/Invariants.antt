use Rattle.std.proofs.Common.{◌≡◌, ◌||◌, ℕ}
use Rattle.std.specs.List.{list_any, range_with_len}
use Rattle.rtl_body_facts.specs.Reading.{is_in}
use Rattle.rtl_body_facts.specs.Paths.{covers}
use Rattle.rtl_body_facts.proofs.paths.push_run.Given as goal

abbrev pub invariant-loop-i : goal.invariant-loop-i
invariant-loop-i l =
    (n : ℕ) → is_in n l.nets.items ≡ (is_in n l.initial.nets.items || list_any (covers l.drives n) (range_with_len l.first l.i))
