use Rattle.std.proofs.Common.{◌≡◌, ◌+◌, ◌-◌}
use Rattle.std.specs.List.{list_any, range_with_len}
use Rattle.rtl_body_facts.specs.Paths.{covers}
use Rattle.rtl_latches.proofs.paths.run_has.Given as goal

abbrev pub invariant-loop-i : goal.invariant-loop-i
invariant-loop-i l =
    list_any (covers l.drives l.net) (range_with_len (l.first + l.i) (l.len - l.i)) ≡ list_any (covers l.drives l.net) (range_with_len l.first l.len)
