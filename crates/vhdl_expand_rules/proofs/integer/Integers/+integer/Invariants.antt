use Rattle.std.proofs.Common.{◌≡◌, drop}
use Rattle.vhdl_expand_rules.specs.views.Integers.{integers_view, all_operated}
use Rattle.vhdl_expand_rules.proofs.integer.Integers.+integer.Given as goal

-- the operators that are left, on the value so far, give the whole
abbrev pub invariant-continued-loop-link : goal.invariant-continued-loop-link
invariant-continued-loop-link l =
    all_operated (integers_view l.self) l.fn.first l.links ≡ all_operated (integers_view l.self) l.value (drop l.link-index l.links)
