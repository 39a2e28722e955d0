use Rattle.std.proofs.Common.{◌≡◌, drop}
use Rattle.vhdl_expand_rules.specs.views.Integers.{integers_view}
use Rattle.vhdl_expand_rules.specs.views.Decisions.{all_decided}
use Rattle.vhdl_expand_rules.proofs.integer.Integers.+decision.Given as goal

-- the operators that are left, on the truth so far, give the whole
abbrev pub invariant-all_decisions-loop-link : goal.invariant-all_decisions-loop-link
invariant-all_decisions-loop-link l =
    all_decided (integers_view l.self) l.fn.first l.links ≡ all_decided (integers_view l.self) l.holds (drop l.link-index l.links)
