use Rattle.std.proofs.Common.{◌≡◌, map}
use Rattle.vhdl_expand_rules.specs.Linear.{with_terms}
use Rattle.vhdl_expand_numbers.specs.Views.{term_view}
use Rattle.vhdl_expand_numbers.proofs.linear.Linear.plus.Given as goal

-- those that are left are still to be added
abbrev pub invariant-loop-term : goal.invariant-loop-term
invariant-loop-term l =
    with_terms l.fn.at (map term_view l.fn.self.terms.items) (map term_view l.fn.other.terms.items)
    ≡ with_terms l.fn.at (map term_view l.terms.items) (map term_view l.term-iterator.rest.items)
