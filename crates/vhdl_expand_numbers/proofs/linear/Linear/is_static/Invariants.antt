use Rattle.std.proofs.Common.{◌≡◌, map, drop}
use Rattle.std.specs.List.{list_all}
use Rattle.vhdl_expand_rules.specs.Linear.{falls_out}
use Rattle.vhdl_expand_numbers.specs.Views.{term_view}
use Rattle.vhdl_expand_numbers.proofs.linear.Linear.is_static.Given as goal

abbrev pub invariant-loop-term : goal.invariant-loop-term
invariant-loop-term l = list_all falls_out (map term_view l.term-items) ≡ list_all falls_out (map term_view (drop l.term-index l.term-items))
