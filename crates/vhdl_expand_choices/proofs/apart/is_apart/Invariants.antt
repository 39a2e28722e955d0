use Rattle.std.proofs.Common.{◌≡◌, map, drop}
use Rattle.std.specs.List.{list_any}
use Rattle.vhdl_expand_rules.specs.Statements.{overlap}
use Rattle.vhdl_expand_numbers.specs.Views.{limits_view}
use Rattle.vhdl_expand_choices.specs.Views.{chosen_span}
use Rattle.vhdl_expand_choices.proofs.apart.is_apart.Given as goal

-- one of those that are left overlaps, if one of all does
abbrev pub invariant-loop-other : goal.invariant-loop-other
invariant-loop-other l =
    list_any (overlap (limits_view l.numbers)) (map chosen_span l.before) ≡ list_any (overlap (limits_view l.numbers)) (map chosen_span (drop l.other-index l.before))
