use Rattle.std.proofs.Common.{◌≡◌, ◌≤◌, ◌+◌, ◌-◌, ◌^◌, min, map, drop}
use Rattle.vhdl_expand_rules.specs.Statements.{numbers_count}
use Rattle.vhdl_expand_numbers.specs.Views.{limits_view}
use Rattle.vhdl_expand_choices.specs.Views.{spanned_view}
use Rattle.vhdl_expand_choices.proofs.spread.numbers_count.Given as goal

-- the count so far and what is left, or the most that a word holds
abbrev pub invariant-loop-span : goal.invariant-loop-span
invariant-loop-span l =
    (min (2 ^ 64 - 1) (numbers_count (limits_view l.fn.all) (map spanned_view l.spans))
    ≡ min (2 ^ 64 - 1) (l.count + numbers_count (limits_view l.fn.all) (map spanned_view (drop l.span-index l.spans)))) × (l.count ≤ 2 ^ 64 - 1)
