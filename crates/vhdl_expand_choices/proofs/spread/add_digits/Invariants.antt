use Rattle.std.proofs.Common.{◌≡◌, ◌++◌, map, drop}
use Rattle.rtl_net.specs.Bodies.{choice_view}
use Rattle.vhdl_tree.specs.declared.operator.Direction.TheVariants.{To}
use Rattle.vhdl_expand_rules.specs.Computed.{held_in}
use Rattle.vhdl_expand_rules.specs.Integers.{numbers_from}
use Rattle.vhdl_expand_rules.specs.Statements.{count_in, numbers_in}
use Rattle.vhdl_expand_numbers.specs.Views.{limits_view}
use Rattle.vhdl_expand_choices.specs.Views.{digits}
use Rattle.vhdl_expand_choices.proofs.spread.add_digits.Given as goal

-- those so far, and those that are left
abbrev pub invariant-loop-turn : goal.invariant-loop-turn
invariant-loop-turn l =
    map choice_view l.fn.codes.items ++ map (digits l.fn.len.len) (numbers_in (limits_view l.fn.all) (limits_view l.fn.numbers))
    ≡ map choice_view l.codes.items ++ map (digits l.fn.len.len)
    (drop l.turn (numbers_from To (held_in (limits_view l.fn.all) (limits_view l.fn.numbers).least) (count_in (limits_view l.fn.all) (limits_view l.fn.numbers))))
