use Rattle.std.proofs.Common.{◌≡◌, ◌++◌, map, drop}
use Rattle.rtl_net.specs.Bodies.{choice_view}
use Rattle.vhdl_expand_numbers.specs.Views.{limits_view}
use Rattle.vhdl_expand_choices.specs.Views.{digits}
use Rattle.vhdl_expand_choices.proofs.Turning.{all_numbers}
use Rattle.vhdl_expand_choices.proofs.number.NumberChoices.spread.Given as goal

-- those so far, and those that are left
abbrev pub invariant-loop-span : goal.invariant-loop-span
invariant-loop-span l =
    map (digits l.fn.self.width.len) (all_numbers (limits_view l.fn.self.all) l.span-items)
    ≡ map choice_view l.codes.items ++ map (digits l.fn.self.width.len) (all_numbers (limits_view l.fn.self.all) (drop l.span-index l.span-items))
