use Rattle.std.proofs.Common.{◌≡◌, map, drop}
use Rattle.rtl_net.specs.Bodies.{choice_view}
use Rattle.vhdl_names_units.specs.views.Answers as answers
use Rattle.vhdl_expand_rules.specs.Elab.{each}
use Rattle.vhdl_expand_rules.specs.Statements as definition
use Rattle.vhdl_expand_operands.proofs.Several.{behind}
use Rattle.vhdl_expand_choices.proofs.coding.choices.Given as goal

-- those so far, and those that are left
abbrev pub invariant-loop-item : goal.invariant-loop-item
invariant-loop-item l =
    each (definition.choice l.fn.at l.width.len) (map answers.choice_view l.list)
    ≡ behind (map choice_view l.choices.items) (each (definition.choice l.fn.at l.width.len) (map answers.choice_view (drop l.item-index l.list)))
