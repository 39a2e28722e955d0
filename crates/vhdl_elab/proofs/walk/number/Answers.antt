use Rattle.std.proofs.Common.{[], arith, subst, Vec, Global, ℕ}
use Rattle.vhdl_elab_rules.specs.Numbering.{numbered_design, nothing_numbered, above_top, with_instance}
use Rattle.vhdl_expand_tree.specs.Views.{instance_view}
use Rattle.vhdl_elab.specs.Made.{IsMade}
use Rattle.vhdl_elab.proofs.walk.number.Goals as goal

pub returns : goal.returns
unfolding numbered_design
returns c =
    let family = λ (name : Vec ℕ Global). IsMade (with_instance above_top name.items (instance_view c.args.design.top) nothing_numbered) c.instance.new.made in
    subst family c.replace-name.ensures.value (c.in_ok-instance.ensures.made nothing_numbered [] c.nothing-made.ensures)

pub instance-requires-clause-room : goal.instance-requires-clause-room
unfolding numbered_design
instance-requires-clause-room c = omega (arith, c.requires.room, c.nothing-made.ensures.nets)
