use Rattle.std.proofs.Common.{◌≡◌, Bool, true, false, not, refl, sym, ap, ◌∙◌}
use Rattle.rtl_net.specs.Bodies.{value_view}
use Rattle.rtl_model.specs.basics.Lists.{is_empty}
use Rattle.rtl_model.specs.bodies.Reads.{value_reads}
use Rattle.rtl_model.specs.bodies.Leaves.{value_leaves, read_of}
use Rattle.rtl_model.proofs.bodies.Leaves.{leaves_tell}
use Rattle.rtl_body_facts.specs.Reading.{some}
use Rattle.rtl_body_facts.proofs.Found.{some_in}
use Rattle.rtl_body_facts.proofs.search.is_constant.Goals as goal

twice : (b : Bool) → not (not b) ≡ b
twice true = refl
twice false = refl

pub returns : goal.returns
returns c =
    let v = value_view c.args.value.now in
    ap not (c.in_value.ensures ∙ some_in read_of (value_leaves v) ∙ ap some (sym (leaves_tell.value_reads_are v))) ∙ twice (is_empty (value_reads v))
