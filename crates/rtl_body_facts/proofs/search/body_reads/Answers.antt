use Rattle.std.proofs.Common.{sym, ap, ◌∙◌}
use Rattle.rtl_net.specs.Bodies.{statements_of}
use Rattle.rtl_model.specs.bodies.Leaves.{leaves, read_of}
use Rattle.rtl_model.proofs.bodies.Leaves.{leaves_tell}
use Rattle.rtl_body_facts.specs.Reading.{is_in}
use Rattle.rtl_body_facts.proofs.Found.{in_some}
use Rattle.rtl_body_facts.proofs.search.body_reads.Goals as goal

pub returns : goal.returns
returns c =
    let b = statements_of c.args.statements.now in
    c.in_body.ensures ∙ in_some c.args.net read_of (leaves b) ∙ ap (is_in c.args.net) (sym (leaves_tell.reads_are b))
