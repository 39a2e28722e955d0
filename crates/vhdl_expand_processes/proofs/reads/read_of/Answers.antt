use Rattle.std.proofs.Common.{ap, sym, ◌∙◌, ◌++◌}
use Rattle.std.specs.Prelude.{flat_map}
use Rattle.rtl_net.specs.Bodies.{statements_of}
use Rattle.rtl_model.specs.bodies.Leaves.{leaves, read_of}
use Rattle.rtl_model.proofs.bodies.Leaves.{leaves_tell}
use Rattle.rtl_body_facts.specs.Reading.{is_in}
use Rattle.vhdl_expand_processes.proofs.Told.{told_all, same_contained}
use Rattle.vhdl_expand_processes.proofs.reads.read_of.Goals as goal

pub returns-clause-all : goal.returns-clause-all
returns-clause-all c =
    let b = statements_of c.args.body.now in
    let told = told_all _ _ _ c.walk_body.ensures c.if-reads.false in
    same_contained _ _ (λ n. c.in_ok-order_once.ensures.same n
    ∙ ap (is_in n) (told.1 ∙ ap (λ ns. ns ++ flat_map read_of (leaves b)) c.new.ensures.items ∙ sym (leaves_tell.reads_are b)))
