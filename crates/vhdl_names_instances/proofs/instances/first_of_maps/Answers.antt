use Rattle.std.proofs.Common.{true≢false, ap, sym, ◌∙◌}
use Rattle.std.specs.Prelude.{is_some}
use Rattle.vhdl_tree.specs.View as tree
use Rattle.vhdl_names_rules.specs.problems.Instances.{maps}
use Rattle.vhdl_names_instances.proofs.Told.{or_memory}
use Rattle.vhdl_names_instances.proofs.instances.first_of_maps.Goals as goal

pub returns-in-Ok-clause-told : goal.returns-in-Ok-clause-told
returns-in-Ok-clause-told c = λ e h label unit none.
    or_memory (maps c.args.sight.now e (tree.instance_view c.args.instance.now)) c.args.fault
    (λ n. absurd (true≢false (sym (c.in-Ok.ensures.given e h label unit) ∙ ap is_some (none n))))
