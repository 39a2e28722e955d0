use Rattle.std.proofs.Common.{map, ap, ◌∙◌}
use Rattle.std.proofs.lemmas.List.{take_all}
use Rattle.rtl_levels.specs.Scheduled.{is_clocked_kind}
use Rattle.rtl_levels.proofs.clocking.clocked_processes.Goals as goal

pub returns : goal.returns
returns c = c.loop-kind.invariant ∙ ap (map is_clocked_kind) (take_all c.loop-kind.kind-index c.args.kinds.now c.loop-kind-test.false)
