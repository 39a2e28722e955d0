use Rattle.std.proofs.Common.{ap, sym, ◌∙◌}
use Rattle.rtl_net.specs.Bodies.{test_view}
use Rattle.rtl_mixed_reasons.specs.Edges.{has_two}
use Rattle.rtl_mixed_reasons.proofs.Branching.{told-several, test-events}
use Rattle.rtl_mixed_reasons.proofs.edges.has_two.Goals as goal

pub returns : goal.returns
returns c = told-several _ _ _ c.walk_test.ensures ∙ ap has_two (sym (test-events (test_view c.args.test.now)))
