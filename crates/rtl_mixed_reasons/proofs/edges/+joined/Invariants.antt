use Rattle.std.proofs.Common.{◌≡◌, take}
use Rattle.rtl_net.specs.Bodies.{test_links_of}
use Rattle.rtl_mixed_reasons.specs.Edges.{joined}
use Rattle.rtl_mixed_reasons.proofs.Branching.{start_view}
use Rattle.rtl_mixed_reasons.proofs.edges.+joined.Given as goal

abbrev pub invariant-loop-link : goal.invariant-loop-link
invariant-loop-link l = l.all ≡ joined l.clock (test_links_of (start_view l.test) (take l.link-index l.link-items))
