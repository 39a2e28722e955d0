use Rattle.std.proofs.Common.{◌≡◌, drop}
use Rattle.vhdl_expand_bodies.specs.Conditions.{chain_view}
use Rattle.vhdl_expand_bodies.specs.Sites.{site_view}
use Rattle.vhdl_expand_bodies.specs.steps.Chains.{chained}
use Rattle.vhdl_expand_bodies.specs.steps.Tests as steps
use Rattle.vhdl_expand_bodies.proofs.site.Site.+condition.Given as goal

-- the operators that are left, on the condition so far, give the whole
abbrev pub invariant-add_tests-loop-link : goal.invariant-add_tests-loop-link
invariant-add_tests-loop-link l =
    chained (steps.linked (site_view l.self)) (chain_view l.fn.chain) l.links
    ≡ chained (steps.linked (site_view l.self)) (chain_view l.chain) (drop l.link-index l.links)
