use Rattle.std.proofs.Common.{sym, ap}
use Rattle.rtl_net.specs.Indices.{numbers}
use Rattle.vhdl_names_trees.specs.views.Vectors.{place_view}
use Rattle.vhdl_expand_rules.proofs.Steps.{given}
use Rattle.vhdl_expand_bodies.specs.Sites.{site_view}
use Rattle.vhdl_expand_bodies.proofs.TestChains.{level_given, one_level}
use Rattle.vhdl_expand_bodies.proofs.site.Site.level.Goals as goal

pub returns : goal.returns
returns c =
    level_given (site_view c.args.self.now) c.args.plain (place_view c.args.place.now) c.args.value c.in_ok-run.run'.first c.in_ok-run.run'.len
    (numbers c.elements-elements.result) c.fill.result c.in_ok-run.ensures.given c.in_ok-run.ensures.short.0.0 c.if-run-eq1.false (ap given (sym c.elements-elements.ensures)) c.fill.ensures.list

pub returns-then-run-eq1 : goal.returns-then-run-eq1
returns-then-run-eq1 c =
    one_level (site_view c.args.self.now) c.args.plain (place_view c.args.place.now) c.args.value c.in_ok-run.run'.first c.in_ok-run.run'.len c.element-net.result
    c.in_ok-run.ensures.given c.if-run-eq1.true (c.element-net.ensures c.args.place.now.at)
