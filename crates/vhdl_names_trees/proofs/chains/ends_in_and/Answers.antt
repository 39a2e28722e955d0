use Rattle.std.proofs.Common.{ap, sym, ◌∙◌}
use Rattle.vhdl_names_trees.specs.views.Parted as parts
use Rattle.vhdl_names_trees.specs.views.Tests.{start_view}
use Rattle.vhdl_names_trees.proofs.rows.Tests.{chained-after}
use Rattle.vhdl_names_trees.proofs.rows.Parted.{and_ends, other_ends, no_links}
use Rattle.vhdl_names_trees.proofs.chains.ends_in_and.Goals.{in-Some, in-None}
use Rattle.vhdl_names_trees.proofs.chains.ends_in_and.Goals as goal

pub returns-in-And : goal.returns-in-And
returns-in-And c =
    let start = c.args.start.now in
    elim c.match-split_last.branch [
      | in-Some w ↦
          sym (ap parts.ends_in_and (chained-after (start_view start) _ c.args.links.now w.in-Some.link.now w.in-Some.ensures.cases.0)
          ∙ and_ends w.in-Some.link.now.operator _ _ (sym w.operator-is ∙ c.in-And.is))
      | in-None w ↦
          sym (ap parts.ends_in_and (no_links (start_view start) c.args.links.now w.in-None.ensures.cases)
          ∙ and_ends start.link.operator _ _ (sym w.operator-is ∙ c.in-And.is))
    ]

pub returns-in_default : goal.returns-in_default
returns-in_default c =
    let start = c.args.start.now in
    elim c.match-split_last.branch [
      | in-Some w ↦
          sym (ap parts.ends_in_and (chained-after (start_view start) _ c.args.links.now w.in-Some.link.now w.in-Some.ensures.cases.0)
          ∙ other_ends w.in-Some.link.now.operator _ _ (λ is. c.in_default.not-And (w.operator-is ∙ is)))
      | in-None w ↦
          sym (ap parts.ends_in_and (no_links (start_view start) c.args.links.now w.in-None.ensures.cases)
          ∙ other_ends start.link.operator _ _ (λ is. c.in_default.not-And (w.operator-is ∙ is)))
    ]
