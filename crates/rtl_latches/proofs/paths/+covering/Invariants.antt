use Rattle.std.proofs.Common.{◌≡◌, drop}
use Rattle.std.specs.List.{list_any, list_all}
use Rattle.rtl_body_facts.specs.Paths.{statement_covers, branch_covers, alternative_covers}
use Rattle.rtl_latches.proofs.paths.+covering.Given as goal

abbrev pub invariant-covers-loop-statement : goal.invariant-covers-loop-statement
invariant-covers-loop-statement l =
    list_any (statement_covers l.drives l.net) (drop l.statement-index l.statements) ≡ list_any (statement_covers l.drives l.net) l.statements

abbrev pub invariant-branches_cover-loop-branch : goal.invariant-branches_cover-loop-branch
invariant-branches_cover-loop-branch l = list_all (branch_covers l.drives l.net) (drop l.branch-index l.branches) ≡ list_all (branch_covers l.drives l.net) l.branches

abbrev pub invariant-alternatives_cover-loop-alternative : goal.invariant-alternatives_cover-loop-alternative
invariant-alternatives_cover-loop-alternative l =
    list_all (alternative_covers l.drives l.net) (drop l.alternative-index l.alternatives) ≡ list_all (alternative_covers l.drives l.net) l.alternatives
