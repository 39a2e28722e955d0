use Rattle.std.proofs.Common.{◌≡◌, ◌&&◌, ℕ, take}
use Rattle.std.specs.List.{list_any, list_all}
use Rattle.rtl_body_facts.specs.Reading.{is_in}
use Rattle.rtl_body_facts.specs.Paths.{statement_covers, branch_covers, alternative_covers}
use Rattle.rtl_body_facts.proofs.paths.+every_path.Given as goal

abbrev pub invariant-assigned_nets-loop-statement : goal.invariant-assigned_nets-loop-statement
invariant-assigned_nets-loop-statement l = (n : ℕ) → is_in n l.nets.items ≡ list_any (statement_covers l.drives n) (take l.statement-index l.statements)

abbrev pub invariant-common_with_branches-loop-branch : goal.invariant-common_with_branches-loop-branch
invariant-common_with_branches-loop-branch l =
    (n : ℕ) → is_in n l.common.items ≡ (list_all (branch_covers l.drives n) (take l.branch-index l.branches) && is_in n l.initial.common.items)

abbrev pub invariant-common_with_alternatives-loop-alternative : goal.invariant-common_with_alternatives-loop-alternative
invariant-common_with_alternatives-loop-alternative l =
    (n : ℕ) → is_in n l.common.items ≡ (list_all (alternative_covers l.drives n) (take l.alternative-index l.alternatives) && is_in n l.initial.common.items)
