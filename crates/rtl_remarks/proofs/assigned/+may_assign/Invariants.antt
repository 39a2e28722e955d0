use Rattle.std.proofs.Common.{◌≡◌, ◌||◌, ℕ, take}
use Rattle.std.specs.List.{list_any}
use Rattle.rtl_body_facts.specs.Reading.{is_in}
use Rattle.rtl_remarks.specs.Tables.{statement_may, branch_may, alternative_may}
use Rattle.rtl_remarks.proofs.assigned.+may_assign.Given as goal

abbrev pub invariant-push_body-loop-statement : goal.invariant-push_body-loop-statement
invariant-push_body-loop-statement l =
    (n : ℕ) → is_in n l.nets.items ≡ (is_in n l.initial.nets.items || list_any (statement_may l.drives l.kept n) (take l.statement-index l.statements))

abbrev pub invariant-push_branches-loop-branch : goal.invariant-push_branches-loop-branch
invariant-push_branches-loop-branch l =
    (n : ℕ) → is_in n l.nets.items ≡ (is_in n l.initial.nets.items || list_any (branch_may l.drives l.kept n) (take l.branch-index l.branches))

abbrev pub invariant-push_alternatives-loop-alternative : goal.invariant-push_alternatives-loop-alternative
invariant-push_alternatives-loop-alternative l =
    (n : ℕ) → is_in n l.nets.items ≡ (is_in n l.initial.nets.items || list_any (alternative_may l.drives l.kept n) (take l.alternative-index l.alternatives))
