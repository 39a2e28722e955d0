use Rattle.std.proofs.Common.{◌≡◌, drop}
use Rattle.std.specs.List.{list_any}
use Rattle.rtl_body_facts.specs.Looks.{branch_stores, alternative_stores}
use Rattle.rtl_body_facts.proofs.Parts.{rest_stores}
use Rattle.rtl_body_facts.proofs.stores.+stores.Given as goal

abbrev pub invariant-body_stores-loop-statement : goal.invariant-body_stores-loop-statement
invariant-body_stores-loop-statement l = rest_stores l.element (drop l.statement-index l.statements) ≡ rest_stores l.element l.statements

abbrev pub invariant-some_branch_stores-loop-branch : goal.invariant-some_branch_stores-loop-branch
invariant-some_branch_stores-loop-branch l = list_any (branch_stores l.element) (drop l.branch-index l.branches) ≡ list_any (branch_stores l.element) l.branches

abbrev pub invariant-some_alternative_stores-loop-alternative : goal.invariant-some_alternative_stores-loop-alternative
invariant-some_alternative_stores-loop-alternative l =
    list_any (alternative_stores l.element) (drop l.alternative-index l.alternatives) ≡ list_any (alternative_stores l.element) l.alternatives
