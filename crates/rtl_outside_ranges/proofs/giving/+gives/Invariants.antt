use Rattle.std.proofs.Common.{◌≡◌, ◌||◌, ℕ, take, drop}
use Rattle.std.specs.List.{list_any}
use Rattle.std.specs.List.Sorted.{IsStrictlyIncreasing}
use Rattle.rtl_model.specs.bodies.Body.{Branches}
use Rattle.rtl_net.specs.Bodies.{branches_of}
use Rattle.rtl_body_facts.specs.Reading.{is_in}
use Rattle.rtl_outside_ranges.specs.Outside.{branches_give}
use Rattle.rtl_outside_ranges.specs.Tables.{statement_gives, alternative_gives}
use Rattle.rtl_outside_ranges.proofs.giving.+gives.Given as goal

abbrev pub invariant-push_body-loop-statement : goal.invariant-push_body-loop-statement
invariant-push_body-loop-statement l =
    (n : ℕ) → is_in n l.nets.items ≡ (is_in n l.initial.nets.items || list_any (statement_gives l.drives (λ m. is_in m l.round.logic.now) (λ m. is_in m l.round.looked.now) n) (take l.statement-index l.statements))

abbrev pub invariant-push_branches-loop-branch : goal.invariant-push_branches-loop-branch
invariant-push_branches-loop-branch l =
    IsStrictlyIncreasing l.found.items × ((last : Branches) (n : ℕ) → (is_in n l.nets.items || branches_give l.drives (λ m. is_in m l.round.logic.now) (λ m. is_in m l.found.items) n (branches_of last (drop l.branch-index l.branches)))
    ≡ (is_in n l.initial.nets.items || branches_give l.drives (λ m. is_in m l.round.logic.now) (λ m. is_in m l.fn.round.looked.now) n (branches_of last l.branches)))

abbrev pub invariant-push_alternatives-loop-alternative : goal.invariant-push_alternatives-loop-alternative
invariant-push_alternatives-loop-alternative l =
    (n : ℕ) → is_in n l.nets.items ≡ (is_in n l.initial.nets.items || list_any (alternative_gives l.drives (λ m. is_in m l.round.logic.now) (λ m. is_in m l.round.looked.now) n) (take l.alternative-index l.alternatives))
