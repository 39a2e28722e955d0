use Rattle.std.proofs.Common.{◌≡◌, drop}
use Rattle.std.specs.Prelude.{option_map}
use Rattle.rtl_net.specs.Bodies.{branches_of, otherwise_of}
use Rattle.rtl_body_facts.specs.Reading.{some}
use Rattle.rtl_mixed_reasons.specs.Reasons.{inner_events}
use Rattle.rtl_mixed_reasons.proofs.body.has_inner.Given as goal

abbrev pub invariant-loop-branch : goal.invariant-loop-branch
invariant-loop-branch l =
    some (inner_events (branches_of (otherwise_of (option_map (λ v. v.items) l.otherwise)) (drop l.branch-index l.branches)))
    ≡ some (inner_events (branches_of (otherwise_of (option_map (λ v. v.items) l.otherwise)) l.branches))
