use Rattle.std.proofs.Common.{◌≡◌, length, map, take, drop, ◌*ℤ◌}
use Rattle.vhdl_expand_rules.specs.Elab.{each}
use Rattle.vhdl_expand_rules.specs.Linear.{Term, with_factor}
use Rattle.vhdl_expand_operands.proofs.Several.{behind}
use Rattle.vhdl_expand_numbers.specs.Views.{term_view}
use Rattle.vhdl_expand_numbers.proofs.linear.Linear.times.Given as goal

-- those so far, and those that are left
abbrev pub invariant-loop-place : goal.invariant-loop-place
invariant-loop-place l =
    (each (λ (t : Term). with_factor l.fn.at t (l.fn.factor *ℤ t.factor)) (map term_view l.fn.self.terms.items)
    ≡ behind (map term_view (take l.place l.terms.items)) (each (λ (t : Term). with_factor l.fn.at t (l.fn.factor *ℤ t.factor)) (map term_view (drop l.place l.terms.items))))
    × (length l.terms.items ≡ l.place-end)
