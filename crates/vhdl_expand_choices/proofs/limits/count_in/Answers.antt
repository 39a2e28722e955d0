use Rattle.std.proofs.Common.{◌≡◌, ℕ, ◌≤◌, sym, ap, ◌∙◌, subst, rules, to_z, of_z, w32}
use Rattle.std.specs.Prelude.{ℤ, FitsSigned}
use Rattle.vhdl_expand_rules.specs.Computed.{held_in}
use Rattle.vhdl_expand_rules.proofs.Modulus.{same_word}
use Rattle.vhdl_expand_numbers.specs.Views.{limits_view}
use Rattle.vhdl_expand_choices.proofs.Turning.{count_of, extent_few}
use Rattle.vhdl_expand_choices.proofs.limits.count_in.Goals as goal

pub returns-then-overlap-clause-given : goal.returns-then-overlap-clause-given
returns-then-overlap-clause-given c =
    let first : to_z w32 (of_z w32 c.held.result) ≡ held_in (limits_view c.args.all) (limits_view c.args.numbers).least
    = same_word c.held.result (search rules) ∙ c.held.ensures ∙ ap (held_in (limits_view c.args.all)) (same_word c.args.numbers.least (search rules)) in
    let last : to_z w32 (of_z w32 c.held-then-overlap.result) ≡ held_in (limits_view c.args.all) (limits_view c.args.numbers).greatest
    = same_word c.held-then-overlap.result (search rules) ∙ c.held-then-overlap.ensures ∙ ap (held_in (limits_view c.args.all)) (same_word c.args.numbers.greatest (search rules)) in
    c.extent.ensures ∙ count_of (limits_view c.args.all) (limits_view c.args.numbers) _ _ (sym c.overlap.ensures ∙ c.if-overlap.true) first last

pub returns-then-overlap-clause-few : goal.returns-then-overlap-clause-few
returns-then-overlap-clause-few c =
    let low : FitsSigned w32 c.held.result = search rules in
    let high : FitsSigned w32 c.held-then-overlap.result = search rules in
    subst (λ (n : ℕ). n ≤ 4294967296) (sym c.extent.ensures)
    (extent_few _ _ (subst (λ (z : ℤ). FitsSigned w32 z) (sym (same_word c.held.result low)) low) (subst (λ (z : ℤ). FitsSigned w32 z) (sym (same_word c.held-then-overlap.result high)) high))
