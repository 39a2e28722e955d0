use Rattle.std.proofs.Common.{◌≡◌, ◌-◌, ap, sym, ◌∙◌, [], ◌∷◌, ℕ, Bool, arith}
use Rattle.std.specs.List.{list_all, range_with_len}
use Rattle.vhdl_names_rules.specs.Visibility.{is_among}
use Rattle.vhdl_names_units.specs.Once.{names_view}
use Rattle.vhdl_names_statements.proofs.steps.Cases.{next_true, next_false}
use Rattle.vhdl_names_statements.proofs.choices.has_positions.Goals as goal

pub returns-then-not-has_position : goal.returns-then-not-has_position
returns-then-not-has_position c =
    let p : ℕ → Bool = λ p. is_among (9 ∷ p ∷ []) (names_view c.args.keys.now) in
    sym (c.loop-position.invariant ∙ next_false p c.loop-position.position c.args.count c.loop-position-test.true (sym c.has_position.ensures ∙ c.if-not-has_position.true))

pub loop-position-preserved : goal.loop-position-preserved
loop-position-preserved c =
    let p : ℕ → Bool = λ p. is_among (9 ∷ p ∷ []) (names_view c.args.keys.now) in
    c.loop-position.invariant ∙ next_true p c.loop-position.position c.args.count c.loop-position-test.true (sym c.has_position.ensures ∙ c.if-not-has_position.false)

pub returns : goal.returns
returns c =
    let p : ℕ → Bool = λ p. is_among (9 ∷ p ∷ []) (names_view c.args.keys.now) in
    let e : c.args.count - c.loop-position.position ≡ 0 = omega arith in
    sym (c.loop-position.invariant ∙ ap (λ n. list_all p (range_with_len c.loop-position.position n)) e)
