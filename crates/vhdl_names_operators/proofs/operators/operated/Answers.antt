use Rattle.std.proofs.Common.{◌≡◌, Some, ap, sym, ◌∙◌}
use Rattle.vhdl_names_trees.specs.views.Expressions.{typed_view}
use Rattle.vhdl_names_rules.proofs.Along.{gives_along}
use Rattle.vhdl_names_rules.proofs.Passing.{passed_on, told_by}
use Rattle.vhdl_names_rules.proofs.Telling.{told_left, told_right, told_same, told_on}
use Rattle.vhdl_names_operators.specs.Resolving.{kind_of, resolved, operand_breaks}
use Rattle.vhdl_names_operators.proofs.Arranging.{gives_none}
use Rattle.vhdl_names_operators.proofs.Resolving.{left_kept, right_kept, resolved_kept, both_resolved, same_lacking}
use Rattle.vhdl_names_operators.proofs.operators.operated.Goals as goal

pub returns-in_err-first-clause-given : goal.returns-in_err-first-clause-given
returns-in_err-first-clause-given c =
    let f = c.in_err-first.field-0.0 in
    let x = typed_view c.args.left in
    let y = typed_view c.args.right in
    let told = told_same _ _ f (ap (λ k. operand_breaks c.args.operator k x) c.kind_of-other.ensures) c.in_err-first.ensures.told in
    passed_on typed_view _ f _ c.from_residual.result c.from_residual.ensures.1 (λ e p. p)
    (λ n. gives_none (operand_breaks c.args.operator (kind_of y) x) f _ (left_kept c.args.language c.args.numbers c.args.at c.args.operator x y) told n)

pub returns-in_err-first-clause-told : goal.returns-in_err-first-clause-told
returns-in_err-first-clause-told c =
    let f = c.in_err-first.field-0.0 in
    told_by _ f _ c.from_residual.result c.from_residual.ensures.1 (λ e p. p)
    (told_left _ _ f (told_same _ _ f (ap (λ k. operand_breaks c.args.operator k (typed_view c.args.left)) c.kind_of-other.ensures) c.in_err-first.ensures.told))

pub returns-in_err-second-clause-given : goal.returns-in_err-second-clause-given
returns-in_err-second-clause-given c =
    let f = c.in_err-second.field-0.0 in
    let x = typed_view c.args.left in
    let y = typed_view c.args.right in
    let told = told_same _ _ f (ap (λ k. operand_breaks c.args.operator k y) c.kind_of-own.ensures) c.in_err-second.ensures.told in
    passed_on typed_view _ f _ c.from_residual-in_err-second.result c.from_residual-in_err-second.ensures.1 (λ e p. p)
    (λ n. gives_none (operand_breaks c.args.operator (kind_of x) y) f _ (right_kept c.args.language c.args.numbers c.args.at c.args.operator x y) told n)

pub returns-in_err-second-clause-told : goal.returns-in_err-second-clause-told
returns-in_err-second-clause-told c =
    let f = c.in_err-second.field-0.0 in
    let x = typed_view c.args.left in
    let y = typed_view c.args.right in
    let first : resolved c.args.operator (kind_of y) x ≡ Some (typed_view c.in_ok-first.first) = ap (λ k. resolved c.args.operator k x) (sym c.kind_of-other.ensures) ∙ c.in_ok-first.ensures.given in
    told_by _ f _ c.from_residual-in_err-second.result c.from_residual-in_err-second.ensures.1 (λ e p. p)
    (told_right _ _ f (resolved_kept c.args.operator (kind_of y) x _ first)
    (told_left _ _ f (told_same _ _ f (ap (λ k. operand_breaks c.args.operator k y) c.kind_of-own.ensures) c.in_err-second.ensures.told)))

pub returns : goal.returns
returns c =
    let q = c.args.operator in
    let x = typed_view c.args.left in
    let y = typed_view c.args.right in
    let first : resolved c.args.operator (kind_of y) x ≡ Some (typed_view c.in_ok-first.first) = ap (λ k. resolved c.args.operator k x) (sym c.kind_of-other.ensures) ∙ c.in_ok-first.ensures.given in
    let second : resolved c.args.operator (kind_of x) y ≡ Some (typed_view c.in_ok-second.second) = ap (λ k. resolved c.args.operator k y) (sym c.kind_of-own.ensures) ∙ c.in_ok-second.ensures.given in
    let same = both_resolved c.args.language c.args.numbers c.args.at q x y (typed_view c.in_ok-first.first) (typed_view c.in_ok-second.second) first second in
    record {
      given = gives_along typed_view _ _ _ same.result c.applied.ensures.given;
      told =
          told_on _ _ c.applied.result
          (λ f t. told_right _ _ f (resolved_kept q (kind_of y) x _ first) (told_right _ _ f (resolved_kept q (kind_of x) y _ second)
          (told_same _ _ f (same_lacking c.args.language c.args.numbers c.args.at q x y (typed_view c.in_ok-first.first) (typed_view c.in_ok-second.second) same) t)))
          c.applied.ensures.told;
    }
