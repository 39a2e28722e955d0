use Rattle.std.proofs.Common.{map, set, sym, ap, ◌∙◌, rules, w32, FitsSigned}
use Rattle.std.specs.Prelude.{◌+ℤ◌}
use Rattle.std.specs.List.{position}
use Rattle.std.proofs.lemmas.Int.{to_z-of_z}
use Rattle.std.proofs.lemmas.List.{get_or_read, map-set}
use Rattle.rtl_net.specs.Bodies.{expr_view}
use Rattle.vhdl_expand_rules.specs.Elab.{fault_told}
use Rattle.vhdl_expand_rules.specs.Integers.{checked_integer}
use Rattle.vhdl_expand_rules.specs.SameExpr.{same_expr}
use Rattle.vhdl_expand_rules.proofs.Steps.{given}
use Rattle.vhdl_expand_operands.proofs.Passing.{passed_on}
use Rattle.vhdl_expand_numbers.specs.declared.linear.Term.{Term}
use Rattle.vhdl_expand_numbers.specs.Views.{term_view}
use Rattle.vhdl_expand_numbers.proofs.Summing.{place_below, term_found, term_refused, term_added}
use Rattle.vhdl_expand_numbers.proofs.linear.add_term.Goals as goal

pub returns-in_err-factor-in-Some : goal.returns-in_err-factor-in-Some
returns-in_err-factor-in-Some c =
    let at = c.args.at in
    let items = c.args.terms.now.items in
    let term = c.args.term in
    let k = c.in-Some.place in
    let t = c.index.result.now in
    let fault = c.in_err-factor-in-Some.field-0.0 in
    let found = ap (position (λ (s : Term). same_expr (expr_view s.number) (expr_view term.number))) (sym c.deref.ensures.value) ∙ sym c.place_of.ensures ∙ c.in-Some.is in
    let same = sym (get_or_read items k t (place_below at term items k found) c.index.ensures term) in
    let f : FitsSigned w32 t.factor = search rules in
    let g : FitsSigned w32 term.factor = search rules in
    let p = to_z-of_z w32 t.factor f in
    let q = to_z-of_z w32 term.factor g in
    passed_on _ _ fault _ c.from_residual.result c.from_residual.ensures.1 (λ e h. h)
    (λ m. term_refused at term items k (fault_told fault) found
    ((λ i. checked_integer at ((same i).factor +ℤ term.factor)) ∙ (λ i. checked_integer at (sym p i +ℤ sym q i)) ∙ c.in_err-factor-in-Some.ensures))

pub returns-in_ok-factor-in-Some : goal.returns-in_ok-factor-in-Some
returns-in_ok-factor-in-Some c =
    let at = c.args.at in
    let items = c.args.terms.now.items in
    let term = c.args.term in
    let k = c.in-Some.place in
    let t = c.index.result.now in
    let m = c.in_ok-factor-in-Some.factor in
    let found = ap (position (λ (s : Term). same_expr (expr_view s.number) (expr_view term.number))) (sym c.deref.ensures.value) ∙ sym c.place_of.ensures ∙ c.in-Some.is in
    let below = place_below at term items k found in
    let same = sym (get_or_read items k t below c.index.ensures term) in
    let too = sym (get_or_read items k c.index_mut.result.now below c.index_mut.ensures.value term) in
    let f : FitsSigned w32 t.factor = search rules in
    let g : FitsSigned w32 term.factor = search rules in
    let j : FitsSigned w32 m = search rules in
    let p = to_z-of_z w32 t.factor f in
    let q = to_z-of_z w32 term.factor g in
    let w = to_z-of_z w32 m j in
    term_found at term items k m found
    ((λ i. checked_integer at ((same i).factor +ℤ term.factor)) ∙ (λ i. checked_integer at (sym p i +ℤ sym q i)) ∙ c.in_ok-factor-in-Some.ensures)
    ∙ (λ i. given (set (map term_view items) k (record { number = expr_view (too i).number; factor = sym w i })))
    ∙ ap given (sym (map-set term_view items k _))

pub returns-in_ok-push-in-None : goal.returns-in_ok-push-in-None
returns-in_ok-push-in-None c =
    let term = c.args.term in
    let none = ap (position (λ (s : Term). same_expr (expr_view s.number) (expr_view term.number))) (sym c.deref.ensures.value) ∙ sym c.place_of.ensures ∙ c.in-None.is in
    term_added c.args.at term c.args.terms.now.items c.push.new.self.items none c.in_ok-push-in-None.ensures.items
