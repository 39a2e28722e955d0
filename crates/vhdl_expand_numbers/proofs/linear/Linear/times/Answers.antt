use Rattle.std.proofs.Common.{◌≡◌, ◌+◌, ◌<◌, ◌≤◌, ◌∷◌, [], length, map, take, drop, set, sym, ap, ◌∙◌, rules, arith, w32, of_z, to_z, FitsSigned, ◌*ℤ◌}
use Rattle.std.proofs.lemmas.Int.{to_z-of_z}
use Rattle.std.proofs.lemmas.List.{length-set, take_all, take_more_set, drop-set-lt, get_or_read, map-append}
use Rattle.rtl_net.specs.Bodies.{expr_view}
use Rattle.vhdl_expand_rules.specs.Elab.{each, fault_told}
use Rattle.vhdl_expand_rules.specs.Integers.{checked_integer}
use Rattle.vhdl_expand_rules.specs.Linear as definition
use Rattle.vhdl_expand_rules.specs.Linear.{with_factor}
use Rattle.vhdl_expand_rules.proofs.Items.{none_left}
use Rattle.vhdl_expand_rules.proofs.Steps.{given}
use Rattle.vhdl_expand_operands.proofs.Several.{behind, each_goes, each_stops, each_ends}
use Rattle.vhdl_expand_operands.proofs.Passing.{passed_on}
use Rattle.vhdl_expand_numbers.specs.declared.linear.Term.{Term}
use Rattle.vhdl_expand_numbers.specs.Views.{term_view, linear_view}
use Rattle.vhdl_expand_numbers.proofs.Summing.{times_made, times_refused, factor_made, factor_refused}
use Rattle.vhdl_expand_numbers.proofs.linear.Linear.times.Goals as goal

pub returns-in_err-product : goal.returns-in_err-product
returns-in_err-product c =
    let at = c.args.at in
    let n = to_z w32 (of_z w32 c.args.factor) in
    let items = c.loop-place.terms.items in
    let i = c.loop-place.place in
    let t = c.index.result.now in
    let fault = c.in_err-product.field-0.0 in
    let below : i < length items = omega (arith, c.loop-place-test.true, c.loop-place.invariant.1) in
    let f : FitsSigned w32 c.args.factor = search rules in
    let g : FitsSigned w32 c.args.self.rest = search rules in
    let h : FitsSigned w32 t.factor = search rules in
    let p = to_z-of_z w32 c.args.factor f in
    let q = to_z-of_z w32 c.args.self.rest g in
    let r = to_z-of_z w32 t.factor h in
    passed_on linear_view _ fault _ c.from_residual-in_err-product.result c.from_residual-in_err-product.ensures.1 (λ e k. k)
    (λ m. (λ k. definition.times at (sym p k) (linear_view c.args.self)) ∙ times_refused at n (linear_view c.args.self) c.in_ok-rest.rest ((λ k. checked_integer at (n *ℤ sym q k)) ∙ c.in_ok-rest.ensures) (fault_told fault)
    (each_stops (λ (u : definition.Term). with_factor at u (n *ℤ u.factor)) term_view _ (map term_view (take i items)) items i t below c.index.ensures c.loop-place.invariant.0
    (factor_refused at t (n *ℤ t.factor) (fault_told fault) ((λ k. checked_integer at (n *ℤ sym r k)) ∙ c.in_err-product.ensures))))

pub loop-place-preserved : goal.loop-place-preserved
loop-place-preserved c =
    let at = c.args.at in
    let n = to_z w32 (of_z w32 c.args.factor) in
    let items = c.loop-place.terms.items in
    let i = c.loop-place.place in
    let t = c.index.result.now in
    let m = c.in_ok-product.product in
    let below : i < length items = omega (arith, c.loop-place-test.true, c.loop-place.invariant.1) in
    let h : FitsSigned w32 t.factor = search rules in
    let j : FitsSigned w32 m = search rules in
    let r = to_z-of_z w32 t.factor h in
    let w = to_z-of_z w32 m j in
    let same : t ≡ c.index_mut.result.now = get_or_read items i t below c.index.ensures t ∙ sym (get_or_read items i c.index_mut.result.now below c.index_mut.ensures.value t) in
    let new : Term = record { number = c.index_mut.result.now.number; factor = to_z w32 (of_z w32 m) } in
    let made = factor_made at t (n *ℤ t.factor) m ((λ k. checked_integer at (n *ℤ sym r k)) ∙ c.in_ok-product.ensures) in (
      each_goes (λ (u : definition.Term). with_factor at u (n *ℤ u.factor)) term_view _ (map term_view (take i items)) (map term_view (take (i + 1) (set items i new))) items i t (term_view new) below c.index.ensures c.loop-place.invariant.0
          (made ∙ (λ k. given (record { number = expr_view (same k).number; factor = sym w k })))
          (ap (map term_view) (take_more_set items i new below) ∙ map-append term_view (take i items) (new ∷ []))
          ∙ ap (λ us. behind (map term_view (take (i + 1) (set items i new))) (each (λ (u : definition.Term). with_factor at u (n *ℤ u.factor)) (map term_view us)))
          (sym (drop-set-lt (i + 1) items i new (omega arith))),
      length-set items i new ∙ c.loop-place.invariant.1,
    )

pub returns : goal.returns
returns c =
    let at = c.args.at in
    let n = to_z w32 (of_z w32 c.args.factor) in
    let items = c.loop-place.terms.items in
    let i = c.loop-place.place in
    let past : length items ≤ i = omega (arith, c.loop-place-test.false, c.loop-place.invariant.1) in
    let f : FitsSigned w32 c.args.factor = search rules in
    let g : FitsSigned w32 c.args.self.rest = search rules in
    let j : FitsSigned w32 c.in_ok-rest.rest = search rules in
    let p = to_z-of_z w32 c.args.factor f in
    let q = to_z-of_z w32 c.args.self.rest g in
    let w = to_z-of_z w32 c.in_ok-rest.rest j in
    (λ k. definition.times at (sym p k) (linear_view c.args.self)) ∙ times_made at n (linear_view c.args.self) c.in_ok-rest.rest ((λ k. checked_integer at (n *ℤ sym q k)) ∙ c.in_ok-rest.ensures) (map term_view (take i items))
    (each_ends (λ (u : definition.Term). with_factor at u (n *ℤ u.factor)) term_view _ (map term_view (take i items)) (drop i items) (none_left items i past) c.loop-place.invariant.0)
    ∙ (λ k. given (record { terms = map term_view (take_all i items past k); rest = sym w k }))
