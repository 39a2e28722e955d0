use Rattle.std.proofs.Common.{◌≡◌, ◌<◌, ◌≤◌, ◌++◌, ◌+◌, ℕ, Bool, List, length, get_or, sym, ap, subst, ◌∙◌}
use Rattle.std.proofs.lemmas.List.{get_or_default}
use Rattle.std.proofs.lemmas.List.FromFn.{length-map-range_with_len}
use Rattle.rtl_model.specs.bodies.Stored.{stores_element}
use Rattle.rtl_net.specs.declared.body.Statement.{Statement}
use Rattle.rtl_net.specs.declared.process.Process.{Process}
use Rattle.rtl_net.specs.declared.process.Variable.{Variable}
use Rattle.rtl_net.specs.Bodies.{statements_of}
use Rattle.rtl_net.specs.Core.{core}
use Rattle.rtl_net.specs.Nets.{body_of}
use Rattle.rtl_check.specs.declared.fault.CheckFault.TheVariants as f
use Rattle.rtl_check.specs.declared.variables.VariableElement.{VariableElement}
use Rattle.rtl_check.specs.Listing.{AddsFaults}
use Rattle.rtl_check.specs.Places.{widths, places_from, added_if}
use Rattle.rtl_check.proofs.StoredLists.{elements_below, elements_first, element_done, elements_all, stored_here}
use Rattle.rtl_check.proofs.variables.stored_at.Goals as goal

pub loop-element-init : goal.loop-element-init
loop-element-init c = λ x at. elements_first c.args.net.now c.args.process x c.requires at c.args.faults.now.items

pub index-requires : goal.index-requires
index-requires c =
    let stored = c.in_ok-stored.stored in
    let body = statements_of c.deref-2.result.now in
    let many = stored.ok.0 ∙ (ap (λ (bs : List Bool). length bs) c.in_ok-stored.ensures ∙ length-map-range_with_len (λ k. stores_element k body) 0 c.len.result) in
    subst (λ (n : ℕ). c.loop-element.element < n) (c.len-element-end.ensures ∙ (sym c.len.ensures ∙ sym many)) c.loop-element-test.true

pub loop-element-preserved : goal.loop-element-preserved
loop-element-preserved c =
    let net = c.args.net.now in
    let p = c.args.process in
    let x = c.index-processes-process.result in
    let e = c.loop-element.element in
    let faults = c.loop-element.faults.items in
    let at = c.index-processes-process.is ∙ ap (λ (ps : List Process). get_or ps p x) c.processes-processes.ensures in
    let places = c.in_ok-places.places in
    let are : places.items ≡ places_from 0 (widths x.variables.items) = c.in_ok-places.ensures ∙ ap (λ (vs : List Variable). places_from 0 (widths vs)) c.deref.ensures.value in
    let d = c.index-in-loop-element.result.now in
    let l : e < length places.items = subst (λ (n : ℕ). e < n) (c.len-element-end.ensures ∙ places.ok.0) c.loop-element-test.true in
    let pl : d ≡ get_or (places_from 0 (widths x.variables.items)) e d = (c.index-in-loop-element).ensures ∙ ap (λ (ps : List VariableElement). get_or ps e d) are in
    let is : c.index.result.now ≡ stores_element e (body_of x) =
    stored_here (statements_of c.deref-2.result.now) c.len.result e c.index.result.now c.in_ok-stored.stored.items c.in_ok-stored.ensures
    (subst (λ (n : ℕ). e < n) (c.len-element-end.ensures ∙ sym c.len.ensures) c.loop-element-test.true) c.index.ensures
    ∙ ap (λ (xs : List Statement). stores_element e (statements_of xs)) c.deref-2.ensures.value in
    λ y at_y.
    subst (λ (z : Process). AddsFaults (core net) (elements_below (widths z.variables.items) p (e + 1)) c.args.faults.now.items c.push_stored.new.faults.items)
    (at ∙ (get_or_default net.processes p x y c.requires ∙ sym at_y))
    (element_done net p x c.requires at e d c.args.faults.now.items faults c.push_stored.new.faults.items (subst (λ (ps : List VariableElement). e < length ps) are l)
    (c.in_ok-push_stored.ensures
    ∙ (ap (λ (b : Bool). faults ++ added_if b (f.StoredVariable p d.variable d.place)) is
    ∙ ap (λ (q : VariableElement). faults ++ added_if (stores_element e (body_of x)) (f.StoredVariable p q.variable q.place)) pl))
    (c.loop-element.invariant x at))

pub returns : goal.returns
returns c =
    let net = c.args.net.now in
    let p = c.args.process in
    let x = c.index-processes-process.result in
    let e = c.loop-element.element in
    let at = c.index-processes-process.is ∙ ap (λ (ps : List Process). get_or ps p x) c.processes-processes.ensures in
    let places = c.in_ok-places.places in
    let are : places.items ≡ places_from 0 (widths x.variables.items) = c.in_ok-places.ensures ∙ ap (λ (vs : List Variable). places_from 0 (widths vs)) c.deref.ensures.value in
    let l : length places.items ≤ e = subst (λ (n : ℕ). n ≤ e) (c.len-element-end.ensures ∙ places.ok.0) c.loop-element-test.false in
    elements_all net p x c.requires at e c.args.faults.now.items c.loop-element.faults.items (subst (λ (ps : List VariableElement). length ps ≤ e) are l) (c.loop-element.invariant x at)
