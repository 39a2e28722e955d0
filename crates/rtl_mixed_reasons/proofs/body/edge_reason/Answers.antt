use Rattle.std.proofs.Common.{◌≡◌, ℕ, Bool, ◌+◌, ◌<◌, true, false, get_or, [], ◌∷◌, length, Option, Some, None, drop, refl, ap, sym, ◌∙◌}
use Rattle.std.specs.Prelude.{is_some, slice_get, option_and_then}
use Rattle.std.proofs.lemmas.Option.{slice_get_read}
use Rattle.std.proofs.lemmas.Result.{IfOk-weaker}
use Rattle.rtl_model.specs.bodies.Body.{Stmts}
use Rattle.rtl_net.specs.declared.body.Statement.{Statement}
use Rattle.rtl_net.specs.declared.process.Process.{Process}
use Rattle.rtl_net.specs.Nets.{NetlistView}
use Rattle.rtl_body_facts.specs.Reading.{is_in}
use Rattle.rtl_mixed_reasons.specs.declared.ifs.EdgeIf.{EdgeIf}
use Rattle.rtl_mixed_reasons.specs.declared.reason.Reason.{Reason}
use Rattle.rtl_mixed_reasons.specs.Reasons.{first_in, first_that_fits, assigns, assigns_in, edge_branch, if_branches, first_behind, second_if, own_reason, beside_reasons, edge_reasons}
use Rattle.rtl_mixed_reasons.proofs.Searches.{first-fits, later-fits, only-fits, behind-is}
use Rattle.rtl_mixed_reasons.proofs.body.edge_reason.Goals as goal

module _ (net : NetlistView) (p : Process) (i : EdgeIf) (x : Statement) (there : i.number < length p.body.items) (at : x ≡ get_or p.body.items i.number x) where
  told : (r : Option Reason) → r ≡ first_that_fits (edge_reasons net p i x) → r ≡ option_and_then (λ y. first_that_fits (edge_reasons net p i y)) (slice_get p.body.items i.number)
  told r is = is ∙ sym (ap (option_and_then (λ y. first_that_fits (edge_reasons net p i y))) (slice_get_read p.body.items (length p.body.items) i.number x refl there at))

  abbrev second-of : Option Reason
  second-of = first_in (second_if net.wide p x i) (drop (i.number + 1) p.body.items)

  abbrev reset-of : Option Reason
  reset-of = first_behind net.wide i.before p (assigns p (edge_branch i.before (if_branches x))) (drop (i.number + 1) p.body.items)

  abbrev beside-of : Option Reason
  beside-of = first_that_fits (beside_reasons net.wide p i (assigns_in p x))

  of-second : (second : Option Reason) → second ≡ second-of → is_some second ≡ true → second ≡ option_and_then (λ y. first_that_fits (edge_reasons net p i y)) (slice_get p.body.items i.number)
  of-second second a so = told second (first-fits second second-of (reset-of ∷ own_reason net i x ∷ beside-of ∷ []) a so)

  of-reset : (second reset : Option Reason) → second ≡ second-of → is_some second ≡ false → reset ≡ reset-of → is_some reset ≡ true
      → reset ≡ option_and_then (λ y. first_that_fits (edge_reasons net p i y)) (slice_get p.body.items i.number)
  of-reset second reset a none b so =
      told reset (later-fits second second-of reset (reset-of ∷ own_reason net i x ∷ beside-of ∷ []) a none (first-fits reset reset-of (own_reason net i x ∷ beside-of ∷ []) b so))

  of-own : (second reset : Option Reason) (r : Reason) → second ≡ second-of → is_some second ≡ false → reset ≡ reset-of → is_some reset ≡ false → Some r ≡ own_reason net i x
      → Some r ≡ option_and_then (λ y. first_that_fits (edge_reasons net p i y)) (slice_get p.body.items i.number)
  of-own second reset r a none b not d =
      told (Some r) (later-fits second second-of (Some r) (reset-of ∷ own_reason net i x ∷ beside-of ∷ []) a none
      (later-fits reset reset-of (Some r) (own_reason net i x ∷ beside-of ∷ []) b not (first-fits (Some r) (own_reason net i x) (beside-of ∷ []) d refl)))

  of-beside : (second reset r : Option Reason) → second ≡ second-of → is_some second ≡ false → reset ≡ reset-of → is_some reset ≡ false → None ≡ own_reason net i x → r ≡ beside-of
      → r ≡ option_and_then (λ y. first_that_fits (edge_reasons net p i y)) (slice_get p.body.items i.number)
  of-beside second reset r a none b not d e =
      told r (later-fits second second-of r (reset-of ∷ own_reason net i x ∷ beside-of ∷ []) a none
      (later-fits reset reset-of r (own_reason net i x ∷ beside-of ∷ []) b not (later-fits None (own_reason net i x) r (beside-of ∷ []) d refl (e ∙ only-fits beside-of))))

pub returns-then-is_some : goal.returns-then-is_some
returns-then-is_some c =
    let p = c.args.process.now in
    let i = c.args.found in
    let net = c.args.net.now in
    let x = c.index-statement.result.now in
    let behind = behind-is (i.number + 1) _ p.body.items c.deref.ensures.value in
    let second : c.in_ok-second.second ≡ second-of net p i x c.requires c.index-statement.ensures =
    c.in_ok-second.ensures ∙ (λ j. first_in (second_if (c.is_wide-wide.ensures j) p x i) (behind j)) in
    of-second net p i x c.requires c.index-statement.ensures _ second (sym c.is_some.ensures ∙ c.if-is_some.true)

pub returns-then-is_some-2 : goal.returns-then-is_some-2
returns-then-is_some-2 c =
    let p = c.args.process.now in
    let i = c.args.found in
    let net = c.args.net.now in
    let x = c.index-statement.result.now in
    let behind = behind-is (i.number + 1) _ p.body.items c.deref.ensures.value in
    let second : c.in_ok-second.second ≡ second-of net p i x c.requires c.index-statement.ensures =
    c.in_ok-second.ensures ∙ (λ j. first_in (second_if (c.is_wide-wide.ensures j) p x i) (behind j)) in
    let reset : c.in_ok-reset.reset ≡ reset-of net p i x c.requires c.index-statement.ensures =
    c.in_ok-reset.ensures
    ∙ (λ j. first_behind (c.is_wide-wide.ensures j) i.before p (λ (m : ℕ). (ap (is_in m) c.deref-2.ensures.value ∙ (c.in_ok-edge.ensures.are m ∙ ap (λ (s : Stmts). assigns p s m) c.branch_of.ensures)) j) (behind j)) in
    of-reset net p i x c.requires c.index-statement.ensures _ _ second (sym c.is_some.ensures ∙ c.if-is_some.false) reset (sym c.is_some-2.ensures ∙ c.if-is_some-2.true)

pub returns-in-Some : goal.returns-in-Some
returns-in-Some c =
    let p = c.args.process.now in
    let i = c.args.found in
    let net = c.args.net.now in
    let x = c.index-statement.result.now in
    let behind = behind-is (i.number + 1) _ p.body.items c.deref.ensures.value in
    let second : c.in_ok-second.second ≡ second-of net p i x c.requires c.index-statement.ensures =
    c.in_ok-second.ensures ∙ (λ j. first_in (second_if (c.is_wide-wide.ensures j) p x i) (behind j)) in
    let reset : c.in_ok-reset.reset ≡ reset-of net p i x c.requires c.index-statement.ensures =
    c.in_ok-reset.ensures
    ∙ (λ j. first_behind (c.is_wide-wide.ensures j) i.before p (λ (m : ℕ). (ap (is_in m) c.deref-2.ensures.value ∙ (c.in_ok-edge.ensures.are m ∙ ap (λ (s : Stmts). assigns p s m) c.branch_of.ensures)) j) (behind j)) in
    of-own net p i x c.requires c.index-statement.ensures _ _ _ second (sym c.is_some.ensures ∙ c.if-is_some.false) reset (sym c.is_some-2.ensures ∙ c.if-is_some-2.false) (sym c.in-Some.is ∙ c.own_reason.ensures)

pub returns : goal.returns
returns c =
    let p = c.args.process.now in
    let i = c.args.found in
    let net = c.args.net.now in
    let x = c.index-statement.result.now in
    let behind = behind-is (i.number + 1) _ p.body.items c.deref.ensures.value in
    let second : c.in_ok-second.second ≡ second-of net p i x c.requires c.index-statement.ensures =
    c.in_ok-second.ensures ∙ (λ j. first_in (second_if (c.is_wide-wide.ensures j) p x i) (behind j)) in
    let reset : c.in_ok-reset.reset ≡ reset-of net p i x c.requires c.index-statement.ensures =
    c.in_ok-reset.ensures
    ∙ (λ j. first_behind (c.is_wide-wide.ensures j) i.before p (λ (m : ℕ). (ap (is_in m) c.deref-2.ensures.value ∙ (c.in_ok-edge.ensures.are m ∙ ap (λ (s : Stmts). assigns p s m) c.branch_of.ensures)) j) (behind j)) in
    IfOk-weaker c.beside_edge.result _ _
    (λ r e. of-beside net p i x c.requires c.index-statement.ensures _ _ r second (sym c.is_some.ensures ∙ c.if-is_some.false) reset (sym c.is_some-2.ensures ∙ c.if-is_some-2.false) (sym c.in_default.is ∙ c.own_reason.ensures)
    (e ∙ ap (λ (wide : Bool). first_that_fits (beside_reasons wide p i (assigns_in p x))) c.is_wide-wide.ensures)) c.beside_edge.ensures
