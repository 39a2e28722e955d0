use Rattle.std.proofs.Common.{◌≡◌, ◌<◌, List, length, get_or, true, false, sym, ap, subst, ◌∙◌}
use Rattle.std.proofs.lemmas.List.{get_or_default}
use Rattle.rtl_model.specs.bodies.Assigns.{must_assign}
use Rattle.rtl_net.specs.declared.body.Statement.{Statement}
use Rattle.rtl_net.specs.declared.process.Driver.{Driver}
use Rattle.rtl_net.specs.Bodies.{statements_of}
use Rattle.rtl_net.specs.Nets.{body_of}
use Rattle.rtl_body_facts.specs.Paths.{to_net}
use Rattle.rtl_recheck.proofs.Listed.{is_driven}
use Rattle.rtl_recheck.proofs.rules.has_no_latch.Goals as goal

pub returns-then-not-covers : goal.returns-then-not-covers
returns-then-not-covers c =
    let x = c.args.process.now in
    let i = c.loop-driver.driver-index in
    let none : Driver = record { net = 0; start = 0 } in
    let d = get_or c.deref-driver-items.result.now i none in
    let items = c.deref-driver-items.ensures.value in
    let l : i < length x.drives.items = subst (λ (ds : List Driver). i < length ds) items c.loop-driver-test.true in
    let at : d ≡ get_or x.drives.items i d = ap (λ (ds : List Driver). get_or ds i none) items ∙ sym (get_or_default x.drives.items i d none l) in
    let is : c.covers.result ≡ must_assign (to_net x.drives.items d.net) (body_of x) =
    c.covers.ensures ∙ (ap (λ (ds : List Driver). must_assign (to_net ds d.net) (statements_of c.deref.result.now)) c.deref-in-loop-driver.ensures.value
    ∙ ap (λ (xs : List Statement). must_assign (to_net x.drives.items d.net) (statements_of xs)) c.deref.ensures.value) in
    (λ e. absurd cc, λ A. let h : true ≡ false = sym (A d.net (is_driven x.drives.items i d l at)) ∙ (sym is ∙ c.if-not-covers.true) in cc)
