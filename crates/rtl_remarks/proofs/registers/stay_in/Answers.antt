use Rattle.std.proofs.Common.{ℕ, true, false, not, List, ap, ◌∙◌}
use Rattle.std.specs.List.{filter}
use Rattle.rtl_net.specs.Bodies.{statements_of}
use Rattle.rtl_net.specs.declared.process.Driver.{Driver}
use Rattle.rtl_body_facts.specs.Reading.{is_in}
use Rattle.rtl_remarks.specs.Remarks.{starts_undefined}
use Rattle.rtl_remarks.specs.Undefined.{may_assign}
use Rattle.rtl_remarks.proofs.LeftOut.{if_ok, stay_are}
use Rattle.rtl_remarks.proofs.registers.stay_in.Goals as goal

pub returns : goal.returns
returns c =
    let p = c.args.process.now in
    let s = statements_of c.args.statements.now in
    if_ok _ _ c.chosen-2.result
    (λ v h.
    stay_are p s v.items c.in_ok-never_freed.never_freed.items c.in_ok-kept.kept.items c.in_ok-freed.freed.items c.in_ok-starting.starting.items
    (h ∙ ap (λ (xs : List ℕ). filter (λ n. is_in n xs) c.deref-6.result.now) c.deref-7.ensures.value ∙ ap (filter (λ n. is_in n c.in_ok-starting.starting.items)) c.deref-6.ensures.value)
    (c.in_ok-never_freed.ensures ∙ ap (λ (xs : List ℕ). filter (λ n. not (is_in n xs)) c.deref-3.result.now) c.deref-4.ensures.value
    ∙ ap (filter (λ n. not (is_in n c.in_ok-freed.freed.items))) c.deref-3.ensures.value)
    c.in_ok-kept.ensures.rise
    (λ n. c.in_ok-kept.ensures.are n ∙ ap (λ (ds : List Driver). may_assign ds true n s) c.deref.ensures.value)
    (λ n. c.in_ok-freed.ensures.are n ∙ ap (λ (ds : List Driver). may_assign ds false n s) c.deref-2.ensures.value)
    (λ n. c.in_ok-starting.ensures.are n ∙ ap (λ (ds : List Driver). starts_undefined ds n) c.deref-5.ensures.value))
    c.chosen-2.ensures
