use Rattle.std.proofs.Common.{◌&&◌, ◌||◌, ℕ, Bool, List, refl, ap, sym, ◌∙◌}
use Rattle.std.proofs.lemmas.List.{at_drop_all}
use Rattle.rtl_body_facts.specs.Reading.{is_in}
use Rattle.rtl_remarks.specs.Undefined.{is_and}
use Rattle.rtl_remarks.specs.Tables.{tests_fail}
use Rattle.rtl_remarks.proofs.LeftOut.{if_ok}
use Rattle.rtl_remarks.proofs.Meanwhile.{combined_fails, fails_next}
use Rattle.rtl_remarks.proofs.failing.+failing.Goals as goal

pub failing_links-loop-link-init : goal.failing_links-loop-link-init
failing_links-loop-link-init t c = λ n. refl

pub failing_links-loop-link-preserved : goal.failing_links-loop-link-preserved
failing_links-loop-link-preserved t c =
    let l = c.loop-link in
    let rest = c.args.rest.now in
    let link = c.link-item.result in
    λ n.
    fails_next n (is_in n l.nets.items) (is_in n c.in_ok-others.others.items) (is_in n c.in_ok-nets.nets.items) _ rest l.link-index link c.loop-link-test.true c.link-item.is
    (l.invariant n) (c.in_ok-nets.ensures n ∙ ap (λ (b : Bool). b && (is_in n l.nets.items || is_in n c.deref.result.now)) c.is_and.ensures
    ∙ ap (λ (xs : List ℕ). is_and link.operator && (is_in n l.nets.items || is_in n xs)) c.deref.ensures.value)
    (c.in_ok-others.ensures n)

pub failing_links-returns : goal.failing_links-returns
failing_links-returns t c =
    let l = c.loop-link in
    λ n. sym (at_drop_all (tests_fail n (is_in n l.nets.items)) c.args.rest.now l.link-index c.loop-link-test.false) ∙ l.invariant n

pub failing-returns-in_ok-nets-in-Combined : goal.failing-returns-in_ok-nets-in-Combined
failing-returns-in_ok-nets-in-Combined t c =
    let i = c.in-Combined in
    if_ok _ _ c.failing_links.result
    (λ v h n.
    combined_fails n c.args.test.now i.first i.rest c.deref.result.now c.deref-in-Combined.result.now (is_in n c.in_ok-nets-in-Combined.nets.items) (is_in n v.items) i.is c.deref.ensures
    c.deref-in-Combined.ensures.value (c.in_ok-nets-in-Combined.ensures n) (h n))
    c.failing_links.ensures
