use Rattle.std.proofs.Common.{◌<◌, ◌||◌, ℕ, Bool, [], ◌∷◌, take, length, get_or, sym, ap, subst, ◌∙◌}
use Rattle.std.specs.List.{list_any}
use Rattle.std.proofs.lemmas.List.{take_all, take_more}
use Rattle.std.proofs.lemmas.List.Folds.{list_any-append}
use Rattle.rtl_model.specs.nets.FlatNetlist.{flat_sources}
use Rattle.rtl_net.specs.Nets.{flat}
use Rattle.rtl_body_facts.specs.Reading.{is_in}
use Rattle.rtl_body_facts.proofs.Anys.{or_none}
use Rattle.rtl_check.specs.Feeders.{feeds_by}
use Rattle.rtl_process_kinds.proofs.Processes.{many_processes, within}
use Rattle.rtl_check.proofs.Rows.{row_some}
use Rattle.std.proofs.lemmas.Result.{IfOk-from_err}
use Rattle.rtl_check.proofs.graph.row_of.Goals as goal

pub wakes_of-wakes-requires : goal.wakes_of-wakes-requires
wakes_of-wakes-requires c = within c.requires.there c.requires.kinds.each_process (many_processes c.args.net.now)

pub push_feeders-requires : goal.push_feeders-requires
push_feeders-requires c = c.wakes_of-wakes.ensures.there c.loop-wake.wake-index 0 c.loop-wake-test.true

pub returns : goal.returns
returns c =
    let net = c.args.net.now in
    let ks = c.args.kinds.now in
    let wakes = c.wakes_of-wakes.ensures in
    let all = take_all c.loop-wake.wake-index c.wakes_of-wakes.result.now c.loop-wake-test.false in
    row_some net ks c.requires.kinds (c.nets_meet_the_laws.ensures net c.is_elaborated.ensures).elaborated.wiring c.args.process _ (sym wakes.value)
    (λ n (k, l, e). subst (λ (j : ℕ). j < length net.types) e (wakes.there k n l)) (sym c.is_combinational.ensures ∙ c.if-not-is_combinational.false) c.loop-wake.feeders
    (λ p. c.loop-wake.invariant p ∙ ap (list_any (λ n. list_any (feeds_by ks p) (flat_sources (flat net) n))) all)

pub loop-wake-init : goal.loop-wake-init
loop-wake-init c = λ p. ap (is_in p) c.new-feeders.ensures.items

pub loop-wake-preserved : goal.loop-wake-preserved
loop-wake-preserved c = λ p.
    let l = c.loop-wake in
    let wakes = c.wakes_of-wakes.result.now in
    let x = get_or wakes l.wake-index 0 in
    let f : ℕ → Bool = λ n. list_any (feeds_by c.args.kinds.now p) (flat_sources (flat c.args.net.now) n) in
    c.in_ok-push_feeders.ensures p
    ∙ (ap (λ (b : Bool). b || f x) (l.invariant p)
    ∙ sym (ap (list_any f) (take_more wakes l.wake-index 0 c.loop-wake-test.true)
    ∙ (list_any-append f (take l.wake-index wakes) (x ∷ []) ∙ ap (λ (b : Bool). list_any f (take l.wake-index wakes) || b) (sym (or_none (f x))))))

pub returns-in_err-push_feeders : goal.returns-in_err-push_feeders
returns-in_err-push_feeders c = IfOk-from_err c.from_residual.result _ c.from_residual.ensures.0
