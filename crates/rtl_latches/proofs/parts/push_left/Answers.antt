use Rattle.std.proofs.Common.{◌==◌, ◌||◌, List, get_or, take, ap, ◌∙◌}
use Rattle.std.proofs.lemmas.List.{take_all, get_or_default}
use Rattle.rtl_body_facts.specs.Reading.{is_in}
use Rattle.rtl_body_facts.proofs.Anys.{or_none}
use Rattle.rtl_body_facts.proofs.EveryPath.{goes_on, any_more}
use Rattle.rtl_latches.specs.declared.omission.Omission.TheVariants as o
use Rattle.rtl_latches.specs.declared.parts.Left.{Left}
use Rattle.rtl_latches.specs.Parts.{has_left}
use Rattle.rtl_latches.proofs.Telling.{in-push}
use Rattle.rtl_latches.proofs.parts.push_left.Goals as goal

pub loop-one-init : goal.loop-one-init
loop-one-init c = λ n. or_none (is_in n c.args.nets.now.items)

pub loop-one-preserved : goal.loop-one-preserved
loop-one-preserved c =
    let l = c.loop-one in
    let x = get_or c.args.left.now l.one-index (record { net = 0; omission = o.NoElse 0 }) in
    λ n. goes_on _ _ (is_in n c.args.nets.now.items) (has_left n (take l.one-index c.args.left.now)) _ (x.net == n)
    (in-push n l.nets.items _ x.net c.in_ok-push.ensures.items) (l.invariant n)
    (any_more (λ (m : Left). m.net == n) c.args.left.now l.one-index x c.loop-one-test.true (get_or_default c.args.left.now l.one-index _ x c.loop-one-test.true))

pub returns : goal.returns
returns c =
    let l = c.loop-one in
    λ n. l.invariant n ∙ ap (λ (ls : List Left). is_in n c.args.nets.now.items || has_left n ls) (take_all l.one-index c.args.left.now c.loop-one-test.false)
