use Rattle.std.proofs.Common.{◌&&◌, not, ℕ, Bool, List, get_or, ap, ◌∙◌}
use Rattle.std.proofs.lemmas.List.{take_all, get_or_default}
use Rattle.rtl_body_facts.specs.Reading.{is_in}
use Rattle.rtl_latches.specs.declared.omission.Omission.TheVariants as o
use Rattle.rtl_latches.specs.declared.parts.Left.{Left}
use Rattle.rtl_latches.specs.Parts.{told, both, only_left, where_so, left_at}
use Rattle.rtl_latches.proofs.Telling.{inner-none, inner-more, left-more}
use Rattle.rtl_latches.proofs.choosing.push_inner.Goals as goal

pub loop-left-init : goal.loop-left-init
loop-left-init c = λ n. inner-none (told n c.args.part.now) (is_in n c.args.some.now && not (is_in n c.args.inner.now.assigned.items))

pub loop-left-preserved : goal.loop-left-preserved
loop-left-preserved c =
    let l = c.loop-left in
    let so : ℕ → Bool = λ m. is_in m c.args.some.now && not (is_in m c.args.inner.now.assigned.items) in
    let ls = c.args.lefts.now in
    let x = get_or ls l.left-index (record { net = 0; omission = o.NoElse 0 }) in
    λ n. inner-more n x _ _ _ so _ _ _ c.is_open.ensures (c.in_ok-push.ensures n) (l.invariant n)
    (left-more n ls l.left-index x c.loop-left-test.true (get_or_default ls l.left-index _ x c.loop-left-test.true))

pub returns : goal.returns
returns c =
    let l = c.loop-left in
    λ n. l.invariant n
    ∙ ap (λ (ls : List Left). both (told n c.args.part.now) (only_left (where_so (is_in n c.args.some.now && not (is_in n c.args.inner.now.assigned.items)) (left_at n ls))))
    (take_all l.left-index c.args.lefts.now c.loop-left-test.false)
