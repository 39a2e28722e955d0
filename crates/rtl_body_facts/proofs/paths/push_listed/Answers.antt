use Rattle.std.proofs.Common.{◌||◌, List, get_or, ap, ◌∙◌, ℕ}
use Rattle.std.specs.List.{list_any}
use Rattle.std.proofs.lemmas.List.{take_all, get_or_default}
use Rattle.rtl_body_facts.specs.Reading.{is_in}
use Rattle.rtl_body_facts.specs.Paths.{covers}
use Rattle.rtl_body_facts.proofs.Anys.{or_none}
use Rattle.rtl_body_facts.proofs.EveryPath.{goes_on, any_more}
use Rattle.rtl_body_facts.proofs.paths.push_listed.Goals as goal

pub loop-place-init : goal.loop-place-init
loop-place-init c = λ n. or_none (is_in n c.args.nets.now.items)

pub loop-place-preserved : goal.loop-place-preserved
loop-place-preserved c =
    let l = c.loop-place in
    let xs = c.args.places.now in
    let x = get_or xs l.place-index 0 in
    λ n. goes_on _ _ _ _ _ _ (c.in_ok-push_target.ensures n) (l.invariant n)
    (any_more (covers c.args.drives.now n) xs l.place-index x c.loop-place-test.true (get_or_default xs l.place-index 0 x c.loop-place-test.true))

pub returns : goal.returns
returns c =
    let l = c.loop-place in
    λ n. l.invariant n
    ∙ ap (λ (xs : List ℕ). is_in n c.args.nets.now.items || list_any (covers c.args.drives.now n) xs) (take_all l.place-index c.args.places.now c.loop-place-test.false)
