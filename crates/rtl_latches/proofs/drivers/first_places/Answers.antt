use Rattle.std.proofs.Common.{get_or, nat_eq, arith}
use Rattle.std.specs.HashMap.{get}
use Rattle.std.proofs.lemmas.Grind.{common_steps}
use Rattle.std.proofs.lemmas.List.{get_or_default}
use Rattle.rtl_latches.specs.declared.omission.Omission.TheVariants as o
use Rattle.rtl_latches.proofs.Telling.{left-more, placed}
use Rattle.rtl_latches.proofs.drivers.first_places.Goals as goal

pub loop-one-preserved : goal.loop-one-preserved
loop-one-preserved c =
    let l = c.loop-one in
    let ls = c.args.left.now in
    let x = get_or ls l.one-index (record { net = 0; omission = o.NoElse 0 }) in
    λ n. placed n x (get nat_eq l.places n) _ _ _ (l.invariant n) (left-more n ls l.one-index x c.loop-one-test.true (get_or_default ls l.one-index _ x c.loop-one-test.true))
    (λ same. grind (arith, common_steps)) (λ other. grind (arith, common_steps))
