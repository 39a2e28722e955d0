use Rattle.std.proofs.Common.{arith}
use Rattle.std.proofs.lemmas.List.{length_push}
use Rattle.rtl_net_groups.proofs.Marking.{declared_more, first_marked, declared_alike}
use Rattle.rtl_net_groups.proofs.beginnings.by_declaration.Goals as goal

pub loop-net-preserved : goal.loop-net-preserved
loop-net-preserved c =
    let I = c.loop-net.invariant in
    rw (c.in_ok-push.ensures.items) (record {
      as_many = omega (arith, length_push c.loop-net.begins.items c.is_another.result, I.as_many);
      alike = declared_more c.args.declared.now c.loop-net.begins.items c.is_another.result c.loop-net.net I.as_many c.is_another.ensures I.alike;
    })

pub returns-clause-first : goal.returns-clause-first
returns-clause-first c =
    let I = c.loop-net.invariant in
    first_marked c.args.declared.now c.loop-net.begins.items (λ n l. I.alike n (omega (arith, l, I.as_many)))

pub returns-clause-alike : goal.returns-clause-alike
returns-clause-alike c =
    let I = c.loop-net.invariant in
    declared_alike c.args.declared.now c.loop-net.begins.items (λ n l. I.alike n (omega (arith, l, I.as_many)))
