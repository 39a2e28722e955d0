use Rattle.std.proofs.Common.{◌+◌, [], length, arith, ap, sym, ◌∙◌, subst}
use Rattle.std.proofs.lemmas.List.{length_push}
use Rattle.vhdl_connect.specs.Uses.{AreUses}
use Rattle.vhdl_connect.proofs.Marking.{unused_more}
use Rattle.vhdl_connect.proofs.uses.unused.Goals as goal

pub loop-preserved : goal.loop-preserved
loop-preserved c =
    let e = c.in_ok-push.ensures.items in
    (ap length e ∙ length_push c.loop.uses.items _ ∙ ap (λ n. n + 1) c.loop.invariant.0, subst (AreUses [] []) (sym e) (unused_more c.loop.uses.items c.loop.invariant.1))

pub loop-init : goal.loop-init
loop-init c =
    let e = c.new-uses.ensures.items in
    (ap length e, subst (AreUses [] []) (sym e) (record { each = λ n d l. absurd (omega (arith, l)) }))
