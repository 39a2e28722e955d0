use Rattle.std.proofs.Common.{◌+◌, [], length, arith, ap, sym, ◌∙◌, subst}
use Rattle.std.proofs.lemmas.List.{length_push}
use Rattle.vhdl_connect.specs.Held.{Holds}
use Rattle.vhdl_connect.proofs.Holding.{nothing_more}
use Rattle.vhdl_connect.proofs.sources.nothing.Goals as goal

pub loop-preserved : goal.loop-preserved
loop-preserved c =
    let e = c.in_ok-push.ensures.items in (
      ap length e ∙ length_push c.loop.table.items _ ∙ ap (λ n. n + 1) c.loop.invariant.0,
      subst (Holds (λ n. [])) (sym e) (nothing_more c.loop.table.items _ c.new.ensures.items c.loop.invariant.1),
    )

pub loop-init : goal.loop-init
loop-init c =
    let e = c.new-table.ensures.items in
    (ap length e, subst (Holds (λ n. [])) (sym e) (record { each = λ n l. absurd (omega (arith, l)) }))
