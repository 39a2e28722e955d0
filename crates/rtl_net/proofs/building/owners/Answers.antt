use Rattle.std.proofs.Common.{◌≡◌, ◌-◌, suc, arith, ap, ◌∙◌, subst, sym}
use Rattle.rtl_net.specs.Names.{place_in}
use Rattle.rtl_net.specs.steps.Tables.{Owns, element_at}
use Rattle.rtl_net.proofs.Turns.{own-signal}
use Rattle.rtl_net.proofs.building.owners.Goals as goal

pub loop-signal-preserved : goal.loop-signal-preserved
loop-signal-preserved c =
    let k = c.loop-signal.signal - 1 in
    let step : c.loop-signal.signal ≡ suc k = omega (arith, c.loop-signal-test.true) in
    let (within, counted, before) = c.loop-signal.invariant in
    let x = c.index-signals-signal.result in
    let nets : c.as_slice.result.now ≡ x.nets.items = c.as_slice.ensures ∙ ap (λ s. s.nets.items) (sym c.index-signals-signal.is) in
    let owns : Owns (λ m. element_at k (place_in x.nets.items m)) c.loop-signal.owners.items c.own.new.owners.items =
    subst (λ ns. Owns (λ m. element_at k (place_in ns m)) c.loop-signal.owners.items c.own.new.owners.items) nets c.own.ensures in (
      omega (arith, within),
      omega (arith, owns.as_many, counted),
      λ n e l.
          own-signal c.args.signals.now k c.loop-signal.signal x n e c.loop-signal.owners.items c.own.new.owners.items step within c.index-signals-signal.is (omega (arith, l, counted)) owns (before n e l),
    )
