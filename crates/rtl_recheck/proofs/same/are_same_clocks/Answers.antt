use Rattle.std.proofs.Common.{◌≡◌, ◌<◌, refl, subst, length, ℕ, arith}
use Rattle.std.proofs.lemmas.List.{ext_get_or}
use Rattle.rtl_model.specs.simulation.Netlist.{Rising}
use Rattle.rtl_recheck.proofs.same.are_same_clocks.Goals as goal

pub returns : goal.returns
returns c = (λ e. ext_get_or (0, Rising) c.args.ones.now c.args.others.now c.if-ones-others.false (λ k l. c.loop-k.invariant k (omega (arith, l, c.loop-k-test.false, c.loop-k.auto.k-end))), λ e. refl)
