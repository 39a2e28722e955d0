use Rattle.std.proofs.Common.{◌≡◌, ◌+◌, ℕ, length, arith, refl, sym, subst}
use Rattle.rtl_check.specs.Reported.{IsGreatestTo}
use Rattle.rtl_check.proofs.ReportParts.{none_greatest, greater_on}
use Rattle.rtl_check.proofs.reported.greatest_of.Goals as goal

pub loop-k-init : goal.loop-k-init
loop-k-init c = none_greatest c.args.levels.now

pub loop-k-preserved : goal.loop-k-preserved
loop-k-preserved c =
    subst (IsGreatestTo c.args.levels.now (c.loop-k.k + 1)) (sym c.greater-greatest.ensures) (greater_on c.args.levels.now c.loop-k.k c.loop-k.greatest _ refl c.loop-k.invariant)

pub returns : goal.returns
returns c =
    let all : c.loop-k.k ≡ length c.args.levels.now = omega (arith, c.loop-k-test.false, c.loop-k.auto.k-end) in
    subst (λ (n : ℕ). IsGreatestTo c.args.levels.now n c.loop-k.greatest) all c.loop-k.invariant
