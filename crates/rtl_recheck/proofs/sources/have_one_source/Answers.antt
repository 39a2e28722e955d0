use Rattle.std.proofs.Common.{◌≡◌, ◌<◌, ◌≤◌, ℕ, true, false, sym, ◌∙◌, arith, refl}
use Rattle.rtl_model.specs.simulation.Accepted as f
use Rattle.rtl_net.specs.Core.{core}
use Rattle.rtl_check.proofs.Firsts.{net_there}
use Rattle.rtl_check.proofs.ListedPairs.{next_or}
use Rattle.rtl_recheck.specs.Kept.{HasOneSource}
use Rattle.rtl_recheck.proofs.sources.have_one_source.Goals as goal

ends : {a m n i : ℕ} → a < m → n ≡ m → n ≤ i → a < i
ends l e h = omega arith

pub returns-then-not-has_one_source : goal.returns-then-not-has_one_source
returns-then-not-has_one_source c =
    (λ e. absurd cc, λ A. let t = c.has_one_source.ensures.1 (A c.loop-number.number) in let h : true ≡ false = sym t ∙ c.if-not-has_one_source.true in cc)

pub loop-number-preserved : goal.loop-number-preserved
loop-number-preserved c =
    next_or (HasOneSource (core c.args.net.now)) c.loop-number.number c.loop-number.invariant (c.has_one_source.ensures.0 c.if-not-has_one_source.false)

pub returns : goal.returns
returns c =
    let net = c.args.net.now in (
      λ t n first second is.
          let l = net_there net (f.TwoDrivers n first second) is refl in
          c.loop-number.invariant n (ends l c.nets-number-end.ensures.count c.loop-number-test.false) first second is,
      λ A. refl,
    )
