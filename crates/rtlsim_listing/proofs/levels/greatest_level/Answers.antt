use Rattle.std.proofs.Common.{◌≡◌, arith, rules, get_or, max}
use Rattle.std.specs.Prelude.{None}
use Rattle.std.specs.Option.{unwrap_or}
use Rattle.std.proofs.lemmas.Grind.{common_steps}
use Rattle.rtlsim_listing.proofs.Greatest.{greatest_more}
use Rattle.rtlsim_listing.proofs.levels.greatest_level.Goals as goal

pub loop-level-preserved : goal.loop-level-preserved
loop-level-preserved c =
    let levels = c.args.levels.now in
    let level : c.unwrap_or.result ≡ unwrap_or (get_or levels c.loop-level.level-index None) 0 = c.unwrap_or.ensures in
    let more = greatest_more levels c.loop-level.level-index None c.loop-level-test.true in
    let step : c.max-greatest.result ≡ max c.loop-level.greatest c.unwrap_or.result = first_of (search rules, grind (arith, common_steps)) in
    omega (arith, more, level, c.loop-level.invariant, step)
