use Rattle.std.proofs.Common.{◌≡◌, true, false, arith}
use Rattle.std.specs.Prelude.{◌==◌}
use Rattle.std.proofs.lemmas.Bool.Decides.{nat_tests}
use Rattle.rtlsim_listing.proofs.graph.push_head.Goals as goal

pub returns-then-before-eq0 : goal.returns-then-before-eq0
returns-then-before-eq0 g c = let first : (c.args.before == 0) ≡ true = grind (arith, nat_tests) in rw first c.push_text.ensures

pub returns-else-before-eq0 : goal.returns-else-before-eq0
returns-else-before-eq0 g c = let later : (c.args.before == 0) ≡ false = grind (arith, nat_tests) in rw later c.push_next_head.ensures
