use Rattle.std.proofs.Common.{◌<◌, ℕ}
use Rattle.rtl_net.specs.Core.{core}
use Rattle.rtl_recheck.specs.Kept.{HasOneSource}
use Rattle.rtl_recheck.proofs.sources.have_one_source.Given as goal

abbrev pub invariant-loop-number : goal.invariant-loop-number
invariant-loop-number l = (n : ℕ) → n < l.number → HasOneSource (core l.net) n
