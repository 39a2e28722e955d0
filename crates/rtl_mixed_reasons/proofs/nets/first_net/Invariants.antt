use Rattle.std.proofs.Common.{◌≡◌, length}
use Rattle.std.specs.Prelude.{find}
use Rattle.rtl_body_facts.specs.Paths.{driven}
use Rattle.rtl_body_facts.specs.Reading.{is_in}
use Rattle.rtl_mixed_reasons.specs.Reasons.{first_net}
use Rattle.rtl_mixed_reasons.proofs.nets.first_net.Given as goal

abbrev pub invariant-loop-left : goal.invariant-loop-left
invariant-loop-left l = find (λ n. is_in n l.nets) (driven l.left) ≡ first_net l.process (λ n. is_in n l.nets)

abbrev pub decreases-loop-left : goal.decreases-loop-left
decreases-loop-left l = length l.left
