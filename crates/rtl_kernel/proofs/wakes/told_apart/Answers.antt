use Rattle.std.proofs.Common.{arith}
use Rattle.rtl_kernel.proofs.wakes.told_apart.Goals as goal

pub returns-then-is_odd : goal.returns-then-is_odd
returns-then-is_odd c = (λ h. omega arith, λ h. c.if-is_odd.true)

pub returns-else-is_odd : goal.returns-else-is_odd
returns-else-is_odd c = (λ h. let no = c.if-is_odd.false in absurd cc, λ h. absurd (omega (arith, h)))
