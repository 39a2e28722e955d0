use Rattle.std.specs.Prelude.{◌≤◌, All, Contains, take}
use Rattle.rtl_vcd.proofs.blocks.bounds.Given as goal

-- they are the least and the greatest of the nets before this one, or the first
abbrev pub invariant-loop-net : goal.invariant-loop-net
invariant-loop-net l =
    Contains l.nets l.least × Contains l.nets l.greatest × All (λ n. (l.least ≤ n) × (n ≤ l.greatest)) (take l.net-index l.nets)
