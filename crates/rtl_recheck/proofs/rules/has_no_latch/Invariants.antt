use Rattle.std.proofs.Common.{◌≡◌, ℕ, true, take}
use Rattle.rtl_model.specs.bodies.Assigns.{must_assign}
use Rattle.rtl_net.specs.Nets.{body_of}
use Rattle.rtl_body_facts.specs.Reading.{is_in}
use Rattle.rtl_body_facts.specs.Paths.{driven, to_net}
use Rattle.rtl_recheck.proofs.rules.has_no_latch.Given as goal

abbrev pub invariant-loop-driver : goal.invariant-loop-driver
invariant-loop-driver l =
    (n : ℕ) → is_in n (driven (take l.driver-index l.process.drives.items)) ≡ true → must_assign (to_net l.process.drives.items n) (body_of l.process) ≡ true
