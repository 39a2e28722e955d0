use Rattle.std.proofs.Common.{◌≡◌, ◌&&◌, ℕ, true, false, take}
use Rattle.rtl_body_facts.specs.Reading.{is_in}
use Rattle.rtl_check.specs.Rules.{is_data}
use Rattle.rtl_recheck.specs.Kept.{clock_nets}
use Rattle.rtl_recheck.proofs.clocked.has_no_clock_as_data.Given as goal

abbrev pub invariant-loop-net : goal.invariant-loop-net
invariant-loop-net l =
    (n : ℕ) → is_in n (take l.net-index l.process.reads.items) ≡ true → (is_in n (clock_nets l.clocks) && is_data l.clocking n) ≡ false
