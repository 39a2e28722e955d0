use Rattle.std.proofs.Common.{◌≡◌, ◌<◌, ◌⊎◌, inl, inr, ℕ, arith}
use Rattle.rtl_net.specs.Core.{core}
use Rattle.rtl_check.proofs.Joined.{adds_first, adds_place, adds_all, no_loops}
use Rattle.rtl_check.proofs.Processes.{process_there}
use Rattle.rtl_process_kinds.proofs.Processes.{ends}
use Rattle.rtl_check.proofs.listing.mixed.Goals as goal

numbers_differ : {a j k : ℕ} → a ≡ j → a ≡ k → (j < k) ⊎ (k < j) → ⊥
numbers_differ e f (inl l) = omega arith
numbers_differ e f (inr l) = omega arith

pub loop-process-init : goal.loop-process-init
loop-process-init c = adds_first (core c.args.net.now) 2 c.args.faults.now.items

pub loop-process-preserved : goal.loop-process-preserved
loop-process-preserved c =
    adds_place (core c.args.net.now) 2 c.loop-process.process c.args.faults.now.items c.loop-process.faults.items c.mixed_at.new.faults.items (λ e. no_loops 2 e (omega arith)) c.loop-process.invariant c.in_ok-mixed_at.ensures

pub returns : goal.returns
returns c = adds_all (core c.args.net.now) 2 c.loop-process.process c.args.faults.now.items c.loop-process.faults.items
    (λ x is e. let l = process_there (core c.args.net.now) x is (λ f. absurd (numbers_differ e f (inr (omega arith)))) (λ f. absurd (numbers_differ e f (inl (omega arith)))) in ends l c.requires.each_process c.loop-process-test.false) c.loop-process.invariant
