use Rattle.std.proofs.Common.{◌≡◌, ◌<◌, ◌≤◌, ℕ, length, refl, arith, ap, List}
use Rattle.rtl_net.specs.declared.process.Process.{Process}
use Rattle.rtl_net.specs.Core.{core}
use Rattle.rtl_check.proofs.Joined.{adds_first, adds_place, adds_all}
use Rattle.rtl_check.proofs.Processes.{process_there}
use Rattle.rtl_process_kinds.proofs.Processes.{many_processes}
use Rattle.rtl_check.proofs.variables.stored_variables.Goals as goal

nine_eight : {a : ℕ} → a ≡ 9 → a ≡ 8 → ⊥
nine_eight e h = omega arith

nine_one : {a : ℕ} → a ≡ 9 → a ≡ 1 → ⊥
nine_one e h = omega arith

ends : {a m k n i : ℕ} → a < m → m ≡ k → n ≡ k → n ≤ i → a < i
ends l e f h = omega arith

pub loop-process-init : goal.loop-process-init
loop-process-init c = adds_first (core c.args.net.now) 9 c.args.faults.now.items

pub loop-process-preserved : goal.loop-process-preserved
loop-process-preserved c =
    adds_place (core c.args.net.now) 9 c.loop-process.process c.args.faults.now.items c.loop-process.faults.items c.stored_at.new.faults.items (λ e. nine_eight refl e)
    c.loop-process.invariant c.in_ok-stored_at.ensures

pub returns : goal.returns
returns c = adds_all (core c.args.net.now) 9 c.loop-process.process c.args.faults.now.items c.loop-process.faults.items
    (λ x is e. let l = process_there (core c.args.net.now) x is (λ h. nine_one e h) (λ h. nine_eight e h) in
    ends l (many_processes c.args.net.now) (ap (λ (ps : List Process). length ps) c.processes-processes.ensures) c.loop-process-test.false)
    c.loop-process.invariant
