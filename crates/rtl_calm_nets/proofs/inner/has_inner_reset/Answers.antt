use Rattle.std.proofs.Common.{◌≡◌, ◌<◌, ◌≤◌, ◌⊎◌, inl, inr, ℕ, Option, Some, None, List, length, false, sym, ap, subst, ◌∙◌, arith}
use Rattle.std.specs.Option.{is_some}
use Rattle.std.proofs.lemmas.Bool.{cases_lt}
use Rattle.rtl_model.specs.simulation.Netlist.{Netlist}
use Rattle.rtl_model.specs.simulation.Accepted.{IsInnerReset}
use Rattle.rtl_net.specs.declared.process.Process.{Process}
use Rattle.rtl_net.specs.Core.{core}
use Rattle.rtl_process_kinds.specs.Drivers.{IsInner}
use Rattle.rtl_process_kinds.proofs.Processes.{many_processes}
use Rattle.rtl_calm_nets.proofs.Ranges.{resets_there}
use Rattle.rtl_calm_nets.proofs.inner.has_inner_reset.Goals as goal

none_inner : (net : Netlist) (p : ℕ) (o : Option ℕ) → IsInner net p o → is_some o ≡ false → (n : ℕ) → IsInnerReset net p n → ⊥
none_inner net p None h e n inner = h n inner
none_inner net p (Some m) h e n inner = absurd cc

pub loop-process-preserved : goal.loop-process-preserved
loop-process-preserved c p n l inner = go (cases_lt p c.loop-process.process)
  where
    go : (p < c.loop-process.process) ⊎ (c.loop-process.process ≤ p) → ⊥
    go (inl m) = c.loop-process.invariant p n m inner
    go (inr m) =
        let same : p ≡ c.loop-process.process = omega arith in
        none_inner (core c.args.net.now) c.loop-process.process _ c.inner_reset.ensures (sym c.is_some.ensures ∙ c.if-is_some.false) n (subst (λ (q : ℕ). IsInnerReset (core c.args.net.now) q n) same inner)

pub returns : goal.returns
returns c = (λ e. absurd cc, λ (wide, (p, n, inner)). absurd (c.loop-process.invariant p n (below p (resets_there (core c.args.net.now) p inner.0.0 inner.0.1)) inner))
  where
    below : (p : ℕ) → p < length (core c.args.net.now).processes → p < c.loop-process.process
    below p l =
        let many = ap (λ (ps : List Process). length ps) c.processes-processes.ensures in
        omega (arith, c.loop-process-test.false, c.loop-process.auto.process-end, many, many_processes c.args.net.now, l)
