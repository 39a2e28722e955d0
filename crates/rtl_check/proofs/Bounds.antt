-- What the bound on delta cycles counts, by the kinds of processes and the clocks.
use Rattle.std.proofs.Common.{◌≡◌, ℕ, ◌<◌, false, ◌==◌, not, List, [], ◌∷◌, length, refl, sym, ap, ◌∙◌, arith, Option}
use Rattle.std.proofs.lemmas.Bool.{ne_eqb}
use Rattle.std.proofs.lemmas.List.{get_or_default}
use Rattle.rtl_model.specs.simulation.Netlist as m
use Rattle.rtl_model.specs.simulation.Netlist.{Netlist, Process, Reset, process, no_process}
use Rattle.rtl_model.specs.simulation.Levels.{is_clocked, has_clocked, has_late_reset}
use Rattle.rtl_model.proofs.basics.Lists.{any_true, all_none, in_contains, contains_in, Contains-none, Contains-first}
use Rattle.rtl_check.specs.Views.{AreClockNets}
use Rattle.rtl_check.specs.Bounds as b
use Rattle.rtl_check.proofs.Processes.{clock_there}

-- ---- clocked processes

pub unclocked : (kind : m.ProcessKind) → ((n : ℕ) (edge : m.Edge) (reset : Option Reset) → kind ≡ m.Clocked n edge reset → ⊥) → is_clocked kind ≡ false
unclocked (m.Clocked n edge reset) none = absurd (none n edge reset refl)
unclocked _ none = refl

pub some_clocked : (net : Netlist) (clocks : List ℕ) → AreClockNets net clocks → not (length clocks == 0) ≡ has_clocked net
some_clocked net [] cs = sym (all_none (λ (q : Process). is_clocked q.kind) net.processes no_process each)
  where
    each : (p : ℕ) → p < length net.processes → is_clocked (process net p).kind ≡ false
    each p l = unclocked (process net p).kind (λ n edge reset is. Contains-none n (in_contains [] n ((cs.are n).1 (p, (edge, (reset, is))))))
some_clocked net (n ∷ ns) cs =
    let (p, (edge, (reset, is))) = (cs.are n).0 (contains_in (n ∷ ns) n (Contains-first n ns)) in
    let there : p < length net.processes = clock_there net p n (edge, (reset, is)) in
    ap not (ne_eqb (length (n ∷ ns)) 0 nonzero)
    ∙ sym (any_true (λ (q : Process). is_clocked q.kind) net.processes (process net p) (p, there, get_or_default net.processes p (process net p) no_process there) (ap is_clocked is))
  where
    nonzero : length (n ∷ ns) ≡ 0 → ⊥
    nonzero e = omega (arith, e)

-- ---- resets

pub none_late : (net : Netlist) → ((p : ℕ) → p < length net.processes → b.is_late net (process net p) ≡ false) → has_late_reset net ≡ false
none_late net each = all_none (b.is_late net) net.processes no_process each
