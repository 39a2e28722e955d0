-- What is accepted is accepted in the wider language: there its processes are of the same kinds.
use Rattle.std.proofs.Common.{◌≡◌, ℕ, suc, Bool, true, false, List, [], ◌∷◌, map, slice_index_or, Option, Some, None, refl, sym, ap, ◌∙◌, subst, inl, inr}
use Rattle.rtl_model.specs.bodies.Body.{Stmts, Test}
use Rattle.rtl_model.specs.bodies.Reads.{events}
use Rattle.rtl_model.specs.bodies.Kinds.{Clocking, clocking, IsClocked, IsResetTest}
use Rattle.rtl_model.specs.nets.FlatNetlist.{FlatProcess}
use Rattle.rtl_model.specs.nets.CoreNetlist.{core_kind, core_netlist, core_process, process_of}
use Rattle.rtl_model.specs.nets.Laws.{WideAcceptsAll}
use Rattle.rtl_model.specs.simulation.Netlist as c
use Rattle.rtl_model.specs.simulation.Accepted.{IsAccepted, IsByNets, MixedProcess}
use Rattle.rtl_model.proofs.bodies.Clocking.{clocked_is, each_kind_is_as_said}
use Rattle.rtl_model.proofs.nets.Connected.{connected_is_elaborated}
use Rattle.rtl_model.proofs.simulation.Levels.{wide_accepts}

module _ (inputs : List ℕ) where
  still_resets : (t : Test) (net value : ℕ) → IsResetTest false inputs t net value → IsResetTest true inputs t net value
  still_resets t net value h = record { plain = h.plain; v = h.v; is = h.is; one_or_zero = h.one_or_zero; value_is = h.value_is; may_reset = inl refl }

  still_clocked : (body : Stmts) (k : Clocking) → IsClocked false inputs body k → IsClocked true inputs body k
  still_clocked body k (inl a) = inl a
  still_clocked body k (inr (inl a)) = inr (inl (record {
    reset = a.reset;
    first = a.first;
    test = a.test;
    is = a.is;
    reset_is = a.reset_is;
    gating = a.gating;
    resets = still_resets a.first a.reset.test.net a.reset.test.value a.resets;
    constants = a.constants;
    edge = a.edge;
    no_event = a.no_event;
  }))
  still_clocked body k (inr (inr a)) = let f = a.is_wide in absurd cc

  -- what isn't mixed is clocked as it was, if at all
  same_clocking : (p : FlatProcess) → ((core_process false inputs p).kind ≡ c.Mixed → ⊥) → clocking true inputs p.body ≡ clocking false inputs p.body
  same_clocking p not_mixed = go (clocking false inputs p.body) (events p.body) refl refl
    where
      none : (o : Option Clocking) → clocking true inputs p.body ≡ o → events p.body ≡ [] → o ≡ None
      none None e plain = refl
      none (Some k) e plain = absurd ((each_kind_is_as_said true inputs).has_event p.body k e plain)

      go : (o : Option Clocking) (ns : List ℕ) → clocking false inputs p.body ≡ o → events p.body ≡ ns → clocking true inputs p.body ≡ clocking false inputs p.body
      go (Some k) ns e f = ((each_kind_is_as_said true inputs).clocked p.body k).1 (still_clocked p.body k (clocked_is false inputs p.body k e)) ∙ sym e
      go None [] e f = none (clocking true inputs p.body) refl f ∙ sym e
      go None (n ∷ ns) e f = absurd (not_mixed (λ i. core_kind p (e i) (f i)))

  same_processes : (ps : List FlatProcess) → ((k : ℕ) → (slice_index_or (map (core_process false inputs) ps) k c.no_process).kind ≡ c.Mixed → ⊥) → map (core_process true inputs) ps ≡ map (core_process false inputs) ps
  same_processes [] none = refl
  same_processes (p ∷ ps) none = λ i. process_of p (same_clocking p (none 0) i) ∷ same_processes ps (λ k. none (suc k)) i

pub wide_accepts_all : WideAcceptsAll
wide_accepts_all net in_range connected narrow accepted =
    subst (λ (n : c.Netlist). IsAccepted n × (IsByNets n → ⊥)) (sym same) (wide_accepts (core_netlist net) (connected_is_elaborated net in_range connected) narrow accepted)
  where
    none_mixed : (k : ℕ) → (slice_index_or (map (core_process false net.inputs) net.processes) k c.no_process).kind ≡ c.Mixed → ⊥
    none_mixed k e = accepted (MixedProcess k) (inl (subst (λ (wide : Bool). (slice_index_or (map (core_process wide net.inputs) net.processes) k c.no_process).kind ≡ c.Mixed) (sym narrow) e))

    processes : map (core_process true net.inputs) net.processes ≡ map (core_process net.wide net.inputs) net.processes
    processes = same_processes net.inputs net.processes none_mixed ∙ ap (λ (wide : Bool). map (core_process wide net.inputs) net.processes) (sym narrow)

    same : core_netlist (record net { wide = true }) ≡ record (core_netlist net) { wide = true }
    same = λ i. record (core_netlist net) { processes = processes i; wide = true }
