-- The parts of a netlist whose variables are kept.
use Rattle.std.proofs.Common.{◌≡◌, ℕ, zero, suc, ◌+◌, ◌<◌, Vec, Global, false, ◌==◌, if◌then◌else◌, List, [], ◌∷◌, ◌++◌, length, map, flat_map, replicate, All, refl, sym, ap, ◌∙◌, subst, arith}
use Rattle.std.specs.List.{range_with_len}
use Rattle.std.specs.Vec.{with_items}
use Rattle.std.proofs.lemmas.Bool.Decides.{nat_tests}
use Rattle.std.proofs.lemmas.List.{length-map, with_items_is}
use Rattle.std.proofs.lemmas.List.Elements.{All-head, All-tail, All-weaker}
use Rattle.rtl_net.specs.declared.building.IdlePort.{IdlePort}
use Rattle.rtl_net.specs.declared.building.Parts.{Parts}
use Rattle.rtl_net.specs.declared.net.NetKind.{NetKind}
use Rattle.rtl_net.specs.declared.process.Process.{Process}
use Rattle.rtl_net.specs.Elaborated.{IsNet}
use Rattle.rtl_net.specs.Nets.{SignalView, type_of, scope_view, signal_view, process_view}
use Rattle.rtl_net.specs.Parts.{assembled, idle_at, IdleAreThere}
use Rattle.rtl_variable_registers.specs.Laws.{EachIsSoundStill}
use Rattle.rtl_variable_registers.specs.Nets.{kept_processes}
use Rattle.rtl_variable_registers.specs.Processes.{kept_elements, kept_types}
use Rattle.rtl_keeping.specs.Kept.{signals_kept, by_scope, KeepsVariables}
use Rattle.rtl_keeping.specs.Steps.{AreReady, IsOrdered, KeepsAll}
use Rattle.rtl_keeping.specs.declared.nets.Nets.{Nets}
use Rattle.rtl_keeping.proofs.Sound.{as_many, in_scopes, as_many_types, is_net_still}

-- ---- idle ports

none_idle : (ports : List IdlePort) (n : ℕ) → All (λ (p : IdlePort). p.net < n) ports → idle_at ports n ≡ []
none_idle [] n h = refl
none_idle (p ∷ ports) n h =
    let l = All-head (λ (q : IdlePort). q.net < n) p ports h in
    let other : (p.net == n) ≡ false = grind (arith, nat_tests, l) in
    ap (λ b. if b then p.start ∷ idle_at ports n else idle_at ports n) other ∙ none_idle ports n (All-tail (λ (q : IdlePort). q.net < n) p ports h)

idle_behind : (ports : List IdlePort) (first m : ℕ) → All (λ (p : IdlePort). p.net < first) ports → map (idle_at ports) (range_with_len first m) ≡ replicate m []
idle_behind ports first zero h = refl
idle_behind ports first (suc m) h =
    λ i. none_idle ports first h i ∷ idle_behind ports (first + 1) m (All-weaker (λ (p : IdlePort). p.net < first) (λ (p : IdlePort). p.net < first + 1) (λ p l. omega (arith, l)) ports h) i

more_idle : (ports : List IdlePort) (first n m : ℕ) → All (λ (p : IdlePort). p.net < first + n) ports
    → map (idle_at ports) (range_with_len first (n + m)) ≡ map (idle_at ports) (range_with_len first n) ++ replicate m []
more_idle ports first zero m h =
    ap (λ k. map (idle_at ports) (range_with_len first k)) (let s : 0 + m ≡ m = omega arith in s)
    ∙ idle_behind ports first m (subst (λ k. All (λ (p : IdlePort). p.net < k) ports) (let s : first + 0 ≡ first = omega arith in s) h)
more_idle ports first (suc n) m h =
    ap (λ k. map (idle_at ports) (range_with_len first k)) (let s : suc n + m ≡ suc (n + m) = omega arith in s)
    ∙ ap (λ ls. idle_at ports first ∷ ls) (more_idle ports (first + 1) n m (subst (λ k. All (λ (p : IdlePort). p.net < k) ports) (let s : first + suc n ≡ first + 1 + n = omega arith in s) h))

-- ---- the parts

abbrev pub nets_of : Parts → Nets
nets_of parts = record { kinds = parts.kinds; starts = parts.starts; signals = parts.signals }

abbrev pub with_nets : Parts → Vec Process Global → Nets → Parts
with_nets parts processes nets = record {
  kinds = nets.kinds;
  starts = nets.starts;
  idle = parts.idle;
  inputs = parts.inputs;
  processes = processes;
  scopes = parts.scopes;
  signals = nets.signals;
}

module _ (parts : Parts) (is : IsNet (assembled parts)) (idle : IdleAreThere parts) where
  pub are_ready : AreReady (map type_of parts.kinds.items) parts.processes.items
  are_ready = record { reads = is.reads; in_range = is.in_range.processes; within = is.nets_limit }

  module _ (processes : Vec Process Global) (after final : Nets) (all : KeepsAll parts.processes.items processes.items (nets_of parts) after) (ordered : IsOrdered after final) where
    abbrev made : Parts
    made = with_nets parts processes final

    types : map type_of final.kinds.items ≡ map type_of parts.kinds.items ++ flat_map kept_types (map process_view parts.processes.items)
    types = ap (λ (k : Vec NetKind Global). map type_of k.items) ordered.kinds ∙ all.types

    long : length (map type_of parts.kinds.items) ≡ length parts.kinds.items
    long = length-map parts.kinds.items type_of

    more : length final.kinds.items ≡ length parts.kinds.items + length (flat_map kept_elements (map process_view parts.processes.items))
    more = omega (arith, ap length types, as_many_types (assembled parts) is, long, length-map final.kinds.items type_of)

    idle_are : map (idle_at parts.idle.items) (range_with_len 0 (length final.kinds.items))
        ≡ map (idle_at parts.idle.items) (range_with_len 0 (length parts.kinds.items)) ++ replicate (length (flat_map kept_elements (map process_view parts.processes.items))) []
    idle_are =
        ap (λ n. map (idle_at parts.idle.items) (range_with_len 0 n)) more
        ∙ more_idle parts.idle.items 0 (length parts.kinds.items) (length (flat_map kept_elements (map process_view parts.processes.items)))
        (All-weaker (λ (p : IdlePort). p.net < length parts.kinds.items) (λ (p : IdlePort). p.net < 0 + length parts.kinds.items) (λ p l. omega (arith, l)) parts.idle.items idle)

    signals : map signal_view after.signals.items ≡ map signal_view parts.signals.items ++ signals_kept 0 (length (map type_of parts.kinds.items)) parts.processes.items
    signals = all.signals ∙ ap (λ n. map signal_view parts.signals.items ++ signals_kept 0 n parts.processes.items) (sym long)

    pub keeps : KeepsVariables (assembled parts) (assembled made)
    keeps = record {
      flat_is = λ i. record {
        types = types i;
        start = (ap (λ (v : Vec ℕ Global). v.items) ordered.starts ∙ all.starts) i;
        inputs = parts.inputs.items;
        idle = idle_are i;
        processes = (all.flat ∙ ap (λ n. kept_processes n (map process_view parts.processes.items)) (sym long)) i;
        wide = false;
      };
      scopes_are = refl;
      signals_are = ordered.signals (length (map scope_view parts.scopes.items))
          (subst (All (λ (s : SignalView). s.scope < length (map scope_view parts.scopes.items))) (sym signals) (in_scopes (assembled parts) is))
          ∙ ap (by_scope (length (map scope_view parts.scopes.items))) signals;
      named_alike = all.named;
    }

    pub is_net : EachIsSoundStill → IsNet (assembled made)
    is_net law =
        is_net_still law (assembled parts) (assembled made) is keeps all.reads
        (omega (arith, length-map final.kinds.items type_of, ap (λ (k : Vec NetKind Global). length k.items) ordered.kinds, all.within))

    pub idle_still : IdleAreThere made
    idle_still = All-weaker (λ (p : IdlePort). p.net < length parts.kinds.items) (λ (p : IdlePort). p.net < length final.kinds.items) (λ p l. omega (arith, l, more)) parts.idle.items idle

-- a vector has the processes that were put in the place of its own
pub put_back : (parts : Parts) (ps : List Process) (before after : Nets) → KeepsAll parts.processes.items ps before after → KeepsAll parts.processes.items (with_items parts.processes ps).items before after
put_back parts ps before after h =
    subst (λ qs. KeepsAll parts.processes.items qs before after) (sym (with_items_is parts.processes ps (as_many parts.processes.items ps h.named ∙ sym parts.processes.ok.0))) h
