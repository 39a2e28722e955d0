-- Which processes are clocked, and what moves them, by the kinds that are kept.
use Rattle.std.proofs.Common.{◌≡◌, ℕ, ◌<◌, Bool, false, List, length, get_or, map, Option, sym, ap, ◌∙◌}
use Rattle.std.proofs.lemmas.List.{ext_get_or, length-map}
use Rattle.rtl_model.specs.simulation.Levels.{is_clocked}
use Rattle.rtl_model.specs.simulation.Netlist as m
use Rattle.rtl_model.specs.simulation.Netlist.{Netlist, process}
use Rattle.rtl_model.proofs.basics.Lists.{get_or-map_within}
use Rattle.rtl_body_facts.specs.declared.kinds.ProcessKind.{ProcessKind}
use Rattle.rtl_body_facts.specs.declared.kinds.ProcessKind.TheVariants as k
use Rattle.rtl_process_kinds.specs.KindViews.{AreKinds, IsKind}
use Rattle.rtl_levels.specs.Scheduled.{are_clocked, is_clocked_kind, kind_moves}
use Rattle.rtl_levels.specs.Visits.{is_net, moves}

pub told_clocked : (net : Netlist) (p : ℕ) → p < length net.processes → get_or (are_clocked net) p false ≡ is_clocked (process net p).kind
told_clocked net p l = get_or-map_within (λ (x : m.Process). is_clocked x.kind) net.processes p m.no_process false l

clocked_as : (p : m.Process) (kind : ProcessKind) → IsKind p kind → is_clocked_kind kind ≡ is_clocked p.kind
clocked_as p k.Combinational is = sym (ap is_clocked is)
clocked_as p (k.Clocked c) is = sym (ap is_clocked is.kind)
clocked_as p k.Mixed is = sym (ap is_clocked is)

kinds_clocked : (net : Netlist) (kinds : List ProcessKind) → AreKinds net kinds → map is_clocked_kind kinds ≡ are_clocked net
kinds_clocked net kinds K =
    ext_get_or false (map is_clocked_kind kinds) (are_clocked net) (length-map kinds is_clocked_kind ∙ K.each_process ∙ sym (length-map net.processes (λ (x : m.Process). is_clocked x.kind)))
    (λ p l.
    let here : p < length kinds = rw (length-map kinds is_clocked_kind) at l in
    let there : p < length net.processes = rw (K.each_process) at here in
    get_or-map_within is_clocked_kind kinds p k.Mixed false here ∙ clocked_as (process net p) (get_or kinds p k.Mixed) (K.each p there) ∙ sym (told_clocked net p there))

pub moves_as : (p : m.Process) (kind : ProcessKind) → IsKind p kind → (n : ℕ) → kind_moves kind n ≡ moves p.kind n
moves_as p k.Combinational is n = sym (ap (λ (x : m.ProcessKind). moves x n) is)
moves_as p (k.Clocked c) is n = ap (λ (o : Option ℕ). is_net o n) (sym is.reset_is) ∙ sym (ap (λ (x : m.ProcessKind). moves x n) is.kind)
moves_as p k.Mixed is n = sym (ap (λ (x : m.ProcessKind). moves x n) is)

pub woken_are : (net : Netlist) (woken : List Bool) (slice kinds : List ProcessKind) → woken ≡ map is_clocked_kind slice → slice ≡ kinds → AreKinds net kinds → woken ≡ are_clocked net
woken_are net woken slice kinds are is K = are ∙ ap (map is_clocked_kind) is ∙ kinds_clocked net kinds K
