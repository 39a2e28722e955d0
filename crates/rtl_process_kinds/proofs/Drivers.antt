-- Which nets processes drive, and which of these are resets.
use Rattle.std.proofs.Common.{◌≡◌, ℕ, ◌<◌, ◌||◌, ◌==◌, Bool, true, false, ◌∷◌, length, map, Option, Some, None, refl, sym, ap, subst, ◌∙◌, Contains}
use Rattle.std.specs.Prelude.{option_map, All}
use Rattle.std.specs.Option.{option_to_list}
use Rattle.std.proofs.lemmas.Bool.{eq-eqb}
use Rattle.std.proofs.lemmas.List.{length-map}
use Rattle.rtl_model.specs.bodies.Reads.{reads}
use Rattle.rtl_model.specs.nets.FlatNetlist.{no_flat_process, process_at}
use Rattle.rtl_model.specs.nets.CoreNetlist.{core_process}
use Rattle.rtl_model.specs.simulation.Netlist as m
use Rattle.rtl_model.specs.simulation.Netlist.{Netlist, Source, Driver, Idle, Reset, IsDriven, kind_reset, process, sources_of}
use Rattle.rtl_model.specs.simulation.Levels.{is_driver}
use Rattle.rtl_model.specs.simulation.Elaborated.{IsWired}
use Rattle.rtl_model.proofs.basics.Lists.{any_at, any_true, in_contains, get_or-map_within}
use Rattle.rtl_model.proofs.nets.InRange.{in_range_is_safe}
use Rattle.rtl_net.specs.Nets.{NetlistView, flat, process_view}
use Rattle.rtl_net.specs.Elaborated.{IsNet}
use Rattle.rtl_net.specs.Core.{core}
use Rattle.rtl_body_facts.specs.declared.kinds.ProcessKind.{ProcessKind}
use Rattle.rtl_body_facts.specs.declared.kinds.ProcessKind.TheVariants as k
use Rattle.rtl_body_facts.specs.Reading.{is_in}
use Rattle.rtl_process_kinds.specs.KindViews.{IsKind, reset_net, reset_kept}
use Rattle.rtl_process_kinds.specs.Drivers.{is_driven}

-- what is kept of a reset is its net
pub kept_is : (x : m.Process) (kind : ProcessKind) → IsKind x kind → (n : ℕ) → reset_kept kind ≡ Some n
    → (reset : Reset) × (kind_reset x.kind ≡ Some reset) × (reset.net ≡ n)
kept_is x k.Combinational d n e = absurd cc
kept_is x (k.Clocked c) d n e = go d.reset d.kind (d.reset_is ∙ e)
  where
    go : (o : Option Reset) → x.kind ≡ m.Clocked c.clock c.edge o → option_map reset_net o ≡ Some n
        → (reset : Reset) × (kind_reset x.kind ≡ Some reset) × (reset.net ≡ n)
    go None e f = absurd cc
    go (Some reset) e f = (reset, ap kind_reset e, cc)
kept_is x k.Mixed d n e = absurd cc

pub is_kept : (x : m.Process) (kind : ProcessKind) → IsKind x kind → (reset : Reset) → kind_reset x.kind ≡ Some reset → reset_kept kind ≡ Some reset.net
is_kept x k.Combinational d reset e = let h : None ≡ Some reset = sym (ap kind_reset d) ∙ e in absurd cc
is_kept x (k.Clocked c) d reset e = sym d.reset_is ∙ ap (option_map reset_net) (sym (ap kind_reset d.kind) ∙ e)
is_kept x k.Mixed d reset e = let h : None ≡ Some reset = sym (ap kind_reset d) ∙ e in absurd cc

-- and the body reads it
pub reset_read : (x : m.Process) (kind : ProcessKind) → IsKind x kind → (n : ℕ) → reset_kept kind ≡ Some n → Contains x.reads n
reset_read x k.Combinational d n e = absurd cc
reset_read x (k.Clocked c) d n e =
    in_contains x.reads n (d.reads n ∙ ap (λ (b : Bool). b || is_in n x.acting_reads) (ap (λ (o : Option ℕ). is_in n (c.clock ∷ option_to_list o)) e ∙ either (c.clock == n) (n == n) (eq-eqb n n refl)))
  where
    either : (a b : Bool) → b ≡ true → (a || (b || false)) ≡ true
    either true b t = refl
    either false true t = refl
    either false false t = absurd cc
reset_read x k.Mixed d n e = absurd cc

module _ (net : Netlist) (W : IsWired net) where
  pub driven_is : (n : ℕ) → IsDriven net n → is_driven net n ≡ true
  driven_is n (q, place, h, t) = any_true is_driver (sources_of net n) (Driver q place) (subst (λ (x : ℕ). Contains (sources_of net x) (Driver q place)) t (W.drivers_are_sources q place h)) refl

  pub is_driven_by : (n : ℕ) → is_driven net n ≡ true → IsDriven net n
  is_driven_by n t = let (s, c, d) = any_at is_driver (sources_of net n) t in go s c d
    where
      go : (s : Source) → Contains (sources_of net n) s → is_driver s ≡ true → IsDriven net n
      go (Driver q place) c d = let (h, e) = W.sources_are_drivers n q place c in (q, place, h, e)
      go (Idle v) c d = absurd cc

-- what a process reads is there
pub read_there : (net : NetlistView) → IsNet net → (p n : ℕ) → p < length net.processes → Contains (process (core net) p).reads n → n < length net.types
read_there net E p n l (k, there, is) =
    let safe = in_range_is_safe (flat net) E.in_range p (rw (length-map net.processes process_view) l) in
    let same = get_or-map_within (core_process net.wide net.inputs) (map process_view net.processes) p no_flat_process m.no_process (rw (length-map net.processes process_view) l) in
    let at : reads (process_at (flat net) p).body ≡ (process (core net) p).reads = sym (ap (λ (q : m.Process). q.reads) same) in
    subst (λ (i : ℕ). i < length net.types) is (subst (All (λ i. i < length net.types)) at safe.reads_there k n there)
