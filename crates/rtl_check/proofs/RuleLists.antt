-- The faults of one process that break a rule, as a list.
use Rattle.std.proofs.Common.{◌≡◌, ℕ, zero, suc, ◌<◌, true, List, [], ◌∷◌, length, get_or, map, refl, sym, ap, subst, ◌∙◌, arith, inl, inr, Contains, Result, Ok, Err}
use Rattle.std.specs.Prelude.{IsTrue, OnOk}
use Rattle.std.specs.List.Sorted.{IsStrictlyIncreasing}
use Rattle.std.proofs.lemmas.Bool.{eqb-true, eq-eqb}
use Rattle.std.proofs.lemmas.List.{length-map}
use Rattle.std.proofs.lemmas.List.Kept.{AllPairs-from_increasing}
use Rattle.rtl_model.specs.basics.Lists.{IsLess, RisesBy}
use Rattle.rtl_model.specs.simulation.Netlist.{Netlist}
use Rattle.rtl_model.specs.simulation.Accepted as f
use Rattle.rtl_model.specs.simulation.Accepted.{Fault, IsFault}
use Rattle.rtl_model.specs.simulation.Faults.{fault_key, AreFaultsOf}
use Rattle.rtl_model.proofs.basics.Lists.{in_contains, contains_in, get_or-map_within}
use Rattle.rtl_body_facts.specs.Reading.{is_in}
use Rattle.rtl_model.specs.nets.FlatNetlist.{ProcessInRange}
use Rattle.rtl_net.specs.declared.process.Process.{Process}
use Rattle.rtl_net.specs.Nets.{NetlistView, process_view}
use Rattle.rtl_net.specs.Elaborated.{IsNet, ReadsOfBody}
use Rattle.rtl_body_facts.specs.declared.kinds.ProcessKind.{ProcessKind}
use Rattle.rtl_check.specs.declared.fault.CheckFault.{CheckFault}
use Rattle.rtl_check.specs.declared.rule.Rule.{Rule}
use Rattle.rtl_check.specs.declared.rule.Rule.TheVariants.{ClockNotInput, EdgeNotSensitive, ClockAsData, MissingSensitivity, Latch}
use Rattle.rtl_net.specs.Core.{core}
use Rattle.rtl_check.specs.Views.{AreClockNets}
use Rattle.rtl_process_kinds.specs.KindViews.{AreKinds}
use Rattle.rtl_check.specs.Listing.{one_place, AddsFaults}
use Rattle.rtl_check.specs.Rules.{fault_of, rule_number, breaks, Pushes}
use Rattle.rtl_process_kinds.proofs.Processes.{many_processes, kind_at}
use Rattle.rtl_check.proofs.Broken.{breaks_to, breaks_from}

at_rule : (r : Rule) (p : ℕ) (x : Fault) → one_place (rule_number r) p x ≡ true → (n : ℕ) × (x ≡ fault_of r p n)
at_rule ClockNotInput p (f.ClockNotInput q n) e = (n, ap (λ (i : ℕ). f.ClockNotInput i n) (eqb-true q p e))
at_rule EdgeNotSensitive p (f.EdgeNotSensitive q n) e = (n, ap (λ (i : ℕ). f.EdgeNotSensitive i n) (eqb-true q p e))
at_rule ClockAsData p (f.ClockAsData q n) e = (n, ap (λ (i : ℕ). f.ClockAsData i n) (eqb-true q p e))
at_rule MissingSensitivity p (f.MissingSensitivity q n) e = (n, ap (λ (i : ℕ). f.MissingSensitivity i n) (eqb-true q p e))
at_rule Latch p (f.Latch q n) e = (n, ap (λ (i : ℕ). f.Latch i n) (eqb-true q p e))
at_rule _ p _ e = absurd cc

here : (r : Rule) (p n : ℕ) → one_place (rule_number r) p (fault_of r p n) ≡ true
here ClockNotInput p n = eq-eqb p p refl
here _ p n = eq-eqb p p refl

in_order : (r : Rule) (p n o : ℕ) → n < o → IsLess (fault_key (fault_of r p n)) (fault_key (fault_of r p o))
in_order ClockNotInput p n o l = inr (refl, inr (refl, inl l))
in_order _ p n o l = inr (refl, inr (refl, inl l))

into_map : {X Y : Type 0} (g : X → Y) (xs : List X) (x : X) → Contains xs x → Contains (map g xs) (g x)
into_map g xs x (k, l, e) = (k, rw (length-map xs g) l, get_or-map_within g xs k x (g x) l ∙ ap g e)

from_map : (g : ℕ → Fault) (xs : List ℕ) (y : Fault) → Contains (map g xs) y → (x : ℕ) × Contains xs x × (y ≡ g x)
from_map g [] y (k, l, e) = absurd (omega arith)
from_map g (x ∷ xs) y (zero, l, e) = (x, (0, omega arith, refl), sym e)
from_map g (x ∷ xs) y (suc k, l, e) = let (z, (j, m, is), same) = from_map g xs y (k, omega arith, e) in (z, (suc j, omega arith, is), same)

map_pairs : (g : ℕ → Fault) (xs : List ℕ) → ((n o : ℕ) → n < o → IsLess (fault_key (g n)) (fault_key (g o))) → IsStrictlyIncreasing xs → RisesBy fault_key (map g xs)
map_pairs g xs less rise i j d l m =
    let h : j < length xs = rw (← length-map xs g) m in
    let k : i < length xs = omega arith in
    let order = AllPairs-from_increasing xs rise i j 0 l h in
    subst (λ (x : Fault). IsLess (fault_key x) (fault_key (get_or (map g xs) j d))) (sym (get_or-map_within g xs i 0 d k))
    (subst (λ (y : Fault). IsLess (fault_key (g (get_or xs i 0))) (fault_key y)) (sym (get_or-map_within g xs j 0 d h)) (less (get_or xs i 0) (get_or xs j 0) order))

pub rule_adds : (net : Netlist) (r : Rule) (p : ℕ) (nets : List ℕ) (old new : List CheckFault) → IsStrictlyIncreasing nets
    → ((n : ℕ) → is_in n nets ≡ true → IsFault net (fault_of r p n)) → ((n : ℕ) → IsFault net (fault_of r p n) → is_in n nets ≡ true)
    → Pushes r p nets old new → AddsFaults net (one_place (rule_number r) p) old new
rule_adds net r p nets old new rise to from pushed = record {
  added = pushed.added;
  is = pushed.is;
  are = subst (AreFaultsOf net (one_place (rule_number r) p)) (sym pushed.are) (record {
    are = λ x. (there x, λ (h, t). back x h t);
    rise = map_pairs (fault_of r p) nets (in_order r p) rise;
  });
}
  where
    there : (x : Fault) → Contains (map (fault_of r p) nets) x → IsFault net x × IsTrue (one_place (rule_number r) p x)
    there x c =
        let (n, k, e) = from_map (fault_of r p) nets x c in
        (subst (IsFault net) (sym e) (to n (contains_in nets n k)), subst (λ (y : Fault). one_place (rule_number r) p y ≡ true) (sym e) (here r p n))

    back : (x : Fault) → IsFault net x → one_place (rule_number r) p x ≡ true → Contains (map (fault_of r p) nets) x
    back x h t =
        let (n, e) = at_rule r p x t in
        subst (Contains (map (fault_of r p) nets)) (sym e) (into_map (fault_of r p) nets n (in_contains nets n (from n (subst (IsFault net) e h))))

-- ---- of a process of a netlist

pub if_done : {T E : Type 0} (P Q : Type 0) (r : Result T E) → (P → Q) → OnOk r P → OnOk r Q
if_done P Q (Ok v) on h = on h
if_done P Q (Err e) on h = h

module _ (net : NetlistView) (elaborated : IsNet net) (p : ℕ) (x : Process) (there : p < length net.processes) (at : x ≡ get_or net.processes p x) where
  pub reads_listed : ReadsOfBody x
  reads_listed = subst ReadsOfBody (sym at) (elaborated.reads p x there)

  pub wakes_rise : IsStrictlyIncreasing x.wakes.items
  wakes_rise =
      let same : get_or (map process_view net.processes) p (process_view x) ≡ process_view x = get_or-map_within process_view net.processes p x (process_view x) there ∙ ap process_view (sym at) in
      let in_range : ProcessInRange net.types (get_or (map process_view net.processes) p (process_view x)) = elaborated.in_range.processes p (process_view x) (rw (length-map net.processes process_view) there) in
      (subst (ProcessInRange net.types) same in_range).wakes_rise

  pub rule_done : (kinds : List ProcessKind) → AreKinds (core net) kinds → (clocks : List ℕ) → AreClockNets (core net) clocks → (d : ProcessKind) (rule : Rule) (nets : List ℕ) (old new : List CheckFault)
      → IsStrictlyIncreasing nets → ((n : ℕ) → is_in n nets ≡ breaks net.inputs clocks x (get_or kinds p d) rule n) → Pushes rule p nets old new
      → AddsFaults (core net) (one_place (rule_number rule) p) old new
  rule_done kinds ks clocks cs d rule nets old new rise are pushed =
      let l : p < length kinds = rw (ks.each_process, many_processes net) there in
      let kind = kind_at (core net) kinds ks p l d (get_or kinds p d) refl in
      rule_adds (core net) rule p nets old new rise
      (λ n t. breaks_to net clocks cs p x there at reads_listed (get_or kinds p d) kind rule n (sym (are n) ∙ t))
      (λ n h. are n ∙ breaks_from net clocks cs p x there at reads_listed (get_or kinds p d) kind rule n h)
      pushed
