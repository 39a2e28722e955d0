-- The parts that are made show the netlist of the numbered design.
use Rattle.std.proofs.Common.{◌≡◌, ℕ, zero, suc, ◌+◌, ◌<◌, Bool, true, false, not, ◌&&◌, List, [], ◌∷◌, ◌++◌, length, map, All, Ok, Err, refl, sym, ap, ◌∙◌, arith}
use Rattle.std.specs.Prelude.{nat_le, slice_index, flat_map}
use Rattle.std.specs.List.{AllZip, AllByRecursion, range_with_len, enumerate_from}
use Rattle.std.proofs.lemmas.List.{length-map}
use Rattle.std.proofs.lemmas.List.Elements.{All-nil, All-cons, All-weaker}
use Rattle.smallvec.specs.SmallVec.{SmallVec}
use Rattle.rtl_model.specs.nets.FlatNetlist.{FlatNetlist, flat_sources, starts}
use Rattle.rtl_model.specs.simulation.Cycle.{source_value}
use Rattle.rtl_net.specs.declared.building.Parts.{Parts}
use Rattle.rtl_net.specs.declared.process.Process.{Process}
use Rattle.rtl_net.specs.Elaborated.{ReadsOfBody}
use Rattle.rtl_net.specs.Nets.{scope_view, signal_view, type_of, process_view}
use Rattle.rtl_net.specs.Parts.{idle_at, assembled}
use Rattle.vhdl_expand_rules.specs.declared.fault.ElabProblem.TheVariants.{TwoUnresolved, ReadOfShared}
use Rattle.vhdl_expand_rules.specs.Elab.{Told, Elab, ◌>>◌, unless}
use Rattle.vhdl_elab_rules.specs.Numbering.{Placed, Located, Numbered}
use Rattle.vhdl_elab_rules.specs.Wiring as wiring
use Rattle.vhdl_elab_rules.specs.Wiring.{elements_of, own_elements, idle_values, is_output, flat_process, start_of, flat_net}
use Rattle.vhdl_elab_rules.specs.Limits as limits
use Rattle.vhdl_elab_rules.specs.Limits.{elements, has_two_unresolved, has_read_of_shared, is_shared}
use Rattle.vhdl_elab_rules.specs.Names.{scope_of, signals_of, named_process}
use Rattle.vhdl_elab_rules.specs.Elaboration.{net_of}
use Rattle.vhdl_elab_rules.specs.laws.Scopes.{scope_views}
use Rattle.vhdl_elab_rules.specs.Shown.{Shown, signal_shown, process_shown, net_process_shown, shown, as_shown, net_shown}
use Rattle.vhdl_connect.specs.Held as held
use Rattle.vhdl_connect.specs.Held.{processes_hold, idle_hold, items_at, start_with}
use Rattle.vhdl_connect.proofs.Sourced.{sources_hold, nets_start}
use Rattle.vhdl_elab.specs.declared.made.Made.{Made}
use Rattle.vhdl_elab.specs.Made.{element_view, statics_of, uses_of}
use Rattle.vhdl_elab.specs.declared.wires.Wires.{Wires}
use Rattle.vhdl_elab.specs.Tables.{inputs_in, idle_in, first_at, is_two_unresolved, is_read_of_shared}
use Rattle.vhdl_elab.specs.Wires.{used, IsHeld, IsWires, IsRefused, two_unresolved, read_of_shared}
use Rattle.vhdl_elab.specs.Settled.{IsSettled}
use Rattle.vhdl_elab.specs.Wired.{wired, NetsAreThere}
use Rattle.vhdl_elab.proofs.Seen.{Seen, seen_as, at_in, first_in, found-at, none-found, first-through, two-unresolved, inputs-are, idle-are}

-- ---- processes

flat-all : (count : ℕ) (xs : List Located) (ps : List Process) → AllZip (IsSettled count) xs ps → map process_view ps ≡ map (flat_process count) xs
flat-all count [] [] h = refl
flat-all count (x ∷ xs) (p ∷ ps) h = λ i. h.0.flat i ∷ flat-all count xs ps h.1 i
flat-all count _ _ h = elim h [ ]

shown-all : (count : ℕ) (xs : List Located) (ps : List Process) → AllZip (IsSettled count) xs ps → map net_process_shown ps ≡ map process_shown (map named_process xs)
shown-all count [] [] h = refl
shown-all count (x ∷ xs) (p ∷ ps) h = λ i. h.0.shown i ∷ shown-all count xs ps h.1 i
shown-all count _ _ h = elim h [ ]

pub reads-all : (count : ℕ) (xs : List Located) (ps : List Process) → AllZip (IsSettled count) xs ps → All ReadsOfBody ps
reads-all count [] [] h = All-nil ReadsOfBody
reads-all count (x ∷ xs) (p ∷ ps) h = All-cons ReadsOfBody p ps h.0.reads (reads-all count xs ps h.1)
reads-all count _ _ h = elim h [ ]

-- ---- maps over a run

map-run : {A : Type 0} (f g : ℕ → A) (first n bound : ℕ) → first + n ≡ bound → ((k : ℕ) → k < bound → f k ≡ g k) → map f (range_with_len first n) ≡ map g (range_with_len first n)
map-run f g first zero bound e h = refl
map-run f g first (suc n) bound e h = λ i. h first (omega (arith, e)) i ∷ map-run f g (first + 1) n bound (omega (arith, e)) h i

-- ---- the tables of a design

-- tables that are made of a design, whose processes are those of its flat netlist
pub record IsTold (d : Numbered) (m : Made) : Type 0 where
  pub scopes : map scope_view m.scopes.items ≡ scope_views (map scope_of d.instances)
  pub signals : map signal_view m.signals.items ≡ map signal_shown (flat_map signals_of (enumerate_from 0 d.instances))
  pub processes : AllZip (IsSettled d.nets) d.processes m.processes.items
  pub kinds : map type_of m.kinds.items ≡ map (λ (e : wiring.Element). e.type) (own_elements d)
  pub defaults : m.defaults.items ≡ map (λ (e : wiring.Element). e.start) (own_elements d)
  pub nets : length m.kinds.items ≡ d.nets
  pub elements : map element_view m.elements.items ≡ flat_map statics_of d.instances
  pub uses : m.uses.items ≡ flat_map uses_of d.instances

module _ (d : Numbered) (m : Made) (h : IsTold d m) (same : length m.kinds.items ≡ length m.defaults.items) where
  many : length m.defaults.items ≡ d.nets
  many = sym same ∙ h.nets

  idle-is : map (idle_at (idle_in (used m))) (range_with_len 0 d.nets) ≡ map (idle_values d) (range_with_len 0 d.nets)
  idle-is = map-run (idle_at (idle_in (used m))) (idle_values d) 0 d.nets d.nets (omega arith) (λ n l. idle-are d.instances m.elements.items m.uses.items h.elements h.uses n)

  -- the flat netlist by the tables
  flat-is : held.with_defaults (map type_of m.kinds.items) (inputs_in m.elements.items) m.defaults.items (idle_in (used m)) m.processes.items ≡ wiring.with_defaults d
  flat-is = λ i. record {
    types = h.kinds i;
    start = h.defaults i;
    inputs = inputs-are d.instances m.elements.items h.elements i;
    idle = (ap (λ n. map (idle_at (idle_in (used m))) (range_with_len 0 n)) many ∙ idle-is) i;
    processes = flat-all d.nets d.processes m.processes.items h.processes i;
    wide = false;
  }

  module _ (table : List (SmallVec ℕ)) (t : IsHeld m table) where
    held-there : (n : ℕ) → n < d.nets → items_at table n ≡ processes_hold m.processes.items n ++ idle_hold (idle_in (used m)) n
    held-there n l = t.each.each n (omega (arith, l, t.long, h.nets))

    starts-are : map (λ n. start_with (slice_index m.defaults.items n) (items_at table n)) (range_with_len 0 (length m.defaults.items)) ≡ (flat_net d).start
    unfolding flat_net
    starts-are =
        ap (λ n. map (λ k. start_with (slice_index m.defaults.items k) (items_at table k)) (range_with_len 0 n)) many
        ∙ map-run (λ k. start_with (slice_index m.defaults.items k) (items_at table k)) (start_of (wiring.with_defaults d)) 0 d.nets d.nets (omega arith)
        (λ k l. ap (start_with (slice_index m.defaults.items k)) (held-there k l)
        ∙ sym (nets_start (map type_of m.kinds.items) (inputs_in m.elements.items) m.defaults.items (idle_in (used m)) m.processes.items k (omega (arith, l, many)))
        ∙ ap (λ (net : FlatNetlist). start_of net k) flat-is)

    shared-is : (n : ℕ) → n < d.nets → nat_le 2 (length (items_at table n)) ≡ is_shared (flat_net d) n
    unfolding flat_net
    shared-is n l =
        let net = held.with_defaults (map type_of m.kinds.items) (inputs_in m.elements.items) m.defaults.items (idle_in (used m)) m.processes.items in
        ap (λ vs. nat_le 2 (length vs)) (held-there n l ∙ sym (sources_hold (map type_of m.kinds.items) (inputs_in m.elements.items) m.defaults.items (idle_in (used m)) m.processes.items n (omega (arith, l, many))))
        ∙ ap (nat_le 2) (length-map (flat_sources net n) (source_value (map starts (map process_view m.processes.items))))
        ∙ ap (λ (f : FlatNetlist). nat_le 2 (length (flat_sources f n))) flat-is

    reads-are : NetsAreThere d → first_at (is_read_of_shared table) (used m) ≡ first_in at_in (limits.is_read_of_shared (flat_net d)) (elements d)
    reads-are there = first-through d.instances m.elements.items m.uses.items h.elements h.uses shared (limits.is_read_of_shared (flat_net d)) (everywhere d.instances there.elements)
      where
        shared : Seen → Bool
        shared s = is_output s.0.role && (s.1.is_read && nat_le 2 (length (items_at table s.0.net)))

        assoc : (a b c : Bool) → (a && (b && c)) ≡ (a && b && c)
        assoc true true c = refl
        assoc true false c = refl
        assoc false true c = refl
        assoc false false c = refl

        agree : (e : wiring.Element) → e.net < d.nets → (top : Bool) → shared (seen_as top e) ≡ (is_output e.role && e.is_read && is_shared (flat_net d) e.net)
        agree e l top = ap (λ b. is_output e.role && (e.is_read && b)) (shared-is e.net l) ∙ assoc (is_output e.role) e.is_read (is_shared (flat_net d) e.net)

        everywhere : (qs : List Placed) → AllByRecursion (λ (p : Placed). All (λ (e : wiring.Element). e.net < d.nets) (elements_of p)) qs
            → AllByRecursion (λ (pl : Placed). All (λ (e : wiring.Element). (top : Bool) → shared (seen_as top e) ≡ (is_output e.role && e.is_read && is_shared (flat_net d) e.net)) (elements_of pl)) qs
        everywhere [] b = tt
        everywhere (q ∷ qs) b = (All-weaker (λ (e : wiring.Element). e.net < d.nets) _ (λ e l. agree e l) (elements_of q) b.0, everywhere qs b.1)

  two-is : first_at is_two_unresolved (used m) ≡ first_in at_in limits.is_two_unresolved (elements d)
  two-is = two-unresolved d.instances m.elements.items m.uses.items h.elements h.uses

  -- ---- accepted and refused

  abbrev refused : Told → Elab Shown
  refused told = Err told

  abbrev two_at : ℕ
  two_at = limits.first_at limits.is_two_unresolved (elements d)

  abbrev read_at : ℕ
  read_at = limits.first_at (limits.is_read_of_shared (flat_net d)) (elements d)

  wired-by : (a b : Bool) → has_two_unresolved d ≡ a → has_read_of_shared d (flat_net d) ≡ b
      → as_shown (wired d) ≡ as_shown (unless TwoUnresolved two_at (not a) >> (unless ReadOfShared read_at (not b) >> Ok (net_of d)))
  wired-by a b p q = λ i. as_shown (unless TwoUnresolved two_at (not (p i)) >> (unless ReadOfShared read_at (not (q i)) >> Ok (net_of d)))

  pub is-refused : (told : Told) → NetsAreThere d → IsRefused m told → as_shown (wired d) ≡ Err told
  is-refused told there (two_unresolved is e) =
      let f = found-at limits.is_two_unresolved (elements d) told.1 (sym two-is ∙ e) in
      wired-by true (has_read_of_shared d (flat_net d)) f.0 refl ∙ (λ i. refused (sym is i, f.1 i))
  is-refused told there (read_of_shared is resolved table t e) =
      let f = found-at (limits.is_read_of_shared (flat_net d)) (elements d) told.1 (sym (reads-are table t there) ∙ e) in
      wired-by false true (none-found limits.is_two_unresolved (elements d) (sym two-is ∙ resolved)) f.0 ∙ (λ i. refused (sym is i, f.1 i))

  abbrev made : Wires → Parts
  made w = record {
    kinds = m.kinds;
    starts = w.starts;
    idle = w.idle;
    inputs = w.inputs;
    processes = m.processes;
    scopes = m.scopes;
    signals = m.signals;
  }

  pub is-shown : (w : Wires) (p : Parts) → NetsAreThere d → IsWires m w → p ≡ made w → as_shown (wired d) ≡ Ok (net_shown (assembled p))
  unfolding flat_net
  is-shown w p there k e =
      wired-by false false (none-found limits.is_two_unresolved (elements d) (sym two-is ∙ k.resolved))
      (none-found (limits.is_read_of_shared (flat_net d)) (elements d) (sym (reads-are k.table k.held there) ∙ k.unread))
      ∙ ap (λ (s : Shown). Ok s) (sym parts-are) ∙ ap (λ (q : Parts). Ok (net_shown (assembled q))) (sym e)
    where
      parts-are : net_shown (assembled (made w)) ≡ shown (net_of d)
      parts-are = λ i. record {
        flat = record {
          types = h.kinds i;
          start = (k.starts ∙ starts-are k.table k.held) i;
          inputs = (k.inputs ∙ inputs-are d.instances m.elements.items h.elements) i;
          idle = ((λ j. map (idle_at (k.idle j)) (range_with_len 0 (h.nets j))) ∙ idle-is) i;
          processes = flat-all d.nets d.processes m.processes.items h.processes i;
          wide = false;
        };
        scopes = h.scopes i;
        signals = h.signals i;
        processes = shown-all d.nets d.processes m.processes.items h.processes i;
      }
