-- What a process's body gives the laws of simulation.
use Rattle.std.proofs.Common.{◌≡◌, ◌==◌, ℕ, ◌<◌, ◌≤◌, Bool, true, false, not, ◌&&◌, List, [], ◌∷◌, length, get_or, map, slice_index, Option, Some, None}
use Rattle.std.proofs.Common.{refl, sym, ap, ◌∙◌, subst, IsSome, IsTrue, arith, ◌⊎◌, inl, inr, Contains}
use Rattle.std.specs.List.{range_with_len}
use Rattle.std.specs.Prelude.{nat_lt}
use Rattle.std.proofs.lemmas.List.{get_or_past, length-map}
use Rattle.std.proofs.lemmas.List.FromFn.{length-map-range_with_len, get_or-map-range_with_len}
use Rattle.std.proofs.lemmas.Bool.{cases_lt, cases_Bool, cond-true, cond-false, eqb-true, ltb-true, and_parts}
use Rattle.rtl_model.specs.basics.Valuations.{AgreeOn, clocked_entry}
use Rattle.rtl_model.specs.bodies.Body.{Stmts}
use Rattle.rtl_model.specs.bodies.Values.{Seen}
use Rattle.rtl_model.specs.bodies.Tests.{edge_at}
use Rattle.rtl_model.specs.bodies.Effect.{effect, effect_of}
use Rattle.rtl_model.specs.bodies.Reads.{reads, events}
use Rattle.rtl_model.specs.bodies.Looks.{Sight, net_now, net_before, element_kept, seen_at, looks_of, looked_nets}
use Rattle.rtl_model.specs.bodies.Kinds.{ResetPart, Clocking, clocking, IsClocked}
use Rattle.rtl_model.specs.bodies.Copies.{CopyPart, copying, passed_on}
use Rattle.rtl_model.specs.bodies.Laws.{IsRead, reset_holds, reset_holds_back, entry_of_reset}
use Rattle.rtl_model.specs.nets.FlatNetlist as flat
use Rattle.rtl_model.specs.nets.FlatNetlist.{FlatNetlist, FlatProcess, FlatDriver, targets}
use Rattle.rtl_model.specs.nets.CoreNetlist.{seen_from, part_effect, core_reset, core_kind, acting_branch, copied_at, core_process, core_edges, core_netlist, drives_net}
use Rattle.rtl_model.specs.nets.Laws.{EachKindIsOfBody}
use Rattle.rtl_model.specs.simulation.Netlist as c
use Rattle.rtl_model.specs.simulation.Elaborated.{HasBodies}
use Rattle.rtl_model.proofs.basics.Lists.{Contains-none, is_in, contains_in}
use Rattle.rtl_model.proofs.simulation.Rows.{get_or-map}
use Rattle.rtl_model.proofs.bodies.Assigned.{each_run_assigns}
use Rattle.rtl_model.proofs.bodies.Looking.{each_looks}
use Rattle.rtl_model.proofs.bodies.LooksRead.{looks_are_read, looks_at_reads, looked_net, net_looked}
use Rattle.rtl_model.proofs.bodies.Copying.{each_copy_passes}
use Rattle.rtl_model.proofs.bodies.Clocking.{clocked_is, each_kind_is_as_said, follows_its_edge, resets_read_nothing}

-- ---- a process of the netlist

pub process-core_net : (net : FlatNetlist) (p : ℕ) → c.process (core_netlist net) p ≡ core_process net.wide net.inputs (flat.process_at net p)
process-core_net net p = get_or-map (core_process net.wide net.inputs) net.processes p flat.no_flat_process

-- ---- rows of entries

pub at_row : (body : Stmts) (n k : ℕ) (seen : Seen) → k < n → get_or (effect_of n body seen) k None ≡ effect seen body k
at_row body n k seen h = get_or-map-range_with_len (effect seen body) 0 n k k None h (omega arith)

pub past_row : (body : Stmts) (n k : ℕ) (seen : Seen) → n ≤ k → get_or (effect_of n body seen) k None ≡ None
past_row body n k seen h = get_or_past (effect_of n body seen) k None (omega (arith, length-map-range_with_len (effect seen body) 0 n))

same_rows : (body : Stmts) (n : ℕ) (seen other : Seen) → ((k : ℕ) → effect seen body k ≡ effect other body k) → effect_of n body seen ≡ effect_of n body other
same_rows body n seen other h = λ i. map (λ k. h k i) (range_with_len 0 n)

-- ---- the facts, of a process

module _ (wide : Bool) (inputs : List ℕ) (p : FlatProcess) where
  abbrev clocked : Option Clocking
  clocked = clocking wide inputs p.body

  -- two runs from the initial values that see the same nets, and the same events
  alike_entries : (part : Stmts) (before now before' now' : List ℕ) → AgreeOn (reads part) now now' → AgreeOn (events part) before before'
      → (place : ℕ) → effect (seen_from p before now) part place ≡ effect (seen_from p before' now') part place
  alike_entries part before now before' now' a b = looks_at_reads part (seen_from p before now) (seen_from p before' now') refl at
    where
      at : (sight : Sight) → IsRead part sight → seen_at (seen_from p before now) sight ≡ seen_at (seen_from p before' now') sight
      at (net_now n) r = a n r
      at (net_before n) r = b n r
      at (element_kept e) r = refl

  alike_parts : (part : Stmts) (before now before' now' : List ℕ) → AgreeOn (reads part) now now' → AgreeOn (events part) before before'
      → part_effect p part before now ≡ part_effect p part before' now'
  alike_parts part before now before' now' a b =
      same_rows part (length p.drivers) (seen_from p before now) (seen_from p before' now') (alike_entries part before now before' now' a b)

  without_events : (part : Stmts) → events part ≡ [] → (before before' : List ℕ) → AgreeOn (events part) before before'
  without_events part e before before' n h = absurd (Contains-none n (subst (λ (ns : List ℕ). Contains ns n) e h))

  assigned : (place : ℕ) (before now : List ℕ) → place < length (targets p)
      → ((other : ℕ) → other < length (targets p) → slice_index (targets p) other ≡ slice_index (targets p) place → other ≡ place)
      → IsTrue ((core_process wide inputs p).assigns (slice_index (targets p) place)) → IsSome (get_or ((core_process wide inputs p).effect before now) place None)
  assigned place before now l only h =
      let a = each_run_assigns p.body (drives_net (targets p) (slice_index (targets p) place)) (seen_from p before now) h in
      let f = and_parts (nat_lt a.0 (length (targets p))) (slice_index (targets p) a.0 == slice_index (targets p) place) a.1 in
      let k : a.0 ≡ place = only a.0 (ltb-true a.0 (length (targets p)) f.0) (eqb-true (slice_index (targets p) a.0) (slice_index (targets p) place) f.1) in
      let l' : place < length p.drivers = omega (arith, length-map p.drivers (λ (d : FlatDriver). d.net)) in
      rw (at_row p.body (length p.drivers) place (seen_from p before now) l') (subst (λ (x : ℕ). IsSome (effect (seen_from p before now) p.body x)) k a.2)

  -- a combinational body has no edge test and no `'event`
  combinational_is : (o : Option Clocking) (ns : List ℕ) → core_kind p o ns ≡ c.Combinational → ns ≡ []
  combinational_is None [] h = refl
  combinational_is _ _ h = absurd cc

  entry_looks : (place : ℕ) (before now before' now' : List ℕ) → (core_process wide inputs p).kind ≡ c.Combinational → place < length (targets p) → AgreeOn (looked_nets p.body place) now now'
      → get_or ((core_process wide inputs p).effect before now) place None ≡ get_or ((core_process wide inputs p).effect before' now') place None
  entry_looks place before now before' now' h l a =
      let l' : place < length p.drivers = omega (arith, length-map p.drivers (λ (d : FlatDriver). d.net)) in
      at_row p.body (length p.drivers) place (seen_from p before now) l'
      ∙ each_looks p.body place (seen_from p before now) (seen_from p before' now') refl (λ sight k. at sight k (looks_are_read p.body place sight k))
      ∙ sym (at_row p.body (length p.drivers) place (seen_from p before' now') l')
    where
      at : (sight : Sight) → Contains (looks_of p.body place) sight → IsRead p.body sight → seen_at (seen_from p before now) sight ≡ seen_at (seen_from p before' now') sight
      at (net_now n) k r = a n (net_looked (looks_of p.body place) n k)
      at (net_before n) k r = without_events p.body (combinational_is clocked (events p.body) h) before before' n r
      at (element_kept e) k r = refl

  nets_are_read : (place n : ℕ) → Contains (looked_nets p.body place) n → Contains (reads p.body) n
  nets_are_read place n k = looks_are_read p.body place (net_now n) (looked_net (looks_of p.body place) n k)

  branch_event : (k : Clocking) → clocking wide inputs p.body ≡ Some k → events k.branch ≡ []
  branch_event k e = go (clocked_is wide inputs p.body k e)
    where
      go : IsClocked wide inputs p.body k → events k.branch ≡ []
      go (inl x) = x.no_event
      go (inr (inl x)) = x.no_event
      go (inr (inr x)) = x.no_event

  branch_reads : (v w : List ℕ) → AgreeOn (core_process wide inputs p).acting_reads v w → (core_process wide inputs p).acting_effect v ≡ (core_process wide inputs p).acting_effect w
  branch_reads v w a = go clocked refl a
    where
      go : (o : Option Clocking) → clocked ≡ o → AgreeOn (reads (acting_branch o)) v w → part_effect p (acting_branch o) v v ≡ part_effect p (acting_branch o) w w
      go None e a = refl
      go (Some k) e a = alike_parts k.branch v v w w a (without_events k.branch (branch_event k e) v w)

  -- ---- clocked processes

  -- a clocked kind is that of a clocked body
  pub record IsAtEdge (clock : ℕ) (edge : c.Edge) (reset : Option c.Reset) : Type 0 where
    pub parts : Clocking
    pub is : clocking wide inputs p.body ≡ Some parts
    pub clock_is : parts.test.clock ≡ clock
    pub edge_is : parts.test.edge ≡ edge
    pub reset_is : core_reset p parts.reset ≡ reset

  pub is_at_edge : (clock : ℕ) (edge : c.Edge) (reset : Option c.Reset) → (core_process wide inputs p).kind ≡ c.Clocked clock edge reset → IsAtEdge clock edge reset
  is_at_edge clock edge reset h = go clocked (events p.body) refl h
    where
      go : (o : Option Clocking) (ns : List ℕ) → clocked ≡ o → core_kind p o ns ≡ c.Clocked clock edge reset → IsAtEdge clock edge reset
      go None [] e h = absurd cc
      go None (n ∷ ns) e h = absurd cc
      go (Some k) ns e h =
          let a : k.test.clock ≡ clock = cc in
          let b : k.test.edge ≡ edge = cc in
          let d : core_reset p k.reset ≡ reset = cc in
          record { parts = k; is = e; clock_is = a; edge_is = b; reset_is = d }

  -- a reset's branch has the same entries in all valuations
  pub reset_anywhere : (k : Clocking) (x : ResetPart) → clocking wide inputs p.body ≡ Some k → k.reset ≡ Some x → (before now : List ℕ)
      → part_effect p x.branch before now ≡ part_effect p x.branch [] []
  reset_anywhere k x e r before now =
      let (a, b) = resets_read_nothing wide inputs p.body k x e r in
      alike_parts x.branch before now [] []
      (λ n h. absurd (Contains-none n (subst (λ (ns : List ℕ). Contains ns n) a h)))
      (without_events x.branch b before [])

  reset_entries : (k : Clocking) → clocking wide inputs p.body ≡ Some k → (before now : List ℕ) (place : ℕ) → place < length p.drivers
      → entry_of_reset (seen_from p before now) k.reset place ≡ c.reset_entry (core_reset p k.reset) place
  reset_entries k e before now place l = go k.reset refl
    where
      go : (o : Option ResetPart) → k.reset ≡ o → entry_of_reset (seen_from p before now) o place ≡ c.reset_entry (core_reset p o) place
      go None r = refl
      go (Some x) r =
          sym (at_row x.branch (length p.drivers) place (seen_from p before now) l)
          ∙ ap (λ (row : List (Option ℕ)). get_or row place None) (reset_anywhere k x e r before now)

  holds_alike : (o : Option ResetPart) (before now : List ℕ) → reset_holds (seen_from p before now) o ≡ c.resets (core_reset p o) (slice_index now)
  holds_alike None before now = refl
  holds_alike (Some x) before now = refl

  gates_alike : (o : Option ResetPart) (before now : List ℕ) → reset_holds_back (seen_from p before now) o ≡ c.holds_back (core_reset p o) (slice_index now)
  gates_alike None before now = refl
  gates_alike (Some x) before now = refl

  no_entry : (o : Option ResetPart) (place : ℕ) → length p.drivers ≤ place → None ≡ c.reset_entry (core_reset p o) place
  no_entry None place l = refl
  no_entry (Some x) place l = sym (past_row x.branch (length p.drivers) place (seen_from p [] []) l)

  none_at_all : (r t : Bool) → None ≡ clocked_entry r t None None
  none_at_all true true = refl
  none_at_all true false = refl
  none_at_all false true = refl
  none_at_all false false = refl

  -- what a clocked process has, by its reset, its edge and its branches
  abbrev acting_entry : Option c.Reset → (edge : Bool) → (now : List ℕ) → (of_reset of_branch : Option ℕ) → Option ℕ
  acting_entry reset edge now of_reset of_branch = clocked_entry (c.resets reset (slice_index now)) (edge && not (c.holds_back reset (slice_index now))) of_reset of_branch

  clocked_acts : (clock place : ℕ) (edge : c.Edge) (reset : Option c.Reset) (before now : List ℕ) → (core_process wide inputs p).kind ≡ c.Clocked clock edge reset
      → get_or ((core_process wide inputs p).effect before now) place None
      ≡ acting_entry reset (core_edges edge (slice_index before clock) (slice_index now clock)) now (c.reset_entry reset place) (get_or ((core_process wide inputs p).acting_effect now) place None)
  clocked_acts clock place edge reset before now h =
      let x = is_at_edge clock edge reset h in
      let k = x.parts in
      go x (cases_lt place (length p.drivers))
      ∙ (λ i. acting_entry (x.reset_is i) (core_edges (x.edge_is i) (slice_index before (x.clock_is i)) (slice_index now (x.clock_is i))) now (c.reset_entry (x.reset_is i) place) (get_or (part_effect p (acting_branch (sym x.is i)) now now) place None))
    where
      acts : (k : Clocking) → clocking wide inputs p.body ≡ Some k → effect (seen_from p now now) k.branch place ≡ effect (seen_from p before now) k.branch place
      acts k e = alike_entries k.branch now now before now (λ n h. refl) (without_events k.branch (branch_event k e) now before) place

      go : (x : IsAtEdge clock edge reset) → (place < length p.drivers) ⊎ (length p.drivers ≤ place)
          → get_or (part_effect p p.body before now) place None
          ≡ acting_entry (core_reset p x.parts.reset) (core_edges x.parts.test.edge (slice_index before x.parts.test.clock) (slice_index now x.parts.test.clock)) now (c.reset_entry (core_reset p x.parts.reset) place) (get_or (part_effect p x.parts.branch now now) place None)
      go x (inl l) =
          let k = x.parts in
          let row : get_or (part_effect p k.branch now now) place None ≡ effect (seen_from p before now) k.branch place = at_row k.branch (length p.drivers) place (seen_from p now now) l ∙ acts k x.is in
          at_row p.body (length p.drivers) place (seen_from p before now) l
          ∙ follows_its_edge wide inputs p.body k x.is (seen_from p before now) place
          ∙ (λ i. clocked_entry (holds_alike k.reset before now i) (edge_at (seen_from p before now) k.test.edge k.test.clock && not (gates_alike k.reset before now i)) (reset_entries k x.is before now place l i) (sym row i))
      go x (inr l) =
          let k = x.parts in
          let edge_holds = core_edges k.test.edge (slice_index before k.test.clock) (slice_index now k.test.clock) in
          past_row p.body (length p.drivers) place (seen_from p before now) l
          ∙ none_at_all (c.resets (core_reset p k.reset) (slice_index now)) (edge_holds && not (c.holds_back (core_reset p k.reset) (slice_index now)))
          ∙ (λ i. acting_entry (core_reset p k.reset) edge_holds now (no_entry k.reset place l i) (sym (past_row k.branch (length p.drivers) place (seen_from p now now) l) i))

  -- ---- resets

  reset_part : (o : Option ResetPart) (r : c.Reset) → core_reset p o ≡ Some r → (x : ResetPart) × (o ≡ Some x) × (x.test.net ≡ r.net) × (x.gates ≡ r.gates)
  reset_part None r h = absurd cc
  reset_part (Some x) r h =
      let e : record { net = x.test.net; value = x.test.value; entries = part_effect p x.branch [] []; gates = x.gates } ≡ r = cc in
      (x, refl, ap (λ (y : c.Reset). y.net) e, ap (λ (y : c.Reset). y.gates) e)

  resets_are_narrow : (r : c.Reset) → c.kind_reset (core_process wide inputs p).kind ≡ Some r → (IsTrue (is_in inputs r.net) × IsTrue r.gates) ⊎ IsTrue wide
  resets_are_narrow r h = go clocked (events p.body) refl h
    where
      with_input : (y x : ResetPart) → y ≡ x → y.gates ≡ true → (wide ≡ true) ⊎ Contains inputs y.test.net → (Contains inputs x.test.net × (x.gates ≡ true)) ⊎ (wide ≡ true)
      with_input y x same gating (inl w) = inr w
      with_input y x same gating (inr k) = inl (subst (λ (z : ResetPart). Contains inputs z.test.net) same k, subst (λ (z : ResetPart). z.gates ≡ true) same gating)

      among : (k : Clocking) (x : ResetPart) → k.reset ≡ Some x → IsClocked wide inputs p.body k → (Contains inputs x.test.net × (x.gates ≡ true)) ⊎ (wide ≡ true)
      among k x e (inl y) = let f = y.no_reset in absurd cc
      among k x e (inr (inl y)) = with_input y.reset x (let f = y.reset_is in let g : y.reset ≡ x = cc in g) y.gating y.resets.may_reset
      among k x e (inr (inr y)) = inr y.is_wide

      of_part : (x : ResetPart) → x.test.net ≡ r.net → x.gates ≡ r.gates → (Contains inputs x.test.net × (x.gates ≡ true)) ⊎ (wide ≡ true) → (IsTrue (is_in inputs r.net) × IsTrue r.gates) ⊎ IsTrue wide
      of_part x net gating (inl (k, g)) = inl (subst (λ (n : ℕ). is_in inputs n ≡ true) net (contains_in inputs x.test.net k), sym gating ∙ g)
      of_part x net gating (inr w) = inr w

      go : (o : Option Clocking) (ns : List ℕ) → clocked ≡ o → c.kind_reset (core_kind p o ns) ≡ Some r → (IsTrue (is_in inputs r.net) × IsTrue r.gates) ⊎ IsTrue wide
      go None [] e h = absurd cc
      go None (n ∷ ns) e h = absurd cc
      go (Some k) ns e h =
          let (x, is, net, gating) = reset_part k.reset r h in
          of_part x net gating (among k x is (clocked_is wide inputs p.body k e))

  -- ---- copies

  copies_pass : (place : ℕ) (copy : c.Copy) (before now : List ℕ) → place < length (targets p) → copied_at (copying p.body) place ≡ Some copy → get_or (part_effect p p.body before now) place None ≡ Some (copy.passed (slice_index now copy.net))
  copies_pass place copy before now l h = go (copying p.body) refl h
    where
      at_place : (part : CopyPart) → copying p.body ≡ Some part → part.place ≡ place → record { net = part.net; passed = passed_on part.inverted } ≡ copy → get_or (part_effect p p.body before now) place None ≡ Some (copy.passed (slice_index now copy.net))
      at_place part e at is =
          let l' : place < length p.drivers = omega (arith, length-map p.drivers (λ (d : FlatDriver). d.net)) in
          at_row p.body (length p.drivers) place (seen_from p before now) l'
          ∙ subst (λ (k : ℕ). effect (seen_from p before now) p.body k ≡ Some (passed_on part.inverted (slice_index now part.net))) at (each_copy_passes p.body part (seen_from p before now) e)
          ∙ ap (λ (k : c.Copy). Some (k.passed (slice_index now k.net))) is

      same_copy : (a b : c.Copy) → Some a ≡ Some b → a ≡ b
      same_copy a b e = cc

      by : (part : CopyPart) → copying p.body ≡ Some part → (part.place == place ≡ true) ⊎ (part.place == place ≡ false) → copied_at (Some part) place ≡ Some copy → get_or (part_effect p p.body before now) place None ≡ Some (copy.passed (slice_index now copy.net))
      by part e (inl t) g =
          let found : Some (record { net = part.net; passed = passed_on part.inverted }) ≡ Some copy = sym (cond-true _ _ _ t) ∙ g in
          at_place part e (eqb-true part.place place t) (same_copy _ _ found)
      by part e (inr f) g = let none : None ≡ Some copy = sym (cond-false _ _ _ f) ∙ g in absurd cc

      go : (o : Option CopyPart) → copying p.body ≡ o → copied_at o place ≡ Some copy → get_or (part_effect p p.body before now) place None ≡ Some (copy.passed (slice_index now copy.net))
      go None e g = absurd cc
      go (Some part) e g = by part e (cases_Bool (part.place == place)) g

-- ---- kinds

module _ (p : FlatProcess) where
  plain_kind : (wide : Bool) (inputs : List ℕ) (o : Option Clocking) (ns : List ℕ) → clocking wide inputs p.body ≡ o → events p.body ≡ ns → ns ≡ [] → core_kind p o ns ≡ c.Combinational
  plain_kind wide inputs None [] a b e = refl
  plain_kind wide inputs None (n ∷ ns) a b e = absurd cc
  plain_kind wide inputs (Some k) ns a b e = absurd ((each_kind_is_as_said wide inputs).has_event p.body k a (b ∙ e))

  mixed_parts : (o : Option Clocking) (ns : List ℕ) → core_kind p o ns ≡ c.Mixed → (o ≡ None) × (ns ≡ [] → ⊥)
  mixed_parts None (n ∷ ns) h = (refl, λ e. cc)
  mixed_parts _ _ h = absurd cc

  mixed_kind : (o : Option Clocking) (ns : List ℕ) → o ≡ None → (ns ≡ [] → ⊥) → core_kind p o ns ≡ c.Mixed
  mixed_kind None [] e h = absurd (h refl)
  mixed_kind None (n ∷ ns) e h = refl
  mixed_kind (Some k) ns e h = absurd cc

pub each_kind_is_of_body : EachKindIsOfBody
each_kind_is_of_body wide inputs p = record {
  combinational = (combinational_is wide inputs p (clocking wide inputs p.body) (events p.body), plain_kind p wide inputs (clocking wide inputs p.body) (events p.body) refl refl);
  clocked = (
    λ (clock, edge, reset, h). let x = is_at_edge wide inputs p clock edge reset h in (x.parts, x.is),
    λ (k, e). (k.test.clock, k.test.edge, core_reset p k.reset, ap (λ (o : Option Clocking). core_kind p o (events p.body)) e),
  );
  mixed = (mixed_parts p (clocking wide inputs p.body) (events p.body), λ (e, some). mixed_kind p (clocking wide inputs p.body) (events p.body) e some);
}

-- ---- the facts, of a netlist

pub has_bodies : (net : FlatNetlist) → HasBodies (core_netlist net)
has_bodies net = record {
  assigned = λ p place before now is l only h. of_assigned p place before now l only h;
  entry_looks = λ p place before now before' now' is l a. of_entry p place before now before' now' is.1 l a;
  looks_are_read = of_looks;
  branch_reads = λ p clock edge v w is a. of_branch p v w a;
  clocked_acts = λ p clock place edge before now is. of_clocked p clock place edge is.0 before now is.1;
  resets_are_narrow = of_reset;
  copies_pass = of_copies;
}
  where
    of_assigned : (p place : ℕ) (before now : List ℕ) → c.HasPlace (core_netlist net) p place
        → ((other : ℕ) → c.HasPlace (core_netlist net) p other → c.target (core_netlist net) p other ≡ c.target (core_netlist net) p place → other ≡ place)
        → IsTrue ((c.process (core_netlist net) p).assigns (c.target (core_netlist net) p place)) → IsSome (get_or ((c.process (core_netlist net) p).effect before now) place None)
    of_assigned p place before now = rw (process-core_net net p) (assigned net.wide net.inputs (flat.process_at net p) place before now)

    of_entry : (p place : ℕ) (before now before' now' : List ℕ) → (c.process (core_netlist net) p).kind ≡ c.Combinational → c.HasPlace (core_netlist net) p place → AgreeOn ((c.process (core_netlist net) p).looks place) now now'
        → get_or ((c.process (core_netlist net) p).effect before now) place None ≡ get_or ((c.process (core_netlist net) p).effect before' now') place None
    of_entry p place before now before' now' = rw (process-core_net net p) (entry_looks net.wide net.inputs (flat.process_at net p) place before now before' now')

    of_looks : (p place n : ℕ) → Contains ((c.process (core_netlist net) p).looks place) n → Contains (c.process (core_netlist net) p).reads n
    of_looks p place n = rw (process-core_net net p) (nets_are_read net.wide net.inputs (flat.process_at net p) place n)

    of_branch : (p : ℕ) (v w : List ℕ) → AgreeOn (c.process (core_netlist net) p).acting_reads v w
        → (c.process (core_netlist net) p).acting_effect v ≡ (c.process (core_netlist net) p).acting_effect w
    of_branch p v w = rw (process-core_net net p) (branch_reads net.wide net.inputs (flat.process_at net p) v w)

    of_clocked : (p clock place : ℕ) (edge : c.Edge) (reset : Option c.Reset) (before now : List ℕ) → (c.process (core_netlist net) p).kind ≡ c.Clocked clock edge reset
        → get_or ((c.process (core_netlist net) p).effect before now) place None
        ≡ clocked_entry (c.resets (c.reset_of (core_netlist net) p) (slice_index now)) (core_edges edge (slice_index before clock) (slice_index now clock) && not (c.holds_back (c.reset_of (core_netlist net) p) (slice_index now))) (c.reset_entry (c.reset_of (core_netlist net) p) place) (get_or ((c.process (core_netlist net) p).acting_effect now) place None)
    of_clocked p clock place edge reset before now h =
        subst (λ (r : Option c.Reset). get_or ((c.process (core_netlist net) p).effect before now) place None
        ≡ clocked_entry (c.resets r (slice_index now)) (core_edges edge (slice_index before clock) (slice_index now clock) && not (c.holds_back r (slice_index now))) (c.reset_entry r place) (get_or ((c.process (core_netlist net) p).acting_effect now) place None))
        (sym (ap c.kind_reset h)) (of_kind p clock place edge reset before now h)
      where
        of_kind : (p clock place : ℕ) (edge : c.Edge) (reset : Option c.Reset) (before now : List ℕ) → (c.process (core_netlist net) p).kind ≡ c.Clocked clock edge reset
            → get_or ((c.process (core_netlist net) p).effect before now) place None
            ≡ clocked_entry (c.resets reset (slice_index now)) (core_edges edge (slice_index before clock) (slice_index now clock) && not (c.holds_back reset (slice_index now))) (c.reset_entry reset place) (get_or ((c.process (core_netlist net) p).acting_effect now) place None)
        of_kind p clock place edge reset before now = rw (process-core_net net p) (clocked_acts net.wide net.inputs (flat.process_at net p) clock place edge reset before now)

    of_reset : (p : ℕ) (reset : c.Reset) → c.HasReset (core_netlist net) p reset → (c.IsInput (core_netlist net) reset.net × IsTrue reset.gates) ⊎ IsTrue net.wide
    of_reset p reset = rw (process-core_net net p) (resets_are_narrow net.wide net.inputs (flat.process_at net p) reset)

    of_copies : (p place : ℕ) (copy : c.Copy) (before now : List ℕ) → c.HasPlace (core_netlist net) p place → (c.process (core_netlist net) p).copies place ≡ Some copy
        → get_or ((c.process (core_netlist net) p).effect before now) place None ≡ Some (copy.passed (slice_index now copy.net))
    of_copies p place copy before now = rw (process-core_net net p) (copies_pass net.wide net.inputs (flat.process_at net p) place copy before now)
