-- What nets copy and are reset by is there, and a reset's net has the nine values.
use Rattle.std.proofs.Common.{◌≡◌, ℕ, ◌<◌, ◌≤◌, ◌==◌, Bool, true, false, List, [], ◌∷◌, length, get_or, map, Option, Some, None, refl, sym, ap, subst, ◌∙◌, arith, ◌⊎◌, inl, inr, Contains}
use Rattle.std.specs.Prelude.{if◌then◌else◌, option_map}
use Rattle.std.specs.List.{range_with_len}
use Rattle.std.proofs.lemmas.List.FromFn.{length-range_with_len}
use Rattle.std.proofs.lemmas.Bool.{cases_lt}
use Rattle.std.proofs.lemmas.List.{length-map, get_or_past, get_or_default}
use Rattle.std.proofs.lemmas.Option.{get_or_from_slice_get, slice_get-map}
use Rattle.rtl_model.specs.bodies.Body.{Stmts}
use Rattle.rtl_model.specs.bodies.Copies.{CopyPart, copying, passed_on}
use Rattle.rtl_model.specs.bodies.Kinds.{clocking}
use Rattle.rtl_model.specs.bodies.Types.{ElementType, HasType, nine_valued, limit_of}
use Rattle.rtl_model.specs.bodies.Reads.{reads, events}
use Rattle.rtl_model.specs.bodies.Effect.{effect}
use Rattle.rtl_model.specs.nets.FlatNetlist.{FlatDriver, ProcessInRange, scope_of}
use Rattle.rtl_model.specs.nets.CoreNetlist.{core_process, copied_at, part_effect, seen_from}
use Rattle.rtl_model.specs.simulation.Netlist as m
use Rattle.rtl_model.specs.simulation.Netlist.{Netlist, Copy, Reset, HasReset, kind_reset, process, reset_of}
use Rattle.rtl_model.specs.simulation.Calm.{Copies}
use Rattle.rtl_model.proofs.basics.Lists.{get_or-map_within}
use Rattle.rtl_model.proofs.nets.Connected.{connected_is_elaborated}
use Rattle.rtl_net.specs.declared.process.Process.{Process}
use Rattle.rtl_net.specs.Nets.{NetlistView, flat, driver_view, process_view, body_of}
use Rattle.rtl_net.specs.Elaborated.{IsNet}
use Rattle.rtl_net.specs.Core.{core}
use Rattle.rtl_body_facts.specs.declared.kinds.ProcessKind.{ProcessKind}
use Rattle.rtl_body_facts.specs.Timing.{kind_view}
use Rattle.rtl_process_kinds.specs.KindViews.{IsKind, reset_kept}
use Rattle.rtl_process_kinds.proofs.Drivers.{is_kept, kept_is, reset_read, read_there}
use Rattle.rtl_process_kinds.proofs.Processes.{process_is, kind_is, many_processes}
use Rattle.rtl_process_kinds.specs.declared.asked.Asked.{Asked}
use Rattle.rtl_process_kinds.specs.AskedValues.{is_asked}
use Rattle.rtl_process_kinds.specs.BodyViews.{asked_last}
use Rattle.rtl_calm_nets.specs.NetOrigins.{IsResetTest}
use Rattle.rtl_calm_nets.proofs.Bodied.{copy_read, asks_reset}
use Rattle.rtl_calm_nets.proofs.Calming.{AreThere}

-- a process that copies, or has a reset, is there
copies_there : (net : Netlist) (p place : ℕ) (copy : Copy) → Copies net p place copy → p < length net.processes
copies_there net p place copy e = go (cases_lt p (length net.processes))
  where
    go : (p < length net.processes) ⊎ (length net.processes ≤ p) → p < length net.processes
    go (inl l) = l
    go (inr l) = let h : None ≡ Some copy = sym (ap (λ (q : m.Process). q.copies place) (get_or_past net.processes p m.no_process l)) ∙ e in absurd cc

pub resets_there : (net : Netlist) (p : ℕ) (reset : Reset) → HasReset net p reset → p < length net.processes
resets_there net p reset e = go (cases_lt p (length net.processes))
  where
    go : (p < length net.processes) ⊎ (length net.processes ≤ p) → p < length net.processes
    go (inl l) = l
    go (inr l) = let h : None ≡ Some reset = sym (ap (λ (q : m.Process). kind_reset q.kind) (get_or_past net.processes p m.no_process l)) ∙ e in absurd cc

-- what a copy copies is one of the nets that the body reads
copy_part : (body : Stmts) (o : Option CopyPart) → copying body ≡ o → (place : ℕ) (copy : Copy) → copied_at o place ≡ Some copy → Contains (reads body) copy.net
copy_part body None h place copy e = absurd cc
copy_part body (Some part) h place copy e = go (part.place == place) e
  where
    net_is : {made : Copy} → Some made ≡ Some copy → made.net ≡ copy.net
    net_is f = cc

    go : (b : Bool) → (if b then Some (record { net = part.net; passed = passed_on part.inverted }) else None) ≡ Some copy → Contains (reads body) copy.net
    go true f = subst (Contains (reads body)) (net_is f) (copy_read body part h)
    go false f = absurd cc

-- a kind that keeps no reset is of a process that has none
pub no_reset : (x : m.Process) (kind : ProcessKind) → IsKind x kind → reset_kept kind ≡ None → kind_reset x.kind ≡ None
no_reset x kind is e = go (kind_reset x.kind) refl
  where
    go : (o : Option Reset) → kind_reset x.kind ≡ o → kind_reset x.kind ≡ None
    go None f = f
    go (Some reset) f = let h : None ≡ Some reset.net = sym e ∙ is_kept x kind is reset f in absurd cc

limit_at : (types : List ElementType) (n : ℕ) (t : ElementType) → HasType types t n → get_or (map limit_of types) n 0 ≡ limit_of t
limit_at types n t h = get_or_from_slice_get (map limit_of types) n (limit_of t) 0 (slice_get-map limit_of types n ∙ ap (option_map limit_of) h)

item : {X : Type 0} (xs : List X) (p : ℕ) → p < length xs → (x : X) × (x ≡ get_or xs p x)
item [] p l = absurd (omega arith)
item (y ∷ ys) p l = (get_or (y ∷ ys) p y, get_or_default (y ∷ ys) p y (get_or (y ∷ ys) p y) l)

module _ (net : NetlistView) (E : IsNet net) where
  pub many_nets : length (core net).start ≡ length net.types
  many_nets = E.in_range.each_starts

  pub start_net : (n : ℕ) → n < length net.types → n < length (core net).start
  start_net n l = let e = many_nets in omega arith

  pub start_read : (p n : ℕ) → p < length net.processes → Contains (process (core net) p).reads n → n < length (core net).start
  start_read p n l c = let h = read_there net E p n l c in let e = many_nets in omega arith

  -- a process of the code
  module _ (p : ℕ) (l : p < length net.processes) (x : Process) (at : x ≡ get_or net.processes p x) where
    pub core_is : process (core net) p ≡ core_process net.wide net.inputs (process_view x)
    core_is = process_is net p x l at

    pub many_drivers : length (process (core net) p).drives ≡ length x.drives.items
    many_drivers =
        ap (λ (q : m.Process). length q.drives) core_is ∙ (length-map (map driver_view x.drives.items) (λ (d : FlatDriver). d.net) ∙ length-map x.drives.items driver_view)

    pub effect_is : (values : List ℕ) → part_effect (process_view x) (body_of x) values values ≡ (process (core net) p).effect values values
    effect_is values = sym (ap (λ (q : m.Process). q.effect values values) core_is)

    pub many_entries : (values : List ℕ) → length (part_effect (process_view x) (body_of x) values values) ≡ length x.drives.items
    many_entries values = length-map (range_with_len 0 (length (map driver_view x.drives.items))) (effect (seen_from (process_view x) values values) (body_of x)) ∙ (length-range_with_len 0 (length (map driver_view x.drives.items)) ∙ length-map x.drives.items driver_view)

    in_range : ProcessInRange net.types (process_view x)
    in_range =
        let same : get_or (map process_view net.processes) p (process_view x) ≡ process_view x = get_or-map_within process_view net.processes p x (process_view x) l ∙ ap process_view (sym at) in
        subst (ProcessInRange net.types) same (E.in_range.processes p (process_view x) (rw (length-map net.processes process_view) l))

    pub asks_for : (reset : Reset) → HasReset (core net) p reset
        → (asked : Asked) × (asked_last (body_of x) ≡ Some asked) × ((w : ℕ) → is_asked asked w ≡ (w == reset.value)) × (get_or (core net).limits reset.net 0 ≡ 9)
    asks_for reset has =
        let e : kind_reset (core_process net.wide net.inputs (process_view x)).kind ≡ Some reset = sym (ap (λ (q : m.Process). kind_reset q.kind) core_is) ∙ has in
        let (asked, last, all, fits) = asks_reset (scope_of net.types (process_view x)) (process_view x) net.wide net.inputs (events (body_of x)) reset e in
        (asked, last, all, limit_at net.types reset.net nine_valued (fits in_range.body))

    copy_there : (place : ℕ) (copy : Copy) → Copies (core net) p place copy → copy.net < length (core net).start
    copy_there place copy e =
        let f : copied_at (copying (body_of x)) place ≡ Some copy = sym (ap (λ (q : m.Process). q.copies place) core_is) ∙ e in
        let c = copy_part (body_of x) (copying (body_of x)) refl place copy f in
        start_read p copy.net l (subst (λ (ns : List ℕ). Contains ns copy.net) (sym (ap (λ (q : m.Process). q.reads) core_is)) c)

  in_code : (p : ℕ) → p < length (core net).processes → (x : Process) × (p < length net.processes) × (x ≡ get_or net.processes p x)
  in_code p l = let there : p < length net.processes = rw (← many_processes net) l in let (x, is) = item net.processes p there in (x, there, is)

  reset_there : (p : ℕ) (reset : Reset) → HasReset (core net) p reset → reset.net < length (core net).start
  reset_there p reset has =
      let (x, l, at) = in_code p (resets_there (core net) p reset has) in
      let kind = kind_view (clocking net.wide net.inputs (body_of x)) (events (body_of x)) in
      let is : IsKind (process (core net) p) kind = subst (λ (q : m.Process). IsKind q kind) (sym (core_is p l x at)) (kind_is net.wide net.inputs x) in
      start_read p reset.net l (reset_read (process (core net) p) kind is reset.net (is_kept (process (core net) p) kind is reset has))

  pub all_there : AreThere (core net)
  all_there = record {
    elaborated = connected_is_elaborated (flat net) E.in_range E.connected;
    copies = λ p place copy e. let (x, l, at) = in_code p (copies_there (core net) p place copy e) in copy_there p l x at place copy e;
    resets = reset_there;
  }

  -- what the code finds of a process's reset
  pub found_reset : (p : ℕ) (l : p < length net.processes) (x : Process) (at : x ≡ get_or net.processes p x) (kind : ProcessKind) (n : ℕ) (asked : Asked) → IsKind (process (core net) p) kind
      → reset_kept kind ≡ Some n → asked_last (body_of x) ≡ Some asked → IsResetTest (core net) p (Some (record { net = n; asked = asked }))
  found_reset p l x at kind n asked is e f =
      let (reset, has, same) = kept_is (process (core net) p) kind is n e in
      let (found, last, all, nine) = asks_for p l x at reset has in
      let h : Some found ≡ Some asked = sym last ∙ f in
      let is_found : found ≡ asked = cc in (
        start_read p n l (reset_read (process (core net) p) kind is n e),
        subst (λ (i : ℕ). get_or (core net).limits i 0 ≡ 9) same nine,
        (reset, has, same, subst (λ (a : Asked). (w : ℕ) → is_asked a w ≡ (w == reset.value)) is_found all),
      )

  pub no_test : (p : ℕ) (l : p < length net.processes) (x : Process) (at : x ≡ get_or net.processes p x) (kind : ProcessKind) (n : ℕ) → IsKind (process (core net) p) kind
      → reset_kept kind ≡ Some n → asked_last (body_of x) ≡ None → reset_of (core net) p ≡ None
  no_test p l x at kind n is e f =
      let (reset, has, same) = kept_is (process (core net) p) kind is n e in
      let (found, last, all, nine) = asks_for p l x at reset has in
      let h : Some found ≡ None = sym last ∙ f in
      absurd cc
