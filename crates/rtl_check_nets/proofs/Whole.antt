-- Built for all processes, and with its hubs, the table is that of the netlist's nets.
use Rattle.std.proofs.Common.{◌≡◌, ℕ, ◌+◌, ◌-◌, ◌<◌, ◌≤◌, ◌⊎◌, inl, inr, Bool, true, false, List, [], ◌∷◌, ◌++◌, length, get_or, map, nat_lt, Option, Some, None, refl, sym, ap, subst, ◌∙◌, arith, Contains, All}
use Rattle.std.specs.Global.{Vec}
use Rattle.smallvec.specs.SmallVec.{SmallVec}
use Rattle.std.specs.Prelude.{IsSome, if◌then◌else◌}
use Rattle.std.proofs.lemmas.Bool.{cases_Bool, cases_lt, ltb-true}
use Rattle.std.proofs.lemmas.List.{get_or_append_left, get_or-append-add, get_or_past, length-append, length-map}
use Rattle.std.proofs.lemmas.List.Elements.{Contains-append_cases}
use Rattle.rtl_model.specs.nets.FlatNetlist.{no_flat_process, process_at}
use Rattle.rtl_model.specs.nets.CoreNetlist.{core_process}
use Rattle.rtl_model.specs.simulation.Netlist.{Netlist, Process, HasPlace, IsCombinational, no_process, process, target}
use Rattle.rtl_model.specs.simulation.Accepted.{IsResetBy, LooksAt}
use Rattle.rtl_model.specs.simulation.NetLevels.{IsDerived}
use Rattle.rtl_model.specs.simulation.Elaborated.{IsElaborated, IsWired}
use Rattle.rtl_model.proofs.basics.Lists.{get_or-map_within}
use Rattle.rtl_model.proofs.simulation.Faultless.{place_in_range}
use Rattle.rtl_net.specs.Core.{core}
use Rattle.rtl_net.specs.Elaborated.{IsNet}
use Rattle.rtl_net.specs.Nets.{NetlistView, flat, process_view}
use Rattle.rtl_body_facts.specs.Reading.{is_in}
use Rattle.rtl_body_facts.proofs.Members.{has_in, in_has}
use Rattle.rtl_looks.specs.declared.hubs.Look.{Look}
use Rattle.rtl_looks.specs.declared.hubs.Look.TheVariants as l
use Rattle.rtl_looks.specs.declared.hubs.Hub.{Hub}
use Rattle.rtl_looks.specs.Denoting.{IsBelow, IsThere, nets_behind, nets_by, nets_of}
use Rattle.rtl_check_levels.specs.Feeding.{Feeds, IsIn, feeders_of, listed}
use Rattle.rtl_process_kinds.proofs.Drivers.{read_there}
use Rattle.rtl_process_kinds.proofs.Processes.{many_processes}
use Rattle.rtl_check_nets.specs.declared.table.NetTable.{NetTable}
use Rattle.rtl_check_nets.specs.Rows.{IsNetTable, StandsFor}
use Rattle.rtl_check_nets.specs.Building.{rows_at, fed_by, counts_at, hub_feeders, AddsHubs}
use Rattle.rtl_check_nets.specs.Built.{ChangesBehind, IsFedBy, IsDrivenBelow, IsBuilt}
use Rattle.rtl_check_nets.proofs.Built.{hub_below}
use Rattle.rtl_check_nets.proofs.Behind.{Shows, looks_stand, none_there, one_is}

-- ---- what nets look at

-- what a net looks at is there
pub looked_there : (net : NetlistView) → IsNet net → IsElaborated (core net) → (n m : ℕ) → LooksAt (core net) n m → m < length net.starts
looked_there net E M n m look = go look.looks
  where
    go : (IsCombinational (core net) look.driver × Contains ((process (core net) look.driver).looks look.place) m) ⊎ IsResetBy (core net) look.driver look.place m → m < length net.starts
    go (inl (c, looks)) =
        let there : look.driver < length net.processes = (let h = place_in_range (core net) look.driver look.place look.drives in let e = many_processes net in omega arith) in
        let r = read_there net E look.driver m there (M.bodies.looks_are_read look.driver look.place m looks) in
        let e = E.in_range.each_starts in
        omega arith
    go (inr r) = let (p, place, h, is) = r.0.1 in subst (λ (k : ℕ). k < length net.starts) is (M.wiring.targets_are_nets p place h)

-- what a process is sensitive to is there too
pub woken_there : (net : NetlistView) → IsNet net → (p n : ℕ) → p < length (core net).processes → Contains (process (core net) p).wakes n → n < length net.starts
woken_there net E p n h (k, there, is) =
    let inside : p < length (map process_view net.processes) = (let e = length-map (map process_view net.processes) (core_process net.wide net.inputs) in omega arith) in
    let same = get_or-map_within (core_process net.wide net.inputs) (map process_view net.processes) p no_flat_process no_process inside in
    let at : (process_at (flat net) p).wakes ≡ (process (core net) p).wakes = sym (ap (λ (q : Process). q.wakes) same) in
    let low = subst (All (λ i. i < length net.types)) at (E.in_range.processes p no_flat_process inside).wakes k n there in
    let e = E.in_range.each_starts in
    subst (λ (i : ℕ). i < length net.starts) is (omega arith)

-- a net that changes behind others is derived, and looks at them
kind_of : (net : Netlist) (q place : ℕ) (nets : List ℕ) → ChangesBehind net q place nets → IsCombinational net q ⊎ ((m : ℕ) × IsResetBy net q place m)
kind_of net q place nets (inl (c, e)) = inl c
kind_of net q place nets (inr (m, r, e)) = inr (m, r)

changes_of : (net : Netlist) (q place : ℕ) → IsCombinational net q ⊎ ((m : ℕ) × IsResetBy net q place m) → (nets : List ℕ) × ChangesBehind net q place nets
changes_of net q place (inl c) = ((process net q).looks place, inl (c, refl))
changes_of net q place (inr (m, r)) = (m ∷ [], inr (m, r, refl))

looked_of : (net : Netlist) (q place : ℕ) (nets : List ℕ) (m : ℕ) → ChangesBehind net q place nets → Contains nets m
    → (IsCombinational net q × Contains ((process net q).looks place) m) ⊎ IsResetBy net q place m
looked_of net q place nets m (inl (c, e)) has = inl (c, subst (λ (xs : List ℕ). Contains xs m) e has)
looked_of net q place nets m (inr (k, r, e)) has = let same = one_is k m (subst (λ (xs : List ℕ). Contains xs m) e has) in inr (subst (IsResetBy net q place) same r)

seen_of : (net : Netlist) (q place m : ℕ) → (IsCombinational net q × Contains ((process net q).looks place) m) ⊎ IsResetBy net q place m
    → (nets : List ℕ) × ChangesBehind net q place nets × Contains nets m
seen_of net q place m (inl (c, looks)) = ((process net q).looks place, inl (c, refl), looks)
seen_of net q place m (inr r) = (m ∷ [], inr (m, r, refl), (0, omega arith, refl))

-- ---- rows of looks

rows_below : (nets number : ℕ) (look : Look) → IsBelow number look → (r : ℕ) → Contains (rows_at nets look) r → r < nets + number
rows_below nets number (l.Hub hub) below r c = let same = one_is (nets + hub) r c in omega arith
rows_below nets number (l.Net net) below r c = go (cases_Bool (nat_lt net nets))
  where
    go : (nat_lt net nets ≡ true) ⊎ (nat_lt net nets ≡ false) → r < nets + number
    go (inl e) =
        let same = one_is net r (subst (λ (b : Bool). Contains (if b then (net ∷ []) else []) r) e c) in
        let small = ltb-true net nets e in
        omega arith
    go (inr e) = absurd (none_there r (subst (λ (b : Bool). Contains (if b then (net ∷ []) else []) r) e c))

abbrev none_hub : Hub
none_hub = record { left = l.Net 0; right = l.Net 0 }

module _ (net : Netlist) (hubs : List Hub) (t u : NetTable) (W : IsWired net) (b : IsBuilt net hubs (length net.processes) t) (a : AddsHubs (length net.start) hubs t u)
    (inside : (n m : ℕ) → LooksAt net n m → m < length net.start) where
  size : length u.rows.items ≡ length net.start + length hubs
  size = ap length a.are ∙ length-append t.rows.items a.rows ∙ (let e = b.each in let f = a.each in omega arith)

  net_row : (n : ℕ) → n < length net.start → get_or u.rows.items n None ≡ get_or t.rows.items n None
  net_row n h = ap (λ (xs : List (Option (SmallVec ℕ))). get_or xs n None) a.are ∙ get_or_append_left t.rows.items a.rows None n (let e = b.each in omega arith)

  hub_row : (k : ℕ) → get_or u.rows.items (length net.start + k) None ≡ get_or a.rows k None
  hub_row k =
      ap (λ (xs : List (Option (SmallVec ℕ))). get_or xs (length net.start + k) None) a.are ∙ ap (λ (n : ℕ). get_or (t.rows.items ++ a.rows) (n + k) None) (sym b.each)
      ∙ get_or-append-add t.rows.items a.rows k None

  hub_fed : (k : ℕ) (hub : Hub) → get_or (map Some hubs) k None ≡ Some hub → feeders_of u.rows.items (length net.start + k) ≡ hub_feeders (length net.start) hub
  hub_fed k hub e = ap listed (hub_row k) ∙ (a.fed k hub e).1

  hub_is : (k : ℕ) → k < length hubs → get_or (map Some hubs) k None ≡ Some (get_or hubs k none_hub)
  hub_is k h = get_or-map_within Some hubs k none_hub None h

  -- ---- nets

  feeds_net : (n row : ℕ) → n < length net.start → Feeds u.rows.items row n → Feeds t.rows.items row n
  feeds_net n row h feeds = subst (λ (xs : List ℕ). Contains xs row) (ap listed (net_row n h)) feeds

  -- what feeds a net
  record IsFed (n row : ℕ) : Type 0 where
    from : IsDrivenBelow net (length net.processes) n
    is : IsFedBy net hubs t n from.nets
    feeds : Contains (fed_by (length net.start) is.look) row

  is_fed : (n row : ℕ) → n < length net.start → Feeds u.rows.items row n → IsFed n row
  is_fed n row h feeds =
      let old = feeds_net n row h feeds in
      let d = b.feeding n row old in
      let f = subst (λ (k : ℕ). IsFedBy net hubs t k d.nets) d.net_is (b.driven d.driver d.place d.nets d.below d.drives d.changes) in
      record { from = d; is = f; feeds = subst (λ (xs : List ℕ). Contains xs row) f.fed old }

  derived_by : (n : ℕ) → IsDrivenBelow net (length net.processes) n → IsDerived net n
  derived_by n d = (d.driver, d.place, d.drives, d.net_is, kind_of net d.driver d.place d.nets d.changes)

  -- ---- hubs

  feeds_hub : (row p : ℕ) → length net.start ≤ row → Feeds u.rows.items p row → (p < row) × (row < length u.rows.items)
  feeds_hub row p past feeds = go (cases_lt row (length u.rows.items))
    where
      at : (k : ℕ) → length net.start + k ≡ row → k < length hubs → p < row
      at k e h =
          let (left, right) = hub_below hubs b.order k none_hub h in
          let c : Contains (hub_feeders (length net.start) (get_or hubs k none_hub)) p
          = subst (λ (xs : List ℕ). Contains xs p) (ap (feeders_of u.rows.items) (sym e) ∙ hub_fed k (get_or hubs k none_hub) (hub_is k h)) feeds in
          side left right (Contains-append_cases (rows_at (length net.start) (get_or hubs k none_hub).left) (rows_at (length net.start) (get_or hubs k none_hub).right) p c)
        where
          side : IsBelow k (get_or hubs k none_hub).left → IsBelow k (get_or hubs k none_hub).right
              → Contains (rows_at (length net.start) (get_or hubs k none_hub).left) p ⊎ Contains (rows_at (length net.start) (get_or hubs k none_hub).right) p → p < row
          side left right (inl c) = let m = rows_below (length net.start) k (get_or hubs k none_hub).left left p c in omega arith
          side left right (inr c) = let m = rows_below (length net.start) k (get_or hubs k none_hub).right right p c in omega arith

      go : (row < length u.rows.items) ⊎ (length u.rows.items ≤ row) → (p < row) × (row < length u.rows.items)
      go (inl h) = let e = size in (at (row - length net.start) (omega arith) (omega arith), h)
      go (inr h) = absurd (none_there p (subst (λ (xs : List ℕ). Contains xs p) (ap listed (get_or_past u.rows.items row None h)) feeds))

  -- ---- the whole

  there : (row : ℕ) → row < length u.rows.items → IsIn u.rows.items row
  there row h = go (cases_lt row (length net.start))
    where
      at : (k : ℕ) → length net.start + k ≡ row → k < length hubs → IsIn u.rows.items row
      at k e m =
          subst (λ (o : Option (SmallVec ℕ)). IsSome o) (sym (hub_row k) ∙ ap (λ (r : ℕ). get_or u.rows.items r None) e) (a.fed k (get_or hubs k none_hub) (hub_is k m)).0

      go : (row < length net.start) ⊎ (length net.start ≤ row) → IsIn u.rows.items row
      go (inl m) = subst (λ (o : Option (SmallVec ℕ)). IsSome o) (sym (net_row row m)) (b.there row m)
      go (inr past) = let e = size in at (row - length net.start) (omega arith) (omega arith)

  within : (p row : ℕ) → Feeds u.rows.items p row → p < length u.rows.items
  within p row feeds = go (cases_lt row (length net.start))
    where
      of_look : (look : Option Look) → IsThere hubs look → Contains (fed_by (length net.start) look) p → p < length u.rows.items
      of_look None h c = absurd (none_there p c)
      of_look (Some look) h c = let m = rows_below (length net.start) (length hubs) look h p c in let e = size in omega arith

      go : (row < length net.start) ⊎ (length net.start ≤ row) → p < length u.rows.items
      go (inl m) = let f = is_fed row p m feeds in of_look f.is.look f.is.there f.feeds
      go (inr past) = let (low, high) = feeds_hub row p past feeds in omega arith

  same_counts : (row : ℕ) → counts_at u row ≡ counts_at t row
  same_counts row = ap (λ (v : Vec Bool). get_or v.items row false) a.counts

  counted : (row : ℕ) → IsDerived net row → counts_at u row ≡ true
  counted row (p, place, h, is, kind) =
      let (nets, changes) = changes_of net p place kind in
      same_counts row ∙ subst (λ (n : ℕ). counts_at t n ≡ true) is (b.driven p place nets (place_in_range net p place h) h changes).counts

  looks_to : (n m : ℕ) → n < length net.start → LooksAt net n m → (row : ℕ) × Feeds u.rows.items row n × StandsFor (length net.start) u.rows.items m row
  looks_to n m h look =
      let (nets, changes, has) = seen_of net look.driver look.place m look.looks in
      let f = subst (λ (k : ℕ). IsFedBy net hubs t k nets) look.net_is (b.driven look.driver look.place nets (place_in_range net look.driver look.place look.drives) look.drives changes) in
      go f.look f.fed f.there (in_has (nets_of hubs f.look) m (f.behind m ∙ has_in nets m has))
    where
      go : (o : Option Look) → feeders_of t.rows.items n ≡ fed_by (length net.start) o → IsThere hubs o → Contains (nets_of hubs o) m
          → (row : ℕ) × Feeds u.rows.items row n × StandsFor (length net.start) u.rows.items m row
      go None e i c = absurd (none_there m c)
      go (Some look') e i c =
          let (row, in_row, stands) = (looks_stand (length net.start) u.rows.items hubs b.order hub_fed look' i m).0 (inside n m look) c in
          (row, subst (λ (xs : List ℕ). Contains xs row) (sym (ap listed (net_row n h) ∙ e)) in_row, stands)

  looks_from : (n m : ℕ) → n < length net.start → (row : ℕ) → Feeds u.rows.items row n → StandsFor (length net.start) u.rows.items m row → LooksAt net n m
  looks_from n m h row feeds stands =
      let f = is_fed n row h feeds in
      let has = go f.is.look f.is.there f.feeds in
      let d = f.from in
      record {
        driver = d.driver;
        place = d.place;
        drives = d.drives;
        net_is = d.net_is;
        looks = looked_of net d.driver d.place d.nets m d.changes (in_has d.nets m (sym (f.is.behind m) ∙ has_in (nets_of hubs f.is.look) m has));
      }
    where
      go : (o : Option Look) → IsThere hubs o → Contains (fed_by (length net.start) o) row → Contains (nets_of hubs o) m
      go None i c = absurd (none_there row c)
      go (Some look) i c = (looks_stand (length net.start) u.rows.items hubs b.order hub_fed look i m).1 row c stands

  pub is_net_table : IsNetTable net u.rows.items (counts_at u)
  is_net_table = record {
    each_net = (let e = size in omega arith);
    each_row = there;
    within = within;
    hubs = λ p hub past feeds. (feeds_hub hub p past feeds).0;
    counts = λ row. (λ here. derived_by row (b.counted row (sym (same_counts row) ∙ here)), counted row);
    looks = λ n m h. (looks_to n m h, λ (row, feeds, stands). looks_from n m h row feeds stands);
    unfed = λ n p h feeds. derived_by n (is_fed n p h feeds).from;
  }
