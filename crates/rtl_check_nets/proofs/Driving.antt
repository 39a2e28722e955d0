-- The table of nets is built, one process after another.
use Rattle.std.proofs.Common.{◌≡◌, ◌≢◌, ℕ, zero, suc, ◌+◌, ◌<◌, ◌≤◌, ◌⊎◌, inl, inr, Bool, true, false, List, [], ◌∷◌, length, get_or, Option, Some, None, refl, sym, ap, subst, ◌∙◌, arith, Contains}
use Rattle.std.specs.Prelude.{IsSome}
use Rattle.std.proofs.lemmas.Bool.{cases_Bool, cases_eq, cases_lt}
use Rattle.rtl_model.specs.simulation.Netlist.{Netlist, Source, Driver as At, Reset, HasPlace, IsCombinational, process, kind_reset, reset_of, reset_entry, sources_of, target}
use Rattle.rtl_model.specs.simulation.Accepted.{IsInnerReset, IsResetBy}
use Rattle.rtl_model.specs.simulation.Elaborated.{IsWired}
use Rattle.rtl_model.proofs.basics.Lists.{only_source}
use Rattle.rtl_body_facts.specs.Reading.{is_in}
use Rattle.rtl_net.specs.declared.process.Driver.{Driver}
use Rattle.rtl_looks.specs.declared.hubs.Look.{Look}
use Rattle.rtl_looks.specs.declared.hubs.Look.TheVariants as l
use Rattle.rtl_looks.specs.declared.hubs.Hub.{Hub}
use Rattle.rtl_looks.specs.Denoting.{AreInOrder, Grows, IsThere, look_at, nets_of}
use Rattle.rtl_check_levels.specs.Feeding.{Feeds, feeders_of, listed}
use Rattle.rtl_check_nets.specs.declared.table.NetTable.{NetTable}
use Rattle.rtl_check_nets.specs.Building.{counts_at, fed_by, BeginsNets, AddsDrivers, AddsRegisters}
use Rattle.rtl_check_nets.specs.Built.{ChangesBehind, IsFedBy, IsDrivenBelow, IsBuilt}
use Rattle.rtl_check_nets.proofs.Built.{still_each, still_there, untouched, touched}
use Rattle.rtl_check_nets.proofs.Resetting.{AreRegistersOf}

-- ---- one driver of each net

abbrev pub HasOneDriver : Netlist → Type 0
HasOneDriver net = (q place p other : ℕ) → HasPlace net q place → HasPlace net p other → target net q place ≡ target net p other → (q ≡ p) × (place ≡ other)

pub one_driver : (net : Netlist) → IsWired net → ((n : ℕ) → length (sources_of net n) ≤ 1) → HasOneDriver net
one_driver net W one q place p other h g e =
    let n = target net p other in
    let mine : sources_of net n ≡ At q place ∷ [] = only_source (sources_of net n) (At q place) (one n) (subst (λ (k : ℕ). Contains (sources_of net k) (At q place)) e (W.drivers_are_sources q place h)) in
    let its : sources_of net n ≡ At p other ∷ [] = only_source (sources_of net n) (At p other) (one n) (W.drivers_are_sources p other g) in
    let same : At q place ∷ [] ≡ At p other ∷ [] = sym mine ∙ its in
    (cc, cc)

-- ---- a table with more processes

there_grows : (old new : List Hub) (look : Option Look) → length old ≤ length new → IsThere old look → IsThere new look
there_grows old new None k h = tt
there_grows old new (Some (l.Net n)) k h = tt
there_grows old new (Some (l.Hub hub)) k h = omega arith

abbrev none_driver : Driver
none_driver = record { net = 0; start = 0 }

later : (net : Netlist) (p n : ℕ) → IsDrivenBelow net p n → IsDrivenBelow net (p + 1) n
later net p n d = let m = d.below in record {
  driver = d.driver;
  place = d.place;
  nets = d.nets;
  below = omega arith;
  drives = d.drives;
  net_is = d.net_is;
  changes = d.changes;
}

-- a process none of whose drivers changes behind others
pub passes : (net : Netlist) (hubs : List Hub) (p : ℕ) (t : NetTable) → IsBuilt net hubs p t → ((place : ℕ) (nets : List ℕ) → ChangesBehind net p place nets → ⊥)
    → IsBuilt net hubs (p + 1) t
passes net hubs p t b odd = record {
  each = b.each;
  each_count = b.each_count;
  there = b.there;
  order = b.order;
  driven = λ q place nets below has changes. go q place nets below has changes (cases_lt q p);
  counted = λ n here. later net p n (b.counted n here);
  feeding = λ n row feeds. later net p n (b.feeding n row feeds);
}
  where
    go : (q place : ℕ) (nets : List ℕ) → q < p + 1 → HasPlace net q place → ChangesBehind net q place nets → (q < p) ⊎ (p ≤ q) → IsFedBy net hubs t (target net q place) nets
    go q place nets below has changes (inl before) = b.driven q place nets before has changes
    go q place nets below has changes (inr past) = let same : q ≡ p = omega arith in absurd (odd place nets (subst (λ (r : ℕ). ChangesBehind net r place nets) same changes))

-- a combinational process has no reset
pub no_reset : (net : Netlist) (p place m : ℕ) → IsCombinational net p → IsResetBy net p place m → ⊥
no_reset net p place m c r = let (reset, has, _) = r.0.0 in let h : None ≡ Some reset = sym (ap kind_reset c.1) ∙ has in cc

-- ---- a combinational process

named_or_not : (ds : List Driver) (n : ℕ)
    → ((k : ℕ) × (k < length ds) × ((d : Driver) → (get_or ds k d).net ≡ n)) ⊎ ((k : ℕ) (d : Driver) → k < length ds → (get_or ds k d).net ≡ n → ⊥)
named_or_not [] n = inr (λ k d h e. absurd (omega arith))
named_or_not (x ∷ xs) n = go (cases_eq x.net n) (named_or_not xs n)
  where
    go : (x.net ≡ n) ⊎ (x.net ≡ n → ⊥)
        → ((k : ℕ) × (k < length xs) × ((d : Driver) → (get_or xs k d).net ≡ n)) ⊎ ((k : ℕ) (d : Driver) → k < length xs → (get_or xs k d).net ≡ n → ⊥)
        → ((k : ℕ) × (k < length (x ∷ xs)) × ((d : Driver) → (get_or (x ∷ xs) k d).net ≡ n)) ⊎ ((k : ℕ) (d : Driver) → k < length (x ∷ xs) → (get_or (x ∷ xs) k d).net ≡ n → ⊥)
    go (inl e) rest = inl (0, omega arith, λ d. e)
    go (inr odd) (inl (k, h, e)) = inl (suc k, omega arith, e)
    go (inr odd) (inr none) = inr at
      where
        at : (k : ℕ) (d : Driver) → k < length (x ∷ xs) → (get_or (x ∷ xs) k d).net ≡ n → ⊥
        at zero d h e = odd e
        at (suc k) d h e = none k d (omega arith) e

-- its drivers look at these
pub steps : (net : Netlist) → HasOneDriver net → (old new : List Hub) (looks : List (Option Look)) (ds : List Driver) (p : ℕ) (t u : NetTable) → IsBuilt net old p t → IsCombinational net p
    → length ds ≡ length (process net p).drives → ((k : ℕ) (d : Driver) → k < length ds → (get_or ds k d).net ≡ target net p k) → Grows old new → AreInOrder new
    → ((k : ℕ) → IsThere new (look_at looks k) × ((m : ℕ) → is_in m (nets_of new (look_at looks k)) ≡ is_in m ((process net p).looks k)))
    → AddsDrivers (length net.start) looks 0 ds t u → IsBuilt net new (p + 1) u
steps net one old new looks ds p t u b comb many named g order denotes adds = record {
  each = (still_each (length net.start) looks 0 ds t u adds).0 ∙ b.each;
  each_count = (still_each (length net.start) looks 0 ds t u adds).1 ∙ b.each_count;
  there = λ row h. still_there (length net.start) looks 0 ds t u adds row (b.there row h);
  order = order;
  driven = λ q place nets below has changes. go q place nets below has changes (cases_lt q p);
  counted = λ n here. is_counted n here (named_or_not ds n);
  feeding = λ n row feeds. is_fed n row feeds (named_or_not ds n);
}
  where
    mine : (n k : ℕ) → k < length ds → ((d : Driver) → (get_or ds k d).net ≡ n) → IsDrivenBelow net (p + 1) n
    mine n k h e = record {
      driver = p;
      place = k;
      nets = (process net p).looks k;
      below = omega arith;
      drives = omega arith;
      net_is = sym (named k none_driver h) ∙ e none_driver;
      changes = inl (comb, refl);
    }

    is_counted : (n : ℕ) → counts_at u n ≡ true
        → ((k : ℕ) × (k < length ds) × ((d : Driver) → (get_or ds k d).net ≡ n)) ⊎ ((k : ℕ) (d : Driver) → k < length ds → (get_or ds k d).net ≡ n → ⊥) → IsDrivenBelow net (p + 1) n
    is_counted n here (inl (k, h, e)) = mine n k h e
    is_counted n here (inr none) = later net p n (b.counted n (sym (untouched (length net.start) looks 0 ds t u adds n none).1 ∙ here))

    is_fed : (n row : ℕ) → Feeds u.rows.items row n
        → ((k : ℕ) × (k < length ds) × ((d : Driver) → (get_or ds k d).net ≡ n)) ⊎ ((k : ℕ) (d : Driver) → k < length ds → (get_or ds k d).net ≡ n → ⊥) → IsDrivenBelow net (p + 1) n
    is_fed n row feeds (inl (k, h, e)) = mine n k h e
    is_fed n row feeds (inr none) =
        later net p n (b.feeding n row (subst (λ (xs : List ℕ). Contains xs row) (ap listed (untouched (length net.start) looks 0 ds t u adds n none).0) feeds))

    here : (place : ℕ) (nets : List ℕ) → HasPlace net p place → nets ≡ (process net p).looks place → IsFedBy net new u (target net p place) nets
    here place nets h e =
        let inside : place < length ds = omega arith in
        let (i, fed, counts) = touched (length net.start) looks 0 ds t u adds place none_driver inside
        (λ j x k m s. let same = (one p j p place (omega arith) h (sym (named j x m) ∙ s ∙ named place none_driver inside)).1 in omega arith) in
        let is = named place none_driver inside in
        let first : 0 + place ≡ place = omega arith in
        record {
          counts = subst (λ (n : ℕ). counts_at u n ≡ true) is counts;
          look = look_at looks place;
          fed = subst (λ (n : ℕ). feeders_of u.rows.items n ≡ fed_by (length net.start) (look_at looks place)) is (fed ∙ ap (λ (k : ℕ). fed_by (length net.start) (look_at looks k)) first);
          there = (denotes place).0;
          behind = λ m. (denotes place).1 m ∙ ap (is_in m) (sym e);
        }

    last : (place : ℕ) (nets : List ℕ) → HasPlace net p place → ChangesBehind net p place nets → IsFedBy net new u (target net p place) nets
    last place nets h (inl (c, e)) = here place nets h e
    last place nets h (inr (m, r, e)) = absurd (no_reset net p place m comb r)

    go : (q place : ℕ) (nets : List ℕ) → q < p + 1 → HasPlace net q place → ChangesBehind net q place nets → (q < p) ⊎ (p ≤ q) → IsFedBy net new u (target net q place) nets
    go q place nets below h changes (inl before) =
        let (e, f) = untouched (length net.start) looks 0 ds t u adds (target net q place)
        (λ k d m s. let same = (one q place p k h (omega arith) (sym s ∙ named k d m)).0 in omega arith) in
        let d = b.driven q place nets before h changes in
        record {
          counts = f ∙ d.counts;
          look = d.look;
          fed = ap listed e ∙ d.fed;
          there = there_grows old new d.look g.longer d.there;
          behind = λ m. ap (is_in m) (g.kept d.look d.there) ∙ d.behind m;
        }
    go q place nets below h changes (inr past) =
        let same : p ≡ q = omega arith in
        subst (λ (x : ℕ). IsFedBy net new u (target net x place) nets) same
        (last place nets (subst (λ (x : ℕ). HasPlace net x place) (sym same) h) (subst (λ (x : ℕ). ChangesBehind net x place nets) (sym same) changes))

-- ---- a clocked process whose reset some process drives

same_reset : (net : Netlist) (p m n : ℕ) → IsInnerReset net p m → IsInnerReset net p n → n ≡ m
same_reset net p m n ((r, has, is), d) ((s, has', is'), d') = let same : Some s ≡ Some r = sym has' ∙ has in let e : s.net ≡ r.net = cc in sym is' ∙ e ∙ is

-- these registers are the reset's
pub resets : (net : Netlist) → HasOneDriver net → (hubs : List Hub) (registers : List ℕ) (p m : ℕ) (t u : NetTable) → IsBuilt net hubs p t → IsInnerReset net p m
    → (IsCombinational net p → ⊥) → AreRegistersOf (process net p) registers → AddsRegisters (length net.start) m registers t u → IsBuilt net hubs (p + 1) u
resets net one hubs registers p m t u b inner odd are adds = record {
  each = adds.each ∙ b.each;
  each_count = adds.each_count ∙ b.each_count;
  there = λ row h. adds.there row (b.there row h);
  order = b.order;
  driven = λ q place nets below has changes. go q place nets below has changes (cases_lt q p);
  counted = λ n here. is_counted n here (cases_Bool (is_in n registers));
  feeding = λ n row feeds. is_fed n row feeds (cases_Bool (is_in n registers));
}
  where
    mine : (n : ℕ) → is_in n registers ≡ true → IsDrivenBelow net (p + 1) n
    mine n here = let (place, h, is, some) = (are n).0 here in record {
      driver = p;
      place = place;
      nets = m ∷ [];
      below = omega arith;
      drives = h;
      net_is = is;
      changes = inr (m, (inner, some), refl);
    }

    is_counted : (n : ℕ) → counts_at u n ≡ true → (is_in n registers ≡ true) ⊎ (is_in n registers ≡ false) → IsDrivenBelow net (p + 1) n
    is_counted n here (inl among) = mine n among
    is_counted n here (inr none) = later net p n (b.counted n (sym (adds.other_counts n none) ∙ here))

    is_fed : (n row : ℕ) → Feeds u.rows.items row n → (is_in n registers ≡ true) ⊎ (is_in n registers ≡ false) → IsDrivenBelow net (p + 1) n
    is_fed n row feeds (inl among) = mine n among
    is_fed n row feeds (inr none) = later net p n (b.feeding n row (subst (λ (xs : List ℕ). Contains xs row) (adds.others n none) feeds))

    last : (place : ℕ) (nets : List ℕ) → HasPlace net p place → ChangesBehind net p place nets → IsFedBy net hubs u (target net p place) nets
    last place nets h (inl (c, e)) = absurd (odd c)
    last place nets h (inr (k, r, e)) =
        let among = (are (target net p place)).1 place h refl r.1 in
        let same : k ≡ m = same_reset net p m k inner r.0 in
        record {
          counts = adds.counts (target net p place) among;
          look = Some (l.Net m);
          fed = adds.fed (target net p place) among;
          there = tt;
          behind = λ i. ap (is_in i) (ap (λ (j : ℕ). j ∷ []) (sym same) ∙ sym e);
        }

    go : (q place : ℕ) (nets : List ℕ) → q < p + 1 → HasPlace net q place → ChangesBehind net q place nets → (q < p) ⊎ (p ≤ q) → IsFedBy net hubs u (target net q place) nets
    go q place nets below h changes (inl before) = kept (cases_Bool (is_in (target net q place) registers))
      where
        kept : (is_in (target net q place) registers ≡ true) ⊎ (is_in (target net q place) registers ≡ false) → IsFedBy net hubs u (target net q place) nets
        kept (inl among) =
            let (other, g, is, _) = (are (target net q place)).0 among in
            let same = (one q place p other h g (sym is)).0 in
            absurd (omega arith)
        kept (inr none) =
            let d = b.driven q place nets before h changes in
            record {
              counts = adds.other_counts (target net q place) none ∙ d.counts;
              look = d.look;
              fed = adds.others (target net q place) none ∙ d.fed;
              there = d.there;
              behind = d.behind;
            }
    go q place nets below h changes (inr past) =
        let same : p ≡ q = omega arith in
        subst (λ (x : ℕ). IsFedBy net hubs u (target net x place) nets) same
        (last place nets (subst (λ (x : ℕ). HasPlace net x place) (sym same) h) (subst (λ (x : ℕ). ChangesBehind net x place nets) (sym same) changes))
