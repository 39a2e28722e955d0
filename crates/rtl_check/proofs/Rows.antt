-- The table of a netlist, by rows.
use Rattle.std.proofs.Common.{◌≡◌, ℕ, ◌<◌, ◌≤◌, true, ◌==◌, List, length, get_or, refl, sym, ap, subst, ◌∙◌, arith, ◌⊎◌, inl, inr, Option, Some, None, Contains}
use Rattle.std.specs.Prelude.{IsSome}
use Rattle.smallvec.specs.SmallVec.{SmallVec}
use Rattle.std.specs.List.{list_any}
use Rattle.std.proofs.lemmas.Bool.{and_parts, and_from, cases_lt, eqb-true, eq-eqb}
use Rattle.std.proofs.lemmas.List.{get_or_past}
use Rattle.rtl_model.specs.nets.FlatNetlist.{flat_sources}
use Rattle.rtl_model.specs.simulation.Netlist.{Netlist, Source, Driver, Idle, IsCombinational, process, target, sources_of}
use Rattle.rtl_model.specs.simulation.Accepted as f
use Rattle.rtl_model.specs.simulation.Elaborated.{IsWired}
use Rattle.rtl_model.proofs.basics.Lists.{in_contains, contains_in, any_at, any_true}
use Rattle.rtl_net.specs.Nets.{NetlistView, flat}
use Rattle.rtl_check_levels.specs.Feeding as t
use Rattle.rtl_check_levels.specs.OfNets.{IsTableOf}
use Rattle.rtl_body_facts.specs.declared.kinds.ProcessKind.{ProcessKind}
use Rattle.rtl_body_facts.specs.Reading.{is_in}
use Rattle.rtl_net.specs.Core.{core}
use Rattle.rtl_process_kinds.specs.KindViews.{AreKinds}
use Rattle.rtl_check.specs.Feeders.{feeds_by, IsRow}
use Rattle.rtl_process_kinds.specs.KindViews.{combinational_at}
use Rattle.rtl_process_kinds.proofs.Combinational.{combinational_to, combinational_from}
use Rattle.rtl_process_kinds.proofs.Sources.{sources_there}

module _ (net : Netlist) (kinds : List ProcessKind) (ks : AreKinds net kinds) where
  feeder_of : (p : ℕ) (s : Source) → feeds_by kinds p s ≡ true → (place : ℕ) × (s ≡ Driver p place) × IsCombinational net p
  feeder_of p (Driver q place) t =
      let (a, b) = and_parts (combinational_at kinds q) (q == p) t in
      let e = eqb-true q p b in
      (place, ap (λ (i : ℕ). Driver i place) e, subst (IsCombinational net) e (combinational_to net kinds ks q a))
  feeder_of p (Idle v) t = absurd cc

  pub feeds_to : (wired : IsWired net) (p q : ℕ) (sources : ℕ → List Source) → ((n : ℕ) → Contains (process net q).wakes n → sources n ≡ sources_of net n) → IsCombinational net q
      → list_any (λ n. list_any (feeds_by kinds p) (sources n)) (process net q).wakes ≡ true → f.Feeds net p q
  feeds_to wired p q sources same c t =
      let (n, w, h) = any_at (λ n. list_any (feeds_by kinds p) (sources n)) (process net q).wakes t in
      let (s, there, g) = any_at (feeds_by kinds p) (sources n) h in
      let (place, is, cp) = feeder_of p s g in
      let (has, at) = wired.sources_are_drivers n p place (subst (λ (x : Source). Contains (sources_of net n) x) is (subst (λ (ss : List Source). Contains ss s) (same n w) there)) in
      record { feeder = cp; fed = c; place = place; drives = has; wakes = subst (Contains (process net q).wakes) (sym at) w }

  pub feeds_from : (wired : IsWired net) (p q : ℕ) (sources : ℕ → List Source) → ((n : ℕ) → Contains (process net q).wakes n → sources n ≡ sources_of net n) → f.Feeds net p q
      → list_any (λ n. list_any (feeds_by kinds p) (sources n)) (process net q).wakes ≡ true
  feeds_from wired p q sources same h =
      let n = target net p h.place in
      let there = subst (λ (ss : List Source). Contains ss (Driver p h.place)) (sym (same n h.wakes)) (wired.drivers_are_sources p h.place h.drives) in
      any_true (λ n. list_any (feeds_by kinds p) (sources n)) (process net q).wakes n h.wakes
      (any_true (feeds_by kinds p) (sources n) (Driver p h.place) there (and_from (combinational_at kinds p) (p == p) (combinational_from net kinds ks p h.feeder) (eq-eqb p p refl)))

-- ---- a row

pub row_some : (net : NetlistView) (kinds : List ProcessKind) → AreKinds (core net) kinds → IsWired (core net) → (q : ℕ) (nets : List ℕ) → (process (core net) q).wakes ≡ nets
    → ((n : ℕ) → Contains nets n → n < length net.types) → combinational_at kinds q ≡ true → (feeders : SmallVec ℕ)
    → ((p : ℕ) → is_in p feeders.items ≡ list_any (λ n. list_any (feeds_by kinds p) (flat_sources (flat net) n)) nets) → IsRow (core net) q (Some feeders)
row_some net kinds ks wired q nets wakes there t feeders are = (c, λ p. (to p, from p))
  where
    c : IsCombinational (core net) q
    c = combinational_to (core net) kinds ks q t

    same : (n : ℕ) → Contains (process (core net) q).wakes n → flat_sources (flat net) n ≡ sources_of (core net) n
    same n w = sym (sources_there net n (there n (subst (λ (ns : List ℕ). Contains ns n) wakes w)))

    to : (p : ℕ) → Contains feeders.items p → f.Feeds (core net) p q
    to p h =
        feeds_to (core net) kinds ks wired p q (flat_sources (flat net)) same c
        (ap (list_any (λ n. list_any (feeds_by kinds p) (flat_sources (flat net) n))) wakes ∙ (sym (are p) ∙ contains_in feeders.items p h))

    from : (p : ℕ) → f.Feeds (core net) p q → Contains feeders.items p
    from p h =
        in_contains feeders.items p (are p ∙ (ap (list_any (λ n. list_any (feeds_by kinds p) (flat_sources (flat net) n))) (sym wakes)
        ∙ feeds_from (core net) kinds ks wired p q (flat_sources (flat net)) same h))

-- ---- the table

row_in : (net : Netlist) (q : ℕ) (o : Option (SmallVec ℕ)) → IsRow net q o → IsSome o → IsCombinational net q
row_in net q None h s = absurd cc
row_in net q (Some v) h s = h.0

in_row : (net : Netlist) (q : ℕ) (o : Option (SmallVec ℕ)) → IsRow net q o → IsCombinational net q → IsSome o
in_row net q None h c = absurd (h c)
in_row net q (Some v) h c = refl

row_feeds : (net : Netlist) (p q : ℕ) (o : Option (SmallVec ℕ)) → IsRow net q o → Contains (t.listed o) p → f.Feeds net p q
row_feeds net p q None h (j, l, e) = absurd (omega arith)
row_feeds net p q (Some v) h c = (h.1 p).0 c

feeds_row : (net : Netlist) (p q : ℕ) (o : Option (SmallVec ℕ)) → IsRow net q o → f.Feeds net p q → Contains (t.listed o) p
feeds_row net p q None h c = absurd (h c.fed)
feeds_row net p q (Some v) h c = (h.1 p).1 c

pub table_is : (net : Netlist) (table : t.Table) → length table ≡ length net.processes → ((q : ℕ) → q < length net.processes → IsRow net q (get_or table q None)) → IsTableOf net table
table_is net table many rows = record {
  each_process = many;
  combinational = λ q. (λ s. row_in net q (get_or table q None) (row q) s, λ c. in_row net q (get_or table q None) (row q) c);
  feeds = λ p q. (λ h. row_feeds net p q (get_or table q None) (row q) h, λ h. feeds_row net p q (get_or table q None) (row q) h);
}
  where
    row : (q : ℕ) → IsRow net q (get_or table q None)
    row q = go (cases_lt q (length net.processes))
      where
        go : (q < length net.processes) ⊎ (length net.processes ≤ q) → IsRow net q (get_or table q None)
        go (inl l) = rows q l
        go (inr l) = subst (IsRow net q) (sym (get_or_past table q None (rw many l))) (λ c. let h = c.0 in omega arith)
