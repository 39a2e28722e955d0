use Rattle.std.proofs.Common.{arith, ◌≡◌, ◌≢◌, ℕ, ◌+◌, ◌^◌, ◌<◌, List, [], ◌∷◌, ◌++◌, map, flat_map, length, take, drop, get_or, Some, None, ap, sym, subst, ◌∙◌, append-nil, append_assoc}
use Rattle.std.proofs.lemmas.List.{length-map, length-append, drop_all}
use Rattle.vhdl_names_rules.specs.declared.fault.NameFault.TheVariants.{NoMemory}
use Rattle.vhdl_names_rules.specs.Declarations.{in_order, port}
use Rattle.vhdl_names_rules.specs.Visibility.{Sight, with_declared}
use Rattle.vhdl_tree.specs.View.{port_view}
use Rattle.vhdl_names_units.specs.views.Declarations.{ports_view, all_ports_view}
use Rattle.vhdl_names_rules.specs.problems.Broken.{Tells}
use Rattle.vhdl_names_rules.specs.problems.Declarations as broken
use Rattle.vhdl_names_rules.specs.problems.Interfaces as interfaces_broken
use Rattle.vhdl_names_rules.proofs.Passing.{passed_on, told_by}
use Rattle.vhdl_names_rules.proofs.Telling.{told_same}
use Rattle.vhdl_names_rules.proofs.kept.Declarations.{port_kept}
use Rattle.vhdl_names_sight.specs.Views.{region_view, entry_view}
use Rattle.vhdl_names_declarations.specs.declared.region.Settled.{Settled}
use Rattle.vhdl_names_declarations.specs.Counts.{AreCounts}
use Rattle.vhdl_names_declarations.specs.Entered.{entering}
use Rattle.vhdl_names_declarations.specs.Porting.{settled_view}
use Rattle.vhdl_names_declarations.proofs.Counting.{small_counts}
use Rattle.vhdl_names_declarations.proofs.Naming.{one_left}
use Rattle.vhdl_names_declarations.proofs.Breaking.{told_at, told_behind}
use Rattle.vhdl_names_declarations.proofs.Hiding.{Group, after, behind_none, breaks_same, wide_failed, wide_hidden, hidden_all, settled_list, stood}
use Rattle.vhdl_names_declarations.proofs.Listed.{in_region, left, begins, fails, goes, ends, all_more, region_size}
use Rattle.vhdl_names_declarations.proofs.Placing.{AreOf, First, one_behind, first_of_them, none_left, stand, place_inside, counts_up_to, counts_before}
use Rattle.vhdl_names_declarations.proofs.Regions.{names_apart}
use Rattle.vhdl_names_declarations.proofs.ports.wide_ports.Goals as goal

pub loop-one-init : goal.loop-one-init
loop-one-init c = (
  [],
  behind_none c.args.sight.now c.requires.none,
  subst (λ l. AreOf (length c.args.sight.now.region) l []) (sym c.new-hidden.ensures.items) tt,
  begins port port_view c.args.sight.now c.args.all.now (rw (← c.sight.view_is) (names_apart c.sight.inside.region.entries c.names_are_apart.ensures))
      ∙ ap (λ l. left port port_view c.args.sight.now (flat_map ports_view l) c.args.all.now 0) (sym c.new-done.ensures.items),
  λ f h. h,
)

pub returns-in_err-settled-clause-given : goal.returns-in_err-settled-clause-given
returns-in_err-settled-clause-given c =
    let i = c.loop-one.invariant in
    let lt : c.loop-one.one-index < length c.args.all.now = omega arith in
    let f : c.in_err-settled.field-0.0 ≢ NoMemory → entering (in_order with_declared port) c.args.sight.now (map port_view c.args.all.now) ≡ None =
    λ n. i.3 ∙ fails port port_view (after c.args.sight.now i.0) (all_ports_view c.loop-one.done) c.args.all.now c.loop-one.one-index c.one-item.result lt c.one-item.is
    (wide_failed c.args.sight.now c.loop-one.sight i.0 i.1 c.requires.wide (port_view c.one-item.result) (c.in_err-settled.ensures.given n)) in
    passed_on _ _ c.in_err-settled.field-0.0 _ c.from_residual.result c.from_residual.ensures.1 (λ e p. p) f

pub returns-in_err-settled-clause-told : goal.returns-in_err-settled-clause-told
returns-in_err-settled-clause-told c =
    let i = c.loop-one.invariant in
    let lt : c.loop-one.one-index < length c.args.all.now = omega arith in
    let f : Tells (interfaces_broken.ports c.args.sight.now (map port_view c.args.all.now)) c.in_err-settled.field-0.0 =
    i.4 c.in_err-settled.field-0.0 (told_at in_region with_declared port broken.port port_kept port_view (after c.args.sight.now i.0) c.args.all.now c.loop-one.one-index c.one-item.result c.in_err-settled.field-0.0 lt c.one-item.is
    (told_same _ _ c.in_err-settled.field-0.0 (breaks_same c.args.sight.now c.loop-one.sight i.0 i.1 c.requires.wide (port_view c.one-item.result)) c.in_err-settled.ensures.told)) in
    told_by _ c.in_err-settled.field-0.0 _ c.from_residual.result c.from_residual.ensures.1 (λ e p. p) f

pub loop-one-preserved : goal.loop-one-preserved
loop-one-preserved c =
    let i = c.loop-one.invariant in
    let s = c.args.sight.now in
    let p = port_view c.one-item.result in
    let ps = ports_view c.in_ok-settled.next in
    let lt : c.loop-one.one-index < length c.args.all.now = omega arith in
    let h = wide_hidden s c.loop-one.sight i.0 i.1 c.requires.wide p c.hidden_port.new.sight (settled_view c.in_ok-settled.settled) ps c.in_ok-settled.ensures.given c.in_ok-settled.ensures.kept in
    let place = one_behind (length s.region) c.loop-one.hidden.items i.0 (c.in_ok-settled.settled, c.len.result) h.group i.2 h.standing
    (c.len.ensures.len ∙ sym (region_size c.sight-in-loop-one.inside c.hidden_port.new.sight c.sight-in-loop-one.view_is) ∙ h.size ∙ ap (λ n. n + length h.group.names) (ap length i.1.names ∙ length-append s.region (hidden_all i.0))) in (
      i.0 ++ h.group ∷ [],
      h.behind,
      subst (λ l. AreOf (length s.region) l (i.0 ++ h.group ∷ [])) (sym c.in_ok-push.ensures.items) place,
      i.3 ∙ goes port port_view (after s i.0) (after s (i.0 ++ h.group ∷ [])) (all_ports_view c.loop-one.done) ps (all_ports_view c.push-in-loop-one.new.self)
          c.args.all.now c.loop-one.one-index c.one-item.result lt c.one-item.is h.enters
          (ap (flat_map ports_view) c.in_ok-push-2.ensures.items ∙ all_more ports_view c.loop-one.done.items c.in_ok-settled.next),
      λ f k. i.4 f
          (told_behind in_region with_declared port broken.port port_kept port_view (after s i.0) (after s (i.0 ++ h.group ∷ [])) c.args.all.now c.loop-one.one-index c.one-item.result ps f lt c.one-item.is h.enters k),
    )

pub loop-settled-init : goal.loop-settled-init
loop-settled-init c =
    let i = c.loop-one.invariant in
    let s = c.args.sight.now in
    let size = c.len-first.ensures.len ∙ sym (region_size c.sight.inside s c.sight.view_is) in (
      s.region,
      i.0,
      ap (λ (x : Sight). x.region) c.sight-2.view_is ∙ i.1.names,
      size,
      rw (← c.sight.view_is) c.of-counts.ensures,
      subst (λ n. AreOf n c.deref-settled-items.result.now i.0) (sym size) (subst (λ l. AreOf (length s.region) l i.0) (sym c.deref-settled-items.ensures.value) i.2),
      c.sight-2.view_is ∙ i.1.kept ∙ ap (λ (x : Sight). record s { region = x.region }) (sym c.sight-2.view_is),
      i.3 ∙ ends port port_view (after s i.0) (all_ports_view c.loop-one.done) c.args.all.now c.loop-one.one-index (omega arith),
    )

pub returns-clause-kept : goal.returns-clause-kept
returns-clause-kept c = c.loop-settled.invariant.6

pub returns-clause-given : goal.returns-clause-given
returns-clause-given c =
    let i = c.loop-settled.invariant in
    let s = c.args.sight.now in
    let ps = all_ports_view c.loop-one.done in
    let hs = c.deref-settled-items.result.now in
    let none = none_left c.loop-settled.first i.1 (subst (λ l. AreOf c.loop-settled.first l i.1) (drop_all c.loop-settled.settled-index hs (omega arith)) i.5) in
    i.7 ∙ ap (λ gs. Some (record s { region = settled_list i.0 gs }, ps)) none
    ∙ ap (λ r. Some (record s { region = r }, ps)) (sym (i.2 ∙ ap (λ gs. i.0 ++ hidden_all gs) none ∙ append-nil i.0))
    ∙ ap (λ (x : Sight). Some (x, ps)) (sym i.6)

-- the next names, of those that are left
next_of_them : (hs : List (Settled × ℕ)) (k at : ℕ) (h : Settled × ℕ) (gs : List Group) → k < length hs → h ≡ get_or hs k h → AreOf at (drop k hs) gs → First at h (drop (k + 1) hs) gs
next_of_them hs k at h gs lt is are = first_of_them at h (drop (k + 1) hs) gs (subst (λ l. AreOf at l gs) (one_left hs k h lt is) are)

pub settle_between-requires-clause-places : goal.settle_between-requires-clause-places
settle_between-requires-clause-places c =
    let i = c.loop-settled.invariant in
    let t = next_of_them c.deref-settled-items.result.now c.loop-settled.settled-index c.loop-settled.first c.loop-settled-item.result i.1 (omega arith) c.loop-settled-item.is i.5 in
    let place = t.place in
    omega (arith, place)

pub settle_between-requires-clause-last : goal.settle_between-requires-clause-last
settle_between-requires-clause-last c =
    let i = c.loop-settled.invariant in
    let h = c.loop-settled-item.result in
    let t = next_of_them c.deref-settled-items.result.now c.loop-settled.settled-index c.loop-settled.first h i.1 (omega arith) c.loop-settled-item.is i.5 in
    let le = place_inside i.0 t.group t.rest h.0 c.loop-settled.counts c.loop-settled.first h.1 i.3 t.place t.standing i.4 in
    let all = ap length (i.2 ∙ ap (λ gs. i.0 ++ hidden_all gs) t.are) in
    let size = length-map c.loop-settled.sight-inside.region.entries entry_view in
    omega (arith, le, all, size)

pub settle_between-requires-clause-counts : goal.settle_between-requires-clause-counts
settle_between-requires-clause-counts c =
    let i = c.loop-settled.invariant in
    let size = i.3 in
    small_counts c.loop-settled.counts i.0 (2 ^ 63 + c.loop-settled.first) (omega (arith, size)) i.4

pub loop-settled-preserved : goal.loop-settled-preserved
loop-settled-preserved c =
    let i = c.loop-settled.invariant in
    let s = c.args.sight.now in
    let h = c.loop-settled-item.result in
    let hs = c.deref-settled-items.result.now in
    let t = next_of_them hs c.loop-settled.settled-index c.loop-settled.first h i.1 (omega arith) c.loop-settled-item.is i.5 in
    let new = region_view c.settle_between.new.region in
    let z = stand i.0 i.1 h (drop (c.loop-settled.settled-index + 1) hs) c.loop-settled.counts c.loop-settled.first t (region_view c.loop-settled.sight-inside.region) new i.3 i.4 i.2 c.in_ok-settle_between.ensures in (
      i.0 ++ stood i.0 t.group,
      t.rest,
      z.is,
      z.place,
      counts_up_to c.between-counts.result (i.0 ++ stood i.0 t.group) (hidden_all t.rest) h.1 z.place (subst (λ r. AreCounts c.between-counts.result (take h.1 r)) z.is c.between-counts.ensures),
      t.behind,
      ap (λ (x : Sight). record x { region = new }) i.6,
      i.7 ∙ ap (λ gs. Some (record s { region = settled_list i.0 gs }, all_ports_view c.loop-one.done)) t.are,
    )

pub between-counts-requires-clause-places : goal.between-counts-requires-clause-places
between-counts-requires-clause-places c =
    let i = c.loop-settled.invariant in
    let t = next_of_them c.deref-settled-items.result.now c.loop-settled.settled-index c.loop-settled.first c.loop-settled-item.result i.1 (omega arith) c.loop-settled-item.is i.5 in
    let place = t.place in
    omega (arith, place)

pub between-counts-requires-clause-before : goal.between-counts-requires-clause-before
between-counts-requires-clause-before c =
    let i = c.loop-settled.invariant in
    let h = c.loop-settled-item.result in
    let hs = c.deref-settled-items.result.now in
    let t = next_of_them hs c.loop-settled.settled-index c.loop-settled.first h i.1 (omega arith) c.loop-settled-item.is i.5 in
    let z = stand i.0 i.1 h (drop (c.loop-settled.settled-index + 1) hs) c.loop-settled.counts c.loop-settled.first t (region_view c.loop-settled.sight-inside.region) (region_view c.settle_between.new.region) i.3 i.4 i.2 c.in_ok-settle_between.ensures in
    subst (λ r. AreCounts c.loop-settled.counts (take c.loop-settled.first r)) (sym (z.is ∙ append_assoc i.0 (stood i.0 t.group) (hidden_all t.rest)))
    (counts_before c.loop-settled.counts i.0 (stood i.0 t.group ++ hidden_all t.rest) c.loop-settled.first i.3 i.4)

pub between-counts-requires-clause-last : goal.between-counts-requires-clause-last
between-counts-requires-clause-last c =
    let i = c.loop-settled.invariant in
    let h = c.loop-settled-item.result in
    let hs = c.deref-settled-items.result.now in
    let t = next_of_them hs c.loop-settled.settled-index c.loop-settled.first h i.1 (omega arith) c.loop-settled-item.is i.5 in
    let z = stand i.0 i.1 h (drop (c.loop-settled.settled-index + 1) hs) c.loop-settled.counts c.loop-settled.first t (region_view c.loop-settled.sight-inside.region) (region_view c.settle_between.new.region) i.3 i.4 i.2 c.in_ok-settle_between.ensures in
    let within = z.within in
    let size = length-map c.settle_between.new.region.entries entry_view in
    omega (arith, within, size)
