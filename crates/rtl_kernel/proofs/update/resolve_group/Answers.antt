use Rattle.std.proofs.Common.{◌<◌, arith, refl, sym, ◌∙◌, length, get_or, set}
use Rattle.std.proofs.lemmas.Bool.{eqb-true, eqb-false}
use Rattle.std.proofs.lemmas.List.{length-set, get_or-set_same, get_or-set_other}
use Rattle.rtl_model.specs.nets.CoreNetlist.{core_netlist}
use Rattle.rtl_net.specs.Nets.{flat, source_view}
use Rattle.rtl_kernel.specs.drivers.Rows.{rows}
use Rattle.rtl_kernel.proofs.Resolved.{none_resolved, one_resolved, kept_value, resolution_is, no_sources, source_in}
use Rattle.rtl_kernel.proofs.update.resolve_group.Goals as goal
use Rattle.rtl_kernel.proofs.update.resolve_group.Goals.{then-not-is_empty, else-not-is_empty}

pub loop-each-init : goal.loop-each-init
loop-each-init c = record {
  groups = refl;
  before = refl;
  resolved = none_resolved (core_netlist (flat c.args.net.now)) (rows c.args.drivers.now) _ c.args.values.now.current (λ n h. omega (arith, h.0, h.1));
}

pub resolution-requires-clause-there : goal.resolution-requires-clause-there
resolution-requires-clause-there c =
    let n = c.loop-each.each in
    λ k d l. c.requires.there n (source_view (get_or c.sources-sources.result.now k d)) (source_in c.sources-sources.result.now _ k d c.sources-sources.ensures l)

pub loop-each-preserved : goal.loop-each-preserved
loop-each-preserved c =
    let net = flat c.args.net.now in
    let drivers = rows c.args.drivers.now in
    let n = c.loop-each.each in
    let I = c.loop-each.invariant in
    let old = c.args.values.now.current in
    let mid = c.loop-each.values.current in
    let sources = c.sources-sources.result.now in
    let there : n < length net.types = omega (arith, c.loop-each-test.true, c.end-end.ensures.within, c.groups-2.ensures.each_net, c.requires.as_many) in
    let within : n < length mid = omega (arith, there, I.resolved.as_many, c.requires.as_many) in
    elim c.if-not-is_empty.branch [
      | then-not-is_empty w ↦
          let v = w.resolution.result in
          let differ = eqb-false (length sources) 0 (sym c.is_empty.ensures ∙ w.if-not-is_empty.true) in
          let some : 0 < length sources = omega (arith, differ) in
          rw (w.values-is, w.set.ensures) (record {
            groups = I.groups;
            before = I.before;
            resolved = one_resolved (core_netlist net) drivers c.first-first.result n old mid (set mid n v) c.loop-each.auto.each I.resolved (length-set mid n v)
                (get_or-set_same mid n v 0 within ∙ w.resolution.ensures ∙ resolution_is net drivers n (get_or old n 0) sources there c.sources-sources.ensures some)
                (λ m ne. get_or-set_other mid n m v 0 ne);
          })
      | else-not-is_empty w ↦
          let none = eqb-true (length sources) 0 (sym c.is_empty.ensures ∙ w.if-not-is_empty.false) in
          rw (w.values-is) (record {
            groups = I.groups;
            before = I.before;
            resolved = one_resolved (core_netlist net) drivers c.first-first.result n old mid mid c.loop-each.auto.each I.resolved refl
                (kept_value (core_netlist net) drivers c.first-first.result n old mid (omega (arith, there, c.requires.as_many)) (no_sources net n sources there c.sources-sources.ensures none) I.resolved) (λ m ne. refl);
          })
    ]
