use Rattle.std.proofs.Common.{Bool, ◌≡◌, ◌<◌, ◌+◌, ℕ, List, [], ◌∷◌, None, length, get_or, sym, ap, subst, ◌∙◌, arith}
use Rattle.std.specs.List.Sorted.{IsStrictlyIncreasing}
use Rattle.std.proofs.lemmas.List.{length-append}
use Rattle.rtl_model.specs.bodies.Reads.{events}
use Rattle.rtl_model.specs.bodies.Kinds as m
use Rattle.rtl_net.specs.declared.body.Statement.{Statement}
use Rattle.rtl_net.specs.declared.process.Process.{Process}
use Rattle.rtl_net.specs.Nets.{body_of}
use Rattle.rtl_net.specs.Bodies.{statements_of}
use Rattle.rtl_body_facts.specs.Timing.{kind_view}
use Rattle.rtl_net.specs.Core.{core}
use Rattle.rtl_awaited_edges.specs.Awaiting.{awaited_edge, edge_alone}
use Rattle.rtl_awaited_edges.proofs.Edges.{all_edges, each_more, kind_alone, processes_many}
use Rattle.rtl_awaited_edges.proofs.awaited.edges_of.Goals as goal

pub kind_of-requires : goal.kind_of-requires
kind_of-requires c = subst IsStrictlyIncreasing (sym c.inputs-inputs.ensures) c.is_elaborated.ensures.in_range.inputs_rise

pub loop-process-preserved : goal.loop-process-preserved
loop-process-preserved c =
    let net = c.args.net.now in
    let i = c.loop-process.process-index in
    let x = c.process-item.result in
    let there : i < length net.processes = subst (λ (ps : List Process). i < length ps) c.processes-processes.ensures c.loop-process-test.true in
    let at : x ≡ get_or net.processes i x = c.process-item.is ∙ ap (λ (ps : List Process). get_or ps i x) c.processes-processes.ensures in
    let is : c.kind_of.result ≡ kind_view (m.clocking net.wide net.inputs (body_of x)) (events (body_of x)) =
    c.kind_of.ensures ∙ (ap (λ (w : Bool). kind_view (m.clocking w c.inputs-inputs.result.now (statements_of c.deref.result.now)) (events (statements_of c.deref.result.now))) c.is_wide-wide.ensures
    ∙ ap (λ (ns : List ℕ). kind_view (m.clocking net.wide ns (statements_of c.deref.result.now)) (events (statements_of c.deref.result.now))) c.inputs-inputs.ensures
    ∙ ap (λ (xs : List Statement). kind_view (m.clocking net.wide net.inputs (statements_of xs)) (events (statements_of xs))) c.deref.ensures.value) in
    let told = c.edge_alone.ensures ∙ ap edge_alone is in
    record {
      so_many = ap length c.in_ok-push.ensures.items ∙ (length-append c.loop-process.edges.items (c.edge_alone.result ∷ []) ∙ ap (λ (k : ℕ). k + 1) c.loop-process.invariant.so_many);
      so_far = each_more None (λ p o. o ≡ awaited_edge (core net) p) c.loop-process.edges.items c.push.new.self.items c.edge_alone.result i c.loop-process.invariant.so_many c.in_ok-push.ensures.items
          c.loop-process.invariant.so_far (told ∙ kind_alone net i x there at);
    }

pub returns : goal.returns
returns c =
    let net = c.args.net.now in
    let l = c.loop-process in
    let all : l.process-index ≡ length net.processes =
    omega (arith, c.loop-process-test.false, l.auto.process-index-end, ap (λ (ps : List Process). length ps) c.processes-processes.ensures) in
    let many = processes_many net in
    all_edges (core net) l.edges.items (l.invariant.so_many ∙ (all ∙ sym many)) (λ p within. l.invariant.so_far p (omega (arith, within, many, all)))
