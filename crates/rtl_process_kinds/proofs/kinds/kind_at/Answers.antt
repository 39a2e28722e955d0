use Rattle.std.proofs.Common.{◌≡◌, ℕ, Bool, List, sym, ap, subst, ◌∙◌}
use Rattle.rtl_model.specs.bodies.Reads.{events}
use Rattle.rtl_model.specs.bodies.Kinds as k
use Rattle.rtl_model.specs.simulation.Netlist as m
use Rattle.rtl_net.specs.declared.body.Statement.{Statement}
use Rattle.rtl_net.specs.declared.process.Process.{Process}
use Rattle.rtl_net.specs.Nets.{body_of}
use Rattle.rtl_net.specs.Bodies.{statements_of}
use Rattle.rtl_body_facts.specs.Timing.{kind_view}
use Rattle.rtl_net.specs.Core.{core}
use Rattle.rtl_process_kinds.specs.KindViews.{IsKind}
use Rattle.rtl_process_kinds.proofs.Processes.{process_is, kind_is, listed_as}
use Rattle.rtl_process_kinds.proofs.kinds.kind_at.Goals as goal

pub returns : goal.returns
returns c =
    let net = c.args.net.now in
    let p = c.args.process in
    let x = c.index-processes-process.result in
    let at = listed_as p c.index-processes-process.is c.processes-processes.ensures in
    let is : c.kind_of.result ≡ kind_view (k.clocking net.wide net.inputs (body_of x)) (events (body_of x)) =
    c.kind_of.ensures ∙ (ap (λ (w : Bool). kind_view (k.clocking w c.inputs-inputs.result.now (statements_of c.deref.result.now)) (events (statements_of c.deref.result.now))) c.is_wide.ensures
    ∙ ap (λ (ns : List ℕ). kind_view (k.clocking net.wide ns (statements_of c.deref.result.now)) (events (statements_of c.deref.result.now))) c.inputs-inputs.ensures
    ∙ (ap (λ (xs : List Statement). kind_view (k.clocking net.wide net.inputs (statements_of xs)) (events (statements_of xs))) c.deref.ensures.value
    ∙ ap (λ (q : Process). kind_view (k.clocking net.wide net.inputs (body_of q)) (events (body_of q))) (sym c.index-processes-process.is))) in
    subst (IsKind (m.process (core net) p)) (sym is)
    (subst (λ (q : m.Process). IsKind q (kind_view (k.clocking net.wide net.inputs (body_of x)) (events (body_of x)))) (sym (process_is net p x c.requires at)) (kind_is net.wide net.inputs x))
