use Rattle.std.proofs.Common.{◌≡◌, get_or, sym, ap, ◌∙◌, subst, arith}
use Rattle.std.proofs.lemmas.List.{length-map}
use Rattle.rtl_model.specs.bodies.Body as bodies
use Rattle.rtl_model.specs.bodies.Effect.{effect}
use Rattle.rtl_model.specs.bodies.Variables.{variables_after}
use Rattle.rtl_model.specs.bodies.Fits.{Fits}
use Rattle.rtl_model.specs.nets.FlatNetlist.{FlatProcess, no_flat_process}
use Rattle.rtl_model.proofs.basics.Lists.{get_or-map_within}
use Rattle.rtl_model.proofs.nets.InRange.{process_in_range}
use Rattle.rtl_net.specs.Bodies.{statements_of}
use Rattle.rtl_net.specs.Nets.{flat, process_view}
use Rattle.rtl_eval.specs.declared.seen.Valuations.{Valuations}
use Rattle.rtl_eval.specs.Kept.{IsBodyThere}
use Rattle.rtl_eval.specs.Trees.{ProcessOf, process_of}
use Rattle.rtl_eval.specs.Running.{seen_by, IsReady, Does}
use Rattle.rtl_eval.proofs.Starting.{ready_to_start, leaves}
use Rattle.rtl_eval.proofs.tree.TreeExec.run.Goals as goal
use Rattle.rtl_eval.proofs.tree.TreeExec.run.Goals.{After-deref}

-- the process's body is run
module _ (c : After-deref) where
  there : IsBodyThere c.args.self.now
  there = subst (λ (q : ProcessOf). IsBodyThere q) c.self.view_is c.self.invariant

  body : statements_of c.deref.result.now ≡ (process_of c.args.self.now).body
  body =
      let self = c.args.self.now in
      let x = c.index-processes-self.result in
      let number : c.self.inside.number ≡ self.number = ap (λ (q : ProcessOf). q.number) c.self.view_is in
      let processes : c.processes.result.now ≡ self.net.processes = c.processes.ensures ∙ ap (λ (q : ProcessOf). q.net.processes) c.self.view_is in
      ap statements_of c.deref.ensures.value ∙ (λ i. statements_of (get_or (processes i) (number i) x).body.items)
      ∙ sym (ap (λ (p : FlatProcess). p.body) (get_or-map_within process_view self.net.processes self.number x no_flat_process there.there))

pub run_all-requires : goal.run_all-requires
run_all-requires c =
    let self = c.args.self.now in
    let at = (goal.at.run_all-requires c).After-deref in
    let I = there at in
    let R = process_in_range (flat self.net) I.net.in_range self.number (omega (arith, I.there, length-map self.net.processes process_view)) in
    let nets : Valuations = record { current = c.args.cur; previous = c.args.old } in
    subst (λ (b : bodies.Stmts). IsReady nets c.reset.new.self (λ scope. Fits scope b)) (sym (body at))
    (ready_to_start self.net.types (process_of self) nets c.args.out.now c.reset.new.self c.requires.own c.reset.ensures R c.requires.now_all c.requires.before_all c.requires.now c.requires.before)

pub returns : goal.returns
returns c =
    let self = c.args.self.now in
    let at = (goal.at.returns c).After-deref in
    let nets : Valuations = record { current = c.args.cur; previous = c.args.old } in
    let start = c.reset.new.self in
    leaves self.net.types (process_of self) nets c.args.out.now start c.requires.own c.reset.ensures c.run_all.new.out
    (subst (λ (b : bodies.Stmts). Does (effect (seen_by nets start) b) (variables_after (seen_by nets start) b) start c.run_all.new.out) (body at) c.run_all.ensures)
