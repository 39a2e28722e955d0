use Rattle.std.proofs.Common.{ℕ, List, length, ap, sym, subst, ◌∙◌}
use Rattle.std.proofs.lemmas.List.{length-map}
use Rattle.rtl_net.specs.declared.process.Driver.{Driver}
use Rattle.rtl_net.specs.declared.process.Process.{Process}
use Rattle.rtl_levels.specs.Pieces.{AreCutFor}
use Rattle.rtl_levels.specs.States.{StateTakesOver}
use Rattle.rtl_levels.proofs.Planned.{cut_for, whole_are, whole_together}
use Rattle.rtl_levels.proofs.Wired.{driven_many, drives_looked_up}
use Rattle.rtl_levels.proofs.entries.take_over.Goals as goal

pub take_whole-requires : goal.take_whole-requires
take_whole-requires c =
    whole_together c.args.net.now c.args.schedule.now c.requires.planned c.args.number c.requires.there c.args.outcome.now c.requires.own
    c.index.result.now c.in-Some.first c.index.ensures c.in-Some.is c.args.state.now c.requires.have_readers

pub returns-in-Some : goal.returns-in-Some
returns-in-Some c =
    subst (λ (ns : List ℕ). StateTakesOver c.args.schedule.now.readers ns c.args.outcome.now.entries c.args.state.now c.take_whole.new.state)
    (whole_are c.args.net.now c.args.schedule.now c.requires.planned c.args.number c.requires.there c.args.outcome.now c.requires.own
    c.index.result.now c.in-Some.first c.index.ensures c.in-Some.is)
    c.take_whole.ensures

pub take_spans-requires-clause-each_driver : goal.take_spans-requires-clause-each_driver
take_spans-requires-clause-each_driver c =
    sym (length-map c.as_slice-drives.result.now (λ (d : Driver). d.net))
    ∙ ap length (drives_looked_up c.args.net.now c.args.number c.requires.there c.processes-processes.result.now c.index-processes-number.result c.as_slice-drives.result.now c.processes-processes.ensures
    c.index-processes-number.is (c.as_slice-drives.ensures.value ∙ ap (λ (x : Process). x.drives.items) (sym c.index-processes-number.is)))
    ∙ driven_many c.args.net.now c.args.number c.args.outcome.now c.requires.own

pub take_spans-requires-clause-cuts : goal.take_spans-requires-clause-cuts
take_spans-requires-clause-cuts c =
    subst (λ (ns : List ℕ). AreCutFor c.args.schedule.now ns c.args.number)
    (sym (drives_looked_up c.args.net.now c.args.number c.requires.there c.processes-processes.result.now c.index-processes-number.result c.as_slice-drives.result.now c.processes-processes.ensures
    c.index-processes-number.is (c.as_slice-drives.ensures.value ∙ ap (λ (x : Process). x.drives.items) (sym c.index-processes-number.is))))
    (cut_for c.args.net.now c.args.schedule.now c.requires.planned c.args.number c.requires.there)

pub returns-in-None : goal.returns-in-None
returns-in-None c =
    subst (λ (ns : List ℕ). StateTakesOver c.args.schedule.now.readers ns c.args.outcome.now.entries c.args.state.now c.take_spans.new.state)
    (drives_looked_up c.args.net.now c.args.number c.requires.there c.processes-processes.result.now c.index-processes-number.result c.as_slice-drives.result.now c.processes-processes.ensures
    c.index-processes-number.is (c.as_slice-drives.ensures.value ∙ ap (λ (x : Process). x.drives.items) (sym c.index-processes-number.is)))
    c.take_spans.ensures
