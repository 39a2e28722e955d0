use Rattle.std.proofs.Common.{◌+◌, ◌<◌, ◌++◌, length, map, refl, sym, ap, ◌∙◌, arith}
use Rattle.std.proofs.lemmas.List.{length-map}
use Rattle.rtl_net.specs.Nets.{signal_view}
use Rattle.rtl_vcd.specs.Trace.{change}
use Rattle.rtl_vcd.proofs.Names.{name_at, shown_at}
use Rattle.rtl_vcd.proofs.Changes.{this_run, lies_before, lies_after, change_more, line_kept, line_more}
use Rattle.rtl_vcd.proofs.named.append_changes.Goals.{then-not-keeps+else-run-eq0+else-is_full, else-not-keeps}
use Rattle.rtl_vcd.proofs.named.append_changes.Goals as goal

pub keeps-requires-clause-before : goal.keeps-requires-clause-before
keeps-requires-clause-before c =
    lies_before c.args.first (map signal_view c.args.names.now) c.args.runs.now c.loop-place.place c.index-runs-place.result c.args.step.now.old.now c.args.step.now.new.now
    c.loop-place-test.true c.index-runs-place.is c.requires.ready c.requires.before c.requires.after

pub keeps-requires-clause-after : goal.keeps-requires-clause-after
keeps-requires-clause-after c =
    lies_after c.args.first (map signal_view c.args.names.now) c.args.runs.now c.loop-place.place c.index-runs-place.result c.args.step.now.old.now c.args.step.now.new.now
    c.loop-place-test.true c.index-runs-place.is c.requires.ready c.requires.before c.requires.after

pub push_other-requires-clause-before : goal.push_other-requires-clause-before
push_other-requires-clause-before c =
    lies_before c.args.first (map signal_view c.args.names.now) c.args.runs.now c.loop-place.place c.index-runs-place.result c.args.step.now.old.now c.args.step.now.new.now
    c.loop-place-test.true c.index-runs-place.is c.requires.ready c.requires.before c.requires.after (omega (arith, c.if-run-eq0.false))

pub push_other-requires-clause-after : goal.push_other-requires-clause-after
push_other-requires-clause-after c =
    lies_after c.args.first (map signal_view c.args.names.now) c.args.runs.now c.loop-place.place c.index-runs-place.result c.args.step.now.old.now c.args.step.now.new.now
    c.loop-place-test.true c.index-runs-place.is c.requires.ready c.requires.before c.requires.after (omega (arith, c.if-run-eq0.false))

pub push_other-requires-clause-short : goal.push_other-requires-clause-short
push_other-requires-clause-short c =
    let is = this_run c.args.first (map signal_view c.args.names.now) c.args.runs.now c.loop-place.place c.index-runs-place.result c.args.step.now.old.now c.args.step.now.new.now
    c.loop-place-test.true c.index-runs-place.is c.requires.ready c.requires.before c.requires.after (omega (arith, c.if-run-eq0.false)) in
    is.short c.args.step.now.new.now

pub returns-then-is_full-clause-text : goal.returns-then-is_full-clause-text
returns-then-is_full-clause-text c =
    line_more c.args.first (map signal_view c.args.names.now) c.args.runs.now c.loop-place.place c.index-runs-place.result c.args.step.now.old.now c.args.step.now.new.now
    c.loop-place-test.true c.index-runs-place.is c.requires.ready c.requires.before c.requires.after
    c.args.page.now c.loop-place.page c.loop-place.invariant.0 (omega (arith, c.if-run-eq0.false))
    c.push_other.result c.push_other.ensures.other c.push_other.new.page c.push_other.ensures.line

pub loop-place-preserved : goal.loop-place-preserved
loop-place-preserved c =
    let views = map signal_view c.args.names.now in
    let run = c.index-runs-place.result in
    let old = c.args.step.now.old.now in
    let new = c.args.step.now.new.now in
    elim c.if-not-keeps.branch [
      | then-not-keeps+else-run-eq0+else-is_full w ↦
          rw w.page-is (
            line_more c.args.first views c.args.runs.now c.loop-place.place run old new
                c.loop-place-test.true c.index-runs-place.is c.requires.ready c.requires.before c.requires.after
                c.args.page.now c.loop-place.page c.loop-place.invariant.0 (omega (arith, w.if-run-eq0.false))
                w.push_other.result w.push_other.ensures.other w.push_other.new.page w.push_other.ensures.line,
            w.is_full.ensures w.if-is_full.false,
          )
      | else-not-keeps w ↦
          rw w.page-is (
            line_kept c.args.first views c.args.runs.now c.loop-place.place run old new
                c.loop-place-test.true c.index-runs-place.is c.requires.ready c.requires.before c.requires.after
                c.args.page.now c.loop-place.page c.loop-place.invariant.0 (w.if-not-keeps.ensures.some refl)
                (w.if-not-keeps.ensures.alike refl),
            c.loop-place.invariant.1,
          )
    ]

pub push_unready-requires-clause-before : goal.push_unready-requires-clause-before
push_unready-requires-clause-before c =
    let there : c.loop-place.place < length c.args.names.now = omega (arith, c.loop-place-test.true, c.requires.ready.as_many, length-map c.args.names.now signal_view) in
    shown_at (length c.args.step.now.old.now) c.args.names.now c.loop-place.place c.index-names-place.result there c.index-names-place.is c.requires.before

pub push_unready-requires-clause-after : goal.push_unready-requires-clause-after
push_unready-requires-clause-after c =
    let there : c.loop-place.place < length c.args.names.now = omega (arith, c.loop-place-test.true, c.requires.ready.as_many, length-map c.args.names.now signal_view) in
    shown_at (length c.args.step.now.new.now) c.args.names.now c.loop-place.place c.index-names-place.result there c.index-names-place.is c.requires.after

pub returns-then-run-eq0-clause-text : goal.returns-then-run-eq0-clause-text
returns-then-run-eq0-clause-text c =
    let views = map signal_view c.args.names.now in
    let place = c.loop-place.place in
    let name = c.index-names-place.result in
    let old = c.args.step.now.old.now in
    let new = c.args.step.now.new.now in
    let there : place < length c.args.names.now = omega (arith, c.loop-place-test.true, c.requires.ready.as_many, length-map c.args.names.now signal_view) in
    change_more c.args.first views place (signal_view name) old new c.args.page.now c.loop-place.page c.push_unready.new.page
    (omega (arith, there, length-map c.args.names.now signal_view)) c.loop-place.invariant.0
    (c.push_unready.ensures.text ∙ ap (λ s. c.loop-place.page ++ change (c.args.first + place) s old new) (sym (name_at c.args.names.now place name there c.index-names-place.is)))
