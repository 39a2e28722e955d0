use Rattle.std.proofs.Common.{◌≡◌, ◌+◌, drop, get_or, refl, subst, sym, ◌∙◌, ap, arith}
use Rattle.std.specs.Prelude.{⊤}
use Rattle.std.proofs.lemmas.List.{length-map}
use Rattle.vhdl_values.specs.declared.scalar.Nine.TheVariants.{U}
use Rattle.rtl_model.specs.simulation.Cycle.{with_changes}
use Rattle.rtl_kernel.specs.kernel.Simulation.{changes_of}
use Rattle.rtl_kernel.specs.wakes.Woken.{wakers_of}
use Rattle.rtl_kernel.proofs.Changing.{changed_more, set_at}
use Rattle.rtl_levels.specs.Marks.{IsGiven}
use Rattle.rtl_levels.proofs.Advancing.{advances_none, advances_then, advances_wider, still_have_readers}
use Rattle.rtl_levels.proofs.Marking.{marks_same, marks_then, marks_wider}
use Rattle.rtl_levels.proofs.Visiting.{given_here}
use Rattle.rtl_levels.proofs.inputs.take_inputs.Goals as goal

pub loop-net-init : goal.loop-net-init
loop-net-init c = record {
  rest = λ m. refl;
  woken = marks_same (wakers_of c.args.schedule.now.clocked) (IsGiven (changes_of c.args.changes.now)) c.args.state.now.values.items _ c.args.woken.now.items (λ n. refl);
  advances = advances_none c.args.schedule.now.readers (λ n. ⊤) c.args.state.now;
}

pub mark_readers-requires-clause-there : goal.mark_readers-requires-clause-there
mark_readers-requires-clause-there c =
    rw (c.deref.ensures.value) (omega (arith, c.requires.there c.loop-net.net-index (0, U) c.loop-net-test.true, c.loop-net.invariant.advances.as_many))

pub mark_readers-requires-clause-each_net : goal.mark_readers-requires-clause-each_net
mark_readers-requires-clause-each_net c = rw (c.deref.ensures.value) (c.requires.each_clocked ∙ sym c.loop-net.invariant.advances.as_many)

pub mark_readers-requires-clause-below : goal.mark_readers-requires-clause-below
mark_readers-requires-clause-below c = λ n k f. rw (c.loop-net.invariant.woken.as_many) (c.requires.clocked n k f)

pub set-requires-clause-there : goal.set-requires-clause-there
set-requires-clause-there c = omega (arith, c.requires.there c.loop-net.net-index (0, U) c.loop-net-test.true, c.loop-net.invariant.advances.as_many)

pub set-requires-clause-have_readers : goal.set-requires-clause-have_readers
set-requires-clause-have_readers c =
    still_have_readers c.args.schedule.now.readers (λ n. ⊤) c.args.state.now c.loop-net.state c.loop-net.invariant.advances c.requires.have_readers

pub loop-net-preserved : goal.loop-net-preserved
loop-net-preserved c =
    let cs = c.args.changes.now in
    let i = c.loop-net.net-index in
    let start = c.args.state.now in
    let old = c.loop-net.state in
    let new = c.set.new.self in
    let values = old.values.items in
    let net = (get_or cs i (0, U)).0 in
    let given = IsGiven (changes_of cs) in
    let clocked = wakers_of c.args.schedule.now.clocked in
    let readers = c.args.schedule.now.readers in
    let marks = rw (c.deref.ensures.value, ← c.set.ensures.value) at c.mark_readers.ensures in
    record {
      rest = λ m. ap (λ vs. with_changes (drop (i + 1) (changes_of cs)) vs m) c.set.ensures.value
          ∙ changed_more (changes_of cs) i _ c.code-code.result values start.values.items (rw length-map c.loop-net-test.true)
          (set_at cs i c.code-code.result _ c.loop-net-test.true c.code-code.ensures.code) c.loop-net.invariant.rest m;
      woken = marks_then clocked given start.values.items values new.values.items c.args.woken.now.items c.loop-net.woken.items c.mark_readers.new.marks.items c.loop-net.invariant.woken
          (marks_wider clocked (λ n. n ≡ net) given (λ n e. subst given (sym e) (given_here cs i (0, U) c.loop-net-test.true)) values new.values.items
          c.loop-net.woken.items c.mark_readers.new.marks.items marks);
      advances = advances_then readers (λ n. ⊤) start old new c.loop-net.invariant.advances (advances_wider readers (λ n. n ≡ net) (λ n. ⊤) (λ n e. tt) old new c.set.ensures.advances);
    }

pub returns-clause-woken : goal.returns-clause-woken
returns-clause-woken c = c.loop-net.invariant.woken

pub returns-clause-advances : goal.returns-clause-advances
returns-clause-advances c = c.loop-net.invariant.advances
