use Rattle.std.proofs.Common.{◌≡◌, ◌%◌, ◌<◌, ◌||◌, Bool, not, true, false, IfSome, is_some, [], length, map, take, drop, get_or, refl, arith, sym, ap, subst, ◌∙◌}
use Rattle.std.proofs.lemmas.Nat.{mod_below}
use Rattle.std.proofs.lemmas.List.{get_or_default, get_or-replicate, length-replicate}
use Rattle.byte_streams.specs.Written.{Goes}
use Rattle.rtl_net.specs.Nets.{signal_view}
use Rattle.rtl_vcd.specs.Pages.{Passes}
use Rattle.rtl_vcd.proofs.Pages.{Passes-nil, Passes-append, Passes-whole}
use Rattle.rtl_vcd.specs.declared.blocks.Block.{Block}
use Rattle.rtl_vcd.specs.Trace.{stamped, are_some}
use Rattle.rtl_vcd.specs.Blocks.{AreListed, changes_from, continued}
use Rattle.rtl_vcd.proofs.Names.{part_of_names, part_shown}
use Rattle.rtl_vcd.proofs.Ends.{part_of_runs}
use Rattle.rtl_vcd.proofs.Stamps.{changes_further, none_further, continued_more, are_some_append}
use Rattle.rtl_vcd.proofs.Hulls.{this_block, all_taken, no_changes, none_changes}
use Rattle.rtl_vcd.proofs.Listed.{KeepFrom, all_marked, listed_marked, this_keeps}
use Rattle.rtl_vcd.proofs.moment.push_moment.Goals.{then-marks-number+then-not-is_quiet, else-marks-number, else-marks-number-via-then-marks-number+else-not-is_quiet, else-marks-number-via-else-marks-number, in-Some, in_default}
use Rattle.rtl_vcd.proofs.moment.push_moment.Goals as goal

-- no block
abbrev none : Block
none = record { names = 0; least = 0; greatest = 0; is_compared = false }

pub push_changes-is_printed-requires-clause-before : goal.push_changes-is_printed-requires-clause-before
push_changes-is_printed-requires-clause-before g c =
    part_shown (length c.args.shown.net.now.types) c.args.shown.signals.now c.args.shown.fits.each (length c.args.step.now.old.now)
    c.loop-number.next (get_or c.args.blocks.now c.loop-number.number none).names c.requires.before

pub push_changes-is_printed-requires-clause-after : goal.push_changes-is_printed-requires-clause-after
push_changes-is_printed-requires-clause-after g c =
    part_shown (length c.args.shown.net.now.types) c.args.shown.signals.now c.args.shown.fits.each (length c.args.step.now.new.now)
    c.loop-number.next (get_or c.args.blocks.now c.loop-number.number none).names c.requires.after

pub push_changes-is_printed-requires-clause-runs : goal.push_changes-is_printed-requires-clause-runs
push_changes-is_printed-requires-clause-runs g c =
    part_of_runs c.args.shown.signals.now c.args.runs.now c.loop-number.next (get_or c.args.blocks.now c.loop-number.number none).names
    (map signal_view c.args.shown.signals.now) refl c.requires.runs

of_not : (b : Bool) → not b ≡ false → b ≡ true
of_not true e = refl
of_not false e = sym e

pub loop-number-init : goal.loop-number-init
loop-number-init g c =
    let start = g.W.Sink.state c.args.out.now in
    let nets = length c.args.shown.net.now.types in
    let names = map signal_view c.args.shown.signals.now in
    let old = c.args.step.now.old.now in
    let new = c.args.step.now.new.now in (
      subst (λ held. Passes start start [] held []) (sym c.new-page.ensures) (Passes-nil start []),
      refl,
      omega arith,
      c.requires.blocks,
      record { room = omega (arith, ap length c.new-page.ensures); empty = λ _. c.new-page.ensures },
      elim c.match-listed.branch [
        | in-Some w ↦
            let listed =
            subst (λ o. IfSome o (λ groups. AreListed nets groups.now c.args.blocks.now names)) w.in-Some.is c.requires.listed in
            subst (λ ms. KeepFrom ms old new 0 c.args.blocks.now names) (sym w.marks-is)
            (listed_marked w.mark_listed.new.marks old new nets w.in-Some.groups.now
            (λ p n lt h unmarked. w.mark_listed.ensures p n (omega (arith, lt, c.requires.nets)) h unmarked) 0 c.args.blocks.now names c.requires.blocks listed.each)
        | in_default w ↦
            let none_listed : c.is_none-marks.result ≡ true = of_not c.is_none-marks.result (sym c.is_none-marks.ensures ∙ ap is_some w.in_default.is) in
            all_marked c.match-listed.marks old new
            (λ k. ap (λ ms. get_or ms (k % 1024) true) w.marks-is ∙ get_or-replicate 1024 (k % 1024) c.is_none-marks.result true (mod_below k 1024 (omega arith)) ∙ none_listed)
            0 c.args.blocks.now names
      ],
    )

pub loop-number-preserved : goal.loop-number-preserved
loop-number-preserved g c =
    let net = c.args.shown.net.now in
    let names = map signal_view c.args.shown.signals.now in
    let old = c.args.step.now.old.now in
    let new = c.args.step.now.new.now in
    let time = c.args.step.now.time in
    let next = c.loop-number.next in
    let block = get_or c.args.blocks.now c.loop-number.number none in
    let I = c.loop-number.invariant in
    let here = this_block (length net.types) c.args.blocks.now c.loop-number.number none next names c.loop-number-test.true I.2 I.3 in
    let keeps = this_keeps c.match-listed.marks old new c.args.blocks.now c.loop-number.number none next names c.loop-number-test.true I.5 in
    let first = g.W.Sink.state c.args.out.now in
    let before = g.W.Sink.state c.loop-number.out in
    let held = c.loop-number.page in
    let earlier = changes_from 0 (take next names) old new in
    let part = changes_from next (take block.names (drop next names)) old new in
    elim c.if-marks-number.branch [
      | then-marks-number+then-not-is_quiet w ↦
          let after = g.W.Sink.state w.push_changes-is_printed.new.out in
          let holds = w.push_changes-is_printed.new.page in
          let listed = part_of_names c.args.shown.signals.now next block.names in
          let pushed = subst (λ ss. Passes before after held holds (continued c.loop-number.is_printed time (changes_from next ss old new))) listed w.push_changes-is_printed.ensures.text in
          let is = subst (λ ss. w.push_changes-is_printed.result ≡ (c.loop-number.is_printed || are_some (changes_from next ss old new))) listed w.push_changes-is_printed.ensures.printed in
          let more = changes_further next block.names names old new I.2 in
          rw (w.out-is, w.page-is, w.next-is, w.is_printed-is) (
            subst (λ xs. Passes first after [] holds (stamped time xs)) (sym more)
                (subst (Passes first after [] holds) (sym (continued_more false time earlier part))
                (Passes-append _ _ _ _ _ _ _ _ I.0 (subst (λ b. Passes before after held holds (continued b time part)) I.1 pushed))),
            is ∙ ap (λ b. b || are_some part) I.1 ∙ sym (are_some_append earlier part) ∙ ap are_some (sym more),
            here.1,
            here.2,
            w.push_changes-is_printed.ensures.opened,
            keeps.1,
          )
      | else-marks-number w ↦
          let these = take block.names (drop next names) in
          let none_here : changes_from next these old new ≡ [] = elim w.else-marks-number.branch [
            | else-marks-number-via-then-marks-number+else-not-is_quiet v ↦
                no_changes old new block.least block.greatest (v.is_quiet.ensures v.if-not-is_quiet.false) next these here.0.between
            | else-marks-number-via-else-marks-number v ↦
                let place = c.loop-number.number % 1024 in
                let below = mod_below c.loop-number.number 1024 (omega arith) in
                let within : place < length c.match-listed.marks = elim c.match-listed.branch [
                  | in-Some m ↦ omega (arith, below, ap length m.marks-is, m.mark_listed.auto.marks)
                  | in_default m ↦ omega (arith, below, ap length m.marks-is ∙ length-replicate 1024 c.is_none-marks.result)
                ] in
                none_changes old new next these (keeps.0 (get_or_default c.match-listed.marks place true false within ∙ v.if-marks-number.false))
          ] in
          let same = none_further next block.names names old new I.2 none_here in
          rw (w.out-is, w.page-is, w.next-is, w.is_printed-is) (
            subst (λ xs. Passes first before [] held (stamped time xs)) (sym same) I.0,
            I.1 ∙ ap are_some (sym same),
            here.1,
            here.2,
            I.4,
            keeps.1,
          )
    ]

pub returns-clause-text : goal.returns-clause-text
returns-clause-text g c =
    let all = all_taken (length c.args.shown.net.now.types) c.args.blocks.now c.loop-number.number c.loop-number.next (map signal_view c.args.shown.signals.now) c.loop-number-test.false c.loop-number.invariant.3 in
    let rest = subst (Goes (g.W.Sink.state c.loop-number.out) (g.W.Sink.state c.push_text.new.sink)) c.text.ensures c.push_text.ensures in
    subst (λ ss. Goes (g.W.Sink.state c.args.out.now) (g.W.Sink.state c.push_text.new.sink)
    (stamped c.args.step.now.time (changes_from 0 ss c.args.step.now.old.now c.args.step.now.new.now))) all
    (Passes-whole _ _ _ _ _ c.loop-number.invariant.0 rest)

pub returns-clause-printed : goal.returns-clause-printed
returns-clause-printed g c =
    let all = all_taken (length c.args.shown.net.now.types) c.args.blocks.now c.loop-number.number c.loop-number.next (map signal_view c.args.shown.signals.now) c.loop-number-test.false c.loop-number.invariant.3 in
    subst (λ ss. c.loop-number.is_printed ≡ are_some (changes_from 0 ss c.args.step.now.old.now c.args.step.now.new.now)) all c.loop-number.invariant.1
