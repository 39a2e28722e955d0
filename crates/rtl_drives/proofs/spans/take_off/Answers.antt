use Rattle.std.proofs.Common.{ℕ, ◌+◌, ◌≤◌, Bool, false, List, length, get_or, replicate, ap, sym, ◌∙◌, arith}
use Rattle.rtl_drives.specs.declared.spans.Span.{Span}
use Rattle.rtl_drives.proofs.Assigned.{length_sets, part_filled, still_marked, unmarked}
use Rattle.rtl_drives.proofs.Places.{left_behind, none_behind}
use Rattle.rtl_drives.proofs.spans.take_off.Goals as goal

abbrev no_span : Span
no_span = record { first = 0; len = 0 }

pub loop-span-preserved : goal.loop-span-preserved
loop-span-preserved c =
    let spans = c.args.spans.now in
    let i = c.loop-span.span-index in
    let span = get_or spans i no_span in
    let marks = c.loop-span.marks in
    let I = c.loop-span.invariant in
    let there = c.requires.within i no_span c.loop-span-test.true in
    let within : span.first + span.len ≤ length marks = omega (arith, I.as_many, there) in
    let is = part_filled span.first span.len marks c.fill.new.self false within (c.fill.ensures.after (λ y h. h)) in
    record {
      as_many = ap length is ∙ length_sets (replicate span.len false) marks span.first ∙ I.as_many;
      later = λ place h.
          let was = still_marked span.len span.first marks place (ap (λ (ms : List Bool). get_or ms place false) (sym is) ∙ h) in
          left_behind spans i no_span place c.loop-span-test.true (I.later place was.0) was.1;
    }

pub returns : goal.returns
returns c =
    let I = c.loop-span.invariant in
    unmarked c.loop-span.marks (λ place some. none_behind c.args.spans.now c.loop-span.span-index (omega (arith, c.loop-span-test.false)) place (I.later place some))
    ∙ ap (λ (n : ℕ). replicate n false) I.as_many
