use Rattle.std.proofs.Common.{◌≡◌, ◌+◌, ◌-◌, ◌*◌, length, take, drop, ap, ◌∙◌, arith}
use Rattle.std.proofs.lemmas.List.{length-append}
use Rattle.rtlsim_findings_text.specs.Marks.{step}
use Rattle.rtlsim_findings_text.proofs.Walking.{on, room, further, marked_on}
use Rattle.rtlsim_findings_text.proofs.places.marks_of.Goals as goal

pub position_from-here-requires : goal.position_from-here-requires
position_from-here-requires c =
    let l = c.loop-at in
    let r = room c.args.text.now l.at (l.at + 1024) l.here l.invariant.stands (omega arith) (omega (arith, c.loop-at-test.true, l.invariant.within)) in
    record { line = omega (arith, r.0); column = omega (arith, r.1) }

pub loop-at-preserved : goal.loop-at-preserved
loop-at-preserved c =
    let text = c.args.text.now in
    let l = c.loop-at in
    let same : l.at + 1024 - l.at ≡ 1024 = omega arith in
    let pushed = (c.in_ok-push-2).ensures.items in
    let many : length (c.push-in-loop-at).new.self.items ≡ length l.marks.items + 1 = ap length pushed ∙ length-append l.marks.items _ in
    let stands = (c.position_from-here).ensures ∙ ap (λ k. on l.here (take k (drop l.at text))) same ∙ further text l.at 1024 l.here l.invariant.stands in
    let before : l.at + 1024 ≡ length l.marks.items * step = l.invariant.counted in
    record {
      counted = omega (arith, many, before);
      within = omega (arith, c.loop-at-test.true);
      stands = stands;
      each = marked_on text l.marks.items (c.push-in-loop-at).new.self.items (c.position_from-here).result (l.at + 1024) pushed before stands l.invariant.each;
    }
