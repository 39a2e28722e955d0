use Rattle.std.proofs.Common.{◌≡◌, ◌+◌, ◌-◌, length, map, refl, arith}
use Rattle.std.proofs.lemmas.List.{length-map}
use Rattle.rtl_undriven_inputs.proofs.Inserting.{line_next, mapped_at, no_lines_left}
use Rattle.rtl_undriven_inputs.proofs.names.add_parts.Goals as goal

pub loop-part-init : goal.loop-part-init
loop-part-init c = record { count = omega arith; names = λ w. refl }

pub loop-part-preserved : goal.loop-part-preserved
loop-part-preserved c =
    let l = c.loop-part in
    let parts = c.args.parts.now in
    let before = l.invariant.count in
    let count : (l.left - 1) + (l.part-index + 1) ≡ length parts = omega (arith, before, c.loop-part-test.true) in
    record {
      count = count;
      names = λ w.
          line_next w (map (λ p. p.now) parts) l.part-index (l.left - 1) _ c.line_of.result.now _ _ _ (rw (length-map parts (λ p. p.now)) c.loop-part-test.true)
          (rw (length-map parts (λ p. p.now)) count) (mapped_at (λ p. p.now) parts l.part-index _ c.loop-part-test.true)
          c.line_of.ensures (c.in_ok-add_line.ensures w) (l.invariant.names w);
    }

pub returns : goal.returns
returns c =
    let l = c.loop-part in
    λ w. no_lines_left w (map (λ p. p.now) c.args.parts.now) l.part-index _ _ (rw (length-map c.args.parts.now (λ p. p.now)) c.loop-part-test.false) (l.invariant.names w)
