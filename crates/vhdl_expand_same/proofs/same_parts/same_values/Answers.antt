use Rattle.std.proofs.Common.{◌≡◌, ℕ, ◌<◌, length, map, sym, ◌∙◌, arith}
use Rattle.std.specs.Prelude.{slice_index}
use Rattle.std.proofs.lemmas.List.{length-map, get_or-map}
use borrow.Author.Count.{below_more}
use Rattle.vhdl_values.specs.declared.scalar.Nine.TheVariants.{U}
use Rattle.vhdl_values.specs.Scalar.{code_of}
use Rattle.vhdl_expand_same.proofs.Comparing.{differ_at, alike}
use Rattle.vhdl_expand_same.proofs.same_parts.same_values.Goals as goal

pub loop-place-preserved : goal.loop-place-preserved
loop-place-preserved c =
    let left = c.args.left.now in
    let right = c.args.right.now in
    let i = c.loop-place.place in
    let below : i < length right = omega (arith, c.loop-place-test.true, c.if-left-right.false) in
    below_more (λ (k : ℕ). slice_index (map code_of left) k ≡ slice_index (map code_of right) k) i c.loop-place.invariant
    (get_or-map code_of left i U 0 c.loop-place-test.true ∙ sym c.code.ensures.code ∙ c.if-code.false ∙ c.code-in-loop-place.ensures.code ∙ sym (get_or-map code_of right i U 0 below))

pub returns-then-code : goal.returns-then-code
returns-then-code c =
    let left = c.args.left.now in
    let right = c.args.right.now in
    let i = c.loop-place.place in
    let below : i < length right = omega (arith, c.loop-place-test.true, c.if-left-right.false) in
    sym (differ_at (map code_of left) (map code_of right) i (λ same.
    c.if-code.true (c.code.ensures.code ∙ sym (get_or-map code_of left i U 0 c.loop-place-test.true) ∙ same ∙ get_or-map code_of right i U 0 below
    ∙ sym c.code-in-loop-place.ensures.code)))

pub returns : goal.returns
returns c =
    let left = map code_of c.args.left.now in
    let right = map code_of c.args.right.now in
    let p = length-map c.args.left.now code_of in
    let q = length-map c.args.right.now code_of in
    let same : length left ≡ length right = omega (arith, c.if-left-right.false, p, q) in
    sym (alike left right same (λ k below. c.loop-place.invariant k (omega (arith, below, c.loop-place-test.false, p))))
