use Rattle.std.proofs.Common.{◌≡◌, ◌≤◌, ◌-◌, ap, arith, drop, length, length-drop, take, ◌∙◌}
use Rattle.std.proofs.lemmas.List.{length-take}
use Rattle.vhdl_values.specs.Planes.{has_bit}
use Rattle.vhdl_values.proofs.Kept.{IsKept-seen}
use Rattle.vhdl_values.proofs.Parts.{part}
use Rattle.vhdl_values.proofs.vector.Vec9.codes_at.Goals as goal

pub returns : goal.returns
returns c =
    let h = IsKept-seen _ _ _ _ _ _ c.self.invariant c.self.view_is in
    let right = ap (λ n. n - c.args.at - c.args.len) c.len.ensures.len in
    let long : c.args.len ≡ length (take c.args.len (drop c.args.at c.args.self.now)) = simp (length-take, length-drop) (omega arith) in
    let short : length (take c.args.len (drop c.args.at c.args.self.now)) ≤ 8 = omega arith in
    ap (λ n. drop (8 - n) c.codes_of_bytes.result) long
    ∙ c.codes_of_bytes.ensures (take c.args.len (drop c.args.at c.args.self.now)) short (
      part (has_bit 0) _ _ c.args.at c.args.len _ _ h.first c.requires.within right c.byte.ensures,
      part (has_bit 1) _ _ c.args.at c.args.len _ _ h.second c.requires.within right c.byte-2.ensures,
      part (has_bit 2) _ _ c.args.at c.args.len _ _ h.third c.requires.within right c.byte-3.ensures,
      part (has_bit 3) _ _ c.args.at c.args.len _ _ h.fourth c.requires.within right c.byte-4.ensures,
    )
