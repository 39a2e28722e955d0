use Rattle.std.proofs.Common.{◌≡◌, ◌==◌, not, map, slice_index, sym, ap, subst, ◌∙◌}
use Rattle.std.proofs.lemmas.Bool.{not-true}
use Rattle.std.proofs.lemmas.List.{take_all}
use Rattle.std.proofs.lemmas.Slice.Eq.{bytes_eq-Decides}
use Rattle.rtl_vcd_values.specs.Values.{character}
use Rattle.rtl_vcd_values.proofs.Printing.{other_at}
use Rattle.rtl_vcd.proofs.change.has_other_characters.Goals as goal

pub returns-then-is_other_character : goal.returns-then-is_other_character
returns-then-is_other_character c =
    let net = slice_index c.args.nets.now c.loop-net.net-index in
    let other = not-true (character (slice_index c.args.old.now net) == character (slice_index c.args.new.now net)) (sym c.is_other_character.ensures ∙ c.if-is_other_character.true) in
    ap not (sym (other_at c.args.old.now c.args.new.now c.args.nets.now c.loop-net.net-index c.loop-net-test.true other))

pub returns : goal.returns
returns c =
    let nets = take_all c.loop-net.net-index c.args.nets.now c.loop-net-test.false in
    let same = subst (λ ns. map character (map (slice_index c.args.old.now) ns) ≡ map character (map (slice_index c.args.new.now) ns)) nets c.loop-net.invariant in
    ap not (sym ((bytes_eq-Decides (map character (map (slice_index c.args.old.now) c.args.nets.now)) (map character (map (slice_index c.args.new.now) c.args.nets.now))).1 same))
