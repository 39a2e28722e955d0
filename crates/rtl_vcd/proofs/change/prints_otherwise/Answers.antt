use Rattle.std.proofs.Common.{◌≡◌, List, ℕ, map, not, slice_index, ap, subst, ◌∙◌}
use Rattle.std.specs.Str.{bytes_eq}
use Rattle.rtl_vcd_values.specs.Values.{character, code}
use Rattle.rtl_vcd_values.proofs.Printing.{characters_tell}
use Rattle.rtl_vcd.proofs.change.prints_otherwise.Goals as goal

pub returns-in_default : goal.returns-in_default
returns-in_default c =
    let nets = c.args.signal.now.nets.items in
    subst (λ (ns : List ℕ). c.has_other_characters.result
    ≡ not (bytes_eq (map character (map (slice_index c.args.old.now) ns)) (map character (map (slice_index c.args.new.now) ns)))) c.deref.ensures c.has_other_characters.ensures
    ∙ ap not (characters_tell c.args.signal.now.kind (code c.args.number) (map (slice_index c.args.old.now) nets) (map (slice_index c.args.new.now) nets) c.in_default.not-Enumeration c.in_default.not-Integer)
