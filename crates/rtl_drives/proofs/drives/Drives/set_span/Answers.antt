use Rattle.std.proofs.Common.{◌-◌, length, sym, ◌∙◌, arith}
use Rattle.std.proofs.lemmas.Bool.{eqb-false}
use Rattle.rtl_drives.proofs.drives.Drives.set_span.Goals as goal

pub are_free-requires : goal.are_free-requires
are_free-requires c =
    let many = length c.args.values.now in
    let differ = eqb-false many 0 (sym c.is_empty.ensures ∙ c.if-is_empty.false) in
    let last = c.requires.there (many - 1) (omega (arith, differ)) in
    omega (arith, differ, last)
