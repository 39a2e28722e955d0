use Rattle.std.proofs.Common.{List, ap, ◌∙◌}
use Rattle.vhdl_misfits.specs.Misfits.{Row, first_told}
use Rattle.vhdl_misfits.proofs.told.misfit.Goals as goal

pub returns : goal.returns
returns c =
    c.first_told.ensures
    ∙ ap (λ (tables : List (List Row)). first_told tables c.args.known c.args.text.now c.args.last_two.now c.args.from.now) c.misfits.ensures
