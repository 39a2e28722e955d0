use Rattle.vhdl_expected.specs.Changes.{change_of}
use Rattle.vhdl_expected.proofs.Within.{within_changed}
use Rattle.vhdl_expected.proofs.trial.tried.Goals as goal

pub goes_on-requires : goal.goes_on-requires
goes_on-requires c =
    rw (c.deref.ensures.value, c.in_ok-tokens.ensures)
    (within_changed c.args.reading.source.now c.args.place (change_of c.args.change) c.args.reading.tokens.now c.requires.within)
