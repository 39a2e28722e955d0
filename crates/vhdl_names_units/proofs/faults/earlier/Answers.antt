use Rattle.std.proofs.Common.{◌≡◌, rules}
use Rattle.vhdl_names_units.specs.Faults.{earlier}
use Rattle.vhdl_names_units.proofs.Told.{told_as}
use Rattle.vhdl_names_units.proofs.faults.earlier.Goals as goal

pub returns-then-place-at-clause-told : goal.returns-then-place-at-clause-told
returns-then-place-at-clause-told c = λ a b h k.
    let first : c.args.other ≡ earlier c.args.fault c.args.other = search rules in
    told_as a b c.args.fault c.args.other c.args.other first h k

pub returns-else-place-at-clause-told : goal.returns-else-place-at-clause-told
returns-else-place-at-clause-told c = λ a b h k.
    let first : c.args.fault ≡ earlier c.args.fault c.args.other = search rules in
    told_as a b c.args.fault c.args.other c.args.fault first h k
