use Rattle.rtl_looks.proofs.Noted.{stands}
use Rattle.rtl_looks.proofs.table.Table.is_noted.Goals as goal

pub returns-then-place-changes : goal.returns-then-place-changes
returns-then-place-changes c = λ same. stands c.args.changes.now c.index-place.result.now _ c.args.number c.if-place-changes.true same
