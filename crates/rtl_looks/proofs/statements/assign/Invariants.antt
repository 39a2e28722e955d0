use Rattle.std.proofs.Common.{take}
use Rattle.rtl_looks.specs.Walks.{Assigned}
use Rattle.rtl_looks.proofs.statements.assign.Given as goal

abbrev pub invariant-loop-place : goal.invariant-loop-place
invariant-loop-place l =
    Assigned l.kind (take l.place l.numbers) l.looks l.round l.initial.hubs.hubs.items l.hubs.hubs.items l.initial.env l.env l.initial.changes l.changes
