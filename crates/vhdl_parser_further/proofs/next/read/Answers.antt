use Rattle.std.proofs.Common.{inl}
use Rattle.vhdl_tree.specs.View.{file_view}
use Rattle.vhdl_parser_further.proofs.next.read.Goals as goal

pub returns-in-Ok : goal.returns-in-Ok
returns-in-Ok c = rw (← c.deref.ensures.value) (inl (file_view c.in-Ok.field-0, record { spelled = c.in-Ok.ensures.spelled; well_formed = c.in-Ok.ensures.well_formed }))
