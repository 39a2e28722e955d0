use Rattle.rtl_looks.proofs.statements.leave.Goals as goal
