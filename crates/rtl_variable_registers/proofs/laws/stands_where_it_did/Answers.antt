use Rattle.rtl_variable_registers.proofs.Standing.{stands_where_it_did}
use Rattle.rtl_variable_registers.proofs.laws.stands_where_it_did.Goals as goal

pub returns : goal.returns
returns c = stands_where_it_did
