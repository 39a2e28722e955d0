-- The processes of a fault as one value.
use Rattle.std.specs.Prelude.{ℕ, Option}
use Rattle.rtl_model.specs.simulation.Accepted.{Fault}
use Rattle.rtlsim_findings.specs.Causes.{first_process, second_process}

abbrev pub pair_of : Fault → Option ℕ × Option ℕ
pair_of fault = (first_process fault, second_process fault)
