use Rattle.std.proofs.Common.{sym}
use Rattle.vhdl_names_rules.specs.problems.Broken.{earlier}
use Rattle.vhdl_names.proofs.Finding.{found_ok, found_same, earlier_none}
use Rattle.vhdl_names.proofs.faults.earlier_of.Goals as goal

pub returns-in-Ok-clause-told : goal.returns-in-Ok-clause-told
returns-in-Ok-clause-told g c = λ a b h k.
    found_same b (earlier a b) _ (sym (earlier_none a b (found_ok a c.args.told _ c.in-Ok.is h))) k
