use Rattle.std.proofs.Common.{List, ℕ, subst, sym}
use Rattle.std.proofs.lemmas.Result.{IfOk-from_err}
use Rattle.rtl_net.specs.Core.{core}
use Rattle.rtl_levels.specs.Visits.{AreNetLevels}
use Rattle.rtl_levels.proofs.machine.Machine.new.Goals as goal

pub leveled-requires-clause-nets : goal.leveled-requires-clause-nets
leveled-requires-clause-nets g c = subst (λ (ns : List ℕ). AreNetLevels (core c.args.net.now) ns) (sym c.deref.ensures.value) c.in_ok-nets.ensures

pub returns-in_err-nets : goal.returns-in_err-nets
returns-in_err-nets g c = let e = c.from_residual.ensures.0 in record { net = IfOk-from_err _ _ e; first = IfOk-from_err _ _ e }
