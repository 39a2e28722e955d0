use Rattle.std.proofs.Common.{ap, ◌∙◌, arith}
use Rattle.rtl_signal_names.specs.Names.{are_alike}
use Rattle.rtlsim_nearest.proofs.Ends.{stands_is}
use Rattle.rtlsim_nearest.proofs.likeness.stands_last.Goals as goal

pub returns-then-name-start-eq46 : goal.returns-then-name-start-eq46
returns-then-name-start-eq46 c =
    stands_is c.args.other.now c.args.name.now _ (omega (arith, c.if-name-other.false)) c.if-name-start-eq46.true (c.are_alike.ensures ∙ ap (are_alike c.args.other.now) c.split_at.ensures.back)
