-- Where there are several values, the definition is its fold.
use Rattle.std.proofs.Common.{◌∙◌}
use Rattle.vhdl_values.proofs.Resolving.{resolved-several}
use Rattle.vhdl_values.proofs.resolution.resolve.Goals as goal

pub returns : goal.returns
returns c = c.fold_from_z.ensures ∙ resolved-several c.args.values.now c.if-values-eq1.false
