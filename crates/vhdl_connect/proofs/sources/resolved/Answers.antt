use Rattle.std.proofs.Common.{ap, ◌∙◌}
use Rattle.vhdl_values.specs.Resolution as values
use Rattle.vhdl_connect.proofs.Resolving.{several_resolve}
use Rattle.vhdl_connect.proofs.sources.resolved.Goals as goal

pub returns : goal.returns
returns c =
    several_resolve c.args.values.now c.resolve.result c.code.result c.requires c.if-values-eq1.false
    (c.resolve.ensures ∙ ap values.resolved (c.deref.ensures.value ∙ c.in_ok-several.ensures)) c.code.ensures.code
