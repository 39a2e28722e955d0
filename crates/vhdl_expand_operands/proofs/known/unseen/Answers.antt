use Rattle.std.proofs.Common.{replicate, ap, ◌∙◌}
use Rattle.rtl_net.specs.Indices.{numbers}
use Rattle.vhdl_values.specs.declared.scalar.Nine.TheVariants.{U}
use Rattle.vhdl_expand_operands.proofs.Unseen.{all_unseen}
use Rattle.vhdl_expand_operands.proofs.known.unseen.Goals as goal

pub returns : goal.returns
returns c = c.fill.ensures.list ∙ ap (λ n. replicate n U) c.len.ensures ∙ all_unseen (numbers c.args.places.now)
