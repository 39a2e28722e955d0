use Rattle.std.proofs.Common.{ap, ◌∙◌, [], ◌∷◌}
use Rattle.std.specs.Prelude.{bytes_eq}
use Rattle.std.specs.List.{list_any}
use Rattle.vhdl_names_units.proofs.Once.{contained}
use Rattle.vhdl_names_statements.proofs.choices.has_position.Goals as goal

pub returns : goal.returns
returns c = c.contains.ensures ∙ ap (λ q. list_any (λ k. bytes_eq q k.items) c.args.keys.now.keys) c.as_slice.ensures ∙ contained (9 ∷ c.args.position ∷ []) c.args.keys.now.keys
