use Rattle.std.proofs.Common.{◌++◌, [], ◌∷◌, map, None, ap, ◌∙◌}
use Rattle.std.specs.Prelude.{option_map}
use Rattle.std.proofs.lemmas.List.{map-append}
use Rattle.vhdl_names_units.specs.views.Units.{architecture_view}
use Rattle.vhdl_names.proofs.Placing.{one_more_none}
use Rattle.vhdl_names.proofs.architectures.none_of_each.Goals as goal

pub loop-preserved : goal.loop-preserved
loop-preserved c =
    ap (map (option_map architecture_view)) c.in_ok-push.ensures.items ∙ map-append (option_map architecture_view) c.loop.all.items (None ∷ [])
    ∙ ap (λ l. l ++ None ∷ []) c.loop.invariant ∙ one_more_none c.loop.counter
