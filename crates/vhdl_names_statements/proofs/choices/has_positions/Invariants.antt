use Rattle.std.proofs.Common.{◌≡◌, [], ◌∷◌, ◌-◌}
use Rattle.std.specs.List.{list_all, range_with_len}
use Rattle.vhdl_names_rules.specs.Visibility.{is_among}
use Rattle.vhdl_names_units.specs.Once.{names_view}
use Rattle.vhdl_names_statements.proofs.choices.has_positions.Given as goal

-- what is left to look at decides
abbrev pub invariant-loop-position : goal.invariant-loop-position
invariant-loop-position l =
    list_all (λ p. is_among (9 ∷ p ∷ []) (names_view l.keys)) (range_with_len 0 l.count)
    ≡ list_all (λ p. is_among (9 ∷ p ∷ []) (names_view l.keys)) (range_with_len l.position (l.count - l.position))
