-- What contracts see of truths over static integers, and of turns.
use Rattle.std.specs.Prelude.{Bool, List, [], ◌∷◌, ℤ, Ok}
use Rattle.vhdl_names_trees.specs.declared.test.StaticTestLink.{StaticTestLink}
use Rattle.vhdl_names_trees.specs.views.Tests.{static_test_view}
use Rattle.rtl_model.specs.bodies.Tests.{truth}
use Rattle.vhdl_expand_rules.specs.declared.turns.Turns.{Turns}
use Rattle.vhdl_expand_rules.specs.Elab.{Elab, ◌>>=◌}
use Rattle.vhdl_expand_rules.specs.Integers as definition
use Rattle.vhdl_expand_rules.specs.Integers.{decision, numbers_from}

-- the operators of a chain, on the truth of what stands before them
abbrev pub all_decided : definition.Integers → Bool → List StaticTestLink → Elab Bool
all_decided here b [] = Ok b
all_decided here b (l ∷ ls) = do
  c ← decision here (static_test_view l.operand)
  all_decided here (truth l.operator b c) ls

abbrev pub turns_view : Turns → List ℤ
turns_view t = numbers_from t.direction t.first t.count
