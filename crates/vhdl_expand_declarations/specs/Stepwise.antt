-- One step after another, each of which may be refused.
use Rattle.std.specs.Prelude.{List, [], ◌∷◌, Ok}
use Rattle.vhdl_expand_rules.specs.Elab.{Elab, ◌>>=◌}

-- from this state, a step for each of these
abbrev pub stepwise : {S X : Type 0} → (S → X → Elab S) → S → List X → Elab S
stepwise step s [] = Ok s
stepwise step s (x ∷ xs) = do
  t ← step s x
  stepwise step t xs
