-- A text that is told behind another.
use Rattle.std.proofs.Common.{ℕ, List, [], ◌∷◌, ◌++◌, sym, subst, ◌∙◌}
use Rattle.std.proofs.lemmas.List.{append-nil}
use Rattle.byte_streams.proofs.Writing.{Goes-append}
use Rattle.byte_streams.specs.Written.{SinkState, Goes}
use Rattle.rtlsim_commands.specs.Answered.{TellsText}

pub tells_behind : (a b : List ℕ) (old between new : SinkState) → TellsText a old between → TellsText b between new → TellsText (a ++ b) old new
tells_behind [] [] old between new first second = second ∙ first
tells_behind [] (y ∷ ys) old between new first second = subst (λ (s : SinkState). Goes s new (y ∷ ys)) first second
tells_behind (x ∷ xs) [] old between new first second =
    subst (λ (s : SinkState). Goes old s ((x ∷ xs) ++ [])) (sym second) (subst (λ (t : List ℕ). Goes old between t) (sym (append-nil (x ∷ xs))) first)
tells_behind (x ∷ xs) (y ∷ ys) old between new first second = Goes-append old between new (x ∷ xs) (y ∷ ys) first second
