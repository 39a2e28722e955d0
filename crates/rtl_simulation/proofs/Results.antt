-- What is so of an answer.
use Rattle.std.proofs.Common.{◌≡◌, Result, Ok, Err, sym, subst}
use Rattle.std.specs.Prelude.{IfErr, IsErrAnd, MatchResult}

-- an answer that is this fault
pub err_with : {A F : Type 0} (P : Result A F → Type 0) (answer : Result A F) (fault : F) → IsErrAnd answer (λ f. f ≡ fault) → P (Err fault) → P answer
err_with P (Ok x) fault is p = absurd is
err_with {A = A} {F = F} P (Err f) fault is p = subst (λ (g : F). P (Err g)) (sym is) p

-- what is so of this fault
pub fails_with : {A F : Type 0} (Is : A → Type 0) (P : F → Type 0) (answer : Result A F) (fault : F) → IsErrAnd answer (λ f. f ≡ fault) → P fault → MatchResult answer Is P
fails_with Is P (Ok x) fault is p = absurd is
fails_with Is P (Err f) fault is p = subst P (sym is) p

-- what is so of each fault
pub any_err : {A F : Type 0} (So : Type 0) (answer : Result A F) → So → IfErr answer (λ f. So)
any_err So (Ok x) so = tt
any_err So (Err f) so = so
