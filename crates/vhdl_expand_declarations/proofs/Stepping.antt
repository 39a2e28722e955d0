-- Two computations one after another, and what is made of both.
use Rattle.std.proofs.Common.{◌≡◌, List, [], ◌∷◌, map, Ok, Err, refl, ap, ◌∙◌}
use Rattle.vhdl_expand_rules.specs.Elab.{Elab, ◌>>=◌}
use Rattle.vhdl_expand_rules.proofs.Steps.{given}
use Rattle.vhdl_expand_declarations.specs.Stepwise.{stepwise}

-- the same goes on in the same way
pub goes_alike : {A B : Type 0} (r : Elab A) (f g : A → Elab B) → ((x : A) → f x ≡ g x) → (r >>= f) ≡ (r >>= g)
goes_alike (Ok x) f g h = h x
goes_alike (Err p) f g h = refl

-- what is made of two results is made of their pair
pub of_both : {A B C : Type 0} (r : Elab A) (s : A → Elab B) (make : A → B → C)
    → (r >>= λ x. s x >>= λ y. given (make x y)) ≡ (r >>= λ x. s x >>= λ y. given (x, y)) >>= λ (p : A × B). given (make p.0 p.1)
of_both {A} {B} {C} (Ok x) s make = go (s x)
  where
    go : (q : Elab B) → (q >>= λ y. given (make x y)) ≡ (q >>= λ y. given (x, y)) >>= λ (p : A × B). given (make p.0 p.1)
    go (Ok y) = refl
    go (Err p) = refl
of_both (Err p) s make = refl

-- steps that are alike walk alike
pub walks_alike : {S X Y : Type 0} (step : S → X → Elab S) (other : S → Y → Elab S) (v : X → Y) → ((s : S) (x : X) → other s (v x) ≡ step s x)
    → (s : S) (xs : List X) → stepwise other s (map v xs) ≡ stepwise step s xs
walks_alike step other v h s [] = refl
walks_alike step other v h s (x ∷ xs) =
    ap (λ r. r >>= λ t. stepwise other t (map v xs)) (h s x)
    ∙ goes_alike (step s x) (λ t. stepwise other t (map v xs)) (λ t. stepwise step t xs) (λ t. walks_alike step other v h t xs)
