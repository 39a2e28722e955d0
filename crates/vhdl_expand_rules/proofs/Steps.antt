-- What the steps of an elaboration gave, where the whole gave something.
use Rattle.std.proofs.Common.{◌≡◌, ℕ, Bool, true, false, List, [], ◌∷◌, Ok, Err, All, refl, subst}
use Rattle.std.proofs.lemmas.List.Elements.{All-cons, All-nil}
use Rattle.vhdl_expand_rules.specs.declared.fault.ElabProblem.{ElabProblem}
use Rattle.vhdl_expand_rules.specs.Elab.{Elab, ◌>>=◌, unless, each}

abbrev pub given : {A : Type 0} → A → Elab A
given x = Ok x

pub ok : {A : Type 0} (x y : A) → given x ≡ given y → x ≡ y
ok x y h = cc

-- what a step gave, and what was done with it
pub record Bound {A B : Type 0} (r : Elab A) (f : A → Elab B) (y : B) : Type 0 where
  pub x : A
  pub gave : r ≡ Ok x
  pub then_gave : f x ≡ Ok y

pub bound : {A B : Type 0} (r : Elab A) (f : A → Elab B) (y : B) → (r >>= f) ≡ Ok y → Bound r f y
bound (Ok x) f y h = record { x = x; gave = refl; then_gave = h }
bound (Err told) f y h = absurd cc

-- a rule that was kept
pub kept : (problem : ElabProblem) (at : ℕ) (test : Bool) (u : Unit {0}) → unless problem at test ≡ Ok u → test ≡ true
kept problem at true u h = refl
kept problem at false u h = absurd cc

-- what all steps gave
pub each-all : {A B : Type 0} (P : B → Type 0) (f : A → Elab B) (xs : List A) (ys : List B)
    → ((x : A) (y : B) → f x ≡ Ok y → P y) → each f xs ≡ Ok ys → All P ys
each-all {A} {B} P f [] ys h e = subst (λ (zs : List B). All P zs) (ok [] ys e) (All-nil P)
each-all {A} {B} P f (x ∷ xs) ys h e =
    let y = bound (f x) _ ys e in
    let zs = bound (each f xs) _ ys y.then_gave in
    subst (λ (ws : List B). All P ws) (ok (y.x ∷ zs.x) ys zs.then_gave) (All-cons P y.x zs.x (h x y.x y.gave) (each-all P f xs zs.x h zs.gave))
