-- What the steps of a rule gave, where the whole gave something.
use Rattle.std.proofs.Common.{◌≡◌, Bool, true, false, Option, Some, None, refl}
use Rattle.std.proofs.lemmas.Option.{same_Some}
use Rattle.vhdl_names_rules.specs.Rules.{◌>>=◌, then_some}

pub record Step {A B : Type 0} (o : Option A) (f : A → Option B) (y : B) : Type 0 where
  pub x : A
  pub gave : o ≡ Some x
  pub then_gave : f x ≡ Some y

pub step : {A B : Type 0} (o : Option A) (f : A → Option B) (y : B) → (o >>= f) ≡ Some y → Step o f y
step (Some x) f y h = record { x = x; gave = refl; then_gave = h }
step None f y h = absurd cc

pub given_some : {A : Type 0} (test : Bool) (x y : A) → then_some test x ≡ Some y → (test ≡ true) × (x ≡ y)
given_some true x y h = (refl, same_Some x y h)
given_some false x y h = absurd cc
