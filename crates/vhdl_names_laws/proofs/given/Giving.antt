-- What breaks no rule is given.
use Rattle.std.proofs.Common.{◌≡◌, ℕ, zero, suc, Bool, true, false, cond, List, [], ◌∷◌, Option, Some, None, refl, ap, sym, ◌∙◌}
use Rattle.std.specs.Prelude.{option_map, is_some}
use Rattle.std.specs.List.{slice_get}
use Rattle.vhdl_names_rules.specs.declared.fault.NameProblem.{NameProblem}
use Rattle.vhdl_names_rules.specs.Rules.{◌>>=◌, ◌>>◌, met, then_some, each, if_any}
use Rattle.vhdl_names_rules.specs.problems.Broken.{Broken, ◌▸◌, unless, lacking, where_given, any_of, of_any}
use Rattle.vhdl_names_rules.proofs.laws.Rules.{some_is}
use Rattle.vhdl_names_rules.proofs.Telling.{IsKept, kept_left, kept_right}

-- a thing is given
pub record IsGiven {A : Type 0} (o : Option A) : Type 0 where
  pub value : A
  pub is : o ≡ Some value

abbrev pub this : {A : Type 0} (x : A) → IsGiven (Some x)
this x = record { value = x; is = refl }

pub bound_is : {A B : Type 0} (o : Option A) (f : A → Option B) (x : A) (y : B) → o ≡ Some x → f x ≡ Some y → (o >>= f) ≡ Some y
bound_is o f x y e g = ap (λ o. o >>= f) e ∙ g

pub ruled_is : {A : Type 0} (b : Bool) (o : Option A) (y : A) → b ≡ true → o ≡ Some y → (met b >> o) ≡ Some y
ruled_is b o y e g = ap (λ b. met b >> o) e ∙ g

abbrev pub bound : {A B : Type 0} (o : Option A) (f : A → Option B) (x : A) → o ≡ Some x → IsGiven (f x) → IsGiven (o >>= f)
bound o f x e g = record { value = g.value; is = bound_is o f x g.value e g.is }

abbrev pub ruled : {A : Type 0} (b : Bool) (o : Option A) → b ≡ true → IsGiven o → IsGiven (met b >> o)
ruled b o e g = record { value = g.value; is = ruled_is b o g.value e g.is }

-- another way of writing it
pub same_given : {A : Type 0} (o p : Option A) → o ≡ p → IsGiven p → IsGiven o
same_given o p e g = record { value = g.value; is = e ∙ g.is }

-- what is mapped is given
pub unmapped : {A B : Type 0} (f : A → B) (o : Option A) → IsGiven (option_map f o) → IsGiven o
unmapped f None g = let none = g.is in absurd cc
unmapped f (Some x) g = this x

pub some_of : {A : Type 0} (o : Option A) → is_some o ≡ true → IsGiven o
some_of None h = absurd cc
some_of (Some x) h = this x

pub that_given : {A : Type 0} (b : Bool) (x : A) → b ≡ true → IsGiven (then_some b x)
that_given true x h = this x
that_given false x h = absurd cc

pub mapped_given : {A B : Type 0} (f : A → B) (o : Option A) → IsGiven o → IsGiven (option_map f o)
mapped_given f o g = record { value = f g.value; is = ap (option_map f) g.is }

-- what is given behind it rests on nothing else
pub bound_behind : {A B C : Type 0} (o : Option A) (f : A → Option B) (g : B → Option C) → IsGiven (o >>= f) → ((y : B) → IsGiven (g y)) → IsGiven (o >>= λ x. f x >>= g)
bound_behind None f g h one = let none = h.is in absurd cc
bound_behind (Some x) f g h one = bound (f x) g h.value h.is (one h.value)

-- ---- parts

pub parts : (a b : Broken) → IsKept (a ▸ b) → IsKept a × IsKept b
parts a b h = (kept_left a b h, kept_right a b h)

pub holds : (q : NameProblem) (at : ℕ) (b : Bool) → IsKept (unless q at b) → b ≡ true
holds q at true h = refl
holds q at false h = absurd cc

-- what must hold, and doesn't
pub fails : (q : NameProblem) (at : ℕ) (b : Broken) → IsKept (unless q at false ▸ b) → ⊥
fails q at b h = let e : false ≡ true = holds q at false (kept_left (unless q at false) b h) in cc

-- one of two is there
pub either_fails : (b : Bool) (x y : NameProblem × ℕ) → IsKept (cond b (Some x) (Some y)) → ⊥
either_fails true x y h = cc
either_fails false x y h = cc

pub given : {A : Type 0} (q : NameProblem) (at : ℕ) (o : Option A) → IsKept (lacking q at o) → IsGiven o
given q at None h = absurd cc
given q at (Some x) h = this x

pub of_given : {A : Type 0} (f : A → Broken) (o : Option A) (x : A) → o ≡ Some x → IsKept (where_given o f) → IsKept (f x)
of_given f o x e h = ap (λ o. where_given o f) (sym e) ∙ h

-- ---- each of several things

pub if_any_given : {A B : Type 0} (f : A → Broken) (g : A → Option B) → ((x : A) → IsKept (f x) → IsGiven (g x)) → (o : Option A) → IsKept (of_any f o) → IsGiven (if_any g o)
if_any_given f g one None h = this None
if_any_given f g one (Some x) h = let y = one x h in bound (g x) (λ y. Some (Some y)) y.value y.is (this (Some y.value))

pub each_given : {A B : Type 0} (f : A → Broken) (g : A → Option B) → ((x : A) → IsKept (f x) → IsGiven (g x)) → (xs : List A) → IsKept (any_of f xs) → IsGiven (each g xs)
each_given f g one [] h = this []
each_given f g one (x ∷ xs) h =
    let p = parts (f x) (any_of f xs) h in
    let y = one x p.0 in
    let ys = each_given f g one xs p.1 in
    bound (g x) (λ y. each g xs >>= λ ys. Some (y ∷ ys)) y.value y.is (bound (each g xs) (λ ys. Some (y.value ∷ ys)) ys.value ys.is (this (y.value ∷ ys.value)))

-- where none of several things breaks a rule, that at a place doesn't
pub any_at : {A : Type 0} (f : A → Broken) (xs : List A) (k : ℕ) (x : A) → IsKept (any_of f xs) → slice_get xs k ≡ Some x → IsKept (f x)
any_at f [] k x h e = absurd cc
any_at f (y ∷ xs) zero x h e = ap f (sym (some_is y x e)) ∙ (parts (f y) (any_of f xs) h).0
any_at f (y ∷ xs) (suc k) x h e = any_at f xs k x (parts (f y) (any_of f xs) h).1 e
