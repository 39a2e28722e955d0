-- What follows where rules are kept.
use Rattle.std.proofs.Common.{◌≡◌, ℕ, zero, suc, Bool, true, false, not, ◌&&◌, ◌||◌, map, List, [], ◌∷◌, Option, Some, None, refl, ap, sym, ◌∙◌}
use Rattle.std.specs.List.{slice_get, list_any, list_all}
use Rattle.vhdl_names_rules.specs.Rules.{◌>>=◌, ◌>>◌, met, each}

-- what the rest rests on
pub record Comes {A B : Type 0} (o : Option A) (f : A → Option B) (y : B) : Type 0 where
  pub value : A
  pub is : o ≡ Some value
  pub rest : f value ≡ Some y

pub comes : {A B : Type 0} (o : Option A) (f : A → Option B) (y : B) → (o >>= f) ≡ Some y → Comes o f y
comes None f y e = cc
comes (Some x) f y e = record { value = x; is = refl; rest = e }

pub kept : {A : Type 0} (b : Bool) (o : Option A) (y : A) → (met b >> o) ≡ Some y → (b ≡ true) × (o ≡ Some y)
kept true o y e = (refl, e)
kept false o y e = cc

-- both tests of two
pub both : (a b : Bool) → (a && b) ≡ true → (a ≡ true) × (b ≡ true)
both true b e = (refl, e)
both false b e = cc

pub not_true : (a : Bool) → not a ≡ true → a ≡ false
not_true true e = cc
not_true false e = refl

pub neither : (a b : Bool) → (a || b) ≡ false → (a ≡ false) × (b ≡ false)
neither true b e = cc
neither false b e = (refl, e)

-- no element passes
pub none_passes : {X : Type 0} (f : X → Bool) (xs : List X) (k : ℕ) (x : X) → list_any f xs ≡ false → slice_get xs k ≡ Some x → f x ≡ false
none_passes f [] k x e at = cc
none_passes f (y ∷ ys) zero x e at = let h : y ≡ x = cc in ap f (sym h) ∙ (neither (f y) (list_any f ys) e).0
none_passes f (y ∷ ys) (suc k) x e at = none_passes f ys k x (neither (f y) (list_any f ys) e).1 at

pub each_passes : {X : Type 0} (f : X → Bool) (xs : List X) (k : ℕ) (x : X) → list_all f xs ≡ true → slice_get xs k ≡ Some x → f x ≡ true
each_passes f [] k x e at = cc
each_passes f (y ∷ ys) zero x e at = let h : y ≡ x = cc in ap f (sym h) ∙ (both (f y) (list_all f ys) e).0
each_passes f (y ∷ ys) (suc k) x e at = each_passes f ys k x (both (f y) (list_all f ys) e).1 at

-- what is at a place of a list comes of what is there
pub record Made {A B : Type 0} (f : A → Option B) (x : A) (ys : List B) (k : ℕ) : Type 0 where
  pub value : B
  pub is : f x ≡ Some value
  pub at : slice_get ys k ≡ Some value

pub made : {A B : Type 0} (f : A → Option B) (xs : List A) (ys : List B) (k : ℕ) (x : A)
    → each f xs ≡ Some ys → slice_get xs k ≡ Some x → Made f x ys k
made f [] ys k x e at = cc
made {A} {B} f (a ∷ xs) ys k x e at =
    let c = comes (f a) (λ y. each f xs >>= λ ys. Some (y ∷ ys)) ys e in
    let d = comes (each f xs) (λ ys. Some (c.value ∷ ys)) ys c.rest in
    here c.value d.value c.is (cc) (λ k. made f xs d.value k x d.is) k at
  where
    here : (y : B) (zs : List B) → f a ≡ Some y → y ∷ zs ≡ ys → ((k : ℕ) → slice_get xs k ≡ Some x → Made f x zs k)
        → (k : ℕ) → slice_get (a ∷ xs) k ≡ Some x → Made f x ys k
    here y zs is g more zero at =
        let h : a ≡ x = cc in
        record { value = y; is = ap f (sym h) ∙ is; at = ap (λ ys. slice_get ys 0) (sym g) }
    here y zs is g more (suc k) at =
        let m = more k at in
        record { value = m.value; is = m.is; at = ap (λ ys. slice_get ys (suc k)) (sym g) ∙ m.at }

pub some_is : {A : Type 0} (x y : A) → Some x ≡ Some y → x ≡ y
some_is x y e = cc

-- what each gives keeps what of each is kept
pub each_keeps : {A B C : Type 0} (f : A → Option B) (g : A → C) (h : B → C) → ((x : A) (y : B) → f x ≡ Some y → h y ≡ g x)
    → (xs : List A) (ys : List B) → each f xs ≡ Some ys → map h ys ≡ map g xs
each_keeps f g h one [] ys e = ap (map h) (sym (some_is _ ys e))
each_keeps f g h one (x ∷ xs) ys e =
    let c = comes (f x) (λ y. each f xs >>= λ ys. Some (y ∷ ys)) ys e in
    let d = comes (each f xs) (λ ys. Some (c.value ∷ ys)) ys c.rest in
    ap (map h) (sym (some_is _ ys d.rest))
    ∙ ap (λ y. y ∷ map h d.value) (one x c.value c.is)
    ∙ ap (λ ys. g x ∷ ys) (each_keeps f g h one xs d.value d.is)
