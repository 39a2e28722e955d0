-- What several readings find first.
use Rattle.std.proofs.Common.{◌≡◌, ◌≢◌, ℕ, Option, Some, None, Result, Ok, Err, IfOk, IfErr, refl, ap, sym, ◌∙◌, subst}
use Rattle.std.specs.Prelude.{IsErrAnd}
use Rattle.vhdl_names_rules.specs.declared.fault.NameFault.{NameFault}
use Rattle.vhdl_names_rules.specs.declared.fault.NameFault.TheVariants.{At, NoMemory}
use Rattle.vhdl_names_rules.specs.declared.fault.NameProblem.{NameProblem}
use Rattle.vhdl_names_rules.specs.Gives.{Gives}
use Rattle.vhdl_names_rules.specs.problems.Broken.{Broken, Tells, nothing, refused, earlier}
use Rattle.vhdl_names_rules.proofs.Telling.{told_same, at_is_told}
use Rattle.vhdl_names.specs.Finding.{Finds, HasMemory, first_of}

pub found_same : {X : Type 0} (a b : Broken) (r : Result X NameFault) → a ≡ b → Finds a r → Finds b r
found_same a b (Ok x) e h = sym e ∙ h
found_same a b (Err f) e h = told_same a b f e h

-- one behind the other
pub first_memory : {A : Type 0} (told next : Result A NameFault) → HasMemory (first_of told next) → HasMemory told × HasMemory next
first_memory (Ok x) next h = (tt, h)
first_memory (Err NoMemory) next h = absurd (h refl)
first_memory (Err (At p at)) (Ok y) h = (h, tt)
first_memory (Err (At p at)) (Err NoMemory) h = absurd (h refl)
first_memory (Err (At p at)) (Err (At q place)) h = (h, at_is_told q place)

-- a fault that is made here
pub tells_at : (p : NameProblem) (at : ℕ) (f : NameFault) → f ≡ At p at → Tells (refused p at) f
tells_at p at f h = let P : NameFault → Type 0 = λ f. Tells (refused p at) f in subst P (sym h) refl

-- an answer that is passed on where only memory may be wanting
pub some_none : {Y : Type 0} (y : Y) → Some y ≡ None → ⊥
some_none y e = cc

-- ---- what is given

-- and told
pub passed_told : {X : Type 0} (b : Broken) (fault : NameFault) (P : NameFault → Type 0) (r : Result X NameFault) → IsErrAnd r P →
    ((e : NameFault) → P e → e ≡ fault) → Tells b fault → Finds b r
passed_told b fault P (Ok x) h same w = absurd h
passed_told b fault P (Err e) h same w = let Q : NameFault → Type 0 = λ f. Tells b f in subst Q (sym (same e h)) w

-- ---- among each other

pub found_ok : {X : Type 0} (b : Broken) (r : Result X NameFault) (x : X) → r ≡ Ok x → Finds b r → b ≡ nothing
found_ok b (Ok y) x e h = h
found_ok b (Err f) x e h = absurd cc

pub found_at : {X : Type 0} (b : Broken) (r : Result X NameFault) (f : NameFault) → r ≡ Err f → Finds b r → Tells b f
found_at b (Ok y) f e h = absurd cc
found_at b (Err g) f e h = let same : g ≡ f = cc in let P : NameFault → Type 0 = λ x. Tells b x in subst P same h

pub earlier_none : (a b : Broken) → a ≡ nothing → earlier a b ≡ b
unfolding earlier
earlier_none None b h = refl
earlier_none (Some x) b h = absurd cc

pub or_memory : (b : Broken) (f : NameFault) → (f ≢ NoMemory → Tells b f) → Tells b f
or_memory b (At p at) h = h (at_is_told p at)
or_memory b NoMemory h = tt

-- ---- what an answer gives

pub given_ok : {X Y : Type 0} (view : X → Y) (o : Option Y) (r : Result X NameFault) (x : X) → r ≡ Ok x → Gives view o r → o ≡ Some (view x)
given_ok view o (Ok y) x e h = let same : y ≡ x = cc in h ∙ ap (λ z. Some (view z)) same
given_ok view o (Err f) x e h = absurd cc

pub if_ok : {X : Type 0} (P : X → Type 0) (r : Result X NameFault) (x : X) → r ≡ Ok x → IfOk r P → P x
if_ok P (Ok y) x e h = let same : y ≡ x = cc in subst P same h
if_ok P (Err f) x e h = absurd cc

pub ok_along : {X Y : Type 0} (view : X → Y) (o p : Option Y) (r : Result X NameFault) → o ≡ p → IfOk r (λ x. p ≡ Some (view x)) → IfOk r (λ x. o ≡ Some (view x))
ok_along view o p (Ok x) e h = e ∙ h
ok_along view o p (Err f) e h = tt

-- where what is given breaks nothing an answer finds what it tells
pub gives_finds : {X Y : Type 0} (view : X → Y) (o : Option Y) (b : Broken) (r : Result X NameFault) → ((y : Y) → o ≡ Some y → b ≡ nothing) → Gives view o r → IfErr r (Tells b) → Finds b r
gives_finds view o b (Ok x) kept g t = kept (view x) g
gives_finds view o b (Err f) kept g t = t

pub ok_finds : {X Y : Type 0} (view : X → Y) (o : Option Y) (b : Broken) (r : Result X NameFault) → ((y : Y) → o ≡ Some y → b ≡ nothing) → IfOk r (λ x. o ≡ Some (view x)) → IfErr r (Tells b) → Finds b r
ok_finds view o b (Ok x) kept g t = kept (view x) g
ok_finds view o b (Err f) kept g t = t

-- ---- a thing beside an answer

module _ {A B : Type 0} (a : A) (q : Result B NameFault) (r : Result (A × B) NameFault) (refused : IfErr r (λ f. q ≡ Err f)) where
  pub beside_gives : {Y : Type 0} (view : A × B → Y) (o : Option Y) → IfOk r (λ p. (p.0 ≡ a) × (q ≡ Ok p.1)) → ((b : B) → q ≡ Ok b → o ≡ Some (view (a, b)))
      → ((f : NameFault) → q ≡ Err f → f ≢ NoMemory → o ≡ None) → Gives view o r
  beside_gives view o both ok err = go r refused both
    where
      go : (r : Result (A × B) NameFault) → IfErr r (λ f. q ≡ Err f) → IfOk r (λ p. (p.0 ≡ a) × (q ≡ Ok p.1)) → Gives view o r
      go (Ok p) k h = ok p.1 h.1 ∙ ap (λ x. Some (view (x, p.1))) (sym h.0)
      go (Err f) k h = err f k

  pub beside_told : (b : Broken) → ((f : NameFault) → q ≡ Err f → Tells b f) → IfErr r (Tells b)
  beside_told b err = go r refused
    where
      go : (r : Result (A × B) NameFault) → IfErr r (λ f. q ≡ Err f) → IfErr r (Tells b)
      go (Ok p) k = tt
      go (Err f) k = err f k

pub err_memory : {X : Type 0} (r : Result X NameFault) (f : NameFault) → r ≡ Err f → f ≢ NoMemory → HasMemory r
err_memory (Ok x) f e n = tt
err_memory (Err g) f e n = let same : g ≡ f = cc in λ m. n (sym same ∙ m)
