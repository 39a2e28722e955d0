-- Elaborations that give the same, or are both refused: what may be told of the second may be told of the first.
use Rattle.std.proofs.Common.{◌≡◌, ℕ, List, Ok, Err, refl, sym, ap, ◌∙◌, subst}
use Rattle.std.specs.Prelude.{IsErr, Contains}
use Rattle.vhdl_expand_rules.specs.declared.fault.ElabProblem.TheVariants.{TooMany}
use Rattle.vhdl_expand_rules.specs.Elab.{Told, Elab, ◌>>=◌, MayTell}
use Rattle.vhdl_expand_rules.proofs.Chains.{err_first}

abbrev pub wrong : {A : Type 0} → Told → Elab A
wrong told = Err told

-- ---- what may be told

-- what is refused by the definition; where that is TooMany, at one of the bytes
pub tells : {A : Type 0} {bytes : List ℕ} {p : Elab A} {told : Told} → (told.0 ≡ TooMany → Contains bytes told.1) → p ≡ Err told → MayTell bytes p told
tells {A} {bytes} {p} {told} at h = record { refused = subst (λ (r : Elab A). IsErr r) (sym h) refl; first = λ _. h; placed = at }

-- a budget is spent
pub tells_spent : {A : Type 0} {bytes : List ℕ} {p : Elab A} {told : Told} → told.0 ≡ TooMany → Contains bytes told.1 → IsErr p → MayTell bytes p told
tells_spent too at h = record { refused = h; first = λ n. absurd (n too); placed = λ _. at }

-- at bytes that are among others
pub tells_among : {A : Type 0} {bytes more : List ℕ} {p : Elab A} {told : Told} → ((at : ℕ) → Contains bytes at → Contains more at) → MayTell bytes p told → MayTell more p told
tells_among {A} {bytes} {more} {p} {told} among t = record { refused = t.refused; first = t.first; placed = λ too. among told.1 (t.placed too) }

pub tells_same : {A : Type 0} {bytes : List ℕ} {p q : Elab A} {told : Told} → p ≡ q → MayTell bytes q told → MayTell bytes p told
tells_same {A} e t = record { refused = subst (λ (r : Elab A). IsErr r) (sym e) t.refused; first = λ n. e ∙ t.first n; placed = t.placed }

pub refused_first : {A B : Type 0} (r : Elab A) (f : A → Elab B) → IsErr r → IsErr (r >>= f)
refused_first (Ok x) f h = absurd cc
refused_first (Err told) f h = refl

pub tells_first : {bytes : List ℕ} {told : Told} {A B : Type 0} (r : Elab A) (f : A → Elab B) → MayTell bytes r told → MayTell bytes (r >>= f) told
tells_first r f t = record { refused = refused_first r f t.refused; first = λ n. err_first r f (t.first n); placed = t.placed }

-- behind what is given
pub tells_next : {bytes : List ℕ} {told : Told} {A B : Type 0} (r : Elab A) (f : A → Elab B) (x : A) → r ≡ Ok x → MayTell bytes (f x) told → MayTell bytes (r >>= f) told
tells_next r f x h t = tells_same (ap (λ q. q >>= f) h) t

pub same_told : {A : Type 0} (p q : Told) → wrong {A = A} p ≡ wrong {A = A} q → p ≡ q
same_told p q h = cc

-- the same of what is refused alike
pub tells_again : {A B : Type 0} {bytes : List ℕ} (told other : Told) → MayTell bytes (wrong {A = A} told) other → MayTell bytes (wrong {A = B} told) other
tells_again {A} {B} told other t = record {
  refused = refl;
  first = λ n. ap (λ q. wrong {A = B} q) (same_told {A = A} told other (t.first n));
  placed = t.placed;
}

-- ---- alike

pub record Alike {A : Type 0} (p q : Elab A) : Type 0 where
  pub gives : (x : A) → q ≡ Ok x → p ≡ Ok x
  pub stops : (bytes : List ℕ) (told : Told) → MayTell bytes q told → MayTell bytes p told

pub alike_same : {A : Type 0} {p q : Elab A} → p ≡ q → Alike p q
alike_same e = record { gives = λ x h. e ∙ h; stops = λ bytes told t. tells_same e t }

-- the second because a budget is spent
pub both_refused : {A : Type 0} {p : Elab A} {told : Told} → told.0 ≡ TooMany → IsErr p → Alike p (wrong told)
both_refused {A} {p} {told} too h = record {
  gives = λ x e. absurd cc;
  stops = λ bytes other t. record {
    refused = h;
    first = λ n. absurd (n (ap (λ (x : Told). x.0) (sym (same_told {A = A} told other (t.first n))) ∙ too));
    placed = t.placed;
  };
}

pub alike_trans : {A : Type 0} {p q r : Elab A} → Alike p q → Alike q r → Alike p r
alike_trans a b = record { gives = λ x h. a.gives x (b.gives x h); stops = λ bytes told t. a.stops bytes told (b.stops bytes told t) }

pub alike_after : {A : Type 0} {p q r : Elab A} → p ≡ q → Alike q r → Alike p r
alike_after e a = alike_trans (alike_same e) a

pub alike_then : {A B : Type 0} (p q : Elab A) (f g : A → Elab B) → Alike p q → ((x : A) → Alike (f x) (g x)) → Alike (p >>= f) (q >>= g)
alike_then p (Ok x) f g a h = alike_after (ap (λ r. r >>= f) (a.gives x refl)) (h x)
alike_then {A} {B} p (Err told) f g a h = record {
  gives = λ y e. absurd cc;
  stops = λ bytes other t. tells_first p f (a.stops bytes other (tells_again {A = B} {B = A} told other t));
}
