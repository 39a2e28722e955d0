-- What an elaboration tells where it refuses: problems at bytes for which something holds.
use Rattle.std.proofs.Common.{◌≡◌, ℕ, Bool, true, false, List, [], ◌∷◌, Option, Some, None, Ok, Err, All, refl, subst}
use Rattle.std.specs.Prelude.{⊤, flat_map}
use Rattle.std.proofs.lemmas.List.Elements.{All-cons, All-nil, All-head, All-tail}
use Rattle.vhdl_expand_rules.specs.declared.fault.ElabProblem.{ElabProblem}
use Rattle.vhdl_expand_rules.specs.declared.fault.ElabProblem.TheVariants.{TooMany}
use Rattle.vhdl_expand_rules.specs.Elab.{Told, Elab, ◌>>=◌, refused, unless, item_or, each}
use Rattle.vhdl_expand_rules.proofs.Steps.{given}
use Rattle.vhdl_expand_rules.proofs.laws.Targets.{all_left, all_right}

-- what is told is such
pub record Tells (P : Told → Type 0) {A : Type 0} (r : Elab A) : Type 0 where
  pub told_at : (told : Told) → r ≡ Err told → P told

-- it is of a rule, and of no budget
abbrev pub IsOwn : ElabProblem → Type 0
IsOwn TooMany = ⊥
IsOwn _ = ⊤

abbrev refusal : {A : Type 0} → Told → Elab A
refusal told = Err told

same-told : {A : Type 0} (s t : Told) → refusal {A = A} s ≡ refusal t → s ≡ t
same-told {A} s t h = cc

module _ (P : Told → Type 0) where
  -- where a problem of a rule may be told
  abbrev pub At : ℕ → Type 0
  At at = (problem : ElabProblem) → IsOwn problem → P (problem, at)

  pub tells_none : {A : Type 0} (x : A) → Tells P (given x)
  tells_none {A} x = record { told_at = λ told h. absurd cc }

  pub tells_one : {A : Type 0} (told : Told) → P told → Tells P (refusal {A = A} told)
  tells_one {A} told h = record { told_at = λ other e. subst P (same-told {A = A} told other e) h }

  pub tells_refused : {A : Type 0} (problem : ElabProblem) → IsOwn problem → (at : ℕ) → At at → Tells P (refused {A = A} problem at)
  tells_refused {A} problem own at h = tells_one {A = A} (problem, at) (h problem own)

  pub tells_then : {A B : Type 0} (r : Elab A) (f : A → Elab B) → Tells P r → ((x : A) → Tells P (f x)) → Tells P (r >>= f)
  tells_then {A} {B} (Ok x) f h k = k x
  tells_then {A} {B} (Err told) f h k = tells_one {A = B} told (h.told_at told refl)

  -- where it matters what was given
  pub tells_with : {A B : Type 0} (r : Elab A) (f : A → Elab B) → Tells P r → ((x : A) → r ≡ Ok x → Tells P (f x)) → Tells P (r >>= f)
  tells_with {A} {B} (Ok x) f h k = k x refl
  tells_with {A} {B} (Err told) f h k = tells_one {A = B} told (h.told_at told refl)

  pub tells_unless : (problem : ElabProblem) → IsOwn problem → (at : ℕ) (test : Bool) → At at → Tells P (unless problem at test)
  tells_unless problem own at true h = tells_none tt
  tells_unless problem own at false h = tells_refused {A = Unit {0}} problem own at h

  -- of a budget
  pub tells_within : (at : ℕ) (test : Bool) → P (TooMany, at) → Tells P (unless TooMany at test)
  tells_within at true h = tells_none tt
  tells_within at false h = tells_one {A = Unit {0}} (TooMany, at) h

  pub tells_item : {A : Type 0} (problem : ElabProblem) → IsOwn problem → (at : ℕ) (o : Option A) → At at → Tells P (item_or problem at o)
  tells_item {A} problem own at None h = tells_refused {A = A} problem own at h
  tells_item {A} problem own at (Some x) h = tells_none x

  pub tells_each : {A B : Type 0} (Q : A → Type 0) (f : A → Elab B) (xs : List A) → ((x : A) → Q x → Tells P (f x)) → All Q xs → Tells P (each f xs)
  tells_each {A} {B} Q f [] go h = tells_none []
  tells_each {A} {B} Q f (x ∷ xs) go h =
      tells_then (f x) _ (go x (All-head Q x xs h)) (λ y.
      tells_then (each f xs) _ (tells_each Q f xs go (All-tail Q x xs h)) (λ ys. tells_none (y ∷ ys)))

  pub tells_all : {A B : Type 0} (f : A → Elab B) (xs : List A) → ((x : A) → Tells P (f x)) → Tells P (each f xs)
  tells_all {A} {B} f [] go = tells_none []
  tells_all {A} {B} f (x ∷ xs) go = tells_then (f x) _ (go x) (λ y. tells_then (each f xs) _ (tells_all f xs go) (λ ys. tells_none (y ∷ ys)))

pub all_flat : {A : Type 0} (P : ℕ → Type 0) (f : A → List ℕ) (xs : List A) → All P (flat_map f xs) → All (λ (x : A). All P (f x)) xs
all_flat {A} P f [] h = All-nil (λ (x : A). All P (f x))
all_flat {A} P f (x ∷ xs) h =
    All-cons (λ (x : A). All P (f x)) x xs (all_left P (f x) (flat_map f xs) h) (all_flat P f xs (all_right P (f x) (flat_map f xs) h))
