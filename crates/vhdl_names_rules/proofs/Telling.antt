-- What is told of a part is told of the whole, where the parts before it break nothing.
use Rattle.std.proofs.Common.{◌≡◌, ◌≢◌, ℕ, Bool, true, false, List, [], ◌∷◌, ◌++◌, Option, Some, None, Result, Ok, Err, IfErr, refl, sym, ap, ◌∙◌, true≢false}
use Rattle.vhdl_names_rules.specs.declared.fault.NameFault.{NameFault}
use Rattle.vhdl_names_rules.specs.declared.fault.NameFault.TheVariants.{At, NoMemory}
use Rattle.vhdl_names_rules.specs.declared.fault.NameProblem.{NameProblem}
use Rattle.vhdl_names_rules.specs.Gives.{Gives}
use Rattle.vhdl_names_rules.specs.problems.Broken.{Broken, Tells, nothing, refused, ◌▸◌, unless, lacking, where_given, any_of}

-- ---- parts that break nothing

-- nothing is broken
abbrev pub IsKept : Broken → Type 0
IsKept b = b ≡ nothing

pub both_kept : (a b : Broken) → IsKept a → IsKept b → IsKept (a ▸ b)
unfolding ◌▸◌
both_kept None b h k = k
both_kept (Some x) b h k = absurd cc

-- of two parts of which the first is kept the second is the whole
pub behind_kept : (a b : Broken) → IsKept a → (a ▸ b) ≡ b
unfolding ◌▸◌
behind_kept None b h = refl
behind_kept (Some x) b h = absurd cc

pub unless_kept : (p : NameProblem) (at : ℕ) (holds : Bool) → holds ≡ true → IsKept (unless p at holds)
unless_kept p at true h = refl
unless_kept p at false h = absurd cc

pub lacking_kept : {A : Type 0} (p : NameProblem) (at : ℕ) (o : Option A) (x : A) → o ≡ Some x → IsKept (lacking p at o)
lacking_kept p at o x h = ap (lacking p at) h

pub given_kept : {A : Type 0} (f : A → Broken) (o : Option A) (x : A) → o ≡ Some x → IsKept (f x) → IsKept (where_given o f)
given_kept f o x h k = ap (λ y. where_given y f) h ∙ k

-- the parts of what is kept
pub kept_left : (a b : Broken) → IsKept (a ▸ b) → IsKept a
unfolding ◌▸◌
kept_left None b h = refl
kept_left (Some x) b h = absurd cc

pub kept_right : (a b : Broken) → IsKept (a ▸ b) → IsKept b
unfolding ◌▸◌
kept_right None b h = h
kept_right (Some x) b h = absurd cc

-- ---- what is told

pub told_same : (a b : Broken) (f : NameFault) → a ≡ b → Tells a f → Tells b f
told_same a b (At p at) e h = sym e ∙ h
told_same a b NoMemory e h = tt

pub told_left : (a b : Broken) (f : NameFault) → Tells a f → Tells (a ▸ b) f
unfolding ◌▸◌
told_left None b (At p at) h = absurd cc
told_left (Some x) b (At p at) h = h
told_left a b NoMemory h = tt

pub told_right : (a b : Broken) (f : NameFault) → IsKept a → Tells b f → Tells (a ▸ b) f
told_right a b f kept h = told_same b (a ▸ b) f (sym (behind_kept a b kept)) h

is_told : NameFault → Bool
is_told (At p at) = true
is_told NoMemory = false

pub at_is_told : (p : NameProblem) (at : ℕ) → At p at ≢ NoMemory
unfolding is_told
at_is_told p at e = true≢false (ap is_told e)

-- what doesn't hold is told
pub told_unless : (p : NameProblem) (at : ℕ) (holds : Bool) (f : NameFault) → (f ≢ NoMemory → holds ≡ false) → Tells (refused p at) f → Tells (unless p at holds) f
told_unless p at holds (At q b) fails h = ap (unless p at) (fails (at_is_told q b)) ∙ h
told_unless p at holds NoMemory fails h = tt

-- what isn't there is told
pub told_lacking : {A : Type 0} (p : NameProblem) (at : ℕ) (o : Option A) (f : NameFault) → (f ≢ NoMemory → o ≡ None) → Tells (refused p at) f → Tells (lacking p at o) f
told_lacking p at o (At q b) none h = ap (lacking p at) (none (at_is_told q b)) ∙ h
told_lacking p at o NoMemory none h = tt

-- of what is given
pub told_given : {A : Type 0} (b : A → Broken) (o : Option A) (x : A) (f : NameFault) → o ≡ Some x → Tells (b x) f → Tells (where_given o b) f
told_given b o x f is h = told_same (b x) (where_given o b) f (sym (ap (λ y. where_given y b) is)) h

-- an answer that is handed on tells what it told
pub told_on : {X : Type 0} (a b : Broken) (r : Result X NameFault) → ((f : NameFault) → Tells a f → Tells b f) → IfErr r (Tells a) → IfErr r (Tells b)
told_on a b (Ok x) more h = tt
told_on a b (Err f) more h = more f h

-- ---- lists

-- of each of several things that breaks nothing
pub any_append : {A : Type 0} (b : A → Broken) (xs ys : List A) → any_of b (xs ++ ys) ≡ any_of b xs ▸ any_of b ys
unfolding ◌▸◌
any_append b [] ys = refl
any_append b (x ∷ xs) ys = ap (λ z. b x ▸ z) (any_append b xs ys) ∙ associative (b x) (any_of b xs) (any_of b ys)
  where
    associative : (x y z : Broken) → (x ▸ (y ▸ z)) ≡ ((x ▸ y) ▸ z)
    associative None y z = refl
    associative (Some p) y z = refl

-- the one problem of what is given or not
pub told_of : {X Y : Type 0} (view : X → Y) (p : NameProblem) (at : ℕ) (o : Option Y) (r : Result X NameFault) →
    Gives view o r → IfErr r (Tells (refused p at)) → IfErr r (Tells (lacking p at o))
told_of view p at o (Ok x) given told = tt
told_of view p at o (Err f) given told = told_lacking p at o f given told
