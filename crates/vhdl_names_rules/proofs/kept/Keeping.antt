-- What keeps the rules of its parts breaks no rule.
use Rattle.std.proofs.Common.{◌≡◌, ℕ, suc, Bool, true, false, cond, List, [], ◌∷◌, Option, Some, None, refl}
use Rattle.std.specs.Prelude.{option_map, nat_le}
use Rattle.std.specs.List.{slice_get}
use Rattle.vhdl_names_rules.specs.declared.fault.NameProblem.{NameProblem}
use Rattle.vhdl_names_rules.specs.Rules.{each, if_any}
use Rattle.vhdl_names_rules.proofs.laws.Rules.{comes, some_is}
use Rattle.vhdl_names_rules.specs.problems.Broken.{Broken, nothing, any_of, of_any, earlier}
use Rattle.vhdl_names_rules.proofs.Telling.{IsKept, both_kept}

pub nothing_kept : IsKept nothing
nothing_kept = refl

-- ---- what is mapped from something

pub record Mapped {A B : Type 0} (f : A → B) (o : Option A) (y : B) : Type 0 where
  pub value : A
  pub from : o ≡ Some value
  pub is : f value ≡ y

pub mapped : {A B : Type 0} (f : A → B) (o : Option A) (y : B) → option_map f o ≡ Some y → Mapped f o y
mapped f None y h = absurd cc
mapped f (Some x) y h = record { value = x; from = refl; is = some_is (f x) y h }

-- ---- of what may be absent

pub if_any_kept : {A B : Type 0} (f : A → Broken) (g : A → Option B) → ((x : A) (y : B) → g x ≡ Some y → IsKept (f x))
    → (o : Option A) (y : Option B) → if_any g o ≡ Some y → IsKept (of_any f o)
if_any_kept f g one None y h = nothing_kept
if_any_kept f g one (Some x) y h = let c = comes (g x) _ y h in one x c.value c.is

-- ---- of each of several things

pub each_kept : {A B : Type 0} (f : A → Broken) (g : A → Option B) → ((x : A) (y : B) → g x ≡ Some y → IsKept (f x))
    → (xs : List A) (ys : List B) → each g xs ≡ Some ys → IsKept (any_of f xs)
each_kept f g one [] ys h = nothing_kept
each_kept f g one (x ∷ xs) ys h =
    let c = comes (g x) _ ys h in
    let d = comes (each g xs) _ ys c.rest in
    both_kept (f x) (any_of f xs) (one x c.value c.is) (each_kept f g one xs d.value d.is)

-- each of several things breaks no rule, wherever it stands
pub at_each_kept : {A : Type 0} (f : A → Broken) (xs : List A) → ((k : ℕ) (x : A) → slice_get xs k ≡ Some x → IsKept (f x)) → IsKept (any_of f xs)
at_each_kept f [] h = nothing_kept
at_each_kept f (x ∷ xs) h = both_kept (f x) (any_of f xs) (h 0 x refl) (at_each_kept f xs (λ k. h (suc k)))

-- ---- of parts that stand among each other

pub among_kept : (a b : Broken) → IsKept a → IsKept b → IsKept (earlier a b)
unfolding earlier
among_kept None b h k = k
among_kept (Some x) b h k = absurd cc

-- one of two is there
one_of : (t : Bool) (x y : NameProblem × ℕ) → cond t (Some x) (Some y) ≡ None → ⊥
one_of true x y h = cc
one_of false x y h = cc

pub among_left : (a b : Broken) → IsKept (earlier a b) → IsKept a
unfolding earlier
among_left None b h = refl
among_left (Some x) None h = absurd cc
among_left (Some x) (Some y) h = absurd (one_of (nat_le x.1 y.1) x y h)

pub among_right : (a b : Broken) → IsKept (earlier a b) → IsKept b
unfolding earlier
among_right None b h = h
among_right (Some x) None h = absurd cc
among_right (Some x) (Some y) h = absurd (one_of (nat_le x.1 y.1) x y h)

pub among_second : (a b : Broken) → IsKept a → earlier a b ≡ b
unfolding earlier
among_second None b h = refl
among_second (Some x) b h = absurd cc
