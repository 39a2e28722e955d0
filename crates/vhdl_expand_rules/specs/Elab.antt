-- What elaboration computes, or why it refuses: by the first broken rule, in the order in which the definitions come to
-- them, with the byte of the source at which it is told. A definition that is given a byte tells there what has no byte
-- of its own.
use Rattle.std.specs.Prelude.{◌≡◌, ◌≢◌, ◌==◌, ℕ, Bool, if◌then◌else◌, List, [], ◌∷◌, Option, Some, None, Result, Ok, Err, IsErr, Contains}
use Rattle.vhdl_expand_rules.specs.declared.fault.ElabFault.{ElabFault}
use Rattle.vhdl_expand_rules.specs.declared.fault.ElabFault.TheVariants.{At, NoMemory}
use Rattle.vhdl_expand_rules.specs.declared.fault.ElabProblem.{ElabProblem}
use Rattle.vhdl_expand_rules.specs.declared.fault.ElabProblem.TheVariants.{Length, NoTop, TooMany}

-- a problem, and the byte at which it is told
abbrev pub Told : Type 0
Told = ElabProblem × ℕ

abbrev pub Elab : Type 0 → Type 0
Elab A = Result A Told

infixl 10 ◌>>=◌
abbrev pub ◌>>=◌ : {A B : Type 0} → Elab A → (A → Elab B) → Elab B
(Ok x) >>= f = f x
(Err told) >>= f = Err told

infixl 10 ◌>>◌
abbrev pub ◌>>◌ : {A B : Type 0} → Elab A → Elab B → Elab B
p >> q = p >>= (λ _. q)

-- this problem at this byte
abbrev pub refused : {A : Type 0} → ElabProblem → (at : ℕ) → Elab A
refused problem at = Err (problem, at)

-- What a fault tells. Want of memory is none of a design's: NoTop stands for it, which no expression, kind or charge
-- has, so that calls which take no memory can't tell it; and of those that do no contract asks it.
abbrev pub fault_told : ElabFault → Told
fault_told (At problem at) = (problem, at)
fault_told NoMemory = (NoTop, 0)

-- Budgets are charged while a design grows, and their own rule comes behind those of the whole design. So TooMany may
-- be told of what breaks another rule first, at one of these bytes, wherever the budget ends; every other problem is
-- that of the first broken rule, at its byte.
pub record MayTell {A : Type 0} (bytes : List ℕ) (given : Elab A) (told : Told) : Type 0 where
  pub refused : IsErr given
  pub first : told.0 ≢ TooMany → given ≡ Err told
  pub placed : told.0 ≡ TooMany → Contains bytes told.1

-- a rule, and the problem where it is broken
abbrev pub unless : ElabProblem → (at : ℕ) → Bool → Elab (Unit {0})
unless problem at kept = if kept then Ok tt else refused problem at

-- a length, and the one that it has to be
abbrev pub same_length : (at found needed : ℕ) → Elab (Unit {0})
same_length at found needed = unless (Length found needed) at (found == needed)

-- what has to be there
abbrev pub item_or : {A : Type 0} → ElabProblem → (at : ℕ) → Option A → Elab A
item_or problem at None = refused problem at
item_or problem at (Some x) = Ok x

-- of each of several things, in order
abbrev pub each : {A B : Type 0} → (A → Elab B) → List A → Elab (List B)
each f [] = Ok []
each f (x ∷ xs) = do
  y ← f x
  ys ← each f xs
  Ok (y ∷ ys)
