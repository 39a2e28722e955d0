-- Rules that are kept or broken, each with the problem that is told where it is broken: what rests on several rules is
-- there where each of them is kept.
pub use Rattle.std.specs.Bool.{then_some}
use Rattle.std.specs.Prelude.{Bool, true, false, List, [], ◌∷◌, Option, Some, None}
use Rattle.vhdl_lexer.specs.declared.language.Language.{Language}
use Rattle.vhdl_lexer.specs.declared.language.Language.TheVariants.{Profile, Wide}
use Rattle.vhdl_names_rules.specs.declared.fault.NameProblem.{NameProblem}

infixl 10 ◌>>=◌
abbrev pub ◌>>=◌ : {A B : Type 0} → Option A → (A → Option B) → Option B
None >>= f = None
(Some x) >>= f = f x

infixl 10 ◌>>◌
abbrev pub ◌>>◌ : {A B : Type 0} → Option A → Option B → Option B
o >> p = o >>= λ _. p

-- a condition that has to be met
abbrev pub met : Bool → Option (Unit {0})
met true = Some tt
met false = None

-- what must hold, else there is this problem; what is given rests on the condition alone
abbrev pub rule : NameProblem → Bool → Option (Unit {0})
rule problem holds = met holds

-- a thing that is there where a condition holds, else there is this problem
abbrev pub given_that : {A : Type 0} → NameProblem → Bool → A → Option A
given_that problem holds x = then_some holds x

-- of each of several things
abbrev pub each : {A B : Type 0} → (A → Option B) → List A → Option (List B)
each f [] = Some []
each f (x ∷ xs) = do
  y ← f x
  ys ← each f xs
  Some (y ∷ ys)

-- of a thing that may be absent
abbrev pub if_any : {A B : Type 0} → (A → Option B) → Option A → Option (Option B)
if_any f None = Some None
if_any f (Some x) = do
  y ← f x
  Some (Some y)

-- an optional list, empty where it is absent
abbrev pub all_of : {A : Type 0} → Option (List A) → List A
all_of None = []
all_of (Some xs) = xs

-- ---- what the wider language alone has

abbrev pub wider : {A : Type 0} → Language → Option A → Option A
wider Profile o = None
wider Wide o = o

abbrev pub is_wide : Language → Bool
is_wide Profile = false
is_wide Wide = true
