-- The first rule that a construct breaks, as it is read: the problem that the rule bears, and the byte at which it is
-- told. A rule is looked at where what it is about is given, whatever else is broken.
use Rattle.std.specs.Prelude.{◌≡◌, ℕ, Bool, true, false, if◌then◌else◌, nat_le, List, [], ◌∷◌, Option, Some, None}
use Rattle.vhdl_names_rules.specs.declared.fault.NameFault.{NameFault}
use Rattle.vhdl_names_rules.specs.declared.fault.NameFault.TheVariants.{At, NoMemory}
use Rattle.vhdl_names_rules.specs.declared.fault.NameProblem.{NameProblem}

-- the first problem and its byte, if a rule is broken
abbrev pub Broken : Type 0
Broken = Option (NameProblem × ℕ)

-- a fault that is told is this one, but for want of memory
abbrev pub Tells : Broken → NameFault → Type 0
Tells broken (At p at) = broken ≡ Some (p, at)
Tells broken NoMemory = Unit {0}

-- ---- rules

abbrev pub nothing : Broken
nothing = None

-- this problem at this byte
abbrev pub refused : NameProblem → ℕ → Broken
refused p at = Some (p, at)

-- what must hold, else there is this problem
abbrev pub unless : NameProblem → ℕ → Bool → Broken
unless p at true = nothing
unless p at false = refused p at

-- what has to be there, else there is this problem
abbrev pub lacking : {A : Type 0} → NameProblem → ℕ → Option A → Broken
lacking p at (Some x) = nothing
lacking p at None = refused p at

-- of a thing that is given
abbrev pub where_given : {A : Type 0} → Option A → (A → Broken) → Broken
where_given None f = nothing
where_given (Some x) f = f x

-- of a thing that may be absent
abbrev pub of_any : {A : Type 0} → (A → Broken) → Option A → Broken
of_any f None = nothing
of_any f (Some x) = f x

-- ---- rules of several parts

-- of two parts of which one is read behind the other
infixr 6 ◌▸◌
unfoldable pub ◌▸◌ : Broken → Broken → Broken
None ▸ b = b
Some x ▸ b = Some x

-- of things one behind the other
abbrev pub any_of : {A : Type 0} → (A → Broken) → List A → Broken
any_of f [] = nothing
any_of f (x ∷ xs) = f x ▸ any_of f xs

-- of two parts that stand among each other the one at the earlier byte, of two at one byte the first
unfoldable pub earlier : Broken → Broken → Broken
earlier None b = b
earlier (Some x) None = Some x
earlier (Some x) (Some y) = if nat_le x.1 y.1 then Some x else Some y
