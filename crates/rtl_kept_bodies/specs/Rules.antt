-- What it is that the variables of a process are kept, beside its flat view: which variables these are, what there is
-- room for, and what of the process stays as it was.
use Rattle.std.specs.Prelude.{◌≡◌, ℕ, ◌+◌, ◌≤◌, ◌<◌, ◌^◌, ⊤, Bool, List, [], ◌∷◌, length, map}
use Rattle.std.specs.List.{list_any, range_with_len}
use Rattle.rtl_model.specs.nets.FlatNetlist.{FlatVariable, FlatProcess, element_starts}
use Rattle.rtl_net.specs.Limits.{most_nets}
use Rattle.rtl_net.specs.declared.body.Statement.{Statement}
use Rattle.rtl_net.specs.declared.body.Statement.TheVariants as s
use Rattle.rtl_net.specs.declared.process.Process.{Process}
use Rattle.rtl_variable_registers.specs.Processes.{kept_elements}
use Rattle.rtl_kept_bodies.specs.declared.keeping.KeepFault.{KeepFault}
use Rattle.rtl_kept_bodies.specs.declared.keeping.KeepFault.TheVariants.{TooMany, NoMemory}

-- of each of these variables, whose elements are numbered from here on, whether it has an element that is kept
abbrev pub keeps_each : (keeps : ℕ → Bool) → (first : ℕ) → List FlatVariable → List Bool
keeps_each keeps first [] = []
keeps_each keeps first (v ∷ vs) =
    list_any keeps (range_with_len first (length v.starts)) ∷ keeps_each keeps (first + length v.starts) vs

-- A netlist has nets enough for the elements that are kept, the first of which has this one. The numbers of drivers and
-- of elements are words of 32 bits.
pub record HasRoom (first : ℕ) (p : FlatProcess) : Type 0 where
  pub nets : first + length (kept_elements p) ≤ most_nets
  pub drivers : length p.drivers + length (kept_elements p) < 2 ^ 32
  pub elements : length (element_starts p.variables) < 2 ^ 32

-- why they can't be kept
abbrev pub Refused : (first : ℕ) → FlatProcess → KeepFault → Type 0
Refused first p TooMany = HasRoom first p → ⊥
Refused first p NoMemory = ⊤

-- the byte of the source at which an if or a case starts
abbrev pub byte_of : Statement → ℕ
byte_of (s.If' at shape branches otherwise) = at
byte_of (s.Case' at selector shape alternatives shape_of_others others) = at
byte_of _ = 0

-- What names a process and its variables stays, and so do the bytes at which it and the statements of its body start.
pub record NamedAlike (old new : Process) : Type 0 where
  pub wakes : new.wakes ≡ old.wakes
  pub variables : new.variables ≡ old.variables
  pub scope : new.scope ≡ old.scope
  pub generates : new.generates ≡ old.generates
  pub label : new.label ≡ old.label
  pub at : new.at ≡ old.at
  pub bytes : map byte_of new.body.items ≡ map byte_of old.body.items
