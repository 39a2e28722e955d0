-- What targets look at behind the parts of an if or a case, of which one is taken.
use Rattle.std.specs.Prelude.{◌≡◌, ◌⊎◌, ℕ, ◌+◌, ◌<◌, ◌≤◌, ◌==◌, nat_lt, ◌||◌, ◌&&◌, Bool, false, if◌then◌else◌, List, ◌++◌, Option, None, unwrap_or}
use Rattle.std.specs.Ordering.{nat_cmp}
use Rattle.std.specs.BTreeMap.{BTreeMap, get}
use Rattle.rtl_model.specs.bodies.Assigns.{Target, driver, element}
use Rattle.rtl_model.specs.bodies.Looks.{Sight, Looks}
use Rattle.rtl_looks.specs.declared.hubs.Look.{Look}
use Rattle.rtl_looks.specs.declared.hubs.Hub.{Hub}
use Rattle.rtl_looks.specs.declared.env.Env.{Env}
use Rattle.rtl_looks.specs.declared.changes.Changes.{Changes}
use Rattle.rtl_looks.specs.declared.ends.End.{End}
use Rattle.rtl_looks.specs.declared.table.Change.{Change}
use Rattle.rtl_looks.specs.declared.ends.Ends.{Ends}
use Rattle.rtl_looks.specs.Denoting.{AreInOrder, IsThere, Grows, Denotes, looks_at, sees, look_at}
use Rattle.rtl_looks.specs.Evaluating.{Joins}
use Rattle.rtl_looks.specs.Targets.{look_of, Means, was_at, was}

abbrev pub no_end : End
no_end = record { look = None; parts = 0; skipped = false }

abbrev pub end_at : BTreeMap ℕ End → (number : ℕ) → End
end_at ends number = unwrap_or (get nat_cmp ends number) no_end

abbrev pub end_of : Ends → Target → End
end_of ends (driver place) = end_at ends.drivers place
end_of ends (element e) = end_at ends.elements e

-- one of so many parts doesn't assign the target of this end
abbrev pub skips : End → (parts : ℕ) → Bool
skips end parts = end.skipped || nat_lt end.parts parts

-- A target looks at `all` behind any of so many parts: at what its end has, and if one of them doesn't assign it also
-- at what it looked at before.
pub record Covers (hubs : List Hub) (end : End) (parts : ℕ) (so_far all : List Sight) : Type 0 where
  pub order : AreInOrder hubs
  pub there : IsThere hubs end.look
  pub within : end.parts ≤ parts
  pub nets : (n : ℕ) → (looks_at hubs n end.look || (skips end parts && sees n so_far)) ≡ sees n all

pub record Behind (hubs : List Hub) (ends : Ends) (so_far all : Looks) : Type 0 where
  pub each : (t : Target) → Covers hubs (end_of ends t) ends.parts (so_far t) (all t)

-- ---- the steps of a part that is taken, and of all of them finished: of one table, by numbers

pub record Overs (old new : List Hub) (end : End) (parts : ℕ) (before look : Option Look) : Type 0 where
  pub grows : Grows old new
  pub denotes : (so_far all : List Sight) → Covers old end parts so_far all → Denotes old before so_far
      → Denotes new look all

-- what a number looks at behind one more part is taken, unless it is taken already
abbrev pub TakesEnd : (old new : List Hub) → (number parts : ℕ) → Option Look → (ends ends' : BTreeMap ℕ End) → Type 0
TakesEnd old new number parts look ends ends' =
    let end = end_at ends number in
    ((parts < end.parts) × (new ≡ old) × (ends' ≡ ends))
    ⊎ ((end.parts ≤ parts) × ((joined : Option Look) × Joins old new end.look look joined
    × ((k : ℕ) → end_at ends' k ≡ (if number == k
    then record { look = joined; parts = parts + 1; skipped = skips end parts } else end_at ends k))))

-- its changes are put back, and ends are those behind one more part
pub record Takes (old new : List Hub) (parts : ℕ) (looks looks' : List (Option Look))
    (changes : List Change) (ends ends' : BTreeMap ℕ End) : Type 0 where
  pub grows : Grows old new
  pub restored : (number : ℕ) → look_at looks' number ≡ was_at changes looks number
  pub covers : (so_far all behind : ℕ → List Sight)
      → ((k : ℕ) → Covers old (end_at ends k) parts (so_far k) (all k))
      → ((k : ℕ) → Denotes old (was_at changes looks k) (so_far k))
      → ((k : ℕ) → Denotes old (look_at looks k) (behind k))
      → (k : ℕ) → Covers new (end_at ends' k) (parts + 1) (so_far k) (all k ++ behind k)

-- each number looks at what it does behind all parts
pub record Finishes (old new : List Hub) (parts : ℕ) (looks looks' : List (Option Look))
    (changes changes' : List Change) (ends : BTreeMap ℕ End) : Type 0 where
  pub grows : Grows old new
  pub restored : (number : ℕ) → was_at changes' looks' number ≡ was_at changes looks number
  pub denotes : (so_far all : ℕ → List Sight) → 0 < parts
      → ((k : ℕ) → Covers old (end_at ends k) parts (so_far k) (all k))
      → ((k : ℕ) → Denotes old (look_at looks k) (so_far k))
      → (k : ℕ) → Denotes new (look_at looks' k) (all k)

-- ---- the same of all targets

pub record Taken (old new : List Hub) (env env' : Env) (changes : Changes) (ends ends' : Ends) : Type 0 where
  pub grows : Grows old new
  pub restored : (t : Target) → look_of env' t ≡ was changes env t
  pub parts : ends'.parts ≡ ends.parts + 1
  pub covers : (so_far all behind : Looks) → Behind old ends so_far all
      → ((t : Target) → Denotes old (was changes env t) (so_far t)) → Means old env behind
      → Behind new ends' so_far (λ t. all t ++ behind t)

pub record Finished (old new : List Hub) (env env' : Env) (changes changes' : Changes) (ends : Ends) : Type 0 where
  pub grows : Grows old new
  pub restored : (t : Target) → was changes' env' t ≡ was changes env t
  pub denotes : (so_far all : Looks) → 0 < ends.parts → Behind old ends so_far all → Means old env so_far
      → Means new env' all
