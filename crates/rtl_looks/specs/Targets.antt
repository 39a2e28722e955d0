-- What targets look at while a body is walked: the environment has a look for each, and changes have what they looked
-- at before the part that is walked.
use Rattle.std.specs.Prelude.{ℕ, ◌==◌, if◌then◌else◌, List, [], ◌∷◌, Option, None, Some, unwrap_or}
use Rattle.rtl_model.specs.bodies.Assigns.{Target, driver, element}
use Rattle.rtl_model.specs.bodies.Looks.{Looks}
use Rattle.rtl_looks.specs.declared.hubs.Look.{Look}
use Rattle.rtl_looks.specs.declared.hubs.Hub.{Hub}
use Rattle.rtl_looks.specs.declared.env.Kind.{Kind}
use Rattle.rtl_looks.specs.declared.env.Kind.TheVariants as k
use Rattle.rtl_looks.specs.declared.env.Env.{Env}
use Rattle.rtl_looks.specs.declared.changes.Changes.{Changes}
use Rattle.rtl_looks.specs.declared.table.Change.{Change}
use Rattle.rtl_looks.specs.Denoting.{Denotes, look_at}

abbrev pub target_of : Kind → ℕ → Target
target_of k.Driver place = driver place
target_of k.Element e = element e

abbrev pub look_of : Env → Target → Option Look
look_of env (driver place) = look_at env.drivers.looks.items place
look_of env (element e) = look_at env.elements.looks.items e

-- each target's look denotes what the target looks at so far
pub record Means (hubs : List Hub) (env : Env) (so_far : Looks) : Type 0 where
  pub each : (t : Target) → Denotes hubs (look_of env t) (so_far t)

-- what a number looked at before its first change, if it is changed
abbrev pub first_at : List Change → (number : ℕ) → Option (Option Look)
first_at [] number = None
first_at (change ∷ more) number = if change.number == number then Some change.before else first_at more number

-- what a number, or a target, looked at before all changes; one that isn't changed looks at that now
abbrev pub was_at : List Change → List (Option Look) → (number : ℕ) → Option Look
was_at changes looks number = unwrap_or (first_at changes number) (look_at looks number)

abbrev pub was : Changes → Env → Target → Option Look
was changes env (driver place) = was_at changes.drivers.items env.drivers.looks.items place
was changes env (element e) = was_at changes.elements.items env.elements.looks.items e
