-- What is left of an if or a case while its parts are walked.
use Rattle.std.specs.Prelude.{◌≡◌, ◌+◌, ◌≤◌, List, ◌++◌, Option}
use Rattle.rtl_model.specs.bodies.Assigns.{Target}
use Rattle.rtl_model.specs.bodies.Body.{Branches}
use Rattle.rtl_model.specs.bodies.Looks.{Sight, Looks, branches_look}
use Rattle.rtl_net.specs.Bodies.{branches_of}
use Rattle.rtl_net.specs.declared.body.Branch.{Branch}
use Rattle.rtl_looks.specs.declared.hubs.Look.{Look}
use Rattle.rtl_looks.specs.declared.hubs.Hub.{Hub}
use Rattle.rtl_looks.specs.declared.env.Env.{Env}
use Rattle.rtl_looks.specs.declared.changes.Changes.{Changes}
use Rattle.rtl_looks.specs.declared.ends.Ends.{Ends}
use Rattle.rtl_looks.specs.declared.statements.Rest.{Rest}
use Rattle.rtl_looks.specs.declared.statements.Rest.TheVariants as r
use Rattle.rtl_looks.specs.Denoting.{Grows, Denotes}
use Rattle.rtl_looks.specs.Targets.{look_of, Means}
use Rattle.rtl_looks.specs.Parts.{Behind, Finished}
use Rattle.rtl_looks.specs.Walks.{Parted}

-- Some parts of the whole are taken, and the rest stands under these conditions.
pub record Reached (rest whole : (round : List Sight) → Looks → Looks) (now : List Hub) (round : Option Look)
    (ends : Ends) (sights : List Sight) (so_far all : Looks) : Type 0 where
  pub conditions : List Sight
  pub taken : Looks
  pub round_denotes : Denotes now round conditions
  pub behind : Behind now ends so_far taken
  pub same : (t : Target) → taken t ++ rest conditions so_far t ≡ all t ++ whole sights so_far t

pub record PartsWalked (rest whole : (round : List Sight) → Looks → Looks) (round next : Option Look)
    (old new : List Hub) (env env' : Env) (ends ends' : Ends) : Type 0 where
  pub grows : Grows old new
  pub restored : (t : Target) → look_of env' t ≡ look_of env t
  pub more : ends.parts ≤ ends'.parts
  pub reached : (sights : List Sight) (so_far all : Looks) → Denotes old round sights → Means old env so_far
      → Behind old ends so_far all → Reached rest whole new next ends' sights so_far all

-- the branches of an if are walked, whose else is this: it is left, or nothing is
abbrev pub Leaves : (last : Branches) → List Branch → (round : Option Look) → Rest → (old new : List Hub)
    → (env env' : Env) → (ends ends' : Ends) → Type 0
Leaves last branches round (r.Else next) old new env env' ends ends' =
    PartsWalked (λ sights so_far. branches_look sights so_far last)
    (λ sights so_far. branches_look sights so_far (branches_of last branches)) round next old new env env' ends ends'
Leaves last branches round r.Nothing old new env env' ends ends' =
    Parted (λ sights so_far. branches_look sights so_far (branches_of last branches)) round old new env env' ends ends'

-- what is left is walked, too
abbrev pub Rests : (run : (round : List Sight) → Looks → Looks) → Rest → (old new : List Hub) → (env env' : Env)
    → (ends ends' : Ends) → Type 0
Rests run (r.Else round) old new env env' ends ends' = Parted run round old new env env' ends ends'
Rests run r.Nothing old new env env' ends ends' = (new ≡ old) × (env' ≡ env) × (ends' ≡ ends)

-- there is no else, which is one part more that changes nothing, and the if is at its end
abbrev pub Left : Rest → (old new : List Hub) → (env env' : Env) → (changes changes' : Changes) → Ends → Type 0
Left (r.Else round) old new env env' changes changes' ends =
    Finished old new env env' changes changes' (record ends { parts = ends.parts + 1 })
Left r.Nothing old new env env' changes changes' ends = Finished old new env env' changes changes' ends
