-- What the walk makes of statements.
use Rattle.std.specs.Prelude.{◌≡◌, ℕ, ◌<◌, Bool, List, ◌++◌, flat_map, Option, Some, None}
use Rattle.rtl_model.specs.bodies.Assigns.{Target}
use Rattle.rtl_model.specs.bodies.Body.{Test, decided}
use Rattle.rtl_model.specs.bodies.Looks.{Sight, Looks, whole, expr_looks, test_looks, put, put_rows}
use Rattle.rtl_net.specs.Indices.{numbers}
use Rattle.rtl_net.specs.Bodies.{spacing_view, expr_view}
use Rattle.rtl_looks.specs.declared.hubs.Look.{Look}
use Rattle.rtl_looks.specs.declared.hubs.Hub.{Hub}
use Rattle.rtl_looks.specs.declared.env.Kind.{Kind}
use Rattle.rtl_looks.specs.declared.env.Env.{Env}
use Rattle.rtl_looks.specs.declared.statements.RowAssignment.{RowAssignment}
use Rattle.rtl_looks.specs.declared.changes.Changes.{Changes}
use Rattle.rtl_looks.specs.declared.ends.Ends.{Ends}
use Rattle.rtl_looks.specs.Denoting.{Grows, Denotes, DenoteEach}
use Rattle.rtl_looks.specs.Evaluating.{ElementsMean}
use Rattle.rtl_looks.specs.Targets.{target_of, look_of, was, Means}
use Rattle.rtl_looks.specs.Parts.{Behind}

-- A part of a body is walked: what `run` makes of what targets looked at. `round` is what the conditions round it look
-- at. What was before the changes is as it was.
pub record Walked (run : (round : List Sight) → Looks → Looks) (round : Option Look) (old new : List Hub)
    (env env' : Env) (changes changes' : Changes) : Type 0 where
  pub grows : Grows old new
  pub means : (sights : List Sight) (so_far : Looks) → Denotes old round sights → Means old env so_far
      → Means new env' (run sights so_far)
  pub restored : (t : Target) → was changes' env' t ≡ was changes env t

-- ---- parts of an if or a case, of which one is taken

abbrev pub decided_of : Test → Option Bool
decided_of (decided b) = Some b
decided_of _ = None

-- Further parts are walked, each from the same environment, which is put back: of targets it is known what they look
-- at behind these too.
pub record Parted (run : (round : List Sight) → Looks → Looks) (round : Option Look) (old new : List Hub)
    (env env' : Env) (ends ends' : Ends) : Type 0 where
  pub grows : Grows old new
  pub restored : (t : Target) → look_of env' t ≡ look_of env t
  pub more : ends.parts < ends'.parts
  pub behind : (sights : List Sight) (so_far all : Looks) → Denotes old round sights → Means old env so_far
      → Behind old ends so_far all → Behind new ends' so_far (λ t. all t ++ run sights so_far t)

-- each of these numbers gets the look at its place and what is round it
pub record Assigned (kind : Kind) (numbers : List ℕ) (looks : List (Option Look)) (round : Option Look)
    (old new : List Hub) (env env' : Env) (changes changes' : Changes) : Type 0 where
  pub grows : Grows old new
  pub means : (sights : List Sight) (values : List (List Sight)) (so_far : Looks) → Denotes old round sights
      → DenoteEach old looks values → Means old env so_far
      → Means new env' (put (target_of kind) sights numbers values so_far)
  pub restored : (t : Target) → was changes' env' t ≡ was changes env t

-- The same as one of several assignments of which a run does one, from an environment that is put back: of targets it
-- is known what they look at behind this one too.
pub record PartAssigned (kind : Kind) (numbers : List ℕ) (looks : List (Option Look)) (round : Option Look)
    (old new : List Hub) (env env' : Env) (ends ends' : Ends) : Type 0 where
  pub grows : Grows old new
  pub restored : (t : Target) → look_of env' t ≡ look_of env t
  pub behind : (sights : List Sight) (values : List (List Sight)) (so_far all : Looks) → Denotes old round sights
      → DenoteEach old looks values → Means old env so_far → Behind old ends so_far all
      → Behind new ends' so_far (λ t. all t ++ put (target_of kind) sights numbers values so_far t)

-- the same of several rows
pub record RowsAssigned (kind : Kind) (rows : List (List ℕ)) (looks : List (Option Look)) (round : Option Look)
    (old new : List Hub) (env env' : Env) (ends ends' : Ends) : Type 0 where
  pub grows : Grows old new
  pub restored : (t : Target) → look_of env' t ≡ look_of env t
  pub behind : (sights : List Sight) (values : List (List Sight)) (so_far all : Looks) → Denotes old round sights
      → DenoteEach old looks values → Means old env so_far → Behind old ends so_far all
      → Behind new ends' so_far
      (λ t. all t ++ flat_map (λ row. put (target_of kind) sights row values so_far t) rows)

-- what an assignment to the row at an index makes of what targets looked at
abbrev pub rows_walked : Kind → RowAssignment → (round : List Sight) → Looks → Looks
rows_walked kind a sights so_far =
    put_rows (target_of kind) (sights ++ whole (expr_looks so_far (expr_view a.index.now))) (spacing_view a.spacing)
    (numbers a.targets.now) (expr_looks so_far (expr_view a.value.now)) so_far

-- a branch with this test is walked, and it is known what is round the next ones
pub record Branched (test : Test) (run : (round : List Sight) → Looks → Looks) (round next : Option Look)
    (old new : List Hub) (env env' : Env) (ends ends' : Ends) : Type 0 where
  pub parted : Parted run round old new env env' ends ends'
  pub after : (sights : List Sight) (so_far all : Looks) → Denotes old round sights → Means old env so_far
      → Behind old ends so_far all → Denotes new next (sights ++ test_looks so_far test)

-- what is round the alternatives of a case, whose selector looks at what `means` says
pub record Rounds (means : Looks → List Sight) (round next : Option Look) (elements : List (Option Look))
    (old new : List Hub) : Type 0 where
  pub grows : Grows old new
  pub denotes : (sights : List Sight) (so_far : Looks) → Denotes old round sights → ElementsMean old elements so_far
      → Denotes new next (sights ++ means so_far)
