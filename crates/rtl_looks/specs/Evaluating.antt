-- What the walk makes of values and tests: their looks, where `elements` are those of the variables' elements. Hubs
-- grow, and the looks denote what rtl_model says of whatever the elements' looks denote.
use Rattle.std.specs.Prelude.{ℕ, List, ◌++◌, Option}
use Rattle.rtl_model.specs.bodies.Rows.{Spacing, all_rows}
use Rattle.rtl_model.specs.bodies.Assigns.{element}
use Rattle.rtl_model.specs.bodies.Body.{Expr, Test}
use Rattle.rtl_model.specs.bodies.Looks.{Sight, Looks, whole, chosen_looks, expr_looks, test_looks}
use Rattle.rtl_net.specs.Bodies.{links_of, test_links_of}
use Rattle.rtl_net.specs.declared.body.Link.{Link}
use Rattle.rtl_net.specs.declared.body.TestLink.{TestLink}
use Rattle.rtl_looks.specs.declared.hubs.Look.{Look}
use Rattle.rtl_looks.specs.declared.hubs.Hub.{Hub}
use Rattle.rtl_looks.specs.Denoting.{Grows, Denotes, DenoteEach, look_at}

-- ---- looks joined

pub record Joins (old new : List Hub) (left right joined : Option Look) : Type 0 where
  pub grows : Grows old new
  pub denotes : (ls rs : List Sight) → Denotes old left ls → Denotes old right rs → Denotes new joined (ls ++ rs)

pub record JoinsAll (old new : List Hub) (looks : List (Option Look)) (joined : Option Look) : Type 0 where
  pub grows : Grows old new
  pub denotes : (sights : List (List Sight)) → DenoteEach old looks sights → Denotes new joined (whole sights)

-- two values' elements, by what an operator makes of them
pub record Combines (by : (ls rs : List (List Sight)) → List (List Sight)) (old new : List Hub)
    (left right looks : List (Option Look)) : Type 0 where
  pub grows : Grows old new
  pub each : (ls rs : List (List Sight)) → DenoteEach old left ls → DenoteEach old right rs
      → DenoteEach new looks (by ls rs)

-- the elements of the row that an index chooses, in what has these looks
pub record Chooses (spacing : Spacing) (index : Option Look) (looks : List (Option Look)) (old new : List Hub)
    (chosen : List (Option Look)) : Type 0 where
  pub grows : Grows old new
  pub each : (sights : List Sight) (rows : List (List Sight)) → Denotes old index sights → DenoteEach old looks rows
      → DenoteEach new chosen (chosen_looks sights spacing.len (all_rows spacing rows))

-- ---- values and tests

abbrev pub ElementsMean : List Hub → (elements : List (Option Look)) → Looks → Type 0
ElementsMean hubs elements so_far = (e : ℕ) → Denotes hubs (look_at elements e) (so_far (element e))

-- element by element
pub record Evaluates (means : Looks → List (List Sight)) (elements : List (Option Look)) (old new : List Hub)
    (looks : List (Option Look)) : Type 0 where
  pub grows : Grows old new
  pub each : (so_far : Looks) → ElementsMean old elements so_far → DenoteEach new looks (means so_far)

-- all in one
pub record Sums (means : Looks → List Sight) (elements : List (Option Look)) (old new : List Hub)
    (look : Option Look) : Type 0 where
  pub grows : Grows old new
  pub denotes : (so_far : Looks) → ElementsMean old elements so_far → Denotes new look (means so_far)

-- further operands, behind a left one that has these looks
pub record Chains (rest : List Link) (elements : List (Option Look)) (old new : List Hub)
    (first looks : List (Option Look)) : Type 0 where
  pub grows : Grows old new
  pub each : (left : Expr) (so_far : Looks) → ElementsMean old elements so_far
      → DenoteEach old first (expr_looks so_far left)
      → DenoteEach new looks (expr_looks so_far (links_of left rest))

pub record ChainsTests (rest : List TestLink) (elements : List (Option Look)) (old new : List Hub)
    (first look : Option Look) : Type 0 where
  pub grows : Grows old new
  pub denotes : (left : Test) (so_far : Looks) → ElementsMean old elements so_far
      → Denotes old first (test_looks so_far left)
      → Denotes new look (test_looks so_far (test_links_of left rest))
