-- Places, each of which is an end, good or not, or leads on to another place: which of them come to a good end.
use Rattle.std.specs.Prelude.{◌≡◌, ◌↔◌, ◌⊎◌, ℕ, ◌<◌, Bool, true, false, List, length, slice_index_or, Option, Some, None, IsTrue, Contains}
use Rattle.rtl_calm_nets.specs.declared.search.Step.{Step}
use Rattle.rtl_calm_nets.specs.declared.search.Step.TheVariants as s

-- past the last place all are ends that aren't good
abbrev pub step_at : List Step → (place : ℕ) → Step
step_at steps place = slice_index_or steps place (s.Ends false)

pub data Comes (steps : List Step) : (place : ℕ) → Type 0 where
  ends : (place : ℕ) → step_at steps place ≡ s.Ends true → Comes steps place
  leads : (place next : ℕ) → step_at steps place ≡ s.To next → Comes steps next → Comes steps place

-- of each place whether it comes to a good end
pub record AreReached (steps : List Step) (reached : List Bool) : Type 0 where
  pub each_place : length reached ≡ length steps
  pub each : (place : ℕ) → IsTrue (slice_index_or reached place false) ↔ Comes steps place

-- ---- the search: a place is marked when it is entered, at first as one that doesn't come to a good end

abbrev pub mark_at : List (Option Bool) → (place : ℕ) → Option Bool
mark_at marks place = slice_index_or marks place None

-- between two walks each mark is right
pub record AreRight (steps : List Step) (marks : List (Option Bool)) : Type 0 where
  pub each_place : length marks ≡ length steps
  pub each : (place : ℕ) (mark : Bool) → mark_at marks place ≡ Some mark → IsTrue mark ↔ Comes steps place

-- A walk goes on until it ends, or meets a mark: all on its path come to a good end, or none of them does, and other
-- marks are right.
pub record IsWalk (steps : List Step) (marks : List (Option Bool)) (path : List ℕ) (from : ℕ) (comes : Bool)
    : Type 0 where
  pub each_place : length marks ≡ length steps
  pub there : (place : ℕ) → Contains path place → place < length marks
  pub first : IsTrue comes ↔ Comes steps from
  pub on_path : (place : ℕ) → Contains path place → IsTrue comes ↔ Comes steps place
  pub others : (place : ℕ) (mark : Bool) → mark_at marks place ≡ Some mark
      → Contains path place ⊎ (IsTrue mark ↔ Comes steps place)

-- all on the path get this mark
pub record AreSettled (path : List ℕ) (mark : Bool) (old new : List (Option Bool)) : Type 0 where
  pub each_place : length new ≡ length old
  pub each : (place : ℕ) → (Contains path place × (mark_at new place ≡ Some mark))
      ⊎ ((Contains path place → ⊥) × (mark_at new place ≡ mark_at old place))
