-- The values of all nets before the last update and now, and the groups that the nets stand in.
use Rattle.std.specs.Prelude.{◌≡◌, ℕ, ◌<◌, true, All, List, length, slice_index, Contains}
use Rattle.rtl_net_groups.specs.Groups.{Grouping}
use Rattle.rtl_net_groups.specs.Written.{IsWritten}
use Rattle.rtl_model.specs.basics.Valuations.{has_event}
use Rattle.rtl_model.specs.simulation.Cycle.{with_changes}

pub record TwoValues : Type 0 where
  pub groups : Grouping
  pub before : List ℕ
  pub current : List ℕ

abbrev pub group_of : TwoValues → (net : ℕ) → ℕ
group_of v n = slice_index v.groups.of_net n

-- a net of this group has an event
abbrev pub HasEventIn : TwoValues → (group : ℕ) → Type 0
HasEventIn v group =
    (n : ℕ) × (group_of v n ≡ group) × (n < length v.groups.of_net) × (has_event v.before v.current n ≡ true)

-- among the nets of these groups is each that has an event
pub record CoverEvents (v : TwoValues) (groups : List ℕ) : Type 0 where
  pub there : All (λ g. g < length v.groups.listed) groups
  pub events : (n : ℕ) → has_event v.before v.current n ≡ true → Contains groups (group_of v n)

-- new has these values now from this net on
pub record HasWritten (first : ℕ) (values : List ℕ) (old new : TwoValues) : Type 0 where
  pub groups_stay : new.groups ≡ old.groups
  pub before_stays : new.before ≡ old.before
  pub current : IsWritten first values old.current new.current

-- new has what old has, after these changes, each a net and its value
pub record AreChanged (changes : List (ℕ × ℕ)) (old new : List ℕ) : Type 0 where
  pub as_many : length new ≡ length old
  pub each : (n : ℕ) → slice_index new n ≡ with_changes changes old n
