-- What an update of drivers does to their nets (IEEE 1076-2008, 14.7.3): nets with one source get
-- their drivers' new values at once, and the group of nets with several is noted, so that they are
-- resolved when all drivers have theirs.
use Rattle.std.specs.Prelude.{◌≡◌, ◌↔◌, ◌%◌, ℕ, ◌<◌, Bool, true, false, List, length, slice_index, slice_index_or, Contains}
use Rattle.rtl_net_groups.specs.Groups.{Grouping}
use Rattle.rtl_model.specs.nets.FlatNetlist.{FlatNetlist, flat_sources}
use Rattle.rtl_net.specs.Nets.{NetlistView, flat}
use Rattle.rtl_net.specs.declared.process.Process.{Process}
use Rattle.rtl_kernel.specs.drivers.Transactions.{driver_at, targets_of}
use Rattle.rtl_kernel.specs.values.TwoValues.{TwoValues, group_of}
use Rattle.rtl_kernel.specs.worklists.Numbers.{Numbers}

abbrev pub IsAlone : FlatNetlist → (net : ℕ) → Type 0
IsAlone wiring n = length (flat_sources wiring n) ≡ 1

-- the nets of a group have one source each, or none of them has just one
abbrev pub AreAloneAlike : FlatNetlist → (of_net : List ℕ) → Type 0
AreAloneAlike wiring of_net = (m n : ℕ) → m < length of_net → n < length of_net
    → slice_index of_net m ≡ slice_index of_net n → IsAlone wiring m → IsAlone wiring n

-- nets have odd numbers where they have one source each
abbrev pub AreToldApart : FlatNetlist → (numbers : List ℕ) → Type 0
AreToldApart wiring numbers = (n : ℕ) → n < length numbers → IsAlone wiring n ↔ (slice_index numbers n % 2 ≡ 1)

-- a mark for each group: the nets of a marked one have one source each
pub record MarkAlone (wiring : FlatNetlist) (groups : Grouping) (marks : List Bool) : Type 0 where
  pub each_group : length marks ≡ length groups.listed
  pub there : (n : ℕ) → n < length groups.of_net → slice_index groups.of_net n < length groups.listed
  pub alone : (n : ℕ) → n < length groups.of_net → slice_index_or marks (slice_index groups.of_net n) false ≡ true
      → IsAlone wiring n

-- ---- nets in an update

-- the nets of a netlist, and the groups that are noted
pub record NotedNets : Type 0 where
  pub net : NetlistView
  pub values : TwoValues
  pub noted : List ℕ

-- how they are kept
pub record AreNoted (net : NetlistView) (alone : List Bool) (values : TwoValues) (noted : Numbers) : Type 0 where
  pub each_net : length values.current ≡ length net.types
  pub grouped : length values.groups.of_net ≡ length net.types
  pub marked : MarkAlone (flat net) values.groups alone
  pub bound : noted.bound ≡ length values.groups.listed

-- where an update begins, no net has an event
abbrev pub begun : NotedNets → NotedNets
begun nets = record nets { values = record (nets.values) { before = nets.values.current } }

-- ---- new values of drivers

-- the driver at this place has this net
pub record IsDriver (targets : List ℕ) (place net : ℕ) : Type 0 where
  pub there : place < length targets
  pub is : slice_index targets place ≡ net

-- net n: its group is noted, and one of these drivers is its; or it has kept its value, and so have
-- these drivers of it; or it is alone and has its driver's value
pub data IsBrought {D : Type 0} (drives : D → (net : ℕ) → Type 0)
    (before after : D → ℕ) (old new : NotedNets) (n : ℕ) : Type 0 where
  is_noted : (d : D) → drives d n → Contains new.noted (group_of old.values n) → IsBrought drives before after old new n
  has_kept : slice_index new.values.current n ≡ slice_index old.values.current n
      → ((d : D) → drives d n → after d ≡ before d)
      → IsBrought drives before after old new n
  has_value : (d : D) → drives d n → IsAlone (flat old.net) n → slice_index new.values.current n ≡ after d
      → IsBrought drives before after old new n

-- only values now are others, and more groups are noted
pub record Stay (old new : NotedNets) : Type 0 where
  pub net_stays : new.net ≡ old.net
  pub groups_stay : new.values.groups ≡ old.values.groups
  pub before_stays : new.values.before ≡ old.values.before
  pub as_many : length new.values.current ≡ length old.values.current
  pub noted_stay : (g : ℕ) → Contains old.noted g → Contains new.noted g

-- new values of all these drivers are brought to their nets
pub record AreBrought {D : Type 0} (drives : D → (net : ℕ) → Type 0)
    (before after : D → ℕ) (old new : NotedNets) : Type 0 where
  pub stay : Stay old new
  pub each : (n : ℕ) → IsBrought drives before after old new n

-- those of one process, whose drivers have these nets
abbrev pub Brings : (targets before after : List ℕ) → (old new : NotedNets) → Type 0
Brings targets before after old new =
    AreBrought (λ place net. IsDriver targets place net)
    (λ place. slice_index before place) (λ place. slice_index after place) old new

-- those of all processes
abbrev pub IsDriverOf : List Process → (driver : ℕ × ℕ) → (net : ℕ) → Type 0
IsDriverOf processes driver net = IsDriver (targets_of processes driver.0) driver.1 net

abbrev pub BringsAll : List Process → (before after : List (List ℕ)) → (old new : NotedNets) → Type 0
BringsAll processes before after old new =
    AreBrought (IsDriverOf processes) (λ d. driver_at before d.0 d.1) (λ d. driver_at after d.0 d.1) old new
