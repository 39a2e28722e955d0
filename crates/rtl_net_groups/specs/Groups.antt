-- Groups of nets. A group is a run of nets, one behind the other, that are elements of one declaration and listed for
-- the same processes: for a simulation cycle, those that are sensitive to them (IEEE 1076-2008, 14.7.5.3).
use Rattle.std.specs.Prelude.{◌≡◌, ◌↔◌, ℕ, ◌<◌, ◌≤◌, List, [], length, slice_index, slice_index_or, Contains}

pub record Grouping : Type 0 where
  -- of each net its group
  pub of_net : List ℕ
  -- of each group its first net, and the processes for which its nets are listed
  pub first : List ℕ
  pub listed : List (List ℕ)

-- the process is listed for the net's group
abbrev pub IsListed : Grouping → (process net : ℕ) → Type 0
IsListed g p n = Contains (slice_index_or g.listed (slice_index g.of_net n) []) p

-- each net is in one group, none is empty, and they stand in order, so that each is a run
pub record AreRuns (of_net first : List ℕ) : Type 0 where
  pub there : (n : ℕ) → n < length of_net → slice_index of_net n < length first
  pub in_order : (m n : ℕ) → m ≤ n → n < length of_net → slice_index of_net m ≤ slice_index of_net n
  pub begins : (g : ℕ) → g < length first
      → (slice_index first g < length of_net) × (slice_index of_net (slice_index first g) ≡ g)
  pub is_first : (n : ℕ) → n < length of_net → slice_index first (slice_index of_net n) ≤ n

-- two nets are elements of one declaration, and listed for the same processes
pub record AreAlike (declared : List ℕ) (nets_of : List (List ℕ)) (m n : ℕ) : Type 0 where
  pub one_declaration : slice_index declared m ≡ slice_index declared n
  pub listed_alike : (p : ℕ) → Contains (slice_index_or nets_of p []) m ↔ Contains (slice_index_or nets_of p []) n

-- The groups of nets of which `declared` has the declaration that each is an element of, and `nets_of` the lists of the
-- processes.
pub record AreGroups (declared : List ℕ) (nets_of : List (List ℕ)) (g : Grouping) : Type 0 where
  pub each_net : length g.of_net ≡ length declared
  pub each_group : length g.listed ≡ length g.first
  pub runs : AreRuns g.of_net g.first
  -- nets of one group are alike, and a process is listed for a net's group just where the net is listed for the process
  pub alike : (m n : ℕ) → m < length declared → n < length declared
      → slice_index g.of_net m ≡ slice_index g.of_net n → AreAlike declared nets_of m n
  pub listed : (n p : ℕ) → n < length declared → IsListed g p n ↔ Contains (slice_index_or nets_of p []) n

-- these are the nets of the group
pub record AreNetsOf (g : Grouping) (group first end : ℕ) : Type 0 where
  pub some : first < end
  pub within : end ≤ length g.of_net
  pub each : (n : ℕ) → n < length g.of_net → (slice_index g.of_net n ≡ group) ↔ ((first ≤ n) × (n < end))
