-- Marks of the nets that begin a group, while they are made.
use Rattle.std.specs.Prelude.{◌≡◌, ◌⊎◌, ◌↔◌, ℕ, zero, suc, ◌+◌, Bool, true, false, List, length, slice_index, slice_index_or, Contains}
use Rattle.rtl_net_groups.specs.Groups.{AreAlike}

-- the net begins a group, or isn't there
abbrev pub IsMarked : List Bool → (net : ℕ) → Type 0
IsMarked begins net = slice_index_or begins net true ≡ true

-- the net is there and begins no group
abbrev pub IsUnmarked : List Bool → (net : ℕ) → Type 0
IsUnmarked begins net = slice_index_or begins net true ≡ false

-- new has the marks of old
pub record KeepsMarks (old new : List Bool) : Type 0 where
  pub as_many : length new ≡ length old
  pub kept : (n : ℕ) → IsMarked old n → IsMarked new n

-- a net and the one behind it are both in this list, or neither, unless the second is marked
abbrev pub AreListedAlike : (begins : List Bool) → (nets : List ℕ) → Type 0
AreListedAlike begins nets = (n : ℕ) → IsUnmarked begins (n + 1) → Contains nets n ↔ Contains nets (n + 1)

-- a net that isn't marked is of the declaration of the one before it
abbrev pub AreDeclaredAlike : (begins : List Bool) → (declared : List ℕ) → Type 0
AreDeclaredAlike begins declared =
    (n : ℕ) → IsUnmarked begins (n + 1) → slice_index declared n ≡ slice_index declared (n + 1)

-- a net that isn't marked is like the one before it
abbrev pub AreMarkedApart : (begins : List Bool) → (declared : List ℕ) → (nets_of : List (List ℕ)) → Type 0
AreMarkedApart begins declared nets_of = (n : ℕ) → IsUnmarked begins (n + 1) → AreAlike declared nets_of n (n + 1)

-- the net behind the one before this place of the list
abbrev pub after : (nets : List ℕ) → (place : ℕ) → ℕ
after nets zero = 0
after nets (suc k) = slice_index nets k + 1

-- the net at this place follows the one before it, or it is marked, and what follows that one is, too
abbrev pub IsTold : List Bool → (nets : List ℕ) → (place : ℕ) → Type 0
IsTold begins nets k =
    (slice_index nets k ≡ after nets k) ⊎ (IsMarked begins (after nets k) × IsMarked begins (slice_index nets k))
