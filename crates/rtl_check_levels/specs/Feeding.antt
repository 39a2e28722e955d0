-- Which rows of a table feed which. Of processes one feeds another that is sensitive to a net that it drives; of nets
-- one feeds another that looks at it. A table has, for each row that is in it, those that feed it, in any order and
-- perhaps several times, and nothing for any other.
use Rattle.std.specs.Prelude.{ℕ, Bool, true, false, List, [], Option, None, Some, IsSome, Contains, slice_index_or}
use Rattle.smallvec.specs.SmallVec.{SmallVec}
use Rattle.rtl_check_levels.specs.declared.counting.Counting.{Counting}
use Rattle.rtl_check_levels.specs.declared.counting.Counting.TheVariants.{Each, Marked}

abbrev pub Table : Type 0
Table = List (Option (SmallVec ℕ))

abbrev pub listed : Option (SmallVec ℕ) → List ℕ
listed None = []
listed (Some feeders) = feeders.items

-- those that feed row q
abbrev pub feeders_of : Table → (q : ℕ) → List ℕ
feeders_of table q = listed (slice_index_or table q None)

-- row q is in the table: of processes the combinational ones are
abbrev pub IsIn : Table → (q : ℕ) → Type 0
IsIn table q = IsSome (slice_index_or table q None)

abbrev pub Feeds : Table → (p q : ℕ) → Type 0
Feeds table p q = Contains (feeders_of table q) p

-- all that feed are in the table themselves
abbrev pub IsClosed : Table → Type 0
IsClosed table = (p q : ℕ) → Feeds table p q → IsIn table p

-- whether row q counts as a level: each process does, and of nets and hubs those that are marked
abbrev pub counts_in : Counting → (q : ℕ) → Bool
counts_in Each q = true
counts_in (Marked marks) q = slice_index_or marks.now q false
