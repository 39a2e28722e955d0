-- Valuations: the list of all nets' values. Nets and values are numbers: a net by its place in the elaborated design, a
-- value by its place in its type.
use Rattle.std.specs.Prelude.{◌≡◌, ℕ, Bool, not, ◌==◌, List, Contains, slice_index, Option, Some, None, true, false}

-- two valuations have the same values at these nets
abbrev pub AgreeOn : (nets : List ℕ) → List ℕ → List ℕ → Type 0
AgreeOn nets v w = (n : ℕ) → Contains nets n → slice_index v n ≡ slice_index w n

-- an event: the net's values before and now differ (IEEE 1076-2008, 14.7.3.4)
abbrev pub has_event : (before now : List ℕ) → ℕ → Bool
has_event before now n = not (slice_index before n == slice_index now n)

-- the first entry, and where there is none the second
abbrev pub or_else : Option ℕ → Option ℕ → Option ℕ
or_else None o = o
or_else (Some v) o = Some v

-- an entry, under a condition
abbrev pub entry_where : Bool → Option ℕ → Option ℕ
entry_where true entry = entry
entry_where false entry = None

-- What a clocked process has for a driver: its reset's entry where the reset holds, and where there is none its
-- branch's where the branch runs.
abbrev pub clocked_entry : (reset_holds branch_runs : Bool) → (of_reset of_branch : Option ℕ) → Option ℕ
clocked_entry reset_holds branch_runs of_reset of_branch =
    or_else (entry_where reset_holds of_reset) (entry_where branch_runs of_branch)
