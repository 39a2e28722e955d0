-- What a push is to the changes of each time.
use Rattle.std.specs.Prelude.{◌≡◌, ◌≢◌, ℕ, List, [], ◌∷◌, ◌++◌}
use Rattle.rtl_agenda.specs.Agenda.{Change, changes_at, with_change}

-- a change more stands last among the changes of its time, and those of other times stay
abbrev pub EachPushIsLast : Type 0
EachPushIsLast = (waiting : List (ℕ × List Change)) (time : ℕ) (change : Change)
    → (changes_at (with_change waiting time change) time ≡ changes_at waiting time ++ change ∷ [])
    × ((other : ℕ) → other ≢ time → changes_at (with_change waiting time change) other ≡ changes_at waiting other)
