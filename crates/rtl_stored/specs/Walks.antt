-- What a walk over a part of a body makes of the marks of variable elements.
use Rattle.std.specs.Prelude.{◌≡◌, ℕ, Bool, true, false, not, ◌&&◌, ◌||◌, List, length, slice_index_or}
use Rattle.rtl_body_facts.specs.Reading.{is_in}
use Rattle.rtl_stored.specs.declared.marks.Mark.{Mark}

-- neither assigned nor stored; and what stands for an element that isn't there
abbrev pub unmarked : Mark
unmarked = record { assigned = false; stored = false }

abbrev pub no_element : Mark
no_element = record { assigned = true; stored = false }

abbrev pub is_assigned : List Mark → (e : ℕ) → Bool
is_assigned marks e = (slice_index_or marks e no_element).assigned

abbrev pub is_stored : List Mark → (e : ℕ) → Bool
is_stored marks e = (slice_index_or marks e no_element).stored

-- no element
abbrev pub never : ℕ → Bool
never e = false

-- Elements are stored besides, those that aren't assigned and that a part stores, and the same are assigned as before.
pub record Reads (stores : ℕ → Bool) (old new : List Mark) : Type 0 where
  pub same_length : length new ≡ length old
  pub stored : (e : ℕ) → is_stored new e ≡ (is_stored old e || (not (is_assigned old e) && stores e))
  pub assigned : (e : ℕ) → is_assigned new e ≡ is_assigned old e

-- The same, and those are assigned besides that a part assigns; those of them that weren't are listed behind others.
pub record Walked (stores assigns : ℕ → Bool) (old new : List Mark) (before after : List ℕ) : Type 0 where
  pub same_length : length new ≡ length old
  pub stored : (e : ℕ) → is_stored new e ≡ (is_stored old e || (not (is_assigned old e) && stores e))
  pub assigned : (e : ℕ) → is_assigned new e ≡ (is_assigned old e || assigns e)
  pub added : (e : ℕ) → is_in e after ≡ (is_in e before || (not (is_assigned old e) && assigns e))

-- These are assigned no more.
pub record Released (these : List ℕ) (old new : List Mark) : Type 0 where
  pub same_length : length new ≡ length old
  pub stored : (e : ℕ) → is_stored new e ≡ is_stored old e
  pub assigned : (e : ℕ) → is_assigned new e ≡ (is_assigned old e && not (is_in e these))

-- Of some elements those are left that are assigned before, or that a part assigns.
pub record Narrows (assigns : ℕ → Bool) (marks : List Mark) (before after : List ℕ) : Type 0 where
  pub are : (e : ℕ) → is_in e after ≡ (is_in e before && (is_assigned marks e || assigns e))
