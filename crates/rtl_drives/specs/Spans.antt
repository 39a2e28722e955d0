-- Places of drivers, most of which stand one after another.
use Rattle.std.specs.Prelude.{ℕ, ◌+◌, List, [], ◌∷◌, ◌++◌, slice_set, Option, Some}
use Rattle.std.specs.List.{range_with_len}
use Rattle.rtl_drives.specs.declared.spans.Span.{Span}

-- the places of these spans, in order
abbrev pub places_of : List Span → List ℕ
places_of [] = []
places_of (span ∷ spans) = range_with_len span.first span.len ++ places_of spans

-- these values, from the left, at the places from `first` on
abbrev pub written : (first : ℕ) → (values : List ℕ) → List (Option ℕ) → List (Option ℕ)
written first [] entries = entries
written first (value ∷ values) entries = written (first + 1) values (slice_set entries first (Some value))
