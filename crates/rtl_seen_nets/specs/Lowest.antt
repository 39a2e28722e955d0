-- The lowest of some nets that is wanted.
use Rattle.std.specs.Prelude.{ℕ, Bool, false, min, if◌then◌else◌, List, [], ◌∷◌, slice_index_or, Option, Some, None}

-- of two, where there are two
abbrev pub lower : Option ℕ → Option ℕ → Option ℕ
lower None b = b
lower (Some m) None = Some m
lower (Some m) (Some n) = Some (min m n)

-- it is marked; what is past the marks' end isn't
abbrev pub is_wanted : (wanted : List Bool) → (n : ℕ) → Bool
is_wanted wanted n = slice_index_or wanted n false

abbrev pub if_wanted : (wanted : List Bool) → (n : ℕ) → Option ℕ
if_wanted wanted n = if is_wanted wanted n then Some n else None

abbrev pub lowest : (wanted : List Bool) → List ℕ → Option ℕ
lowest wanted [] = None
lowest wanted (n ∷ ns) = lower (if_wanted wanted n) (lowest wanted ns)
