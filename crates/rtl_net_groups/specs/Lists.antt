-- Lists that stand one behind the other in one row.
use Rattle.std.specs.Prelude.{◌≡◌, ℕ, ◌≤◌, List, [], ◌∷◌, map, slice_range, Vec}
use Rattle.std.specs.Global.{Global}

-- the lists of a row of items, each from its start up to that of the next; the last start is where they end
abbrev pub lists_of : {X : Type 0} → (starts : List ℕ) → List X → List (List X)
lists_of [] items = []
lists_of (start ∷ []) items = []
lists_of (start ∷ end ∷ starts) items = slice_range items start end ∷ lists_of (end ∷ starts) items

-- the starts don't fall, and the last is this
abbrev pub EndAt : (starts : List ℕ) → (last : ℕ) → Type 0
EndAt [] last = ⊥
EndAt (start ∷ []) last = start ≡ last
EndAt (start ∷ end ∷ starts) last = (start ≤ end) × EndAt (end ∷ starts) last

-- vectors as lists
abbrev pub rows : {X : Type 0} → List (Vec X Global) → List (List X)
rows {X} vs = map (λ (v : Vec X Global). v.items) vs
