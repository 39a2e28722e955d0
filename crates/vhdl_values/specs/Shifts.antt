-- Shifts, rotates and changes of length (numeric_std: SHIFT_LEFT S.1, SHIFT_RIGHT S.2 and S.4, ROTATE_LEFT S.5,
-- RESIZE R.1 and R.2). The elements that stay pass unchanged, whatever they are. What comes in is the filler, which of
-- values is 0, or of a signed vector its leftmost element; a rotate lets in what falls off.
use Rattle.std.specs.Prelude.{ℕ, ◌-◌, ◌%◌, ◌≤◌, min, ⊤, List, [], ◌∷◌, ◌++◌, length, take, drop, replicate}
use Rattle.vhdl_values.specs.declared.kinds.Counted.{Counted}
use Rattle.vhdl_values.specs.declared.kinds.Counted.TheVariants.{Resize, ResizeSigned, Shift}
use Rattle.vhdl_values.specs.declared.kinds.Shift.{Shift as Shifting}
use Rattle.vhdl_values.specs.declared.kinds.Shift.TheVariants.{Left, Right, RightSigned, RotateLeft}

-- so many fillers come in on the right, and as many elements fall off on the left
abbrev pub shifted_left : {A : Type 0} → (filler : A) → ℕ → List A → List A
shifted_left filler count vs = drop count (vs ++ replicate count filler)

-- so many fillers come in on the left, and as many elements fall off on the right
abbrev pub shifted_right : {A : Type 0} → (filler : A) → ℕ → List A → List A
shifted_right filler count vs = take (length vs) (replicate count filler ++ vs)

-- so many elements fall off on the left, and come in on the right
abbrev pub rotated_left : {A : Type 0} → ℕ → List A → List A
rotated_left count vs = drop (count % length vs) vs ++ take (count % length vs) vs

-- fillers on the left, or the rightmost elements alone
abbrev pub resized : {A : Type 0} → (filler : A) → ℕ → List A → List A
resized filler len vs = replicate (len - length vs) filler ++ drop (length vs - len) vs

-- ---- of a signed vector: its leftmost element is the sign

-- where there is none, the filler
abbrev pub leftmost : {A : Type 0} → (filler : A) → List A → A
leftmost filler [] = filler
leftmost filler (v ∷ vs) = v

-- the sign, as often as there is room, and of the others the rightmost elements
abbrev pub resized_signed : {A : Type 0} → (filler : A) → ℕ → List A → List A
resized_signed filler len vs =
    let others = min len (length vs) - 1
    in replicate (len - others) (leftmost filler vs) ++ drop (length vs - others) vs

-- ---- all these, as operators with a count beside the vector

abbrev pub shifted_of : {A : Type 0} → (filler : A) → Shifting → (count : ℕ) → List A → List A
shifted_of filler Left count vs = shifted_left filler count vs
shifted_of filler Right count vs = shifted_right filler count vs
shifted_of filler RightSigned count vs = shifted_right (leftmost filler vs) count vs
shifted_of filler RotateLeft count vs = rotated_left count vs

abbrev pub counted_of : {A : Type 0} → (filler : A) → Counted → (count : ℕ) → List A → List A
counted_of filler Resize count vs = resized filler count vs
counted_of filler ResizeSigned count vs = resized_signed filler count vs
counted_of filler (Shift by) count vs = shifted_of filler by count vs

-- how long it is, of a vector of this length
abbrev pub counted_length : Counted → (count len : ℕ) → ℕ
counted_length Resize count len = count
counted_length ResizeSigned count len = count
counted_length (Shift by) count len = len

-- a new length is one that a vector can have
abbrev pub IsCount : Counted → ℕ → Type 0
IsCount Resize count = (1 ≤ count) × (count ≤ 64)
IsCount ResizeSigned count = (1 ≤ count) × (count ≤ 64)
IsCount (Shift by) count = ⊤
