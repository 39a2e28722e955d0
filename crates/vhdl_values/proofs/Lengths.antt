-- How long results are.
use Rattle.std.proofs.Common.{◌≡◌, ℕ, suc, ◌+◌, List, [], ◌∷◌, length, Bool, true, false, refl, ap, arith, length-append, length-drop}
use Rattle.std.specs.Prelude.{max, ◌&&◌, ◌≤◌}
use Rattle.std.proofs.lemmas.List.{length-replicate, length-take}
use Rattle.vhdl_values.specs.declared.scalar.Nine.{Nine}
use Rattle.vhdl_values.specs.declared.scalar.Nine.TheVariants.{X}
use Rattle.vhdl_values.specs.declared.kinds.Logic.{Logic}
use Rattle.vhdl_values.specs.Logic.{zip_with, logic_of, logic_of_all}
use Rattle.vhdl_values.specs.Numbers.{all_good}
use Rattle.vhdl_values.specs.Arithmetic.{number_or_x, sum_of, difference_of, product_of}
use Rattle.vhdl_values.specs.declared.kinds.Counted.{Counted}
use Rattle.vhdl_values.specs.declared.kinds.Counted.TheVariants.{Resize, ResizeSigned, Shift}
use Rattle.vhdl_values.specs.declared.kinds.Shift.{Shift as Shifting}
use Rattle.vhdl_values.specs.declared.kinds.Shift.TheVariants.{Left, Right, RightSigned, RotateLeft}
use Rattle.vhdl_values.specs.Shifts.{shifted_left, shifted_right, rotated_left, resized, resized_signed, leftmost, shifted_of, counted_of, counted_length, IsCount}
use Rattle.vhdl_values.proofs.Digits.{length-digits_of}

pub length-zip_with : {A : Type 0} (f : A → A → A) (as' bs : List A) → length as' ≡ length bs → length (zip_with f as' bs) ≡ length as'
length-zip_with f [] bs e = refl
length-zip_with f (a ∷ as') [] e = cc
length-zip_with f (a ∷ as') (b ∷ bs) e = ap suc (length-zip_with f as' bs (omega arith))

pub length-logic_of_all : (kind : Logic) (as' bs : List Nine) → length as' ≡ length bs → length (logic_of_all kind as' bs) ≡ length as'
length-logic_of_all kind as' bs e = length-zip_with (logic_of kind) as' bs e

pub length-number_or_x : (good : Bool) (len n : ℕ) → length (number_or_x good len n) ≡ len
length-number_or_x true len n = length-digits_of len n
length-number_or_x false len n = length-replicate len X

pub length-sum_of : (a b : List Nine) → length (sum_of a b) ≡ max (length a) (length b)
length-sum_of a b = length-number_or_x (all_good a && all_good b) _ _

pub length-difference_of : (a b : List Nine) → length (difference_of a b) ≡ max (length a) (length b)
length-difference_of a b = length-number_or_x (all_good a && all_good b) _ _

pub length-product_of : (a b : List Nine) → length (product_of a b) ≡ length a + length b
length-product_of a b = length-number_or_x (all_good a && all_good b) _ _

pub length-shifted_left : {A : Type 0} (filler : A) (count : ℕ) (vs : List A) → length (shifted_left filler count vs) ≡ length vs
length-shifted_left filler count vs = rw (length-drop, length-append, length-replicate) (omega arith)

pub length-shifted_right : {A : Type 0} (filler : A) (count : ℕ) (vs : List A) → length (shifted_right filler count vs) ≡ length vs
length-shifted_right filler count vs = rw (length-take, length-append, length-replicate) (omega arith)

pub length-resized : {A : Type 0} (filler : A) (len : ℕ) (vs : List A) → length (resized filler len vs) ≡ len
length-resized filler len vs = rw (length-append, length-replicate, length-drop) (omega arith)

pub length-resized_signed : {A : Type 0} (filler : A) (len : ℕ) (vs : List A) → length (resized_signed filler len vs) ≡ len
length-resized_signed filler len vs = rw (length-append, length-replicate, length-drop) (omega arith)

pub length-rotated_left : {A : Type 0} (count : ℕ) (vs : List A) → length (rotated_left count vs) ≡ length vs
length-rotated_left count vs = rw (length-append, length-drop, length-take) (omega arith)

pub length-shifted_of : {A : Type 0} (filler : A) (by : Shifting) (count : ℕ) (vs : List A) → length (shifted_of filler by count vs) ≡ length vs
length-shifted_of filler Left count vs = length-shifted_left filler count vs
length-shifted_of filler Right count vs = length-shifted_right filler count vs
length-shifted_of filler RightSigned count vs = length-shifted_right (leftmost filler vs) count vs
length-shifted_of filler RotateLeft count vs = length-rotated_left count vs

pub length-counted_of : {A : Type 0} (filler : A) (op : Counted) (count : ℕ) (vs : List A) → length (counted_of filler op count vs) ≡ counted_length op count (length vs)
length-counted_of filler Resize count vs = length-resized filler count vs
length-counted_of filler ResizeSigned count vs = length-resized_signed filler count vs
length-counted_of filler (Shift by) count vs = length-shifted_of filler by count vs

-- what is 1 to 64 elements long stays so
pub counted_within : (op : Counted) (count len : ℕ) → IsCount op count → (1 ≤ len) × (len ≤ 64) → (1 ≤ counted_length op count len) × (counted_length op count len ≤ 64)
counted_within Resize count len h k = h
counted_within ResizeSigned count len h k = h
counted_within (Shift by) count len h k = k
