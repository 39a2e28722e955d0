-- Shifts by less than the length, and by the length or more.
use Rattle.std.proofs.Common.{◌≡◌, Some, ℕ, ◌+◌, ◌-◌, ◌≤◌, List, [], ◌∷◌, ◌++◌, length, take, drop, replicate, ◌∙◌, ap, arith}
use Rattle.std.specs.Prelude.{slice_get}
use Rattle.std.proofs.lemmas.List.{take-append-le, length-replicate, take-replicate, drop-replicate}
use Rattle.std.proofs.Math.Seq.{drop-append-add, take-append-add}
use Rattle.vhdl_values.specs.declared.scalar.Nine.{Nine}
use Rattle.vhdl_values.specs.declared.scalar.Nine.TheVariants.{Zero}
use Rattle.vhdl_values.specs.Shifts.{shifted_left, shifted_right, leftmost}

-- a shift by no more than the length
pub shifted_right-part : (filler : Nine) (count : ℕ) (vs : List Nine) → count ≤ length vs → shifted_right filler count vs ≡ replicate count filler ++ take (length vs - count) vs
shifted_right-part filler count vs le =
    let split : length vs ≡ length (replicate count filler) + (length vs - count) = rw length-replicate (omega arith) in
    ap (λ n. take n (replicate count filler ++ vs)) split ∙ take-append-add (replicate count filler) vs (length vs - count)

-- a shift by the length or more
pub shifted_left-all : (count : ℕ) (vs : List Nine) → length vs ≤ count → shifted_left Zero count vs ≡ replicate (length vs) Zero
shifted_left-all count vs le =
    let split : count ≡ length vs + (count - length vs) = omega arith in
    let left : count - (count - length vs) ≡ length vs = omega arith in
    ap (λ n. drop n (vs ++ replicate count Zero)) split
    ∙ drop-append-add vs (replicate count Zero) (count - length vs)
    ∙ drop-replicate (count - length vs) count Zero
    ∙ ap (λ n. replicate n Zero) left

pub shifted_right-all : (filler : Nine) (count : ℕ) (vs : List Nine) → length vs ≤ count → shifted_right filler count vs ≡ replicate (length vs) filler
shifted_right-all filler count vs le =
    let long : length vs ≤ length (replicate count filler) = rw length-replicate le in
    take-append-le (length vs) (replicate count filler) vs long ∙ take-replicate (length vs) count filler le

-- what a signed vector has on its left
pub leftmost_is : (vs : List Nine) (v : Nine) → slice_get vs 0 ≡ Some v → leftmost Zero vs ≡ v
leftmost_is [] v e = cc
leftmost_is (w ∷ ws) v e = cc
