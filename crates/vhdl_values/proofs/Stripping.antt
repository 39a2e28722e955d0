-- The logical operators on words that mark values: one lemma lifts a truth table to all places.
use Rattle.std.proofs.Common.{◌≡◌, ℕ, suc, ◌-◌, ◌≤◌, Bool, true, List, [], ◌∷◌, length, map, refl, sym, ap, ◌∙◌, arith}
use Rattle.std.specs.Prelude.{not, ◌&&◌, ◌||◌, bit_and, bit_or}
use Rattle.std.specs.List.{list_all}
use Rattle.std.proofs.lemmas.List.{length-map}
use Rattle.vhdl_values.specs.declared.kinds.Logic.TheVariants.{And, Or, Nand, Nor, Xor, Xnor}
use Rattle.vhdl_values.specs.declared.scalar.Nine.{Nine}
use Rattle.vhdl_values.specs.Scalar.{nines}
use Rattle.vhdl_values.specs.Logic.{not_of, and_of, or_of, xor_of, zip_with, logic_of_all, not_of_all}
use Rattle.vhdl_values.specs.Planes.{marks}
use Rattle.vhdl_values.specs.Marked.{is_one, is_zero, is_unset, IsMarked}
use Rattle.vhdl_values.proofs.Marks.{marks-like, marks-map, marks-and, marks-or, marks-and_not}
use Rattle.vhdl_values.proofs.Tables.{agree, same_for_each, same_for_pairs}
use Rattle.vhdl_values.proofs.Lengths.{length-logic_of_all}

-- the pairs of values at the same place
pairs : List Nine → List Nine → List (Nine × Nine)
pairs (v ∷ vs) (w ∷ ws) = (v, w) ∷ pairs vs ws
pairs vs ws = []

length-pairs : (vs ws : List Nine) → length vs ≡ length ws → length (pairs vs ws) ≡ length vs
unfolding pairs
length-pairs [] ws e = refl
length-pairs (v ∷ vs) [] e = cc
length-pairs (v ∷ vs) (w ∷ ws) e = ap suc (length-pairs vs ws (omega arith))

-- the word that marks the places whose pair has a property
pub marks_of_pairs : (Nine → Nine → Bool) → List Nine → List Nine → ℕ
marks_of_pairs f vs ws = marks (λ p. f p.0 p.1) (pairs vs ws)

map-left : (vs ws : List Nine) → length vs ≡ length ws → map (λ p. p.0) (pairs vs ws) ≡ vs
unfolding pairs
map-left [] ws e = refl
map-left (v ∷ vs) [] e = cc
map-left (v ∷ vs) (w ∷ ws) e = ap (λ l. v ∷ l) (map-left vs ws (omega arith))

map-right : (vs ws : List Nine) → length vs ≡ length ws → map (λ p. p.1) (pairs vs ws) ≡ ws
unfolding pairs
map-right [] [] e = refl
map-right (v ∷ vs) (w ∷ ws) e = ap (λ l. w ∷ l) (map-right vs ws (omega arith))
map-right _ _ e = cc

map-both : (h : Nine → Nine → Nine) (vs ws : List Nine) → map (λ p. h p.0 p.1) (pairs vs ws) ≡ zip_with h vs ws
unfolding pairs
map-both h (v ∷ vs) (w ∷ ws) = ap (λ l. h v w ∷ l) (map-both h vs ws)
map-both h _ _ = refl

pub marks-left : (f : Nine → Bool) (vs ws : List Nine) → length vs ≡ length ws → marks f vs ≡ marks_of_pairs (λ v w. f v) vs ws
unfolding marks_of_pairs
marks-left f vs ws e = ap (marks f) (sym (map-left vs ws e)) ∙ marks-map f (λ p. p.0) (pairs vs ws)

pub marks-right : (f : Nine → Bool) (vs ws : List Nine) → length vs ≡ length ws → marks f ws ≡ marks_of_pairs (λ v w. f w) vs ws
unfolding marks_of_pairs
marks-right f vs ws e = ap (marks f) (sym (map-right vs ws e)) ∙ marks-map f (λ p. p.1) (pairs vs ws)

pub pairs-and : (f g : Nine → Nine → Bool) (vs ws : List Nine) → bit_and (marks_of_pairs f vs ws) (marks_of_pairs g vs ws) ≡ marks_of_pairs (λ v w. f v w && g v w) vs ws
unfolding marks_of_pairs
pairs-and f g vs ws = marks-and (λ p. f p.0 p.1) (λ p. g p.0 p.1) (pairs vs ws)

pub pairs-or : (f g : Nine → Nine → Bool) (vs ws : List Nine) → bit_or (marks_of_pairs f vs ws) (marks_of_pairs g vs ws) ≡ marks_of_pairs (λ v w. f v w || g v w) vs ws
unfolding marks_of_pairs
pairs-or f g vs ws = marks-or (λ p. f p.0 p.1) (λ p. g p.0 p.1) (pairs vs ws)

pub pairs-and_not : (f g : Nine → Nine → Bool) (vs ws : List Nine) → length vs ≡ length ws → length vs ≤ 64 →
    bit_and (marks_of_pairs f vs ws) (18446744073709551615 - marks_of_pairs g vs ws) ≡ marks_of_pairs (λ v w. f v w && not (g v w)) vs ws
unfolding marks_of_pairs
pairs-and_not f g vs ws e room = marks-and_not (λ p. f p.0 p.1) (λ p. g p.0 p.1) (pairs vs ws) 64 (omega (arith, length-pairs vs ws e))

-- a truth table, lifted: the word whose formula agrees with an operator at each pair marks the operator's results
pub lifted : (f : Nine → Nine → Bool) (g : Nine → Bool) (h : Nine → Nine → Nine) (vs ws : List Nine) →
    list_all (λ v. list_all (λ w. agree (f v w) (g (h v w))) nines) nines ≡ true → marks_of_pairs f vs ws ≡ marks g (zip_with h vs ws)
unfolding marks_of_pairs
lifted f g h vs ws table =
    marks-like (λ p. f p.0 p.1) (λ p. g (h p.0 p.1)) (pairs vs ws) (λ p. same_for_pairs f (λ v w. g (h v w)) table p.0 p.1)
    ∙ sym (marks-map g (λ p. h p.0 p.1) (pairs vs ws))
    ∙ ap (marks g) (map-both h vs ws)

pub IsMarked-and : (vs ws : List Nine) (a b c p q r : ℕ) → IsMarked vs a b c → IsMarked ws p q r → length vs ≡ length ws →
    IsMarked (logic_of_all And vs ws) (bit_and a p) (bit_or b q) (bit_and (bit_or c r) (18446744073709551615 - bit_or b q))
IsMarked-and vs ws a b c p q r h k e =
    let room = h.room in
    rw (h.is_ones, h.is_zeros, h.is_unsets, k.is_ones, k.is_zeros, k.is_unsets) record {
      room = rw (length-logic_of_all And vs ws e) room;
      is_ones =
          rw (marks-left is_one vs ws e, marks-right is_one vs ws e, pairs-and)
          (lifted (λ v w. is_one v && is_one w) is_one and_of vs ws refl);
      is_zeros =
          rw (marks-left is_zero vs ws e, marks-right is_zero vs ws e, pairs-or)
          (lifted (λ v w. is_zero v || is_zero w) is_zero and_of vs ws refl);
      is_unsets =
          rw (marks-left is_zero vs ws e, marks-right is_zero vs ws e, marks-left is_unset vs ws e, marks-right is_unset vs ws e, pairs-or, pairs-or, pairs-and_not _ _ vs ws e room)
          (lifted (λ v w. (is_unset v || is_unset w) && not (is_zero v || is_zero w)) is_unset and_of vs ws refl);
    }

pub IsMarked-or : (vs ws : List Nine) (a b c p q r : ℕ) → IsMarked vs a b c → IsMarked ws p q r → length vs ≡ length ws →
    IsMarked (logic_of_all Or vs ws) (bit_or a p) (bit_and b q) (bit_and (bit_or c r) (18446744073709551615 - bit_or a p))
IsMarked-or vs ws a b c p q r h k e =
    let room = h.room in
    rw (h.is_ones, h.is_zeros, h.is_unsets, k.is_ones, k.is_zeros, k.is_unsets) record {
      room = rw (length-logic_of_all Or vs ws e) room;
      is_ones =
          rw (marks-left is_one vs ws e, marks-right is_one vs ws e, pairs-or)
          (lifted (λ v w. is_one v || is_one w) is_one or_of vs ws refl);
      is_zeros =
          rw (marks-left is_zero vs ws e, marks-right is_zero vs ws e, pairs-and)
          (lifted (λ v w. is_zero v && is_zero w) is_zero or_of vs ws refl);
      is_unsets =
          rw (marks-left is_one vs ws e, marks-right is_one vs ws e, marks-left is_unset vs ws e, marks-right is_unset vs ws e, pairs-or, pairs-or, pairs-and_not _ _ vs ws e room)
          (lifted (λ v w. (is_unset v || is_unset w) && not (is_one v || is_one w)) is_unset or_of vs ws refl);
    }

pub IsMarked-xor : (vs ws : List Nine) (a b c p q r : ℕ) → IsMarked vs a b c → IsMarked ws p q r → length vs ≡ length ws →
    IsMarked (logic_of_all Xor vs ws) (bit_or (bit_and a q) (bit_and b p)) (bit_or (bit_and a p) (bit_and b q)) (bit_or c r)
IsMarked-xor vs ws a b c p q r h k e =
    let room = h.room in
    rw (h.is_ones, h.is_zeros, h.is_unsets, k.is_ones, k.is_zeros, k.is_unsets) record {
      room = rw (length-logic_of_all Xor vs ws e) room;
      is_ones =
          rw (marks-left is_one vs ws e, marks-right is_one vs ws e, marks-left is_zero vs ws e, marks-right is_zero vs ws e, pairs-and, pairs-and, pairs-or)
          (lifted (λ v w. (is_one v && is_zero w) || (is_zero v && is_one w)) is_one xor_of vs ws refl);
      is_zeros =
          rw (marks-left is_one vs ws e, marks-right is_one vs ws e, marks-left is_zero vs ws e, marks-right is_zero vs ws e, pairs-and, pairs-and, pairs-or)
          (lifted (λ v w. (is_one v && is_one w) || (is_zero v && is_zero w)) is_zero xor_of vs ws refl);
      is_unsets =
          rw (marks-left is_unset vs ws e, marks-right is_unset vs ws e, pairs-or)
          (lifted (λ v w. is_unset v || is_unset w) is_unset xor_of vs ws refl);
    }

-- `not` exchanges 1 and 0
pub IsMarked-not : (vs : List Nine) (a b c : ℕ) → IsMarked vs a b c → IsMarked (not_of_all vs) b a c
IsMarked-not vs a b c h = record {
  room = rw (length-map vs not_of) h.room;
  is_ones = h.is_zeros ∙ marks-like is_zero (λ v. is_one (not_of v)) vs (same_for_each is_zero (λ v. is_one (not_of v)) refl) ∙ sym (marks-map is_one not_of vs);
  is_zeros = h.is_ones ∙ marks-like is_one (λ v. is_zero (not_of v)) vs (same_for_each is_one (λ v. is_zero (not_of v)) refl) ∙ sym (marks-map is_zero not_of vs);
  is_unsets = h.is_unsets ∙ marks-like is_unset (λ v. is_unset (not_of v)) vs (same_for_each is_unset (λ v. is_unset (not_of v)) refl) ∙ sym (marks-map is_unset not_of vs);
}

-- `not` of an operator's results, element by element
not-zip_with : (h : Nine → Nine → Nine) (vs ws : List Nine) → not_of_all (zip_with h vs ws) ≡ zip_with (λ v w. not_of (h v w)) vs ws
not-zip_with h (v ∷ vs) (w ∷ ws) = ap (λ l. not_of (h v w) ∷ l) (not-zip_with h vs ws)
not-zip_with h _ _ = refl

pub IsMarked-nand : (vs ws : List Nine) (a b c : ℕ) → IsMarked (not_of_all (logic_of_all And vs ws)) a b c → IsMarked (logic_of_all Nand vs ws) a b c
IsMarked-nand vs ws a b c h = rw (not-zip_with and_of vs ws) at h

pub IsMarked-nor : (vs ws : List Nine) (a b c : ℕ) → IsMarked (not_of_all (logic_of_all Or vs ws)) a b c → IsMarked (logic_of_all Nor vs ws) a b c
IsMarked-nor vs ws a b c h = rw (not-zip_with or_of vs ws) at h

pub IsMarked-xnor : (vs ws : List Nine) (a b c : ℕ) → IsMarked (not_of_all (logic_of_all Xor vs ws)) a b c → IsMarked (logic_of_all Xnor vs ws) a b c
IsMarked-xnor vs ws a b c h = rw (not-zip_with xor_of vs ws) at h
