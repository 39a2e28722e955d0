-- From planes to the marks of the logical operators, and back.
use Rattle.std.proofs.Common.{◌≡◌, ℕ, ◌^◌, ◌-◌, ◌<◌, ◌≤◌, Bool, true, false, List, [], ◌∷◌, length, map, refl, sym, ap, ◌∙◌, arith}
use Rattle.std.specs.Prelude.{not, ◌&&◌, ◌||◌, bit_and, bit_or}
use Rattle.std.specs.List.{list_all}
use Rattle.std.proofs.lemmas.List.{length-map}
use Rattle.std.proofs.lemmas.Nat.{and_le_l, pow_pos}
use Rattle.std.proofs.lemmas.Nat.Bits.{bit_at-lt, bit_at-zero}
use Rattle.vhdl_values.specs.declared.kinds.Logic.{Logic}
use Rattle.vhdl_values.specs.declared.kinds.Logic.TheVariants.{And}
use Rattle.vhdl_values.specs.declared.scalar.Nine.{Nine}
use Rattle.vhdl_values.specs.Scalar.{is_same, nines}
use Rattle.vhdl_values.specs.Logic.{strip, not_of, logic_of, logic_of_all, not_of_all}
use Rattle.vhdl_values.specs.Planes.{marks, has_bit, IsPlanes, code_at}
use Rattle.vhdl_values.specs.Marked.{is_one, is_zero, is_unset, IsMarked}
use Rattle.vhdl_values.proofs.Codes.{is_same-Decides}
use Rattle.vhdl_values.proofs.Marks.{marks-like, marks-map, marks-and, marks-or, marks-and_not, marks-none, marks-all}
use Rattle.vhdl_values.proofs.Tables.{each, same_for_each}
use Rattle.vhdl_values.proofs.Kept.{IsKept}

-- no bit at the length or above
abbrev pub mask_of : ℕ → ℕ
mask_of len = 2 ^ len - 1

-- what the operators look at, from the planes
pub IsMarked-kept : (vs : List Nine) (len m a b c d : ℕ) → IsKept vs len a b c d → m ≡ mask_of len →
    IsMarked vs (bit_and b a) (bit_and b (18446744073709551615 - a)) (bit_and m (18446744073709551615 - bit_or (bit_or (bit_or a b) c) d))
IsMarked-kept vs len m a b c d h mask =
    let room = h.room in
    let whole : m ≡ marks (λ v. true) vs = mask ∙ ap mask_of h.same ∙ sym (marks-all vs) in
    rw (whole, h.first, h.second, h.third, h.fourth) record {
      room = room;
      is_ones = marks-and (has_bit 1) (has_bit 0) vs ∙ marks-like _ is_one vs (same_for_each (λ v. has_bit 1 v && has_bit 0 v) is_one refl);
      is_zeros = marks-and_not (has_bit 1) (has_bit 0) vs 64 room ∙ marks-like _ is_zero vs (same_for_each (λ v. has_bit 1 v && not (has_bit 0 v)) is_zero refl);
      is_unsets =
          rw (marks-or (has_bit 0) (has_bit 1) vs, marks-or _ (has_bit 2) vs, marks-or _ (has_bit 3) vs, marks-and_not _ _ vs 64 room)
          (marks-like _ is_unset vs (same_for_each (λ v. true && not (((has_bit 0 v || has_bit 1 v) || has_bit 2 v) || has_bit 3 v)) is_unset refl));
    }

-- two words without the others are planes, whatever they are
codes_of-two : (a b k : ℕ) → code_at a b 0 0 k < 9
codes_of-two a b k = omega (arith, bit_at-lt a k, bit_at-lt b k, bit_at-zero k)

pub IsPlanes-two : (len m a b : ℕ) → 1 ≤ len → len ≤ 64 → m ≡ mask_of len → IsPlanes len (bit_and m a) (bit_and m b) 0 0
IsPlanes-two len m a b some room mask =
    let pos : 0 < 2 ^ len = pow_pos len in record {
      some = some;
      room = room;
      codes = λ k lt. codes_of-two (bit_and m a) (bit_and m b) k;
      first = omega (arith, and_le_l m a, mask, pos);
      second = omega (arith, and_le_l m b, mask, pos);
      third = pos;
      fourth = pos;
    }

none_of : (f : Nine → Bool) (vs : List Nine) → ((v : Nine) → false ≡ f v) → 0 ≡ marks f vs
none_of f vs same = sym (marks-none vs) ∙ marks-like (λ v. false) f vs same

-- the planes of what the operators look at
pub IsKept-marked : (vs : List Nine) (len m a b c : ℕ) → IsMarked vs a b c → length vs ≡ len → 1 ≤ len → m ≡ mask_of len →
    IsKept (map strip vs) len (bit_and m (18446744073709551615 - bit_or b c)) (bit_and m (bit_or a b)) 0 0
IsKept-marked vs len m a b c h same some mask =
    let room = h.room in
    let whole : m ≡ marks (λ v. true) vs = mask ∙ ap mask_of (sym same) ∙ sym (marks-all vs) in
    let long = length-map vs strip in
    rw (whole, h.is_ones, h.is_zeros, h.is_unsets) record {
      same = sym same ∙ sym long;
      some = rw (long, same) some;
      room = rw long room;
      first =
          rw (marks-or is_zero is_unset vs, marks-and_not _ _ vs 64 room, marks-map (has_bit 0) strip vs)
          (marks-like _ _ vs (same_for_each (λ v. true && not (is_zero v || is_unset v)) (λ v. has_bit 0 (strip v)) refl));
      second =
          rw (marks-or is_one is_zero vs, marks-and _ _ vs, marks-map (has_bit 1) strip vs)
          (marks-like _ _ vs (same_for_each (λ v. true && (is_one v || is_zero v)) (λ v. has_bit 1 (strip v)) refl));
      third = rw (marks-map (has_bit 2) strip vs) (none_of (λ v. has_bit 2 (strip v)) vs (same_for_each (λ v. false) (λ v. has_bit 2 (strip v)) refl));
      fourth = rw (marks-map (has_bit 3) strip vs) (none_of (λ v. has_bit 3 (strip v)) vs (same_for_each (λ v. false) (λ v. has_bit 3 (strip v)) refl));
    }

-- what an operator gives is stripped
stripped_by : (v : Nine) → is_same (strip v) v ≡ true → strip v ≡ v
stripped_by v e = (is_same-Decides (strip v) v).0 e

not-stripped : (v : Nine) → strip (not_of v) ≡ not_of v
not-stripped v = stripped_by (not_of v) (each (λ w. is_same (strip (not_of w)) (not_of w)) refl v)

pairs_stripped : (h : Nine → Nine → Nine) → list_all (λ v. list_all (λ w. is_same (strip (h v w)) (h v w)) nines) nines ≡ true → (v w : Nine) → strip (h v w) ≡ h v w
pairs_stripped h table v w =
    stripped_by (h v w) (each (λ b. is_same (strip (h v b)) (h v b)) (each (λ a. list_all (λ b. is_same (strip (h a b)) (h a b)) nines) table v) w)

logic-stripped : (kind : Logic) (v w : Nine) → strip (logic_of kind v w) ≡ logic_of kind v w
logic-stripped And v w = pairs_stripped (logic_of And) refl v w
logic-stripped kind v w = pairs_stripped (logic_of kind) refl v w

pub map-strip-not : (vs : List Nine) → map strip (not_of_all vs) ≡ not_of_all vs
map-strip-not [] = refl
map-strip-not (v ∷ vs) = ap (λ w. w ∷ map strip (not_of_all vs)) (not-stripped v) ∙ ap (λ ws. not_of v ∷ ws) (map-strip-not vs)

pub map-strip-logic : (kind : Logic) (vs ws : List Nine) → map strip (logic_of_all kind vs ws) ≡ logic_of_all kind vs ws
map-strip-logic kind (v ∷ vs) (w ∷ ws) =
    ap (λ x. x ∷ map strip (logic_of_all kind vs ws)) (logic-stripped kind v w) ∙ ap (λ l. logic_of kind v w ∷ l) (map-strip-logic kind vs ws)
map-strip-logic kind _ _ = refl
