-- Blanks, byte by byte.
use Rattle.std.proofs.Common.{◌≡◌, ℕ, zero, suc, ◌+◌, ◌<◌, ◌≤◌, ◌&&◌, Bool, true, false, nat_le, nat_lt, if◌then◌else◌, min, List, [], ◌∷◌, length, slice_index_or, slice_set, Option, Some, None, refl, ap, ◌∙◌, arith}
use Rattle.std.proofs.lemmas.Bool.Decides.{nat_tests}
use Rattle.vhdl_lexer.specs.Bytes.{ends_line}
use Rattle.vhdl_lexer.specs.Extents.{blank, blanked, blanked_at, blanked_from, is_in, statement_at, taken_from}
use Rattle.vhdl_lexer.specs.declared.extent.Extent.{Extent}
use Rattle.vhdl_lexer.specs.declared.token.Token.{Token}
use Rattle.vhdl_names_further.proofs.Walks.{statement_first}
use Rattle.vhdl_names_further.specs.Once.{without_begun, without_this}

-- ---- what is blank stays so

blank_twice : (byte : ℕ) → blank (blank byte) ≡ blank byte
blank_twice byte = by_test (ends_line byte) refl
  where
    by_test : (b : Bool) → ends_line byte ≡ b → blank (blank byte) ≡ blank byte
    by_test true e = rw e (rw e refl)
    by_test false e = rw e refl

at_twice : (extent : Extent) (at byte : ℕ) → blanked_at extent at (blanked_at extent at byte) ≡ blanked_at extent at byte
at_twice extent at byte = by_test (is_in extent at)
  where
    by_test : (b : Bool) → (if b then blank (if b then blank byte else byte) else (if b then blank byte else byte)) ≡ (if b then blank byte else byte)
    by_test true = blank_twice byte
    by_test false = refl

from_twice : (extent : Extent) (at : ℕ) (left : List ℕ) → blanked_from extent at (blanked_from extent at left) ≡ blanked_from extent at left
from_twice extent at [] = refl
from_twice extent at (byte ∷ left) = rw (at_twice extent at byte, from_twice extent (at + 1) left) refl

pub begun_twice : (here : List Token) (left : List ℕ) → without_begun here (without_begun here left) ≡ without_begun here left
unfolding blanked
begun_twice here left = by_extent (taken_from here)
  where
    by_extent : (begun : Option Extent) → without_this begun (without_this begun left) ≡ without_this begun left
    by_extent None = refl
    by_extent (Some extent) = from_twice extent 0 left

-- ---- what is to be blank still

abbrev part : (start end : ℕ) → Extent
part start end = record { start = start; end = end }

le_true : (n k : ℕ) → n ≤ k → nat_le n k ≡ true
le_true n k least = grind (arith, nat_tests)

le_false : (n k : ℕ) → k < n → nat_le n k ≡ false
le_false n k less = grind (arith, nat_tests)

le_is : (n k : ℕ) → nat_le n k ≡ true → n ≤ k
le_is n k e = grind (arith, nat_tests)

lt_true : (k n : ℕ) → k < n → nat_lt k n ≡ true
lt_true k n less = grind (arith, nat_tests)

lt_false : (k n : ℕ) → n ≤ k → nat_lt k n ≡ false
lt_false k n least = grind (arith, nat_tests)

-- behind where an extent starts
blanked_later : (a b e i : ℕ) (left : List ℕ) → a ≤ i → b ≤ i → blanked_from (part a e) i left ≡ blanked_from (part b e) i left
blanked_later a b e i [] one other = refl
blanked_later a b e i (byte ∷ left) one other =
    rw (le_true a i one, le_true b i other, blanked_later a b e (i + 1) left (omega (arith, one)) (omega (arith, other))) refl

-- one byte less
blanked_less : (a e i k : ℕ) (left : List ℕ) → a ≡ i + k → a < e → k < length left
    → blanked_from (part (a + 1) e) i (slice_set left k (blank (slice_index_or left k 0))) ≡ blanked_from (part a e) i left
blanked_less a e i k [] sum less within = absurd (omega arith)
blanked_less a e i zero (byte ∷ left) sum less within =
    rw (le_false (a + 1) i (omega (arith, sum)), le_true a i (omega (arith, sum)), lt_true i e (omega (arith, sum, less)))
    (ap (λ (bytes : List ℕ). blank byte ∷ bytes) (blanked_later (a + 1) a e (i + 1) left (omega (arith, sum)) (omega (arith, sum))))
blanked_less a e i (suc k) (byte ∷ left) sum less within =
    rw (le_false (a + 1) i (omega (arith, sum)), le_false a i (omega (arith, sum)))
    (ap (λ (bytes : List ℕ). byte ∷ bytes) (blanked_less a e (i + 1) k left (omega (arith, sum)) less (omega (arith, within))))

pub blanked_more : (e a byte : ℕ) (left : List ℕ) → a < e → a < length left → byte ≡ blank (slice_index_or left a 0)
    → blanked_from (part (a + 1) e) 0 (slice_set left a byte) ≡ blanked_from (part a e) 0 left
blanked_more e a byte left less within is =
    ap (λ (b : ℕ). blanked_from (part (a + 1) e) 0 (slice_set left a b)) is ∙ blanked_less a e 0 a left (omega arith) less within

-- nothing
pub blanked_none : (a e i : ℕ) (left : List ℕ) → min (i + length left) e ≤ a → blanked_from (part a e) i left ≡ left
blanked_none a e i [] over = refl
blanked_none a e i (byte ∷ left) over =
    ap (λ (b : Bool). (if b then blank byte else byte) ∷ blanked_from (part a e) (i + 1) left) (by_test (nat_le a i) refl)
    ∙ ap (λ (bytes : List ℕ). byte ∷ bytes) (blanked_none a e (i + 1) left (omega (arith, over)))
  where
    by_test : (b : Bool) → nat_le a i ≡ b → (b && nat_lt i e) ≡ false
    by_test true h = lt_false i e (omega (arith, over, le_is a i h))
    by_test false h = refl

-- the whole
pub blanked_whole : (extent : Extent) (left : List ℕ) → blanked_from (part extent.start extent.end) 0 left ≡ blanked extent left
unfolding blanked
blanked_whole extent left = refl

-- ---- what is begun

pub begun_some : (here : List Token) (left : List ℕ) (extent : Extent) → Some extent ≡ statement_at here 0 → blanked extent left ≡ without_begun here left
begun_some here left extent is = ap (λ (begun : Option Extent). without_this begun left) (is ∙ statement_first here)

pub begun_none : (here : List Token) (left : List ℕ) → None ≡ statement_at here 0 → left ≡ without_begun here left
begun_none here left is = ap (λ (begun : Option Extent). without_this begun left) (is ∙ statement_first here)
