-- Runs of values that are written.
use Rattle.std.proofs.Common.{◌≡◌, ℕ, suc, ◌+◌, ◌-◌, ◌<◌, ◌≤◌, List, [], ◌∷◌, ◌++◌, length, take, drop, get_or, Vec, refl, sym, ap, subst, ◌∙◌, arith, ◌⊎◌, inl, inr}
use Rattle.std.specs.Global.{Global}
use Rattle.std.specs.Vec.{with_items}
use Rattle.std.proofs.lemmas.Bool.{cases_eq}
use Rattle.std.proofs.lemmas.List.{get_or-append_right, get_or_append_left, get_or-drop, get_or-take, length-append, length-drop, length-take-le, with_items_is}
use borrow.Rule.Slice.PartMut.{put_mid}
use Rattle.rtl_net_groups.specs.Written.{IsWritten}

-- a part that other values are put in place of
pub is_written : (xs : List ℕ) (first n : ℕ) (ys : List ℕ) → length ys ≡ n → first + n ≤ length xs → IsWritten first ys xs (put_mid first n xs ys)
is_written xs first n ys many within =
    let front = take first xs in
    let post = drop n (drop first xs) in
    let long : length front ≡ first = length-take-le first xs (omega (arith, within)) in
    record {
      as_many = omega (arith, length-append front (ys ++ post), length-append ys post, long, length-drop n (drop first xs), length-drop first xs, many, within);
      written = λ k l.
          let at : first + k - first ≡ k = omega arith in
          get_or-append_right front (ys ++ post) first (first + k) 0 long (omega arith) ∙ ap (λ (q : ℕ). get_or (ys ++ post) q 0) at
          ∙ get_or_append_left ys post 0 k l;
      below = λ q l. get_or_append_left front (ys ++ post) 0 q (omega (arith, l, long)) ∙ get_or-take first xs q 0 l;
      behind = λ q l.
          let at : first + (n + (q - first - n)) ≡ q = omega (arith, l, many) in
          get_or-append_right front (ys ++ post) first q 0 long (omega (arith, l))
          ∙ get_or-append_right ys post n (q - first) 0 many (omega (arith, l, many))
          ∙ get_or-drop n (drop first xs) (q - first - n) 0 ∙ get_or-drop first xs (n + (q - first - n)) 0
          ∙ ap (λ (m : ℕ). get_or xs m 0) at;
    }

pub written_items : (old : Vec ℕ Global) (new : List ℕ) (first : ℕ) (values : List ℕ) → IsWritten first values old.items new → IsWritten first values old.items (with_items old new).items
written_items old new first values W =
    let many : length new ≡ old.len = omega (arith, W.as_many, old.ok.0) in
    subst (IsWritten first values old.items) (sym (with_items_is old new many)) W

-- values that differ, differ somewhere
pub first_difference : (xs ys : List ℕ) → length xs ≡ length ys → (xs ≡ ys → ⊥) → (k : ℕ) × (k < length xs) × (get_or xs k 0 ≡ get_or ys k 0 → ⊥)
first_difference [] [] many differ = absurd (differ refl)
first_difference [] (y ∷ ys) many differ = absurd (omega arith)
first_difference (x ∷ xs) [] many differ = absurd (omega arith)
first_difference (x ∷ xs) (y ∷ ys) many differ = by (cases_eq x y) (first_difference xs ys (omega arith))
  where
    by : (x ≡ y) ⊎ (x ≡ y → ⊥) → ((xs ≡ ys → ⊥) → (k : ℕ) × (k < length xs) × (get_or xs k 0 ≡ get_or ys k 0 → ⊥))
        → (k : ℕ) × (k < length (x ∷ xs)) × (get_or (x ∷ xs) k 0 ≡ get_or (y ∷ ys) k 0 → ⊥)
    by (inr n) rest = (0, omega arith, n)
    by (inl e) rest =
        let (k, l, other) = rest (λ same. differ (λ i. e i ∷ same i)) in
        (suc k, omega arith, other)
