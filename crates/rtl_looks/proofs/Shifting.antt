-- Lists that are shifted or resized by their ends, and tables that grow.
use Rattle.std.proofs.Common.{◌≡◌, ℕ, zero, suc, ◌+◌, ◌-◌, ◌%◌, ◌<◌, ◌≤◌, min, max, ◌==◌, if◌then◌else◌, Bool, List, [], ◌∷◌, ◌++◌, length, take, drop, replicate, Option, Some, None, refl, sym, ap, ◌∙◌, subst, ◌⊎◌, inl, inr, arith, true, false, cond}
use Rattle.std.proofs.Math.ListN.{set}
use Rattle.std.specs.Prelude.{unwrap_or, SomeIff}
use Rattle.std.specs.List.{range_with_len}
use Rattle.std.proofs.lemmas.Bool.{cases_eq, cases_lt, eq-eqb, ne_eqb, lt-ltb, le-ltb}
use Rattle.std.specs.declared.cmp.Ordering.TheVariants.{Less, Equal, Greater}
use Rattle.std.specs.Ordering.{nat_cmp, is_lt, ord_min, ord_max}
use Rattle.std.proofs.lemmas.List.{drop-append-le, drop_all, take-append-le, drop-replicate, take-replicate, length-replicate, get_or-set_same, get_or-set_other, append-nil}
use Rattle.vhdl_values.specs.Shifts.{shifted_left, shifted_right, rotated_left, leftmost}
use Rattle.rtl_looks.specs.declared.hubs.Look.{Look}
use Rattle.rtl_looks.specs.Denoting.{look_at}

pub least : (a b : ℕ) → ord_min nat_cmp a b ≡ min a b
least a b = go (cases_lt b a)
  where
    same : (t : Bool) → cond (is_lt (cond t Equal Greater)) b a ≡ a
    same true = refl
    same false = refl

    go : (b < a) ⊎ (a ≤ b) → ord_min nat_cmp a b ≡ min a b
    go (inl l) = let e : b ≡ min a b = omega arith in ap (λ (t : Bool). cond (is_lt (cond t Less (cond (b == a) Equal Greater))) b a) (lt-ltb b a l) ∙ e
    go (inr l) = let e : a ≡ min a b = omega arith in ap (λ (t : Bool). cond (is_lt (cond t Less (cond (b == a) Equal Greater))) b a) (le-ltb b a l) ∙ (same (b == a) ∙ e)

pub greatest : (a b : ℕ) → ord_max nat_cmp a b ≡ max a b
greatest a b = go (cases_lt b a)
  where
    same : (t : Bool) → cond (is_lt (cond t Equal Greater)) a b ≡ b
    same true = refl
    same false = refl

    go : (b < a) ⊎ (a ≤ b) → ord_max nat_cmp a b ≡ max a b
    go (inl l) = let e : a ≡ max a b = omega arith in ap (λ (t : Bool). cond (is_lt (cond t Less (cond (b == a) Equal Greater))) a b) (lt-ltb b a l) ∙ e
    go (inr l) = let e : b ≡ max a b = omega arith in ap (λ (t : Bool). cond (is_lt (cond t Less (cond (b == a) Equal Greater))) a b) (le-ltb b a l) ∙ (same (b == a) ∙ e)

module _ {X : Type 0} where
  drop_over : (n : ℕ) (xs ys : List X) → length xs ≤ n → drop n (xs ++ ys) ≡ drop (n - length xs) ys
  drop_over n [] ys l = let e : n ≡ n - 0 = omega arith in ap (λ (m : ℕ). drop m ys) e
  drop_over zero (x ∷ xs) ys l = absurd (omega arith)
  drop_over (suc n) (x ∷ xs) ys l = let e : n - length xs ≡ suc n - suc (length xs) = omega arith in drop_over n xs ys (omega arith) ∙ ap (λ (m : ℕ). drop m ys) e

  take_over : (n : ℕ) (xs ys : List X) → length xs ≤ n → take n (xs ++ ys) ≡ xs ++ take (n - length xs) ys
  take_over n [] ys l = let e : n ≡ n - 0 = omega arith in ap (λ (m : ℕ). take m ys) e
  take_over zero (x ∷ xs) ys l = absurd (omega arith)
  take_over (suc n) (x ∷ xs) ys l =
      let e : n - length xs ≡ suc n - suc (length xs) = omega arith in
      ap (λ (zs : List X). x ∷ zs) (take_over n xs ys (omega arith) ∙ ap (λ (m : ℕ). xs ++ take m ys) e)

  -- by how many elements fall off
  pub left_by : (count gone : ℕ) (d : X) (vs : List X) → gone ≡ min count (length vs) → drop gone vs ++ replicate gone d ≡ shifted_left d count vs
  left_by count gone d vs is = go (cases_lt count (length vs))
    where
      go : (count < length vs) ⊎ (length vs ≤ count) → drop gone vs ++ replicate gone d ≡ drop count (vs ++ replicate count d)
      go (inl l) =
          let e : gone ≡ count = omega arith in
          ap (λ (m : ℕ). drop m vs ++ replicate m d) e ∙ sym (drop-append-le count vs (replicate count d) (omega arith))
      go (inr l) =
          let e : gone ≡ length vs = omega arith in
          let f : length vs ≡ count - (count - length vs) = omega arith in
          ap (λ (m : ℕ). drop m vs ++ replicate m d) e
          ∙ (ap (λ (zs : List X). zs ++ replicate (length vs) d) (drop_all (length vs) vs (omega arith))
          ∙ (ap (λ (m : ℕ). replicate m d) f
          ∙ sym (drop_over count vs (replicate count d) l ∙ drop-replicate (count - length vs) count d)))

  pub right_by : (count gone : ℕ) (d : X) (vs : List X) → gone ≡ min count (length vs) → replicate gone d ++ take (length vs - gone) vs ≡ shifted_right d count vs
  right_by count gone d vs is = go (cases_lt count (length vs))
    where
      go : (count < length vs) ⊎ (length vs ≤ count) → replicate gone d ++ take (length vs - gone) vs ≡ take (length vs) (replicate count d ++ vs)
      go (inl l) =
          let e : gone ≡ count = omega arith in
          let long = length-replicate count d in
          ap (λ (m : ℕ). replicate m d ++ take (length vs - m) vs) e
          ∙ (ap (λ (m : ℕ). replicate count d ++ take (length vs - m) vs) (sym long) ∙ sym (take_over (length vs) (replicate count d) vs (omega arith)))
      go (inr l) =
          let e : gone ≡ length vs = omega arith in
          let f : length vs - length vs ≡ 0 = omega arith in
          let long = length-replicate count d in
          ap (λ (m : ℕ). replicate m d ++ take (length vs - m) vs) e
          ∙ (ap (λ (m : ℕ). replicate (length vs) d ++ take m vs) f
          ∙ (append-nil (replicate (length vs) d)
          ∙ sym (take-append-le (length vs) (replicate count d) vs (omega arith) ∙ take-replicate (length vs) count d l)))

  -- by how many elements fall off and come in again, which is less than the length
  pub rotated_by : (count turned : ℕ) (vs : List X) → (0 < length vs → turned ≡ count % length vs) → drop turned vs ++ take turned vs ≡ rotated_left count vs
  rotated_by count turned [] is = nothing turned ∙ sym (nothing (count % 0))
    where
      nothing : (n : ℕ) → ◌≡◌ {A = List X} (drop n [] ++ take n []) []
      nothing zero = refl
      nothing (suc n) = refl
  rotated_by count turned (v ∷ vs) is = ap (λ (n : ℕ). drop n (v ∷ vs) ++ take n (v ∷ vs)) (is (omega arith))

-- a rest, and 0 where the divisor is 0
pub rest_is : (o : Option ℕ) (n d : ℕ) → SomeIff o (0 < d) (n % d) → 0 < d → unwrap_or o 0 ≡ n % d
rest_is (Some r) n d h some = h.1
rest_is None n d h some = absurd (h some)

-- the sign of looks
pub sign_is : (looks : List (Option Look)) → look_at looks 0 ≡ leftmost None looks
sign_is [] = refl
sign_is (x ∷ xs) = refl

-- ---- tables

pub look_push : (looks : List (Option Look)) (k : ℕ) → look_at (looks ++ None ∷ []) k ≡ look_at looks k
look_push [] zero = refl
look_push [] (suc k) = refl
look_push (x ∷ xs) zero = refl
look_push (x ∷ xs) (suc k) = look_push xs k

pub look_set : (looks : List (Option Look)) (number : ℕ) (look : Option Look) → number < length looks → (k : ℕ) → look_at (set looks number look) k ≡ (if number == k then look else look_at looks k)
look_set looks number look l k = go (cases_eq number k)
  where
    go : (number ≡ k) ⊎ (number ≡ k → ⊥) → look_at (set looks number look) k ≡ (if number == k then look else look_at looks k)
    go (inl is) =
        subst (λ (i : ℕ). look_at (set looks number look) i ≡ look) is (get_or-set_same looks number look None l)
        ∙ sym (ap (λ (b : Bool). if b then look else look_at looks k) (eq-eqb number k is))
    go (inr ne) =
        get_or-set_other looks number k look None (λ e. ne (sym e))
        ∙ sym (ap (λ (b : Bool). if b then look else look_at looks k) (ne_eqb number k ne))

-- ---- numbers in a run

pub range_more : (first len : ℕ) → range_with_len first (suc len) ≡ range_with_len first len ++ (first + len) ∷ []
range_more first zero = let e : first ≡ first + 0 = omega arith in ap (λ (n : ℕ). n ∷ []) e
range_more first (suc len) =
    let e : first + 1 + len ≡ first + suc len = omega arith in
    ap (λ (ns : List ℕ). first ∷ ns) (range_more (first + 1) len ∙ ap (λ (n : ℕ). range_with_len (first + 1) len ++ n ∷ []) e)
