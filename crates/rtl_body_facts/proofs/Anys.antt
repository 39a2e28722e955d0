-- Searches of a list, one element at a time.
use Rattle.std.proofs.Common.{◌≡◌, ℕ, zero, suc, ◌==◌, nat_lt, nat_le, ◌⊎◌, inl, inr, arith, ◌+◌, ◌<◌, ◌≤◌, Bool, true, false, ◌&&◌, ◌||◌, List, length, get_or, drop, refl, sym, ap, ◌∙◌}
use Rattle.std.specs.List.{list_any, list_all, range_with_len}
use Rattle.std.proofs.lemmas.Bool.{cases_Bool, eqb-true, eq-eqb, lt-ltb, le-ltb, lt-leb}
use Rattle.std.proofs.lemmas.List.{at_drop_more, at_drop_all}

pub or_assoc : (a b c : Bool) → ((a || b) || c) ≡ (a || (b || c))
or_assoc true b c = refl
or_assoc false b c = refl

pub or_none : (a : Bool) → a ≡ (a || false)
or_none true = refl
or_none false = refl

pub and_assoc : (a b c : Bool) → ((a && b) && c) ≡ (a && (b && c))
and_assoc true b c = refl
and_assoc false b c = refl

pub and_not : (a : Bool) → false ≡ (a && false)
and_not true = refl
and_not false = refl

module _ {X : Type 0} (f : X → Bool) (xs : List X) (i : ℕ) where
  any_at : (x : X) → i < length xs → x ≡ get_or xs i x → list_any f (drop i xs) ≡ (f x || list_any f (drop (i + 1) xs))
  any_at x l e = at_drop_more (list_any f) xs i x l ∙ ap (λ (y : X). f y || list_any f (drop (i + 1) xs)) (sym e)

  pub any_found : (x : X) → i < length xs → x ≡ get_or xs i x → list_any f (drop i xs) ≡ list_any f xs → f x ≡ true → true ≡ list_any f xs
  any_found x l e inv t = sym (ap (λ (b : Bool). b || list_any f (drop (i + 1) xs)) t) ∙ (sym (any_at x l e) ∙ inv)

  pub any_next : (x : X) → i < length xs → x ≡ get_or xs i x → list_any f (drop i xs) ≡ list_any f xs → f x ≡ false → list_any f (drop (i + 1) xs) ≡ list_any f xs
  any_next x l e inv t = sym (ap (λ (b : Bool). b || list_any f (drop (i + 1) xs)) t) ∙ (sym (any_at x l e) ∙ inv)

  pub any_end : length xs ≤ i → list_any f (drop i xs) ≡ list_any f xs → false ≡ list_any f xs
  any_end l inv = sym (at_drop_all (list_any f) xs i l) ∙ inv

module _ {X : Type 0} (f : X → Bool) (xs : List X) (i : ℕ) where
  all_at : (x : X) → i < length xs → x ≡ get_or xs i x → list_all f (drop i xs) ≡ (f x && list_all f (drop (i + 1) xs))
  all_at x l e = at_drop_more (list_all f) xs i x l ∙ ap (λ (y : X). f y && list_all f (drop (i + 1) xs)) (sym e)

  pub all_lost : (x : X) → i < length xs → x ≡ get_or xs i x → list_all f (drop i xs) ≡ list_all f xs → f x ≡ false → false ≡ list_all f xs
  all_lost x l e inv t = sym (ap (λ (b : Bool). b && list_all f (drop (i + 1) xs)) t) ∙ (sym (all_at x l e) ∙ inv)

  pub all_next : (x : X) → i < length xs → x ≡ get_or xs i x → list_all f (drop i xs) ≡ list_all f xs → f x ≡ true → list_all f (drop (i + 1) xs) ≡ list_all f xs
  all_next x l e inv t = sym (ap (λ (b : Bool). b && list_all f (drop (i + 1) xs)) t) ∙ (sym (all_at x l e) ∙ inv)

  pub all_end : length xs ≤ i → list_all f (drop i xs) ≡ list_all f xs → true ≡ list_all f xs
  all_end l inv = sym (at_drop_all (list_all f) xs i l) ∙ inv

-- ---- a whole of two parts, of which the first may decide

pub first_true : (r w a b : Bool) → r ≡ a → r ≡ true → w ≡ (a || b) → r ≡ w
first_true r w a b e t h = t ∙ sym (h ∙ ap (λ (x : Bool). x || b) (sym e ∙ t))

pub then_rest : (s r w a b : Bool) → s ≡ a → s ≡ false → w ≡ (a || b) → r ≡ b → r ≡ w
then_rest s r w a b e t h k = k ∙ sym (h ∙ ap (λ (x : Bool). x || b) (sym e ∙ t))

pub first_false : (r w a b : Bool) → r ≡ a → r ≡ false → w ≡ (a && b) → r ≡ w
first_false r w a b e t h = t ∙ sym (h ∙ ap (λ (x : Bool). x && b) (sym e ∙ t))

pub and_rest : (s r w a b : Bool) → s ≡ a → s ≡ true → w ≡ (a && b) → r ≡ b → r ≡ w
and_rest s r w a b e t h k = k ∙ sym (h ∙ ap (λ (x : Bool). x && b) (sym e ∙ t))

-- ---- numbers from one on

any_above : (n a k : ℕ) → n < a → list_any (λ (d : ℕ). d == n) (range_with_len a k) ≡ false
any_above n a zero l = refl
any_above n a (suc k) l = go (any_above n (a + 1) k (omega arith)) (cases_Bool (a == n))
  where
    go : list_any (λ (d : ℕ). d == n) (range_with_len (a + 1) k) ≡ false → ((a == n) ≡ true) ⊎ ((a == n) ≡ false) → ((a == n) || list_any (λ (d : ℕ). d == n) (range_with_len (a + 1) k)) ≡ false
    go h (inl t) = absurd (let e = eqb-true a n t in omega arith)
    go h (inr f) = ap (λ (b : Bool). b || list_any (λ (d : ℕ). d == n) (range_with_len (a + 1) k)) f ∙ h

pub none_above : (n a k : ℕ) → n < a → nat_le a n ≡ list_any (λ (d : ℕ). d == n) (range_with_len a k)
none_above n a k l = lt-leb a n l ∙ sym (any_above n a k l)

pub any_within : (n a k : ℕ) → a ≤ n → nat_lt n (a + k) ≡ list_any (λ (d : ℕ). d == n) (range_with_len a k)
any_within n a zero l = le-ltb n (a + 0) (omega arith)
any_within n a (suc k) l = go (λ m. any_within n (a + 1) k m) (cases_Bool (a == n))
  where
    go : (a + 1 ≤ n → nat_lt n ((a + 1) + k) ≡ list_any (λ (d : ℕ). d == n) (range_with_len (a + 1) k)) → ((a == n) ≡ true) ⊎ ((a == n) ≡ false) → nat_lt n (a + suc k) ≡ ((a == n) || list_any (λ (d : ℕ). d == n) (range_with_len (a + 1) k))
    go h (inl t) = let e = eqb-true a n t in lt-ltb n (a + suc k) (omega arith) ∙ sym (ap (λ (b : Bool). b || list_any (λ (d : ℕ). d == n) (range_with_len (a + 1) k)) t)
    go h (inr f) =
        let m : a + 1 ≤ n = after f in
        ap (nat_lt n) (shift a k) ∙ (h m ∙ sym (ap (λ (b : Bool). b || list_any (λ (d : ℕ). d == n) (range_with_len (a + 1) k)) f))
      where
        shift : (a k : ℕ) → a + suc k ≡ (a + 1) + k
        shift a k = omega arith

        differ : (a ≡ n) → (a == n) ≡ false → ⊥
        differ e f = let t = eq-eqb a n e in let k : true ≡ false = sym t ∙ f in cc

        after : (a == n) ≡ false → a + 1 ≤ n
        after f = let d : a ≡ n → ⊥ = (λ e. differ e f) in omega (arith, d)
