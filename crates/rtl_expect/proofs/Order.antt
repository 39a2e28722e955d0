-- Expectations in order of time.
use Rattle.std.proofs.Common.{◌≡◌, ℕ, zero, suc, ◌<◌, ◌≤◌, Bool, true, false, nat_lt, List, [], ◌∷◌, ◌++◌, drop, refl, arith}
use Rattle.std.specs.Prelude.{if◌then◌else◌}
use Rattle.std.proofs.lemmas.Bool.Decides.{nat_tests}
use Rattle.rtl_expect.specs.Expected.{Expectation}
use Rattle.rtl_expect.specs.Lines.{placed}
use Rattle.rtl_expect.specs.Watching.{Each, AreInOrder}

-- ---- each of a list

pub each_map : (P Q : Expectation → Type 0) → ((e : Expectation) → P e → Q e) → (es : List Expectation) → Each P es → Each Q es
each_map P Q go [] h = tt
each_map P Q go (e ∷ es) h = (go e h.0, each_map P Q go es h.1)

pub each_both : (P Q R : Expectation → Type 0) → ((e : Expectation) → P e → Q e → R e) → (es : List Expectation) → Each P es → Each Q es → Each R es
each_both P Q R go [] h k = tt
each_both P Q R go (e ∷ es) h k = (go e h.0 k.0, each_both P Q R go es h.1 k.1)

pub each_append : (P : Expectation → Type 0) (xs ys : List Expectation) → Each P xs → Each P ys → Each P (xs ++ ys)
each_append P [] ys h k = k
each_append P (x ∷ xs) ys h k = (h.0, each_append P xs ys h.1 k)

pub each_front : (P : Expectation → Type 0) (xs ys : List Expectation) → Each P (xs ++ ys) → Each P xs
each_front P [] ys h = tt
each_front P (x ∷ xs) ys h = (h.0, each_front P xs ys h.1)

pub each_back : (P : Expectation → Type 0) (xs ys : List Expectation) → Each P (xs ++ ys) → Each P ys
each_back P [] ys h = h
each_back P (x ∷ xs) ys h = each_back P xs ys h.1

-- ---- in order

pub in_order_drop : (n : ℕ) (es : List Expectation) → AreInOrder es → AreInOrder (drop n es)
in_order_drop zero es h = h
in_order_drop (suc n) [] h = tt
in_order_drop (suc n) (e ∷ es) h = in_order_drop n es h.1

abbrev pub AreFrom : (time : ℕ) → List Expectation → Type 0
AreFrom time es = Each (λ x. time ≤ x.time) es

placed_from : (time : ℕ) (e : Expectation) (es : List Expectation) → time ≤ e.time → AreFrom time es → AreFrom time (placed e es)
placed_from time e [] first h = (first, tt)
placed_from time e (x ∷ xs) first h = by (nat_lt e.time x.time) (placed_from time e xs first h.1)
  where
    by : (b : Bool) → AreFrom time (placed e xs) → AreFrom time (if b then e ∷ x ∷ xs else x ∷ placed e xs)
    by true more = (first, h)
    by false more = (h.0, more)

pub placed_in_order : (e : Expectation) (es : List Expectation) → AreInOrder es → AreInOrder (placed e es)
placed_in_order e [] h = (tt, tt)
placed_in_order e (x ∷ xs) h = by (nat_lt e.time x.time) refl (placed_in_order e xs h.1)
  where
    by : (b : Bool) → nat_lt e.time x.time ≡ b → AreInOrder (placed e xs) → AreInOrder (if b then e ∷ x ∷ xs else x ∷ placed e xs)
    by true is more =
        let less : e.time < x.time = grind (arith, nat_tests) in
        ((omega (arith, less), each_map (λ y. x.time ≤ y.time) (λ y. e.time ≤ y.time) (λ y from. omega (arith, less, from)) xs h.0), h)
    by false is more = let least : x.time ≤ e.time = grind (arith, nat_tests) in (placed_from x.time e xs least h.0, more)
