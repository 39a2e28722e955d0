-- A sort that leaves those of one time in the order that they have gives what placing one after another gives.
use Rattle.std.proofs.Common.{◌≡◌, ℕ, suc, ◌<◌, ◌≤◌, Bool, true, false, nat_lt, List, [], ◌∷◌, ◌++◌, length, map, get_or, filter, refl, sym, ap, ◌∙◌, arith, append_assoc}
use Rattle.std.specs.Prelude.{if◌then◌else◌, not, ◌&&◌, cond}
use Rattle.std.specs.Cmp.{ranks}
use Rattle.std.specs.Ordering.{is_lt, nat_cmp, MatchOrdering}
use Rattle.std.specs.declared.cmp.Ordering.{Ordering}
use Rattle.std.specs.declared.cmp.Ordering.TheVariants.{Less, Equal, Greater}
use Rattle.std.specs.List.Sorted.{IsNonDecreasingBy, IsStableByKey}
use Rattle.std.proofs.lemmas.Bool.Decides.{nat_tests}
use Rattle.std.proofs.lemmas.List.{append-nil, map-append}
use Rattle.rtl_expect.specs.declared.expectation.Expectation.{Expectation as KeptExpectation}
use Rattle.rtl_expect.specs.Expected.{Expectation}
use Rattle.rtl_expect.specs.Lines.{placed}
use Rattle.rtl_expect.specs.Reading.{all_placed}
use Rattle.rtl_expect.specs.Watching.{Each, AreInOrder, expectation_view}
use Rattle.rtl_expect.proofs.Order.{each_map, placed_in_order}

-- ---- of one time

-- neither is before the other
abbrev pub is_at : ℕ → Expectation → Bool
is_at time e = not (is_lt (nat_cmp time e.time)) && not (is_lt (nat_cmp e.time time))

abbrev pub at_time : ℕ → List Expectation → List Expectation
at_time time es = filter (is_at time) es

is_less : (a b : ℕ) → is_lt (nat_cmp a b) ≡ nat_lt a b
is_less a b = by (nat_cmp a b) (ranks a b)
  where
    by : (o : Ordering) → MatchOrdering o (a < b) (a ≡ b) (b < a) → is_lt o ≡ nat_lt a b
    by Less h = grind (arith, nat_tests, h)
    by Equal h = grind (arith, nat_tests, h)
    by Greater h = grind (arith, nat_tests, h)

by_tests : (a b : ℕ) → not (is_lt (nat_cmp a b)) && not (is_lt (nat_cmp b a)) ≡ not (nat_lt a b) && not (nat_lt b a)
by_tests a b = ap (λ (x : Bool). not x && not (is_lt (nat_cmp b a))) (is_less a b) ∙ ap (λ (y : Bool). not (nat_lt a b) && not y) (is_less b a)

own_time : (time : ℕ) (e : Expectation) → time ≡ e.time → is_at time e ≡ true
own_time time e same = by_tests time e.time ∙ grind (arith, nat_tests, same)

later_time : (time : ℕ) (e : Expectation) → time < e.time → is_at time e ≡ false
later_time time e less = by_tests time e.time ∙ grind (arith, nat_tests, less)

same_time : (time : ℕ) (e : Expectation) → is_at time e ≡ true → time ≡ e.time
same_time time e at = let is = sym (by_tests time e.time) ∙ at in grind (arith, nat_tests, is)

none_at : (time : ℕ) (es : List Expectation) → Each (λ e. time < e.time) es → at_time time es ≡ []
none_at time [] later = refl
none_at time (e ∷ es) later =
    ap (λ (b : Bool). cond b (e ∷ at_time time es) (at_time time es)) (later_time time e later.0) ∙ none_at time es later.1

first_at : (time : ℕ) (e : Expectation) (es : List Expectation) → time ≡ e.time → at_time time (e ∷ es) ≡ e ∷ at_time time es
first_at time e es same = ap (λ (b : Bool). cond b (e ∷ at_time time es) (at_time time es)) (own_time time e same)

-- ---- placing leaves the order of those of one time

module _ (time : ℕ) (e : Expectation) where
  placed_at : (es : List Expectation) → AreInOrder es → at_time time (placed e es) ≡ at_time time es ++ at_time time (e ∷ [])
  placed_at [] order = refl
  placed_at (x ∷ xs) order = by (nat_lt e.time x.time) refl (placed_at xs order.1)
    where
      one : List Expectation
      one = at_time time (e ∷ [])

      kept : (b : Bool) (us vs : List Expectation) → us ≡ vs ++ at_time time (e ∷ []) → cond b (x ∷ us) us ≡ cond b (x ∷ vs) vs ++ at_time time (e ∷ [])
      kept true us vs is = ap (λ (zs : List Expectation). x ∷ zs) is
      kept false us vs is = is

      last : (b : Bool) (us : List Expectation) → (b ≡ true → us ≡ []) → cond b (e ∷ us) us ≡ us ++ cond b (e ∷ []) []
      last true us none = ap (λ (zs : List Expectation). e ∷ zs) (none refl) ∙ ap (λ (zs : List Expectation). zs ++ e ∷ []) (sym (none refl))
      last false us none = sym (append-nil us)

      by : (b : Bool) → nat_lt e.time x.time ≡ b → at_time time (placed e xs) ≡ at_time time xs ++ at_time time (e ∷ [])
          → at_time time (if b then e ∷ x ∷ xs else x ∷ placed e xs) ≡ at_time time (x ∷ xs) ++ at_time time (e ∷ [])
      by true is more =
          last (is_at time e) (at_time time (x ∷ xs))
          (λ at.
          let same = same_time time e at in
          let less : time < x.time = grind (arith, nat_tests, is, same) in
          none_at time (x ∷ xs) (less, each_map (λ y. x.time ≤ y.time) (λ y. time < y.time) (λ y from. omega (arith, from, less)) xs order.0))
      by false is more = kept (is_at time x) (at_time time (placed e xs)) (at_time time xs) more

all_in_order : (so_far es : List Expectation) → AreInOrder so_far → AreInOrder (all_placed so_far es)
all_in_order so_far [] order = order
all_in_order so_far (e ∷ es) order = all_in_order (placed e so_far) es (placed_in_order e so_far order)

all_at : (time : ℕ) (so_far es : List Expectation) → AreInOrder so_far → at_time time (all_placed so_far es) ≡ at_time time so_far ++ at_time time es
all_at time so_far [] order = sym (append-nil (at_time time so_far))
all_at time so_far (e ∷ es) order =
    all_at time (placed e so_far) es (placed_in_order e so_far order)
    ∙ ap (λ (xs : List Expectation). xs ++ at_time time es) (placed_at time e so_far order)
    ∙ append_assoc (at_time time so_far) (at_time time (e ∷ [])) (at_time time es)
    ∙ ap (λ (xs : List Expectation). at_time time so_far ++ xs) (joined (is_at time e))
  where
    joined : (b : Bool) → cond b (e ∷ []) [] ++ at_time time es ≡ cond b (e ∷ at_time time es) (at_time time es)
    joined true = refl
    joined false = refl

one_more_placed : (so_far es : List Expectation) (e : Expectation) → all_placed so_far (es ++ e ∷ []) ≡ placed e (all_placed so_far es)
one_more_placed so_far [] e = refl
one_more_placed so_far (x ∷ xs) e = one_more_placed (placed x so_far) xs e

-- ---- an order of time, with those of each time in one order, is one order

some_first : (e : Expectation) (xs es : List Expectation) → xs ≡ [] → xs ≡ e ∷ es → ⊥
some_first e xs es none some = cc

none_before : (e : Expectation) (es xs : List Expectation) → Each (λ x. e.time < x.time) xs → at_time e.time xs ≡ at_time e.time (e ∷ es) → ⊥
none_before e es xs later same = some_first e (at_time e.time xs) (at_time e.time es) (none_at e.time xs later) (same ∙ first_at e.time e es refl)

same_head : (x y : Expectation) (xs ys us vs : List Expectation) → us ≡ x ∷ xs → vs ≡ y ∷ ys → us ≡ vs → x ≡ y
same_head x y xs ys us vs u v same = cc

same_rest : (b : Bool) (x : Expectation) (xs ys : List Expectation) → cond b (x ∷ xs) xs ≡ cond b (x ∷ ys) ys → xs ≡ ys
same_rest true x xs ys same = cc
same_rest false x xs ys same = same

all_later : (time : ℕ) (x : Expectation) (xs : List Expectation) → time < x.time → Each (λ y. x.time ≤ y.time) xs → Each (λ y. time < y.time) (x ∷ xs)
all_later time x xs less from = (less, each_map (λ y. x.time ≤ y.time) (λ y. time < y.time) (λ y more. omega (arith, less, more)) xs from)

one_order : (xs ys : List Expectation) → AreInOrder xs → AreInOrder ys → ((time : ℕ) → at_time time xs ≡ at_time time ys) → xs ≡ ys
one_order [] [] up up' same = refl
one_order [] (y ∷ ys) up up' same = absurd (none_before y ys [] tt (same y.time))
one_order (x ∷ xs) [] up up' same = absurd (none_before x xs [] tt (sym (same x.time)))
one_order (x ∷ xs) (y ∷ ys) up up' same = by (nat_lt x.time y.time) refl (nat_lt y.time x.time) refl (λ rests. one_order xs ys up.1 up'.1 rests)
  where
    by : (b : Bool) → nat_lt x.time y.time ≡ b → (c : Bool) → nat_lt y.time x.time ≡ c → (((time : ℕ) → at_time time xs ≡ at_time time ys) → xs ≡ ys) → x ∷ xs ≡ y ∷ ys
    by true is c is' more =
        let less : x.time < y.time = grind (arith, nat_tests, is) in
        absurd (none_before x xs (y ∷ ys) (all_later x.time y ys less up'.0) (sym (same x.time)))
    by false is true is' more =
        let less : y.time < x.time = grind (arith, nat_tests, is') in
        absurd (none_before y ys (x ∷ xs) (all_later y.time x xs less up.0) (same y.time))
    by false is false is' more =
        let times : x.time ≡ y.time = grind (arith, nat_tests, is, is') in
        let first : x ≡ y = same_head x y (at_time x.time xs) (at_time x.time ys) _ _ (first_at x.time x xs refl) (first_at x.time y ys times) (same x.time) in
        let rests : xs ≡ ys = more
        (λ time. same_rest (is_at time x) x (at_time time xs) (at_time time ys)
        (same time ∙ ap (λ (z : Expectation). cond (is_at time z) (z ∷ at_time time ys) (at_time time ys)) (sym first))) in
        ap (λ (z : Expectation). z ∷ xs) first ∙ ap (λ (zs : List Expectation). y ∷ zs) rests

-- ---- in a vector

pub one_more_kept : (list new : List KeptExpectation) (k : KeptExpectation) → new ≡ list ++ k ∷ []
    → all_placed [] (map expectation_view new) ≡ placed (expectation_view k) (all_placed [] (map expectation_view list))
one_more_kept list new k is =
    ap (λ (xs : List KeptExpectation). all_placed [] (map expectation_view xs)) is
    ∙ ap (all_placed []) (map-append expectation_view list (k ∷ []))
    ∙ one_more_placed [] (map expectation_view list) (expectation_view k)

view_at : (time : ℕ) (list : List KeptExpectation) → map expectation_view (filter (λ k. is_at time (expectation_view k)) list) ≡ at_time time (map expectation_view list)
view_at time [] = refl
view_at time (k ∷ ks) = by (is_at time (expectation_view k)) (filter (λ x. is_at time (expectation_view x)) ks) (at_time time (map expectation_view ks)) (view_at time ks)
  where
    by : (b : Bool) (us : List KeptExpectation) (vs : List Expectation) → map expectation_view us ≡ vs → map expectation_view (cond b (k ∷ us) us) ≡ cond b (expectation_view k ∷ vs) vs
    by true us vs is = ap (λ (zs : List Expectation). expectation_view k ∷ zs) is
    by false us vs is = is

each_view : (time : ℕ) (list : List KeptExpectation) → ((i : ℕ) (d : KeptExpectation) → i < length list → time ≤ (get_or list i d).time) → Each (λ e. time ≤ e.time) (map expectation_view list)
each_view time [] from = tt
each_view time (k ∷ ks) from = (from 0 k (omega arith), each_view time ks (λ i d there. from (suc i) d (omega arith)))

pub in_order_sorted : (list : List KeptExpectation) → IsNonDecreasingBy (λ k. k.time) list → AreInOrder (map expectation_view list)
in_order_sorted [] up = tt
in_order_sorted (k ∷ ks) up =
    (each_view k.time ks (λ i d there. up 0 (suc i) d (omega arith) (omega arith)), in_order_sorted ks (λ i j d le there. up (suc i) (suc j) d (omega arith) (omega arith)))

-- an expectation of each time is had from the first one of the list
pub sorted_are_placed : (old new : List KeptExpectation) → length new ≡ length old → IsNonDecreasingBy (λ k. k.time) new → IsStableByKey (λ k. k.time) nat_cmp old new
    → map expectation_view new ≡ all_placed [] (map expectation_view old)
sorted_are_placed [] [] long up stable = refl
sorted_are_placed [] (k ∷ ks) long up stable = absurd (omega arith)
sorted_are_placed (k ∷ ks) new long up stable =
    let es = map expectation_view (k ∷ ks) in
    one_order (map expectation_view new) (all_placed [] es) (in_order_sorted new up) (all_in_order [] es tt)
    (λ time. sym (view_at time new) ∙ ap (map expectation_view) (stable (record k { time = time })) ∙ view_at time (k ∷ ks) ∙ sym (all_at time [] es tt))
