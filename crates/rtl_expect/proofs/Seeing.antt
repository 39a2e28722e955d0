-- What has been compared, and what of it doesn't hold.
use Rattle.std.proofs.Common.{◌≡◌, ℕ, zero, suc, ◌+◌, ◌-◌, ◌<◌, ◌≤◌, Bool, true, false, nat_lt, List, [], ◌∷◌, ◌++◌, length, map, take, drop, Option, Some, None, refl, sym, ap, subst, ◌∙◌, append_assoc, append-nil, arith}
use Rattle.std.specs.Prelude.{◌≢◌, if◌then◌else◌, flat_map, slice_get, option_to_list, min, Result, Ok, Err, IsOk, is_ok, Vec, vec_capacity, vec_len}
use Rattle.std.proofs.lemmas.Bool.Decides.{nat_tests}
use Rattle.std.proofs.lemmas.List.{drop_all, length-append, length-map, length-take, map-append, take_all, take-append-le}
use Rattle.std.proofs.lemmas.Grind.{flat_map-append}
use Rattle.byte_streams.specs.Stands.{Stand}
use Rattle.std.specs.Global.{Global}
use Rattle.rtl_expect.specs.declared.difference.Difference.{Difference as KeptDifference}
use Rattle.rtl_expect.specs.declared.difference.FirstDifferences.{FirstDifferences}
use Rattle.rtl_expect.specs.declared.watching.Expectations.{Expectations}
use Rattle.rtl_expect.specs.Expected.{Expectation}
use Rattle.rtl_expect.specs.Differences.{Difference, standing_at, difference_in, difference_at, differences, most_told}
use Rattle.rtl_expect.specs.Watching.{Each, AreFirst, AreInOrder, AreTold, HasSeen, IsToldOf, Keeps, expected_by, difference_view, expectation_view, told_view, is_before, next_is_before}
use Rattle.rtl_expect.proofs.Order.{each_map, each_both, each_append, each_front, each_back, in_order_drop}

-- ---- what stands

-- of these stands and one more behind them
module _ (x : Stand) (t : ℕ) where
  pub stands_still : (stands : List Stand) → standing_at stands t ≢ None → standing_at (stands ++ x ∷ []) t ≡ standing_at stands t
  stands_still [] some = absurd (some refl)
  stands_still (s ∷ ss) some = by (nat_lt t s.until) some (λ more. stands_still ss more)
    where
      by : (b : Bool) → (if b then Some s.values else standing_at ss t) ≢ None
          → (standing_at ss t ≢ None → standing_at (ss ++ x ∷ []) t ≡ standing_at ss t)
          → (if b then Some s.values else standing_at (ss ++ x ∷ []) t) ≡ (if b then Some s.values else standing_at ss t)
      by true some more = refl
      by false some more = more some

  pub stands_new : (stands : List Stand) → standing_at stands t ≡ None → t < x.until → standing_at (stands ++ x ∷ []) t ≡ Some x.values
  stands_new [] none before =
      let is : nat_lt t x.until ≡ true = grind (arith, nat_tests, before) in
      ap (λ (b : Bool). if b then Some x.values else None) is
  stands_new (s ∷ ss) none before = by (nat_lt t s.until) none (λ more. stands_new ss more before)
    where
      by : (b : Bool) → (if b then Some s.values else standing_at ss t) ≡ None → (standing_at ss t ≡ None → standing_at (ss ++ x ∷ []) t ≡ Some x.values)
          → (if b then Some s.values else standing_at (ss ++ x ∷ []) t) ≡ Some x.values
      by true none more = cc
      by false none more = more none

  pub stands_nowhere : (stands : List Stand) → standing_at stands t ≡ None → x.until ≤ t → standing_at (stands ++ x ∷ []) t ≡ None
  stands_nowhere [] none behind =
      let is : nat_lt t x.until ≡ false = grind (arith, nat_tests, behind) in
      ap (λ (b : Bool). if b then Some x.values else None) is
  stands_nowhere (s ∷ ss) none behind = by (nat_lt t s.until) none (λ more. stands_nowhere ss more behind)
    where
      by : (b : Bool) → (if b then Some s.values else standing_at ss t) ≡ None → (standing_at ss t ≡ None → standing_at (ss ++ x ∷ []) t ≡ None)
          → (if b then Some s.values else standing_at (ss ++ x ∷ []) t) ≡ None
      by true none more = cc
      by false none more = more none

-- ---- what doesn't hold

flat_alike : (f g : Expectation → List Difference) (P : Expectation → Type 0) → ((e : Expectation) → P e → f e ≡ g e)
    → (es : List Expectation) → Each P es → flat_map f es ≡ flat_map g es
flat_alike f g P same [] h = refl
flat_alike f g P same (e ∷ es) h = ap (λ (ds : List Difference). ds ++ flat_map f es) (same e h.0) ∙ ap (λ (ds : List Difference). g e ++ ds) (flat_alike f g P same es h.1)

-- one or none of each
fewer : (f : Expectation → Option Difference) (es : List Expectation) → length (flat_map (λ e. option_to_list (f e)) es) ≤ length es
fewer f [] = omega arith
fewer f (e ∷ es) = by (f e) (fewer f es)
  where
    by : (d : Option Difference) → length (flat_map (λ e. option_to_list (f e)) es) ≤ length es → length (option_to_list d ++ flat_map (λ e. option_to_list (f e)) es) ≤ length (e ∷ es)
    by None less = omega (arith, less)
    by (Some d) less = omega (arith, less)

-- what this one adds where these values stand
abbrev pub added : (values : Option (List ℕ)) → Expectation → List Difference
added values e = option_to_list (difference_in e values)

abbrev pub differing : (values : Option (List ℕ)) → List Expectation → List Difference
differing values es = flat_map (added values) es

-- ---- those that are kept

-- one difference more
told_more : (told all : List Difference) (d : Difference) → told ≡ take most_told all → length told < most_told → told ++ d ∷ [] ≡ take most_told (all ++ d ∷ [])
told_more told all d are few =
    let long = length-take most_told all in
    let short : length all < most_told = omega (arith, ap length are, long, few) in
    let whole : take most_told all ≡ all = take_all most_told all (omega (arith, short)) in
    let added = length-append all (d ∷ []) in
    ap (λ (ds : List Difference). ds ++ d ∷ []) (are ∙ whole) ∙ sym (take_all most_told (all ++ d ∷ []) (omega (arith, short, added)))

none_more : (told all : List Difference) → told ≡ take most_told all → length told < most_told → (d : Difference) → length (all ++ d ∷ []) - most_told ≡ length all - most_told
none_more told all are few d =
    let long = length-take most_told all in
    let added = length-append all (d ∷ []) in omega (arith, ap length are, long, few, added)

told_full : (told all : List Difference) (d : Difference) → told ≡ take most_told all → (length told < most_told → ⊥)
    → (told ≡ take most_told (all ++ d ∷ [])) × (length (all ++ d ∷ []) - most_told ≡ length all - most_told + 1)
told_full told all d are full =
    let long = length-take most_told all in
    let many : most_told ≤ length all = omega (arith, ap length are, long, full) in
    let added = length-append all (d ∷ []) in
    (are ∙ sym (take-append-le most_told all (d ∷ []) many), omega (arith, many, added))

pub pushed : {T E X : Type 0} (r : Result T E) (xs ys zs : List X) → IsOk r → zs ≡ (if is_ok r then xs else ys) → zs ≡ xs
pushed (Ok x) xs ys zs ok is = is
pushed (Err e) xs ys zs ok is = cc

module _ (old new : FirstDifferences) (d : KeptDifference) (all : List Difference) (K : Keeps old all) where
  long : length (told_view old) ≡ vec_len old.told
  long = length-map old.told.items difference_view ∙ sym old.told.ok.0

  pub kept_more : vec_len old.told < most_told → new.told.items ≡ old.told.items ++ d ∷ [] → vec_capacity old.told ≤ vec_capacity new.told → new.more ≡ old.more
      → Keeps new (all ++ difference_view d ∷ [])
  kept_more room items grows more =
      let few : length (told_view old) < most_told = omega (arith, room, long) in
      record {
        room = omega (arith, K.room, grows);
        first = record {
          told = ap (map difference_view) items ∙ map-append difference_view old.told.items (d ∷ []) ∙ told_more (told_view old) all (difference_view d) K.first.told few;
          more = more ∙ K.first.more ∙ sym (none_more (told_view old) all K.first.told few (difference_view d));
        };
      }

  pub kept_full : (vec_len old.told < most_told → ⊥) → new.told ≡ old.told → new.more ≡ old.more + 1 → Keeps new (all ++ difference_view d ∷ [])
  kept_full full same more =
      let are = told_full (told_view old) all (difference_view d) K.first.told (λ few. full (omega (arith, few, long))) in
      record {
        room = subst (λ (v : Vec KeptDifference Global). most_told ≤ vec_capacity v) (sym same) K.room;
        first = record {
          told = ap (λ (v : Vec KeptDifference Global). map difference_view v.items) same ∙ are.0;
          more = more ∙ ap (λ (n : ℕ). n + 1) K.first.more ∙ sym are.1;
        };
      }

-- ---- one stand more

-- from the one to the other those were compared with these values of which this holds
pub record Passes (P : Expectation → Type 0) (old : Expectations) (values : Option (List ℕ)) (new : Expectations) : Type 0 where
  pub same : expected_by new ≡ expected_by old
  pub passed : List Expectation
  pub cut : drop old.next (expected_by old) ≡ passed ++ drop new.next (expected_by old)
  pub count : new.next ≡ old.next + length passed
  pub each : Each P passed
  pub kept : (all : List Difference) → length all ≤ old.next → Keeps old.found all → Keeps new.found (all ++ differing values passed)

-- the next one
drop_next : (es : List Expectation) (n : ℕ) (e : Expectation) → slice_get es n ≡ Some e → drop n es ≡ e ∷ drop (n + 1) es
drop_next [] n e is = cc
drop_next (x ∷ xs) zero e is = let same : x ≡ e = cc in ap (λ (y : Expectation). y ∷ xs) same
drop_next (x ∷ xs) (suc n) e is = drop_next xs n e is ∙ ap (λ (m : ℕ). e ∷ drop m (x ∷ xs)) (let one : suc (n + 1) ≡ suc n + 1 = omega arith in one)

is_there : (es : List Expectation) (n : ℕ) → n < length es → slice_get es n ≡ None → ⊥
is_there [] n there none = omega (arith, there)
is_there (e ∷ es) zero there none = cc
is_there (e ∷ es) (suc n) there none = is_there es n (omega (arith, there)) none

never : true ≡ false → ⊥
never h = cc

-- what comparing the next one leaves
abbrev pub Adds : (mid : Expectations) → (values : Option (List ℕ)) → (new : Expectations) → Type 0
Adds mid values new =
    (e : Expectation) → slice_get (expected_by mid) mid.next ≡ Some e
    → (all : List Difference) → length all ≤ mid.next → Keeps mid.found all → Keeps new.found (all ++ added values e)

module _ (P : Expectation → Type 0) (old mid new : Expectations) (values : Option (List ℕ)) (so_far : Passes P old values mid)
    (same : expected_by new ≡ expected_by mid) (next : new.next ≡ mid.next + 1) (adds : Adds mid values new) where
  passes_more : (e : Expectation) → slice_get (expected_by mid) mid.next ≡ Some e → P e → Passes P old values new
  passes_more e here holds =
      let es = expected_by old in
      let passed = so_far.passed in
      let here' : slice_get es mid.next ≡ Some e = ap (λ (xs : List Expectation). slice_get xs mid.next) (sym so_far.same) ∙ here in
      let one : differing values (passed ++ e ∷ []) ≡ differing values passed ++ added values e =
      flat_map-append (added values) passed (e ∷ []) ∙ ap (λ (ds : List Difference). differing values passed ++ ds) (append-nil (added values e)) in
      record {
        same = same ∙ so_far.same;
        passed = passed ++ e ∷ [];
        cut = so_far.cut ∙ ap (λ (ys : List Expectation). passed ++ ys) (drop_next es mid.next e here' ∙ ap (λ (n : ℕ). e ∷ drop n es) (sym next)) ∙ sym (append_assoc passed (e ∷ []) (drop new.next es));
        count = let long = length-append passed (e ∷ []) in omega (arith, so_far.count, next, long);
        each = each_append P passed (e ∷ []) so_far.each (holds, tt);
        kept = λ all few K.
            let less = fewer (λ x. difference_in x values) passed in
            let long = length-append all (differing values passed) in
            subst (Keeps new.found) (append_assoc all (differing values passed) (added values e) ∙ ap (λ (ds : List Difference). all ++ ds) (sym one))
            (adds e here (all ++ differing values passed) (omega (arith, few, less, long, so_far.count)) (so_far.kept all few K));
      }

  pub passes_on : (until : ℕ) → ((e : Expectation) → e.time < until → P e) → true ≡ next_is_before mid until → Passes P old values new
  passes_on until holds early = by (slice_get (expected_by mid) mid.next) refl early
    where
      by : (found : Option Expectation) → slice_get (expected_by mid) mid.next ≡ found → true ≡ is_before found until → Passes P old values new
      by None is early = absurd (never early)
      by (Some e) is early = passes_more e is (holds e (grind (arith, nat_tests, early)))

  pub passes_left : ((e : Expectation) → P e) → mid.next < length mid.list.items → Passes P old values new
  passes_left holds there = by (slice_get (expected_by mid) mid.next) refl
    where
      by : (found : Option Expectation) → slice_get (expected_by mid) mid.next ≡ found → Passes P old values new
      by None is = absurd (is_there (expected_by mid) mid.next (omega (arith, there, length-map mid.list.items expectation_view)) is)
      by (Some e) is = passes_more e is (holds e)

-- where the next one isn't before a time, no other is
all_behind : (es : List Expectation) (n until : ℕ) → AreInOrder (drop n es) → is_before (slice_get es n) until ≡ false → Each (λ e. until ≤ e.time) (drop n es)
all_behind [] zero until order late = tt
all_behind [] (suc n) until order late = tt
all_behind (e ∷ es) zero until order late =
    let from : until ≤ e.time = grind (arith, nat_tests, late) in
    (from, each_map (λ x. e.time ≤ x.time) (λ x. until ≤ x.time) (λ x more. omega (arith, from, more)) es order.0)
all_behind (e ∷ es) (suc n) until order late = all_behind es n until order late

pub sees_more : (old new : Expectations) (values : List ℕ) (until : ℕ) → Passes (λ e. e.time < until) old (Some values) new → next_is_before new until ≡ false
    → (start : Expectations) (stands : List Stand) → IsToldOf start stands old → IsToldOf start (stands ++ record { values = values; until = until } ∷ []) new
sees_more old new values until P late start stands told fresh order =
    let H = told fresh order in
    let es = expected_by start in
    let x : Stand = record { values = values; until = until } in
    let more = stands ++ x ∷ [] in
    let of : List Stand → Expectation → List Difference = λ stands e. option_to_list (difference_at stands e) in
    let Reached : Expectation → Type 0 = λ e. standing_at stands e.time ≢ None in
    let Nowhere : Expectation → Type 0 = λ e. standing_at stands e.time ≡ None in
    let New : Expectation → Type 0 = λ e. standing_at more e.time ≡ Some values in
    let cut : drop old.next es ≡ P.passed ++ drop new.next es =
    subst (λ (xs : List Expectation). drop old.next xs ≡ P.passed ++ drop new.next xs) H.same P.cut in
    let others : Each Nowhere (P.passed ++ drop new.next es) = subst (Each Nowhere) cut H.others in
    let none = each_front Nowhere P.passed (drop new.next es) others in
    let left = each_back Nowhere P.passed (drop new.next es) others in
    let news : Each New P.passed = each_both Nowhere (λ e. e.time < until) New (λ e nowhere early. stands_new x e.time stands nowhere early) P.passed none P.each in
    let same : expected_by new ≡ es = P.same ∙ H.same in
    let late' : is_before (slice_get es new.next) until ≡ false = ap (λ (xs : List Expectation). is_before (slice_get xs new.next) until) (sym same) ∙ late in
    let behind = all_behind es new.next until (in_order_drop new.next es order) late' in
    let before = flat_alike (of more) (of stands) Reached (λ e some. ap (λ (v : Option (List ℕ)). added v e) (stands_still x e.time stands some)) H.compared H.reached in
    let now = flat_alike (of more) (added (Some values)) New (λ e is. ap (λ (v : Option (List ℕ)). added v e) is) P.passed news in
    let few : length (differences stands H.compared) ≤ old.next = let less = fewer (difference_at stands) H.compared in omega (arith, less, H.count) in
    record {
      same = same;
      compared = H.compared ++ P.passed;
      cut = H.cut ∙ ap (λ (ys : List Expectation). H.compared ++ ys) cut ∙ sym (append_assoc H.compared P.passed (drop new.next es));
      count = let long = length-append H.compared P.passed in omega (arith, long, H.count, P.count);
      reached = each_append (λ e. standing_at more e.time ≢ None) H.compared P.passed
          (each_map Reached (λ e. standing_at more e.time ≢ None) (λ e some none. some (sym (stands_still x e.time stands some) ∙ none)) H.compared H.reached)
          (each_map New (λ e. standing_at more e.time ≢ None) (λ e some none. cc) P.passed news);
      kept = subst (Keeps new.found)
          (ap (λ (ds : List Difference). ds ++ differing (Some values) P.passed) (sym before) ∙ ap (λ (ds : List Difference). differences more H.compared ++ ds) (sym now)
          ∙ sym (flat_map-append (of more) H.compared P.passed))
          (P.kept (differences stands H.compared) few H.kept);
      others = each_both Nowhere (λ e. until ≤ e.time) (λ e. standing_at more e.time ≡ None)
          (λ e nowhere from. stands_nowhere x e.time stands nowhere from) (drop new.next es) left behind;
    }

-- ---- at the end

pub all_kept : (es : List Expectation) (stands : List Stand) (old new : Expectations) → HasSeen es stands old → Passes (λ e. Unit {0}) old None new
    → length new.list.items ≤ new.next → Keeps new.found (differences stands es)
all_kept es stands old new H P end =
    let long : length (expected_by old) ≤ new.next = omega (arith, end, length-map new.list.items expectation_view, ap length P.same) in
    let left : drop old.next es ≡ P.passed =
    subst (λ (xs : List Expectation). drop old.next xs ≡ P.passed ++ drop new.next xs) H.same P.cut
    ∙ ap (λ (ys : List Expectation). P.passed ++ ys) (ap (drop new.next) (sym H.same) ∙ drop_all new.next (expected_by old) long) ∙ append-nil P.passed in
    let none = flat_alike (λ e. option_to_list (difference_at stands e)) (added None) (λ e. standing_at stands e.time ≡ None) (λ e is. ap (λ (v : Option (List ℕ)). added v e) is) (drop old.next es) H.others in
    let few : length (differences stands H.compared) ≤ old.next = let less = fewer (difference_at stands) H.compared in omega (arith, less, H.count) in
    subst (Keeps new.found)
    (ap (λ (ds : List Difference). differences stands H.compared ++ ds) (ap (differing None) (sym left) ∙ sym none)
    ∙ sym (flat_map-append (λ e. option_to_list (difference_at stands e)) H.compared (drop old.next es)) ∙ ap (differences stands) (sym H.cut))
    (P.kept (differences stands H.compared) few H.kept)

-- what is told of all
module _ (d : FirstDifferences) (all : List Difference) (K : Keeps d all) where
  as_many : length d.told.items ≡ min most_told (length all)
  as_many = sym (length-map d.told.items difference_view) ∙ ap length K.first.told ∙ length-take most_told all

  pub told_none : length d.told.items ≡ 0 → all ≡ []
  told_none none = is_nil all (omega (arith, as_many, none))
    where
      is_nil : (ds : List Difference) → length ds ≡ 0 → ds ≡ []
      is_nil [] is = refl
      is_nil (x ∷ ds) is = absurd (omega (arith, is))

  pub told_some : (length d.told.items ≡ 0 → ⊥) → AreTold (Some d) all
  told_some some = ((λ none. some (omega (arith, as_many, ap length none))), K.first)
