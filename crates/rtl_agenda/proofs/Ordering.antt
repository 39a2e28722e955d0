-- An agenda stays orderly.
use Rattle.std.proofs.Common.{◌≡◌, ◌≢◌, ℕ, suc, ◌<◌, ◌≤◌, List, [], ◌∷◌, ◌++◌, length, get_or, Option, Some, None, Result, Ok, Err, refl, sym, subst, arith, length-append}
use Rattle.std.specs.Prelude.{IfNone, IfSome, OnErr, OnOk, unwrap_or}
use Rattle.std.specs.Ordering.{nat_cmp}
use Rattle.std.specs.List.Sorted.{IsStrictlySortedBy}
use Rattle.std.specs.Map.{keys_of, values_of}
use Rattle.std.specs.BTreeMap.{is_at}
use Rattle.std.proofs.lemmas.List.Elements.{All-head, All-tail}
use Rattle.std.proofs.lemmas.List.Kept.{AllPairs-from_increasing}
use Rattle.std.proofs.lemmas.List.Quantifiers.{all_pairs_push}
use Rattle.std.proofs.lemmas.Map.Keys.{IsStrictlyIncreasing-from_sorted, sorted_from_strictly_increasing, sorted_tail}
use Rattle.std.proofs.lemmas.Map.Views.{All-keys-insert_entry, All-values-insert_entry, IfSome-lookup_from_All}
use Rattle.rtl_agenda.specs.Agenda.{AgendaState, Change, IsAfter, IsOneEach, IsOrderly, LeavesAlone, changes_at, with_change}
use Rattle.rtl_agenda.proofs.InOrder.{in_order_with, rises_from, sorted_in_order}

-- the changes of a time, there or not, are of different nets
one_each_at : (o : Option (List Change)) → IfSome o IsOneEach → IsOneEach (unwrap_or o [])
one_each_at None h = λ i j d before within. absurd (omega arith)
one_each_at (Some changes) h = h

-- with a change more, where the times still rise
pub orderly_with_change : (s : AgendaState) (time : ℕ) (change : Change) → IsOrderly s → IsAfter s.last time → LeavesAlone (changes_at s.waiting time) change.0
    → IsStrictlySortedBy nat_cmp (keys_of (with_change s.waiting time change)) → IsOrderly (record s { waiting = with_change s.waiting time change })
orderly_with_change s time change orderly later once sorted =
    let changes = changes_at s.waiting time in
    record {
      rising = IsStrictlyIncreasing-from_sorted _ sorted;
      later = All-keys-insert_entry nat_cmp time (changes ++ change ∷ []) (IsAfter s.last) s.waiting orderly.later later;
      filled = All-values-insert_entry nat_cmp time (changes ++ change ∷ []) (λ cs. 0 < length cs) s.waiting orderly.filled (omega (arith, length-append changes (change ∷ [])));
      one_each = All-values-insert_entry nat_cmp time (changes ++ change ∷ []) IsOneEach s.waiting orderly.one_each
          (all_pairs_push (λ c d. c.0 ≢ d.0) changes change (one_each_at _ (IfSome-lookup_from_All IsOneEach (is_at (nat_cmp time)) s.waiting orderly.one_each)) once);
      one_each_taken = orderly.one_each_taken;
    }

-- once the least time is taken
pub orderly_taken : (s : AgendaState) (time : ℕ) (changes : List Change) (rest : List (ℕ × List Change)) → IsOrderly s → s.waiting ≡ (time, changes) ∷ rest
    → IsOrderly (record { waiting = rest; last = Some time; taken = changes })
orderly_taken s time changes rest orderly is =
    let o : IsOrderly (record s { waiting = (time, changes) ∷ rest }) = let P : List (ℕ × List Change) → Type 0 = λ w. IsOrderly (record s { waiting = w }) in subst P is orderly in
    let below = AllPairs-from_increasing (time ∷ keys_of rest) o.rising in
    record {
      rising = IsStrictlyIncreasing-from_sorted _ (sorted_tail nat_cmp time (keys_of rest) (sorted_from_strictly_increasing _ o.rising));
      later = λ k d within t taken. let h = below 0 (suc k) d (omega arith) (omega arith) in let e : time ≡ t = cc in let P : ℕ → Type 0 = λ n. n < get_or (keys_of rest) k d in subst P e h;
      filled = All-tail (λ cs. 0 < length cs) changes (values_of rest) o.filled;
      one_each = All-tail IsOneEach changes (values_of rest) o.one_each;
      one_each_taken = All-head IsOneEach changes (values_of rest) o.one_each;
    }

-- with a change more, or refused
pub orderly_pushed : {T E : Type 0} (s : AgendaState) (time : ℕ) (change : Change) (waiting : List (ℕ × List Change)) (r : Result T E) → IsOrderly s → IsAfter s.last time
    → LeavesAlone (changes_at s.waiting time) change.0 → OnOk r (waiting ≡ with_change s.waiting time change) → OnErr r (waiting ≡ s.waiting) → IsOrderly (record s { waiting = waiting })
orderly_pushed s time change waiting (Ok x) orderly later once ok err =
    let P : List (ℕ × List Change) → Type 0 = λ w. IsOrderly (record s { waiting = w }) in
    subst P (sym ok) (orderly_with_change s time change orderly later once (sorted_in_order (with_change s.waiting time change) (in_order_with s.waiting time change (rises_from s.waiting (record { rising = orderly.rising; filled = orderly.filled })))))
orderly_pushed s time change waiting (Err e) orderly later once ok err =
    let P : List (ℕ × List Change) → Type 0 = λ w. IsOrderly (record s { waiting = w }) in
    subst P (sym err) orderly

pub orderly_none : (last : Option ℕ) → IsOrderly (record { waiting = []; last = last; taken = [] })
orderly_none last = record {
  rising = λ k within. absurd (omega arith);
  later = λ k d within. absurd (omega arith);
  filled = λ k d within. absurd (omega arith);
  one_each = λ k d within. absurd (omega arith);
  one_each_taken = λ i j d before within. absurd (omega arith);
}

pub orderly_same : (last : Option ℕ) (taken more : List Change) (before after : List (ℕ × List Change)) → after ≡ before → more ≡ taken → IsOrderly (record { waiting = before; last = last; taken = taken }) → IsOrderly (record { waiting = after; last = last; taken = more })
orderly_same last taken more before after is items orderly =
    let P : List (ℕ × List Change) → Type 0 = λ w. IsOrderly (record { waiting = w; last = last; taken = more }) in
    let Q : List Change → Type 0 = λ ts. IsOrderly (record { waiting = before; last = last; taken = ts }) in
    subst P (sym is) (subst Q (sym items) orderly)

pub after_last : (last : Option ℕ) (t : ℕ) → IsAfter last t → unwrap_or last 0 ≤ t
after_last None t after = omega arith
after_last (Some l) t after = let less = after l refl in omega arith

-- ---- answers of calls

pub on_ok : {T E P Q : Type 0} (r : Result T E) → (P → Q) → OnOk r P → OnOk r Q
on_ok (Ok x) f p = f p
on_ok (Err e) f p = tt

pub on_err : {T E P Q : Type 0} (r : Result T E) → (P → Q) → OnErr r P → OnErr r Q
on_err (Ok x) f p = tt
on_err (Err e) f p = f p

pub if_err : {T E P : Type 0} (r : Result T E) → P → OnErr r P
if_err (Ok x) p = tt
if_err (Err e) p = p

pub if_none : {T P : Type 0} (o : Option T) → P → IfNone o P
if_none None p = p
if_none (Some x) p = tt

-- what holds of both values holds of the one that is left
pub of_either : {T E A : Type 0} (P : A → Type 0) (r : Result T E) (new good old : A) → OnOk r (new ≡ good) → OnErr r (new ≡ old) → P good → P old → P new
of_either P (Ok x) new good old ok err here there = subst P (sym ok) here
of_either P (Err e) new good old ok err here there = subst P (sym err) there
