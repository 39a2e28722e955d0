-- What waits, by the changes of each time: times rise, and each has a change.
use Rattle.std.proofs.Common.{◌≡◌, ◌≢◌, ◌⊎◌, ℕ, ◌-◌, ◌<◌, ◌≤◌, List, [], ◌∷◌, ◌++◌, length, refl, sym, ap, subst, ◌∙◌, arith, inl, inr, length-append}
use Rattle.std.specs.Prelude.{All, unwrap_or}
use Rattle.std.specs.List.{AllByRecursion}
use Rattle.std.specs.Ordering.{nat_cmp, match_ordering}
use Rattle.std.specs.declared.cmp.Ordering.{Ordering}
use Rattle.std.specs.declared.cmp.Ordering.TheVariants.{Less, Equal, Greater}
use Rattle.std.specs.Cmp.{nat_cmp_is}
use Rattle.std.specs.List.Sorted.{IsStrictlySortedBy}
use Rattle.std.specs.Map.{keys_of, values_of}
use Rattle.std.specs.BTreeMap.{is_at, insert_entry}
use Rattle.std.proofs.lemmas.Bool.{cases_order}
use Rattle.std.proofs.lemmas.List.Elements.{All-nil, All-cons, All-head, All-tail}
use Rattle.std.proofs.lemmas.Map.Entries.{lookup_head, lookup_tail}
use Rattle.std.proofs.lemmas.Map.Keys.{IsStrictlyIncreasing-from_sorted, sorted_from_strictly_increasing}
use Rattle.rtl_agenda.specs.Agenda.{Change, changes_at, with_change}
use Rattle.rtl_agenda.specs.MapState.{IsInOrder}
use Rattle.rtl_agenda.proofs.Pushing.{same_time, other_time}

-- the same, entry by entry
unfoldable pub Rises : List (ℕ × List Change) → Type 0
Rises [] = Unit {0}
Rises (e ∷ es) = (0 < length e.1) × AllByRecursion (λ k. e.0 < k) (keys_of es) × Rises es

pub nothing_before : (es : List (ℕ × List Change)) (t q : ℕ) → AllByRecursion (λ k. t < k) (keys_of es) → q ≤ t → changes_at es q ≡ []
nothing_before [] t q above le = refl
nothing_before (e ∷ es) t q above le =
    ap (λ o. unwrap_or o []) (lookup_tail (is_at (nat_cmp q)) e es (other_time q e.0 (λ is. let h = above.0 in omega arith))) ∙ nothing_before es t q above.1 le

pub at_head : (e : ℕ × List Change) (es : List (ℕ × List Change)) → changes_at (e ∷ es) e.0 ≡ e.1
at_head e es = ap (λ o. unwrap_or o []) (lookup_head (is_at (nat_cmp e.0)) e es (same_time e.0))

pub past_head : (e : ℕ × List Change) (es : List (ℕ × List Change)) (q : ℕ) → q ≢ e.0 → changes_at (e ∷ es) q ≡ changes_at es q
past_head e es q differ = ap (λ o. unwrap_or o []) (lookup_tail (is_at (nat_cmp q)) e es (other_time q e.0 differ))

-- what waits is known by the changes of each time
pub same_waiting : (es fs : List (ℕ × List Change)) → Rises es → Rises fs → ((q : ℕ) → changes_at es q ≡ changes_at fs q) → es ≡ fs
unfolding Rises
same_waiting [] [] es_in fs_in same = refl
same_waiting [] (f ∷ fs) es_in fs_in same =
    let filled = fs_in.0 in
    absurd (omega (arith, filled, ap (λ (cs : List Change). length cs) (same f.0 ∙ at_head f fs)))
same_waiting (e ∷ es) [] es_in fs_in same =
    let filled = es_in.0 in
    absurd (omega (arith, filled, ap (λ (cs : List Change). length cs) (sym (at_head e es) ∙ same e.0)))
same_waiting (e ∷ es) (f ∷ fs) es_in fs_in same =
    by (λ tails. same_waiting es fs es_in.2 fs_in.2 tails) (cases_order e.0 f.0)
  where
    by : (((q : ℕ) → changes_at es q ≡ changes_at fs q) → es ≡ fs) → (e.0 ≡ f.0) ⊎ ((e.0 < f.0) ⊎ (f.0 < e.0)) → e ∷ es ≡ f ∷ fs
    by rest (inr (inl less)) =
        let nothing = past_head f fs e.0 (omega arith) ∙ nothing_before fs f.0 e.0 fs_in.1 (omega arith) in
        let filled = es_in.0 in
        absurd (omega (arith, filled, ap (λ (cs : List Change). length cs) (sym (at_head e es) ∙ same e.0 ∙ nothing)))
    by rest (inr (inr more)) =
        let nothing = past_head e es f.0 (omega arith) ∙ nothing_before es e.0 f.0 es_in.1 (omega arith) in
        let filled = fs_in.0 in
        absurd (omega (arith, filled, ap (λ (cs : List Change). length cs) (sym (at_head f fs) ∙ sym (same f.0) ∙ nothing)))
    by rest (inl is) =
        let P : ℕ → Type 0 = λ t. changes_at (f ∷ fs) t ≡ f.1 in
        let here : e.1 ≡ f.1 = sym (at_head e es) ∙ same e.0 ∙ subst P (sym is) (at_head f fs) in
        let tails : (q : ℕ) → changes_at es q ≡ changes_at fs q = (λ q. elim (cases_order q e.0) [
          | inl at ↦ nothing_before es e.0 q es_in.1 (omega arith) ∙ sym (nothing_before fs f.0 q fs_in.1 (omega arith))
          | inr apart ↦ let differ : q ≢ e.0 = elim apart [ inl less ↦ omega arith | inr more ↦ omega arith ] in
              sym (past_head e es q differ) ∙ same q ∙ past_head f fs q (omega arith)
        ]) in
        let rests = rest tails in
        let heads : e ≡ f = ap (λ (t : ℕ). (t, e.1)) is ∙ ap (λ (cs : List Change). (f.0, cs)) here in
        ap (λ xs. e ∷ xs) rests ∙ ap (λ x. x ∷ fs) heads

below : (k t : ℕ) → nat_cmp k t ≡ Less → k < t
below k t is = by (cases_order k t)
  where
    by : (k ≡ t) ⊎ ((k < t) ⊎ (t < k)) → k < t
    by (inl same) = let e : Equal ≡ nat_cmp k t = nat_cmp_is k t Equal same in absurd (cc)
    by (inr (inl less)) = less
    by (inr (inr more)) = let e : Greater ≡ nat_cmp k t = nat_cmp_is k t Greater more in absurd (cc)

above : (k t : ℕ) → nat_cmp k t ≡ Greater → t < k
above k t is = by (cases_order k t)
  where
    by : (k ≡ t) ⊎ ((k < t) ⊎ (t < k)) → t < k
    by (inl same) = let e : Equal ≡ nat_cmp k t = nat_cmp_is k t Equal same in absurd (cc)
    by (inr (inl less)) = let e : Less ≡ nat_cmp k t = nat_cmp_is k t Less less in absurd (cc)
    by (inr (inr more)) = more

-- what holds of all times and of one more
pub keys_insert : (P : ℕ → Type 0) (es : List (ℕ × List Change)) (k : ℕ) (v : List Change) → AllByRecursion P (keys_of es) → P k → AllByRecursion P (keys_of (insert_entry nat_cmp es k v))
keys_insert P [] k v all here = (here, tt)
keys_insert P (e ∷ es) k v all here = by (nat_cmp k e.0) (keys_insert P es k v all.1 here)
  where
    by : (r : Ordering) → AllByRecursion P (keys_of (insert_entry nat_cmp es k v))
        → AllByRecursion P (keys_of (match_ordering r ((k, v) ∷ e ∷ es) ((e.0, v) ∷ es) (e ∷ insert_entry nat_cmp es k v)))
    by Less later = (here, all)
    by Equal later = all
    by Greater later = (all.0, later)

pub keys_weaker : (P Q : ℕ → Type 0) → ((t : ℕ) → P t → Q t) → (ks : List ℕ) → AllByRecursion P ks → AllByRecursion Q ks
keys_weaker P Q weaker [] all = tt
keys_weaker P Q weaker (k ∷ ks) all = (weaker k all.0, keys_weaker P Q weaker ks all.1)

pub in_order_insert : (es : List (ℕ × List Change)) (k : ℕ) (v : List Change) → Rises es → 0 < length v → Rises (insert_entry nat_cmp es k v)
unfolding Rises
in_order_insert [] k v in_order filled = (filled, tt, tt)
in_order_insert (e ∷ es) k v in_order filled = by (nat_cmp k e.0) refl (in_order_insert es k v in_order.2 filled)
  where
    by : (r : Ordering) → nat_cmp k e.0 ≡ r → Rises (insert_entry nat_cmp es k v) → Rises (match_ordering r ((k, v) ∷ e ∷ es) ((e.0, v) ∷ es) (e ∷ insert_entry nat_cmp es k v))
    by Less is later = let less : k < e.0 = below k e.0 is in (filled, (less, keys_weaker (λ q. e.0 < q) (λ q. k < q) (λ q more. omega arith) (keys_of es) in_order.1), in_order)
    by Equal is later = (filled, in_order.1, in_order.2)
    by Greater is later = (in_order.0, keys_insert (λ q. e.0 < q) es k v in_order.1 (above k e.0 is), later)

pub in_order_cons : (e : ℕ × List Change) (es : List (ℕ × List Change)) → 0 < length e.1 → AllByRecursion (λ k. e.0 < k) (keys_of es) → Rises es → Rises (e ∷ es)
unfolding Rises
in_order_cons e es filled above in_order = (filled, above, in_order)

pub in_order_head : (e : ℕ × List Change) (es : List (ℕ × List Change)) → Rises (e ∷ es) → (0 < length e.1) × AllByRecursion (λ k. e.0 < k) (keys_of es) × Rises es
unfolding Rises
in_order_head e es in_order = in_order

pub in_order_with : (waiting : List (ℕ × List Change)) (time : ℕ) (change : Change) → Rises waiting → Rises (with_change waiting time change)
in_order_with waiting time change in_order =
    in_order_insert waiting time (changes_at waiting time ++ change ∷ []) in_order (omega (arith, length-append (changes_at waiting time) (change ∷ [])))

-- times in order rise
pub sorted_in_order : (waiting : List (ℕ × List Change)) → Rises waiting → IsStrictlySortedBy nat_cmp (keys_of waiting)
unfolding Rises IsStrictlySortedBy
sorted_in_order [] in_order = tt
sorted_in_order (e ∷ es) in_order = (less_all es in_order.1, sorted_in_order es in_order.2)
  where
    less_all : (es : List (ℕ × List Change)) → AllByRecursion (λ k. e.0 < k) (keys_of es) → AllByRecursion (λ k. nat_cmp e.0 k ≡ Less) (keys_of es)
    less_all [] above = tt
    less_all (f ∷ fs) above = (sym (nat_cmp_is e.0 f.0 Less above.0), less_all fs above.1)

all_filled : (es : List (ℕ × List Change)) → Rises es → All (λ changes. 0 < length changes) (values_of es)
unfolding Rises
all_filled [] rises = All-nil _
all_filled (e ∷ es) rises = All-cons (λ changes. 0 < length changes) e.1 (values_of es) rises.0 (all_filled es rises.2)

pub in_order_from : (waiting : List (ℕ × List Change)) → Rises waiting → IsInOrder waiting
in_order_from waiting rises = record { rising = IsStrictlyIncreasing-from_sorted (keys_of waiting) (sorted_in_order waiting rises); filled = all_filled waiting rises }

rises_sorted : (es : List (ℕ × List Change)) → IsStrictlySortedBy nat_cmp (keys_of es) → All (λ changes. 0 < length changes) (values_of es) → Rises es
unfolding Rises IsStrictlySortedBy
rises_sorted [] sorted filled = tt
rises_sorted (e ∷ es) sorted filled = (
  All-head (λ changes. 0 < length changes) e.1 (values_of es) filled,
  keys_weaker (λ k. nat_cmp e.0 k ≡ Less) (λ k. e.0 < k) (λ k is. below e.0 k is) (keys_of es) sorted.0,
  rises_sorted es sorted.1 (All-tail (λ changes. 0 < length changes) e.1 (values_of es) filled),
)

pub rises_from : (waiting : List (ℕ × List Change)) → IsInOrder waiting → Rises waiting
rises_from waiting in_order = rises_sorted waiting (sorted_from_strictly_increasing (keys_of waiting) in_order.rising) in_order.filled

-- what is left once the first time is taken
pub in_order_rest : (e : ℕ × List Change) (waiting rest : List (ℕ × List Change)) → waiting ≡ e ∷ rest → IsInOrder waiting → Rises (e ∷ rest)
in_order_rest e waiting rest is in_order = rises_from (e ∷ rest) (subst IsInOrder is in_order)

-- all times are so far ahead where the first is
pub far_from_first : (time from turn : ℕ) (changes : List Change) (waiting rest : List (ℕ × List Change)) → waiting ≡ (time, changes) ∷ rest → IsInOrder waiting → turn ≤ time - from
    → AllByRecursion (λ t. turn ≤ t - from) (keys_of waiting)
far_from_first time from turn changes waiting rest is in_order far =
    let P : List (ℕ × List Change) → Type 0 = λ w. AllByRecursion (λ t. turn ≤ t - from) (keys_of w) in
    let later = (in_order_head (time, changes) rest (in_order_rest (time, changes) waiting rest is in_order)).1 in
    subst P (sym is) (far, keys_weaker (λ t. time < t) (λ t. turn ≤ t - from) (λ t more. omega (arith, far, more)) (keys_of rest) later)

pub far_of_none : (P : ℕ → Type 0) (waiting : List (ℕ × List Change)) → waiting ≡ [] → AllByRecursion P (keys_of waiting)
far_of_none P waiting none = let Q : List (ℕ × List Change) → Type 0 = λ w. AllByRecursion P (keys_of w) in subst Q (sym none) tt
