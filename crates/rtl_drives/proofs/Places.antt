-- Spans: their places, and what is written over them.
use Rattle.std.proofs.Common.{◌≡◌, ℕ, zero, suc, ◌+◌, ◌<◌, ◌≤◌, Bool, true, false, List, [], ◌∷◌, ◌++◌, length, get_or, set, drop, Option, Some, None, refl, sym, ap, subst, ◌∙◌, arith, ◌⊎◌, inl, inr, append_assoc, append-nil}
use Rattle.std.specs.Prelude.{Contains, IsSome}
use Rattle.std.specs.List.{range_with_len}
use Rattle.std.specs.Option.{is_some}
use Rattle.std.proofs.lemmas.List.{get_or-set_other, get_or_default, length-set, at_drop_more, at_drop_all}
use Rattle.std.proofs.lemmas.List.Elements.{Contains-append_left, Contains-append_right, Contains-append_cases}
use Rattle.std.proofs.lemmas.List.FromFn.{length-range_with_len, get_or-range_with_len}
use Rattle.rtl_drives.specs.declared.spans.Span.{Span}
use Rattle.rtl_drives.specs.Spans.{places_of, written}
use Rattle.rtl_drives.specs.Marked.{HasNoMark}
use Rattle.rtl_drives.specs.Tracked.{entry, entries_of, AreAssigned}
use Rattle.rtl_drives.proofs.Assigned.{is_marked}
use Rattle.rtl_drives.proofs.Listing.{listed_more}

-- ---- places

-- one span more
pub places_more : (spans : List Span) (span : Span) → places_of (spans ++ span ∷ []) ≡ places_of spans ++ range_with_len span.first span.len
places_more [] span = append-nil (range_with_len span.first span.len)
places_more (s ∷ spans) span =
    ap (λ ps. range_with_len s.first s.len ++ ps) (places_more spans span)
    ∙ sym (append_assoc (range_with_len s.first s.len) (places_of spans) (range_with_len span.first span.len))

pub no_places : (spans : List Span) → length spans ≡ 0 → length (places_of spans) ≡ 0
no_places [] none = refl
no_places (s ∷ spans) none = absurd (omega arith)

span_has : (first len k : ℕ) → k < len → Contains (range_with_len first len) (first + k)
span_has first len k l = (k, rw length-range_with_len l, get_or-range_with_len first len k (first + k) l)

in_span : (first len place : ℕ) → Contains (range_with_len first len) place → (k : ℕ) × (k < len) × (first + k ≡ place)
in_span first len place (k, l, is) =
    let m : k < len = rw length-range_with_len at l in
    (k, m, sym (get_or-range_with_len first len k place m) ∙ is)

-- where no span is listed, no place is marked
pub no_mark_yet : (marks : List Bool) (values : List ℕ) (spans : List Span) → AreAssigned (entries_of marks values) (places_of spans) → length spans ≡ 0 → HasNoMark marks
no_mark_yet marks values spans A none place = by (get_or marks place false) refl
  where
    by : (b : Bool) → get_or marks place false ≡ b → get_or marks place false ≡ false
    by true h =
        let (k, l, _) = A.are_all place (is_marked marks values place ∙ h) in
        absurd (omega (arith, l, no_places spans none))
    by false h = h

-- the places of each span are among those of all
pub place_of : (spans : List Span) (i k : ℕ) (d : Span) → i < length spans → k < (get_or spans i d).len → Contains (places_of spans) ((get_or spans i d).first + k)
place_of [] i k d l m = absurd (omega arith)
place_of (s ∷ spans) zero k d l m = Contains-append_left (range_with_len s.first s.len) (places_of spans) (s.first + k) (span_has s.first s.len k m)
place_of (s ∷ spans) (suc i) k d l m =
    Contains-append_right (range_with_len s.first s.len) (places_of spans) ((get_or spans i d).first + k) (place_of spans i k d (omega arith) m)

-- a listed place has an entry
pub place_assigned : (entries : List (Option ℕ)) (spans : List Span) → AreAssigned entries (places_of spans) → (i k : ℕ) (d : Span) → i < length spans
    → k < (get_or spans i d).len → IsSome (entry entries ((get_or spans i d).first + k))
place_assigned entries spans A i k d l m =
    let (at, within, is) = place_of spans i k d l m in
    subst (λ (n : ℕ). IsSome (entry entries n)) (get_or_default (places_of spans) at 0 ((get_or spans i d).first + k) within ∙ is) (A.pass at within)

-- where spans are left, a place is in the first of them or behind it
pub left_of : (spans : List Span) (i : ℕ) (d : Span) (place : ℕ) → i < length spans → Contains (places_of (drop i spans)) place
    → ((k : ℕ) × (k < (get_or spans i d).len) × ((get_or spans i d).first + k ≡ place)) ⊎ Contains (places_of (drop (i + 1) spans)) place
left_of spans i d place l h =
    by (Contains-append_cases (range_with_len s.first s.len) (places_of (drop (i + 1) spans)) place
    (subst (λ (ss : List Span). Contains (places_of ss) place) (at_drop_more (λ (ss : List Span). ss) spans i d l) h))
  where
    s : Span
    s = get_or spans i d

    by : Contains (range_with_len s.first s.len) place ⊎ Contains (places_of (drop (i + 1) spans)) place
        → ((k : ℕ) × (k < s.len) × (s.first + k ≡ place)) ⊎ Contains (places_of (drop (i + 1) spans)) place
    by (inl here) = inl (in_span s.first s.len place here)
    by (inr later) = inr later

-- behind the last span there is no place
pub none_behind : (spans : List Span) (i : ℕ) → length spans ≤ i → (place : ℕ) → Contains (places_of (drop i spans)) place → ⊥
none_behind spans i done place h =
    let (k, l, is) = subst (λ (ss : List Span). Contains (places_of ss) place) (at_drop_all (λ (ss : List Span). ss) spans i done) h in
    omega (arith, l)

-- a place that isn't in the first of them is behind it
pub left_behind : (spans : List Span) (i : ℕ) (d : Span) (place : ℕ) → i < length spans → Contains (places_of (drop i spans)) place
    → ((k : ℕ) → k < (get_or spans i d).len → (get_or spans i d).first + k ≡ place → ⊥) → Contains (places_of (drop (i + 1) spans)) place
left_behind spans i d place l h other = by (left_of spans i d place l h)
  where
    by : ((k : ℕ) × (k < (get_or spans i d).len) × ((get_or spans i d).first + k ≡ place)) ⊎ Contains (places_of (drop (i + 1) spans)) place
        → Contains (places_of (drop (i + 1) spans)) place
    by (inl (k, m, is)) = absurd (other k m is)
    by (inr later) = later

-- ---- what is written

-- where the places were free, they are listed behind those that were
pub listed_written : (first : ℕ) (values : List ℕ) (entries : List (Option ℕ)) (places : List ℕ) → AreAssigned entries places
    → ((k : ℕ) → k < length values → first + k < length entries) → ((k : ℕ) → k < length values → entry entries (first + k) ≡ None)
    → AreAssigned (written first values entries) (places ++ range_with_len first (length values))
listed_written first [] entries places A there free = subst (λ (ps : List ℕ). AreAssigned entries ps) (sym (append-nil places)) A
listed_written first (v ∷ vs) entries places A there free =
    subst (λ (ps : List ℕ). AreAssigned (written first (v ∷ vs) entries) ps) (append_assoc places (first ∷ []) (range_with_len (first + 1) (length vs)))
    (listed_written (first + 1) vs (set entries first (Some v)) (places ++ first ∷ [])
    (listed_more is_some None entries places A first (Some v) here refl (ap is_some none))
    (λ k l. rw (length-set entries first (Some v)) (let t = there (suc k) (omega arith) in omega (arith, t)))
    (λ k l. get_or-set_other entries first (first + 1 + k) (Some v) None (λ e. omega (arith, e)) ∙ next k l))
  where
    here : first < length entries
    here = let t = there 0 (omega arith) in omega (arith, t)

    none : entry entries first ≡ None
    none = let e : first ≡ first + 0 = omega arith in ap (λ (q : ℕ). entry entries q) e ∙ free 0 (omega arith)

    next : (k : ℕ) → k < length vs → entry entries (first + 1 + k) ≡ None
    next k l = let e : first + 1 + k ≡ first + suc k = omega arith in ap (λ (q : ℕ). entry entries q) e ∙ free (suc k) (omega (arith, l))
