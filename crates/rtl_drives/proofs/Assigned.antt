-- Entries: lists without one, and entries by their marks and values.
use Rattle.std.proofs.Common.{◌≡◌, ℕ, zero, suc, ◌+◌, ◌-◌, ◌<◌, ◌≤◌, Bool, true, false, List, [], ◌∷◌, ◌++◌, length, take, drop, get_or, set, replicate, Option, Some, None, refl, sym, ap, ◌∙◌, arith, ◌⊎◌, inl, inr}
use Rattle.std.specs.Prelude.{IsSome}
use Rattle.std.specs.List.{between, count_by}
use Rattle.std.specs.Option.{is_some}
use Rattle.std.proofs.lemmas.Bool.{cases_eq, cases_lt}
use Rattle.std.proofs.lemmas.List.{get_or-drop, get_or-set_same, get_or-set_other, get_or_past, set_past, length-set, length-replicate, set-get_or, append_assoc, drop-drop}
use Rattle.std.proofs.lemmas.List.Edits.{sets, sets-eq, length-between}
use borrow.Rule.Slice.PartMut.{put_mid}
use Rattle.rtl_drives.specs.Spans.{written}
use Rattle.rtl_drives.specs.Tracked.{entry, entry_of, entries_of, AreAssigned}

none_left : (o : Option ℕ) → (IsSome o → ⊥) → o ≡ None
none_left None h = refl
none_left (Some x) h = absurd (h refl)

-- a list without an entry
pub no_entry : (entries : List (Option ℕ)) → ((place : ℕ) → IsSome (entry entries place) → ⊥) → entries ≡ replicate (length entries) None
no_entry [] h = refl
no_entry (o ∷ entries) h = rw (none_left o (h 0)) (ap (λ os. None ∷ os) (no_entry entries (λ place. h (suc place))))

none_there : (many place : ℕ) → is_some (entry (replicate many None) place) ≡ true → ⊥
none_there zero place h = absurd cc
none_there (suc many) zero h = absurd cc
none_there (suc many) (suc place) h = none_there many place h

none_counted : (many : ℕ) → count_by {X = Option ℕ} is_some (replicate many None) ≡ 0
none_counted zero = refl
none_counted (suc many) = omega (arith, none_counted many)

pub none_assigned : (many : ℕ) → AreAssigned (replicate many None) []
none_assigned many = record {
  there = λ k l. absurd (omega (arith, l));
  pass = λ k l. absurd (omega (arith, l));
  are_all = λ place h. absurd (none_there many place h);
  each_once = sym (none_counted many);
}

-- ---- marks and values

pub as_many_entries : (marks : List Bool) (values : List ℕ) → length (entries_of marks values) ≡ length marks
as_many_entries [] values = refl
as_many_entries (m ∷ marks) values = ap suc (as_many_entries marks (drop 1 values))

pub entry_at : (marks : List Bool) (values : List ℕ) (place : ℕ) → entry (entries_of marks values) place ≡ entry_of (get_or marks place false) (get_or values place 0)
entry_at [] values place = refl
entry_at (m ∷ marks) values zero = refl
entry_at (m ∷ marks) values (suc place) =
    let next : 1 + place ≡ suc place = omega arith in
    entry_at marks (drop 1 values) place
    ∙ ap (entry_of (get_or marks place false)) (get_or-drop 1 values place 0 ∙ ap (λ (n : ℕ). get_or values n 0) next)

some_where_marked : (mark : Bool) (value : ℕ) → is_some (entry_of mark value) ≡ mark
some_where_marked true value = refl
some_where_marked false value = refl

-- a place has an entry where it is marked
pub is_marked : (marks : List Bool) (values : List ℕ) (place : ℕ) → is_some (entry (entries_of marks values) place) ≡ get_or marks place false
is_marked marks values place = ap is_some (entry_at marks values place) ∙ some_where_marked (get_or marks place false) (get_or values place 0)

pub no_marks : (many : ℕ) (values : List ℕ) → entries_of (replicate many false) values ≡ replicate many None
no_marks zero values = refl
no_marks (suc many) values = ap (λ es. None ∷ es) (no_marks many (drop 1 values))

-- ---- what is marked

pub set_marked : (marks : List Bool) (values : List ℕ) (place value : ℕ) → place < length values
    → entries_of (set marks place true) (set values place value) ≡ set (entries_of marks values) place (Some value)
set_marked [] values place value within = refl
set_marked (m ∷ marks) [] place value within = absurd (omega arith)
set_marked (m ∷ marks) (v ∷ values) zero value within = refl
set_marked (m ∷ marks) (v ∷ values) (suc place) value within = ap (λ es. entry_of m v ∷ es) (set_marked marks values place value (omega arith))

pub set_again : (marks : List Bool) (values : List ℕ) (place value : ℕ) → place < length values → get_or marks place false ≡ true
    → entries_of marks (set values place value) ≡ set (entries_of marks values) place (Some value)
set_again marks values place value within marked =
    ap (λ (ms : List Bool). entries_of ms (set values place value)) (sym (set-get_or marks place false) ∙ ap (set marks place) marked)
    ∙ set_marked marks values place value within

-- what is written to a part of a list is set place by place
pub part_is_set : {X : Type 0} (first len : ℕ) (xs ys : List X) → length ys ≡ len → first + len ≤ length xs → put_mid first len xs ys ≡ sets xs first ys
part_is_set {X = X} first len xs ys many within =
    sym (sets-eq ys xs first (omega (arith, many)) ∙ append_assoc (take first xs) ys (drop (first + length ys) xs)
    ∙ ap (λ (rest : List X). take first xs ++ (ys ++ rest)) (ap (λ (n : ℕ). drop (first + n) xs) many ∙ sym (drop-drop len first xs)))

pub length_sets : {X : Type 0} (ys xs : List X) (first : ℕ) → length (sets xs first ys) ≡ length xs
length_sets [] xs first = refl
length_sets (y ∷ ys) xs first = length_sets ys (set xs first y) (suc first) ∙ length-set xs first y

-- a part that is filled, and one that is made
pub part_filled : {X : Type 0} (first len : ℕ) (xs new : List X) (y : X) → first + len ≤ length xs → new ≡ replicate (length (between first (first + len) xs)) y
    → put_mid first (first + len - first) xs new ≡ sets xs first (replicate len y)
part_filled {X = X} first len xs new y within is =
    let back : first + len - first ≡ len = omega arith in
    let many : length (between first (first + len) xs) ≡ len = length-between xs first (first + len) within ∙ back in
    ap (put_mid first (first + len - first) xs) (is ∙ ap (λ (n : ℕ). replicate n y) many)
    ∙ ap (λ (n : ℕ). put_mid first n xs (replicate len y)) back
    ∙ part_is_set first len xs (replicate len y) (length-replicate len y) within

pub part_made : {X : Type 0} (first len : ℕ) (xs new ys : List X) → length ys ≡ len → first + len ≤ length xs → new ≡ ys
    → put_mid first (first + len - first) xs new ≡ sets xs first ys
part_made {X = X} first len xs new ys many within is =
    let back : first + len - first ≡ len = omega arith in
    ap (put_mid first (first + len - first) xs) is ∙ ap (λ (n : ℕ). put_mid first n xs ys) back ∙ part_is_set first len xs ys many within

-- the places from `first` on are marked, and have new values
pub set_all : (first : ℕ) (marks : List Bool) (values new : List ℕ) → first + length new ≤ length values
    → entries_of (sets marks first (replicate (length new) true)) (sets values first new) ≡ written first new (entries_of marks values)
set_all first marks values [] within = refl
set_all first marks values (v ∷ new) within =
    let next : suc first ≡ first + 1 = omega arith in
    set_all (suc first) (set marks first true) (set values first v) new (omega (arith, length-set values first v))
    ∙ ap (written (suc first) new) (set_marked marks values first v (omega arith))
    ∙ ap (λ (n : ℕ). written n new (set (entries_of marks values) first (Some v))) next

-- ---- what is taken off

off : (marks : List Bool) (place : ℕ) → get_or (set marks place false) place false ≡ false
off marks place = by (cases_lt place (length marks))
  where
    by : (place < length marks) ⊎ (length marks ≤ place) → get_or (set marks place false) place false ≡ false
    by (inl l) = get_or-set_same marks place false false l
    by (inr g) = ap (λ (ms : List Bool). get_or ms place false) (set_past marks place false g) ∙ get_or_past marks place false g

pub unmarked : (marks : List Bool) → ((place : ℕ) → get_or marks place false ≡ true → ⊥) → marks ≡ replicate (length marks) false
unmarked [] h = refl
unmarked (false ∷ marks) h = ap (λ ms. false ∷ ms) (unmarked marks (λ place. h (suc place)))
unmarked (true ∷ marks) h = absurd (h 0 refl)

-- what is marked yet was marked, and isn't among those taken off
pub still_marked : (len first : ℕ) (marks : List Bool) (place : ℕ) → get_or (sets marks first (replicate len false)) place false ≡ true
    → (get_or marks place false ≡ true) × ((k : ℕ) → k < len → first + k ≡ place → ⊥)
still_marked zero first marks place h = (h, λ k l e. omega (arith, l))
still_marked (suc len) first marks place h = by (still_marked len (suc first) (set marks first false) place h) (cases_eq place first)
  where
    by : (get_or (set marks first false) place false ≡ true) × ((k : ℕ) → k < len → suc first + k ≡ place → ⊥) → (place ≡ first) ⊎ (place ≡ first → ⊥)
        → (get_or marks place false ≡ true) × ((k : ℕ) → k < suc len → first + k ≡ place → ⊥)
    by later (inl e) =
        let here = ap (λ (p : ℕ). get_or (set marks first false) p false) e ∙ off marks first in
        let marked = later.0 in
        absurd cc
    by later (inr n) = (sym (get_or-set_other marks first place false false n) ∙ later.0, λ k l e. at k (cases_eq k 0) l e)
      where
        at : (k : ℕ) → (k ≡ 0) ⊎ (k ≡ 0 → ⊥) → k < suc len → first + k ≡ place → ⊥
        at k (inl z) l e = n (omega (arith, z, e))
        at zero (inr z) l e = absurd (z refl)
        at (suc k) (inr z) l e = later.1 k (omega (arith, l)) (omega (arith, e))
