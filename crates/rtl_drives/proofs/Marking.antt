-- Marks of the places of a span.
use Rattle.std.proofs.Common.{◌≡◌, ℕ, zero, suc, ◌+◌, ◌<◌, ◌≤◌, Bool, true, false, List, length, get_or, set, replicate, refl, ap, ◌∙◌, arith, ◌⊎◌, inl, inr}
use Rattle.std.proofs.lemmas.Bool.{cases_eq, cases_lt}
use Rattle.std.proofs.lemmas.List.{get_or-set_same, get_or-set_other, get_or_past, length-set}
use Rattle.std.proofs.lemmas.List.Edits.{sets}
use Rattle.rtl_drives.specs.Marked.{marked, HasNoMark}
use Rattle.rtl_drives.proofs.Assigned.{unmarked}

pub marked_sets : (first len : ℕ) (marks : List Bool) → marked first len marks ≡ sets marks first (replicate len true)
marked_sets first zero marks = refl
marked_sets first (suc len) marks =
    let next : first + 1 ≡ suc first = omega arith in
    marked_sets (first + 1) len (set marks first true) ∙ ap (λ (n : ℕ). sets (set marks first true) n (replicate len true)) next

pub length-marked : (first len : ℕ) (marks : List Bool) → length (marked first len marks) ≡ length marks
length-marked first zero marks = refl
length-marked first (suc len) marks = length-marked (first + 1) len (set marks first true) ∙ length-set marks first true

-- a place outside the span is as it was
pub marked_other : (first len place : ℕ) (marks : List Bool) → ((k : ℕ) → k < len → first + k ≡ place → ⊥) → get_or (marked first len marks) place false ≡ get_or marks place false
marked_other first zero place marks out = refl
marked_other first (suc len) place marks out =
    marked_other (first + 1) len place (set marks first true) (λ k l e. out (suc k) (omega arith) (omega (arith, e)))
    ∙ get_or-set_other marks first place true false (λ e. out 0 (omega arith) (omega (arith, e)))

-- what is marked stays so
pub still : (first len place : ℕ) (marks : List Bool) → get_or marks place false ≡ true → get_or (marked first len marks) place false ≡ true
still first zero place marks h = h
still first (suc len) place marks h = still (first + 1) len place (set marks first true) (by (cases_eq place first) (cases_lt first (length marks)))
  where
    by : (place ≡ first) ⊎ (place ≡ first → ⊥) → (first < length marks) ⊎ (length marks ≤ first) → get_or (set marks first true) place false ≡ true
    by (inl e) (inl l) = rw e (get_or-set_same marks first true false l)
    by (inl e) (inr g) = let f = get_or_past marks place false (omega (arith, e, g)) in absurd cc
    by (inr n) q = get_or-set_other marks first place true false n ∙ h

-- a place of the span is marked
pub marked_in : (first len place : ℕ) (marks : List Bool) → first ≤ place → place < first + len → place < length marks → get_or (marked first len marks) place false ≡ true
marked_in first zero place marks low high there = absurd (omega arith)
marked_in first (suc len) place marks low high there =
    by (cases_eq place first) (λ n. marked_in (first + 1) len place (set marks first true) (omega (arith, n, low)) (omega (arith, high)) (omega (arith, there, length-set marks first true)))
  where
    by : (place ≡ first) ⊎ (place ≡ first → ⊥) → ((place ≡ first → ⊥) → get_or (marked (first + 1) len (set marks first true)) place false ≡ true)
        → get_or (marked (first + 1) len (set marks first true)) place false ≡ true
    by (inl e) later = still (first + 1) len place (set marks first true) (rw e (get_or-set_same marks first true false (omega (arith, e, there))))
    by (inr n) later = later n

-- where none is marked with the span, none was marked before
pub none_before : (first len : ℕ) (marks : List Bool) → HasNoMark (marked first len marks) → HasNoMark marks
none_before first len marks none place = by (get_or marks place false) refl
  where
    by : (b : Bool) → get_or marks place false ≡ b → get_or marks place false ≡ false
    by true h = let s = still first len place marks h in let n = none place in absurd cc
    by false h = h

pub all_off : (marks : List Bool) → HasNoMark marks → marks ≡ replicate (length marks) false
all_off marks none = unmarked marks (λ place h. let n = none place in absurd cc)
