-- The marks of what is listed for nets that differ.
use Rattle.std.proofs.Common.{◌≡◌, ℕ, ◌+◌, ◌*◌, ◌/◌, ◌%◌, ◌<◌, ◌≤◌, ◌⊎◌, inl, inr, Bool, true, false, List, length, get_or, set, take, Contains, refl, sym, ap, subst, ◌∙◌, arith}
use Rattle.std.specs.Prelude.{slice_index}
use Rattle.std.proofs.lemmas.Bool.{cases_eq, cases_lt, false≢true}
use Rattle.std.proofs.lemmas.List.{get_or-set_same, get_or-set_other, take_more}
use Rattle.std.proofs.lemmas.List.Elements.{Contains-push_cases}
use Rattle.rtl_net_groups.specs.Groups.{Grouping, IsListed}
use Rattle.rtl_net_groups.specs.Touching.{Chunks, KeepsLeft}

pub still_marked : (marks : List Bool) (place k : ℕ) → place < length marks → get_or marks k true ≡ true → get_or (set marks place true) k true ≡ true
still_marked marks place k within is = by (cases_eq k place)
  where
    by : (k ≡ place) ⊎ (k ≡ place → ⊥) → get_or (set marks place true) k true ≡ true
    by (inl e) = ap (λ n. get_or (set marks place true) n true) e ∙ get_or-set_same marks place true true within
    by (inr ne) = get_or-set_other marks place k true true ne ∙ is

pub marked_more : (numbers : List ℕ) (i number : ℕ) (marks : List Bool) → i < length numbers → get_or numbers i 0 ≡ number
    → ((p : ℕ) → Contains (take i numbers) p → get_or marks (p % 1024) true ≡ true) → get_or marks (number % 1024) true ≡ true
    → (p : ℕ) → Contains (take (i + 1) numbers) p → get_or marks (p % 1024) true ≡ true
marked_more numbers i number marks within is before here p h =
    by (Contains-push_cases (take i numbers) (get_or numbers i 0) p (subst (λ ps. Contains ps p) (take_more numbers i 0 within) h))
  where
    by : Contains (take i numbers) p ⊎ (get_or numbers i 0 ≡ p) → get_or marks (p % 1024) true ≡ true
    by (inl one) = before p one
    by (inr e) = ap (λ n. get_or marks (n % 1024) true) (sym e ∙ is) ∙ here

-- what isn't marked later wasn't marked before
pub unmarked_before : (before after : List Bool) (k : ℕ) → (get_or before k true ≡ true → get_or after k true ≡ true) → get_or after k true ≡ false → get_or before k true ≡ false
unmarked_before before after k kept is = was (get_or before k true) refl
  where
    was : (b : Bool) → get_or before k true ≡ b → get_or before k true ≡ false
    was false e = e
    was true e = absurd (false≢true (sym is ∙ kept e))

-- what is listed for the nets from one on and before an end is marked, or their values are the same
abbrev pub AreMarked : Grouping → (old new : List ℕ) → (first end : ℕ) → (marks : List Bool) → Type 0
AreMarked g old new first end marks = (p n : ℕ) → first ≤ n → n < end → IsListed g p n → get_or marks (p % 1024) true ≡ false → slice_index old n ≡ slice_index new n

-- one net more
pub net_more : (g : Grouping) (old new : List ℕ) (first net : ℕ) (before after : List Bool) → AreMarked g old new first net before
    → ((k : ℕ) → get_or before k true ≡ true → get_or after k true ≡ true)
    → ((p : ℕ) → IsListed g p net → get_or after (p % 1024) true ≡ false → slice_index old net ≡ slice_index new net)
    → AreMarked g old new first (net + 1) after
net_more g old new first net before after done kept here p n from less listed is = by (cases_lt n net)
  where
    by : (n < net) ⊎ (net ≤ n) → slice_index old n ≡ slice_index new n
    by (inl low) = done p n from low listed (unmarked_before before after (p % 1024) (kept (p % 1024)) is)
    by (inr high) =
        let e : n ≡ net = omega (arith, high, less) in
        subst (λ k. slice_index old k ≡ slice_index new k) (sym e) (here p (subst (IsListed g p) e listed) is)

-- one marked chunk more, and the chunks up to the next one, which aren't marked
pub chunk_more : (c : Chunks) (g : Grouping) (old new : List ℕ) (before after : List Bool) (chunk next : ℕ) → KeepsLeft c old new
    → ((p n : ℕ) → n < c.nets → n / 256 < chunk → IsListed g p n → get_or before (p % 1024) true ≡ false → slice_index old n ≡ slice_index new n) → ((k : ℕ) → get_or before k true ≡ true → get_or after k true ≡ true)
    → ((p n : ℕ) → chunk * 256 ≤ n → n < chunk * 256 + 256 → n < c.nets → IsListed g p n → get_or after (p % 1024) true ≡ false → slice_index old n ≡ slice_index new n)
    → ((k : ℕ) → chunk + 1 ≤ k → k < next → get_or c.marks k false ≡ false)
    → (p n : ℕ) → n < c.nets → n / 256 < next → IsListed g p n → get_or after (p % 1024) true ≡ false → slice_index old n ≡ slice_index new n
chunk_more c g old new before after chunk next left done kept here unmarked p n there less listed is = by (cases_lt (n / 256) chunk) (cases_eq (n / 256) chunk)
  where
    by : (n / 256 < chunk) ⊎ (chunk ≤ n / 256) → (n / 256 ≡ chunk) ⊎ (n / 256 ≡ chunk → ⊥) → slice_index old n ≡ slice_index new n
    by (inl low) _ = done p n there low listed (unmarked_before before after (p % 1024) (kept (p % 1024)) is)
    by (inr high) (inl e) = here p n (omega (arith, e)) (omega (arith, e)) there listed is
    by (inr high) (inr ne) = left n (unmarked (n / 256) (omega (arith, high, ne)) less)
