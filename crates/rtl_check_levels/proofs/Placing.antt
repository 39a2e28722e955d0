-- A process waits for the first that feeds it and has no level.
use Rattle.std.proofs.Common.{◌≡◌, ℕ, suc, ◌<◌, ◌≤◌, ◌⊎◌, inl, inr, [], List, length, get_or, set, Option, Some, None, sym, ap, subst, ◌∙◌, arith, Contains, All}
use Rattle.std.specs.Prelude.{IsSome}
use Rattle.smallvec.specs.SmallVec.{SmallVec}
use Rattle.std.proofs.lemmas.List.{get_or_default, get_or_read, length_push}
use Rattle.rtl_check_levels.specs.declared.counting.Counting.{Counting}
use Rattle.rtl_check_levels.specs.Feeding.{Table, feeders_of, listed, IsClosed}
use Rattle.rtl_check_levels.specs.Levels.{level_of}
use Rattle.rtl_check_levels.specs.declared.finding.Finding.{Finding}
use Rattle.rtl_check_levels.specs.declared.finding.Wait.{Wait}
use Rattle.rtl_check_levels.specs.Finding.{IsFinding, WaitingSoFar, IsAmong, itself, earlier, IsRanked, IsWaiting, Waits, Grows, wait_at}
use Rattle.rtl_check_levels.specs.Lowest.{AreLeft}
use Rattle.rtl_check_levels.proofs.Growing.{cases_of, some_has, some_within}
use Rattle.rtl_check_levels.proofs.Waiting.{waiting_passed, waiting_more, still_among, more_wait, one_waits}

-- all that feed a process are there
pub there : (table : Table) (q : ℕ) → IsClosed table → All (λ p. p < length table) (feeders_of table q)
there table q closed k d l = some_within table (get_or (feeders_of table q) k d)
    (closed (get_or (feeders_of table q) k d) q (k, l, get_or_default (feeders_of table q) k (get_or (feeders_of table q) k d) d l))

pub feeders_are : (table : Table) (q : ℕ) (r : Option (SmallVec ℕ)) (v : SmallVec ℕ) → q < length table → r ≡ get_or table q r → r ≡ Some v → feeders_of table q ≡ v.items
feeders_are table q r v l e f = ap listed (sym (get_or_read table q r l e None) ∙ f)

module _ (table : Table) (f : Finding) (q at p : ℕ) (fs : List ℕ) (closed : IsClosed table)
    (feeds : feeders_of table q ≡ fs) (within : at < length fs) (is : p ≡ get_or fs at p) where
  pub feeder : Contains (feeders_of table q) p
  feeder = subst (λ (xs : List ℕ). Contains xs p) (sym feeds) (at, within, sym is)

  pub feeder_there : p < length table
  feeder_there = some_within table p (closed p q feeder)

  pub feeder_in : length f.last.items ≡ length table → p < length f.last.items
  feeder_in e = let l = feeder_there in omega arith

  pub passed_sound : WaitingSoFar table f.levels.items f.waits.items f.last.items f.ready.items f.passed.items → q < length table
      → ((k : ℕ) → get_or f.passed.items q 0 ≤ k → k < at → IsSome (level_of f.levels.items (get_or fs k 0)))
      → WaitingSoFar table f.levels.items f.waits.items f.last.items f.ready.items (set f.passed.items q at)
  passed_sound sound inside have =
      let most : at ≤ length (feeders_of table q) = rw feeds (omega arith) in
      let has : (k : ℕ) → get_or f.passed.items q 0 ≤ k → k < at → IsSome (level_of f.levels.items (get_or (feeders_of table q) k 0)) = rw feeds have in
      waiting_passed table f.levels.items f.waits.items f.last.items f.ready.items f.passed.items sound q at inside most has

-- q begins to wait for p
module _ (q p : ℕ) (old new : Finding) (w : Waits q p old new) where
  pub waits_sound : (counting : Counting) (table : Table) → IsFinding counting table old → p < length table → q < length table
      → level_of old.levels.items p ≡ None → IsFinding counting table new
  waits_sound counting table s there inside open_yet = record {
    levels = rw (w.levels, w.from, w.greatest) s.levels;
    waiting = rw (w.last, w.waits, w.levels, w.ready, w.passed)
        (waiting_more table old.levels.items old.waits.items old.last.items old.ready.items old.passed.items s.waiting p q there inside open_yet);
  }

  pub waits_grows : p < length old.last.items → Grows old new
  waits_grows in_last = record {
    levels = λ r level e. rw w.levels e;
    longer = rw w.waits (let n = length_push old.waits.items (record { row = q; before = get_or old.last.items p 0 }) in omega arith);
    among = λ last x a. rw w.waits (still_among old.waits.items (record { row = q; before = get_or old.last.items p 0 }) last x a);
    waits = λ r x a. rw (w.last, w.waits) (more_wait old.waits.items old.last.items p q in_last r x a);
    less = rw (w.levels, w.ready) (omega arith);
  }

  pub waits_now : p < length old.last.items → IsWaiting new p q
  waits_now in_last = rw (w.last, w.waits) (one_waits old.waits.items old.last.items p q in_last)

-- ---- one after another of those that wait for the same row

pub none_among : (waits : List Wait) (at q : ℕ) → at ≡ 0 → IsAmong waits at q → ⊥
none_among waits _ q e (itself i _ l is) = absurd (omega arith)
none_among waits _ q e (earlier i _ l a) = absurd (omega arith)

-- the last of them, or one before it
pub last_or_before : (waits : List Wait) (i q : ℕ) (w : Wait) → w ≡ wait_at waits i → IsAmong waits (suc i) q → (w.row ≡ q) ⊎ IsAmong waits w.before q
last_or_before waits i q w e (itself _ _ l is) = inl (ap (λ (v : Wait). v.row) e ∙ is)
last_or_before waits i q w e (earlier _ _ l a) = inr (subst (λ (v : Wait). IsAmong waits v.before q) (sym e) a)

-- at the end, whoever is left is fed by another that is left
pub left_open : (counting : Counting) (table : Table) (f : Finding) → IsFinding counting table f → f.ready.items ≡ [] → ((q : ℕ) → IsRanked table f q) → AreLeft table f.levels.items
left_open counting table f s done ranked q inside unplaced =
    let (p, waits, feeds) = ranked q inside unplaced in (p, feeds, still p waits (cases_of (level_of f.levels.items p)))
  where
    idle : (p : ℕ) → IsWaiting f p q → Contains f.ready.items p ⊎ (get_or f.last.items p 0 ≡ 0) → ⊥
    idle p waits (inl ready) = let c : Contains [] p = subst (λ (xs : List ℕ). Contains xs p) done ready in absurd (let l : c.0 < 0 = c.1 in omega arith)
    idle p waits (inr none) = none_among f.waits.items (get_or f.last.items p 0) q none waits

    still : (p : ℕ) → IsWaiting f p q → (level_of f.levels.items p ≡ None) ⊎ ((x : ℕ) × (level_of f.levels.items p ≡ Some x)) → level_of f.levels.items p ≡ None
    still p waits (inl e) = e
    still p waits (inr (x, e)) = absurd (idle p waits (s.waiting.idle p (some_has (level_of f.levels.items p) x e)))
