use Rattle.std.proofs.Common.{◌≡◌, ℕ, zero, suc, ◌<◌, [], List, length, get_or, replicate, Option, Some, None, sym, subst, refl, arith, rules, inr, Contains}
use Rattle.std.proofs.Math.ListN.{length-replicate}
use Rattle.std.specs.Global.{Vec}
use Rattle.rtl_check_levels.specs.declared.counting.Counting.{Counting}
use Rattle.rtl_check_levels.specs.declared.finding.Wait.{Wait}
use Rattle.rtl_check_levels.specs.Feeding.{Table}
use Rattle.rtl_check_levels.specs.Finding.{IsFinding, LevelsSoFar, WaitingSoFar}
use Rattle.rtl_check_levels.proofs.finding.Finding.new.Goals as goal

apart : {o : Option ℕ} {a : ℕ} → o ≡ None → o ≡ Some a → ⊥
apart a b = cc

all_none : {X : Type 0} (n q : ℕ) → get_or (replicate {A = Option X} n None) q None ≡ None
all_none zero q = refl
all_none (suc n) zero = refl
all_none (suc n) (suc q) = all_none n q

all_zero : (n q : ℕ) → get_or (replicate {A = ℕ} n 0) q 0 ≡ 0
all_zero zero q = refl
all_zero (suc n) zero = refl
all_zero (suc n) (suc q) = all_zero n q

no_levels : (counting : Counting) (table : Table) → LevelsSoFar counting table (replicate {A = Option ℕ} (length table) None) (replicate {A = Option ℕ} (length table) None) 0
no_levels counting table = record {
  each_row = length-replicate {A = Option ℕ} (length table) None;
  each_from = length-replicate {A = Option ℕ} (length table) None;
  unplaced = λ q _. all_none {X = ℕ} (length table) q;
  inside = λ q level e. absurd (apart (all_none {X = ℕ} (length table) q) e);
  stand = λ q level e. absurd (apart (all_none {X = ℕ} (length table) q) e);
  none_above = λ q level e. absurd (apart (all_none {X = ℕ} (length table) q) e);
  met = λ ne. absurd (ne refl);
  small = λ q level e. absurd (apart (all_none {X = ℕ} (length table) q) e);
}

none_wait : (table : Table) → WaitingSoFar table (replicate {A = Option ℕ} (length table) None) [] (replicate {A = ℕ} (length table) 0) [] (replicate {A = ℕ} (length table) 0)
none_wait table = record {
  each_last = length-replicate {A = ℕ} (length table) 0;
  each_passed = length-replicate {A = ℕ} (length table) 0;
  idle = λ p s. inr (all_zero (length table) p);
  last_there = λ p. rw (all_zero (length table) p) (omega arith);
  rows_there = λ i l. absurd (omega arith);
  in_order = λ i l. absurd (omega arith);
  ready_there = λ p c. absurd (nothing p c);
  passed_most = λ q. rw (all_zero (length table) q) (omega arith);
  passed_have = λ q k l. absurd (let m : k < 0 = subst (λ (n : ℕ). k < n) (all_zero (length table) q) l in omega arith);
}
  where
    nothing : (x : ℕ) → Contains [] x → ⊥
    nothing x c = let l : c.0 < 0 = c.1 in omega arith

made : (counting : Counting) (table : Table) (levels from : Vec (Option ℕ)) (waits : Vec Wait) (last passed ready : Vec ℕ)
    → levels.items ≡ replicate {A = Option ℕ} (length table) None → from.items ≡ replicate {A = Option ℕ} (length table) None
    → waits.items ≡ [] → last.items ≡ replicate {A = ℕ} (length table) 0 → passed.items ≡ replicate {A = ℕ} (length table) 0 → ready.items ≡ []
    → IsFinding counting table (record { levels = levels; from = from; greatest = 0; waits = waits; last = last; passed = passed; ready = ready })
made counting table levels from waits last passed ready a b n z d e = record {
  levels = subst (λ (xs : List (Option ℕ)). LevelsSoFar counting table xs from.items 0) (sym a) (subst (λ (ys : List (Option ℕ)). LevelsSoFar counting table (replicate {A = Option ℕ} (length table) None) ys 0) (sym b) (no_levels counting table));
  waiting = rw (a, n, z, d, e) (none_wait table);
}

pub returns-clause-sound : goal.returns-clause-sound
returns-clause-sound c counting =
    made counting c.args.table.now c.in_ok-vec.field-0 c.in_ok-vec-2.field-0 c.new.result c.in_ok-vec-3.field-0 c.in_ok-vec-4.field-0 c.new-2.result
    (c.in_ok-vec.ensures.items_if_clones_equal (search rules)) (c.in_ok-vec-2.ensures.items_if_clones_equal (search rules))
    c.new.ensures.items (c.in_ok-vec-3.ensures.items_if_clones_equal (λ y e. e)) (c.in_ok-vec-4.ensures.items_if_clones_equal (λ y e. e)) c.new-2.ensures.items
