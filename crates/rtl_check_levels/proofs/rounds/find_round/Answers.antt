use Rattle.std.proofs.Common.{◌≡◌, ℕ, ◌<◌, ◌++◌, [], List, length, get_or, set, take, drop, nat_lt, Some, None, Result, Ok, Err, sym, ap, subst, ◌∙◌, arith}
use Rattle.std.specs.Prelude.{IfOk}
use Rattle.std.specs.List.{IsFirstBest}
use Rattle.std.specs.Global.{Vec}
use Rattle.std.proofs.Math.ListN.{length-set}
use Rattle.std.proofs.lemmas.List.{get_or_read}
use Rattle.rtl_check_levels.specs.Feeding.{Table}
use Rattle.rtl_check_levels.specs.Rounds.{AreFed, IsRound, IsListedOnce}
use Rattle.rtl_check_levels.proofs.Growing.{some_within}
use Rattle.rtl_check_levels.proofs.Settling.{one_less_open}
use Rattle.rtl_check_levels.proofs.Rotating.{fed_join, round_back, turned_at, known_more}
use Rattle.rtl_check_levels.proofs.Listing.{AreApart, apart_drop, listed_once, path_apart, noted_more}
use Rattle.rtl_check_levels.proofs.rounds.find_round.Goals as goal

pub from_lowest-requires : goal.from_lowest-requires
from_lowest-requires c =
    let v = c.loop-first.invariant in
    let within : c.loop-first.at < length c.loop-first.places.items = (let l = some_within c.args.table.now c.loop-first.at v.inside in let e = v.each in omega arith) in
    let (k, is) = v.known c.loop-first.at c.in-Some.first (sym (get_or_read c.loop-first.places.items c.loop-first.at c.index.result.now within c.index.ensures None) ∙ c.in-Some.is) in
    let e = ap length c.deref.ensures.value in
    omega arith

turned_result : {E : Type 0} (table : Table) (round : List ℕ) (P : ℕ → Type 0) (r : Result (Vec ℕ) E) → IsRound table round
    → IfOk r (λ turned. (k : ℕ) × P k × (turned.items ≡ drop k round ++ take k round)) → IfOk r (λ turned. IsRound table turned.items)
turned_result table round P (Ok v) is (k, p, e) = subst (IsRound table) (sym e) (turned_at table k round is)
turned_result table round P (Err e) is h = tt

once_result : {E : Type 0} (round : List ℕ) (r : Result (Vec ℕ) E) → AreApart round
    → IfOk r (λ turned. (k : ℕ) × IsFirstBest nat_lt round (length round) k × (turned.items ≡ drop k round ++ take k round)) → IfOk r (λ turned. IsListedOnce turned.items)
once_result round (Ok v) apart (k, best, e) = subst IsListedOnce (sym e) (listed_once round k apart best)
once_result round (Err e) apart h = tt

pub returns-in-Some-clause-round : goal.returns-in-Some-clause-round
returns-in-Some-clause-round c =
    let v = c.loop-first.invariant in
    let table = c.args.table.now in
    let path = c.loop-first.path.items in
    let within : c.loop-first.at < length c.loop-first.places.items = (let l = some_within table c.loop-first.at v.inside in let e = v.each in omega arith) in
    let (k, is) = v.known c.loop-first.at c.in-Some.first (sym (get_or_read c.loop-first.places.items c.loop-first.at c.index.result.now within c.index.ensures None) ∙ c.in-Some.is) in
    let round = subst (λ (xs : List ℕ). IsRound table (drop c.in-Some.first xs)) (sym c.deref.ensures.value) (round_back table path c.in-Some.first c.loop-first.at k is v.fed) in
    turned_result table (drop c.in-Some.first c.deref.result.now) _ c.from_lowest.result round c.from_lowest.ensures

pub returns-in-Some-clause-once : goal.returns-in-Some-clause-once
returns-in-Some-clause-once c =
    let path = c.loop-first.path.items in
    let apart = apart_drop c.in-Some.first path (path_apart c.loop-first.places.items path c.loop-first.invariant.noted) in
    once_result (drop c.in-Some.first c.deref.result.now) c.from_lowest.result (subst (λ (xs : List ℕ). AreApart (drop c.in-Some.first xs)) (sym c.deref.ensures.value) apart) c.from_lowest.ensures

pub loop-first-preserved : goal.loop-first-preserved
loop-first-preserved c =
    let v = c.loop-first.invariant in
    let table = c.args.table.now in
    let at = c.loop-first.at in
    let path = c.loop-first.path.items in
    let places = c.loop-first.places.items in
    let next = c.next_open-at.ensures in
    let items = c.in_ok-push.ensures.items in
    let within : at < length places = (let l = some_within table at v.inside in let e = v.each in omega arith) in
    let n : c.len.result ≡ length path = (let e = c.len.ensures in let o = c.loop-first.path.ok in omega arith) in
    let none = sym (get_or_read places at c.index.result.now within c.index.ensures None) ∙ c.in_default.is in
    record {
      each = length-set places at (Some c.len.result) ∙ v.each;
      fed = subst (λ (xs : List ℕ). AreFed table xs c.next_open-at.result) (sym items) (fed_join table path at [] c.next_open-at.result v.fed next.among);
      inside = c.requires.closed c.next_open-at.result at next.among;
      unplaced = next.unplaced;
      known = λ r i e. subst (λ (xs : List ℕ). (i < length xs) × (get_or xs i 0 ≡ r)) (sym items) (known_more places path at c.len.result within n v.known r i e);
      noted = subst (λ (xs : List ℕ). (i : ℕ) → i < length xs → get_or (set places at (Some c.len.result)) (get_or xs i 0) None ≡ Some i) (sym items)
          (noted_more places path at c.len.result within n none v.noted);
    }

pub loop-first-smaller : goal.loop-first-smaller
loop-first-smaller c =
    let v = c.loop-first.invariant in
    let table = c.args.table.now in
    let at = c.loop-first.at in
    let places = c.loop-first.places.items in
    let within : at < length places = (let l = some_within table at v.inside in let e = v.each in omega arith) in
    let none = sym (get_or_read places at c.index.result.now within c.index.ensures None) ∙ c.in_default.is in
    let n = one_less_open places at c.len.result within none in
    omega arith
