use Rattle.std.proofs.Common.{◌≡◌, ℕ, ◌<◌, List, length, sym, subst, ◌∙◌, arith, All}
use Rattle.rtl_check_levels.specs.Feeding.{feeders_of}
use Rattle.rtl_check_levels.specs.Lowest.{IsLowestOpen}
use Rattle.rtl_check_levels.proofs.Growing.{some_within}
use Rattle.rtl_check_levels.proofs.Placing.{there, feeders_are}
use Rattle.rtl_check_levels.proofs.rounds.next_open.Goals as goal

pub lowest_open-requires : goal.lowest_open-requires
lowest_open-requires c k d l =
    let table = c.args.table.now in
    let q = c.args.q in
    let f = feeders_are table q c.index-table-q.result c.in-Some.feeders (some_within table q c.requires.inside) c.index-table-q.is c.in-Some.is in
    let e : feeders_of table q ≡ c.deref.result.now = f ∙ sym c.deref.ensures in
    let m = subst (λ (xs : List ℕ). All (λ p. p < length table) xs) e (there table q c.requires.closed) k d l in
    let n = c.requires.each in
    omega arith

pub returns-in-Some-lowest_open : goal.returns-in-Some-lowest_open
returns-in-Some-lowest_open c =
    let table = c.args.table.now in
    let q = c.args.q in
    let f = feeders_are table q c.index-table-q.result c.in-Some.feeders (some_within table q c.requires.inside) c.index-table-q.is c.in-Some.is in
    let e : feeders_of table q ≡ c.deref.result.now = f ∙ sym c.deref.ensures in
    subst (λ (xs : List ℕ). IsLowestOpen xs c.args.levels.now c.in-Some-lowest_open.p) (sym e) c.in-Some-lowest_open.ensures
