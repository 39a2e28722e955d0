use Rattle.std.proofs.Common.{◌≡◌, rules}
use Rattle.std.proofs.lemmas.Fn.{always_returns_same}
use Rattle.std.proofs.lemmas.List.Sorted.{IsNonDecreasingBy-from_sort_by_key, length_permutation}
use Rattle.rtl_expect.specs.declared.expectation.Expectation.{Expectation}
use Rattle.rtl_expect.proofs.Sorting.{in_order_sorted, sorted_are_placed}
use Rattle.rtl_expect.proofs.reading.put_in_order.Goals as goal

pub returns-clause-placed : goal.returns-clause-placed
returns-clause-placed c =
    let sort = c.sort_by_key.ensures in
    sorted_are_placed c.args.list.now.items c.sort_by_key.new.self.items (length_permutation _ _ sort.permutation)
    (IsNonDecreasingBy-from_sort_by_key (λ (e : Expectation). e.time) _ c.in_ok-sort_by_key.ensures.sorted (λ a r q k. search rules))
    (sort.stable (λ e. e.time) (always_returns_same _ (λ a r. r ≡ a.0.now.time) _ (λ a r q k. search rules)))

pub returns-clause-ordered : goal.returns-clause-ordered
returns-clause-ordered c =
    in_order_sorted c.sort_by_key.new.self.items
    (IsNonDecreasingBy-from_sort_by_key (λ (e : Expectation). e.time) _ c.in_ok-sort_by_key.ensures.sorted (λ a r q k. search rules))
