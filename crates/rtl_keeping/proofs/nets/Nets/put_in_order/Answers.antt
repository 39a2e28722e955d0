use Rattle.std.proofs.Common.{◌≡◌, rules}
use Rattle.std.proofs.lemmas.Fn.{always_returns_same}
use Rattle.std.proofs.lemmas.List.Sorted.{IsNonDecreasingBy-from_sort_by_key, length_permutation}
use Rattle.rtl_net.specs.declared.signal.Signal.{Signal}
use Rattle.rtl_keeping.proofs.Scopes.{sorted_by_scope}
use Rattle.rtl_keeping.proofs.nets.Nets.put_in_order.Goals as goal

pub returns : goal.returns
returns c =
    let sort = c.sort_by_key.ensures in
    record {
      kinds = search rules;
      starts = search rules;
      signals = λ scopes h.
          sorted_by_scope c.args.self.now.signals.items c.sort_by_key.new.self.items (length_permutation _ _ sort.permutation)
          (IsNonDecreasingBy-from_sort_by_key (λ (s : Signal). s.scope) _ c.in_ok-sort_by_key.ensures.sorted (λ a r q k. search rules))
          (sort.stable (λ s. s.scope) (always_returns_same _ (λ a r. r ≡ a.0.now.scope) _ (λ a r q k. search rules))) scopes h;
    }
