use Rattle.std.proofs.Common.{◌≡◌, ℕ, suc, ◌-◌, ◌≤◌, List, Option, Some, None, Result, ap, subst, arith}
use Rattle.std.specs.Option.{SomeIff}
use Rattle.std.specs.Ordering.{nat_cmp}
use Rattle.std.specs.List.Sorted.{IsBinarySearchResult}
use Rattle.rtl_stim.proofs.Firsts.{AreFirsts, firsts_kept, is_at, is_behind}
use Rattle.rtl_stim.proofs.stimulus.Stimulus.place_of.Goals as goal
use Rattle.rtl_stim.proofs.stimulus.Stimulus.place_of.Goals.{After-binary_search}

one_before : (r : Option ℕ) (b q : ℕ) → SomeIff r (1 ≤ b) (b - 1) → b ≡ suc q → r ≡ Some q
one_before None b q h is = absurd (h (omega (arith, is)))
one_before (Some x) b q h is = let e : x ≡ q = omega (arith, is, h.1) in ap Some e

module _ (c : After-binary_search) where
  firsts : AreFirsts c.args.self.now.inputs c.self.inside.firsts.items
  firsts = firsts_kept c.self.inside c.args.self.now c.self.view_is c.self.invariant

  answer : {r : Result ℕ ℕ} → c.binary_search.result ≡ r → IsBinarySearchResult (λ y. nat_cmp y c.args.net) c.self.inside.firsts.items r
  answer is =
      subst (λ (r : Result ℕ ℕ). IsBinarySearchResult (λ y. nat_cmp y c.args.net) c.self.inside.firsts.items r) is
      (subst (λ (ns : List ℕ). IsBinarySearchResult (λ y. nat_cmp y c.args.net) ns c.binary_search.result) c.deref.ensures.value c.binary_search.ensures.position)

pub returns-in-Ok-clause-only : goal.returns-in-Ok-clause-only
returns-in-Ok-clause-only c = λ q within there.
    let at = (goal.at.returns-in-Ok-clause-only c).After-binary_search in
    ap Some (is_at c.args.self.now.inputs c.self.inside.firsts.items (firsts at) c.args.net c.in-Ok.place q (answer at c.in-Ok.is) within there)

pub returns-in-Err-clause-only : goal.returns-in-Err-clause-only
returns-in-Err-clause-only c = λ q within there.
    let at = (goal.at.returns-in-Err-clause-only c).After-binary_search in
    one_before c.checked_sub.result c.in-Err.behind q c.checked_sub.ensures
    (is_behind c.args.self.now.inputs c.self.inside.firsts.items (firsts at) c.args.net c.in-Err.behind q (answer at c.in-Err.is) within there)
