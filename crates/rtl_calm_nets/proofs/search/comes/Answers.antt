use Rattle.std.proofs.Common.{List, ℕ, Contains, get_or, subst}
use Rattle.std.proofs.lemmas.List.{get_or_default}
use Rattle.rtl_calm_nets.proofs.search.comes.Goals as goal

pub settle-requires : goal.settle-requires
settle-requires c =
    λ k d l.
    let path = c.deref.result.now in
    let x = get_or path k d in
    c.in_ok-comes.ensures.there x (subst (λ (xs : List ℕ). Contains xs x) c.deref.ensures.value (k, l, get_or_default path k x d l))
