use Rattle.std.proofs.Common.{◌≡◌, List, ℕ, ◌++◌, Some, map, sym, ap, ◌∙◌}
use Rattle.rtl_net.specs.Nets.{scope_view, signal_view}
use Rattle.rtl_signal_names.specs.Names as names
use Rattle.rtl_signal_names.proofs.naming.full_name.Goals as goal

some : {A : Type 0} (x y : A) → Some x ≡ Some y → x ≡ y
some x y e = cc

pub returns : goal.returns
returns c =
    let whole = c.push_name.ensures.whole (sym c.failed.ensures ∙ c.if-failed.false) in
    let name = names.full_name (map scope_view c.args.scopes.now) (signal_view c.args.signal.now) in
    some _ _ c.into_inner.ensures ∙ whole.1 ∙ ap (λ (xs : List ℕ). xs ++ name) (some _ _ c.new-name.ensures.bytes ∙ c.new.ensures.items)
