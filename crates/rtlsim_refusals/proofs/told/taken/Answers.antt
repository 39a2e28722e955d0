use Rattle.std.proofs.Common.{◌≡◌, Some, sym, ◌∙◌}
use Rattle.rtlsim_refusals.proofs.told.taken.Goals as goal

some : {A : Type 0} (x y : A) → Some x ≡ Some y → x ≡ y
some x y e = cc

pub returns : goal.returns
returns c text went =
    let whole = went.whole (sym c.failed.ensures ∙ c.if-failed.false) in
    some _ _ c.into_inner.ensures ∙ whole.1
