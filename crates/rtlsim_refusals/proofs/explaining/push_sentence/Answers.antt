use Rattle.std.proofs.Common.{◌≡◌, ℕ, Bool, true, false, List, if◌then◌else◌, refl, sym, ap, ◌∙◌}
use Rattle.vhdl_hints.specs.Hinted.{is_nothing}
use Rattle.rtlsim_refusals.proofs.explaining.push_sentence.Goals as goal

then_is : (b : Bool) (x y : List ℕ) → b ≡ true → (if b then x else y) ≡ x
then_is true x y so = refl
then_is false x y so = cc

else_is : (b : Bool) (x y : List ℕ) → b ≡ false → (if b then x else y) ≡ y
else_is false x y not_so = refl
else_is true x y not_so = cc

pub returns-then-is_nothing : goal.returns-then-is_nothing
returns-then-is_nothing g c =
    let nothing = ap is_nothing (sym c.hint_of-hint.ensures) ∙ sym c.is_nothing.ensures ∙ c.if-is_nothing.true in
    rw (then_is _ _ _ nothing) c.push_usual.ensures

pub returns-else-is_nothing : goal.returns-else-is_nothing
returns-else-is_nothing g c =
    let nothing = ap is_nothing (sym c.hint_of-hint.ensures) ∙ sym c.is_nothing.ensures ∙ c.if-is_nothing.false in
    rw (else_is _ _ _ nothing, ← c.hint_of-hint.ensures) c.push_hint.ensures
