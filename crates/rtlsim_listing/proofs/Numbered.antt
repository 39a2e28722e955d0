-- An element by its number, where it is there and where it isn't.
use Rattle.std.proofs.Common.{◌≡◌, ℕ, ◌<◌, ◌≤◌, false, ltb, List, Some, None, length, get_or, refl, arith, sym, ap, ◌∙◌}
use Rattle.std.specs.Prelude.{slice_get}
use Rattle.std.proofs.lemmas.Bool.Decides.{nat_tests}
use Rattle.std.proofs.lemmas.Option.{slice_get_past, slice_get_read}

pub there : {A : Type 0} (xs ys : List A) (i : ℕ) (x : A) → xs ≡ ys → i < length xs → x ≡ get_or xs i x → slice_get ys i ≡ Some x
there {A} xs ys i x are l is = ap (λ (l : List A). slice_get l i) (sym are) ∙ slice_get_read xs (length xs) i x refl l is

pub missing : {A : Type 0} (xs ys : List A) (i : ℕ) → xs ≡ ys → false ≡ ltb i (length xs) → slice_get ys i ≡ None
missing {A} xs ys i are is =
    let past : length xs ≤ i = grind (arith, nat_tests, is) in
    ap (λ (l : List A). slice_get l i) (sym are) ∙ slice_get_past xs i past
