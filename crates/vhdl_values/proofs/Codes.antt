-- Values and their places in the order of the package.
use Rattle.std.proofs.Common.{◌≡◌, ◌<◌, List, [], ◌∷◌, map, refl, sym, ap, ◌∙◌, arith}
use Rattle.std.specs.Bool.{Decides}
use Rattle.std.proofs.lemmas.Slice.Eq.{bytes_eq-Decides}
use Rattle.std.proofs.lemmas.Bool.Decides.{Decides-like, Decides-eqb}
use Rattle.vhdl_values.specs.declared.scalar.Nine.{Nine}
use Rattle.vhdl_values.specs.declared.scalar.Nine.TheVariants.{U}
use Rattle.vhdl_values.specs.Scalar.{code_of, value_of_code, is_same, are_same}

pub value_of_code-code_of : (v : Nine) → value_of_code (code_of v) ≡ v
value_of_code-code_of U = refl
value_of_code-code_of _ = refl

pub code_of_below : (v : Nine) → code_of v < 9
code_of_below U = omega arith
code_of_below _ = omega arith

-- two values of one code are one value
pub code_of_injective : (a b : Nine) → code_of a ≡ code_of b → a ≡ b
code_of_injective a b e = sym (value_of_code-code_of a) ∙ ap value_of_code e ∙ value_of_code-code_of b

pub map-code_of_injective : (as' bs : List Nine) → map code_of as' ≡ map code_of bs → as' ≡ bs
map-code_of_injective [] [] e = refl
map-code_of_injective (a ∷ as') (b ∷ bs) e =
    let first : code_of a ≡ code_of b = cc in
    let rest : map code_of as' ≡ map code_of bs = cc in
    let here = code_of_injective a b first in
    let there = map-code_of_injective as' bs rest in
    cc
map-code_of_injective _ _ e = cc

-- the tests say what they are named for
pub is_same-Decides : (a b : Nine) → Decides (is_same a b) (a ≡ b)
is_same-Decides a b = Decides-like (is_same a b) (code_of_injective a b) (λ e. ap code_of e) (Decides-eqb (code_of a) (code_of b))

pub are_same-Decides : (as' bs : List Nine) → Decides (are_same as' bs) (as' ≡ bs)
are_same-Decides as' bs =
    Decides-like (are_same as' bs) (map-code_of_injective as' bs) (λ e. ap (λ vs. map code_of vs) e) (bytes_eq-Decides (map code_of as') (map code_of bs))
