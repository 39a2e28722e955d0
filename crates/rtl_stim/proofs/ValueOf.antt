-- The value of a net, by the one input that may have it.
use Rattle.std.proofs.Common.{◌≡◌, ℕ, suc, zero, ◌+◌, ◌<◌, List, [], ◌∷◌, length, drop, get_or, Option, Some, None, unwrap_or, refl, sym, ap, ◌∙◌, arith, add-one}
use Rattle.std.specs.Prelude.{Contains}
use Rattle.std.proofs.Math.Seq.{drop-cons}
use Rattle.vhdl_values.specs.declared.scalar.Nine.{Nine}
use Rattle.vhdl_values.specs.declared.scalar.Nine.TheVariants.{U}
use Rattle.rtl_stim_lines.specs.Inputs.{Input, input_at}
use Rattle.rtl_stim_lines.specs.Courses.{Course, Sets}
use Rattle.rtl_stim_lines.specs.Times.{element_value, nets_of, value_or, value_of}
use Rattle.rtl_stim.proofs.Values.{no_element}

pub drop_one : {X : Type 0} (xs : List X) (i : ℕ) (d : X) → i < length xs → drop i xs ≡ get_or xs i d ∷ drop (i + 1) xs
drop_one xs i d within = drop-cons xs i d within ∙ ap (λ n. get_or xs i d ∷ drop n xs) (sym (add-one i))

pub unwrapped : (o : Option Nine) (v : Nine) → value_or o v ≡ unwrap_or o v
unwrapped None v = refl
unwrapped (Some x) v = refl

-- no input has the net
pub value_nowhere : (inputs : List Input) (courses : List Course) (net t : ℕ) → ((q : ℕ) → q < length inputs → Contains (nets_of (input_at inputs q)) net → ⊥)
    → value_of inputs courses net t ≡ U
value_nowhere [] courses net t none = refl
value_nowhere (x ∷ inputs) [] net t none = refl
value_nowhere (x ∷ inputs) (c ∷ courses) net t none =
    ap (λ (o : Option Nine). value_or o (value_of inputs courses net t)) (no_element c 0 x.elements net t (none 0 (omega arith)))
    ∙ value_nowhere inputs courses net t (λ q within there. none (suc q) (omega (arith, within)) there)

-- none but the one at a place has it
pub value_at_place : (inputs : List Input) (courses : List Course) (p net t : ℕ) → p < length inputs → length courses ≡ length inputs
    → ((q : ℕ) → q < length inputs → Contains (nets_of (input_at inputs q)) net → p ≡ q)
    → value_of inputs courses net t ≡ value_or (element_value (get_or courses p (Sets [])) 0 (input_at inputs p).elements net t) U
value_at_place [] courses p net t within each only = absurd (omega (arith, within))
value_at_place (x ∷ inputs) [] p net t within each only = absurd (omega (arith, each))
value_at_place (x ∷ inputs) (c ∷ courses) zero net t within each only =
    ap (value_or (element_value c 0 x.elements net t)) (value_nowhere inputs courses net t (λ q inside there. let e = only (suc q) (omega (arith, inside)) there in omega (arith, e)))
value_at_place (x ∷ inputs) (c ∷ courses) (suc p) net t within each only =
    ap (λ (o : Option Nine). value_or o (value_of inputs courses net t)) (no_element c 0 x.elements net t (λ there. let e = only 0 (omega arith) there in omega (arith, e)))
    ∙ value_at_place inputs courses p net t (omega (arith, within)) (omega (arith, each)) (λ q inside there. let e = only (suc q) (omega (arith, inside)) there in omega (arith, e))
