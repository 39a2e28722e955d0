-- Parameters are numbered by the loops and generates round them.
use Rattle.std.proofs.Common.{◌≡◌, ℕ, zero, suc, ◌-◌, List, ◌∷◌, length, ap, sym, ◌∙◌, arith}
use Rattle.vhdl_names_rules.specs.Visibility.{Name, Meaning, Declared, declare, loop_parameter, generate_parameter}
use Rattle.vhdl_names_rules.specs.laws.Parameters.{AreNumbered, LoopsNumberParameters, GeneratesNumberParameters}
use Rattle.vhdl_names_rules.proofs.laws.Rules.{some_is}

numbered : (f : ℕ → Meaning) (n : Name) (ds : List Declared) → AreNumbered f ds → AreNumbered f (declare n (f (length ds)) ∷ ds)
numbered f n ds are zero d p =
    let h : length ds ≡ length (declare n (f (length ds)) ∷ ds) - 1 = omega arith in
    ap (λ (d : Declared). d.meaning) (sym (some_is _ d p)) ∙ ap f h
numbered f n ds are (suc k) d p =
    let h : length ds - suc k ≡ length (declare n (f (length ds)) ∷ ds) - suc (suc k) = omega arith in
    are k d p ∙ ap f h

pub loops_number_parameters : LoopsNumberParameters
loops_number_parameters sight n are = numbered loop_parameter n.text sight.loops are

pub generates_number_parameters : GeneratesNumberParameters
generates_number_parameters sight n are = numbered generate_parameter n.text sight.generates are
