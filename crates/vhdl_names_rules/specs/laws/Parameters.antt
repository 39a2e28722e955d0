-- The laws of parameters (IEEE 1076-2008, 10.10 and 11.9).
use Rattle.std.specs.Prelude.{◌≡◌, ℕ, suc, ◌-◌, List, length, slice_get, Some}
use Rattle.vhdl_tree.specs.Tree.{Ident}
use Rattle.vhdl_names_rules.specs.Visibility.{Meaning, Declared, Sight, loop_parameter, generate_parameter, within_loop, within_generate}

-- parameters, the innermost first, whose numbers are those of the others round them: so each is below how many
-- there are
abbrev pub AreNumbered : (ℕ → Meaning) → List Declared → Type 0
AreNumbered parameter ds = (k : ℕ) (d : Declared) → slice_get ds k ≡ Some d → d.meaning ≡ parameter (length ds - suc k)

-- Inside a loop the parameters of the loops round it are numbered so where they are outside,
abbrev pub LoopsNumberParameters : Type 0
LoopsNumberParameters =
    (sight : Sight) (n : Ident) → AreNumbered loop_parameter sight.loops
    → AreNumbered loop_parameter (within_loop sight n).loops

-- and inside a generate those of the generates.
abbrev pub GeneratesNumberParameters : Type 0
GeneratesNumberParameters = (sight : Sight) (n : Ident) → AreNumbered generate_parameter sight.generates
    → AreNumbered generate_parameter (within_generate sight n).generates
