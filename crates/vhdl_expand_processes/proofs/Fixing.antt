-- The values of constants and defaults, where nothing is seen.
use Rattle.std.proofs.Common.{◌≡◌, ℕ, List, Some, None, Result, Ok, Err, refl, sym, ap, ◌∙◌, subst}
use Rattle.std.proofs.lemmas.Option.{same_Some}
use Rattle.vhdl_values.specs.declared.scalar.Nine.{Nine}
use Rattle.rtl_model.specs.bodies.Body as bodies
use Rattle.rtl_model.specs.bodies.Values.{elements_of}
use Rattle.vhdl_expand_rules.specs.declared.fault.ElabFault.{ElabFault}
use Rattle.vhdl_expand_rules.specs.declared.fault.ElabProblem.TheVariants.{Length}
use Rattle.vhdl_expand_rules.specs.Elab.{Elab, refused}
use Rattle.vhdl_expand_rules.specs.Declarations.{nothing_seen, as_long_as, elements_of_value}
use Rattle.vhdl_expand_rules.specs.views.Integers.{Computes}
use Rattle.vhdl_expand_operands.specs.Known.{known_elements}
use Rattle.vhdl_expand_operands.specs.Results.{Expands}

-- what a call computes, as one that takes memory answers it
pub expands_computed : {X : Type 0} (given given' : Elab X) (r : Result X ElabFault) → given ≡ given' → Computes given' r → Expands (λ x. x) given r
expands_computed given given' (Ok x) e h = e ∙ h
expands_computed given given' (Err fault) e h = λ n. e ∙ h

pub computes_along : {X : Type 0} (given given' : Elab X) (r : Result X ElabFault) → given ≡ given' → Computes given' r → Computes given r
computes_along given given' r e h = subst (λ x. Computes x r) (sym e) h

-- ---- elements

pub elements_seen : (at len : ℕ) (v : bodies.Value) (vs : List Nine) → known_elements v ≡ Some vs → elements_of_value at len v ≡ as_long_as at len vs
elements_seen at len (bodies.elements e) vs h = ap (as_long_as at len) (same_Some (elements_of nothing_seen e) vs h)
elements_seen at len _ vs h = absurd cc

pub no_elements : (at len : ℕ) (v : bodies.Value) → known_elements v ≡ None → elements_of_value at len v ≡ refused (Length 1 len) at
no_elements at len (bodies.elements e) h = absurd cc
no_elements at len _ h = refl
