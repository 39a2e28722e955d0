-- Assignments, by the runs of their targets.
use Rattle.std.proofs.Common.{◌≡◌, ℕ, List, length, Option, Ok, Err, sym, ap, ◌∙◌, subst}
use Rattle.std.specs.Prelude.{slice_get}
use Rattle.std.specs.List.{range_with_len}
use Rattle.std.proofs.lemmas.List.FromFn.{length-range_with_len}
use Rattle.vhdl_names_rules.specs.units.Expressions.{Part, SignalPart}
use Rattle.vhdl_names_rules.specs.units.Statements.{Given}
use Rattle.rtl_model.specs.bodies.Body as bodies
use Rattle.vhdl_expand_rules.specs.Elab.{Elab, ◌>>=◌, Told}
use Rattle.vhdl_expand_rules.specs.Kinds.{ObjectKind}
use Rattle.vhdl_expand_rules.specs.Site.{Site, signal_kind, place_elements, variable_elements}
use Rattle.vhdl_expand_rules.specs.Statements as definition
use Rattle.vhdl_expand_rules.proofs.Steps.{given, ok}
use Rattle.vhdl_expand_rules.proofs.Chains.{err_first}
use Rattle.vhdl_expand_statements.specs.steps.Assignments as steps

-- of so many elements, a value and the statement that assigns it
module _ (here : Site) (at : ℕ) (kind : Option ObjectKind) (g : Given) (made : List ℕ → bodies.Value → bodies.Stmt) where
  abbrev assigning : List ℕ → Elab bodies.Stmt
  assigning es = definition.given_to here at kind (length es) g >>= λ v. given (made es v)

  goes : (r : Elab (List ℕ)) (f len : ℕ) → r ≡ Ok (range_with_len f len)
      → (r >>= assigning) ≡ (definition.given_to here at kind len g >>= λ v. given (made (range_with_len f len) v))
  goes r f len there = ap (λ r. r >>= assigning) there
      ∙ ap (λ n. definition.given_to here at kind n g >>= λ v. given (made (range_with_len f len) v)) (length-range_with_len f len)

  gives : (r : Elab (List ℕ)) (f len : ℕ) (v : bodies.Value) (es : List ℕ) → r ≡ Ok (range_with_len f len) → definition.given_to here at kind len g ≡ Ok v
      → given (range_with_len f len) ≡ Ok es → (r >>= assigning) ≡ Ok (made es v)
  gives r f len v es there value places =
      goes r f len there ∙ ap (λ r. r >>= λ v. given (made (range_with_len f len) v)) value ∙ ap (λ ms. given (made ms v)) (ok (range_with_len f len) es places)

  stops : {told : Told} (r : Elab (List ℕ)) (f len : ℕ) → r ≡ Ok (range_with_len f len) → (definition.given_to here at kind len g) ≡ Err told → (r >>= assigning) ≡ Err told
  stops {told} r f len there h = subst (λ (r : Elab bodies.Stmt). r ≡ Err told) (sym (goes r f len there)) (err_first (definition.given_to here at kind len g) _ h)

module _ (here : Site) where
  pub assign_gives : (p : SignalPart) (g : Given) (f len : ℕ) (v : bodies.Value) (es : List ℕ) → place_elements here p ≡ Ok (range_with_len f len) → definition.given_to here p.at (signal_kind here p.signal) len g ≡ Ok v
      → given (range_with_len f len) ≡ Ok es → steps.assign here p g ≡ Ok (bodies.assign es v)
  assign_gives p g f len v es there value places = gives here p.at (signal_kind here p.signal) g bodies.assign (place_elements here p) f len v es there value places

  pub assign_stops : {told : Told} (p : SignalPart) (g : Given) (f len : ℕ) → place_elements here p ≡ Ok (range_with_len f len) → (definition.given_to here p.at (signal_kind here p.signal) len g) ≡ Err told → (steps.assign here p g) ≡ Err told
  assign_stops p g f len there h = stops here p.at (signal_kind here p.signal) g bodies.assign (place_elements here p) f len there h

  pub set_gives : (at k : ℕ) (part : Part) (g : Given) (f len : ℕ) (v : bodies.Value) (es : List ℕ) → variable_elements here at k part ≡ Ok (range_with_len f len)
      → definition.given_to here at (slice_get here.variables k) len g ≡ Ok v → given (range_with_len f len) ≡ Ok es → steps.set here at k part g ≡ Ok (bodies.set es v)
  set_gives at k part g f len v es there value places = gives here at (slice_get here.variables k) g bodies.set (variable_elements here at k part) f len v es there value places

  pub set_stops : {told : Told} (at k : ℕ) (part : Part) (g : Given) (f len : ℕ) → variable_elements here at k part ≡ Ok (range_with_len f len)
      → (definition.given_to here at (slice_get here.variables k) len g) ≡ Err told → (steps.set here at k part g) ≡ Err told
  set_stops at k part g f len there h = stops here at (slice_get here.variables k) g bodies.set (variable_elements here at k part) f len there h
