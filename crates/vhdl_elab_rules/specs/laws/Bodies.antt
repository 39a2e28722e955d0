-- A body that fits its instance's elements is connected to one that fits the flat netlist: nets have the types of the
-- elements that they stand for, and drivers are there for what is assigned (IEEE 1076-2008, 14.7.2).
use Rattle.std.specs.Prelude.{ℕ, List, map, slice_index, Contains}
use Rattle.rtl_model.specs.bodies.Body.{Stmts}
use Rattle.rtl_model.specs.bodies.Types.{ElementType, HasType}
use Rattle.rtl_model.specs.bodies.Fits.{Scope, Fits}
use Rattle.vhdl_expand_rules.specs.Tree.{Object, Variable}
use Rattle.vhdl_expand_rules.specs.laws.Trees.{object_types, Assigns, body_scope}
use Rattle.vhdl_elab_rules.specs.Bodies.{connected_body}

-- the net of each element has the element's type
abbrev pub AreNetsOf : (types : List ElementType) → List Object → (nets : List ℕ) → Type 0
AreNetsOf types os nets =
    (e : ℕ) (t : ElementType) → HasType (object_types os) t e → HasType types t (slice_index nets e)

-- the body stands among nets of these types, and drives these elements
abbrev pub connected_scope : List ElementType → List Object → List Variable → (nets drives : List ℕ) → Scope
connected_scope types os vs nets drives =
    record (body_scope os vs) { nets = types; targets = map (slice_index nets) drives }

abbrev pub EachBodyIsConnected : Type 0
EachBodyIsConnected =
    (types : List ElementType) (os : List Object) (vs : List Variable) (nets drives : List ℕ) (body : Stmts)
    → AreNetsOf types os nets → Fits (body_scope os vs) body → Assigns (Contains drives) body
    → Fits (connected_scope types os vs nets drives) (connected_body nets drives body)
