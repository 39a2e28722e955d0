-- The processes of a netlist of sound units are in range.
use Rattle.std.proofs.Common.{◌≡◌, ℕ, ◌<◌, List, [], ◌∷◌, ◌++◌, length, map, replicate, Ok, All, refl, sym, ap, ◌∙◌, subst, arith}
use Rattle.std.specs.Prelude.{slice_index, IsTrue}
use Rattle.std.proofs.lemmas.Option.{slice_get_within}
use Rattle.std.proofs.lemmas.List.Elements.{All-nil, All-map, All-weaker, All-cons, All-head, All-tail}
use Rattle.rtl_model.specs.bodies.Body.{Stmts}
use Rattle.rtl_model.specs.bodies.Types.{ElementType, enumeration, IsByte, HasType}
use Rattle.rtl_model.specs.bodies.Fits.{IsWidth, Fits}
use Rattle.rtl_model.specs.nets.FlatNetlist.{FlatDriver, element_types, targets, DriverInRange, VariableInRange, ProcessInRange}
use Rattle.rtl_model.proofs.nets.InRange.{type_at}
use Rattle.vhdl_names_rules.specs.units.Units.{Units}
use Rattle.vhdl_names_rules.specs.sound.Units.{are_sound}
use Rattle.vhdl_expand_rules.specs.Kinds.{ObjectKind, vector, size, element_type}
use Rattle.vhdl_expand_rules.specs.Kinds as k
use Rattle.vhdl_expand_rules.specs.Tree.{Object, Variable}
use Rattle.vhdl_expand_rules.specs.Expansion.{Design, expanded_design}
use Rattle.vhdl_expand_rules.specs.laws.Sites.{kinds_types}
use Rattle.vhdl_expand_rules.specs.laws.Trees.{IsKind, object_kinds, object_types, object_roles, MayBeDriven, VariableIsSound}
use Rattle.vhdl_expand_rules.specs.Tops.{Top}
use Rattle.vhdl_expand_rules.proofs.laws.Kinds.{width_of_kind}
use Rattle.vhdl_expand_rules.proofs.laws.Lengths.{design-fits}
use Rattle.vhdl_expand_rules.proofs.laws.Names.{length-types}
use Rattle.vhdl_expand_rules.proofs.laws.Driven.{length-roles}
use Rattle.vhdl_expand_rules.proofs.laws.Trees.{each-tree-is-sound}
use Rattle.vhdl_elab_rules.specs.Bodies.{connected_body}
use Rattle.vhdl_elab_rules.specs.Numbering.{Placed, Located, Numbered, nothing_numbered, above_top, numbered_design}
use Rattle.vhdl_elab_rules.specs.Wiring.{driver_of, defaults_of, flat_variable, flat_process, flat_net}
use Rattle.vhdl_elab_rules.specs.laws.Processes.{HasTypedNets, ProcessesFit, EachProcessFits}
use Rattle.vhdl_elab_rules.specs.laws.Shape.{WakesRise, HasShape}
use Rattle.vhdl_elab_rules.proofs.laws.Bodies.{each-body-is-connected}
use Rattle.vhdl_elab_rules.proofs.laws.Shape.{each-has-shape}
use Rattle.vhdl_elab_rules.proofs.laws.Typed.{zip_read, IsBelow, defaults-below}
use Rattle.vhdl_elab_rules.proofs.laws.Walk.{types_of, PlacedIsSound, LocatedIsSound, SoFar, instance-walks}

-- ---- variables

variable-fits : (v : Variable) → VariableIsSound v → VariableInRange (flat_variable v)
variable-fits v h = record {
  width = subst IsWidth (sym h.as_declared) (width_of_kind v.kind h.kind);
  type_fits = byte v.kind h.kind;
  one_literal = λ n e. h.as_declared ∙ single v.kind n e;
  starts = h.starts;
}
  where
    byte : (q : ObjectKind) → IsKind q → IsByte (element_type q)
    byte (k.enumeration n) w = w.1
    byte _ w = omega arith

    single : (q : ObjectKind) (n : ℕ) → element_type q ≡ enumeration n → size q ≡ 1
    single (vector b) n e = absurd cc
    single (k.integer r) n e = absurd cc
    single _ n e = refl

variable-types : (vs : List Variable) → All VariableIsSound vs → kinds_types (map (λ (v : Variable). v.kind) vs) ≡ element_types (map flat_variable vs)
variable-types [] h = refl
variable-types (v ∷ vs) h =
    ap (λ n. replicate n (element_type v.kind) ++ kinds_types (map (λ (x : Variable). x.kind) vs)) (sym (All-head VariableIsSound v vs h).as_declared)
    ∙ ap (λ (ts : List ElementType). replicate (length v.starts) (element_type v.kind) ++ ts) (variable-types vs (All-tail VariableIsSound v vs h))

-- ---- drivers

pub driver-targets : (p : Placed) (es : List ℕ) → map (slice_index p.nets) es ≡ map (λ (d : FlatDriver). d.net) (map (driver_of p) es)
driver-targets p [] = refl
driver-targets p (e ∷ es) = ap (λ ns. slice_index p.nets e ∷ ns) (driver-targets p es)

-- an element that may be driven has a type
pub driven-type : (os : List Object) (e : ℕ) → MayBeDriven os e → (t : ElementType) × HasType (object_types os) t e
driven-type os e m =
    let l : e < length (object_roles os) = slice_get_within (object_roles os) e m.0 m.1 in
    type_at (object_types os) e (subst (λ n. e < n) (length-roles os ∙ sym (length-types (object_kinds os))) l)

driver-fits : (types : List ElementType) (p : Placed) (e : ℕ) → PlacedIsSound types p → MayBeDriven p.objects e → DriverInRange types (driver_of p e)
driver-fits types p e h m =
    let t = driven-type p.objects e m in
    (t.0, zip_read (HasType types) (object_types p.objects) p.nets e t.0 h.nets t.1, zip_read IsBelow (object_types p.objects) (defaults_of p.objects) e t.0 (defaults-below h.outer p.objects h.sound h.fits) t.1)

-- ---- processes

body-in-scope : (types variables variables' : List ElementType) (nets nets' : List ℕ) (body : Stmts) → variables ≡ variables' → nets ≡ nets'
    → Fits (record { nets = types; variables = variables; targets = nets }) body → Fits (record { nets = types; variables = variables'; targets = nets' }) body
body-in-scope types variables variables' nets nets' body p q h =
    subst (λ (ns : List ℕ). Fits (record { nets = types; variables = variables'; targets = ns }) body) q
    (subst (λ (vs : List ElementType). Fits (record { nets = types; variables = vs; targets = nets }) body) p h)

process-fits : (types : List ElementType) (count : ℕ) (x : Located) → length types ≡ count → LocatedIsSound types x → WakesRise count (flat_process count x) → ProcessInRange types (flat_process count x)
process-fits types count x len h wakes =
    let q = x.process in
    let p : Placed = x.round in
    record {
      drivers = All-map (DriverInRange types) (driver_of p) q.drives (All-weaker (MayBeDriven p.objects) (λ e. DriverInRange types (driver_of p e)) (λ e m. driver-fits types p e h.round m) q.drives h.process.drives);
      wakes = subst (λ n. All (λ net. net < n) (flat_process count x).wakes) (sym len) wakes.there;
      wakes_rise = wakes.rise;
      variables = All-map VariableInRange flat_variable q.variables (All-weaker VariableIsSound (λ v. VariableInRange (flat_variable v)) variable-fits q.variables h.process.variables);
      body = body-in-scope types (kinds_types (map (λ (v : Variable). v.kind) q.variables)) (element_types (map flat_variable q.variables)) (map (slice_index p.nets) q.drives) (targets (flat_process count x))
          (connected_body p.nets q.drives q.body) (variable-types q.variables h.process.variables) (driver-targets p q.drives)
          (each-body-is-connected types p.objects q.variables p.nets q.drives q.body (λ e t k. zip_read (HasType types) (object_types p.objects) p.nets e t h.round.nets k) h.process.body h.process.assigned);
    }

-- ---- the whole

pub walked : (units : Units) (top : Top) (design : Design) → IsTrue (are_sound units) → expanded_design units top ≡ Ok design → SoFar (numbered_design design)
unfolding numbered_design
walked units top design sound e =
    let tree = each-tree-is-sound units top design sound e in
    (instance-walks design.top [] above_top design.name nothing_numbered (design-fits units top design e) tree.top
    (record { count = refl; bytes = All-nil IsByte; starts = tt; instances = All-nil (PlacedIsSound []); processes = All-nil (LocatedIsSound []) }) tt).so_far

processes-fit : (d : Numbered) → SoFar d → HasShape d → ProcessesFit d
unfolding flat_net
processes-fit d h shape =
    let types : List ElementType = types_of d.instances in
    record {
      types = h.bytes;
      instances = All-weaker (PlacedIsSound types) (HasTypedNets types) (λ p w e t j. zip_read (HasType types) (object_types p.objects) p.nets e t w.nets j) d.instances h.instances;
      processes = all-fit types d.nets d.processes h.count h.processes shape.wakes;
    }
  where
    all-fit : (types : List ElementType) (count : ℕ) (xs : List Located) → length types ≡ count → All (LocatedIsSound types) xs → All (WakesRise count) (map (flat_process count) xs)
        → All (ProcessInRange types) (map (flat_process count) xs)
    all-fit types count [] len w r = All-nil (ProcessInRange types)
    all-fit types count (x ∷ xs) len w r =
        All-cons (ProcessInRange types) (flat_process count x) (map (flat_process count) xs)
        (process-fits types count x len (All-head (LocatedIsSound types) x xs w) (All-head (WakesRise count) (flat_process count x) (map (flat_process count) xs) r))
        (all-fit types count xs len (All-tail (LocatedIsSound types) x xs w) (All-tail (WakesRise count) (flat_process count x) (map (flat_process count) xs) r))

pub each-process-fits : EachProcessFits
each-process-fits units top design sound e = processes-fit (numbered_design design) (walked units top design sound e) (each-has-shape units top design e)
