-- A tree that is expanded from sound units: its objects have kinds and values of their types, an associated port's
-- actual is of its type and, of an out port, driven in the instance above, where no in port is; and the body of a
-- process fits and assigns nothing but what the process drives (IEEE 1076-2008, 6.5.6.3, 14.7.2).
use Rattle.std.specs.Prelude.{◌≡◌, ℕ, ◌<◌, ◌≤◌, ⊤, Bool, true, false, All, List, [], ◌∷◌, ◌++◌, length, map, replicate, slice_get, Some, None, Ok, IsTrue, Contains}
use Rattle.std.specs.List.{range_with_len}
use Rattle.std.specs.List.Sorted.{IsStrictlyIncreasing}
use Rattle.rtl_model.specs.bodies.Body as bodies
use Rattle.rtl_model.specs.bodies.Body.{Stmts}
use Rattle.rtl_model.specs.bodies.Types.{ElementType, nine_valued, limit_of, HasType}
use Rattle.rtl_model.specs.bodies.Fits.{Scope, IsWidth, Fits}
use Rattle.vhdl_names_rules.specs.units.Units.{Units}
use Rattle.vhdl_names_rules.specs.sound.Units.{are_sound}
use Rattle.vhdl_expand_rules.specs.Kinds.{ObjectKind, one, vector, enumeration, integer, boolean, bounds_size, size, element_type}
use Rattle.vhdl_expand_rules.specs.Site.{elements_count}
use Rattle.vhdl_expand_rules.specs.Tree.{Role, input, output, internal, Object, Variable, Process, Instance, instance, Parts, no_parts, process, inner, objects_of}
use Rattle.vhdl_expand_rules.specs.Declarations.{is_input}
use Rattle.vhdl_expand_rules.specs.Expansion.{Design, expanded_design}
use Rattle.vhdl_expand_rules.specs.Tops.{Top}
use Rattle.vhdl_expand_rules.specs.laws.Sites.{HasIntegers, kinds_types}

-- ---- objects and variables

-- a vector has 1 to 64 elements, an enumeration 1 to 256 literals
abbrev pub IsKind : ObjectKind → Type 0
IsKind one = ⊤
IsKind (vector b) = IsWidth (bounds_size b)
IsKind (enumeration n) = (1 ≤ n) × (n ≤ 256)
IsKind (integer r) = HasIntegers r
IsKind boolean = ⊤

abbrev pub object_kinds : List Object → List ObjectKind
object_kinds os = map (λ (o : Object). o.kind) os

-- the types of the elements of these objects, and the roles of the objects that they are elements of
abbrev pub object_types : List Object → List ElementType
object_types os = kinds_types (object_kinds os)

abbrev pub object_roles : List Object → List Role
object_roles [] = []
object_roles (o ∷ os) = replicate (size o.kind) o.role ++ object_roles os

-- an element that is there and is no in port's
abbrev pub MayBeDriven : List Object → ℕ → Type 0
MayBeDriven os e = (r : Role) × (slice_get (object_roles os) e ≡ Some r) × (is_input r ≡ false)

abbrev pub is_port : Role → Bool
is_port input = true
is_port output = true
is_port internal = false

-- an object of an instance that stands in one with these objects
pub record ObjectIsSound (above : List Object) (o : Object) : Type 0 where
  pub kind : IsKind o.kind
  pub starts : All (λ v. v < limit_of (element_type o.kind)) o.starts
  pub ports_are_nine : is_port o.role ≡ true → element_type o.kind ≡ nine_valued
  pub resolved_are_nine : o.is_resolved ≡ true → element_type o.kind ≡ nine_valued
  pub signals_have_none : is_port o.role ≡ false → o.actual ≡ None
  pub actual : (es : List ℕ) → o.actual ≡ Some es → All (HasType (object_types above) (element_type o.kind)) es
  pub driven : (es : List ℕ) → o.actual ≡ Some es → is_input o.role ≡ false → All (MayBeDriven above) es

pub record VariableIsSound (v : Variable) : Type 0 where
  pub kind : IsKind v.kind
  pub as_declared : length v.starts ≡ size v.kind
  pub starts : All (λ x. x < limit_of (element_type v.kind)) v.starts

-- ---- processes

-- each element of a signal that a body assigns is one of these
module _ (Is : ℕ → Type 0) where
  abbrev mutual
    pub StmtAssigns : bodies.Stmt → Type 0
    StmtAssigns bodies.null_of = ⊤
    StmtAssigns (bodies.assign es v) = All Is es
    StmtAssigns (bodies.set es v) = ⊤
    StmtAssigns (bodies.assign_at index spacing es e) = All Is es
    StmtAssigns (bodies.set_at index spacing es e) = ⊤
    StmtAssigns (bodies.if_of bs) = BranchesAssign bs
    StmtAssigns (bodies.case_of v alts) = AlternativesAssign alts

    pub Assigns : Stmts → Type 0
    Assigns bodies.done = ⊤
    Assigns (bodies.step s rest) = StmtAssigns s × Assigns rest

    pub BranchesAssign : bodies.Branches → Type 0
    BranchesAssign bodies.no_else = ⊤
    BranchesAssign (bodies.otherwise s) = Assigns s
    BranchesAssign (bodies.branch t s bs) = Assigns s × BranchesAssign bs

    pub AlternativesAssign : bodies.Alternatives → Type 0
    AlternativesAssign (bodies.others s) = Assigns s
    AlternativesAssign (bodies.alternative choices s alts) = Assigns s × AlternativesAssign alts

-- what an expanded body stands in: elements have the place of nets, and each is its own target
abbrev pub body_scope : List Object → List Variable → Scope
body_scope os vs = record {
  nets = object_types os;
  variables = kinds_types (map (λ (v : Variable). v.kind) vs);
  targets = range_with_len 0 (elements_count (object_kinds os));
}

pub record ProcessIsSound (os : List Object) (p : Process) : Type 0 where
  pub body : Fits (body_scope os p.variables) p.body
  pub assigned : Assigns (Contains p.drives) p.body
  pub drives : All (MayBeDriven os) p.drives
  pub drives_rise : IsStrictlyIncreasing p.drives
  pub variables : All VariableIsSound p.variables

-- ---- instances

abbrev mutual
  pub InstanceIsSound : (above : List Object) → Instance → Type 0
  InstanceIsSound above (instance os turns parts) = All (ObjectIsSound above) os × PartsAreSound os parts

  pub PartsAreSound : (os : List Object) → Parts → Type 0
  PartsAreSound os no_parts = ⊤
  PartsAreSound os (process p rest) = ProcessIsSound os p × PartsAreSound os rest
  PartsAreSound os (inner label i rest) = InstanceIsSound os i × PartsAreSound os rest

-- The top stands in nothing, and its ports are joined to nothing.
pub record DesignIsSound (design : Design) : Type 0 where
  pub top : InstanceIsSound [] design.top
  pub not_joined : All (λ (o : Object). o.actual ≡ None) (objects_of design.top)

abbrev pub EachTreeIsSound : Type 0
EachTreeIsSound =
    (units : Units) (top : Top) (design : Design) → IsTrue (are_sound units)
    → expanded_design units top ≡ Ok design → DesignIsSound design
