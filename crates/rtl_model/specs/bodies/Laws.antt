-- The laws of bodies.
use Rattle.std.specs.Prelude.{◌≡◌, ℕ, ◌<◌, ◌⊎◌, ◌↔◌, Bool, true, false, not, ◌&&◌, ◌||◌, ◌==◌, All, Contains}
use Rattle.std.specs.Prelude.{List, [], ◌++◌, length, slice_index, slice_get, flat_map, Option, Some, None, IsTrue, IsSome}
use Rattle.std.specs.List.{list_any}
use Rattle.vhdl_values.specs.declared.kinds.Edge.{Edge}
use Rattle.rtl_model.specs.basics.Valuations.{or_else, clocked_entry}
use Rattle.rtl_model.specs.bodies.Rows.{Spacing}
use Rattle.rtl_model.specs.bodies.Body.{Expr, filled, Value, elements, Test, condition, equal, unequal}
use Rattle.rtl_model.specs.bodies.Body.{assign, set, assign_at, set_at, case_of, Stmts, Alternatives, others, alternative, followed_by}
use Rattle.rtl_model.specs.bodies.Values.{Seen, elements_of, value_of}
use Rattle.rtl_model.specs.bodies.Tests.{edge_at}
use Rattle.rtl_model.specs.bodies.Variables.{variables_after, after, alternatives_variables}
use Rattle.rtl_model.specs.bodies.Effect.{effect, alternatives_effect}
use Rattle.rtl_model.specs.bodies.Reads.{value_reads, reads, events}
use Rattle.rtl_model.specs.bodies.Assigns.{of_drivers, is_element, Target, must_assign}
use Rattle.rtl_model.specs.bodies.Stored.{value_looks_at, test_looks_at, stores_element}
use Rattle.rtl_model.specs.bodies.Leaves.{value_leaves, test_leaves, leaves, read_of, event_of, leaf_looks_at}
use Rattle.rtl_model.specs.bodies.Kinds.{edge_test, IsEdgeTest, reset_test, IsResetTest, ResetPart, Clocking, IsClocked, clocking}
use Rattle.rtl_model.specs.bodies.Copies.{CopyPart, passed_on, copying}
use Rattle.rtl_model.specs.bodies.Types.{ElementType, limit_of, HasType, KeepsTypes}
use Rattle.rtl_model.specs.bodies.Looks.{Sight, net_now, net_before, element_kept, seen_at, Looks, body_looks, looks_of}
use Rattle.rtl_model.specs.bodies.Fits.{Scope, width, IsWidth, FitsExpr, FitsAs, FitsTest, FitsStmt, Fits}

-- ---- what a run does

-- What is assigned on every syntactic path has an entry on every run, at one of its places.
abbrev pub EachRunAssigns : Type 0
EachRunAssigns =
    (body : Stmts) (these : ℕ → Bool) (seen : Seen) → IsTrue (must_assign (of_drivers these) body)
    → (place : ℕ) × IsTrue (these place) × IsSome (effect seen body place)

-- Of what a run sees a body reads nets now, nets before whose events it looks at, and the elements that it reads where
-- it hasn't assigned them.
abbrev pub IsRead : Stmts → Sight → Type 0
IsRead body (net_now n) = Contains (reads body) n
IsRead body (net_before n) = Contains (events body) n
IsRead body (element_kept e) = IsTrue (stores_element e body)

-- What a run does depends on this alone.
abbrev pub LooksAtReads : Type 0
LooksAtReads =
    (body : Stmts) (seen other : Seen) → length seen.variables ≡ length other.variables
    → ((sight : Sight) → IsRead body sight → seen_at seen sight ≡ seen_at other sight)
    → (place : ℕ) → effect seen body place ≡ effect other body place

-- So a body that stores no element does the same whatever values its variables had before the run.
abbrev pub NothingIsKept : Type 0
NothingIsKept =
    (body : Stmts) → ((e : ℕ) → stores_element e body ≡ false)
    → (seen : Seen) (values : List ℕ) → length values ≡ length seen.variables → (place : ℕ)
    → effect (record seen { variables = values }) body place ≡ effect seen body place

-- Runs that see the same where a driver looks have the same entry for it.
abbrev pub EachLooks : Type 0
EachLooks =
    (body : Stmts) (place : ℕ) (seen other : Seen) → length seen.variables ≡ length other.variables
    → ((sight : Sight) → Contains (looks_of body place) sight → seen_at seen sight ≡ seen_at other sight)
    → effect seen body place ≡ effect other body place

-- And the body reads all that a driver looks at.
abbrev pub LooksAreRead : Type 0
LooksAreRead = (body : Stmts) (place : ℕ) (sight : Sight) → Contains (looks_of body place) sight → IsRead body sight

-- A case always takes a branch, whatever the value. This is the body of an alternative:
abbrev pub IsAlternative : Stmts → Alternatives → Type 0
IsAlternative s (others t) = s ≡ t
IsAlternative s (alternative choices t alts) = (s ≡ t) ⊎ IsAlternative s alts

pub record TakesBranch (seen : Seen) (value : List ℕ) (alts : Alternatives) : Type 0 where
  pub branch : Stmts
  pub is : IsAlternative branch alts
  pub effect_is : (place : ℕ) → alternatives_effect seen value alts place ≡ effect seen branch place
  pub variables_are : alternatives_variables seen value alts ≡ variables_after seen branch

abbrev pub CaseTakesABranch : Type 0
CaseTakesABranch = (seen : Seen) (value : List ℕ) (alts : Alternatives) → TakesBranch seen value alts

-- A copying body has its net's element at its place, passed on, whatever the other values.
abbrev pub EachCopyPasses : Type 0
EachCopyPasses =
    (body : Stmts) (copy : CopyPart) (seen : Seen) → copying body ≡ Some copy
    → effect seen body copy.place ≡ Some (passed_on copy.inverted (slice_index seen.now copy.net))

-- ---- sequences

-- What a sequence assigns is what its later part assigns, which sees the variables as its earlier part left them, and
-- else what its earlier part does.
pub record LaterReplaces (earlier later : Stmts) (seen : Seen) : Type 0 where
  pub effect_is : (place : ℕ) → effect seen (followed_by earlier later) place
      ≡ or_else (effect (after seen earlier) later place) (effect seen earlier place)
  pub variables_are : variables_after seen (followed_by earlier later) ≡ variables_after (after seen earlier) later

abbrev pub EachLaterReplaces : Type 0
EachLaterReplaces = (earlier later : Stmts) (seen : Seen) → LaterReplaces earlier later seen

-- A sequence reads, assigns, tests and stores what its parts do, and fits where they do. Its drivers look at what they
-- do in its later part, where the targets have looked at what they do in its earlier part.
pub record AddsUp (s t : Stmts) : Type 0 where
  pub reads_both : reads (followed_by s t) ≡ reads s ++ reads t
  pub events_of_both : events (followed_by s t) ≡ events s ++ events t
  pub assigns_either : (these : Target → Bool)
      → must_assign these (followed_by s t) ≡ must_assign these s || must_assign these t
  pub stores_either : (e : ℕ) → stores_element e (followed_by s t)
      ≡ stores_element e s || (not (must_assign (is_element e) s) && stores_element e t)
  pub looks_follow : (round : List Sight) (so_far : Looks)
      → body_looks round so_far (followed_by s t) ≡ body_looks round (body_looks round so_far s) t
  pub fits : (scope : Scope) → Fits scope (followed_by s t) ↔ (Fits scope s × Fits scope t)

abbrev pub SequencesAddUp : Type 0
SequencesAddUp = (s t : Stmts) → AddsUp s t

-- ---- leaves

-- What a body reads and asks for an event, and what a value or a test looks at, is what its leaves say.
pub record LeavesTell : Type 0 where
  pub reads_are : (body : Stmts) → reads body ≡ flat_map read_of (leaves body)
  pub events_are : (body : Stmts) → events body ≡ flat_map event_of (leaves body)
  pub value_reads_are : (v : Value) → value_reads v ≡ flat_map read_of (value_leaves v)
  pub value_looks_are : (e : ℕ) (v : Value) → value_looks_at e v ≡ list_any (leaf_looks_at e) (value_leaves v)
  pub test_looks_are : (e : ℕ) (t : Test) → test_looks_at e t ≡ list_any (leaf_looks_at e) (test_leaves t)

-- ---- clocked bodies

-- Tests are edge tests and reset tests, and bodies clocked, just where they are as said; and what is clocked has
-- an event.
pub record KindsAreAsSaid (wide : Bool) (inputs : List ℕ) : Type 0 where
  pub edge_tests : (t : Test) (clock : ℕ) (edge : Edge)
      → edge_test t ≡ Some (record { clock = clock; edge = edge }) ↔ IsEdgeTest t clock edge
  pub reset_tests : (t : Test) (net value : ℕ)
      → reset_test wide inputs t ≡ Some (record { net = net; value = value }) ↔ IsResetTest wide inputs t net value
  pub clocked : (body : Stmts) (c : Clocking) → clocking wide inputs body ≡ Some c ↔ IsClocked wide inputs body c
  pub has_event : (body : Stmts) (c : Clocking) → clocking wide inputs body ≡ Some c → events body ≡ [] → ⊥

abbrev pub EachKindIsAsSaid : Type 0
EachKindIsAsSaid = (wide : Bool) (inputs : List ℕ) → KindsAreAsSaid wide inputs

-- whether the reset of a clocked body holds, whether it then keeps the branch under the edge from running, and the
-- entry of its own branch
abbrev pub reset_holds : Seen → Option ResetPart → Bool
reset_holds seen None = false
reset_holds seen (Some reset) = slice_index seen.now reset.test.net == reset.test.value

abbrev pub reset_holds_back : Seen → Option ResetPart → Bool
reset_holds_back seen None = false
reset_holds_back seen (Some reset) = reset.gates && reset_holds seen (Some reset)

abbrev pub entry_of_reset : Seen → Option ResetPart → (place : ℕ) → Option ℕ
entry_of_reset seen None place = None
entry_of_reset seen (Some reset) place = effect seen reset.branch place

-- A clocked body does what its reset's branch does where its reset holds, and else at its edge, unless the reset gates
-- it, what its branch does, and else nothing at all.
abbrev pub FollowsItsEdge : Type 0
FollowsItsEdge =
    (wide : Bool) (inputs : List ℕ) (body : Stmts) (c : Clocking) → clocking wide inputs body ≡ Some c
    → (seen : Seen) (place : ℕ)
    → effect seen body place
    ≡ clocked_entry (reset_holds seen c.reset)
    (edge_at seen c.test.edge c.test.clock && not (reset_holds_back seen c.reset))
    (entry_of_reset seen c.reset place) (effect seen c.branch place)

-- A reset's branch reads no net.
abbrev pub ResetsReadNothing : Type 0
ResetsReadNothing =
    (wide : Bool) (inputs : List ℕ) (body : Stmts) (c : Clocking) (reset : ResetPart)
    → clocking wide inputs body ≡ Some c → c.reset ≡ Some reset
    → (reads reset.branch ≡ []) × (events reset.branch ≡ [])

-- ---- bodies that fit

-- The value of an expression that fits is as long as its width, which a vector can have.
abbrev pub HasItsWidth : Type 0
HasItsWidth =
    (scope : Scope) (e : Expr) (seen : Seen) → FitsExpr scope e
    → (length (elements_of seen e) ≡ width e) × IsWidth (width e)

-- whether it is one of elements of the nine values
abbrev pub is_of_elements : Value → Bool
is_of_elements (elements e) = true
is_of_elements _ = false

-- a choice of one of the alternatives
abbrev pub IsChoice : List ℕ → Alternatives → Type 0
IsChoice choice (others s) = ⊥
IsChoice choice (alternative choices s alts) = Contains choices choice ⊎ IsChoice choice alts

-- The parts of a body that fits look nothing up that isn't there, and compare and assign what is as long as it
-- should be.
pub record PartsAreSafe (scope : Scope) (seen : Seen) : Type 0 where
  pub condition_is_one : (e : Expr) → FitsTest scope (condition e) → length (elements_of seen e) ≡ 1
  pub filler_is_one : (len : ℕ) (e : Expr) → FitsExpr scope (filled len e) → length (elements_of seen e) ≡ 1
  pub equals_are_of_one_type : (v w : Value) → FitsTest scope (equal v w) → is_of_elements v ≡ is_of_elements w
  pub unequals_are_of_one_type : (v w : Value) → FitsTest scope (unequal v w) → is_of_elements v ≡ is_of_elements w
  pub choices_fit : (v : Value) (alts : Alternatives) (choice : List ℕ)
      → FitsStmt scope (case_of v alts) → IsChoice choice alts
      → (length choice ≡ length (value_of seen v))
      × ((t : ElementType) × FitsAs scope t v × All (λ n. n < limit_of t) choice)
  pub places_fit : (places : List ℕ) (v : Value) → FitsStmt scope (assign places v)
      → (length places ≡ length (value_of seen v)) × All (λ place. place < length scope.targets) places
  pub elements_fit : (es : List ℕ) (v : Value) → FitsStmt scope (set es v)
      → (length es ≡ length (value_of seen v)) × All (λ e. e < length scope.variables) es
  pub places_at_fit : (index : Expr) (spacing : Spacing) (places : List ℕ) (e : Expr)
      → FitsStmt scope (assign_at index spacing places e)
      → (spacing.len ≡ length (elements_of seen e)) × All (λ place. place < length scope.targets) places
  pub elements_at_fit : (index : Expr) (spacing : Spacing) (es : List ℕ) (e : Expr)
      → FitsStmt scope (set_at index spacing es e)
      → (spacing.len ≡ length (elements_of seen e)) × All (λ k. k < length scope.variables) es

abbrev pub EachPartIsSafe : Type 0
EachPartIsSafe = (scope : Scope) (seen : Seen) → PartsAreSafe scope seen

-- All nets that a body that fits reads are there, and all elements that it stores.
pub record ReadsAreThere (scope : Scope) (body : Stmts) : Type 0 where
  pub nets : All (λ n. n < length scope.nets) (reads body)
  pub events_too : All (λ n. n < length scope.nets) (events body)
  pub elements : (e : ℕ) → IsTrue (stores_element e body) → e < length scope.variables

abbrev pub EachReadIsThere : Type 0
EachReadIsThere = (scope : Scope) (body : Stmts) → Fits scope body → ReadsAreThere scope body

-- what is seen keeps the types
pub record SeesTypes (scope : Scope) (seen : Seen) : Type 0 where
  pub nets : KeepsTypes scope.nets seen.now
  pub variables : KeepsTypes scope.variables seen.variables

-- Each entry of a body that fits is that of a driver, and one of the values of its net, and the variables keep their
-- types, where what is seen keeps the types.
pub record RunKeepsTypes (scope : Scope) (body : Stmts) (seen : Seen) : Type 0 where
  pub entries : (place value : ℕ) → effect seen body place ≡ Some value
      → (net : ℕ) × (t : ElementType) × (slice_get scope.targets place ≡ Some net)
      × HasType scope.nets t net × (value < limit_of t)
  pub variables : KeepsTypes scope.variables (variables_after seen body)

abbrev pub EntriesKeepTypes : Type 0
EntriesKeepTypes =
    (scope : Scope) (body : Stmts) (seen : Seen) → Fits scope body
    → SeesTypes scope seen → RunKeepsTypes scope body seen
