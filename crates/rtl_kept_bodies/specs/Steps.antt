-- The steps of `keep`: the forms of bodies, the elements that are marked, and what is put for each variable.
use Rattle.std.specs.Prelude.{◌≡◌, ℕ, zero, suc, ◌+◌, ◌-◌, ◌≤◌, ◌<◌, ◌==◌, ◌^◌, Bool, true, false, ◌&&◌, ◌||◌, nat_le, nat_lt, if◌then◌else◌, All, List, [], ◌∷◌, length, map, flat_map, slice_index, slice_index_or}
use Rattle.std.specs.List.{list_any, range_with_len}
use Rattle.rtl_model.specs.bodies.Assigns.{is_element, stmts_assign}
use Rattle.rtl_model.specs.bodies.Body.{Stmt, null_of, assign, set, if_of, Stmts, done, step, Branches, no_else, otherwise, branch}
use Rattle.rtl_model.specs.bodies.Body.{Value, elements, position, position_in, position_of, signal, variable, constant}
use Rattle.rtl_model.specs.bodies.Fits.{Scope, FitsAs, Fits}
use Rattle.rtl_model.specs.bodies.Reads.{value_reads}
use Rattle.rtl_model.specs.bodies.Types.{ElementType, nine_valued, enumeration, KeepsTypes}
use Rattle.rtl_model.specs.nets.FlatNetlist.{FlatDriver, FlatProcess, element_starts}
use Rattle.rtl_eval.specs.declared.evaluated.Evaluated.{Evaluated}
use Rattle.rtl_eval.specs.declared.evaluated.Evaluated.TheVariants as evaluated
use Rattle.rtl_net.specs.Bodies.{statements_of}
use Rattle.rtl_net.specs.Nets.{element_type}
use Rattle.rtl_net.specs.declared.body.Branch.{Branch}
use Rattle.rtl_net.specs.declared.body.Alternative.{Alternative}
use Rattle.rtl_net.specs.declared.process.Variable.{Variable}
use Rattle.rtl_variable_registers.specs.Bodies as spec
use Rattle.rtl_variable_registers.specs.Known as known
use Rattle.rtl_variable_registers.specs.Processes.{kept_variables, kept_elements, kept_starts, rank_in, drivers_from}
use Rattle.rtl_kept_bodies.specs.declared.constants.Known.{Known}
use Rattle.rtl_kept_bodies.specs.declared.forms.Form.{Form}
use Rattle.rtl_kept_bodies.specs.declared.forms.Form.TheVariants.{Alone, ResetFirst, ResetBehind, Other}
use Rattle.rtl_kept_bodies.specs.declared.kept.Kept.{Kept}
use Rattle.rtl_kept_bodies.specs.declared.reset.Places.{Places}

-- ---- forms of bodies

-- so many branches, and no else
abbrev pub are_branches : ℕ → Branches → Bool
are_branches zero no_else = true
are_branches (suc n) (branch t s bs) = are_branches n bs
are_branches n bs = false

abbrev pub is_if_of : ℕ → Stmt → Bool
is_if_of n (if_of bs) = are_branches n bs
is_if_of n s = false

abbrev pub form_of : Stmts → Form
form_of (step (if_of (branch t s no_else)) done) = Alone
form_of (step (if_of (branch r a (branch t s no_else))) done) = ResetFirst
form_of (step (if_of (branch t s no_else)) (step (if_of (branch r a no_else)) done)) = ResetBehind
form_of _ = Other

-- branches with others in place of the one at this place, if it is there; and that one, else the others
abbrev pub put_at : ℕ → Stmts → Branches → Branches
put_at n x no_else = no_else
put_at n x (otherwise s) = otherwise s
put_at zero x (branch t s bs) = branch t x bs
put_at (suc n) x (branch t s bs) = branch t s (put_at n x bs)

abbrev pub taken_at : ℕ → Stmts → Branches → Stmts
taken_at n x no_else = x
taken_at n x (otherwise s) = x
taken_at zero x (branch t s bs) = s
taken_at (suc n) x (branch t s bs) = taken_at n x bs

abbrev pub with_branch : ℕ → Stmts → Stmt → Stmt
with_branch n x (if_of bs) = if_of (put_at n x bs)
with_branch n x s = s

abbrev pub branch_at : ℕ → Stmts → Stmt → Stmts
branch_at n x (if_of bs) = taken_at n x bs
branch_at n x s = x

-- the branch of a body's edge
abbrev pub edge_branch : Stmts → Stmts
edge_branch (step (if_of (branch t s no_else)) done) = s
edge_branch (step (if_of (branch r a (branch t s no_else))) done) = s
edge_branch (step (if_of (branch t s no_else)) (step (if_of (branch r a no_else)) done)) = s
edge_branch _ = done

-- ---- marks of elements

-- These are marked besides.
pub record Marked (these : ℕ → Bool) (old new : List Bool) : Type 0 where
  pub same_length : length new ≡ length old
  pub each : (e : ℕ) → slice_index_or new e true ≡ (slice_index_or old e true || these e)

-- Of so many elements just these are marked.
pub record Marks (many : ℕ) (these : ℕ → Bool) (marks : List Bool) : Type 0 where
  pub length_is : length marks ≡ many
  pub each : (e : ℕ) → e < many → slice_index_or marks e true ≡ these e

-- ---- what is set

-- a branch of an if, and an alternative of a case
abbrev pub branch_sets : (element : ℕ) → Branch → Bool
branch_sets element b = stmts_assign (is_element element) (statements_of b.statements.items)

abbrev pub alternative_sets : (element : ℕ) → Alternative → Bool
alternative_sets element a = stmts_assign (is_element element) (statements_of a.statements.items)

-- what is set is among so many elements
abbrev pub SetsWithin : (many : ℕ) → Stmts → Type 0
SetsWithin many s = (e : ℕ) → stmts_assign (is_element e) s ≡ true → e < many

-- ---- what is known

-- by flags of elements; one that isn't there counts as known
abbrev pub knows : List Bool → (e : ℕ) → Bool
knows flags e = slice_index_or flags e true

-- just these are flagged
abbrev pub Knows : (these : ℕ → Bool) → List Bool → Type 0
Knows these flags = (e : ℕ) → knows flags e ≡ these e

-- The same is known, and it is noted whether what was looked at is.
pub record NeedsKnown (is_known : Bool) (old new : Known) : Type 0 where
  pub same : new.elements ≡ old.elements
  pub all : new.all ≡ (old.all && is_known)

-- a statement's part in `gives_constants`
abbrev pub stmt_gives : (these : ℕ → Bool) → Stmt → Bool
stmt_gives these null_of = true
stmt_gives these (assign places v) = known.is_known these v
stmt_gives these (set es v) = known.is_known these v
stmt_gives these _ = false

abbrev pub known_after : (these : ℕ → Bool) → Stmt → (e : ℕ) → Bool
known_after these (set es v) e = these e || list_any (λ d. d == e) es
known_after these s e = these e

-- ---- constants

-- an evaluated value, as a constant
abbrev pub constant_view : Evaluated → Value
constant_view (evaluated.Elements values) = elements (constant values)
constant_view (evaluated.Position at) = position at

-- A value that reads no signal can be evaluated, where the variables have these values.
pub record CanEvaluate (variables : List ℕ) (v : Value) : Type 0 where
  pub scope : Scope
  pub type_of : ElementType
  pub fits : FitsAs scope type_of v
  pub reads_none : value_reads v ≡ []
  pub as_many : length variables ≡ length scope.variables
  pub typed : KeepsTypes scope.variables variables

-- The values of statements can, one after another: what they look at is known.
pub record CanCompute (variables : List ℕ) (s : Stmts) : Type 0 where
  pub scope : Scope
  pub these : ℕ → Bool
  pub fits : Fits scope s
  pub gives : known.gives_constants these s ≡ true
  pub as_many : length variables ≡ length scope.variables
  pub typed : KeepsTypes scope.variables variables

-- ---- variables that are kept

-- how many elements those of these variables have that are kept
abbrev pub kept_count : List Bool → List Variable → ℕ
kept_count (true ∷ flags) (v ∷ vs) = length v.starts.items + kept_count flags vs
kept_count (false ∷ flags) (v ∷ vs) = kept_count flags vs
kept_count flags vs = 0

-- those that are kept, whose elements, nets and drivers are numbered from these on
abbrev pub kept_from : (element net place : ℕ) → List Bool → List Variable → List Kept
kept_from element net place (true ∷ flags) (v ∷ vs) =
    let len = length v.starts.items in
    record { kind = v.kind; element = element; net = net; place = place; len = len }
    ∷ kept_from (element + len) (net + len) (place + len) flags vs
kept_from element net place (false ∷ flags) (v ∷ vs) = kept_from (element + length v.starts.items) net place flags vs
kept_from element net place flags vs = []

-- its elements are among so many, and its places are words of 32 bits
pub record IsWithin (many : ℕ) (k : Kept) : Type 0 where
  pub elements : k.element + k.len ≤ many
  pub places : k.place + k.len ≤ 2 ^ 32

-- what so many nets hold from this one on, and what so many elements have
abbrev pub held_by : ElementType → (net len : ℕ) → Value
held_by nine_valued net len = elements (signal (range_with_len net len))
held_by (enumeration literals) net len = position_of net

abbrev pub had_by : ElementType → (element len : ℕ) → Value
had_by nine_valued element len = elements (variable (range_with_len element len))
had_by (enumeration literals) element len = position_in element

abbrev pub recall_of : Kept → Stmt
recall_of k = set (range_with_len k.element k.len) (held_by (element_type k.kind) k.net k.len)

abbrev pub remember_of : Kept → Stmt
remember_of k = assign (range_with_len k.place k.len) (had_by (element_type k.kind) k.element k.len)

abbrev pub recall_all : List Kept → Stmts
recall_all [] = done
recall_all (k ∷ ks) = step (recall_of k) (recall_all ks)

abbrev pub remember_all : List Kept → Stmts
remember_all [] = done
remember_all (k ∷ ks) = step (remember_of k) (remember_all ks)

-- ---- places of drivers

-- of an element, that in its variable, else this one
abbrev pub placed : Kept → (otherwise e : ℕ) → ℕ
placed k d e = if nat_le k.element e && nat_lt e (k.element + k.len) then k.place + (e - k.element) else d

abbrev pub placed_by : List Kept → (otherwise e : ℕ) → ℕ
placed_by [] d e = d
placed_by (k ∷ ks) d e = placed k (placed_by ks d e) e

abbrev pub place_at : Places → ℕ → ℕ
place_at p e = slice_index_or p.listed.items e p.behind

-- what is assigned to variables is assigned to the drivers at these places
abbrev pub stmt_at_reset : (place : ℕ → ℕ) → Stmt → Stmt
stmt_at_reset place (set es v) = assign (map place es) v
stmt_at_reset place s = s

abbrev pub all_at_reset : (place : ℕ → ℕ) → Stmts → Stmts
all_at_reset place done = done
all_at_reset place (step s rest) = step (stmt_at_reset place s) (all_at_reset place rest)

-- ---- drivers

abbrev pub drivers_of : (starts : List ℕ) → Kept → List FlatDriver
drivers_of starts k = drivers_from k.net (map (slice_index starts) (range_with_len k.element k.len))

abbrev pub all_drivers_of : (starts : List ℕ) → List Kept → List FlatDriver
all_drivers_of starts ks = flat_map (drivers_of starts) ks

-- ---- a process

-- These are the variables of a process that are kept, whose nets stand from the first on.
pub record AreKept (first : ℕ) (p : FlatProcess) (ks : List Kept) : Type 0 where
  pub within : All (IsWithin (length (element_starts p.variables))) ks
  pub recall : recall_all ks
      ≡ spec.recalled (λ e. first + rank_in (kept_elements p) e) (λ e. length p.drivers + rank_in (kept_elements p) e)
      (kept_variables p)
  pub remember : remember_all ks
      ≡ spec.remembered (λ e. first + rank_in (kept_elements p) e) (λ e. length p.drivers + rank_in (kept_elements p) e)
      (kept_variables p)
  pub places : (e : ℕ) → placed_by ks (length p.drivers + length (kept_elements p)) e
      ≡ length p.drivers + rank_in (kept_elements p) e
  pub drivers : all_drivers_of (element_starts p.variables) ks ≡ drivers_from first (kept_starts p)
