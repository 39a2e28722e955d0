-- The header of a value change dump (IEEE 1364-2005, 18.2.3): the unit of time, then each scope inside the scope round
-- it, with its names in order of declaration.
use Rattle.std.specs.Prelude.{ℕ, zero, suc, ◌-◌, ◌==◌, if◌then◌else◌, List, [], ◌++◌, length, Option, Some, None, codes, decimal}
use Rattle.rtl_net.specs.declared.signal.SignalKind.{SignalKind}
use Rattle.rtl_net.specs.declared.signal.SignalKind.TheVariants.{Vector}
use Rattle.rtl_net.specs.Nets.{ScopeView, SignalView, parent_of, label_at}
use Rattle.rtl_vcd_values.specs.Values.{code, variable_type, digits, numbered}

-- ---- names

-- the bounds of a vector, as declared
abbrev pub bounds : SignalKind → List ℕ
bounds (Vector left right) = codes " [" ++ decimal left ++ codes ":" ++ decimal right ++ codes "]"
bounds _ = []

-- the declaration of the name number k (18.2.3.7)
abbrev pub variable_line : (k : ℕ) → SignalView → List ℕ
variable_line k s =
    codes "$var " ++ variable_type s.kind ++ codes " " ++ decimal (digits s.kind (length s.nets)) ++ codes " "
    ++ code k ++ codes " " ++ s.name ++ bounds s.kind ++ codes " $end\n"

-- the same, if the name stands in this scope
abbrev pub variable_line_in : (scope k : ℕ) → SignalView → List ℕ
variable_line_in scope k s = if s.scope == scope then variable_line k s else []

-- ---- scopes

abbrev pub one_deeper : (depth_of : ℕ → ℕ) → Option ℕ → ℕ
one_deeper depth_of None = 0
one_deeper depth_of (Some parent) = suc (depth_of parent)

-- how many scopes are round this one, counted in so many steps up at most
abbrev pub depth_within : (steps : ℕ) → List ScopeView → (scope : ℕ) → ℕ
depth_within zero scopes k = 0
depth_within (suc steps) scopes k = one_deeper (depth_within steps scopes) (parent_of scopes k)

-- A parent's number is less than its scope's: as many steps as that lead to the top.
abbrev pub depth : List ScopeView → (scope : ℕ) → ℕ
depth scopes k = depth_within k scopes k

-- so many scopes are closed (18.2.3.6)
abbrev pub upscopes : ℕ → List ℕ
upscopes zero = []
upscopes (suc n) = codes "$upscope $end\n" ++ upscopes n

-- Before a scope, those that were opened before it and aren't round it are closed: the last one and those round it, so
-- far as they are at least as deep.
abbrev pub closing_before : List ScopeView → (scope : ℕ) → List ℕ
closing_before scopes zero = []
closing_before scopes (suc k) = upscopes (suc (depth scopes k) - depth scopes (suc k))

-- a scope, opened (18.2.3.4), and its names
abbrev pub scope_text : List ScopeView → List SignalView → (scope : ℕ) → List ℕ
scope_text scopes signals k =
    closing_before scopes k ++ (codes "$scope module " ++ label_at scopes k ++ codes " $end\n")
    ++ numbered (variable_line_in k) 0 signals

-- the first so many scopes
abbrev pub scopes_text : List ScopeView → List SignalView → (count : ℕ) → List ℕ
scopes_text scopes signals zero = []
scopes_text scopes signals (suc k) = scopes_text scopes signals k ++ scope_text scopes signals k

-- behind so many scopes the last and all round it are closed
abbrev pub closing_after : List ScopeView → (count : ℕ) → List ℕ
closing_after scopes zero = []
closing_after scopes (suc k) = upscopes (suc (depth scopes k))

abbrev pub header_text : List ScopeView → List SignalView → List ℕ
header_text scopes signals =
    codes "$timescale 1 ns $end\n" ++ scopes_text scopes signals (length scopes)
    ++ closing_after scopes (length scopes) ++ codes "$enddefinitions $end\n"
