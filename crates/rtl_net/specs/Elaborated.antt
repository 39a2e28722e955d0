-- What holds of every `Net`: that it is in range and connected (so that all laws of rtl_model hold of it) and within
-- the limits of elaboration, that each process lists what its body reads, and how scopes and signals stand.
use Rattle.std.specs.Prelude.{◌≡◌, ◌≢◌, ◌↔◌, ◌⊎◌, ℕ, suc, ◌-◌, ◌<◌, ◌≤◌, max, min, true, All, List, [], length, Contains, Some, None, IfSome}
use Rattle.std.specs.List.{AllPairs}
use Rattle.std.specs.List.Sorted.{IsStrictlyIncreasing}
use Rattle.rtl_model.specs.bodies.Reads.{reads}
use Rattle.rtl_model.specs.bodies.Types.{ElementType, HasType}
use Rattle.rtl_model.specs.bodies.Fits.{IsWidth}
use Rattle.rtl_model.specs.nets.FlatNetlist.{IsInRange}
use Rattle.rtl_model.specs.nets.Wiring.{IsConnected}
use Rattle.rtl_net.specs.declared.process.Variable.{Variable}
use Rattle.rtl_net.specs.declared.process.Process.{Process}
use Rattle.rtl_net.specs.declared.signal.SignalKind.{SignalKind}
use Rattle.rtl_net.specs.declared.signal.SignalKind.TheVariants as g
use Rattle.rtl_net.specs.Nets.{ScopeView, SignalView, NetlistView, flat, body_of, element_type, parent_of}
use Rattle.rtl_net.specs.Digits.{digits_between}
use Rattle.rtl_net.specs.Limits.{most_nets, most_processes, most_scopes}
use Rattle.rtl_net.specs.Names.{Element, element_of}

-- how many elements a signal or variable has: a vector those from one bound to the other (IEEE 1076-2008, 5.3.2.2), an
-- integer so many digits as its bounds need, and a boolean the one that is '1' where it is true
abbrev pub width_of : SignalKind → ℕ
width_of g.One = 1
width_of (g.Vector left right) = suc (max left right - min left right)
width_of (g.Enumeration count) = 1
width_of (g.Integer least greatest) = digits_between least greatest
width_of g.Boolean = 1

-- ---- processes

-- `reads` are the nets that the body reads, in order, each once
pub record ReadsOfBody (p : Process) : Type 0 where
  pub rise : IsStrictlyIncreasing p.reads.items
  pub all : (n : ℕ) → Contains p.reads.items n ↔ Contains (reads (body_of p)) n

pub record VariableIsNamed (v : Variable) : Type 0 where
  pub name : v.name.items ≢ []
  pub as_declared : length v.starts.items ≡ width_of v.kind

-- it stands in one of so many scopes
pub record ProcessIsNamed (scopes : ℕ) (p : Process) : Type 0 where
  pub scope : p.scope < scopes
  pub label : IfSome p.label (λ label. label.items ≢ [])
  pub variables : All VariableIsNamed p.variables.items

-- ---- scopes

-- a scope is the other, or the other stands in it, at any depth
pub data IsRound (scopes : List ScopeView) (outer : ℕ) : (inner : ℕ) → Type 0 where
  itself : IsRound scopes outer outer
  further_in : (inner parent : ℕ) → parent_of scopes inner ≡ Some parent
      → IsRound scopes outer parent → IsRound scopes outer inner

-- in order of the text, the scope after k stands in k or in one round it
pub record FollowsInText (scopes : List ScopeView) (k : ℕ) : Type 0 where
  pub parent : ℕ
  pub is : parent_of scopes (suc k) ≡ Some parent
  pub before : parent ≤ k
  pub round : IsRound scopes parent k

pub record AreScopes (scopes : List ScopeView) : Type 0 where
  pub some : 0 < length scopes
  pub labels : All (λ (s : ScopeView). s.label ≢ []) scopes
  -- the first is the top
  pub top : parent_of scopes 0 ≡ None
  pub others : (k : ℕ) → suc k < length scopes → FollowsInText scopes k

-- ---- signals

pub record SignalInRange (types : List ElementType) (scopes : ℕ) (s : SignalView) : Type 0 where
  pub scope : s.scope < scopes
  pub name : s.name ≢ []
  pub width : IsWidth (length s.nets)
  pub as_declared : length s.nets ≡ width_of s.kind
  pub nets : All (HasType types (element_type s.kind)) s.nets

-- by scope, and in a scope its ports first
abbrev pub ComesBefore : SignalView → SignalView → Type 0
ComesBefore s t = (s.scope < t.scope) ⊎ ((s.scope ≡ t.scope) × (t.port ≡ true → s.port ≡ true))

abbrev pub IsPortOfTop : SignalView → Type 0
IsPortOfTop s = (s.scope ≡ 0) × (s.port ≡ true)

-- the nets of a port of the top are inputs, all or none
abbrev pub IsInOrOut : (inputs : List ℕ) → SignalView → Type 0
IsInOrOut inputs s = IsPortOfTop s → All (Contains inputs) s.nets ⊎ All (λ n. Contains inputs n → ⊥) s.nets

-- an input is an element of a port of the top
pub record IsOfPort (signals : List SignalView) (n : ℕ) : Type 0 where
  pub port : SignalView
  pub there : Contains signals port
  pub is_port : IsPortOfTop port
  pub has : Contains port.nets n

-- ---- the netlist

pub record IsNet (net : NetlistView) : Type 0 where
  pub in_range : IsInRange (flat net)
  pub connected : IsConnected (flat net)
  -- the limits of elaboration
  pub nets_limit : length net.types ≤ most_nets
  pub processes_limit : length net.processes ≤ most_processes
  pub scopes_limit : length net.scopes ≤ most_scopes
  pub reads : All ReadsOfBody net.processes
  pub processes : All (ProcessIsNamed (length net.scopes)) net.processes
  pub scopes : AreScopes net.scopes
  pub signals : All (SignalInRange net.types (length net.scopes)) net.signals
  pub signals_in_order : AllPairs ComesBefore net.signals
  pub ports : All (IsInOrOut net.inputs) net.signals
  pub inputs : All (IsOfPort net.signals) net.inputs
  -- each net was declared as an element of a signal
  pub declared : (n : ℕ) → n < length net.types → (e : Element) × (element_of net n ≡ Some e)
