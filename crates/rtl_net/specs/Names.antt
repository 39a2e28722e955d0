-- Names of nets and processes, as messages and traces print them.
use Rattle.std.specs.Prelude.{ℕ, zero, suc, ◌+◌, ◌-◌, nat_le, ◌==◌, if◌then◌else◌, List, [], ◌∷◌, ◌++◌, slice_get, option_map, Option, Some, None, codes, decimal}
use Rattle.rtl_net.specs.declared.process.Process.{Process}
use Rattle.rtl_net.specs.declared.signal.SignalKind.{SignalKind}
use Rattle.rtl_net.specs.declared.signal.SignalKind.TheVariants as g
use Rattle.rtl_net.specs.Digits.{digits_between}
use Rattle.rtl_net.specs.Nets.{NetlistView, ScopeView, SignalView, label_at, parent_of}

-- ---- the declaration that a net comes from

-- an element of a signal, by the signal's number and its place from the left
pub record Element : Type 0 where
  pub signal : ℕ
  pub place : ℕ

-- the first place of a net among these
abbrev pub place_in : (nets : List ℕ) → (net : ℕ) → Option ℕ
place_in [] net = None
place_in (n ∷ ns) net = if n == net then Some 0 else option_map suc (place_in ns net)

abbrev pub element_or : (signal : ℕ) → (place : Option ℕ) → (later : Option Element) → Option Element
element_or signal None later = later
element_or signal (Some place) later = Some (record { signal = signal; place = place })

-- of these signals, the first of which has this number, the first element with this net
abbrev pub element_from : ℕ → List SignalView → (net : ℕ) → Option Element
element_from number [] net = None
element_from number (s ∷ ss) net = element_or number (place_in s.nets net) (element_from (suc number) ss net)

-- The element that a net was declared as. A port of an instance comes after its actual, so it is never that of the
-- actual's net.
abbrev pub element_of : NetlistView → (net : ℕ) → Option Element
element_of net n = element_from 0 net.signals n

-- ---- names

-- the scope's label, behind its parent's path and a dot
abbrev pub behind_parent : (path_of : ℕ → List ℕ) → (parent : Option ℕ) → List ℕ
behind_parent path_of None = []
behind_parent path_of (Some p) = path_of p ++ codes "."

-- the same, with so many steps up at most
abbrev pub path_within : (steps : ℕ) → List ScopeView → (scope : ℕ) → List ℕ
path_within zero scopes k = label_at scopes k
path_within (suc steps) scopes k = behind_parent (path_within steps scopes) (parent_of scopes k) ++ label_at scopes k

-- A parent's number is less than its scope's: as many steps as that lead to the top.
abbrev pub path : List ScopeView → (scope : ℕ) → List ℕ
path scopes k = path_within k scopes k

-- the index of a vector's element by its place from the left: up from the left bound, or down where the right one
-- is less
abbrev pub index_at : (left right place : ℕ) → ℕ
index_at left right place = if nat_le left right then left + place else left - place

-- `(i)` behind the name of a vector, `[k]` behind that of an integer: its digit for 2^k
abbrev pub index_suffix : SignalKind → (place : ℕ) → List ℕ
index_suffix g.One place = []
index_suffix (g.Vector left right) place = codes "(" ++ decimal (index_at left right place) ++ codes ")"
index_suffix (g.Enumeration count) place = []
index_suffix g.Boolean place = []
index_suffix (g.Integer least greatest) place =
    codes "[" ++ decimal (digits_between least greatest - 1 - place) ++ codes "]"

abbrev pub name_of_element : List ScopeView → SignalView → (place : ℕ) → List ℕ
name_of_element scopes s place = path scopes s.scope ++ codes "." ++ s.name ++ index_suffix s.kind place

abbrev pub signal_name : List ScopeView → (place : ℕ) → Option SignalView → List ℕ
signal_name scopes place None = []
signal_name scopes place (Some s) = name_of_element scopes s place

abbrev pub element_name : NetlistView → Option Element → List ℕ
element_name net None = []
element_name net (Some e) = signal_name net.scopes e.place (slice_get net.signals e.signal)

-- `path.name`, `path.name(i)`, or `path.name[k]`
abbrev pub net_name : NetlistView → (n : ℕ) → List ℕ
net_name net n = element_name net (element_of net n)

-- the labels of the generates, each before a dot
abbrev pub generates_prefix : List ℕ → List ℕ
generates_prefix [] = []
generates_prefix (b ∷ bs) = b ∷ bs ++ codes "."

-- the label, or `#K` where K is the process's number
abbrev pub label_or_number : (p : ℕ) → Option (List ℕ) → List ℕ
label_or_number p None = codes "#" ++ decimal p
label_or_number p (Some label) = label

abbrev pub name_of_process : List ScopeView → Process → (p : ℕ) → List ℕ
name_of_process scopes process p =
    path scopes process.scope ++ codes "." ++ generates_prefix process.generates.items
    ++ label_or_number p (option_map (λ l. l.items) process.label)

-- `path.label`, or `path.#K`, the labels of generates between
abbrev pub process_name : NetlistView → (p : ℕ) → List ℕ
process_name net p = named (slice_get net.processes p)
  where
    named : Option Process → List ℕ
    named None = []
    named (Some process) = name_of_process net.scopes process p
