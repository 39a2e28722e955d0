-- What a net is called in a scope, and the instance that a scope is.
use Rattle.std.specs.Prelude.{ℕ, zero, suc, ◌==◌, ◌&&◌, Bool, if◌then◌else◌, List, [], filter, find, map, Option, Some, None, option_map}
use Rattle.rtl_body_facts.specs.Reading.{is_in}
use Rattle.rtl_net.specs.Nets.{NetlistView, ScopeView, SignalView, label_at, parent_of}
use Rattle.rtl_net.specs.declared.process.Process.{Process}
use Rattle.vhdl_lexer.specs.declared.token.Token.{Token}
use Rattle.vhdl_places.specs.Maps.{entity_name, instance_in}
use Rattle.vhdl_slips.specs.Words.{Read}

-- the net is one of the signal's
abbrev pub has_net : (n : ℕ) → SignalView → Bool
has_net n s = is_in n s.nets

abbrev pub is_called : (scope n : ℕ) → SignalView → Bool
is_called scope n s = (s.scope == scope) && has_net n s

-- the signals and ports of a scope that the net is one of, by their names
abbrev pub names_in : NetlistView → (scope n : ℕ) → List (List ℕ)
names_in net scope n = map (λ (s : SignalView). s.name) (filter (is_called scope n) net.signals)

-- the scope that declares it: the first signal with the net is no port of an instance
abbrev pub scope_of_net : NetlistView → (n : ℕ) → Option ℕ
scope_of_net net n = option_map (λ (s : SignalView). s.scope) (find (has_net n) net.signals)

abbrev pub scope_of : Option Process → Option ℕ
scope_of None = None
scope_of (Some process) = Some process.scope

-- ---- on the way up, with so many steps at most

-- of the scopes from this one up, the one that stands in the given one
abbrev pub child_by : (child : ℕ → Option ℕ) → (owner scope : ℕ) → (parent : Option ℕ) → Option ℕ
child_by child owner scope None = None
child_by child owner scope (Some parent) = if parent == owner then Some scope else child parent

abbrev pub child_within : (steps : ℕ) → List ScopeView → (owner scope : ℕ) → Option ℕ
child_within zero scopes owner scope = None
child_within (suc steps) scopes owner scope =
    child_by (child_within steps scopes owner) owner scope (parent_of scopes scope)

abbrev pub child_of : List ScopeView → (owner scope : ℕ) → Option ℕ
child_of scopes owner scope = child_within scope scopes owner scope

-- ---- the instance that a scope is

-- of a scope in another the entity of its instance there; the top's label is its entity's name
abbrev pub entity_by : (source : Read) → (entity : ℕ → List ℕ) → (label : List ℕ) → (parent : Option ℕ) → List ℕ
entity_by source entity label None = label
entity_by source entity label (Some parent) = entity_name source.text (instance_in source (entity parent) label)

abbrev pub entity_within : (source : Read) → List ScopeView → (steps scope : ℕ) → List ℕ
entity_within source scopes zero scope = label_at scopes scope
entity_within source scopes (suc steps) scope =
    entity_by source (entity_within source scopes steps) (label_at scopes scope) (parent_of scopes scope)

abbrev pub instance_by : (source : Read) → List ScopeView → (label : List ℕ) → (parent : Option ℕ) → List Token
instance_by source scopes label None = []
instance_by source scopes label (Some parent) = instance_in source (entity_within source scopes parent parent) label

-- a parent's number is less than its scope's, so that many steps lead to the top
abbrev pub instance_of : (source : Read) → List ScopeView → (scope : ℕ) → List Token
instance_of source scopes scope = instance_by source scopes (label_at scopes scope) (parent_of scopes scope)
