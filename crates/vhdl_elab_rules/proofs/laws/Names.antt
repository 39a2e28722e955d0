-- Names and labels of elaborated netlists: going through the tree in order of the text.
use Rattle.std.proofs.Common.{◌≡◌, ℕ, ◌+◌, ◌<◌, ◌≤◌, List, [], ◌∷◌, ◌++◌, length, map, All, sym, subst, arith}
use Rattle.std.specs.Prelude.{◌≢◌, flat_map}
use Rattle.std.specs.List.{enumerate_from}
use Rattle.std.proofs.lemmas.List.{length-append, length-map}
use Rattle.std.proofs.lemmas.List.Elements.{All-nil, All-cons, All-append, All-head, All-tail, All-map, All-weaker}
use Rattle.vhdl_expand_rules.specs.Kinds.{size}
use Rattle.vhdl_expand_rules.specs.Tree.{Object, Instance, instance, Parts, no_parts, process, inner}
use Rattle.vhdl_expand_rules.specs.Expansion.{expanded_design}
use Rattle.vhdl_expand_rules.specs.laws.Labels.{ProcessIsNamed, InstanceIsNamed, PartsAreNamed}
use Rattle.vhdl_expand_rules.proofs.Steps.{bound}
use Rattle.vhdl_expand_rules.proofs.laws.Labels.{each-tree-is-named}
use Rattle.vhdl_elab_rules.specs.Numbering.{Placed, Located, Numbered, Above, nothing_numbered, above_top, above_parts, placed_instance, with_process, with_placed, with_instance, with_parts, numbered_design}
use Rattle.vhdl_elab_rules.specs.Names.{Scope, scope_of, Signal, signals_from, signals_of, NamedVariable, named_variable, named_process}
use Rattle.vhdl_elab_rules.specs.Elaboration.{net_of, elaborated_net}
use Rattle.vhdl_elab_rules.specs.laws.Names.{ProcessHasName, HasNames, EachHasNames}
use Rattle.vhdl_elab_rules.proofs.laws.Sound.{accepted}

abbrev ObjectHasName : Object → Type 0
ObjectHasName o = o.name ≢ []

record PlacedIsNamed (p : Placed) : Type 0 where
  label : p.label ≢ []
  objects : All ObjectHasName p.objects

record LocatedIsNamed (scopes : ℕ) (x : Located) : Type 0 where
  scope : x.scope < scopes
  process : ProcessIsNamed x.process

record SoFar (d : Numbered) : Type 0 where
  instances : All PlacedIsNamed d.instances
  processes : All (LocatedIsNamed (length d.instances)) d.processes

-- with at least so many instances
record Step (least : ℕ) (d : Numbered) : Type 0 where
  so_far : SoFar d
  longer : least ≤ length d.instances

deeper : (m n : ℕ) (x : Located) → m ≤ n → LocatedIsNamed m x → LocatedIsNamed n x
deeper m n x l h = let s : x.scope < m = h.scope in record { scope = omega (arith, s, l); process = h.process }

mutual
  instance-named : (i : Instance) (a : Above) (label : List ℕ) (d : Numbered) → label ≢ [] → InstanceIsNamed i → SoFar d → Step (length d.instances) (with_instance a label i d)
  instance-named (instance os turns parts) a label d l h so_far =
      let p : Placed = placed_instance a label d.nets (instance os turns parts) in
      let n : ℕ = length d.instances in
      let len : length (d.instances ++ p ∷ []) ≡ n + 1 = length-append d.instances (p ∷ []) in
      let m : ℕ = length (d.instances ++ p ∷ []) in
      let up : n ≤ m = omega (arith, len) in
      let inside = parts-named parts n p (with_placed p d) h.1 (omega (arith, len)) (record {
        instances = All-append PlacedIsNamed d.instances (p ∷ []) so_far.instances (All-cons PlacedIsNamed p [] (record { label = l; objects = h.0 }) (All-nil PlacedIsNamed));
        processes = All-weaker (LocatedIsNamed n) (LocatedIsNamed m) (λ x w. deeper n m x up w) d.processes so_far.processes;
      }) in
      let far : m ≤ length (with_parts n p parts (with_placed p d)).instances = inside.longer in
      record { so_far = inside.so_far; longer = omega (arith, up, far) }

  parts-named : (ps : Parts) (number : ℕ) (round : Placed) (d : Numbered) → PartsAreNamed ps → number < length d.instances → SoFar d → Step (length d.instances) (with_parts number round ps d)
  parts-named no_parts number round d h l so_far = record { so_far = so_far; longer = omega arith }
  parts-named (process q rest) number round d h l so_far =
      let x : Located = record { scope = number; round = round; process = q } in
      let n : ℕ = length d.instances in
      parts-named rest number round (with_process number round q d) h.1 l (record {
        instances = so_far.instances;
        processes = All-append (LocatedIsNamed n) d.processes (x ∷ []) so_far.processes (All-cons (LocatedIsNamed n) x [] (record { scope = l; process = h.0 }) (All-nil (LocatedIsNamed n)));
      })
  parts-named (inner label i rest) number round d h l so_far =
      let e : Numbered = with_instance (above_parts number round) label i d in
      let first = instance-named i (above_parts number round) label d h.0 h.1 so_far in
      let up : length d.instances ≤ length e.instances = first.longer in
      let second = parts-named rest number round e h.2 (omega (arith, l, up)) first.so_far in
      let far : length e.instances ≤ length (with_parts number round rest e).instances = second.longer in
      record { so_far = second.so_far; longer = omega (arith, up, far) }

-- ---- signals and processes

abbrev SignalHasName : Signal → Type 0
SignalHasName s = s.name ≢ []

signals-named : (scope : ℕ) (nets : List ℕ) (first : ℕ) (os : List Object) → All ObjectHasName os → All SignalHasName (signals_from scope nets first os)
signals-named scope nets first [] h = All-nil SignalHasName
signals-named scope nets first (o ∷ os) h =
    All-cons SignalHasName _ (signals_from scope nets (first + size o.kind) os) (All-head ObjectHasName o os h) (signals-named scope nets (first + size o.kind) os (All-tail ObjectHasName o os h))

all-signals : (from : ℕ) (ps : List Placed) → All PlacedIsNamed ps → All SignalHasName (flat_map signals_of (enumerate_from from ps))
all-signals from [] h = All-nil SignalHasName
all-signals from (p ∷ ps) h =
    All-append SignalHasName (signals_of (from, p)) (flat_map signals_of (enumerate_from (from + 1) ps)) (signals-named from p.nets 0 p.objects (All-head PlacedIsNamed p ps h).objects)
    (all-signals (from + 1) ps (All-tail PlacedIsNamed p ps h))

process-named : (scopes : ℕ) (x : Located) → LocatedIsNamed scopes x → ProcessHasName scopes (named_process x)
process-named scopes x h = record {
  scope = h.scope;
  label = h.process.label;
  variables = All-map (λ (v : NamedVariable). v.name ≢ []) named_variable x.process.variables h.process.variables;
}

has-names : (d : Numbered) → SoFar d → HasNames (net_of d)
has-names d h = record {
  scopes = All-map (λ (s : Scope). s.label ≢ []) scope_of d.instances (All-weaker PlacedIsNamed (λ p. p.label ≢ []) (λ p w. w.label) d.instances h.instances);
  signals = all-signals 0 d.instances h.instances;
  processes = subst (λ n. All (ProcessHasName n) (map named_process d.processes)) (sym (length-map d.instances scope_of))
      (All-map (ProcessHasName (length d.instances)) named_process d.processes
      (All-weaker (LocatedIsNamed (length d.instances)) (λ x. ProcessHasName (length d.instances) (named_process x)) (process-named (length d.instances)) d.processes h.processes));
}

pub each-has-names : EachHasNames
unfolding elaborated_net numbered_design
each-has-names units top x named e =
    let design = bound (expanded_design units top) _ x e in
    let w = accepted design.x x design.then_gave in
    let tree = each-tree-is-named units top design.x named design.gave in
    subst HasNames w.is (has-names (numbered_design design.x)
    (instance-named design.x.top above_top design.x.name nothing_numbered tree.0 tree.1 (record { instances = All-nil PlacedIsNamed; processes = All-nil (LocatedIsNamed 0) })).so_far)
