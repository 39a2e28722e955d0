-- A netlist that shows an elaborated one is one in the sense of rtl_net.
use Rattle.std.proofs.Common.{◌≡◌, ℕ, zero, suc, ◌+◌, ◌<◌, ◌≤◌, List, [], ◌∷◌, length, map, Option, Some, None, Ok, All, AllPairs, refl, sym, ap, ◌∙◌, subst, arith}
use Rattle.std.specs.Prelude.{◌≢◌, IsTrue, IfSome, option_map}
use Rattle.std.specs.List.{AllZip, range_with_len}
use Rattle.std.proofs.lemmas.List.{length-map}
use Rattle.std.proofs.lemmas.List.Elements.{All-nil, All-cons, All-head, All-tail, All-map, All-weaker}
use Rattle.rtl_model.specs.nets.FlatNetlist.{FlatNetlist, FlatVariable, FlatProcess, IsInRange}
use Rattle.rtl_model.specs.nets.Wiring.{IsConnected}
use Rattle.rtl_model.specs.bodies.Types.{ElementType, HasType}
use Rattle.rtl_net.specs.declared.process.Variable.{Variable}
use Rattle.rtl_net.specs.declared.process.Process.{Process}
use Rattle.rtl_net.specs.declared.signal.SignalKind.{SignalKind}
use Rattle.rtl_net.specs.Nets.{ScopeView, SignalView, element_type, variable_view, process_view, flat}
use Rattle.rtl_net.specs.Names.{Element, element_from, path, net_name}
use Rattle.rtl_net.specs.Elaborated.{width_of, VariableIsNamed, ProcessIsNamed, AreScopes, SignalInRange, ComesBefore, IsInOrOut, IsOfPort}
use Rattle.vhdl_names_rules.specs.units.Units.{Units}
use Rattle.vhdl_names_rules.specs.sound.Units.{are_sound}
use Rattle.vhdl_expand_rules.specs.Kinds.{ObjectKind, one}
use Rattle.vhdl_expand_rules.specs.Kinds as k
use Rattle.vhdl_expand_rules.specs.Expansion.{Design, expanded_design}
use Rattle.vhdl_expand_rules.specs.Tree.{Object, objects_of}
use Rattle.vhdl_expand_rules.specs.Tops.{Top}
use Rattle.vhdl_expand_rules.proofs.Steps.{bound}
use Rattle.vhdl_expand_rules.proofs.laws.Lengths.{design-fits}
use Rattle.vhdl_expand_rules.proofs.laws.Trees.{each-tree-is-sound}
use Rattle.rtl_net.specs.Limits.{most_nets, most_processes, most_scopes}
use Rattle.vhdl_elab_rules.specs.Numbering.{Placed, Located, Numbered, numbered_design}
use Rattle.vhdl_elab_rules.specs.Wiring.{flat_net, inputs_of}
use Rattle.vhdl_elab_rules.specs.Names.{Scope, Signal, NamedVariable, NamedProcess, net_names}
use Rattle.vhdl_elab_rules.specs.Elaboration.{Elaborated, net_of, elaborated_net}
use Rattle.vhdl_elab_rules.specs.laws.Names.{ProcessHasName}
use Rattle.vhdl_elab_rules.specs.laws.Scopes.{scope_views}
use Rattle.vhdl_elab_rules.specs.laws.Signals.{kind_view, SignalFits, VariableFits, VariablesFit}
use Rattle.vhdl_elab_rules.proofs.laws.Shape.{each-has-shape}
use Rattle.vhdl_elab_rules.proofs.laws.Sound.{accepted, each-net-is-sound, each-net-is-within-limits}
use Rattle.vhdl_elab_rules.proofs.laws.Scopes.{each-scope-follows}
use Rattle.vhdl_elab_rules.proofs.laws.Signals.{each-signal-fits, each-variable-fits}
use Rattle.vhdl_elab_rules.proofs.laws.Names.{each-has-names}
use Rattle.vhdl_elab_rules.specs.Shown.{Shown, ShownProcess, signal_shown, variable_shown, process_shown, shown, net_variable_shown, net_process_shown, net_shown}
use Rattle.vhdl_elab_rules.specs.Nets.{EachElaboratedIsNet}
use Rattle.vhdl_elab_rules.specs.Named.{EachHasItsNames}
use Rattle.vhdl_elab_rules.proofs.Ordered.{is-ordered}
use Rattle.vhdl_elab_rules.proofs.Placed.{Follow, LocatedAt, Walked, walk}
use Rattle.vhdl_elab_rules.proofs.Objects.{all_signals}
use Rattle.vhdl_elab_rules.proofs.Order.{signals-in-order}
use Rattle.vhdl_elab_rules.proofs.Found.{FoundAs, found-element}
use Rattle.vhdl_elab_rules.proofs.Paths.{views, path-is, nets-found}
use Rattle.vhdl_elab_rules.proofs.Top.{input_nets, inputs-are, ports-in-or-out, inputs-of-ports}
use Rattle.vhdl_elab_rules.proofs.Named.{alike, net-names, process-names, same-parts}

-- ---- the design behind a netlist

-- how the instances of an elaborated netlist stand
pub record Behind (units : Units) (top : Top) (x : Elaborated) : Type 0 where
  pub design : Design
  pub gave : expanded_design units top ≡ Ok design
  pub is : net_of (numbered_design design) ≡ x
  pub walked : Walked (objects_of design.top) (numbered_design design)

pub behind : (units : Units) (top : Top) (x : Elaborated) → IsTrue (are_sound units) → elaborated_net units top ≡ Ok x → Behind units top x
unfolding elaborated_net numbered_design
behind units top x sound e =
    let design = bound (expanded_design units top) _ x e in
    let w = accepted design.x x design.then_gave in
    let tree = each-tree-is-sound units top design.x sound design.gave in
    record {
      design = design.x;
      gave = design.gave;
      is = w.is;
      walked = walk design.x.top design.x.name (design-fits units top design.x design.gave) tree.top (is-ordered units top design.x design.gave).tree tree.not_joined;
    }

-- ---- variables and processes

variables-named : (vs : List NamedVariable) (fs : List FlatVariable) (ws : List Variable) → map net_variable_shown ws ≡ map variable_shown vs → map variable_view ws ≡ fs
    → AllZip VariableFits vs fs → All (λ (v : NamedVariable). v.name ≢ []) vs → All VariableIsNamed ws
variables-named vs fs [] e g fit named = All-nil VariableIsNamed
variables-named [] fs (w ∷ ws) e g fit named = absurd cc
variables-named (v ∷ vs) [] (w ∷ ws) e g fit named = elim fit [ ]
variables-named (v ∷ vs) (f ∷ fs) (w ∷ ws) e g fit named =
    let names = same-parts (net_variable_shown w) (variable_shown v) (map net_variable_shown ws) (map variable_shown vs) e in
    let flats = same-parts (variable_view w) f (map variable_view ws) fs g in
    All-cons VariableIsNamed w ws
    (record {
      name = λ none. All-head (λ (y : NamedVariable). y.name ≢ []) v vs named (sym (ap (λ (p : List ℕ × SignalKind). p.0) names.0) ∙ none);
      as_declared = ap (λ (y : FlatVariable). length y.starts) flats.0 ∙ fit.0.0 ∙ ap (λ (p : List ℕ × SignalKind). width_of p.1) (sym names.0);
    })
    (variables-named vs fs ws names.1 flats.1 fit.1 (All-tail (λ (y : NamedVariable). y.name ≢ []) v vs named))

label-named : {A : Type 0} (f : A → List ℕ) (l : Option A) (o : Option (List ℕ)) → option_map f l ≡ o → IfSome o (λ t. t ≢ []) → IfSome l (λ v. f v ≢ [])
label-named f None o e h = tt
label-named f (Some v) o e h = subst (λ (t : Option (List ℕ)). IfSome t (λ u. u ≢ [])) (sym e) h

processes-named : (scopes : ℕ) (xs : List NamedProcess) (fs : List FlatProcess) (ps : List Process) → map net_process_shown ps ≡ map process_shown xs → map process_view ps ≡ fs → AllZip VariablesFit xs fs
    → All (ProcessHasName scopes) xs → All (ProcessIsNamed scopes) ps
processes-named scopes xs fs [] e g fit named = All-nil (ProcessIsNamed scopes)
processes-named scopes [] fs (p ∷ ps) e g fit named = absurd cc
processes-named scopes (x ∷ xs) [] (p ∷ ps) e g fit named = elim fit [ ]
processes-named scopes (x ∷ xs) (f ∷ fs) (p ∷ ps) e g fit named =
    let shows = same-parts (net_process_shown p) (process_shown x) (map net_process_shown ps) (map process_shown xs) e in
    let flats = same-parts (process_view p) f (map process_view ps) fs g in
    let has = All-head (ProcessHasName scopes) x xs named in
    All-cons (ProcessIsNamed scopes) p ps
    (record {
      scope = subst (λ n. n < scopes) (sym (ap (λ (s : ShownProcess). s.scope) shows.0)) has.scope;
      label = label-named (λ l. l.items) p.label x.label (ap (λ (s : ShownProcess). s.label) shows.0) has.label;
      variables = variables-named x.variables f.variables p.variables.items (ap (λ (s : ShownProcess). s.variables) shows.0) (ap (λ (q : FlatProcess). q.variables) flats.0) fit.0 has.variables;
    })
    (processes-named scopes xs fs ps shows.1 flats.1 fit.1 (All-tail (ProcessHasName scopes) x xs named))

-- ---- signals

same-type : (q : ObjectKind) → element_type (kind_view q) ≡ k.element_type q
same-type one = refl
same-type _ = refl

signals-in-range : (types : List ElementType) (scopes : ℕ) (ss : List Signal) → All (SignalFits types scopes) ss → All (λ (s : Signal). s.name ≢ []) ss → All (SignalInRange types scopes) (map signal_shown ss)
signals-in-range types scopes [] h g = All-nil (SignalInRange types scopes)
signals-in-range types scopes (s ∷ ss) h g =
    let fit = All-head (SignalFits types scopes) s ss h in
    All-cons (SignalInRange types scopes) (signal_shown s) (map signal_shown ss)
    (record {
      scope = fit.scope;
      name = All-head (λ (t : Signal). t.name ≢ []) s ss g;
      width = fit.width;
      as_declared = fit.as_declared;
      nets = subst (λ (t : ElementType). All (HasType types t) s.nets) (sym (same-type s.kind)) fit.nets;
    })
    (signals-in-range types scopes ss (All-tail (SignalFits types scopes) s ss h) (All-tail (λ (t : Signal). t.name ≢ []) s ss g))

-- ---- what is told of the netlist of a design

record Told (d : Numbered) : Type 0 where
  in_order : AllPairs ComesBefore (all_signals 0 d.instances)
  ports : All (IsInOrOut (inputs_of d)) (all_signals 0 d.instances)
  inputs : All (IsOfPort (all_signals 0 d.instances)) (inputs_of d)
  found : AllZip (FoundAs (views d.instances) (all_signals 0 d.instances)) (range_with_len 0 d.nets) (net_names d)

told : (os : List Object) (d : Numbered) → Walked os d → Told d
told os d w =
    let follow : Follow [] 0 d.instances d.nets = w.so_far.follow in
    let h : Follow [] 0 (w.top ∷ w.others) d.nets = subst (λ (ps : List Placed). Follow [] 0 ps d.nets) w.instances follow in
    let inputs : inputs_of d ≡ input_nets h.0.above 0 w.top.objects = inputs-are d w.top w.others d.nets w.instances h in
    record {
      in_order = signals-in-order d.instances d.nets follow;
      ports = subst (λ (ns : List ℕ). All (IsInOrOut ns) (all_signals 0 d.instances)) (sym inputs)
          (subst (λ (ps : List Placed). All (IsInOrOut (input_nets h.0.above 0 w.top.objects)) (all_signals 0 ps)) (sym w.instances) (ports-in-or-out w.top w.others d.nets h));
      inputs = subst (λ (ns : List ℕ). All (IsOfPort (all_signals 0 d.instances)) ns) (sym inputs)
          (subst (λ (ps : List Placed). All (IsOfPort (all_signals 0 ps)) (input_nets h.0.above 0 w.top.objects)) (sym w.instances) (inputs-of-ports w.top w.others d.nets h));
      found = nets-found d.instances d.nets follow;
    }

run-at : {A : Type 0} (R : ℕ → A → Type 0) (first count : ℕ) (ys : List A) (n : ℕ) → AllZip R (range_with_len first count) ys → n < count → (y : A) × R (first + n) y
run-at {A} R first zero ys n h l = absurd (omega (arith, l))
run-at {A} R first (suc m) [] n h l = elim h [ ]
run-at {A} R first (suc m) (y ∷ ys) zero h l = (y, subst (λ k. R k y) (none first) h.0)
  where
    none : (k : ℕ) → k ≡ k + 0
    none k = omega arith
run-at {A} R first (suc m) (y ∷ ys) (suc n) h l = let (z, r) = run-at R (first + 1) m ys n h.1 (omega (arith, l)) in (z, subst (λ k. R k z) (further first n) r)
  where
    further : (k j : ℕ) → k + 1 + j ≡ k + suc j
    further k j = omega arith

is-declared : (d : Numbered) → Told d → (n : ℕ) → n < d.nets → (e : Element) × (element_from 0 (all_signals 0 d.instances) n ≡ Some e)
is-declared d t n l =
    let (name, found) = run-at (FoundAs (views d.instances) (all_signals 0 d.instances)) 0 d.nets (net_names d) n t.found l in
    found-element (views d.instances) (all_signals 0 d.instances) n name (subst (λ k. FoundAs (views d.instances) (all_signals 0 d.instances) k name) (none n) found)
  where
    none : (k : ℕ) → 0 + k ≡ k
    none k = omega arith

pub inputs-in : (d : Numbered) → (flat_net d).inputs ≡ inputs_of d
unfolding flat_net
inputs-in d = refl

-- ---- the whole

pub each-elaborated-is-net : EachElaboratedIsNet
each-elaborated-is-net units top x net sound named e shows reads =
    let b = behind units top x sound e in
    let d : Numbered = numbered_design b.design in
    let t = told (objects_of b.design.top) d b.walked in
    let laws = each-net-is-sound units top x sound e in
    let limits = each-net-is-within-limits units top x e in
    let names = each-has-names units top x named e in
    let text = each-scope-follows units top x e in
    let shape = each-has-shape units top b.design b.gave in
    let same_flat : flat net ≡ x.flat = ap (λ (s : Shown). s.flat) shows in
    let same_scopes : net.scopes ≡ scope_views x.scopes = ap (λ (s : Shown). s.scopes) shows in
    let same_signals : net.signals ≡ map signal_shown x.signals = ap (λ (s : Shown). s.signals) shows in
    let many : length net.scopes ≡ length x.scopes = ap length same_scopes ∙ length-map x.scopes (λ (s : Scope). record { label = s.label; parent = s.parent }) in
    let types : net.types ≡ x.flat.types = ap (λ (f : FlatNetlist). f.types) same_flat in
    let inputs : net.inputs ≡ inputs_of d = ap (λ (f : FlatNetlist). f.inputs) same_flat ∙ ap (λ (y : Elaborated). y.flat.inputs) (sym b.is) ∙ inputs-in d in
    let signals : net.signals ≡ all_signals 0 d.instances = same_signals ∙ ap (λ (y : Elaborated). map signal_shown y.signals) (sym b.is) in
    let nets : length net.types ≡ d.nets = ap length types ∙ ap (λ (y : Elaborated). length y.flat.types) (sym b.is) ∙ shape.types in
    record {
      in_range = subst IsInRange (sym same_flat) laws.0;
      connected = subst IsConnected (sym same_flat) laws.1;
      nets_limit = subst (λ (ts : List ElementType). length ts ≤ most_nets) (sym types) limits.nets;
      processes_limit = subst (λ n. n ≤ most_processes) (sym (ap (λ (f : FlatNetlist). length f.processes) same_flat) ∙ length-map net.processes process_view) limits.processes;
      scopes_limit = subst (λ n. n ≤ most_scopes) (sym many) limits.scopes;
      reads = reads;
      processes = subst (λ n. All (ProcessIsNamed n) net.processes) (sym many)
          (processes-named (length x.scopes) x.processes x.flat.processes net.processes (ap (λ (s : Shown). s.processes) shows) (ap (λ (f : FlatNetlist). f.processes) same_flat) (each-variable-fits units top x sound e) names.processes);
      scopes = subst AreScopes (sym same_scopes) (record {
        some = text.some;
        labels = All-map (λ (s : ScopeView). s.label ≢ []) (λ (s : Scope). record { label = s.label; parent = s.parent }) x.scopes names.scopes;
        top = text.top;
        others = text.others;
      });
      signals = subst (λ n. All (SignalInRange net.types n) net.signals) (sym many)
          (subst (λ (ts : List ElementType). All (SignalInRange ts (length x.scopes)) net.signals) (sym types)
          (subst (All (SignalInRange x.flat.types (length x.scopes))) (sym same_signals) (signals-in-range x.flat.types (length x.scopes) x.signals (each-signal-fits units top x sound e) names.signals)));
      signals_in_order = subst (AllPairs ComesBefore) (sym signals) t.in_order;
      ports = subst (λ (ns : List ℕ). All (IsInOrOut ns) net.signals) (sym inputs) (subst (All (IsInOrOut (inputs_of d))) (sym signals) t.ports);
      inputs = subst (λ (ns : List ℕ). All (IsOfPort net.signals) ns) (sym inputs) (subst (λ (ss : List SignalView). All (IsOfPort ss) (inputs_of d)) (sym signals) t.inputs);
      declared = λ n l. subst (λ (ss : List SignalView). (y : Element) × (element_from 0 ss n ≡ Some y)) (sym signals) (is-declared d t n (subst (λ m. n < m) nets l));
    }

located-paths : (d : Numbered) → Follow [] 0 d.instances d.nets → All (LocatedAt d.instances) d.processes → All (λ (x : Located). path (views d.instances) x.scope ≡ x.round.path) d.processes
located-paths d h g = All-weaker (LocatedAt d.instances) (λ (x : Located). path (views d.instances) x.scope ≡ x.round.path) (λ x at. path-is d.instances d.nets h x.scope x.round at.is) d.processes g

pub each-has-its-names : EachHasItsNames
each-has-its-names units top x net sound e shows =
    let b = behind units top x sound e in
    let d : Numbered = numbered_design b.design in
    let follow = b.walked.so_far.follow in
    let shape = each-has-shape units top b.design b.gave in
    let shows' : net_shown net ≡ shown (net_of d) = subst (λ (y : Elaborated). net_shown net ≡ shown y) (sym b.is) shows in
    let scopes : net.scopes ≡ views d.instances = ap (λ (s : Shown). s.scopes) shows' in
    let signals : net.signals ≡ all_signals 0 d.instances = ap (λ (s : Shown). s.signals) shows' in
    let nets : length net.types ≡ d.nets = ap (λ (s : Shown). length s.flat.types) shows' ∙ shape.types in
    record {
      nets = ap (λ n. map (net_name net) (range_with_len 0 n)) nets ∙ net-names net d follow scopes signals ∙ ap (λ (y : Elaborated). y.net_names) b.is;
      processes = process-names net [] net.processes d.processes 0 refl refl (alike net.processes d.processes (ap (λ (s : Shown). s.processes) shows'))
          (subst (λ (ss : List ScopeView). All (λ (y : Located). path ss y.scope ≡ y.round.path) d.processes) (sym scopes) (located-paths d follow b.walked.so_far.located))
          ∙ ap (λ (y : Elaborated). y.process_names) b.is;
    }
