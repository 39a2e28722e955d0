-- The ports of the top have names of their own, and the elements of its in ports are the inputs.
use Rattle.std.proofs.Common.{◌≡◌, ℕ, Bool, true, false, cond, not, List, [], ◌∷◌, ◌++◌, map, All, refl, sym, ap, ◌∙◌, subst}
use Rattle.std.specs.Prelude.{◌≢◌, filter, flat_map, bytes_eq}
use Rattle.std.specs.Char.{to_ascii_lowercase}
use Rattle.std.specs.List.{AllZip}
use Rattle.std.proofs.lemmas.Bool.{and_parts, not-true, or_parts}
use Rattle.std.proofs.lemmas.Slice.Eq.{bytes_eq-Decides}
use Rattle.std.proofs.lemmas.List.Elements.{All-nil, All-cons, All-head, All-tail, filter-append}
use Rattle.rtl_net.specs.Nets.{SignalView, NetlistView}
use Rattle.rtl_stim_lines.specs.Inputs.{Input, small}
use Rattle.rtl_stim_lines.specs.Inputs as stim
use Rattle.rtl_stim_lines.specs.Times.{nets_of, all_nets}
use Rattle.rtl_stim.specs.Ports.{is_in_port, element_on, input_of, inputs_of}
use Rattle.vhdl_names_rules.specs.Visibility.{is_among, are_distinct}
use Rattle.vhdl_names_rules.specs.units.Units.{Port, Entity}
use Rattle.vhdl_expand_rules.specs.Tree.{Role, input, Object}
use Rattle.vhdl_expand_rules.specs.laws.Trees.{is_port}
use Rattle.vhdl_elab_rules.specs.Numbering.{Placed, Numbered, numbered_design}
use Rattle.vhdl_elab_rules.specs.Wiring.{is_input}
use Rattle.vhdl_elab_rules.specs.Elaboration.{Elaborated, net_of}
use Rattle.vhdl_elab_rules.specs.Shown.{Shown, shown, net_shown}
use Rattle.vhdl_elab_rules.proofs.Ordered.{IsSignal, PortOf, is-ordered}
use Rattle.vhdl_expand_rules.proofs.Items.{all_pass, all_found}
use Rattle.vhdl_elab_rules.proofs.Placed.{Follow}
use Rattle.vhdl_elab_rules.proofs.Objects.{all_signals}
use Rattle.vhdl_elab_rules.proofs.Order.{InTurn, in-pairs}
use Rattle.vhdl_elab_rules.proofs.Top.{input_nets, inputs-are}
use Rattle.vhdl_elab_rules.proofs.Nets.{behind, inputs-in}
use Rattle.vhdl_elab_rules.specs.Ports.{entity_ports_are_distinct, EachHasOwnPorts}
use Rattle.vhdl_elab_rules.proofs.Kept.{in_port, input_signals, kept-of-all, kept-nets, kept-names}

-- ---- names that differ

abbrev Differ : List ℕ → List ℕ → Type 0
Differ i j = i ≢ j

none-same : (n : List ℕ) (ns : List (List ℕ)) → is_among n ns ≡ false → All (Differ n) ns
none-same n [] h = All-nil (Differ n)
none-same n (m ∷ ns) h =
    let both = or_parts (bytes_eq n m) (is_among n ns) h in
    All-cons (Differ n) m ns (λ e. let f = both.0 in let g : bytes_eq n m ≡ true = (bytes_eq-Decides n m).1 e in cc) (none-same n ns both.1)

distinct-differ : (ns : List (List ℕ)) → are_distinct ns ≡ true → InTurn Differ ns
distinct-differ [] h = tt
distinct-differ (n ∷ ns) h =
    let both = and_parts (not (is_among n ns)) (are_distinct ns) h in
    (none-same n ns (not-true (is_among n ns) both.0), distinct-differ ns both.1)

-- a part of a list
all-filter : {A : Type 0} (f : A → List ℕ) (test : A → Bool) (n : List ℕ) (xs : List A) → All (Differ n) (map f xs) → All (Differ n) (map f (filter test xs))
all-filter f test n [] h = All-nil (Differ n)
all-filter {A} f test n (x ∷ xs) h = by (test x) (all-filter f test n xs (All-tail (Differ n) (f x) (map f xs) h))
  where
    by : (t : Bool) → All (Differ n) (map f (filter test xs)) → All (Differ n) (map f (cond t (x ∷ filter test xs) (filter test xs)))
    by true g = All-cons (Differ n) (f x) (map f (filter test xs)) (All-head (Differ n) (f x) (map f xs) h) g
    by false g = g

filter-differ : {A : Type 0} (f : A → List ℕ) (test : A → Bool) (xs : List A) → InTurn Differ (map f xs) → InTurn Differ (map f (filter test xs))
filter-differ f test [] h = tt
filter-differ {A} f test (x ∷ xs) h = by (test x) (filter-differ f test xs h.1)
  where
    by : (t : Bool) → InTurn Differ (map f (filter test xs)) → InTurn Differ (map f (cond t (x ∷ filter test xs) (filter test xs)))
    by true g = (all-filter f test (f x) xs h.0, g)
    by false g = g

unmapped-all : {A : Type 0} (f : A → List ℕ) (n : List ℕ) (xs : List A) → All (Differ n) (map f xs) → All (λ x. n ≢ f x) xs
unmapped-all f n [] h = All-nil (λ x. n ≢ f x)
unmapped-all f n (x ∷ xs) h = All-cons (λ y. n ≢ f y) x xs (All-head (Differ n) (f x) (map f xs) h) (unmapped-all f n xs (All-tail (Differ n) (f x) (map f xs) h))

unmapped : {A : Type 0} (f : A → List ℕ) (xs : List A) → InTurn Differ (map f xs) → InTurn (λ x y. f x ≢ f y) xs
unmapped f [] h = tt
unmapped f (x ∷ xs) h = (unmapped-all f (f x) xs h.0, unmapped f xs h.1)

-- ---- the names of the top's ports

port-names : (ps : List Port) (os : List Object) → AllZip PortOf ps os → map (λ (p : Port). small p.object.name) ps ≡ map (λ (o : Object). small o.name) os
port-names [] [] h = refl
port-names (p ∷ ps) (o ∷ os) h = ap (λ (t : List ℕ). small t ∷ map (λ (q : Port). small q.object.name) ps) (sym h.0.1) ∙ ap (λ (ts : List (List ℕ)). small o.name ∷ ts) (port-names ps os h.1)
port-names _ _ h = elim h [ ]

not-input : (r : Role) → is_port r ≡ false → is_input r ≡ false
not-input input h = absurd cc
not-input _ h = refl

no-input : (os : List Object) → All IsSignal os → filter (λ (o : Object). is_input o.role) os ≡ []
no-input [] h = refl
no-input (o ∷ os) h =
    ap (λ (t : Bool). cond t (o ∷ filter (λ (x : Object). is_input x.role) os) (filter (λ (x : Object). is_input x.role) os)) (not-input o.role (All-head IsSignal o os h)) ∙ no-input os (All-tail IsSignal o os h)

abbrev of_input : Object → Bool
of_input o = is_input o.role

-- in ports of these objects have names of their own
abbrev InputsDiffer : List Object → Type 0
InputsDiffer os = InTurn Differ (map (λ (o : Object). small o.name) (filter of_input os))

inputs-differ : (ports signals : List Object) (ps : List Port) → AllZip PortOf ps ports → All IsSignal signals → are_distinct (map (λ (p : Port). small p.object.name) ps) ≡ true → InputsDiffer (ports ++ signals)
inputs-differ ports signals ps zip none h =
    subst (λ (os : List Object). InTurn Differ (map (λ (o : Object). small o.name) os))
    (sym (filter-append of_input ports signals ∙ ap (λ (os : List Object). filter of_input ports ++ os) (no-input signals none) ∙ append-none (filter of_input ports)))
    (filter-differ (λ (o : Object). small o.name) of_input ports (subst (InTurn Differ) (port-names ps ports zip) (distinct-differ (map (λ (p : Port). small p.object.name) ps) h)))
  where
    append-none : (os : List Object) → os ++ [] ≡ os
    append-none [] = refl
    append-none (o ∷ os) = ap (λ (xs : List Object). o ∷ xs) (append-none os)

-- ---- inputs

nets-of-input : (net : NetlistView) (s : SignalView) → nets_of (input_of net s) ≡ s.nets
nets-of-input net s = go s.nets
  where
    go : (ns : List ℕ) → map (λ (e : stim.Element). e.net) (map (element_on net) ns) ≡ ns
    go [] = refl
    go (n ∷ ns) = ap (λ (ms : List ℕ). n ∷ ms) (go ns)

nets-of-all : (net : NetlistView) (ss : List SignalView) → all_nets (map (input_of net) ss) ≡ flat_map (λ (s : SignalView). s.nets) ss
nets-of-all net [] = refl
nets-of-all net (s ∷ ss) = ap (λ (ns : List ℕ). ns ++ all_nets (map (input_of net) ss)) (nets-of-input net s) ∙ ap (λ (ns : List ℕ). s.nets ++ ns) (nets-of-all net ss)

names-of-all : (net : NetlistView) (ss : List SignalView) → map (λ (i : Input). i.name) (map (input_of net) ss) ≡ map (λ (s : SignalView). small s.name) ss
names-of-all net [] = refl
names-of-all net (s ∷ ss) = ap (λ (ts : List (List ℕ)). small s.name ∷ ts) (names-of-all net ss)

-- ---- the whole

pub each-has-own-ports : EachHasOwnPorts
each-has-own-ports units top x net sound distinct e shows =
    let b = behind units top x sound e in
    let d : Numbered = numbered_design b.design in
    let walked = b.walked in
    let h : Follow [] 0 (walked.top ∷ walked.others) d.nets = subst (λ (ps : List Placed). Follow [] 0 ps d.nets) walked.instances walked.so_far.follow in
    let shows' : net_shown net ≡ shown (net_of d) = subst (λ (y : Elaborated). net_shown net ≡ shown y) (sym b.is) shows in
    let os : List Object = walked.top.objects in
    let above : List ℕ = h.0.above in
    let inputs : net.inputs ≡ input_nets above 0 os = ap (λ (s : Shown). s.flat.inputs) shows' ∙ inputs-in d ∙ inputs-are d walked.top walked.others d.nets walked.instances h in
    let signals : net.signals ≡ all_signals 0 (walked.top ∷ walked.others) = ap (λ (s : Shown). s.signals) shows' ∙ ap (all_signals 0) walked.instances in
    let kept : filter (is_in_port net) net.signals ≡ input_signals above 0 os =
    ap (λ (ns : List ℕ). filter (in_port ns) net.signals) inputs ∙ ap (filter (in_port (input_nets above 0 os))) signals ∙ kept-of-all walked.top walked.others d.nets h in
    let o = is-ordered units top b.design b.gave in
    let objects : o.ports ++ o.signals ≡ os = sym (walked.objects_are ∙ o.are) in
    let differ : InputsDiffer os = subst InputsDiffer objects (inputs-differ o.ports o.signals o.unit.ports o.are_ports o.are_signals
    (all_found (λ (y : Entity). entity_ports_are_distinct y ≡ true) (λ (y : Entity). bytes_eq y.name (map to_ascii_lowercase top.name)) units o.unit (all_pass entity_ports_are_distinct units distinct) o.named)) in
    record {
      names = in-pairs (λ (i j : Input). i.name ≢ j.name) (inputs_of net)
          (unmapped (λ (i : Input). i.name) (inputs_of net)
          (subst (InTurn Differ) (sym (names-of-all net (filter (is_in_port net) net.signals) ∙ ap (map (λ (s : SignalView). small s.name)) kept ∙ kept-names small os above 0)) differ));
      elements = nets-of-all net (filter (is_in_port net) net.signals) ∙ ap (flat_map (λ (s : SignalView). s.nets)) kept ∙ kept-nets os above 0 ∙ sym inputs;
    }
