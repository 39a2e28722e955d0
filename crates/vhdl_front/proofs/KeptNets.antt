-- Netlists whose variables are kept: what they show, and the ports that they have.
use Rattle.std.proofs.Common.{◌≡◌, ◌≢◌, ℕ, zero, suc, ◌+◌, ◌<◌, Bool, true, false, ◌==◌, ◌&&◌, cond, List, [], ◌∷◌, ◌++◌, length, map, flat_map, filter, get_or, All, AllPairs, refl, sym, ap, ◌∙◌, subst, arith, append-nil, codes}
use Rattle.std.specs.Prelude.{option_map, slice_index}
use Rattle.std.specs.List.{AllZip, list_any, range_with_len}
use Rattle.std.proofs.lemmas.Bool.Decides.{nat_tests}
use Rattle.std.proofs.lemmas.List.{length-map, get_or-map}
use Rattle.std.proofs.lemmas.List.Elements.{All-head, All-tail, filter-append}
use Rattle.rtl_kept_bodies.specs.Rules.{NamedAlike}
use Rattle.rtl_keeping.specs.Kept.{kept_signal, variables_kept, signals_kept, by_scope, KeepsVariables}
use Rattle.rtl_keeping.proofs.KeptSignals.{all_kept}
use Rattle.rtl_keeping.proofs.Scopes.{in_scope, from_scope, scopes_from}
use Rattle.rtl_model.specs.nets.FlatNetlist.{FlatVariable, FlatProcess, FlatNetlist}
use Rattle.rtl_net.specs.declared.process.Process.{Process}
use Rattle.rtl_net.specs.declared.process.Variable.{Variable}
use Rattle.rtl_net.specs.declared.signal.SignalKind.{SignalKind}
use Rattle.rtl_net.specs.Names.{generates_prefix, label_or_number}
use Rattle.rtl_net.specs.Nets.{SignalView, NetlistView, variable_view, process_view, body_of, flat}
use Rattle.rtl_stim.specs.Ports.{HasOwnPorts, is_in_port, input_of, element_on}
use Rattle.rtl_stim_lines.specs.Inputs.{Input, Element}
use Rattle.rtl_stim_lines.specs.Times.{all_nets}
use Rattle.rtl_variable_registers.specs.Bodies.{keeps_element}
use Rattle.rtl_variable_registers.specs.Nets.{kept_flat}
use Rattle.rtl_variable_registers.specs.Processes.{kept_elements}
use Rattle.vhdl_elab_rules.specs.Shown.{Shown, ShownProcess, net_variable_shown, net_process_shown, net_shown}
use Rattle.vhdl_elab_rules.proofs.Named.{same-parts}

-- ---- what they show

-- the signal that a variable of this name and kind is, with so many elements
signal_of : ShownProcess → (number net : ℕ) → List ℕ × SignalKind → (many : ℕ) → SignalView
signal_of p number net v many = record {
  scope = p.scope;
  name = p.prefix ++ label_or_number number p.label ++ codes "." ++ v.0;
  port = false;
  kind = v.1;
  nets = range_with_len net many;
  at = p.at;
}

is_signal : (p : Process) (number net : ℕ) (v : Variable) → kept_signal p number net v ≡ signal_of (net_process_shown p) number net (net_variable_shown v) (length v.starts.items)
unfolding signal_of
is_signal p number net v = refl

module _ (p q : Process) (shows : net_process_shown p ≡ net_process_shown q) (views : process_view p ≡ process_view q) (number : ℕ) where
  keeps : (e : ℕ) → keeps_element (body_of p) e ≡ keeps_element (body_of q) e
  keeps e = ap (λ (x : FlatProcess). keeps_element x.body e) views

  variables_alike : (vs ws : List Variable) (first net : ℕ) → map net_variable_shown vs ≡ map net_variable_shown ws → map variable_view vs ≡ map variable_view ws
      → variables_kept p number first net vs ≡ variables_kept q number first net ws
  variables_alike [] [] first net e f = refl
  variables_alike [] (w ∷ ws) first net e f = absurd cc
  variables_alike (v ∷ vs) [] first net e f = absurd cc
  variables_alike (v ∷ vs) (w ∷ ws) first net e f =
      (λ i. cond (list_any (λ k. keeps k i) (range_with_len first (long i))) (kept_signal p number net v ∷ variables_kept p number (first + length v.starts.items) (net + length v.starts.items) vs) (variables_kept p number (first + length v.starts.items) net vs))
      ∙ by (list_any (keeps_element (body_of q)) (range_with_len first (length w.starts.items)))
      (variables_alike vs ws (first + length v.starts.items) (net + length v.starts.items) named.1 flats.1) (variables_alike vs ws (first + length v.starts.items) net named.1 flats.1)
    where
      named : (net_variable_shown v ≡ net_variable_shown w) × (map net_variable_shown vs ≡ map net_variable_shown ws)
      named = same-parts (net_variable_shown v) (net_variable_shown w) (map net_variable_shown vs) (map net_variable_shown ws) e

      flats : (variable_view v ≡ variable_view w) × (map variable_view vs ≡ map variable_view ws)
      flats = same-parts (variable_view v) (variable_view w) (map variable_view vs) (map variable_view ws) f

      long : length v.starts.items ≡ length w.starts.items
      long = ap (λ (x : FlatVariable). length x.starts) flats.0

      signal : kept_signal p number net v ≡ kept_signal q number net w
      signal = is_signal p number net v ∙ (λ i. signal_of (shows i) number net (named.0 i) (long i)) ∙ sym (is_signal q number net w)

      by : (b : Bool) → variables_kept p number (first + length v.starts.items) (net + length v.starts.items) vs ≡ variables_kept q number (first + length v.starts.items) (net + length v.starts.items) ws
          → variables_kept p number (first + length v.starts.items) net vs ≡ variables_kept q number (first + length v.starts.items) net ws
          → cond b (kept_signal p number net v ∷ variables_kept p number (first + length v.starts.items) (net + length v.starts.items) vs) (variables_kept p number (first + length v.starts.items) net vs)
          ≡ cond b (kept_signal q number net w ∷ variables_kept q number (first + length w.starts.items) (net + length w.starts.items) ws) (variables_kept q number (first + length w.starts.items) net ws)
      by true more other = (λ i. signal i ∷ more i) ∙ (λ i. kept_signal q number net w ∷ variables_kept q number (first + long i) (net + long i) ws)
      by false more other = other ∙ (λ i. variables_kept q number (first + long i) net ws)

signals_alike : (ps qs : List Process) (number net : ℕ) → map net_process_shown ps ≡ map net_process_shown qs → map process_view ps ≡ map process_view qs → signals_kept number net ps ≡ signals_kept number net qs
signals_alike [] [] number net e f = refl
signals_alike [] (q ∷ qs) number net e f = absurd cc
signals_alike (p ∷ ps) [] number net e f = absurd cc
signals_alike (p ∷ ps) (q ∷ qs) number net e f =
    let shows = same-parts (net_process_shown p) (net_process_shown q) (map net_process_shown ps) (map net_process_shown qs) e in
    let views = same-parts (process_view p) (process_view q) (map process_view ps) (map process_view qs) f in
    let own = variables_alike p q shows.0 views.0 number p.variables.items q.variables.items 0 net (ap (λ (x : ShownProcess). x.variables) shows.0) (ap (λ (x : FlatProcess). x.variables) views.0) in
    (λ i. own i ++ signals_kept (suc number) (net + length (kept_elements (views.0 i))) ps)
    ∙ ap (λ ss. variables_kept q number 0 net q.variables.items ++ ss) (signals_alike ps qs (suc number) (net + length (kept_elements (process_view q))) shows.1 views.1)

shown_still : (ps qs : List Process) → AllZip NamedAlike ps qs → map net_process_shown qs ≡ map net_process_shown ps
shown_still [] [] z = refl
shown_still [] (q ∷ qs) z = absurd z
shown_still (p ∷ ps) [] z = absurd z
shown_still (p ∷ ps) (q ∷ qs) z = (λ i. one z.0 i ∷ shown_still ps qs z.1 i)
  where
    one : NamedAlike p q → net_process_shown q ≡ net_process_shown p
    one h = λ i. record {
      at = h.at i;
      scope = h.scope i;
      prefix = generates_prefix (h.generates i).items;
      label = option_map (λ l. l.items) (h.label i);
      variables = map net_variable_shown (h.variables i).items;
    }

-- netlists whose variables are kept show the same where those show the same whose they are
pub kept_alike : (a b one other : NetlistView) → KeepsVariables a one → KeepsVariables b other → net_shown a ≡ net_shown b → net_shown one ≡ net_shown other
kept_alike a b one other h g e =
    let flats : flat a ≡ flat b = ap (λ (s : Shown). s.flat) e in
    let scopes : a.scopes ≡ b.scopes = ap (λ (s : Shown). s.scopes) e in
    let signals : a.signals ≡ b.signals = ap (λ (s : Shown). s.signals) e in
    let nets : length a.types ≡ length b.types = ap (λ (f : FlatNetlist). length f.types) flats in
    let hidden : signals_kept 0 (length a.types) a.processes ≡ signals_kept 0 (length b.types) b.processes =
    signals_alike a.processes b.processes 0 (length a.types) (ap (λ (s : Shown). s.processes) e) (ap (λ (f : FlatNetlist). f.processes) flats)
    ∙ ap (λ n. signals_kept 0 n b.processes) nets in
    let flat_is : flat one ≡ flat other = h.flat_is ∙ ap kept_flat flats ∙ sym g.flat_is in
    let scopes_are : one.scopes ≡ other.scopes = h.scopes_are ∙ scopes ∙ sym g.scopes_are in
    let signals_are : one.signals ≡ other.signals = h.signals_are ∙ (λ i. by_scope (length (scopes i)) (signals i ++ hidden i)) ∙ sym g.signals_are in
    let processes : map net_process_shown one.processes ≡ map net_process_shown other.processes =
    shown_still a.processes one.processes h.named_alike ∙ ap (λ (s : Shown). s.processes) e ∙ sym (shown_still b.processes other.processes g.named_alike) in
    λ i. record { flat = flat_is i; scopes = scopes_are i; signals = signals_are i; processes = processes i }

-- ---- their ports

-- of the first scope, and a port
abbrev pub IsTopPort : (passes : SignalView → Bool) → Type 0
IsTopPort passes = (s : SignalView) → passes s ≡ true → (s.scope ≡ 0) × (s.port ≡ true)

module _ (passes : SignalView → Bool) (top : IsTopPort passes) where
  none_passes : (ss : List SignalView) → All (λ s. passes s ≡ false) ss → filter passes ss ≡ []
  none_passes [] h = refl
  none_passes (s ∷ ss) h =
      ap (λ b. cond b (s ∷ filter passes ss) (filter passes ss)) (All-head (λ t. passes t ≡ false) s ss h) ∙ none_passes ss (All-tail (λ t. passes t ≡ false) s ss h)

  fails : (s : SignalView) → ((s.scope ≡ 0) × (s.port ≡ true) → ⊥) → passes s ≡ false
  fails s other = by (passes s) refl
    where
      by : (b : Bool) → passes s ≡ b → passes s ≡ false
      by true e = absurd (other (top s e))
      by false e = e

  passes_in : (ss : List SignalView) → filter passes (in_scope ss 0) ≡ filter passes ss
  passes_in [] = refl
  passes_in (s ∷ ss) = by (s.scope == 0) refl (passes s) refl (passes_in ss)
    where
      by : (b : Bool) → (s.scope == 0) ≡ b → (c : Bool) → passes s ≡ c → filter passes (in_scope ss 0) ≡ filter passes ss
          → filter passes (cond b (s ∷ in_scope ss 0) (in_scope ss 0)) ≡ cond c (s ∷ filter passes ss) (filter passes ss)
      by true e true f rest = ap (λ b. cond b (s ∷ filter passes (in_scope ss 0)) (filter passes (in_scope ss 0))) f ∙ ap (λ ts. s ∷ ts) rest
      by true e false f rest = ap (λ b. cond b (s ∷ filter passes (in_scope ss 0)) (filter passes (in_scope ss 0))) f ∙ rest
      by false e true f rest = let zero = (top s f).0 in absurd (grind (arith, nat_tests, e, zero))
      by false e false f rest = rest

  pub ports_by_scope : (scopes : ℕ) (old more : List SignalView) → 0 < scopes → All (λ (s : SignalView). s.port ≡ false) more → filter passes (by_scope scopes (old ++ more)) ≡ filter passes old
  ports_by_scope zero old more l inner = absurd (omega (arith, l))
  ports_by_scope (suc n) old more l inner =
      filter-append passes (in_scope (old ++ more) 0) (from_scope (old ++ more) 1 n)
      ∙ (λ i. passes_in (old ++ more) i ++ none_passes (from_scope (old ++ more) 1 n) later i)
      ∙ append-nil (filter passes (old ++ more)) ∙ filter-append passes old more ∙ ap (λ ts. filter passes old ++ ts) (none_passes more no_port) ∙ append-nil (filter passes old)
    where
      later : All (λ s. passes s ≡ false) (from_scope (old ++ more) 1 n)
      later = λ k d m. fails (get_or (from_scope (old ++ more) 1 n) k d) (λ is. let one = scopes_from (old ++ more) 1 n k d m in let none = is.0 in omega (arith, one, none))

      no_port : All (λ s. passes s ≡ false) more
      no_port = λ k d m. fails (get_or more k d) (λ is. let both = sym (inner k d m) ∙ is.1 in absurd cc)

pairs_map : {A B : Type 0} (R : B → B → Type 0) (f : A → B) (xs : List A) → AllPairs (λ x y. R (f x) (f y)) xs → AllPairs R (map f xs)
pairs_map R f [] h i j d lt l = absurd (omega (arith, l))
pairs_map R f (x ∷ xs) h i j d lt l =
    let m : j < length (x ∷ xs) = omega (arith, l, length-map (x ∷ xs) f) in
    let first = get_or-map f (x ∷ xs) i x d (omega (arith, lt, m)) in
    let second = get_or-map f (x ∷ xs) j x d m in
    subst (λ y. R (get_or (map f (x ∷ xs)) i d) y) (sym second) (subst (λ y. R y (f (get_or (x ∷ xs) j x))) (sym first) (h i j x lt m))

pairs_unmap : {A B : Type 0} (R : B → B → Type 0) (f : A → B) (xs : List A) → AllPairs R (map f xs) → AllPairs (λ x y. R (f x) (f y)) xs
pairs_unmap R f xs h i j d lt l =
    subst (λ y. R (f (get_or xs i d)) y) (get_or-map f xs j d (f d) l)
    (subst (λ y. R y (get_or (map f xs) j (f d))) (get_or-map f xs i d (f d) (omega (arith, lt, l))) (h i j (f d) lt (omega (arith, l, length-map xs f))))

nets_of_elements : (net : NetlistView) (ns : List ℕ) → map (λ (e : Element). e.net) (map (element_on net) ns) ≡ ns
nets_of_elements net [] = refl
nets_of_elements net (n ∷ ns) = ap (λ ms. n ∷ ms) (nets_of_elements net ns)

nets_of_inputs : (net : NetlistView) (ss : List SignalView) → all_nets (map (input_of net) ss) ≡ flat_map (λ (s : SignalView). s.nets) ss
nets_of_inputs net [] = refl
nets_of_inputs net (s ∷ ss) = λ i. nets_of_elements net s.nets i ++ nets_of_inputs net ss i

pub kept_own_ports : (old new : NetlistView) → 0 < length old.scopes → KeepsVariables old new → HasOwnPorts old → HasOwnPorts new
kept_own_ports old new some keeps own = record {
  names = pairs_map apart (input_of new) (filter (is_in_port new) new.signals)
      (subst (AllPairs (λ s t. apart (input_of new s) (input_of new t))) (sym same) (pairs_unmap apart (input_of old) (filter (is_in_port old) old.signals) own.names));
  elements = nets_of_inputs new (filter (is_in_port new) new.signals) ∙ ap (flat_map (λ (s : SignalView). s.nets)) same ∙ sym (nets_of_inputs old (filter (is_in_port old) old.signals)) ∙ own.elements ∙ sym inputs;
}
  where
    apart : Input → Input → Type 0
    apart i j = i.name ≢ j.name

    inputs : new.inputs ≡ old.inputs
    inputs = ap (λ (f : FlatNetlist). f.inputs) keeps.flat_is

    top : IsTopPort (is_in_port old)
    top s h = grind (arith, nat_tests, h)

    same : filter (is_in_port new) new.signals ≡ filter (is_in_port old) old.signals
    same =
        (λ i. filter (λ (s : SignalView). s.scope == 0 && (s.port && list_any (λ m. m == slice_index s.nets 0) (inputs i))) (keeps.signals_are i))
        ∙ ports_by_scope (is_in_port old) top (length old.scopes) old.signals (signals_kept 0 (length old.types) old.processes) some
        (all_kept (λ (s : SignalView). s.port ≡ false) (λ p number net v. refl) 0 (length old.types) old.processes)
