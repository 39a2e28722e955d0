-- A netlist whose variables are kept is one as elaboration gives it.
use Rattle.std.proofs.Common.{◌≡◌, ℕ, zero, suc, ◌+◌, ◌-◌, ◌<◌, ◌≤◌, ◌⊎◌, inl, inr, Bool, true, false, ◌==◌, if◌then◌else◌, List, [], ◌∷◌, ◌++◌, length, map, flat_map, slice_get, Option, Some, None, All, AllPairs, Contains, refl, sym, ap, ◌∙◌, subst, arith}
use Rattle.std.specs.Prelude.{option_map, IfSome, ◌≢◌}
use Rattle.std.specs.List.{AllZip}
use Rattle.std.proofs.lemmas.Bool.{cases_lt}
use Rattle.std.proofs.lemmas.Bool.Decides.{nat_tests}
use Rattle.std.proofs.lemmas.List.{length-append}
use Rattle.std.proofs.lemmas.List.Elements.{All-nil, All-cons, All-head, All-tail, All-append, All-weaker, All-contains, Contains-append_left, Contains-append_right}
use Rattle.std.proofs.lemmas.Option.{slice_get_within, get_or_from_slice_get}
use Rattle.rtl_model.specs.bodies.Types.{ElementType, HasType}
use Rattle.rtl_model.specs.nets.FlatNetlist.{FlatProcess, FlatNetlist, IsInRange}
use Rattle.rtl_model.specs.nets.Wiring.{IsConnected}
use Rattle.rtl_net.specs.declared.process.Process.{Process}
use Rattle.rtl_net.specs.Limits.{most_nets}
use Rattle.rtl_net.specs.Names.{Element, place_in, element_or, element_from}
use Rattle.rtl_net.specs.Nets.{SignalView, NetlistView, flat, process_view, element_type}
use Rattle.rtl_net.specs.Elaborated.{ReadsOfBody, VariableIsNamed, ProcessIsNamed, AreScopes, SignalInRange, ComesBefore, IsInOrOut, IsOfPort, IsNet}
use Rattle.rtl_net.proofs.Naming.{element-there}
use Rattle.rtl_kept_bodies.specs.Rules.{NamedAlike}
use Rattle.rtl_variable_registers.specs.Laws.{EachIsSoundStill}
use Rattle.rtl_variable_registers.specs.Processes.{kept_elements, kept_types}
use Rattle.rtl_keeping.specs.Kept.{signals_kept, KeepsVariables}
use Rattle.rtl_keeping.proofs.KeptSignals.{slice_left, Has, has_left, has_right, has_kept, all_in_range, all_kept, length_kept_types}
use Rattle.rtl_keeping.proofs.Scopes.{all_from, contained_from, in_order_from}

-- ---- processes

named_still : (scopes : ℕ) (p q : Process) → NamedAlike p q → ProcessIsNamed scopes p → ProcessIsNamed scopes q
named_still scopes p q alike h = record {
  scope = subst (λ k. k < scopes) (sym alike.scope) h.scope;
  label = subst (λ l. IfSome l (λ label. label.items ≢ [])) (sym alike.label) h.label;
  variables = subst (λ vs. All VariableIsNamed vs.items) (sym alike.variables) h.variables;
}

all_named : (scopes : ℕ) (ps qs : List Process) → AllZip NamedAlike ps qs → All (ProcessIsNamed scopes) ps → All (ProcessIsNamed scopes) qs
all_named scopes [] [] z h = All-nil (ProcessIsNamed scopes)
all_named scopes [] (q ∷ qs) z h = absurd z
all_named scopes (p ∷ ps) [] z h = absurd z
all_named scopes (p ∷ ps) (q ∷ qs) z h =
    All-cons (ProcessIsNamed scopes) q qs (named_still scopes p q z.0 (All-head (ProcessIsNamed scopes) p ps h)) (all_named scopes ps qs z.1 (All-tail (ProcessIsNamed scopes) p ps h))

pub as_many : (ps qs : List Process) → AllZip NamedAlike ps qs → length qs ≡ length ps
as_many [] [] z = refl
as_many [] (q ∷ qs) z = absurd z
as_many (p ∷ ps) [] z = absurd z
as_many (p ∷ ps) (q ∷ qs) z = ap suc (as_many ps qs z.1)

-- ---- signals

more_types : (types more : List ElementType) (scopes : ℕ) (s : SignalView) → SignalInRange types scopes s → SignalInRange (types ++ more) scopes s
more_types types more scopes s h = record {
  scope = h.scope;
  name = h.name;
  width = h.width;
  as_declared = h.as_declared;
  nets = All-weaker (HasType types (element_type s.kind)) (HasType (types ++ more) (element_type s.kind)) (λ n t. slice_left types more n (element_type s.kind) t) s.nets h.nets;
}

slice_behind : {X : Type 0} (xs ys : List X) (k : ℕ) → slice_get (xs ++ ys) (length xs + k) ≡ slice_get ys k
slice_behind [] ys k = ap (slice_get ys) (let s : 0 + k ≡ k = omega arith in s)
slice_behind (x ∷ xs) ys k = ap (slice_get (x ∷ (xs ++ ys))) (let s : suc (length xs) + k ≡ suc (length xs + k) = omega arith in s) ∙ slice_behind xs ys k

-- an element with this net is found
found_place : (ns : List ℕ) (n : ℕ) → Contains ns n → (k : ℕ) × (place_in ns n ≡ Some k)
found_place [] n (j, l, is) = absurd (omega (arith, l))
found_place (m ∷ ns) n c = by (m == n) refl c (λ d. found_place ns n d)
  where
    by : (b : Bool) → (m == n) ≡ b → Contains (m ∷ ns) n → (Contains ns n → (k : ℕ) × (place_in ns n ≡ Some k)) → (k : ℕ) × (place_in (m ∷ ns) n ≡ Some k)
    by true e c more = (0, ap (λ b. if b then Some 0 else option_map suc (place_in ns n)) e)
    by false e (zero, l, is) more = absurd (grind (arith, nat_tests, e, is))
    by false e (suc j, l, is) more =
        let (k, h) = more (j, omega (arith, l), is) in
        (suc k, ap (λ b. if b then Some 0 else option_map suc (place_in ns n)) e ∙ ap (option_map suc) h)

pub found_element : (number : ℕ) (ss : List SignalView) (n : ℕ) → Has ss n → (e : Element) × (element_from number ss n ≡ Some e)
found_element number [] n h = let (j, l, is) = h.there in absurd (omega (arith, l))
found_element number (s ∷ ss) n h = by (place_in s.nets n) refl (λ g. found_element (suc number) ss n g)
  where
    later : place_in s.nets n ≡ None → Contains (s ∷ ss) h.signal → Has ss n
    later none (zero, l, is) = let (k, f) = found_place s.nets n (subst (λ (x : SignalView). Contains x.nets n) (sym is) h.net) in let both = sym none ∙ f in absurd cc
    later none (suc j, l, is) = record { signal = h.signal; there = (j, omega (arith, l), is); net = h.net }

    by : (o : Option ℕ) → place_in s.nets n ≡ o → (Has ss n → (e : Element) × (element_from (suc number) ss n ≡ Some e)) → (e : Element) × (element_from number (s ∷ ss) n ≡ Some e)
    by (Some k) e more = (record { signal = number; place = k }, ap (λ o. element_or number o (element_from (suc number) ss n)) e)
    by None e more =
        let (f, g) = more (later e h.there) in
        (f, ap (λ o. element_or number o (element_from (suc number) ss n)) e ∙ g)

at_place : (ns : List ℕ) (n k : ℕ) → place_in ns n ≡ Some k → Contains ns n
at_place [] n k h = absurd cc
at_place (m ∷ ns) n k h = by (m == n) refl (place_in ns n) refl (λ j g. at_place ns n j g)
  where
    by : (b : Bool) → (m == n) ≡ b → (o : Option ℕ) → place_in ns n ≡ o → ((j : ℕ) → place_in ns n ≡ Some j → Contains ns n) → Contains (m ∷ ns) n
    by true e o f more = (0, omega arith, grind (arith, nat_tests, e))
    by false e (Some j) f more = Contains-append_right (m ∷ []) ns n (more j f)
    by false e None f more =
        let none = sym (ap (λ b. if b then Some 0 else option_map suc (place_in ns n)) e ∙ ap (option_map suc) f) ∙ h in absurd cc

was_element : (ss : List SignalView) (n : ℕ) (e : Element) → element_from 0 ss n ≡ Some e → Has ss n
was_element ss n e h =
    let found = element-there 0 ss n e h in
    record {
      signal = found.signal;
      there = (e.signal - 0, slice_get_within ss (e.signal - 0) found.signal found.is, get_or_from_slice_get ss (e.signal - 0) found.signal found.signal found.is);
      net = at_place found.signal.nets n e.place found.place;
    }

-- ---- the netlist

module _ (old : NetlistView) (is : IsNet old) where
  abbrev more : List ElementType
  more = flat_map kept_types (map process_view old.processes)

  pub all_signals : All (SignalInRange (old.types ++ more) (length old.scopes)) (old.signals ++ signals_kept 0 (length old.types) old.processes)
  all_signals =
      All-append (SignalInRange (old.types ++ more) (length old.scopes)) old.signals (signals_kept 0 (length old.types) old.processes)
      (All-weaker (SignalInRange old.types (length old.scopes)) (SignalInRange (old.types ++ more) (length old.scopes)) (λ s h. more_types old.types more (length old.scopes) s h) old.signals is.signals)
      (all_in_range old.types (old.types ++ more) (length old.scopes) 0 (length old.types) old.processes is.processes is.in_range.processes (λ k t h. slice_behind old.types more k ∙ h))

  pub in_scopes : All (λ (s : SignalView). s.scope < length old.scopes) (old.signals ++ signals_kept 0 (length old.types) old.processes)
  in_scopes =
      All-weaker (SignalInRange (old.types ++ more) (length old.scopes)) (λ (s : SignalView). s.scope < length old.scopes) (λ s h. h.scope)
      (old.signals ++ signals_kept 0 (length old.types) old.processes) all_signals

  pub as_many_types : length (old.types ++ more) ≡ length old.types + length (flat_map kept_elements (map process_view old.processes))
  as_many_types = length-append old.types more ∙ ap (λ k. length old.types + k) (same (map process_view old.processes))
    where
      same : (ps : List FlatProcess) → length (flat_map kept_types ps) ≡ length (flat_map kept_elements ps)
      same [] = refl
      same (p ∷ ps) = omega (arith, length-append (kept_types p) (flat_map kept_types ps), length-append (kept_elements p) (flat_map kept_elements ps), length_kept_types p, same ps)

module _ (law : EachIsSoundStill) (old new : NetlistView) (is : IsNet old) (keeps : KeepsVariables old new) (reads : All ReadsOfBody new.processes) (within : length new.types ≤ most_nets) where
  abbrev own : List ElementType
  own = flat_map kept_types (map process_view old.processes)

  types : new.types ≡ old.types ++ own
  types = ap (λ (f : FlatNetlist). f.types) keeps.flat_is

  inputs : new.inputs ≡ old.inputs
  inputs = ap (λ (f : FlatNetlist). f.inputs) keeps.flat_is

  many : length new.scopes ≡ length old.scopes
  many = ap length keeps.scopes_are

  there : (s : SignalView) → Contains (old.signals ++ signals_kept 0 (length old.types) old.processes) s → Contains new.signals s
  there s c =
      subst (λ ss. Contains ss s) (sym keeps.signals_are)
      (contained_from (old.signals ++ signals_kept 0 (length old.types) old.processes) s 0 (length old.scopes) c (omega arith)
      (let l = All-contains (λ (x : SignalView). x.scope < length old.scopes) (old.signals ++ signals_kept 0 (length old.types) old.processes) s (in_scopes old is) c in omega (arith, l)))

  is_in_or_out : All (IsInOrOut old.inputs) (old.signals ++ signals_kept 0 (length old.types) old.processes)
  is_in_or_out =
      All-append (IsInOrOut old.inputs) old.signals (signals_kept 0 (length old.types) old.processes) is.ports
      (all_kept (IsInOrOut old.inputs) (λ p number net v port. let none = port.1 in absurd cc) 0 (length old.types) old.processes)

  of_port : (n : ℕ) → IsOfPort old.signals n → IsOfPort new.signals n
  of_port n h = record {
    port = h.port;
    there = there h.port (Contains-append_left old.signals (signals_kept 0 (length old.types) old.processes) h.port h.there);
    is_port = h.is_port;
    has = h.has;
  }

  has : (n : ℕ) → n < length new.types → Has (old.signals ++ signals_kept 0 (length old.types) old.processes) n
  has n l = by (cases_lt n (length old.types))
    where
      by : (n < length old.types) ⊎ (length old.types ≤ n) → Has (old.signals ++ signals_kept 0 (length old.types) old.processes) n
      by (inl g) = let (e, f) = is.declared n g in has_left old.signals (signals_kept 0 (length old.types) old.processes) n (was_element old.signals n e f)
      by (inr g) = has_right old.signals (signals_kept 0 (length old.types) old.processes) n (has_kept 0 (length old.types) old.processes n g (omega (arith, l, ap length types, as_many_types old is)))

  pub is_net_still : IsNet new
  is_net_still = record {
    in_range = subst IsInRange (sym keeps.flat_is) (law (flat old) is.in_range is.connected).0;
    connected = subst IsConnected (sym keeps.flat_is) (law (flat old) is.in_range is.connected).1;
    nets_limit = within;
    processes_limit = omega (arith, as_many old.processes new.processes keeps.named_alike, is.processes_limit);
    scopes_limit = omega (arith, many, is.scopes_limit);
    reads = reads;
    processes = subst (λ n. All (ProcessIsNamed n) new.processes) (sym many) (all_named (length old.scopes) old.processes new.processes keeps.named_alike is.processes);
    scopes = subst AreScopes (sym keeps.scopes_are) is.scopes;
    signals = subst (λ n. All (SignalInRange new.types n) new.signals) (sym many)
        (subst (λ ts. All (SignalInRange ts (length old.scopes)) new.signals) (sym types)
        (subst (All (SignalInRange (old.types ++ own) (length old.scopes))) (sym keeps.signals_are)
        (all_from (SignalInRange (old.types ++ own) (length old.scopes)) (old.signals ++ signals_kept 0 (length old.types) old.processes) 0 (length old.scopes) (all_signals old is))));
    signals_in_order = subst (AllPairs ComesBefore) (sym keeps.signals_are)
        (in_order_from old.signals (signals_kept 0 (length old.types) old.processes) is.signals_in_order
        (all_kept (λ (s : SignalView). s.port ≡ false) (λ p number net v. refl) 0 (length old.types) old.processes) 0 (length old.scopes));
    ports = subst (λ ns. All (IsInOrOut ns) new.signals) (sym inputs)
        (subst (All (IsInOrOut old.inputs)) (sym keeps.signals_are) (all_from (IsInOrOut old.inputs) (old.signals ++ signals_kept 0 (length old.types) old.processes) 0 (length old.scopes) is_in_or_out));
    inputs = subst (All (IsOfPort new.signals)) (sym inputs) (All-weaker (IsOfPort old.signals) (IsOfPort new.signals) of_port old.inputs is.inputs);
    declared = λ n l. let h = has n l in found_element 0 new.signals n (record { signal = h.signal; there = there h.signal h.there; net = h.net });
  }
