-- What is accepted as it stands has no variable to keep.
use Rattle.std.proofs.Common.{◌≡◌, ℕ, suc, ◌+◌, ◌-◌, ◌<◌, ◌≤◌, Bool, true, false, List, [], ◌∷◌, ◌++◌, Option, Some, None, length, replicate, flat_map, slice_get}
use Rattle.std.proofs.Common.{refl, sym, ap, ◌∙◌, arith, ◌⊎◌, inl, inr, All}
use Rattle.std.specs.List.{list_any}
use Rattle.std.proofs.lemmas.Bool.{and_parts, cases_Bool, cases_lt, lt-ltb}
use Rattle.std.proofs.lemmas.List.{append-nil, length-append}
use Rattle.std.proofs.lemmas.List.Elements.{All-head, All-tail}
use Rattle.std.proofs.lemmas.Option.{get_or_from_slice_get}
use Rattle.rtl_model.specs.basics.Lists.{is_empty}
use Rattle.rtl_model.specs.bodies.Assigns.{driver, is_element, must_assign}
use Rattle.rtl_model.specs.bodies.Body.{Test, null_of, assign, if_of, Stmts, done, step, no_else, branch}
use Rattle.rtl_model.specs.bodies.Kinds.{Clocking, IsClocked, assigns_constants, clocking}
use Rattle.rtl_model.specs.bodies.Reads.{value_reads, events, test_events}
use Rattle.rtl_model.specs.bodies.Stored.{stores_element}
use Rattle.rtl_model.specs.bodies.Types.{ElementType}
use Rattle.rtl_model.specs.nets.CoreNetlist.{core_process, core_netlist, element_number, raised_by, stores_one}
use Rattle.rtl_model.specs.nets.FlatNetlist.{FlatVariable, FlatProcess, FlatNetlist, ProcessInRange, element_starts, scope_of, no_flat_process, process_at}
use Rattle.rtl_model.specs.simulation.Accepted.{IsAccepted, MixedProcess, StoredVariable}
use Rattle.rtl_model.specs.simulation.Netlist.{Mixed}
use Rattle.rtl_model.specs.simulation.Netlist as c
use Rattle.rtl_model.proofs.basics.Lists.{nil_parts}
use Rattle.rtl_model.proofs.bodies.Clocking.{clocked_is}
use Rattle.rtl_model.proofs.bodies.EdgeTests.{edge_test_event}
use Rattle.rtl_model.proofs.bodies.There.{each_read_is_there}
use Rattle.rtl_model.proofs.nets.Processes.{process-core_net}
use Rattle.rtl_variable_registers.specs.Bodies.{reset_branch, without_reset, is_register, keeps_element}
use Rattle.rtl_variable_registers.specs.Laws.{WhatIsAcceptedStays}
use Rattle.rtl_variable_registers.specs.Nets.{kept_processes}
use Rattle.rtl_variable_registers.specs.Processes.{kept_variables, kept_elements, kept_starts, kept_types}
use Rattle.rtl_variable_registers.proofs.Alike.{without_stores}
use Rattle.rtl_variable_registers.proofs.InRange.{all_types, all_starts}
use Rattle.rtl_variable_registers.proofs.Recalling.{all_elements}
use Rattle.rtl_variable_registers.proofs.Shapes.{AtEdge, edge_alone, reset_first, reset_behind}
use Rattle.rtl_variable_registers.proofs.Staying.{none_among, keeps_none_stays}
use Rattle.rtl_variable_registers.proofs.Stored.{or_none}
use Rattle.rtl_variable_registers.proofs.Tables.{length_types}

-- ---- a reset's branch without variables

sets_none : (a : Stmts) → assigns_constants a ≡ true → (e : ℕ) → must_assign (is_element e) a ≡ false
sets_none done h e = refl
sets_none (step null_of rest) h e = sets_none rest h e
sets_none (step (assign ps v) rest) h e =
    or_none (list_any (λ q. is_element e (driver q)) ps) (must_assign (is_element e) rest) (no_place ps) (sets_none rest (and_parts (is_empty (value_reads v)) (assigns_constants rest) h).1 e)
  where
    no_place : (qs : List ℕ) → list_any (λ q. is_element e (driver q)) qs ≡ false
    no_place [] = refl
    no_place (q ∷ qs) = no_place qs
sets_none (step _ rest) h e = absurd cc

-- ---- bodies

-- a clocked body's reset sets no variable
clocked_constants : (wide : Bool) (inputs : List ℕ) (body : Stmts) (c : Clocking) → IsClocked wide inputs body c → assigns_constants (reset_branch body) ≡ true
clocked_constants wide inputs body c (inl x) = ap (λ b. assigns_constants (reset_branch b)) x.is
clocked_constants wide inputs body c (inr (inl x)) = ap (λ b. assigns_constants (reset_branch b)) x.is ∙ x.constants
clocked_constants wide inputs body c (inr (inr x)) = ap (λ b. assigns_constants (reset_branch b)) x.is ∙ x.constants

-- an if on an edge asks for its event
edge_if_event : (t : Test) (s : Stmts) (rest : List ℕ) → AtEdge t s → (test_events t ++ (events s ++ [])) ++ rest ≡ [] → ⊥
edge_if_event t s rest a e =
    let n = (nil_parts (test_events t) (events s ++ []) (nil_parts (test_events t ++ (events s ++ [])) rest e).0).0 in
    let k = sym (edge_test_event t a.clock a.edge a.tests) ∙ n in
    cc

has_events : (body : Stmts) → is_register body ≡ true → events body ≡ [] → ⊥
has_events (step (if_of (branch t s no_else)) done) h e = edge_if_event t s [] (edge_alone t s h) e
has_events (step (if_of (branch r a (branch t s no_else))) done) h e =
    let n = (nil_parts (test_events r) (events a ++ (test_events t ++ (events s ++ []))) (nil_parts (test_events r ++ (events a ++ (test_events t ++ (events s ++ [])))) [] e).0).1 in
    edge_if_event t s [] (reset_first r a t s h).1 (ap (λ ns. ns ++ []) (nil_parts (events a) (test_events t ++ (events s ++ [])) n).1)
has_events (step (if_of (branch t s no_else)) (step (if_of (branch r a no_else)) done)) h e = edge_if_event t s _ (reset_behind t s r a h).1 e
has_events body h e = absurd cc

-- ---- variables

has_number : (vs : List FlatVariable) (e : ℕ) → e < length (element_starts vs) → (v : ℕ) × (place : ℕ) × (element_number vs v place ≡ Some e)
has_number [] e l = absurd (omega arith)
has_number (v ∷ vs) e l = go (cases_lt e (length v.starts)) (λ m. has_number vs (e - length v.starts) m)
  where
    go : (e < length v.starts) ⊎ (length v.starts ≤ e) → (e - length v.starts < length (element_starts vs) → (w : ℕ) × (place : ℕ) × (element_number vs w place ≡ Some (e - length v.starts)))
        → (w : ℕ) × (place : ℕ) × (element_number (v ∷ vs) w place ≡ Some e)
    go (inl m) rest = (0, e, rw (lt-ltb e (length v.starts) m) refl)
    go (inr m) rest =
        let (w, place, h) = rest (omega (arith, length-append v.starts (element_starts vs))) in
        let s : length v.starts + (e - length v.starts) ≡ e = omega arith in
        (suc w, place, ap (raised_by (length v.starts)) h ∙ ap (λ (n : ℕ). Some n) s)

-- ---- processes

pub record IsQuiet (wide : Bool) (inputs : List ℕ) (p : FlatProcess) : Type 0 where
  pub not_mixed : (core_process wide inputs p).kind ≡ Mixed → ⊥
  pub stores_none : (variable place : ℕ) → stores_one p.body (element_number p.variables variable place) ≡ true → ⊥

not_true : (b : Bool) → (b ≡ true → ⊥) → b ≡ false
not_true true h = absurd (h refl)
not_true false h = refl

module _ (wide : Bool) (inputs : List ℕ) (p : FlatProcess) (quiet : IsQuiet wide inputs p) where
  constants : is_register p.body ≡ true → assigns_constants (reset_branch p.body) ≡ true
  constants h = go (clocking wide inputs p.body) (events p.body) refl refl
    where
      go : (o : Option Clocking) (ns : List ℕ) → clocking wide inputs p.body ≡ o → events p.body ≡ ns → assigns_constants (reset_branch p.body) ≡ true
      go (Some c) ns e f = clocked_constants wide inputs p.body c (clocked_is wide inputs p.body c e)
      go None [] e f = absurd (has_events p.body h f)
      go None (n ∷ ns) e f = absurd (quiet.not_mixed (rw (e, f) refl))

  stores_within : (e : ℕ) → e < length (element_starts p.variables) → stores_element e p.body ≡ true → ⊥
  stores_within e l s = let (v, place, n) = has_number p.variables e l in quiet.stores_none v place (ap (stores_one p.body) n ∙ s)

  stores_nothing : (types : List ElementType) → ProcessInRange types p → (e : ℕ) → stores_element e p.body ≡ false
  stores_nothing types r e = not_true (stores_element e p.body) (λ s.
      let l = (each_read_is_there (scope_of types p) p.body r.body).elements e s in
      stores_within e (omega (arith, length_types p.variables)) s)

  keeps_none : (e : ℕ) → e < length (element_starts p.variables) → keeps_element p.body e ≡ false
  keeps_none e l = go (cases_Bool (is_register p.body))
    where
      go : (is_register p.body ≡ true) ⊎ (is_register p.body ≡ false) → keeps_element p.body e ≡ false
      go (inr h) = rw h refl
      go (inl h) =
          rw h (or_none (stores_element e (without_reset p.body)) (must_assign (is_element e) (reset_branch p.body))
          (not_true (stores_element e (without_reset p.body)) (λ s. stores_within e l (without_stores p.body e s)))
          (sets_none (reset_branch p.body) (constants h) e))

  pub no_variables : kept_variables p ≡ []
  no_variables = none_among (keeps_element p.body) 0 p.variables (λ e l m. keeps_none e (omega arith))

-- ---- the netlist

abbrev AreQuiet : Bool → List ℕ → List FlatProcess → Type 0
AreQuiet wide inputs [] = Unit {0}
AreQuiet wide inputs (p ∷ ps) = IsQuiet wide inputs p × AreQuiet wide inputs ps

processes_stay : (wide : Bool) (inputs : List ℕ) (types : List ElementType) (first : ℕ) (ps : List FlatProcess) → All (ProcessInRange types) ps → AreQuiet wide inputs ps
    → kept_processes first ps ≡ ps
processes_stay wide inputs types first [] r h = refl
processes_stay wide inputs types first (p ∷ ps) r h =
    λ i. keeps_none_stays types first p (All-head (ProcessInRange types) p ps r) (no_variables wide inputs p h.0) (stores_nothing wide inputs p h.0 types (All-head (ProcessInRange types) p ps r)) i
    ∷ processes_stay wide inputs types (first + length (kept_elements p)) ps (All-tail (ProcessInRange types) p ps r) h.1 i

none_flat : (wide : Bool) (inputs : List ℕ) (ps : List FlatProcess) → AreQuiet wide inputs ps → flat_map kept_elements ps ≡ []
none_flat wide inputs [] h = refl
none_flat wide inputs (p ∷ ps) h = rw (ap all_elements (no_variables wide inputs p h.0)) (none_flat wide inputs ps h.1)

no_length : {X : Type 0} (xs : List X) → length xs ≡ 0 → xs ≡ []
no_length [] h = refl
no_length (x ∷ xs) h = absurd (omega arith)

-- each process of an accepted netlist
all_quiet : (net : FlatNetlist) → IsAccepted (core_netlist net) → (k : ℕ) (ps : List FlatProcess) → ((i : ℕ) (q : FlatProcess) → slice_get ps i ≡ Some q → process_at net (k + i) ≡ q)
    → AreQuiet net.wide net.inputs ps
all_quiet net accepted k [] h = tt
all_quiet net accepted k (p ∷ ps) h = (
  record { not_mixed = mixed; stores_none = stored },
  all_quiet net accepted (suc k) ps (λ i q g. let s : suc k + i ≡ k + suc i = omega arith in ap (process_at net) s ∙ h (suc i) q g),
)
  where
    is : c.process (core_netlist net) k ≡ core_process net.wide net.inputs p
    is = let s : k ≡ k + 0 = omega arith in process-core_net net k ∙ ap (core_process net.wide net.inputs) (ap (process_at net) s ∙ h 0 p refl)

    mixed : (core_process net.wide net.inputs p).kind ≡ Mixed → ⊥
    mixed e = accepted (MixedProcess k) (inl (ap (λ (q : c.Process). q.kind) is ∙ e))

    stored : (variable place : ℕ) → stores_one p.body (element_number p.variables variable place) ≡ true → ⊥
    stored variable place e = accepted (StoredVariable k variable place) (ap (λ (q : c.Process). q.stores variable place) is ∙ e)

pub accepted_stays : WhatIsAcceptedStays
accepted_stays net wide in_range accepted i = record {
  types = types i;
  start = start i;
  inputs = net.inputs;
  idle = idle i;
  processes = processes_stay wide net.inputs net.types (length net.types) net.processes in_range.processes quiet i;
  wide = net.wide;
}
  where
    quiet : AreQuiet wide net.inputs net.processes
    quiet = all_quiet (record net { wide = wide }) accepted 0 net.processes (λ j q g. let s : 0 + j ≡ j = omega arith in ap (process_at net) s ∙ get_or_from_slice_get net.processes j q no_flat_process g)

    none : length (flat_map kept_elements net.processes) ≡ 0
    none = ap length (none_flat wide net.inputs net.processes quiet)

    types : net.types ++ flat_map kept_types net.processes ≡ net.types
    types = ap (λ xs. net.types ++ xs) (no_length (flat_map kept_types net.processes) (all_types net.processes ∙ none)) ∙ append-nil net.types

    start : net.start ++ flat_map kept_starts net.processes ≡ net.start
    start = ap (λ xs. net.start ++ xs) (no_length (flat_map kept_starts net.processes) (all_starts net.processes ∙ none)) ∙ append-nil net.start

    idle : net.idle ++ replicate (length (flat_map kept_elements net.processes)) [] ≡ net.idle
    idle = ap (λ (n : ℕ). net.idle ++ replicate n []) none ∙ append-nil net.idle
