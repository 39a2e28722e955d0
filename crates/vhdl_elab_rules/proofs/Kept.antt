-- The in ports of the top among all signals: those of the top's objects that are in ports.
use Rattle.std.proofs.Common.{◌≡◌, ℕ, zero, suc, ◌+◌, ◌<◌, ◌≤◌, Bool, true, false, cond, ◌&&◌, ◌==◌, List, [], ◌∷◌, ◌++◌, map, All, Contains, refl, sym, ap, ◌∙◌, subst, arith, append_assoc, append-nil, ◌⊎◌, inl, inr}
use Rattle.std.specs.Prelude.{filter, flat_map, slice_index}
use Rattle.std.specs.List.{list_any, range_with_len}
use Rattle.std.proofs.lemmas.Bool.{false_from_ne_true, eqb-true}
use Rattle.std.proofs.lemmas.List.Elements.{All-nil, All-head, All-tail, All-weaker, All-append, All-contains, filter-append}
use Rattle.rtl_model.proofs.basics.Lists.{in_contains, contains_in, Contains-first}
use Rattle.rtl_net.specs.Nets.{SignalView}
use Rattle.vhdl_expand_rules.specs.Tree.{Role, input, output, internal, Object}
use Rattle.vhdl_expand_rules.proofs.laws.Kinds.{width_of_kind}
use Rattle.vhdl_elab_rules.specs.Numbering.{object_nets, own_size, own_sizes, Placed}
use Rattle.vhdl_elab_rules.specs.Wiring.{is_input}
use Rattle.vhdl_elab_rules.specs.Names.{is_port_role}
use Rattle.vhdl_elab_rules.proofs.laws.Nets.{own-is_size}
use Rattle.vhdl_elab_rules.proofs.laws.Inputs.{NotJoined}
use Rattle.vhdl_elab_rules.proofs.Placed.{HasKind, IsBelow, Follow, run-within}
use Rattle.vhdl_elab_rules.proofs.Objects.{object_signal, object_signals, all_signals, first-signals}
use Rattle.vhdl_elab_rules.proofs.Order.{FromScope, from-scope}
use Rattle.vhdl_elab_rules.proofs.Top.{AtLeast, input_nets, own-run, inputs-from-on, contains-left, contains-right, contains-either, cond-all, top-is}

-- the test of a signal, among these inputs
abbrev pub in_port : (inputs : List ℕ) → SignalView → Bool
in_port inputs s = s.scope == 0 && (s.port && list_any (λ m. m == slice_index s.nets 0) inputs)

-- the signals of in ports among these objects
abbrev pub input_signals : (above : List ℕ) → (first : ℕ) → List Object → List SignalView
input_signals above first [] = []
input_signals above first (o ∷ os) =
    cond (is_input o.role) (object_signal 0 (object_nets above first o) o ∷ input_signals above (first + own_size o) os) (input_signals above (first + own_size o) os)

first-of-run : (first n : ℕ) → 1 ≤ n → slice_index (range_with_len first n) 0 ≡ first
first-of-run first zero h = absurd (omega (arith, h))
first-of-run first (suc n) h = refl

first-there : (first n : ℕ) → 1 ≤ n → Contains (range_with_len first n) first
first-there first zero h = absurd (omega (arith, h))
first-there first (suc n) h = Contains-first first (range_with_len (first + 1) n)

tested : (o : Object) (above : List ℕ) (first : ℕ) (left later : List ℕ) → NotJoined o → HasKind o → All (IsBelow first) left → All (AtLeast (first + own_size o)) later
    → in_port (left ++ (cond (is_input o.role) (object_nets above first o) [] ++ later)) (object_signal 0 (object_nets above first o) o) ≡ is_input o.role
tested o above first left later alone kind low high = by o.role
  where
    mine : List ℕ
    mine = object_nets above first o

    some : 1 ≤ own_size o
    some = subst (λ n. 1 ≤ n) (sym (own-is_size o alone)) (width_of_kind o.kind kind).0

    run : mine ≡ range_with_len first (own_size o)
    run = own-run above first o alone

    at : slice_index mine 0 ≡ first
    at = ap (λ (ns : List ℕ). slice_index ns 0) run ∙ first-of-run first (own_size o) some

    none : Contains left first ⊎ Contains later first → ⊥
    none (inl c) = let l : first < first = All-contains (IsBelow first) left first low c in omega (arith, l)
    none (inr c) = let l : first + own_size o ≤ first = All-contains (AtLeast (first + own_size o)) later first high c in let m : 1 ≤ own_size o = some in omega (arith, l, m)

    by : (r : Role) → (true && (is_port_role r && list_any (λ m. m == slice_index mine 0) (left ++ (cond (is_input r) mine [] ++ later)))) ≡ is_input r
    by input =
        ap (λ n. list_any (λ m. m == n) (left ++ (mine ++ later))) at
        ∙ contains_in (left ++ (mine ++ later)) first (contains-right left (mine ++ later) first (contains-left mine later first (subst (λ (ns : List ℕ). Contains ns first) (sym run) (first-there first (own_size o) some))))
    by output =
        ap (λ n. list_any (λ m. m == n) (left ++ later)) at
        ∙ false_from_ne_true (list_any (λ m. m == first) (left ++ later)) (λ e. none (contains-either left later first (in_contains (left ++ later) first e)))
    by internal = refl

pub kept : (os : List Object) (above : List ℕ) (first : ℕ) (left : List ℕ) → All NotJoined os → All HasKind os → All (IsBelow first) left
    → filter (in_port (left ++ input_nets above first os)) (object_signals 0 above first os) ≡ input_signals above first os
kept [] above first left alone kinds low = refl
kept (o ∷ os) above first left alone kinds low =
    let mine : List ℕ = object_nets above first o in
    let some : List ℕ = cond (is_input o.role) mine [] in
    let later : List ℕ = input_nets above (first + own_size o) os in
    let s : SignalView = object_signal 0 mine o in
    let rest : List SignalView = object_signals 0 above (first + own_size o) os in
    let none : NotJoined o = All-head NotJoined o os alone in
    let run : mine ≡ range_with_len first (own_size o) = own-run above first o none in
    let below : All (IsBelow (first + own_size o)) mine = subst (All (IsBelow (first + own_size o))) (sym run) (run-within (own_size o) first (first + own_size o) (omega arith)) in
    let left_below : All (IsBelow (first + own_size o)) left = All-weaker (IsBelow first) (IsBelow (first + own_size o)) (λ n l. omega (arith, l)) left low in
    ap (λ (t : Bool). cond t (s ∷ filter (in_port (left ++ (some ++ later))) rest) (filter (in_port (left ++ (some ++ later))) rest))
    (tested o above first left later none (All-head HasKind o os kinds) low (inputs-from-on os above (first + own_size o) (All-tail NotJoined o os alone)))
    ∙ ap (λ (ns : List ℕ). cond (is_input o.role) (s ∷ filter (in_port ns) rest) (filter (in_port ns) rest)) (sym (append_assoc left some later))
    ∙ ap (λ (ss : List SignalView). cond (is_input o.role) (s ∷ ss) ss)
    (kept os above (first + own_size o) (left ++ some) (All-tail NotJoined o os alone) (All-tail HasKind o os kinds)
    (All-append (IsBelow (first + own_size o)) left some left_below (cond-all (IsBelow (first + own_size o)) (is_input o.role) mine below)))

-- no other scope has ports of the top
none-kept : (inputs : List ℕ) (ss : List SignalView) → All (FromScope 1) ss → filter (in_port inputs) ss ≡ []
none-kept inputs [] h = refl
none-kept inputs (s ∷ ss) h =
    ap (λ (t : Bool). cond (t && (s.port && list_any (λ m. m == slice_index s.nets 0) inputs)) (s ∷ filter (in_port inputs) ss) (filter (in_port inputs) ss))
    (false_from_ne_true (s.scope == 0) (λ e. let z : s.scope ≡ 0 = eqb-true s.scope 0 e in let l : 1 ≤ s.scope = All-head (FromScope 1) s ss h in omega (arith, z, l)))
    ∙ none-kept inputs ss (All-tail (FromScope 1) s ss h)

pub kept-of-all : (p : Placed) (ps : List Placed) (total : ℕ) (h : Follow [] 0 (p ∷ ps) total)
    → filter (in_port (input_nets h.0.above 0 p.objects)) (all_signals 0 (p ∷ ps)) ≡ input_signals h.0.above 0 p.objects
kept-of-all p ps total h =
    let inputs : List ℕ = input_nets h.0.above 0 p.objects in
    let mine : List SignalView = object_signals 0 h.0.above 0 p.objects in
    ap (filter (in_port inputs)) (first-signals 0 [] 0 p ps h.0) ∙ filter-append (in_port inputs) mine (all_signals 1 ps)
    ∙ ap (λ (ss : List SignalView). filter (in_port inputs) mine ++ ss) (none-kept inputs (all_signals 1 ps) (from-scope 1 (p ∷ []) (0 + own_sizes p.objects) ps total h.1))
    ∙ append-nil (filter (in_port inputs) mine)
    ∙ kept p.objects h.0.above 0 [] (top-is p h.0.stands).alone h.0.kinds (All-nil (IsBelow 0))

-- ---- what is kept

pub kept-nets : (os : List Object) (above : List ℕ) (first : ℕ) → flat_map (λ (s : SignalView). s.nets) (input_signals above first os) ≡ input_nets above first os
kept-nets [] above first = refl
kept-nets (o ∷ os) above first = by (is_input o.role) (kept-nets os above (first + own_size o))
  where
    mine : List ℕ
    mine = object_nets above first o

    rest : List SignalView
    rest = input_signals above (first + own_size o) os

    later : List ℕ
    later = input_nets above (first + own_size o) os

    by : (t : Bool) → flat_map (λ (s : SignalView). s.nets) rest ≡ later → flat_map (λ (s : SignalView). s.nets) (cond t (object_signal 0 mine o ∷ rest) rest) ≡ cond t mine [] ++ later
    by true e = ap (λ (ns : List ℕ). mine ++ ns) e
    by false e = e

-- a fact of the names of in ports
pub kept-names : {A : Type 0} (f : List ℕ → A) (os : List Object) (above : List ℕ) (first : ℕ)
    → map (λ (s : SignalView). f s.name) (input_signals above first os) ≡ map (λ (o : Object). f o.name) (filter (λ (o : Object). is_input o.role) os)
kept-names f [] above first = refl
kept-names {A} f (o ∷ os) above first = by (is_input o.role) (kept-names f os above (first + own_size o))
  where
    rest : List SignalView
    rest = input_signals above (first + own_size o) os

    later : List Object
    later = filter (λ (x : Object). is_input x.role) os

    by : (t : Bool) → map (λ (s : SignalView). f s.name) rest ≡ map (λ (x : Object). f x.name) later
        → map (λ (s : SignalView). f s.name) (cond t (object_signal 0 (object_nets above first o) o ∷ rest) rest) ≡ map (λ (x : Object). f x.name) (cond t (o ∷ later) later)
    by true e = ap (λ (xs : List A). f o.name ∷ xs) e
    by false e = e
