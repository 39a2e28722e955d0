-- The processes of a netlist, as the theory of simulation has them.
use Rattle.std.proofs.Common.{◌≡◌, ℕ, zero, suc, ◌+◌, ◌<◌, ◌≤◌, Bool, true, false, ◌||◌, ◌==◌, append-nil, List, [], ◌∷◌, ◌++◌, length, get_or, map, refl, sym, ap, subst, ◌∙◌, arith, ◌⊎◌, inl, inr, Option, Some, None}
use Rattle.std.specs.Prelude.{option_map}
use Rattle.std.proofs.lemmas.Bool.{cases_lt}
use Rattle.std.proofs.lemmas.List.{length-map, get_or_default}
use Rattle.std.specs.Option.{option_to_list}
use Rattle.rtl_model.specs.bodies.Body.{Test, Stmts, branch, no_else}
use Rattle.rtl_model.specs.bodies.Reads.{reads, events, test_reads, branches_reads}
use Rattle.rtl_model.specs.bodies.Kinds as k
use Rattle.rtl_model.specs.nets.FlatNetlist.{FlatProcess}
use Rattle.rtl_model.specs.nets.CoreNetlist.{core_process, core_kind, core_reset, acting_branch}
use Rattle.rtl_model.specs.simulation.Netlist as m
use Rattle.rtl_model.specs.simulation.Netlist.{Netlist, ProcessKind, Mixed, Edge, process, no_process}
use Rattle.rtl_model.proofs.basics.Lists.{get_or-map_within}
use Rattle.rtl_model.proofs.bodies.Clocking.{clocked_is, resets_read_nothing}
use Rattle.rtl_body_facts.proofs.Members.{in_append}
use Rattle.rtl_net.specs.declared.process.Process.{Process}
use Rattle.rtl_net.specs.Nets.{NetlistView, process_view, body_of}
use Rattle.rtl_body_facts.specs.declared.kinds.ProcessKind as c
use Rattle.rtl_body_facts.specs.declared.kinds.ProcessKind.TheVariants as ck
use Rattle.rtl_body_facts.specs.Reading.{is_in}
use Rattle.rtl_body_facts.specs.Timing.{part_net, kind_view}
use Rattle.rtl_net.specs.Core.{core}
use Rattle.rtl_process_kinds.specs.KindViews.{reset_net, IsKind, AreKinds}

pub many_processes : (net : NetlistView) → length (core net).processes ≡ length net.processes
many_processes net = length-map (map process_view net.processes) (core_process net.wide net.inputs) ∙ length-map net.processes process_view

pub process_is : (net : NetlistView) (p : ℕ) (x : Process) → p < length net.processes → x ≡ get_or net.processes p x
    → process (core net) p ≡ core_process net.wide net.inputs (process_view x)
process_is net p x l e =
    let there : p < length (map process_view net.processes) = rw (length-map net.processes process_view) l in
    get_or-map_within (core_process net.wide net.inputs) (map process_view net.processes) p (process_view x) no_process there
    ∙ ap (core_process net.wide net.inputs) (get_or-map_within process_view net.processes p x (process_view x) l ∙ ap process_view (sym e))

reset_parts : (p : FlatProcess) (o : Option k.ResetPart) → option_map reset_net (core_reset p o) ≡ option_map part_net o
reset_parts p None = refl
reset_parts p (Some r) = refl

-- ---- what clocked bodies read

edge_reads : (n : ℕ) (t : Test) (clock : ℕ) (edge : Edge) → k.IsEdgeTest t clock edge → is_in n (test_reads t) ≡ is_in n (clock ∷ [])
edge_reads n t clock edge (k.rising_call e g) = ap (λ (x : Test). is_in n (test_reads x)) e
edge_reads n t clock edge (k.falling_call e g) = ap (λ (x : Test). is_in n (test_reads x)) e
edge_reads n t clock edge (k.event_and_level v e g) = ap (λ (x : Test). is_in n (test_reads x)) e ∙ twice (clock == n)
  where
    twice : (a : Bool) → (a || (a || false)) ≡ (a || false)
    twice true = refl
    twice false = refl
edge_reads n t clock edge (k.level_and_event v e g) = ap (λ (x : Test). is_in n (test_reads x)) e ∙ twice (clock == n)
  where
    twice : (a : Bool) → (a || (a || false)) ≡ (a || false)
    twice true = refl
    twice false = refl

none_after : (n : ℕ) (xs : List ℕ) → is_in n (xs ++ []) ≡ is_in n xs
none_after n xs = ap (is_in n) (append-nil xs)

branch_reads : (n : ℕ) (t : Test) (s : Stmts) → is_in n (branches_reads (branch t s no_else)) ≡ (is_in n (test_reads t) || is_in n (reads s))
branch_reads n t s = in_append n (test_reads t) (reads s ++ []) ∙ ap (λ (b : Bool). is_in n (test_reads t) || b) (none_after n (reads s))

swapped : (a b c : Bool) → ((a || false) || ((b || false) || c)) ≡ ((b || (a || false)) || c)
swapped true true c = refl
swapped true false c = refl
swapped false true c = refl
swapped false false c = refl

turned : (a b c : Bool) → (((a || false) || b) || ((c || false) || false)) ≡ ((a || (c || false)) || b)
turned true b c = refl
turned false true true = refl
turned false true false = refl
turned false false true = refl
turned false false false = refl

reads_parts : (wide : Bool) (inputs : List ℕ) (body : Stmts) (c : k.Clocking) → k.clocking wide inputs body ≡ Some c → (n : ℕ)
    → is_in n (reads body) ≡ (is_in n (c.test.clock ∷ option_to_list (option_map part_net c.reset)) || is_in n (reads c.branch))
reads_parts wide inputs body c h n = go (clocked_is wide inputs body c h)
  where
    go : k.IsClocked wide inputs body c
        → is_in n (reads body) ≡ (is_in n (c.test.clock ∷ option_to_list (option_map part_net c.reset)) || is_in n (reads c.branch))
    go (inl a) =
        ap (λ (b : Stmts). is_in n (reads b)) a.is ∙ (none_after n (branches_reads (branch a.test c.branch no_else))
        ∙ (branch_reads n a.test c.branch ∙ (ap (λ (b : Bool). b || is_in n (reads c.branch)) (edge_reads n a.test c.test.clock c.test.edge a.edge)
        ∙ ap (λ (o : Option k.ResetPart). is_in n (c.test.clock ∷ option_to_list (option_map part_net o)) || is_in n (reads c.branch)) (sym a.no_reset))))
    -- the reset's test stands behind the branch under the edge
    go (inr (inr a)) =
        let none : reads a.reset.branch ≡ [] = (resets_read_nothing wide inputs body c a.reset h a.reset_is).0 in
        let of_edge = branches_reads (branch a.test c.branch no_else) in
        ap (λ (b : Stmts). is_in n (reads b)) a.is ∙ (in_append n of_edge (branches_reads (branch a.second a.reset.branch no_else) ++ [])
        ∙ ((λ i. (branch_reads n a.test c.branch ∙ ap (λ (b : Bool). b || is_in n (reads c.branch)) (edge_reads n a.test c.test.clock c.test.edge a.edge)) i
        || (none_after n (branches_reads (branch a.second a.reset.branch no_else)) ∙ branch_reads n a.second a.reset.branch ∙ (λ j. is_in n (test_reads (a.resets.is j)) || is_in n (none j))) i)
        ∙ (turned (c.test.clock == n) (is_in n (reads c.branch)) (a.reset.test.net == n)
        ∙ ap (λ (o : Option k.ResetPart). is_in n (c.test.clock ∷ option_to_list (option_map part_net o)) || is_in n (reads c.branch)) (sym a.reset_is))))
    go (inr (inl a)) =
        let rest = branches_reads (branch a.test c.branch no_else) in
        let none : reads a.reset.branch ≡ [] = (resets_read_nothing wide inputs body c a.reset h a.reset_is).0 in
        ap (λ (b : Stmts). is_in n (reads b)) a.is ∙ (none_after n (test_reads a.first ++ (reads a.reset.branch ++ rest))
        ∙ (in_append n (test_reads a.first) (reads a.reset.branch ++ rest)
        ∙ (ap (λ (xs : List ℕ). is_in n (test_reads a.first) || is_in n (xs ++ rest)) none
        ∙ (ap (λ (t : Test). is_in n (test_reads t) || is_in n rest) a.resets.is
        ∙ (ap (λ (b : Bool). is_in n (a.reset.test.net ∷ []) || b) (branch_reads n a.test c.branch ∙ ap (λ (b : Bool). b || is_in n (reads c.branch)) (edge_reads n a.test c.test.clock c.test.edge a.edge))
        ∙ (swapped (a.reset.test.net == n) (c.test.clock == n) (is_in n (reads c.branch))
        ∙ ap (λ (o : Option k.ResetPart). is_in n (c.test.clock ∷ option_to_list (option_map part_net o)) || is_in n (reads c.branch)) (sym a.reset_is)))))))

kind_as : (q : m.Process) (p : FlatProcess) (o : Option k.Clocking) (ns : List ℕ) → q.kind ≡ core_kind p o ns → q.acting_reads ≡ reads (acting_branch o)
    → ((c : k.Clocking) → o ≡ Some c → (n : ℕ) → is_in n q.reads ≡ (is_in n (c.test.clock ∷ option_to_list (option_map part_net c.reset)) || is_in n (reads c.branch)))
    → IsKind q (kind_view o ns)
kind_as q p (Some c) ns e r parts = record {
  reset = core_reset p c.reset;
  kind = e;
  reset_is = reset_parts p c.reset;
  reads_clock = ap (is_in c.test.clock) (sym r);
  reads = λ n. parts c refl n ∙ ap (λ (xs : List ℕ). is_in n (c.test.clock ∷ option_to_list (option_map part_net c.reset)) || is_in n xs) (sym r);
}
kind_as q p None [] e r parts = e
kind_as q p None (n ∷ ns) e r parts = e

pub kind_is : (wide : Bool) (inputs : List ℕ) (x : Process) → IsKind (core_process wide inputs (process_view x)) (kind_view (k.clocking wide inputs (body_of x)) (events (body_of x)))
kind_is wide inputs x =
    kind_as (core_process wide inputs (process_view x)) (process_view x) (k.clocking wide inputs (body_of x)) (events (body_of x)) refl refl (λ c e n. reads_parts wide inputs (body_of x) c e n)

get_or-push : {X : Type 0} (xs : List X) (x d : X) → get_or (xs ++ x ∷ []) (length xs) d ≡ x
get_or-push [] x d = refl
get_or-push (y ∷ ys) x d = get_or-push ys x d

get_or-push_below : {X : Type 0} (xs : List X) (x : X) (p : ℕ) (d : X) → p < length xs → get_or (xs ++ x ∷ []) p d ≡ get_or xs p d
get_or-push_below [] x p d l = absurd (omega arith)
get_or-push_below (y ∷ ys) x zero d l = refl
get_or-push_below (y ∷ ys) x (suc p) d l = get_or-push_below ys x p d (omega arith)

-- ---- kinds

pub kind_at : (net : Netlist) (kinds : List c.ProcessKind) → AreKinds net kinds → (p : ℕ) → p < length kinds → (d kind : c.ProcessKind) → get_or kinds p d ≡ kind → IsKind (process net p) kind
kind_at net kinds a p l d kind e =
    let there : p < length net.processes = rw (← a.each_process) l in
    subst (IsKind (process net p)) (get_or_default kinds p ck.Mixed d l ∙ e) (a.each p there)

-- one kind more
pub kinds_more : (net : Netlist) (kinds new : List c.ProcessKind) (i : ℕ) (kind : c.ProcessKind) → length kinds ≡ i → ((p : ℕ) → p < i → IsKind (process net p) (get_or kinds p ck.Mixed))
    → new ≡ kinds ++ kind ∷ [] → IsKind (process net i) kind → (p : ℕ) → p < i + 1 → IsKind (process net p) (get_or new p ck.Mixed)
kinds_more net kinds new i kind many so_far is now p l = subst (λ (ks : List c.ProcessKind). IsKind (process net p) (get_or ks p ck.Mixed)) (sym is) (go (cases_lt p i))
  where
    go : (p < i) ⊎ (i ≤ p) → IsKind (process net p) (get_or (kinds ++ kind ∷ []) p ck.Mixed)
    go (inl m) = subst (IsKind (process net p)) (sym (get_or-push_below kinds kind p ck.Mixed (rw many m))) (so_far p m)
    go (inr m) =
        let e : p ≡ length kinds = omega (arith, many) in
        let f : i ≡ p = omega arith in
        subst (λ (q : ℕ). IsKind (process net p) (get_or (kinds ++ kind ∷ []) q ck.Mixed)) (sym e)
        (subst (IsKind (process net p)) (sym (get_or-push kinds kind ck.Mixed)) (subst (λ (q : ℕ). IsKind (process net q) kind) f now))

-- ---- places

-- what is read of a list, of the same list under another name
pub listed_as : {X : Type 0} {xs ys : List X} (p : ℕ) {x : X} → x ≡ get_or xs p x → xs ≡ ys → x ≡ get_or ys p x
listed_as {X} {xs} {ys} p {x} is same = is ∙ ap (λ (zs : List X). get_or zs p x) same

-- ---- numbers

pub ends : {a m n i : ℕ} → a < m → n ≡ m → n ≤ i → a < i
ends l e h = omega arith

pub within : {a k m n : ℕ} → a < k → k ≡ m → m ≡ n → a < n
within l e f = omega arith
