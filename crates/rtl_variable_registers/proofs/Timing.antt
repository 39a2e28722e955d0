-- A register whose variables are kept has its edge and its reset, and what was clocked is clocked alike.
use Rattle.std.proofs.Common.{◌≡◌, ℕ, ◌+◌, Bool, true, false, cond, ◌&&◌, List, [], ◌∷◌, ◌++◌, length, Option, Some, None, refl, sym, ap, ◌∙◌, flat_map, inl, inr, ◌↔◌}
use Rattle.std.specs.Option.{option_map}
use Rattle.std.proofs.lemmas.Bool.{and_from, and_parts}
use Rattle.rtl_model.specs.basics.Lists.{is_empty}
use Rattle.rtl_model.specs.bodies.Body.{null_of, assign, set, assign_at, set_at, if_of, case_of, Stmts, done, step, no_else, branch, followed_by, Value}
use Rattle.rtl_model.specs.bodies.Kinds.{EdgeTest, edge_test, ResetTest, reset_test, assigns_constants, ResetPart, Clocking, IsClocked, clocking_of, with_reset, clocking}
use Rattle.rtl_model.specs.bodies.Leaves.{leaves, value_leaves, read_of}
use Rattle.rtl_model.specs.bodies.Reads.{value_reads, events}
use Rattle.rtl_model.specs.bodies.Values.{Seen}
use Rattle.rtl_model.specs.nets.FlatNetlist.{FlatProcess, element_starts}
use Rattle.rtl_model.proofs.basics.Lists.{is_nil}
use Rattle.rtl_model.proofs.bodies.Clocking.{each_kind_is_as_said}
use Rattle.rtl_model.proofs.bodies.Leaves.{leaves_tell}
use Rattle.rtl_model.proofs.bodies.Sequences.{sequences_add_up}
use Rattle.rtl_variable_registers.specs.Bodies.{KeptVariable, with_branches, is_register, recalled, remembered, at_edge, at_reset}
use Rattle.rtl_variable_registers.specs.Known.{never_set, at_start, with_constants}
use Rattle.rtl_variable_registers.specs.Laws.{with_parts, timing, reset_in, EachKeepsItsTiming, EachClockedIsKept}
use Rattle.rtl_variable_registers.specs.Processes.{kept_variables, kept_elements, rank_in, with_nets, kept_process}
use Rattle.rtl_variable_registers.proofs.Alike.{kept_is}
use Rattle.rtl_variable_registers.proofs.Known.{are_constants, made_constants, still_assigns, bare_stays}
use Rattle.rtl_variable_registers.proofs.Resetting.{told}
use Rattle.rtl_variable_registers.proofs.Running.{remembered_events}
use Rattle.rtl_variable_registers.proofs.Shapes.{edge_alone, reset_first, reset_behind}
use Rattle.rtl_variable_registers.proofs.Values.{on_both}

recalled_events : (net place : ℕ → ℕ) (vs : List KeptVariable) → events (recalled net place vs) ≡ []
recalled_events net place [] = refl
recalled_events net place (v ∷ vs) = recalled_events net place vs

edge_events : (net place : ℕ → ℕ) (vs : List KeptVariable) (s : Stmts) → events s ≡ [] → events (at_edge net place vs s) ≡ []
edge_events net place vs s h =
    (sequences_add_up (recalled net place vs) (followed_by s (remembered net place vs))).events_of_both
    ∙ on_both (λ (xs ys : List ℕ). xs ++ ys) (recalled_events net place vs)
    ((sequences_add_up s (remembered net place vs)).events_of_both ∙ on_both (λ (xs ys : List ℕ). xs ++ ys) h (remembered_events net place vs))

pub reads_nothing : (v : Value) → is_empty (value_leaves v) ≡ true → is_empty (value_reads v) ≡ true
reads_nothing v h = ap is_empty (leaves_tell.value_reads_are v ∙ ap (flat_map read_of) (is_nil (value_leaves v) h))

-- the branch of the reset looks at nothing, and assigns signals alone
reset_leaves : (net place : ℕ → ℕ) (a : Stmts) → are_constants a ≡ true → leaves (at_reset net place a) ≡ []
reset_leaves net place done g = refl
reset_leaves net place (step null_of rest) g = reset_leaves net place rest g
reset_leaves net place (step (assign ps v) rest) g =
    let (c, d) = and_parts (is_empty (value_leaves v)) (are_constants rest) g in λ i. is_nil (value_leaves v) c i ++ reset_leaves net place rest d i
reset_leaves net place (step (set es v) rest) g =
    let (c, d) = and_parts (is_empty (value_leaves v)) (are_constants rest) g in λ i. is_nil (value_leaves v) c i ++ reset_leaves net place rest d i
reset_leaves net place (step (assign_at index spacing ps v) rest) g = absurd cc
reset_leaves net place (step (set_at index spacing es v) rest) g = absurd cc
reset_leaves net place (step (if_of bs) rest) g = absurd cc
reset_leaves net place (step (case_of v alts) rest) g = absurd cc

reset_constants : (net place : ℕ → ℕ) (a : Stmts) → are_constants a ≡ true → assigns_constants (at_reset net place a) ≡ true
reset_constants net place done g = refl
reset_constants net place (step null_of rest) g = reset_constants net place rest g
reset_constants net place (step (assign ps v) rest) g =
    let (c, d) = and_parts (is_empty (value_leaves v)) (are_constants rest) g in rw (reads_nothing v c) (reset_constants net place rest d)
reset_constants net place (step (set es v) rest) g =
    let (c, d) = and_parts (is_empty (value_leaves v)) (are_constants rest) g in rw (reads_nothing v c) (reset_constants net place rest d)
reset_constants net place (step (assign_at index spacing ps v) rest) g = absurd cc
reset_constants net place (step (set_at index spacing es v) rest) g = absurd cc
reset_constants net place (step (if_of bs) rest) g = absurd cc
reset_constants net place (step (case_of v alts) rest) g = absurd cc

edge_timed : (o : Option EdgeTest) (b c : Bool) (s u : Stmts) → b ≡ true → c ≡ true → option_map timing (clocking_of true b o s None) ≡ option_map timing (clocking_of true c o u None)
edge_timed None true true s u h k = refl
edge_timed (Some e) true true s u h k = refl
edge_timed o false c s u h k = absurd cc
edge_timed o true false s u h k = absurd cc

reset_timed : (gates : Bool) (r : Option ResetTest) (o : Option EdgeTest) (k b c : Bool) (a s u : Stmts) → k ≡ true → b ≡ true → c ≡ true
    → option_map timing (with_reset gates r k b o a s) ≡ option_map timing (with_reset gates r true c o done u)
reset_timed gates None o k b c a s u h i j = refl
reset_timed gates (Some x) None true true true a s u h i j = refl
reset_timed gates (Some x) (Some e) true true true a s u h i j = refl
reset_timed gates (Some x) o false b c a s u h i j = absurd cc
reset_timed gates (Some x) o true false c a s u h i j = absurd cc
reset_timed gates (Some x) o true true false a s u h i j = absurd cc

body_timed : (wide : Bool) (inputs : List ℕ) (net place : ℕ → ℕ) (seen : Seen) (vs : List KeptVariable) (body : Stmts) → is_register body ≡ true
    → option_map timing (clocking wide inputs (with_branches (told net place seen) (at_edge net place vs) body)) ≡ option_map timing (clocking wide inputs (with_branches (λ a. done) (λ s. s) body))
body_timed wide inputs net place seen vs (step (if_of (branch t s no_else)) done) h =
    let y = edge_alone t s h in
    edge_timed (edge_test t) (is_empty (events (at_edge net place vs s))) (is_empty (events s)) (at_edge net place vs s) s
    (ap is_empty (edge_events net place vs s y.quiet)) (ap is_empty y.quiet)
body_timed wide inputs net place seen vs (step (if_of (branch r a (branch t s no_else))) done) h =
    let (x, y) = reset_first r a t s h in
    let known = never_set (step (if_of (branch r a (branch t s no_else))) done) in
    reset_timed true (reset_test wide inputs r) (edge_test t) (assigns_constants (told net place seen a)) (is_empty (events (at_edge net place vs s))) (is_empty (events s)) (told net place seen a) (at_edge net place vs s) s
    (reset_constants net place (with_constants seen a) (made_constants known seen a x.constants)) (ap is_empty (edge_events net place vs s y.quiet)) (ap is_empty y.quiet)
body_timed false inputs net place seen vs (step (if_of (branch t s no_else)) (step (if_of (branch r a no_else)) done)) h = refl
body_timed true inputs net place seen vs (step (if_of (branch t s no_else)) (step (if_of (branch r a no_else)) done)) h =
    let (x, y) = reset_behind t s r a h in
    let known = never_set (step (if_of (branch t s no_else)) (step (if_of (branch r a no_else)) done)) in
    reset_timed false (reset_test true inputs r) (edge_test t) (is_empty (leaves (told net place seen a)) && assigns_constants (told net place seen a)) (is_empty (events (at_edge net place vs s))) (is_empty (events s)) (told net place seen a) (at_edge net place vs s) s
    (and_from (is_empty (leaves (told net place seen a))) _ (ap is_empty (reset_leaves net place (with_constants seen a) (made_constants known seen a x.constants))) (reset_constants net place (with_constants seen a) (made_constants known seen a x.constants))) (ap is_empty (edge_events net place vs s y.quiet)) (ap is_empty y.quiet)
body_timed wide inputs net place seen vs body h = absurd cc

pub timing_is_kept : EachKeepsItsTiming
timing_is_kept wide inputs first p register =
    let net = λ (e : ℕ). first + rank_in (kept_elements p) e in
    let place = λ (e : ℕ). length p.drivers + rank_in (kept_elements p) e in
    ap (λ (k : FlatProcess). option_map timing (clocking wide inputs k.body)) (kept_is first p register) ∙ body_timed wide inputs net place (at_start (element_starts p.variables)) (kept_variables p) p.body register

-- ---- what was clocked before

-- a reset's branch without variables
pub reset_same : (net place : ℕ → ℕ) (a : Stmts) → assigns_constants a ≡ true → at_reset net place a ≡ a
reset_same net place done h = refl
reset_same net place (step null_of rest) h = ap (step null_of) (reset_same net place rest h)
reset_same net place (step (assign ps v) rest) h = ap (step (assign ps v)) (reset_same net place rest (and_parts (is_empty (value_reads v)) (assigns_constants rest) h).1)
reset_same net place (step _ rest) h = absurd cc

module _ (wide : Bool) (inputs : List ℕ) (net place : ℕ → ℕ) (seen : Seen) (vs : List KeptVariable) where
  abbrev changed : Stmts → Stmts
  changed body = with_branches (told net place seen) (at_edge net place vs) body

  abbrev parts : Clocking → Clocking
  parts c = with_parts (at_edge net place vs c.branch) (with_constants seen) c

  -- the reset, with constants in its branch
  abbrev part : ResetPart → ResetPart
  part r = record r { branch = with_constants seen r.branch }

  told_same : (a : Stmts) → assigns_constants a ≡ true → told net place seen a ≡ with_constants seen a
  told_same a h = reset_same net place (with_constants seen a) (still_assigns seen a h)

  clocked_alike : (body : Stmts) (c : Clocking) → IsClocked wide inputs body c → IsClocked wide inputs (changed body) (parts c)
  clocked_alike body c (inl x) = inl (record {
    test = x.test;
    is = ap changed x.is;
    edge = x.edge;
    no_event = edge_events net place vs c.branch x.no_event;
    no_reset = ap (option_map part) x.no_reset;
  })
  clocked_alike body c (inr (inl x)) = inr (inl (record {
    reset = part x.reset;
    first = x.first;
    test = x.test;
    is = ap changed x.is
        ∙ ap (λ a. step (if_of (branch x.first a (branch x.test (at_edge net place vs c.branch) no_else))) done) (told_same x.reset.branch x.constants);
    reset_is = ap (option_map part) x.reset_is;
    gating = x.gating;
    resets = x.resets;
    constants = still_assigns seen x.reset.branch x.constants;
    edge = x.edge;
    no_event = edge_events net place vs c.branch x.no_event;
  }))
  clocked_alike body c (inr (inr x)) = inr (inr (record {
    reset = part x.reset;
    test = x.test;
    second = x.second;
    is = ap changed x.is
        ∙ ap (λ a. step (if_of (branch x.test (at_edge net place vs c.branch) no_else)) (step (if_of (branch x.second a no_else)) done)) (told_same x.reset.branch x.constants);
    is_wide = x.is_wide;
    reset_is = ap (option_map part) x.reset_is;
    not_gating = x.not_gating;
    resets = x.resets;
    constants = still_assigns seen x.reset.branch x.constants;
    reads_nothing = ap leaves (bare_stays seen x.reset.branch x.reads_nothing) ∙ x.reads_nothing;
    edge = x.edge;
    no_event = edge_events net place vs c.branch x.no_event;
  }))

-- with the same branches it is the same clocking
parts_same : (c : Clocking) → with_parts c.branch (λ a. a) c ≡ c
parts_same c i = record c { reset = go c.reset i }
  where
    go : (o : Option ResetPart) → option_map (λ (r : ResetPart). record r { branch = r.branch }) o ≡ o
    go None = refl
    go (Some r) = refl

pub clocked_is_kept : EachClockedIsKept
clocked_is_kept wide inputs first p c h = (kept.0, kept.1, λ r e n. stays (is_register p.body) r.branch n)
  where
    net : ℕ → ℕ
    net e = first + rank_in (kept_elements p) e

    place : ℕ → ℕ
    place e = length p.drivers + rank_in (kept_elements p) e

    seen : Seen
    seen = at_start (element_starts p.variables)

    said : (b : Stmts) (k : Clocking) → clocking wide inputs b ≡ Some k ↔ IsClocked wide inputs b k
    said = (each_kind_is_as_said wide inputs).clocked

    go : (register : Bool) → (s : Stmts) × (clocking wide inputs (cond register (with_nets first p) p).body ≡ Some (with_parts s (λ a. cond register (with_constants seen a) a) c))
    go true =
        (at_edge net place (kept_variables p) c.branch, (said (with_nets first p).body _).1 (clocked_alike wide inputs net place seen (kept_variables p) p.body c ((said p.body c).0 h)))
    go false = (c.branch, h ∙ sym (ap (λ k. Some k) (parts_same c)))

    kept : (s : Stmts) × (clocking wide inputs (kept_process first p).body ≡ Some (with_parts s (reset_in p) c))
    kept = go (is_register p.body)

    stays : (register : Bool) (a : Stmts) → leaves a ≡ [] → cond register (with_constants seen a) a ≡ a
    stays true a n = bare_stays seen a n
    stays false a n = refl
