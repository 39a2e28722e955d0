-- Elaborated netlists are in range and connected, and within the limits.
use Rattle.std.proofs.Common.{◌≡◌, ℕ, ◌+◌, ◌<◌, ◌≤◌, true, false, not, ◌&&◌, List, [], ◌∷◌, ◌++◌, length, map, Ok, All, refl, sym, ap, ◌∙◌, subst, arith, ◌⊎◌, inl, inr}
use Rattle.std.specs.Prelude.{slice_index, slice_index_or, flat_map, Contains, IsTrue, nat_le}
use Rattle.std.specs.List.{list_any}
use Rattle.std.proofs.lemmas.Bool.{and_parts, leb-true, not-true, or_parts, cases_lt}
use Rattle.std.proofs.lemmas.Option.{same_Some, slice_get_within}
use Rattle.std.proofs.lemmas.List.{length-map, length-append, get_or_past}
use Rattle.std.proofs.lemmas.List.Elements.{All-nil, All-cons, All-contains}
use Rattle.vhdl_values.specs.Scalar.{value_of_code}
use Rattle.vhdl_values.specs.Resolution.{resolved}
use Rattle.vhdl_values.proofs.Codes.{code_of_below}
use Rattle.rtl_model.specs.bodies.Types.{ElementType, nine_valued, enumeration, limit_of, IsByte, HasType}
use Rattle.rtl_model.specs.nets.FlatNetlist.{FlatDriver, FlatProcess, no_flat_process, process_at, targets, starts, all_drivers_of, flat_sources, ProcessInRange, IsInRange}
use Rattle.rtl_model.specs.nets.CoreNetlist.{core_resolve}
use Rattle.rtl_model.specs.nets.Wiring.{IsConnected}
use Rattle.rtl_model.specs.simulation.Netlist.{Source, Driver, Idle}
use Rattle.rtl_model.specs.simulation.Cycle.{source_value}
use Rattle.rtl_model.proofs.basics.Lists.{Contains-first, get_or-map_within}
use Rattle.rtl_model.proofs.nets.Connected.{no_driver}
use Rattle.rtl_model.proofs.nets.InRange.{type_at}
use Rattle.rtl_model.proofs.nets.Sources.{source_is_driver, source_is_idle}
use Rattle.vhdl_names_rules.specs.units.Units.{Units}
use Rattle.vhdl_names_rules.specs.sound.Units.{are_sound}
use Rattle.vhdl_expand_rules.specs.declared.fault.ElabProblem.TheVariants.{TwoUnresolved, TooMany}
use Rattle.vhdl_expand_rules.specs.Elab.{unless}
use Rattle.vhdl_expand_rules.specs.Expansion.{Design, expanded_design}
use Rattle.vhdl_expand_rules.specs.Tops.{Top}
use Rattle.vhdl_expand_rules.proofs.Steps.{ok, bound, kept}
use Rattle.vhdl_expand_rules.proofs.laws.Lengths.{design-fits}
use Rattle.vhdl_expand_rules.proofs.laws.Trees.{each-tree-is-sound}
use Rattle.vhdl_expand_rules.proofs.laws.Targets.{all_left, all_right}
use Rattle.rtl_net.specs.Limits.{most_nets, most_processes, most_scopes}
use Rattle.vhdl_elab_rules.specs.Numbering.{Placed, Numbered, nothing_numbered, above_top, numbered_design}
use Rattle.vhdl_elab_rules.specs.Wiring.{Element, elements_of, with_defaults, start_by, start_of, flat_net}
use Rattle.vhdl_elab_rules.specs.Limits.{elements, first_at, is_two_unresolved, has_two_unresolved, counts, is_within_limits}
use Rattle.vhdl_elab_rules.specs.Names.{scope_of}
use Rattle.vhdl_elab_rules.specs.Elaboration.{Elaborated, net_of, resolves, shares_unread, netlist_of, elaborated_net}
use Rattle.vhdl_elab_rules.specs.laws.Processes.{ProcessesFit}
use Rattle.vhdl_elab_rules.specs.laws.Shape.{HasShape}
use Rattle.vhdl_elab_rules.specs.laws.Wiring.{IsWired}
use Rattle.vhdl_elab_rules.specs.laws.Sound.{EachNetIsSound, IsWithinLimits, EachNetIsWithinLimits}
use Rattle.vhdl_elab_rules.proofs.laws.Shape.{each-has-shape}
use Rattle.vhdl_elab_rules.proofs.laws.Typed.{zip_read, IsBelow}
use Rattle.vhdl_elab_rules.proofs.laws.Walk.{types_of, PlacedIsSound, LocatedIsSound, SoFar}
use Rattle.vhdl_elab_rules.proofs.laws.Processes.{walked, each-process-fits}
use Rattle.vhdl_elab_rules.proofs.laws.Wiring.{source-there, start-at, each-net-is-wired, idle-nine}
use Rattle.vhdl_elab_rules.proofs.laws.States.{NotTwo, Tame}
use Rattle.vhdl_elab_rules.proofs.laws.Shared.{all_hits, length-all, HitOnce, instance-once}

-- ---- elements with two sources

none-two : (es : List Element) → list_any (λ (e : Element). not e.is_resolved && nat_le 2 e.sources) es ≡ false → All NotTwo es
none-two [] h = All-nil NotTwo
none-two (e ∷ es) h =
    let both = or_parts (not e.is_resolved && nat_le 2 e.sources) (list_any (λ (x : Element). not x.is_resolved && nat_le 2 x.sources) es) h in
    All-cons NotTwo e es both.0 (none-two es both.1)

all-tame : (ps : List Placed) → All NotTwo (flat_map elements_of ps) → All Tame ps
all-tame [] h = All-nil Tame
all-tame (p ∷ ps) h = All-cons Tame p ps (all_left NotTwo (elements_of p) (flat_map elements_of ps) h) (all-tame ps (all_right NotTwo (elements_of p) (flat_map elements_of ps) h))

-- ---- several sources meet at nets of the nine values

same-type : (types : List ElementType) (n : ℕ) (s t : ElementType) → HasType types s n → HasType types t n → s ≡ t
same-type types n s t h g = same_Some s t (sym h ∙ g)

one-source : (d : Numbered) (n c : ℕ) → SoFar d → HitOnce d → HasType (types_of d.instances) (enumeration c) n → length (flat_sources (with_defaults d) n) ≤ 1
one-source d n c h once typed =
    let drivers : List Source = all_drivers_of n 0 (with_defaults d).processes in
    let idle : List ℕ = slice_index_or (with_defaults d).idle n [] in
    let none : idle ≡ [] = no-values idle (λ v k.
    let nine : HasType (types_of d.instances) nine_valued n = idle-nine d h n v k in
    absurd (let e = same-type (types_of d.instances) n nine_valued (enumeration c) nine typed in cc)) in
    let few : all_hits n d.processes ≤ 1 = once.once n c typed in
    let len : length (drivers ++ map Idle idle) ≡ all_hits n d.processes + 0 =
    length-append drivers (map Idle idle) ∙ ap (λ m. m + length (map Idle idle)) (length-all n 0 d.nets d.processes) ∙ ap (λ (vs : List ℕ). all_hits n d.processes + length (map Idle vs)) none in
    omega (arith, few, len)
  where
    no-values : (vs : List ℕ) → ((v : ℕ) → Contains vs v → ⊥) → vs ≡ []
    no-values [] go = refl
    no-values (v ∷ vs) go = absurd (go v (Contains-first v vs))

some-source : (xs : List Source) → 2 ≤ length xs → (s : Source) × Contains xs s
some-source [] l = absurd (omega (arith, l))
some-source (x ∷ xs) l = (x, Contains-first x xs)

shared-nine : (d : Numbered) (n : ℕ) → SoFar d → HitOnce d → All (ProcessInRange (types_of d.instances)) (with_defaults d).processes → 2 ≤ length (flat_sources (with_defaults d) n) → HasType (types_of d.instances) nine_valued n
shared-nine d n h once fit l =
    let s = some-source (flat_sources (with_defaults d) n) l in
    let there = source-there d h fit n s.0 s.1 in
    let t = type_at (types_of d.instances) n (subst (λ m. n < m) (sym h.count) there) in
    by t.0 t.1
  where
    by : (t : ElementType) → HasType (types_of d.instances) t n → HasType (types_of d.instances) nine_valued n
    by nine_valued typed = typed
    by (enumeration c) typed = absurd (let few : length (flat_sources (with_defaults d) n) ≤ 1 = one-source d n c h once typed in omega (arith, few, l))

-- ---- what nets start with

driver-below : (d : Numbered) (p place n : ℕ) (t : ElementType) → All (ProcessInRange (types_of d.instances)) (with_defaults d).processes → HasType (types_of d.instances) t n
    → place < length (targets (process_at (with_defaults d) p)) → slice_index (targets (process_at (with_defaults d) p)) place ≡ n
    → slice_index (slice_index_or (map starts (with_defaults d).processes) p []) place < limit_of t
driver-below d p place n t fit typed l is = by (cases_lt p (length ps))
  where
    ps : List FlatProcess
    ps = (with_defaults d).processes

    by : (p < length ps) ⊎ (length ps ≤ p) → slice_index (slice_index_or (map starts (with_defaults d).processes) p []) place < limit_of t
    by (inr past) =
        let none : targets (slice_index_or ps p no_flat_process) ≡ [] = ap targets (get_or_past ps p no_flat_process past) in
        absurd (let k : place < 0 = subst (λ (ts : List ℕ). place < length ts) none l in omega (arith, k))
    by (inl there) =
        let q : FlatProcess = slice_index_or ps p no_flat_process in
        let ds : List FlatDriver = q.drivers in
        let l' : place < length ds = subst (λ m. place < m) (length-map ds (λ (x : FlatDriver). x.net)) l in
        let w = (fit p no_flat_process there).drivers place no_driver l' in
        let at : slice_index (targets q) place ≡ (slice_index_or ds place no_driver).net = get_or-map_within (λ (x : FlatDriver). x.net) ds place no_driver 0 l' in
        let same : w.0 ≡ t = same-type (types_of d.instances) n w.0 t (subst (HasType (types_of d.instances) w.0) (sym at ∙ is) w.1) typed in
        let value : slice_index (starts q) place ≡ (slice_index_or ds place no_driver).start = get_or-map_within (λ (x : FlatDriver). x.start) ds place no_driver 0 l' in
        let outer : slice_index_or (map starts ps) p [] ≡ starts q = get_or-map_within starts ps p no_flat_process [] there in
        subst (λ (vs : List ℕ). slice_index vs place < limit_of t) (sym outer) (subst (λ v. v < limit_of t) (sym value) (subst (λ (u : ElementType). (slice_index_or ds place no_driver).start < limit_of u) same w.2))

starts-keep : (d : Numbered) (n : ℕ) (t : ElementType) → SoFar d → HitOnce d → All (ProcessInRange (types_of d.instances)) (with_defaults d).processes
    → ((m : ℕ) (u : ElementType) → HasType (types_of d.instances) u m → All (λ v. v < limit_of u) (slice_index_or (with_defaults d).idle m [])) → HasType (types_of d.instances) t n → start_of (with_defaults d) n < limit_of t
starts-keep d n t h once fit idle typed = by (flat_sources (with_defaults d) n) refl
  where
    one : (s : Source) → Contains (flat_sources (with_defaults d) n) s → source_value (map starts (with_defaults d).processes) s < limit_of t
    one (Driver p place) c = let w = source_is_driver (with_defaults d) n p place c in driver-below d p place n t fit typed w.0 w.1
    one (Idle v) c = All-contains (λ x. x < limit_of t) (slice_index_or (with_defaults d).idle n []) v (idle n t typed) (source_is_idle (with_defaults d) n v c)

    by : (xs : List Source) → flat_sources (with_defaults d) n ≡ xs → start_of (with_defaults d) n < limit_of t
    by [] e =
        subst (λ (xs : List Source). start_by (with_defaults d) (slice_index (with_defaults d).start n) xs < limit_of t) (sym e)
        (zip_read IsBelow (types_of d.instances) (with_defaults d).start n t h.starts typed)
    by (s ∷ []) e =
        subst (λ (xs : List Source). start_by (with_defaults d) (slice_index (with_defaults d).start n) xs < limit_of t) (sym e)
        (one s (subst (λ (xs : List Source). Contains xs s) (sym e) (Contains-first s [])))
    by (s ∷ r ∷ xs) e =
        let nine : HasType (types_of d.instances) nine_valued n = shared-nine d n h once fit (subst (λ (ys : List Source). 2 ≤ length ys) (sym e) (omega arith)) in
        let same : nine_valued ≡ t = same-type (types_of d.instances) n nine_valued t nine typed in
        let value : Source → ℕ = source_value (map starts (with_defaults d).processes) in
        subst (λ (ys : List Source). start_by (with_defaults d) (slice_index (with_defaults d).start n) ys < limit_of t) (sym e)
        (subst (λ (u : ElementType). core_resolve (map value (s ∷ r ∷ xs)) < limit_of u) same (code_of_below (resolved (map value_of_code (map value (s ∷ r ∷ xs))))))

-- ---- the whole

in-range : (d : Numbered) → SoFar d → HitOnce d → HasShape d → ProcessesFit d → IsWired (flat_net d) → IsInRange (flat_net d) × IsConnected (flat_net d)
unfolding flat_net
in-range d h once shape fit wired = (
  record {
    types_fit = fit.types;
    each_starts = shape.starts ∙ sym shape.types;
    each_has_idle = shape.idle ∙ sym shape.types;
    starts = λ n t typed.
        let l : n < d.nets = subst (λ m. n < m) h.count (slice_get_within (types_of d.instances) n t typed) in
        subst (λ v. v < limit_of t) (sym (start-at d n l)) (starts-keep d n t h once fit.processes wired.idle typed);
    idle = wired.idle;
    inputs_rise = wired.inputs_rise;
    inputs = wired.inputs;
    processes = fit.processes;
  },
  record {
    inputs_have_no_source = wired.inputs_have_no_source;
    nets_start = wired.nets_start;
    shared_are_resolved = λ n l. shared-nine d n h once fit.processes l;
  },
)

once-in : (units : Units) (top : Top) (design : Design) → IsTrue (are_sound units) → expanded_design units top ≡ Ok design → has_two_unresolved (numbered_design design) ≡ false → HitOnce (numbered_design design)
unfolding numbered_design
once-in units top design sound e two =
    let tree = each-tree-is-sound units top design sound e in
    let start : SoFar nothing_numbered = record { count = refl; bytes = All-nil IsByte; starts = tt; instances = All-nil (PlacedIsSound []); processes = All-nil (LocatedIsSound []) } in
    instance-once design.top [] above_top design.name nothing_numbered (design-fits units top design e) tree.top start tt
    (all-tame (numbered_design design).instances (none-two (elements (numbered_design design)) two)) (record { once = λ n c typed. absurd cc })

pub record Accepted (design : Design) (x : Elaborated) : Type 0 where
  pub limits : is_within_limits (counts (numbered_design design)) ≡ true
  pub no_two : has_two_unresolved (numbered_design design) ≡ false
  pub is : net_of (numbered_design design) ≡ x

pub accepted : (design : Design) (x : Elaborated) → netlist_of design ≡ Ok x → Accepted design x
unfolding netlist_of
accepted design x e =
    let d : Numbered = numbered_design design in
    let limits = bound (unless TooMany 0 (is_within_limits (counts d))) _ x e in
    let two = bound (resolves d) _ x limits.then_gave in
    let shared = bound (shares_unread d) _ x two.then_gave in
    record {
      limits = kept TooMany 0 (is_within_limits (counts d)) limits.x limits.gave;
      no_two = not-true (has_two_unresolved d) (kept TwoUnresolved (first_at is_two_unresolved (elements d)) (not (has_two_unresolved d)) two.x two.gave);
      is = ok (net_of d) x shared.then_gave;
    }

pub each-net-is-sound : EachNetIsSound
unfolding elaborated_net
each-net-is-sound units top x sound e =
    let design = bound (expanded_design units top) _ x e in
    let w = accepted design.x x design.then_gave in
    let d : Numbered = numbered_design design.x in
    subst (λ (y : Elaborated). IsInRange y.flat × IsConnected y.flat) w.is
    (in-range d (walked units top design.x sound design.gave) (once-in units top design.x sound design.gave w.no_two) (each-has-shape units top design.x design.gave)
    (each-process-fits units top design.x sound design.gave) (each-net-is-wired units top design.x sound design.gave))

pub each-net-is-within-limits : EachNetIsWithinLimits
unfolding elaborated_net
each-net-is-within-limits units top x e =
    let design = bound (expanded_design units top) _ x e in
    let w = accepted design.x x design.then_gave in
    let d : Numbered = numbered_design design.x in
    let shape = each-has-shape units top design.x design.gave in
    let a = and_parts (nat_le (length d.processes) most_processes) _ w.limits in
    let b = and_parts (nat_le (length d.instances) most_scopes) _ a.1 in
    let c = and_parts (nat_le d.nets most_nets) _ b.1 in
    subst IsWithinLimits w.is (record {
      nets = subst (λ n. n ≤ most_nets) (sym shape.types) (leb-true d.nets most_nets c.0);
      processes = subst (λ n. n ≤ most_processes) (sym shape.processes) (leb-true (length d.processes) most_processes a.0);
      scopes = subst (λ n. n ≤ most_scopes) (sym (length-map d.instances scope_of)) (leb-true (length d.instances) most_scopes b.0);
    })
