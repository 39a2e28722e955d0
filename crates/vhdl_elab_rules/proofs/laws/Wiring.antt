-- Idle ports, inputs, and what nets start with.
use Rattle.std.proofs.Common.{◌≡◌, ℕ, ◌+◌, ◌<◌, ◌≤◌, Bool, true, false, cond, not, ◌&&◌, ◌==◌, List, [], ◌∷◌, length, map, Some, All, refl, sym, ap, ◌∙◌, subst, arith, append-nil, ◌⊎◌, inl, inr}
use Rattle.std.specs.Prelude.{slice_get, slice_index, slice_index_or, filter, flat_map, Contains}
use Rattle.std.specs.List.{AllZip, range_with_len}
use Rattle.std.specs.List.Sorted.{IsStrictlyIncreasing}
use Rattle.std.proofs.lemmas.Bool.{eqb-true, and_parts, cases_lt}
use Rattle.std.proofs.lemmas.Option.{same_Some, slice_get_within}
use Rattle.std.proofs.lemmas.List.{get_or_past}
use Rattle.std.proofs.lemmas.List.Elements.{All-map, All-weaker, All-head, All-tail, All-filter, All-contains, filter_passes}
use Rattle.std.proofs.lemmas.List.FromFn.{length-map-range_with_len, get_or-map-range_with_len}
use Rattle.rtl_model.specs.bodies.Types.{ElementType, nine_valued, limit_of, HasType}
use Rattle.rtl_model.specs.nets.FlatNetlist.{FlatNetlist, FlatDriver, FlatProcess, no_flat_process, targets, starts, flat_sources, DriverInRange, ProcessInRange}
use Rattle.rtl_model.specs.nets.CoreNetlist.{core_resolve}
use Rattle.rtl_model.specs.simulation.Netlist.{Source, Driver, Idle}
use Rattle.rtl_model.specs.simulation.Cycle.{source_value}
use Rattle.rtl_model.proofs.basics.Lists.{Contains-none, Contains-first}
use Rattle.rtl_model.proofs.nets.Sources.{source_is_driver, source_is_idle}
use Rattle.vhdl_expand_rules.specs.Tree.{Role, input, output, Object, Instance, instance, objects_of}
use Rattle.vhdl_expand_rules.specs.Declarations as declared
use Rattle.vhdl_expand_rules.specs.laws.Lengths.{InstanceFits}
use Rattle.vhdl_expand_rules.specs.laws.Trees.{object_roles, is_port, MayBeDriven, InstanceIsSound}
use Rattle.vhdl_expand_rules.proofs.laws.Lengths.{design-fits}
use Rattle.vhdl_expand_rules.proofs.laws.Trees.{each-tree-is-sound}
use Rattle.vhdl_elab_rules.specs.Numbering.{Placed, Located, Numbered, nothing_numbered, above_top, placed_instance, with_placed, with_instance, numbered_design}
use Rattle.vhdl_elab_rules.specs.Wiring.{Element, elements_of, is_input, is_output, is_top, inputs_of, idle_elements, idle_values, flat_process, with_defaults, start_by, start_of, flat_net}
use Rattle.vhdl_elab_rules.specs.laws.Processes.{ProcessesFit}
use Rattle.vhdl_elab_rules.specs.laws.Wiring.{IsWired, EachNetIsWired}
use Rattle.vhdl_elab_rules.proofs.laws.Typed.{zip_read}
use Rattle.vhdl_elab_rules.proofs.laws.Walk.{types_of, PlacedIsSound, LocatedIsSound, SoFar}
use Rattle.vhdl_elab_rules.proofs.laws.Processes.{walked, each-process-fits, driver-targets}
use Rattle.vhdl_elab_rules.proofs.laws.Elements.{ElementIsSound, elements-sound, elements-roles, all-flat}
use Rattle.vhdl_elab_rules.proofs.laws.Inputs.{NoInput, Kept, KeepsInputs, KeptSoFar, NotJoined, RoleAt, roles-at, own-sizes-of, top-nets, top-keeps, tops, parts-inside}
use Rattle.vhdl_elab_rules.proofs.laws.Rising.{Rises, rises-run, rises-filter, rises-strictly, elements-nets}

-- ---- roles

port-of-input : (r : Role) → is_input r ≡ true → is_port r ≡ true
port-of-input input h = refl
port-of-input _ h = absurd cc

port-of-output : (r : Role) → is_output r ≡ true → is_port r ≡ true
port-of-output output h = refl
port-of-output _ h = absurd cc

output-is-driven : (r : Role) → is_output r ≡ true → declared.is_input r ≡ false
output-is-driven output h = refl
output-is-driven _ h = absurd cc

not-both : (r : Role) → is_input r ≡ true → declared.is_input r ≡ false → ⊥
not-both input h g = absurd cc
not-both _ h g = absurd cc

-- ---- idle ports

abbrev SoundElement : Numbered → Element → Type 0
SoundElement d e = ElementIsSound (types_of d.instances) e

elements-of : (d : Numbered) (f : Placed → Bool) → SoFar d → All (SoundElement d) (flat_map elements_of (filter f d.instances))
elements-of d f h =
    all-flat (SoundElement d) elements_of (filter f d.instances)
    (All-weaker (PlacedIsSound (types_of d.instances)) (λ p. All (SoundElement d) (elements_of p)) (elements-sound (types_of d.instances)) (filter f d.instances)
    (All-filter f (PlacedIsSound (types_of d.instances)) d.instances h.instances))

idle-sound : (d : Numbered) → SoFar d → All (SoundElement d) (idle_elements d)
idle-sound d h =
    let es : List Element = flat_map elements_of (filter (λ p. not (is_top p)) d.instances) in
    All-filter (λ (e : Element). is_output e.role && e.sources == 0) (SoundElement d) es (elements-of d (λ p. not (is_top p)) h)

same-type : (types : List ElementType) (n : ℕ) (s t : ElementType) → HasType types s n → HasType types t n → s ≡ t
same-type types n s t h g = same_Some s t (sym h ∙ g)

values-below : (types : List ElementType) (n : ℕ) (t : ElementType) (es : List Element) → HasType types t n → All (ElementIsSound types) es
    → All (λ v. v < limit_of t) (map (λ (e : Element). e.start) (filter (λ (e : Element). e.net == n) es))
values-below types n t es typed h =
    let some : List Element = filter (λ (e : Element). e.net == n) es in
    All-map (λ v. v < limit_of t) (λ (e : Element). e.start) some
    (λ k d l. below (slice_index_or some k d) (All-filter (λ (e : Element). e.net == n) (ElementIsSound types) es h k d l) (eqb-true (slice_index_or some k d).net n (filter_passes (λ (e : Element). e.net == n) es k d l)))
  where
    below : (e : Element) → ElementIsSound types e → e.net ≡ n → e.start < limit_of t
    below e s is = subst (λ (u : ElementType). e.start < limit_of u) (same-type types n e.type t (subst (HasType types e.type) is s.typed) typed) s.start

idle-at : (d : Numbered) (n : ℕ) → n < d.nets → slice_index_or (with_defaults d).idle n [] ≡ idle_values d n
idle-at d n l = get_or-map-range_with_len (idle_values d) 0 d.nets n n [] l (none n)
  where
    none : (n : ℕ) → 0 + n ≡ n
    none n = omega arith

is-there : (d : Numbered) (n : ℕ) (t : ElementType) → SoFar d → HasType (types_of d.instances) t n → n < d.nets
is-there d n t h typed = subst (λ m. n < m) h.count (slice_get_within (types_of d.instances) n t typed)

idle-below : (d : Numbered) (n : ℕ) (t : ElementType) → SoFar d → HasType (types_of d.instances) t n → All (λ v. v < limit_of t) (slice_index_or (with_defaults d).idle n [])
idle-below d n t h typed =
    subst (All (λ v. v < limit_of t)) (sym (idle-at d n (is-there d n t h typed))) (values-below (types_of d.instances) n t (idle_elements d) typed (idle-sound d h))

-- an idle port's net is of the nine values
nine-idle : (d : Numbered) → SoFar d → All (λ (e : Element). HasType (types_of d.instances) nine_valued e.net) (idle_elements d)
nine-idle d h k x l =
    let es : List Element = flat_map elements_of (filter (λ p. not (is_top p)) d.instances) in
    let f : Element → Bool = λ (e : Element). is_output e.role && e.sources == 0 in
    let e : Element = slice_index_or (idle_elements d) k x in
    let s : SoundElement d e = idle-sound d h k x l in
    let output : is_output e.role ≡ true = (and_parts (is_output e.role) (e.sources == 0) (filter_passes f es k x l)).0 in
    subst (λ (t : ElementType). HasType (types_of d.instances) t e.net) (s.ports_are_nine (port-of-output e.role output)) s.typed

-- ---- inputs

inputs-nine : (d : Numbered) → SoFar d → All (HasType (types_of d.instances) nine_valued) (inputs_of d)
inputs-nine d h =
    let types : List ElementType = types_of d.instances in
    let es : List Element = flat_map elements_of (filter is_top d.instances) in
    let some : List Element = filter (λ (e : Element). is_input e.role) es in
    All-map (HasType types nine_valued) (λ (e : Element). e.net) some
    (λ k x l. nine (slice_index_or some k x) (All-filter (λ (e : Element). is_input e.role) (SoundElement d) es (elements-of d is_top h) k x l) (filter_passes (λ (e : Element). is_input e.role) es k x l))
  where
    nine : (e : Element) → ElementIsSound (types_of d.instances) e → is_input e.role ≡ true → HasType (types_of d.instances) nine_valued e.net
    nine e s i = subst (λ (t : ElementType). HasType (types_of d.instances) t e.net) (s.ports_are_nine (port-of-input e.role i)) s.typed

-- the top, in its place
record Top (os : List Object) (d : Numbered) : Type 0 where
  placed : Placed
  alone : tops d ≡ placed ∷ []
  objects : placed.objects ≡ os
  nets : placed.nets ≡ range_with_len 0 (length (object_roles os))

inputs-of-top : (os : List Object) (d : Numbered) (t : Top os d) → inputs_of d ≡ map (λ (e : Element). e.net) (filter (λ (e : Element). is_input e.role) (elements_of t.placed))
inputs-of-top os d t =
    ap (λ (ps : List Placed). map (λ (e : Element). e.net) (filter (λ (e : Element). is_input e.role) (flat_map elements_of ps))) t.alone
    ∙ ap (λ (es : List Element). map (λ (e : Element). e.net) (filter (λ (e : Element). is_input e.role) es)) (append-nil (elements_of t.placed))

inputs-rise : (os : List Object) (d : Numbered) → Top os d → IsStrictlyIncreasing (inputs_of d)
inputs-rise os d t =
    let p : Placed = t.placed in
    let n : ℕ = length (object_roles os) in
    let nets : map (λ (e : Element). e.net) (elements_of p) ≡ range_with_len 0 n =
    elements-nets p.objects p n 0 t.nets (subst (λ (xs : List Object). 0 + length (object_roles xs) ≤ n) (sym t.objects) (omega arith)) ∙ ap (λ (xs : List Object). range_with_len 0 (length (object_roles xs))) t.objects in
    subst IsStrictlyIncreasing (sym (inputs-of-top os d t))
    (rises-strictly (map (λ (e : Element). e.net) (filter (λ (e : Element). is_input e.role) (elements_of p))) 0
    (rises-filter (λ (e : Element). is_input e.role) (elements_of p) 0 (subst (Rises 0) (sym nets) (rises-run n 0))))

-- an input is the net of an in port's element of the top
abbrev IsInput : List Role → ℕ → Type 0
IsInput roles n = (r : Role) × (slice_get roles n ≡ Some r) × (is_input r ≡ true)

inputs-are : (os : List Object) (d : Numbered) → Top os d → All (IsInput (object_roles os)) (inputs_of d)
inputs-are os d t =
    let roles : List Role = object_roles os in
    let p : Placed = t.placed in
    let zip : AllZip (RoleAt roles) (object_roles p.objects) p.nets =
    subst (λ (xs : List Object). AllZip (RoleAt roles) (object_roles xs) p.nets) (sym t.objects) (subst (AllZip (RoleAt roles) roles) (sym t.nets) (roles-at [] roles 0 refl)) in
    let es : List Element = elements_of p in
    let some : List Element = filter (λ (e : Element). is_input e.role) es in
    subst (All (IsInput roles)) (sym (inputs-of-top os d t))
    (All-map (IsInput roles) (λ (e : Element). e.net) some
    (λ k x l. ((slice_index_or some k x).role, All-filter (λ (e : Element). is_input e.role) (λ (e : Element). RoleAt roles e.role e.net) es (elements-roles (RoleAt roles) p zip) k x l, filter_passes (λ (e : Element). is_input e.role) es k x l)))

-- ---- sources

-- what holds of the nets of all drivers
driven-has : (P : ℕ → Type 0) (ps : List FlatProcess) (p place n : ℕ) → All (λ (q : FlatProcess). All P (targets q)) ps → place < length (targets (slice_index_or ps p no_flat_process))
    → slice_index (targets (slice_index_or ps p no_flat_process)) place ≡ n → P n
driven-has P ps p place n h l e = by (cases_lt p (length ps))
  where
    by : (p < length ps) ⊎ (length ps ≤ p) → P n
    by (inl there) = subst P e (h p no_flat_process there place 0 l)
    by (inr past) =
        let none : targets (slice_index_or ps p no_flat_process) ≡ [] = ap targets (get_or_past ps p no_flat_process past) in
        absurd (let k : place < 0 = subst (λ (ts : List ℕ). place < length ts) none l in omega (arith, k))

-- what holds of the nets of idle ports
idle-has : (P : ℕ → Type 0) (n v : ℕ) (es : List Element) → All (λ (e : Element). P e.net) es → Contains (map (λ (e : Element). e.start) (filter (λ (e : Element). e.net == n) es)) v → P n
idle-has P n v [] h c = absurd (Contains-none v c)
idle-has P n v (e ∷ es) h c = by (e.net == n) refl c (λ k. idle-has P n v es (All-tail (λ (x : Element). P x.net) e es h) k)
  where
    by : (t : Bool) → (e.net == n) ≡ t → Contains (map (λ (x : Element). x.start) (cond t (e ∷ filter (λ (x : Element). x.net == n) es) (filter (λ (x : Element). x.net == n) es))) v
        → (Contains (map (λ (x : Element). x.start) (filter (λ (x : Element). x.net == n) es)) v → P n) → P n
    by true s k go = subst P (eqb-true e.net n s) (All-head (λ (x : Element). P x.net) e es h)
    by false s k go = go k

-- what holds of each net that has a source
source-has : (P : ℕ → Type 0) (d : Numbered) (n : ℕ) (source : Source) → All (λ (q : FlatProcess). All P (targets q)) (with_defaults d).processes → All (λ (e : Element). P e.net) (idle_elements d)
    → Contains (flat_sources (with_defaults d) n) source → P n
source-has P d n (Driver p place) h g c =
    let w = source_is_driver (with_defaults d) n p place c in
    driven-has P (with_defaults d).processes p place n h w.0 w.1
source-has P d n (Idle v) h g c = by (cases_lt n d.nets) (source_is_idle (with_defaults d) n v c)
  where
    by : (n < d.nets) ⊎ (d.nets ≤ n) → Contains (slice_index_or (with_defaults d).idle n []) v → P n
    by (inl l) k = idle-has P n v (idle_elements d) g (subst (λ (vs : List ℕ). Contains vs v) (idle-at d n l) k)
    by (inr l) k =
        absurd (Contains-none v (subst (λ (vs : List ℕ). Contains vs v)
        (get_or_past (map (idle_values d) (range_with_len 0 d.nets)) n [] (subst (λ m. m ≤ n) (sym (length-map-range_with_len (idle_values d) 0 d.nets)) l)) k))

-- where an idle port holds a value, the net is of the nine values
pub idle-nine : (d : Numbered) → SoFar d → (n v : ℕ) → Contains (slice_index_or (with_defaults d).idle n []) v → HasType (types_of d.instances) nine_valued n
idle-nine d h n v c = by (cases_lt n d.nets) c
  where
    by : (n < d.nets) ⊎ (d.nets ≤ n) → Contains (slice_index_or (with_defaults d).idle n []) v → HasType (types_of d.instances) nine_valued n
    by (inl l) k = idle-has (HasType (types_of d.instances) nine_valued) n v (idle_elements d) (nine-idle d h) (subst (λ (vs : List ℕ). Contains vs v) (idle-at d n l) k)
    by (inr l) k =
        absurd (Contains-none v (subst (λ (vs : List ℕ). Contains vs v)
        (get_or_past (map (idle_values d) (range_with_len 0 d.nets)) n [] (subst (λ m. m ≤ n) (sym (length-map-range_with_len (idle_values d) 0 d.nets)) l)) k))

no-sources : (xs : List Source) → ((s : Source) → Contains xs s → ⊥) → xs ≡ []
no-sources [] h = refl
no-sources (s ∷ xs) h = absurd (h s (Contains-first s xs))

targets-keep : (roles : List Role) (count : ℕ) (types : List ElementType) (x : Located) → LocatedIsSound types x → KeepsInputs roles x.round → All (NoInput roles) (targets (flat_process count x))
targets-keep roles count types x h k =
    subst (All (NoInput roles)) (driver-targets x.round x.process.drives)
    (All-map (NoInput roles) (slice_index x.round.nets) x.process.drives
    (All-weaker (MayBeDriven x.round.objects) (λ e. NoInput roles (slice_index x.round.nets e)) (λ e m. zip_read (Kept roles) (object_roles x.round.objects) x.round.nets e m.0 k m.1 m.2) x.process.drives h.process.drives))

idle-keep : (roles : List Role) (d : Numbered) → KeptSoFar roles d → All (λ (e : Element). NoInput roles e.net) (idle_elements d)
idle-keep roles d h =
    let ps : List Placed = filter (λ p. not (is_top p)) d.instances in
    let es : List Element = flat_map elements_of ps in
    let kept : All (λ (e : Element). Kept roles e.role e.net) es =
    all-flat (λ (e : Element). Kept roles e.role e.net) elements_of ps
    (All-weaker (KeepsInputs roles) (λ p. All (λ (e : Element). Kept roles e.role e.net) (elements_of p)) (λ p k. elements-roles (Kept roles) p k) ps (All-filter (λ p. not (is_top p)) (KeepsInputs roles) d.instances h.instances)) in
    let f : Element → Bool = λ (e : Element). is_output e.role && e.sources == 0 in
    λ k x l. All-filter f (λ (e : Element). Kept roles e.role e.net) es kept k x l
    (output-is-driven (slice_index_or (filter f es) k x).role (and_parts (is_output (slice_index_or (filter f es) k x).role) ((slice_index_or (filter f es) k x).sources == 0) (filter_passes f es k x l)).0)

processes-keep : (roles : List Role) (d : Numbered) → SoFar d → KeptSoFar roles d → All (λ (q : FlatProcess). All (NoInput roles) (targets q)) (with_defaults d).processes
processes-keep roles d h k =
    All-map (λ (q : FlatProcess). All (NoInput roles) (targets q)) (flat_process d.nets) d.processes
    (λ j x l. targets-keep roles d.nets (types_of d.instances) (slice_index_or d.processes j x) (h.processes j x l) (k.processes j x l))

-- nothing drives an input
inputs-alone : (os : List Object) (d : Numbered) → SoFar d → KeptSoFar (object_roles os) d → Top os d → (n : ℕ) → Contains (inputs_of d) n → flat_sources (with_defaults d) n ≡ []
inputs-alone os d h k t n c =
    let roles : List Role = object_roles os in
    let is : IsInput roles n = All-contains (IsInput roles) (inputs_of d) n (inputs-are os d t) c in
    no-sources (flat_sources (with_defaults d) n) (λ s m.
    not-both is.0 is.2 (source-has (NoInput roles) d n s (processes-keep roles d h k) (idle-keep roles d k) m is.0 is.1))

-- ---- what nets start with

targets-there : (types : List ElementType) (q : FlatProcess) → ProcessInRange types q → All (λ n. n < length types) (targets q)
targets-there types q h =
    All-map (λ n. n < length types) (λ (x : FlatDriver). x.net) q.drivers (All-weaker (DriverInRange types) (λ (x : FlatDriver). x.net < length types) (λ x w. slice_get_within types x.net w.0 w.1) q.drivers h.drivers)

starts-by : (net : FlatNetlist) (default : ℕ) (xs : List Source) (s : Source) → Contains xs s → start_by net default xs ≡ core_resolve (map (source_value (map starts net.processes)) xs)
starts-by net default [] s h = absurd (Contains-none s h)
starts-by net default (x ∷ xs) s h = refl

pub source-there : (d : Numbered) → SoFar d → All (ProcessInRange (types_of d.instances)) (with_defaults d).processes → (n : ℕ) (source : Source) → Contains (flat_sources (with_defaults d) n) source → n < d.nets
source-there d h fit n source c =
    let types : List ElementType = types_of d.instances in
    subst (λ m. n < m) h.count
    (source-has (λ m. m < length types) d n source (All-weaker (ProcessInRange types) (λ (q : FlatProcess). All (λ m. m < length types) (targets q)) (targets-there types) (with_defaults d).processes fit)
    (All-weaker (SoundElement d) (λ (e : Element). e.net < length types) (λ e s. slice_get_within types e.net e.type s.typed) (idle_elements d) (idle-sound d h)) c)

pub start-at : (d : Numbered) (n : ℕ) → n < d.nets → slice_index (map (start_of (with_defaults d)) (range_with_len 0 d.nets)) n ≡ start_of (with_defaults d) n
start-at d n l = get_or-map-range_with_len (start_of (with_defaults d)) 0 d.nets n n 0 l (none n)
  where
    none : (n : ℕ) → 0 + n ≡ n
    none n = omega arith

is-wired : (os : List Object) (d : Numbered) → SoFar d → KeptSoFar (object_roles os) d → Top os d → ProcessesFit d → IsWired (flat_net d)
unfolding flat_net
is-wired os d h k t fit = record {
  idle = λ n ty typed. idle-below d n ty h typed;
  inputs_rise = inputs-rise os d t;
  inputs = inputs-nine d h;
  inputs_have_no_source = λ n c. inputs-alone os d h k t n c;
  nets_start = λ n source c.
      start-at d n (source-there d h fit.processes n source c) ∙ starts-by (with_defaults d) (slice_index (with_defaults d).start n) (flat_sources (with_defaults d) n) source c;
}

-- ---- the whole

top-in : (i : Instance) (name : List ℕ) → InstanceFits i → All NotJoined (objects_of i) → Top (objects_of i) (with_instance above_top name i nothing_numbered)
top-in (instance os turns parts) name fit alone =
    let p : Placed = placed_instance above_top name 0 (instance os turns parts) in
    record {
      placed = p;
      alone = parts-inside parts 0 p (with_placed p nothing_numbered);
      objects = refl;
      nets = top-nets os [] 0 alone ∙ ap (range_with_len 0) (own-sizes-of os alone);
    }

kept-in : (i : Instance) (name : List ℕ) → InstanceFits i → InstanceIsSound [] i → All NotJoined (objects_of i) → KeptSoFar (object_roles (objects_of i)) (with_instance above_top name i nothing_numbered)
kept-in (instance os turns parts) name fit sound alone = top-keeps os above_top name turns parts nothing_numbered refl refl refl alone fit.0 fit.1 sound.1

pub each-net-is-wired : EachNetIsWired
unfolding numbered_design
each-net-is-wired units top design sound e =
    let tree = each-tree-is-sound units top design sound e in
    let fits = design-fits units top design e in
    is-wired (objects_of design.top) (numbered_design design) (walked units top design sound e) (kept-in design.top design.name fits tree.top tree.not_joined) (top-in design.top design.name fits tree.not_joined) (each-process-fits units top design sound e)
