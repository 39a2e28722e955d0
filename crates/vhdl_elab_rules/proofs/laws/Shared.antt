-- A net of an enumeration has one driver at most: going through the tree in order of the text.
use Rattle.std.proofs.Common.{◌≡◌, ℕ, suc, ◌+◌, ◌<◌, ◌≤◌, Bool, true, false, cond, ◌==◌, List, [], ◌∷◌, ◌++◌, length, map, Some, All, refl, sym, ap, ◌∙◌, subst, arith, ◌⊎◌, inl, inr}
use Rattle.std.specs.Prelude.{slice_get, slice_index}
use Rattle.std.specs.List.{AllZip}
use Rattle.std.proofs.lemmas.Bool.{cases_lt}
use Rattle.std.proofs.lemmas.Option.{same_Some, slice_get_within}
use Rattle.std.proofs.lemmas.List.{length-append}
use Rattle.std.proofs.lemmas.List.Elements.{All-head, All-tail}
use Rattle.rtl_model.specs.bodies.Types.{ElementType, enumeration, HasType}
use Rattle.rtl_model.specs.nets.FlatNetlist.{targets, drivers_of, all_drivers_of}
use Rattle.rtl_model.specs.simulation.Netlist.{Source, Driver}
use Rattle.vhdl_expand_rules.specs.Tree.{Object, Instance, instance, Parts, no_parts, process, inner}
use Rattle.vhdl_expand_rules.specs.laws.Lengths.{ObjectFits, InstanceFits, PartsFit}
use Rattle.vhdl_expand_rules.specs.laws.Trees.{object_types, MayBeDriven, ObjectIsSound, InstanceIsSound, PartsAreSound}
use Rattle.vhdl_expand_rules.proofs.laws.Names.{get-before}
use Rattle.vhdl_expand_rules.proofs.laws.Targets.{all_left, all_right}
use Rattle.vhdl_elab_rules.specs.Numbering.{Placed, Located, Numbered, Above, above_parts, placed_instance, with_process, with_placed, with_instance, with_parts}
use Rattle.vhdl_elab_rules.specs.Wiring.{flat_process}
use Rattle.vhdl_elab_rules.proofs.Segments.{get-left}
use Rattle.vhdl_elab_rules.proofs.laws.Growing.{Grown, parts_grow}
use Rattle.vhdl_elab_rules.proofs.laws.Typed.{zip_lengths, zip_read}
use Rattle.vhdl_elab_rules.proofs.laws.Walk.{types_of, PlacedIsSound, LocatedIsSound, SoFar, place-step, last-is, process-step, still-placed, instance-walks}
use Rattle.vhdl_elab_rules.proofs.laws.Processes.{driver-targets, driven-type}
use Rattle.vhdl_elab_rules.proofs.laws.Elements.{elements-sound}
use Rattle.vhdl_elab_rules.proofs.laws.States.{StatesRise, state-above, states-rise, hits, level_hits, no-hits, level-none, Tame, unshared}

-- ---- all hits of a net

abbrev pub all_hits : (n : ℕ) → List Located → ℕ
all_hits n [] = 0
all_hits n (x ∷ xs) = hits n x.round.nets x.process.drives + all_hits n xs

hits-more : (n : ℕ) (xs : List Located) (x : Located) → all_hits n (xs ++ x ∷ []) ≡ all_hits n xs + hits n x.round.nets x.process.drives
hits-more n [] x = swap (hits n x.round.nets x.process.drives)
  where
    swap : (m : ℕ) → m + 0 ≡ 0 + m
    swap m = omega arith
hits-more n (y ∷ xs) x = ap (λ m. hits n y.round.nets y.process.drives + m) (hits-more n xs x) ∙ assoc (hits n y.round.nets y.process.drives) (all_hits n xs) (hits n x.round.nets x.process.drives)
  where
    assoc : (a b c : ℕ) → a + (b + c) ≡ a + b + c
    assoc a b c = omega arith

length-drivers : (n p k : ℕ) (nets drives : List ℕ) → length (drivers_of n p k (map (slice_index nets) drives)) ≡ hits n nets drives
length-drivers n p k nets [] = refl
length-drivers n p k nets (e ∷ es) = by (slice_index nets e == n) (length-drivers n p (suc k) nets es)
  where
    rest : List Source
    rest = drivers_of n p (suc k) (map (slice_index nets) es)

    by : (t : Bool) → length rest ≡ hits n nets es → length (cond t (Driver p k ∷ rest) rest) ≡ cond t 1 0 + hits n nets es
    by true l = omega (arith, l)
    by false l = omega (arith, l)

pub length-all : (n p count : ℕ) (xs : List Located) → length (all_drivers_of n p (map (flat_process count) xs)) ≡ all_hits n xs
length-all n p count [] = refl
length-all n p count (x ∷ xs) =
    length-append (drivers_of n p 0 (targets (flat_process count x))) (all_drivers_of n (suc p) (map (flat_process count) xs))
    ∙ ap (λ (ts : List ℕ). length (drivers_of n p 0 ts) + length (all_drivers_of n (suc p) (map (flat_process count) xs))) (sym (driver-targets x.round x.process.drives))
    ∙ ap (λ m. m + length (all_drivers_of n (suc p) (map (flat_process count) xs))) (length-drivers n p 0 x.round.nets x.process.drives)
    ∙ ap (λ m. hits n x.round.nets x.process.drives + m) (length-all n (suc p) count xs)

-- ---- nets that nothing hits

-- a driven element's net is there
net-there : (types : List ElementType) (p : Placed) (e n : ℕ) → PlacedIsSound types p → length types ≤ n → MayBeDriven p.objects e → slice_index p.nets e ≡ n → ⊥
net-there types p e n h l m same =
    let t = driven-type p.objects e m in
    let k : slice_index p.nets e < length types = slice_get_within types (slice_index p.nets e) t.0 (zip_read (HasType types) (object_types p.objects) p.nets e t.0 h.nets t.1) in
    omega (arith, k, l, same)

-- a later instance's own nets are not before it
net-own : (types : List ElementType) (p : Placed) (first e n c : ℕ) → PlacedIsSound types p → StatesRise first (object_types p.objects) p.nets → n < first → HasType types (enumeration c) n → MayBeDriven p.objects e
    → slice_index p.nets e ≡ n → ⊥
net-own types p first e n c h rise l typed m same =
    let t = driven-type p.objects e m in
    let k : HasType types t.0 n = subst (HasType types t.0) same (zip_read (HasType types) (object_types p.objects) p.nets e t.0 h.nets t.1) in
    let state : slice_get (object_types p.objects) e ≡ Some (enumeration c) = t.1 ∙ ap Some (same_Some t.0 (enumeration c) (sym k ∙ typed)) in
    let above : first ≤ slice_index p.nets e = state-above (object_types p.objects) p.nets first e c (zip_lengths (HasType types) (object_types p.objects) p.nets h.nets) rise state in
    omega (arith, above, l, same)

all-none : (types : List ElementType) (n : ℕ) (xs : List Located) → All (LocatedIsSound types) xs → length types ≤ n → all_hits n xs ≡ 0
all-none types n [] h l = refl
all-none types n (x ∷ xs) h l =
    let w = All-head (LocatedIsSound types) x xs h in
    ap (λ m. m + all_hits n xs) (no-hits n x.round.nets x.process.drives (λ k d b. net-there types x.round _ n w.round l (w.process.drives k d b))) ∙ ap (λ m. 0 + m) (all-none types n xs (All-tail (LocatedIsSound types) x xs h) l)

-- ---- instances that there were

earlier-tame : (before after : List Placed) → Grown before after → All Tame after → All Tame before
earlier-tame before after g h = all_left Tame before g.more (subst (All Tame) g.is h)

-- ---- hits of nets that there were

typed-still : (before after more : List ElementType) (n c : ℕ) → after ≡ before ++ more → HasType before (enumeration c) n → HasType after (enumeration c) n
typed-still before after more n c e h = ap (λ (ts : List ElementType). slice_get ts n) e ∙ get-before before more n (enumeration c) h

is-before : (d : Numbered) (n c : ℕ) → SoFar d → HasType (types_of d.instances) (enumeration c) n → n < d.nets
is-before d n c h typed = subst (λ m. n < m) h.count (slice_get_within (types_of d.instances) n (enumeration c) typed)

plus-assoc : (a b c : ℕ) → a + b + c ≡ a + (b + c)
plus-assoc a b c = omega arith

plus-none : (a : ℕ) → a + 0 ≡ a
plus-none a = omega arith

mutual
  instance-old : (i : Instance) (outer : List Object) (a : Above) (label : List ℕ) (d : Numbered) (n c : ℕ) → InstanceFits i → InstanceIsSound outer i → SoFar d → AllZip (HasType (types_of d.instances)) (object_types outer) a.nets
      → HasType (types_of d.instances) (enumeration c) n → all_hits n (with_instance a label i d).processes ≡ all_hits n d.processes
  instance-old (instance os turns parts) outer a label d n c fit sound so_far z typed =
      let p : Placed = placed_instance a label d.nets (instance os turns parts) in
      let first = place-step os outer a label turns parts d sound.0 fit.0 so_far z in
      let is = last-is os outer a label turns parts d sound.0 fit.0 so_far z in
      let still : HasType (types_of (d.instances ++ p ∷ [])) (enumeration c) n = typed-still (types_of d.instances) (types_of (d.instances ++ p ∷ [])) first.more n c first.grown typed in
      parts-old parts (length d.instances) p (with_placed p d) n c fit.1 sound.1 first.so_far is still
      ∙ ap (λ m. all_hits n d.processes + m) (level-none n p parts sound.1 (λ e m s.
      net-own (types_of (d.instances ++ p ∷ [])) p d.nets e n c is (states-rise os outer a.nets d.nets sound.0 fit.0) (is-before d n c so_far typed) still m s))
      ∙ plus-none (all_hits n d.processes)

  parts-old : (ps : Parts) (number : ℕ) (round : Placed) (d : Numbered) (n c : ℕ) → PartsFit ps → PartsAreSound round.objects ps → SoFar d → PlacedIsSound (types_of d.instances) round
      → HasType (types_of d.instances) (enumeration c) n → all_hits n (with_parts number round ps d).processes ≡ all_hits n d.processes + level_hits n round ps
  parts-old no_parts number round d n c fit sound so_far h typed = sym (plus-none (all_hits n d.processes))
  parts-old (process q rest) number round d n c fit sound so_far h typed =
      parts-old rest number round (with_process number round q d) n c fit sound.1 (process-step number round q d so_far h sound.0) h typed
      ∙ ap (λ m. m + level_hits n round rest) (hits-more n d.processes (record { scope = number; round = round; process = q })) ∙ plus-assoc (all_hits n d.processes) (hits n round.nets q.drives) (level_hits n round rest)
  parts-old (inner label i rest) number round d n c fit sound so_far h typed =
      let e : Numbered = with_instance (above_parts number round) label i d in
      let first = instance-walks i round.objects (above_parts number round) label d fit.0 sound.0 so_far h.nets in
      parts-old rest number round e n c fit.1 sound.1 first.so_far (still-placed (types_of d.instances) (types_of e.instances) first.more round first.grown h)
      (typed-still (types_of d.instances) (types_of e.instances) first.more n c first.grown typed)
      ∙ ap (λ m. m + level_hits n round rest) (instance-old i round.objects (above_parts number round) label d n c fit.0 sound.0 so_far h.nets typed)

-- ---- one hit at most

pub record HitOnce (d : Numbered) : Type 0 where
  pub once : (n c : ℕ) → HasType (types_of d.instances) (enumeration c) n → all_hits n d.processes ≤ 1

-- and still once with the processes of an instance that are left
abbrev OnceWith : Numbered → Placed → Parts → Type 0
OnceWith d round ps = (n c : ℕ) → HasType (types_of d.instances) (enumeration c) n → all_hits n d.processes + level_hits n round ps ≤ 1

typed-before : (before after more : List ElementType) (n c : ℕ) → after ≡ before ++ more → n < length before → HasType after (enumeration c) n → HasType before (enumeration c) n
typed-before before after more n c e l h = sym (get-left before more n l) ∙ ap (λ (ts : List ElementType). slice_get ts n) (sym e) ∙ h

-- the instance that was placed last is tame
last-tame : (xs : List Placed) (p : Placed) → All Tame (xs ++ p ∷ []) → Tame p
last-tame xs p h = All-head Tame p [] (all_right Tame xs (p ∷ []) h)

begun-once : (os outer : List Object) (a : Above) (label : List ℕ) (turns : ℕ) (parts : Parts) (d : Numbered) → All (ObjectIsSound outer) os → All ObjectFits os → PartsAreSound os parts → SoFar d
    → AllZip (HasType (types_of d.instances)) (object_types outer) a.nets → Tame (placed_instance a label d.nets (instance os turns parts)) → HitOnce d
    → OnceWith (with_placed (placed_instance a label d.nets (instance os turns parts)) d) (placed_instance a label d.nets (instance os turns parts)) parts
begun-once os outer a label turns parts d objects fit sound so_far z tame once n c typed = by (cases_lt n (length types))
  where
    p : Placed
    p = placed_instance a label d.nets (instance os turns parts)

    types : List ElementType
    types = types_of d.instances

    after : List ElementType
    after = types_of (d.instances ++ p ∷ [])

    is : PlacedIsSound after p
    is = last-is os outer a label turns parts d objects fit so_far z

    rise : StatesRise d.nets (object_types os) p.nets
    rise = states-rise os outer a.nets d.nets objects fit

    by : (n < length types) ⊎ (length types ≤ n) → all_hits n d.processes + level_hits n p parts ≤ 1
    by (inl l) =
        let first = place-step os outer a label turns parts d objects fit so_far z in
        let old : HasType types (enumeration c) n = typed-before types after first.more n c first.grown l typed in
        let few : all_hits n d.processes ≤ 1 = once.once n c old in
        let none : level_hits n p parts ≡ 0 = level-none n p parts sound (λ e m s. net-own after p d.nets e n c is rise (is-before d n c so_far old) typed m s) in
        omega (arith, few, none)
    by (inr l) =
        let none : all_hits n d.processes ≡ 0 = all-none types n d.processes so_far.processes l in
        let few : level_hits n p parts ≤ 1 = unshared after p parts d.nets n c is rise (elements-sound after p is) tame refl sound typed in
        omega (arith, few, none)

rest-once : (i : Instance) (number : ℕ) (round : Placed) (label : List ℕ) (rest : Parts) (d : Numbered) → InstanceFits i → InstanceIsSound round.objects i → PartsAreSound round.objects rest → SoFar d
    → PlacedIsSound (types_of d.instances) round → OnceWith d round (inner label i rest) → HitOnce (with_instance (above_parts number round) label i d)
    → OnceWith (with_instance (above_parts number round) label i d) round rest
rest-once i number round label rest d fit inside sound so_far h once after n c typed = by (cases_lt n (length types))
  where
    e : Numbered
    e = with_instance (above_parts number round) label i d

    types : List ElementType
    types = types_of d.instances

    by : (n < length types) ⊎ (length types ≤ n) → all_hits n e.processes + level_hits n round rest ≤ 1
    by (inl l) =
        let first = instance-walks i round.objects (above_parts number round) label d fit inside so_far h.nets in
        let old : HasType types (enumeration c) n = typed-before types (types_of e.instances) first.more n c first.grown l typed in
        let same : all_hits n e.processes ≡ all_hits n d.processes = instance-old i round.objects (above_parts number round) label d n c fit inside so_far h.nets old in
        let few : all_hits n d.processes + level_hits n round rest ≤ 1 = once n c old in
        omega (arith, same, few)
    by (inr l) =
        let none : level_hits n round rest ≡ 0 = level-none n round rest sound (λ f m s. net-there types round f n h l m s) in
        let few : all_hits n e.processes ≤ 1 = after.once n c typed in
        omega (arith, none, few)

mutual
  pub instance-once : (i : Instance) (outer : List Object) (a : Above) (label : List ℕ) (d : Numbered) → InstanceFits i → InstanceIsSound outer i → SoFar d
      → AllZip (HasType (types_of d.instances)) (object_types outer) a.nets → All Tame (with_instance a label i d).instances → HitOnce d → HitOnce (with_instance a label i d)
  instance-once (instance os turns parts) outer a label d fit sound so_far z tame once =
      let p : Placed = placed_instance a label d.nets (instance os turns parts) in
      let first = place-step os outer a label turns parts d sound.0 fit.0 so_far z in
      let mine : All Tame (d.instances ++ p ∷ []) =
      earlier-tame (d.instances ++ p ∷ []) (with_parts (length d.instances) p parts (with_placed p d)).instances (parts_grow parts (length d.instances) p (with_placed p d)) tame in
      parts-once parts (length d.instances) p (with_placed p d) fit.1 sound.1 first.so_far (last-is os outer a label turns parts d sound.0 fit.0 so_far z) tame
      (begun-once os outer a label turns parts d sound.0 fit.0 sound.1 so_far z (last-tame d.instances p mine) once)

  parts-once : (ps : Parts) (number : ℕ) (round : Placed) (d : Numbered) → PartsFit ps → PartsAreSound round.objects ps → SoFar d → PlacedIsSound (types_of d.instances) round
      → All Tame (with_parts number round ps d).instances → OnceWith d round ps → HitOnce (with_parts number round ps d)
  parts-once no_parts number round d fit sound so_far h tame once = record { once = λ n c typed. let few : all_hits n d.processes + 0 ≤ 1 = once n c typed in omega (arith, few) }
  parts-once (process q rest) number round d fit sound so_far h tame once =
      parts-once rest number round (with_process number round q d) fit sound.1 (process-step number round q d so_far h sound.0) h tame
      (λ n c typed. let few : all_hits n d.processes + (hits n round.nets q.drives + level_hits n round rest) ≤ 1 = once n c typed in
      let more = hits-more n d.processes (record { scope = number; round = round; process = q }) in
      omega (arith, few, more))
  parts-once (inner label i rest) number round d fit sound so_far h tame once =
      let e : Numbered = with_instance (above_parts number round) label i d in
      let first = instance-walks i round.objects (above_parts number round) label d fit.0 sound.0 so_far h.nets in
      let mine : All Tame e.instances = earlier-tame e.instances (with_parts number round rest e).instances (parts_grow rest number round e) tame in
      let inside = instance-once i round.objects (above_parts number round) label d fit.0 sound.0 so_far h.nets mine
      (record { once = λ n c typed. let few : all_hits n d.processes + level_hits n round rest ≤ 1 = once n c typed in omega (arith, few) }) in
      parts-once rest number round e fit.1 sound.1 first.so_far (still-placed (types_of d.instances) (types_of e.instances) first.more round first.grown h) tame
      (rest-once i number round label rest d fit.0 sound.0 sound.1 so_far h once inside)
