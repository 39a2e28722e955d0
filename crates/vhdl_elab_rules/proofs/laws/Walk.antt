-- What holds of the instances and processes that have numbers, as the tree is gone through in order of the text.
use Rattle.std.proofs.Common.{◌≡◌, ℕ, ◌+◌, Bool, List, [], ◌∷◌, ◌++◌, length, map, All, sym, ap, ◌∙◌, subst, append_assoc, append-nil}
use Rattle.std.specs.Prelude.{filter, flat_map}
use Rattle.std.specs.List.{AllZip}
use Rattle.std.proofs.lemmas.List.{length-append, map-append}
use Rattle.std.proofs.lemmas.List.Elements.{All-cons, All-nil, All-append, All-weaker, filter-append}
use Rattle.std.proofs.lemmas.Grind.{flat_map-append}
use Rattle.rtl_model.specs.bodies.Types.{ElementType, IsByte, HasType}
use Rattle.vhdl_expand_rules.specs.Tree.{Object, Process, Instance, instance, Parts, no_parts, process, inner}
use Rattle.vhdl_expand_rules.specs.laws.Lengths.{ObjectFits, InstanceFits, PartsFit}
use Rattle.vhdl_expand_rules.specs.laws.Trees.{object_types, ObjectIsSound, ProcessIsSound, InstanceIsSound, PartsAreSound}
use Rattle.vhdl_elab_rules.specs.Numbering.{Placed, Located, Numbered, Above, above_parts, placed_instance, with_process, with_placed, with_instance, with_parts}
use Rattle.vhdl_elab_rules.specs.Wiring.{Element, elements_of}
use Rattle.vhdl_elab_rules.proofs.laws.Typed.{zip_append, IsBelow, own_types, own_starts, length-own_types, own-types-from, own-starts-from, types-bytes, starts-below, more-types, nets-typed}

abbrev own : Element → Bool
own e = e.is_own

-- the types and defaults of the nets that these instances have of their own
abbrev pub types_of : List Placed → List ElementType
types_of ps = map (λ (e : Element). e.type) (filter own (flat_map elements_of ps))

abbrev pub starts_of : List Placed → List ℕ
starts_of ps = map (λ (e : Element). e.start) (filter own (flat_map elements_of ps))

-- a field of own elements, where an instance is added
field-more : {A : Type 0} (f : Element → A) (ps : List Placed) (p : Placed) → map f (filter own (flat_map elements_of (ps ++ p ∷ []))) ≡ map f (filter own (flat_map elements_of ps)) ++ map f (filter own (elements_of p))
field-more {A} f ps p =
    ap (λ (es : List Element). map f (filter own es)) (flat_map-append elements_of ps (p ∷ []) ∙ ap (λ (es : List Element). flat_map elements_of ps ++ es) (append-nil (elements_of p)))
    ∙ ap (map f) (filter-append own (flat_map elements_of ps) (elements_of p)) ∙ map-append f (filter own (flat_map elements_of ps)) (filter own (elements_of p))

-- an instance that is sound in what it stands in, and whose elements have nets of their types
pub record PlacedIsSound (types : List ElementType) (p : Placed) : Type 0 where
  pub outer : List Object
  pub sound : All (ObjectIsSound outer) p.objects
  pub fits : All ObjectFits p.objects
  pub nets : AllZip (HasType types) (object_types p.objects) p.nets

pub record LocatedIsSound (types : List ElementType) (x : Located) : Type 0 where
  pub round : PlacedIsSound types x.round
  pub process : ProcessIsSound x.round.objects x.process

pub record SoFar (d : Numbered) : Type 0 where
  pub count : length (types_of d.instances) ≡ d.nets
  pub bytes : All IsByte (types_of d.instances)
  pub starts : AllZip IsBelow (types_of d.instances) (starts_of d.instances)
  pub instances : All (PlacedIsSound (types_of d.instances)) d.instances
  pub processes : All (LocatedIsSound (types_of d.instances)) d.processes

more-placed : (types more : List ElementType) (p : Placed) → PlacedIsSound types p → PlacedIsSound (types ++ more) p
more-placed types more p h = record { outer = h.outer; sound = h.sound; fits = h.fits; nets = more-types types more (object_types p.objects) p.nets h.nets }

more-located : (types more : List ElementType) (x : Located) → LocatedIsSound types x → LocatedIsSound (types ++ more) x
more-located types more x h = record { round = more-placed types more x.round h.round; process = h.process }

-- so far, and with the types of nets that there were
pub record Step (before : List ElementType) (d : Numbered) : Type 0 where
  pub so_far : SoFar d
  pub more : List ElementType
  pub grown : types_of d.instances ≡ before ++ more

then-step : (before between : List ElementType) (more : List ElementType) (d : Numbered) → between ≡ before ++ more → Step between d → Step before d
then-step before between more d e s = record { so_far = s.so_far; more = more ++ s.more; grown = s.grown ∙ ap (λ (ts : List ElementType). ts ++ s.more) e ∙ append_assoc before more s.more }

-- ---- an instance is placed

pub place-step : (os outer : List Object) (a : Above) (label : List ℕ) (turns : ℕ) (parts : Parts) (d : Numbered) → All (ObjectIsSound outer) os → All ObjectFits os → SoFar d
    → AllZip (HasType (types_of d.instances)) (object_types outer) a.nets → Step (types_of d.instances) (with_placed (placed_instance a label d.nets (instance os turns parts)) d)
place-step os outer a label turns parts d h fit so_far z = record {
  so_far = record {
    count = ap length grown ∙ length-append types (own_types os) ∙ ap (λ n. n + length (own_types os)) so_far.count ∙ ap (λ n. d.nets + n) (length-own_types os);
    bytes = subst (All IsByte) (sym grown) (All-append IsByte types (own_types os) so_far.bytes (types-bytes outer os h));
    starts = subst (λ (ts : List ElementType). AllZip IsBelow ts (starts_of (d.instances ++ p ∷ []))) (sym grown)
        (subst (AllZip IsBelow (types ++ own_types os)) (sym starts) (zip_append IsBelow types (starts_of d.instances) (own_types os) (own_starts os) so_far.starts (starts-below outer os h fit)));
    instances = subst (λ (ts : List ElementType). All (PlacedIsSound ts) (d.instances ++ p ∷ [])) (sym grown)
        (All-append (PlacedIsSound (types ++ own_types os)) d.instances (p ∷ []) (All-weaker (PlacedIsSound types) (PlacedIsSound (types ++ own_types os)) (more-placed types (own_types os)) d.instances so_far.instances)
        (All-cons (PlacedIsSound (types ++ own_types os)) p [] is (All-nil (PlacedIsSound (types ++ own_types os)))));
    processes = subst (λ (ts : List ElementType). All (LocatedIsSound ts) d.processes) (sym grown)
        (All-weaker (LocatedIsSound types) (LocatedIsSound (types ++ own_types os)) (more-located types (own_types os)) d.processes so_far.processes);
  };
  more = own_types os;
  grown = grown;
}
  where
    p : Placed
    p = placed_instance a label d.nets (instance os turns parts)

    types : List ElementType
    types = types_of d.instances

    grown : types_of (d.instances ++ p ∷ []) ≡ types ++ own_types os
    grown = field-more (λ (e : Element). e.type) d.instances p ∙ ap (λ (ts : List ElementType). types ++ ts) (own-types-from os p 0)

    starts : starts_of (d.instances ++ p ∷ []) ≡ starts_of d.instances ++ own_starts os
    starts = field-more (λ (e : Element). e.start) d.instances p ∙ ap (λ (ts : List ℕ). starts_of d.instances ++ ts) (own-starts-from os p 0 fit)

    is : PlacedIsSound (types ++ own_types os) p
    is = record { outer = outer; sound = h; fits = fit; nets = nets-typed os outer a.nets types d.nets h fit z so_far.count }

-- the instance that was placed last
pub last-is : (os outer : List Object) (a : Above) (label : List ℕ) (turns : ℕ) (parts : Parts) (d : Numbered) → All (ObjectIsSound outer) os → All ObjectFits os → SoFar d
    → AllZip (HasType (types_of d.instances)) (object_types outer) a.nets
    → PlacedIsSound (types_of (d.instances ++ placed_instance a label d.nets (instance os turns parts) ∷ [])) (placed_instance a label d.nets (instance os turns parts))
last-is os outer a label turns parts d h fit so_far z =
    let p : Placed = placed_instance a label d.nets (instance os turns parts) in
    let types : List ElementType = types_of d.instances in
    let grown : types_of (d.instances ++ p ∷ []) ≡ types ++ own_types os = field-more (λ (e : Element). e.type) d.instances p ∙ ap (λ (ts : List ElementType). types ++ ts) (own-types-from os p 0) in
    subst (λ (ts : List ElementType). PlacedIsSound ts p) (sym grown) (record { outer = outer; sound = h; fits = fit; nets = nets-typed os outer a.nets types d.nets h fit z so_far.count })

-- ---- a process is located

pub process-step : (number : ℕ) (round : Placed) (q : Process) (d : Numbered) → SoFar d → PlacedIsSound (types_of d.instances) round → ProcessIsSound round.objects q → SoFar (with_process number round q d)
process-step number round q d so_far h k = record {
  count = so_far.count;
  bytes = so_far.bytes;
  starts = so_far.starts;
  instances = so_far.instances;
  processes =
      let x : Located = record { scope = number; round = round; process = q } in
      All-append (LocatedIsSound (types_of d.instances)) d.processes (x ∷ []) so_far.processes
      (All-cons (LocatedIsSound (types_of d.instances)) x [] (record { round = h; process = k }) (All-nil (LocatedIsSound (types_of d.instances))));
}

pub still-placed : (before after more : List ElementType) (p : Placed) → after ≡ before ++ more → PlacedIsSound before p → PlacedIsSound after p
still-placed before after more p e h = subst (λ (ts : List ElementType). PlacedIsSound ts p) (sym e) (more-placed before more p h)

-- ---- the tree

mutual
  pub instance-walks : (i : Instance) (outer : List Object) (a : Above) (label : List ℕ) (d : Numbered) → InstanceFits i → InstanceIsSound outer i → SoFar d
      → AllZip (HasType (types_of d.instances)) (object_types outer) a.nets → Step (types_of d.instances) (with_instance a label i d)
  instance-walks (instance os turns parts) outer a label d fit sound so_far z =
      let p : Placed = placed_instance a label d.nets (instance os turns parts) in
      let first = place-step os outer a label turns parts d sound.0 fit.0 so_far z in
      then-step (types_of d.instances) (types_of (d.instances ++ p ∷ [])) first.more (with_instance a label (instance os turns parts) d) first.grown
      (parts-walk parts (length d.instances) p (with_placed p d) fit.1 sound.1 first.so_far (last-is os outer a label turns parts d sound.0 fit.0 so_far z))

  pub parts-walk : (ps : Parts) (number : ℕ) (round : Placed) (d : Numbered) → PartsFit ps → PartsAreSound round.objects ps → SoFar d → PlacedIsSound (types_of d.instances) round
      → Step (types_of d.instances) (with_parts number round ps d)
  parts-walk no_parts number round d fit sound so_far h = record { so_far = so_far; more = []; grown = sym (append-nil (types_of d.instances)) }
  parts-walk (process q rest) number round d fit sound so_far h = parts-walk rest number round (with_process number round q d) fit sound.1 (process-step number round q d so_far h sound.0) h
  parts-walk (inner label i rest) number round d fit sound so_far h =
      let e : Numbered = with_instance (above_parts number round) label i d in
      let first = instance-walks i round.objects (above_parts number round) label d fit.0 sound.0 so_far h.nets in
      then-step (types_of d.instances) (types_of e.instances) first.more (with_parts number round (inner label i rest) d) first.grown
      (parts-walk rest number round e fit.1 sound.1 first.so_far (still-placed (types_of d.instances) (types_of e.instances) first.more round first.grown h))
