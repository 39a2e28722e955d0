-- Instances in their places: what is known of each one by those before it, and by how many nets there were when it was placed.
use Rattle.std.proofs.Common.{◌≡◌, ℕ, zero, suc, ◌+◌, ◌<◌, ◌≤◌, List, [], ◌∷◌, ◌++◌, length, replicate, Option, Some, None, All, refl, sym, ap, ◌∙◌, subst, arith, codes, append_assoc, append-nil}
use Rattle.std.specs.Prelude.{slice_get, slice_index, slice_index_or}
use Rattle.std.specs.List.{range_with_len}
use Rattle.std.proofs.lemmas.Option.{slice_get_within}
use Rattle.std.proofs.lemmas.List.{length-append, length-replicate}
use Rattle.std.proofs.lemmas.List.FromFn.{length-range_with_len, get_or-range_with_len}
use Rattle.std.proofs.lemmas.List.Elements.{All-cons, All-nil, All-append, All-head, All-tail, All-weaker, All-map}
use Rattle.rtl_model.specs.bodies.Types.{HasType}
use Rattle.vhdl_expand_rules.specs.Kinds.{size, element_type}
use Rattle.vhdl_expand_rules.specs.Tree.{Object, Process, Instance, instance, Parts, no_parts, process, inner, objects_of}
use Rattle.vhdl_expand_rules.specs.laws.Lengths.{ObjectFits, InstanceFits, PartsFit}
use Rattle.vhdl_expand_rules.specs.laws.Trees.{IsKind, object_types, ObjectIsSound, InstanceIsSound, PartsAreSound}
use Rattle.vhdl_elab_rules.specs.Numbering.{object_nets, own_size, element_nets, own_sizes, Placed, Located, Numbered, nothing_numbered, above_top, above_parts, placed_instance, with_process, with_placed, with_instance, with_parts}
use Rattle.vhdl_elab_rules.proofs.laws.Nets.{own-nets, actual-nets, own-is_size, nets-length}
use Rattle.vhdl_elab_rules.proofs.laws.Inputs.{NotJoined}
use Rattle.vhdl_elab_rules.proofs.Ordered.{PortsFirst, InstanceIsOrdered, PartsAreOrdered}

-- ---- an instance in its place

-- the top, or an instance in one before it, whose path it goes on
pub data StandsIn (before : List Placed) (p : Placed) : Type 0 where
  as_top : before ≡ [] → p.parent ≡ None → p.path ≡ p.label → All NotJoined p.objects → StandsIn before p
  inside : (m : ℕ) (round : Placed) → slice_get before m ≡ Some round → p.parent ≡ Some m → p.path ≡ (round.path ++ codes ".") ++ p.label → StandsIn before p

-- its actual is elements of what it stands in, which has so many
abbrev pub JoinedTo : (elements : ℕ) → Object → Type 0
JoinedTo n o = (es : List ℕ) → o.actual ≡ Some es → All (λ e. e < n) es

abbrev pub HasKind : Object → Type 0
HasKind o = IsKind o.kind

abbrev pub IsBelow : ℕ → ℕ → Type 0
IsBelow count n = n < count

-- placed behind these, when there were so many nets
pub record PlacedAt (before : List Placed) (count : ℕ) (p : Placed) : Type 0 where
  pub stands : StandsIn before p
  pub above : List ℕ
  pub below : All (IsBelow count) above
  pub nets : p.nets ≡ element_nets above count p.objects
  pub fits : All ObjectFits p.objects
  pub joined : All (JoinedTo (length above)) p.objects
  pub kinds : All HasKind p.objects
  pub ordered : PortsFirst p.objects

-- these are placed behind those before, when there were so many nets; and then there are so many
abbrev pub Follow : (before : List Placed) → (count : ℕ) → List Placed → (total : ℕ) → Type 0
Follow before count [] total = count ≡ total
Follow before count (p ∷ ps) total = PlacedAt before count p × Follow (before ++ p ∷ []) (count + own_sizes p.objects) ps total

follow-more : (before ps : List Placed) (count total : ℕ) (p : Placed) → Follow before count ps total → PlacedAt (before ++ ps) total p → Follow before count (ps ++ p ∷ []) (total + own_sizes p.objects)
follow-more before [] count total p h g =
    (subst (λ n. PlacedAt before n p) (sym h) (subst (λ (qs : List Placed). PlacedAt qs total p) (append-nil before) g), ap (λ n. n + own_sizes p.objects) h)
follow-more before (q ∷ ps) count total p h g =
    (h.0, follow-more (before ++ q ∷ []) ps (count + own_sizes q.objects) total p h.1 (subst (λ (qs : List Placed). PlacedAt qs total p) (sym (append_assoc before (q ∷ []) ps)) g))

-- ---- nets below a bound

pub run-within : (n first count : ℕ) → first + n ≤ count → All (IsBelow count) (range_with_len first n)
run-within n first count h k d l =
    let len : length (range_with_len first n) ≡ n = length-range_with_len first n in
    let is : slice_index_or (range_with_len first n) k d ≡ first + k = get_or-range_with_len first n k d (omega (arith, l, len)) in
    omega (arith, is, h, l, len)

wider : (m n : ℕ) (ns : List ℕ) → m ≤ n → All (IsBelow m) ns → All (IsBelow n) ns
wider m n ns l h = All-weaker (IsBelow m) (IsBelow n) (λ k b. omega (arith, b, l)) ns h

pub object-below : (above : List ℕ) (first : ℕ) (o : Object) → All (IsBelow first) above → JoinedTo (length above) o → All (IsBelow (first + own_size o)) (object_nets above first o)
object-below above first o b j = by o.actual refl
  where
    by : (a : Option (List ℕ)) → o.actual ≡ a → All (IsBelow (first + own_size o)) (object_nets above first o)
    by None e =
        subst (All (IsBelow (first + own_size o))) (sym (own-nets above first o e))
        (run-within (size o.kind) first (first + own_size o) (let s : own_size o ≡ size o.kind = own-is_size o e in omega (arith, s)))
    by (Some es) e =
        subst (All (IsBelow (first + own_size o))) (sym (actual-nets above first o es e))
        (All-map (IsBelow (first + own_size o)) (slice_index above) es
        (All-weaker (λ k. k < length above) (λ k. IsBelow (first + own_size o) (slice_index above k))
        (λ k l. let m : slice_index above k < first = b k 0 l in omega (arith, m)) es (j es e)))

pub nets-below : (os : List Object) (above : List ℕ) (first : ℕ) → All (IsBelow first) above → All (JoinedTo (length above)) os → All (IsBelow (first + own_sizes os)) (element_nets above first os)
nets-below [] above first b j = All-nil (IsBelow (first + 0))
nets-below (o ∷ os) above first b j =
    let mine = object-below above first o b (All-head (JoinedTo (length above)) o os j) in
    let n : ℕ = first + own_sizes (o ∷ os) in
    let same : first + own_size o + own_sizes os ≡ n = omega arith in
    All-append (IsBelow n) (object_nets above first o) (element_nets above (first + own_size o) os)
    (wider (first + own_size o) n (object_nets above first o) (omega arith) mine)
    (subst (λ m. All (IsBelow m) (element_nets above (first + own_size o) os)) same
    (nets-below os above (first + own_size o) (wider first (first + own_size o) above (omega arith) b) (All-tail (JoinedTo (length above)) o os j)))

pub nets-as-elements : (os : List Object) (above : List ℕ) (first : ℕ) → All ObjectFits os → length (element_nets above first os) ≡ length (object_types os)
nets-as-elements [] above first h = refl
nets-as-elements (o ∷ os) above first h =
    length-append (object_nets above first o) (element_nets above (first + own_size o) os)
    ∙ ap (λ n. n + length (element_nets above (first + own_size o) os)) (nets-length above first o (All-head ObjectFits o os h) ∙ sym (length-replicate (size o.kind) (element_type o.kind)))
    ∙ ap (λ n. length (replicate (size o.kind) (element_type o.kind)) + n) (nets-as-elements os above (first + own_size o) (All-tail ObjectFits o os h))
    ∙ sym (length-append (replicate (size o.kind) (element_type o.kind)) (object_types os))

joined-to : (outer : List Object) (n : ℕ) (o : Object) → length (object_types outer) ≡ n → ObjectIsSound outer o → JoinedTo n o
joined-to outer n o l h es e =
    All-weaker (HasType (object_types outer) (element_type o.kind)) (λ k. k < n) (λ k t. subst (λ m. k < m) l (slice_get_within (object_types outer) k (element_type o.kind) t)) es (h.actual es e)

-- ---- going through the tree

pub record LocatedAt (ps : List Placed) (x : Located) : Type 0 where
  pub is : slice_get ps x.scope ≡ Some x.round

pub record SoFar (d : Numbered) : Type 0 where
  pub follow : Follow [] 0 d.instances d.nets
  pub located : All (LocatedAt d.instances) d.processes

-- an instance that is there
record There (d : Numbered) (number : ℕ) (round : Placed) : Type 0 where
  is : slice_get d.instances number ≡ Some round
  below : All (IsBelow d.nets) round.nets
  elements : length round.nets ≡ length (object_types round.objects)

pub get-still : (xs ys : List Placed) (k : ℕ) (p : Placed) → slice_get xs k ≡ Some p → slice_get (xs ++ ys) k ≡ Some p
get-still [] ys k p h = absurd cc
get-still (x ∷ xs) ys zero p h = h
get-still (x ∷ xs) ys (suc k) p h = get-still xs ys k p h

get-end : (xs : List Placed) (p : Placed) → slice_get (xs ++ p ∷ []) (length xs) ≡ Some p
get-end [] p = refl
get-end (x ∷ xs) p = get-end xs p

-- what comes behind, and leaves all as it is
record Step (d e : Numbered) : Type 0 where
  so_far : SoFar e
  more : List Placed
  grown : e.instances ≡ d.instances ++ more
  count : d.nets ≤ e.nets

still-there : (d e : Numbered) (number : ℕ) (round : Placed) → Step d e → There d number round → There e number round
still-there d e number round s h = record {
  is = ap (λ (ps : List Placed). slice_get ps number) s.grown ∙ get-still d.instances s.more number round h.is;
  below = wider d.nets e.nets round.nets s.count h.below;
  elements = h.elements;
}

then-step : (d e f : Numbered) → Step d e → Step e f → Step d f
then-step d e f s r =
    let a : d.nets ≤ e.nets = s.count in
    let b : e.nets ≤ f.nets = r.count in
    record {
      so_far = r.so_far;
      more = s.more ++ r.more;
      grown = r.grown ∙ ap (λ (ps : List Placed). ps ++ r.more) s.grown ∙ append_assoc d.instances s.more r.more;
      count = omega (arith, a, b);
    }

located-still : (ps more : List Placed) (x : Located) → LocatedAt ps x → LocatedAt (ps ++ more) x
located-still ps more x h = record { is = get-still ps more x.scope x.round h.is }

place-step : (d : Numbered) (p : Placed) → SoFar d → PlacedAt d.instances d.nets p → Step d (with_placed p d)
place-step d p h at = record {
  so_far = record {
    follow = follow-more [] d.instances 0 d.nets p h.follow at;
    located = All-weaker (LocatedAt d.instances) (LocatedAt (d.instances ++ p ∷ [])) (located-still d.instances (p ∷ [])) d.processes h.located;
  };
  more = p ∷ [];
  grown = refl;
  count = omega arith;
}

last-there : (d : Numbered) (p : Placed) → PlacedAt d.instances d.nets p → There (with_placed p d) (length d.instances) p
last-there d p at = record {
  is = get-end d.instances p;
  below = subst (All (IsBelow (d.nets + own_sizes p.objects))) (sym at.nets) (nets-below p.objects at.above d.nets at.below at.joined);
  elements = ap length at.nets ∙ nets-as-elements p.objects at.above d.nets at.fits;
}

process-step : (d : Numbered) (number : ℕ) (round : Placed) (q : Process) → SoFar d → There d number round → Step d (with_process number round q d)
process-step d number round q h there = record {
  so_far = record {
    follow = h.follow;
    located =
        let x : Located = record { scope = number; round = round; process = q } in
        All-append (LocatedAt d.instances) d.processes (x ∷ []) h.located (All-cons (LocatedAt d.instances) x [] (record { is = there.is }) (All-nil (LocatedAt d.instances)));
  };
  more = [];
  grown = sym (append-nil d.instances);
  count = omega arith;
}

all-joined : (os outer : List Object) (n : ℕ) → length (object_types outer) ≡ n → All (ObjectIsSound outer) os → All (JoinedTo n) os
all-joined os outer n l h = All-weaker (ObjectIsSound outer) (JoinedTo n) (λ o s. joined-to outer n o l s) os h

all-kinds : (os outer : List Object) → All (ObjectIsSound outer) os → All HasKind os
all-kinds os outer h = All-weaker (ObjectIsSound outer) HasKind (λ o s. s.kind) os h

mutual
  instance-step : (i : Instance) (number : ℕ) (round : Placed) (label : List ℕ) (d : Numbered) → InstanceFits i → InstanceIsSound round.objects i → InstanceIsOrdered i → SoFar d → There d number round
      → Step d (with_instance (above_parts number round) label i d)
  instance-step (instance os turns parts) number round label d fit sound ordered h there =
      let p : Placed = placed_instance (above_parts number round) label d.nets (instance os turns parts) in
      let at : PlacedAt d.instances d.nets p = record {
        stands = inside number round there.is refl refl;
        above = round.nets;
        below = there.below;
        nets = refl;
        fits = fit.0;
        joined = all-joined os round.objects (length round.nets) (sym there.elements) sound.0;
        kinds = all-kinds os round.objects sound.0;
        ordered = ordered.0;
      } in
      let first = place-step d p h at in
      then-step d (with_placed p d) (with_parts (length d.instances) p parts (with_placed p d)) first
      (parts-step parts (length d.instances) p (with_placed p d) fit.1 sound.1 ordered.1 first.so_far (last-there d p at))

  parts-step : (ps : Parts) (number : ℕ) (round : Placed) (d : Numbered) → PartsFit ps → PartsAreSound round.objects ps → PartsAreOrdered ps → SoFar d → There d number round
      → Step d (with_parts number round ps d)
  parts-step no_parts number round d fit sound ordered h there = record { so_far = h; more = []; grown = sym (append-nil d.instances); count = omega arith }
  parts-step (process q rest) number round d fit sound ordered h there =
      let first = process-step d number round q h there in
      then-step d (with_process number round q d) (with_parts number round rest (with_process number round q d)) first
      (parts-step rest number round (with_process number round q d) fit sound.1 ordered first.so_far (still-there d (with_process number round q d) number round first there))
  parts-step (inner label i rest) number round d fit sound ordered h there =
      let e : Numbered = with_instance (above_parts number round) label i d in
      let first = instance-step i number round label d fit.0 sound.0 ordered.0 h there in
      then-step d e (with_parts number round rest e) first (parts-step rest number round e fit.1 sound.1 ordered.1 first.so_far (still-there d e number round first there))

pub record Walked (objects : List Object) (d : Numbered) : Type 0 where
  pub so_far : SoFar d
  -- the top, and what stands in it
  pub top : Placed
  pub others : List Placed
  pub instances : d.instances ≡ top ∷ others
  pub objects_are : top.objects ≡ objects

pub walk : (i : Instance) (name : List ℕ) → InstanceFits i → InstanceIsSound [] i → InstanceIsOrdered i → All NotJoined (objects_of i) → Walked (objects_of i) (with_instance above_top name i nothing_numbered)
walk (instance os turns parts) name fit sound ordered alone =
    let p : Placed = placed_instance above_top name 0 (instance os turns parts) in
    let at : PlacedAt [] 0 p = record {
      stands = as_top refl refl refl alone;
      above = [];
      below = All-nil (IsBelow 0);
      nets = refl;
      fits = fit.0;
      joined = all-joined os [] 0 refl sound.0;
      kinds = all-kinds os [] sound.0;
      ordered = ordered.0;
    } in
    let first = place-step nothing_numbered p (record { follow = refl; located = All-nil (LocatedAt []) }) at in
    let s = parts-step parts 0 p (with_placed p nothing_numbered) fit.1 sound.1 ordered.1 first.so_far (last-there nothing_numbered p at) in
    record { so_far = s.so_far; top = p; others = s.more; instances = s.grown; objects_are = refl }
