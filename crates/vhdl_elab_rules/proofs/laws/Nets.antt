-- Nets are as said: by induction over the tree, in order of the text.
use Rattle.std.proofs.Common.{◌≡◌, ℕ, zero, suc, ◌+◌, ◌<◌, ◌≤◌, Bool, true, false, cond, List, [], ◌∷◌, ◌++◌, length, map, take, Option, Some, None, All, refl, sym, ap, ◌∙◌, subst, arith, append_assoc, append-nil, ◌⊎◌, inl, inr}
use Rattle.std.specs.Prelude.{slice_get, slice_index, slice_range, filter, flat_map, is_none}
use Rattle.std.specs.List.{range_with_len}
use Rattle.std.proofs.lemmas.List.{length-append, length-map, map-append}
use Rattle.std.proofs.lemmas.List.FromFn.{length-range_with_len}
use Rattle.std.proofs.lemmas.List.Elements.{filter-append, All-head, All-tail}
use Rattle.std.proofs.lemmas.List.Sums.{sum_by-cons}
use Rattle.std.proofs.lemmas.Grind.{flat_map-append}
use Rattle.std.proofs.lemmas.Bool.{cases_lt}
use Rattle.std.proofs.lemmas.Option.{slice_get_within}
use Rattle.vhdl_expand_rules.specs.Kinds.{size}
use Rattle.vhdl_expand_rules.specs.Tree.{Object, Instance, instance, Parts, no_parts, process, inner}
use Rattle.vhdl_expand_rules.specs.laws.Lengths.{ObjectFits, InstanceFits, PartsFit}
use Rattle.vhdl_expand_rules.proofs.laws.Lengths.{design-fits}
use Rattle.vhdl_elab_rules.specs.Numbering.{object_nets, own_size, element_nets, own_sizes, Placed, Numbered, nothing_numbered, Above, above_top, above_parts, placed_instance, with_process, with_placed, with_instance, with_parts, numbered_design}
use Rattle.vhdl_elab_rules.specs.Wiring.{Element, element_of, elements_from, elements_of}
use Rattle.vhdl_elab_rules.specs.laws.Nets.{objects_count, nets_of_name, NetsAreAsSaid, EachNetIsAsSaid}
use Rattle.vhdl_elab_rules.proofs.Segments.{run-append, segment, reads-all, get-left, get-last}

-- ---- the nets of an object, with an actual and without

pub own-nets : (above : List ℕ) (first : ℕ) (o : Object) → o.actual ≡ None → object_nets above first o ≡ range_with_len first (size o.kind)
own-nets above first o e = ap (λ (x : Option (List ℕ)). object_nets above first (record o { actual = x })) e

pub actual-nets : (above : List ℕ) (first : ℕ) (o : Object) (es : List ℕ) → o.actual ≡ Some es → object_nets above first o ≡ map (slice_index above) es
actual-nets above first o es e = ap (λ (x : Option (List ℕ)). object_nets above first (record o { actual = x })) e

pub own-is_size : (o : Object) → o.actual ≡ None → own_size o ≡ size o.kind
own-is_size o e = ap (λ (x : Option (List ℕ)). own_size (record o { actual = x })) e

pub actual-is_none : (o : Object) (es : List ℕ) → o.actual ≡ Some es → own_size o ≡ 0
actual-is_none o es e = ap (λ (x : Option (List ℕ)). own_size (record o { actual = x })) e

-- an object has as many nets as elements
pub nets-length : (above : List ℕ) (first : ℕ) (o : Object) → ObjectFits o → length (object_nets above first o) ≡ size o.kind
nets-length above first o h = go o.actual refl
  where
    go : (a : Option (List ℕ)) → o.actual ≡ a → length (object_nets above first o) ≡ size o.kind
    go None e = ap length (own-nets above first o e) ∙ length-range_with_len first (size o.kind)
    go (Some es) e = ap length (actual-nets above first o es e) ∙ length-map es (slice_index above) ∙ h.actual es e

-- ---- own elements

abbrev own : Element → Bool
own e = e.is_own

abbrev net : Element → ℕ
net e = e.net

all-own : (f : ℕ → Element) (ks : List ℕ) → ((k : ℕ) → own (f k) ≡ true) → map net (filter own (map f ks)) ≡ map (λ k. net (f k)) ks
all-own f [] h = refl
all-own f (k ∷ ks) h = ap (λ (b : Bool). map net (cond b (f k ∷ filter own (map f ks)) (filter own (map f ks)))) (h k) ∙ ap (λ ns. net (f k) ∷ ns) (all-own f ks h)

none-own : (f : ℕ → Element) (ks : List ℕ) → ((k : ℕ) → own (f k) ≡ false) → filter own (map f ks) ≡ []
none-own f [] h = refl
none-own f (k ∷ ks) h = ap (λ (b : Bool). cond b (f k ∷ filter own (map f ks)) (filter own (map f ks))) (h k) ∙ none-own f ks h

-- the own nets of an object, whose elements begin behind these nets
own-object : (p : Placed) (above front rest : List ℕ) (first start : ℕ) (o : Object) → p.nets ≡ front ++ (object_nets above first o ++ rest) → length front ≡ start → ObjectFits o
    → map net (filter own (map (λ k. element_of p o (start + k) k) (range_with_len 0 (size o.kind)))) ≡ range_with_len first (own_size o)
own-object p above front rest first start o h len fit = go o.actual refl
  where
    go : (a : Option (List ℕ)) → o.actual ≡ a → map net (filter own (map (λ k. element_of p o (start + k) k) (range_with_len 0 (size o.kind)))) ≡ range_with_len first (own_size o)
    go None e =
        let xs : List ℕ = object_nets above first o in
        all-own (λ k. element_of p o (start + k) k) (range_with_len 0 (size o.kind)) (λ k. ap is_none e)
        ∙ ap (λ (ns : List ℕ). map (λ k. slice_index ns (start + k)) (range_with_len 0 (size o.kind))) h
        ∙ ap (λ (n : ℕ). map (λ k. slice_index (front ++ (xs ++ rest)) (start + k)) (range_with_len 0 n)) (sym (nets-length above first o fit))
        ∙ reads-all front xs rest start len
        ∙ own-nets above first o e ∙ ap (range_with_len first) (sym (own-is_size o e))
    go (Some es) e =
        ap (map net) (none-own (λ k. element_of p o (start + k) k) (range_with_len 0 (size o.kind)) (λ k. ap is_none e))
        ∙ ap (range_with_len first) (sym (actual-is_none o es e))

own-from : (os : List Object) (p : Placed) (above front : List ℕ) (first start : ℕ) → p.nets ≡ front ++ element_nets above first os → length front ≡ start → All ObjectFits os
    → map net (filter own (elements_from p start os)) ≡ range_with_len first (own_sizes os)
own-from [] p above front first start h len fit = refl
own-from (o ∷ os) p above front first start h len fit =
    let mine : List Element = map (λ k. element_of p o (start + k) k) (range_with_len 0 (size o.kind)) in
    let theirs : List Element = elements_from p (start + size o.kind) os in
    let xs : List ℕ = object_nets above first o in
    let fits : ObjectFits o = All-head ObjectFits o os fit in
    let len' : length (front ++ xs) ≡ start + size o.kind =
    length-append front xs ∙ (let a = nets-length above first o fits in omega (arith, a, len)) in
    ap (map net) (filter-append own mine theirs) ∙ map-append net (filter own mine) (filter own theirs)
    ∙ ap (λ (ns : List ℕ). ns ++ map net (filter own theirs)) (own-object p above front (element_nets above (first + own_size o) os) first start o h len fits)
    ∙ ap (λ (ns : List ℕ). range_with_len first (own_size o) ++ ns)
    (own-from os p above (front ++ xs) (first + own_size o) (start + size o.kind) (h ∙ sym (append_assoc front xs (element_nets above (first + own_size o) os))) len' (All-tail ObjectFits o os fit))
    ∙ run-append first (own_size o) (own_sizes os)

-- ---- the nets of a name

-- the nets of an instance's elements, cut round those of an object
record Split (above : List ℕ) (first : ℕ) (os : List Object) (j : ℕ) (o : Object) : Type 0 where
  front : List ℕ
  rest : List ℕ
  begins : ℕ
  nets_are : element_nets above first os ≡ front ++ (object_nets above begins o ++ rest)
  front_is : length front ≡ objects_count (take j os)

same_object : (o q : Object) → Some q ≡ Some o → q ≡ o
same_object o q h = cc

split : (os : List Object) (above : List ℕ) (first j : ℕ) (o : Object) → All ObjectFits os → slice_get os j ≡ Some o → Split above first os j o
split [] above first j o fit h = absurd cc
split (q ∷ os) above first zero o fit h = record {
  front = [];
  rest = element_nets above (first + own_size q) os;
  begins = first;
  nets_are = ap (λ (x : Object). object_nets above first x ++ element_nets above (first + own_size q) os) (same_object o q h);
  front_is = refl;
}
split (q ∷ os) above first (suc j) o fit h =
    let s = split os above (first + own_size q) j o (All-tail ObjectFits q os fit) h in
    record {
      front = object_nets above first q ++ s.front;
      rest = s.rest;
      begins = s.begins;
      nets_are = ap (λ (ns : List ℕ). object_nets above first q ++ ns) s.nets_are ∙ sym (append_assoc (object_nets above first q) s.front (object_nets above s.begins o ++ s.rest));
      front_is = length-append (object_nets above first q) s.front
          ∙ ap (λ n. n + length s.front) (nets-length above first q (All-head ObjectFits q os fit)) ∙ ap (λ n. size q.kind + n) s.front_is
          ∙ sym (sum_by-cons (λ n. n) (size q.kind) (map size (map (λ (x : Object). x.kind) (take j os))));
    }

-- ---- what holds so far

-- where an instance's nets come from: those above, and its own
record Stands (instances : List Placed) (k : ℕ) (p : Placed) : Type 0 where
  above : List ℕ
  first : ℕ
  nets_are : p.nets ≡ element_nets above first p.objects
  fits : All ObjectFits p.objects
  up : (m : ℕ) → p.parent ≡ Some m → (m < k) × ((q : Placed) → slice_get instances m ≡ Some q → q.nets ≡ above)

record SoFar (instances : List Placed) (count : ℕ) : Type 0 where
  own_nets : map net (filter own (flat_map elements_of instances)) ≡ range_with_len 0 count
  stands : (k : ℕ) (p : Placed) → slice_get instances k ≡ Some p → Stands instances k p

-- what an instance stands in is there, with these nets
AboveFits : List Placed → Above → Type 0
AboveFits instances a = (m : ℕ) → a.parent ≡ Some m → (m < length instances) × ((q : Placed) → slice_get instances m ≡ Some q → q.nets ≡ a.nets)

-- more instances, which leave those before them as they are
record Step (before : List Placed) (after : List Placed) (count : ℕ) : Type 0 where
  so_far : SoFar after count
  keeps : (a : Above) → AboveFits before a → AboveFits after a

then_step : (xs ys zs : List Placed) (m n : ℕ) → Step xs ys m → Step ys zs n → Step xs zs n
then_step xs ys zs m n s t = record { so_far = t.so_far; keeps = λ a h. t.keeps a (s.keeps a h) }

still-there : (instances : List Placed) (p : Placed) (a : Above) → AboveFits instances a → AboveFits (instances ++ p ∷ []) a
unfolding AboveFits
still-there instances p a h m e =
    let old = h m e in
    let there : m < length instances = old.0 in
    let len : length (instances ++ p ∷ []) ≡ length instances + 1 = length-append instances (p ∷ []) in
    (omega (arith, there, len), λ q g. old.1 q (sym (get-left instances (p ∷ []) m there) ∙ g))

stands-still : (instances : List Placed) (p q : Placed) (k : ℕ) → k < length instances → Stands instances k q → Stands (instances ++ p ∷ []) k q
stands-still instances p q k l s = record {
  above = s.above;
  first = s.first;
  nets_are = s.nets_are;
  fits = s.fits;
  up = λ m e. let old = s.up m e in let below : m < k = old.0 in
      (below, λ r g. old.1 r (sym (get-left instances (p ∷ []) m (omega (arith, below, l))) ∙ g));
}

same_placed : (p q : Placed) → Some q ≡ Some p → q ≡ p
same_placed p q h = cc

-- an instance is placed
place : (instances : List Placed) (count : ℕ) (a : Above) (label : List ℕ) (i : Instance) → InstanceFits i → SoFar instances count → AboveFits instances a
    → Step instances (instances ++ placed_instance a label count i ∷ []) (count + own_sizes (placed_instance a label count i).objects)
unfolding AboveFits
place instances count a label (instance objects turns parts) fit so_far h = record {
  so_far = record {
    own_nets = ap (λ (es : List Element). map net (filter own es)) (flat_map-append elements_of instances (p ∷ []))
        ∙ ap (map net) (filter-append own (flat_map elements_of instances) (elements_of p ++ []))
        ∙ map-append net (filter own (flat_map elements_of instances)) (filter own (elements_of p ++ []))
        ∙ ap (λ (ns : List ℕ). ns ++ map net (filter own (elements_of p ++ []))) so_far.own_nets
        ∙ ap (λ (es : List Element). range_with_len 0 count ++ map net (filter own es)) (append-nil (elements_of p))
        ∙ ap (λ (ns : List ℕ). range_with_len 0 count ++ ns) (own-from objects p a.nets [] count 0 refl refl fit.0)
        ∙ ap (λ n. range_with_len 0 count ++ range_with_len n (own_sizes objects)) (let z : count ≡ 0 + count = omega arith in z)
        ∙ run-append 0 count (own_sizes objects);
    stands = λ k q g. stand k q g (cases_lt k (length instances));
  };
  keeps = λ b f. still-there instances p b f;
}
  where
    p : Placed
    p = placed_instance a label count (instance objects turns parts)

    stand : (k : ℕ) (q : Placed) → slice_get (instances ++ p ∷ []) k ≡ Some q → (k < length instances) ⊎ (length instances ≤ k) → Stands (instances ++ p ∷ []) k q
    stand k q g (inl l) = stands-still instances p q k l (so_far.stands k q (sym (get-left instances (p ∷ []) k l) ∙ g))
    stand k q g (inr l) =
        let len : length (instances ++ p ∷ []) ≡ length instances + 1 = length-append instances (p ∷ []) in
        let below : k < length (instances ++ p ∷ []) = slice_get_within (instances ++ p ∷ []) k q g in
        let last : k ≡ length instances = omega (arith, l, len, below) in
        let is : p ≡ q = same_placed q p (sym (get-last instances p) ∙ ap (slice_get (instances ++ p ∷ [])) (sym last) ∙ g) in
        subst (λ (r : Placed). Stands (instances ++ p ∷ []) k r) is (record {
          above = a.nets;
          first = count;
          nets_are = refl;
          fits = fit.0;
          up = λ m e. let old = h m e in let there : m < length instances = old.0 in
              (omega (arith, there, l), λ r f. old.1 r (sym (get-left instances (p ∷ []) m there) ∙ f));
        })

-- what stands in it has it above
is_above : (instances : List Placed) (p : Placed) → AboveFits (instances ++ p ∷ []) (above_parts (length instances) p)
unfolding AboveFits
is_above instances p m e =
    let len : length (instances ++ p ∷ []) ≡ length instances + 1 = length-append instances (p ∷ []) in
    let at : length instances ≡ m = number (length instances) m e in
    (omega (arith, len, at), λ q g. ap (λ (r : Placed). r.nets) (same_placed p q (sym g ∙ ap (slice_get (instances ++ p ∷ [])) (sym at) ∙ get-last instances p)))
  where
    number : (m n : ℕ) → Some m ≡ Some n → m ≡ n
    number m n h = cc

mutual
  unfolding AboveFits

  instance-step : (i : Instance) (a : Above) (label : List ℕ) (d : Numbered) → InstanceFits i → SoFar d.instances d.nets → AboveFits d.instances a
      → Step d.instances (with_instance a label i d).instances (with_instance a label i d).nets
  instance-step (instance objects turns parts) a label d fit so_far h =
      let i : Instance = instance objects turns parts in
      let p : Placed = placed_instance a label d.nets i in
      let first = place d.instances d.nets a label i fit so_far h in
      then_step d.instances (d.instances ++ p ∷ []) (with_parts (length d.instances) p parts (with_placed p d)).instances (d.nets + own_sizes objects) (with_parts (length d.instances) p parts (with_placed p d)).nets
      first (parts-step parts (length d.instances) p (with_placed p d) fit.1 first.so_far (is_above d.instances p))

  parts-step : (ps : Parts) (number : ℕ) (round : Placed) (d : Numbered) → PartsFit ps → SoFar d.instances d.nets → AboveFits d.instances (above_parts number round)
      → Step d.instances (with_parts number round ps d).instances (with_parts number round ps d).nets
  parts-step no_parts number round d fit so_far h = record { so_far = so_far; keeps = λ a f. f }
  parts-step (process q rest) number round d fit so_far h = parts-step rest number round (with_process number round q d) fit so_far h
  parts-step (inner label i rest) number round d fit so_far h =
      let e : Numbered = with_instance (above_parts number round) label i d in
      let first = instance-step i (above_parts number round) label d fit.0 so_far h in
      then_step d.instances e.instances (with_parts number round rest e).instances e.nets (with_parts number round rest e).nets
      first (parts-step rest number round e fit.1 first.so_far (first.keeps (above_parts number round) h))

-- ---- the laws

as_said : (d : Numbered) → SoFar d.instances d.nets → NetsAreAsSaid d
as_said d s = record {
  own_nets = s.own_nets;
  goes_up = λ k m child h e. ((s.stands k child h).up m e).0;
  ports_are_actuals = λ k m j child above o es h e g at actual.
      let st = s.stands k child h in
      let sp = split child.objects st.above st.first j o st.fits at in
      let fit : ObjectFits o = fits_at child.objects j o st.fits at in
      name child o j st.above st.first st.nets_are fit sp ∙ actual-nets st.above sp.begins o es actual
      ∙ ap (λ (ns : List ℕ). map (slice_index ns) es) (sym ((st.up m e).1 above g));
  others_are_own = λ k j p o h at none.
      let st = s.stands k p h in
      let sp = split p.objects st.above st.first j o st.fits at in
      let fit : ObjectFits o = fits_at p.objects j o st.fits at in
      (sp.begins, name p o j st.above st.first st.nets_are fit sp ∙ own-nets st.above sp.begins o none);
}
  where
    fits_at : (os : List Object) (j : ℕ) (o : Object) → All ObjectFits os → slice_get os j ≡ Some o → ObjectFits o
    fits_at [] j o fit h = absurd cc
    fits_at (q ∷ os) zero o fit h = subst ObjectFits (same_object o q h) (All-head ObjectFits q os fit)
    fits_at (q ∷ os) (suc j) o fit h = fits_at os j o (All-tail ObjectFits q os fit) h

    name : (p : Placed) (o : Object) (j : ℕ) (above : List ℕ) (first : ℕ) → p.nets ≡ element_nets above first p.objects → ObjectFits o → (sp : Split above first p.objects j o)
        → nets_of_name p j o ≡ object_nets above sp.begins o
    name p o j above first h fit sp =
        let c : ℕ = objects_count (take j p.objects) in
        ap (λ (ns : List ℕ). slice_range ns c (c + size o.kind)) (h ∙ sp.nets_are)
        ∙ segment sp.front (object_nets above sp.begins o) sp.rest c (c + size o.kind) sp.front_is (ap (λ n. c + n) (nets-length above sp.begins o fit))

pub nets-are-as-said : EachNetIsAsSaid
unfolding numbered_design AboveFits
nets-are-as-said units top design h =
    as_said (numbered_design design)
    (instance-step design.top above_top design.name nothing_numbered (design-fits units top design h)
    (record { own_nets = refl; stands = λ k p g. absurd cc }) (λ m e. absurd cc)).so_far
