-- Each element of an expanded design has a net that is there.
use Rattle.std.proofs.Common.{◌≡◌, ℕ, zero, suc, ◌+◌, ◌<◌, ◌≤◌, List, [], ◌∷◌, ◌++◌, length, map, Some, Ok, All, sym, ap, ◌∙◌, subst, arith, replicate}
use Rattle.std.specs.Prelude.{IsTrue, slice_get, slice_index, slice_index_or}
use Rattle.std.specs.List.{AllByRecursion, range_with_len}
use Rattle.std.proofs.lemmas.List.{length-append, length-replicate}
use Rattle.std.proofs.lemmas.List.FromFn.{length-range_with_len, get_or-range_with_len}
use Rattle.std.proofs.lemmas.List.Elements.{All-nil, All-append, All-map, All-head, All-tail, All-weaker}
use Rattle.std.proofs.lemmas.Option.{same_Some}
use Rattle.vhdl_names_rules.specs.units.Units.{Units}
use Rattle.vhdl_names_rules.specs.sound.Units.{are_sound}
use Rattle.vhdl_expand_rules.specs.Kinds.{size, element_type}
use Rattle.vhdl_expand_rules.specs.Tree.{Object, objects_of}
use Rattle.vhdl_expand_rules.specs.Expansion.{Design, expanded_design}
use Rattle.vhdl_expand_rules.specs.laws.Trees.{object_types}
use Rattle.vhdl_expand_rules.specs.Tops.{Top}
use Rattle.vhdl_expand_rules.proofs.laws.Lengths.{design-fits}
use Rattle.vhdl_expand_rules.proofs.laws.Trees.{each-tree-is-sound}
use Rattle.vhdl_elab_rules.specs.Numbering.{Placed, Located, Numbered, numbered_design, own_sizes}
use Rattle.vhdl_elab_rules.specs.Wiring.{Element, element_of, elements_from, elements_of}
use Rattle.vhdl_elab_rules.proofs.Ordered.{is-ordered}
use Rattle.vhdl_elab_rules.proofs.Placed.{IsBelow, PlacedAt, Follow, LocatedAt, Walked, walk, nets-below, nets-as-elements}
use Rattle.vhdl_elab.specs.Settled.{NetsAreBelow}
use Rattle.vhdl_elab.specs.Wired.{NetsAreThere}

-- ---- elements

abbrev NetBelow : ℕ → Element → Type 0
NetBelow total e = e.net < total

elements-below : (p : Placed) (total first : ℕ) (os : List Object) → All (IsBelow total) p.nets → first + length (object_types os) ≤ length p.nets → All (NetBelow total) (elements_from p first os)
elements-below p total first [] h l = All-nil (NetBelow total)
elements-below p total first (o ∷ os) h l =
    let n : ℕ = size o.kind in
    let long : length (object_types (o ∷ os)) ≡ n + length (object_types os) =
    length-append (replicate n (element_type o.kind)) (object_types os) ∙ ap (λ m. m + length (object_types os)) (length-replicate n (element_type o.kind)) in
    All-append (NetBelow total) (map (λ k. element_of p o (first + k) k) (range_with_len 0 n)) (elements_from p (first + n) os)
    (All-map (NetBelow total) (λ k. element_of p o (first + k) k) (range_with_len 0 n) (λ i d b. here i d b long))
    (elements-below p total (first + n) os h (omega (arith, l, long)))
  where
    here : (i d : ℕ) → i < length (range_with_len 0 (size o.kind)) → length (object_types (o ∷ os)) ≡ size o.kind + length (object_types os)
        → slice_index p.nets (first + slice_index_or (range_with_len 0 (size o.kind)) i d) < total
    here i d b long =
        let len : length (range_with_len 0 (size o.kind)) ≡ size o.kind = length-range_with_len 0 (size o.kind) in
        let is : slice_index_or (range_with_len 0 (size o.kind)) i d ≡ 0 + i = get_or-range_with_len 0 (size o.kind) i d (omega (arith, b, len)) in
        h (first + slice_index_or (range_with_len 0 (size o.kind)) i d) 0 (omega (arith, is, b, len, long, l))

-- ---- instances

record IsThere (total : ℕ) (p : Placed) : Type 0 where
  nets : All (IsBelow total) p.nets
  elements : All (NetBelow total) (elements_of p)

grows : (before : List Placed) (count : ℕ) (ps : List Placed) (total : ℕ) → Follow before count ps total → count ≤ total
grows before count [] total h = omega (arith, h)
grows before count (p ∷ ps) total h = let r = grows (before ++ p ∷ []) (count + own_sizes p.objects) ps total h.1 in omega (arith, r)

all-there : (before : List Placed) (count : ℕ) (ps : List Placed) (total : ℕ) → Follow before count ps total → AllByRecursion (IsThere total) ps
all-there before count [] total h = tt
all-there before count (p ∷ ps) total h =
    let at : PlacedAt before count p = h.0 in
    let up : count + own_sizes p.objects ≤ total = grows (before ++ p ∷ []) (count + own_sizes p.objects) ps total h.1 in
    let below : All (IsBelow total) p.nets =
    subst (All (IsBelow total)) (sym at.nets) (All-weaker (IsBelow (count + own_sizes p.objects)) (IsBelow total) (λ n l. omega (arith, l, up)) _ (nets-below p.objects at.above count at.below at.joined)) in
    let long : length p.nets ≡ length (object_types p.objects) = ap length at.nets ∙ nets-as-elements p.objects at.above count at.fits in (
      record { nets = below; elements = elements-below p total 0 p.objects below (omega (arith, long)) },
      all-there (before ++ p ∷ []) (count + own_sizes p.objects) ps total h.1,
    )

elements-there : (total : ℕ) (ps : List Placed) → AllByRecursion (IsThere total) ps → AllByRecursion (λ (p : Placed). All (NetBelow total) (elements_of p)) ps
elements-there total [] h = tt
elements-there total (p ∷ ps) h = (h.0.elements, elements-there total ps h.1)

found-there : (total : ℕ) (ps : List Placed) (k : ℕ) (p : Placed) → AllByRecursion (IsThere total) ps → slice_get ps k ≡ Some p → All (IsBelow total) p.nets
found-there total [] k p h e = absurd cc
found-there total (q ∷ ps) zero p h e = subst (λ (r : Placed). All (IsBelow total) r.nets) (same_Some q p e) h.0.nets
found-there total (q ∷ ps) (suc k) p h e = found-there total ps k p h.1 e

round-there : (total : ℕ) (ps : List Placed) (xs : List Located) → AllByRecursion (IsThere total) ps → All (LocatedAt ps) xs → NetsAreBelow total xs
round-there total ps [] h l = tt
round-there total ps (x ∷ xs) h l = (found-there total ps x.scope x.round h (All-head (LocatedAt ps) x xs l).is, round-there total ps xs h (All-tail (LocatedAt ps) x xs l))

walked-there : (os : List Object) (d : Numbered) → Walked os d → NetsAreThere d
walked-there os d w =
    let there = all-there [] 0 d.instances d.nets w.so_far.follow in
    record { elements = elements-there d.nets d.instances there; round = round-there d.nets d.instances d.processes there w.so_far.located }

pub nets-there : (units : Units) (top : Top) (design : Design) → IsTrue (are_sound units) → expanded_design units top ≡ Ok design → NetsAreThere (numbered_design design)
unfolding numbered_design
nets-there units top design sound e =
    let tree = each-tree-is-sound units top design sound e in
    walked-there (objects_of design.top) _
    (walk design.top design.name (design-fits units top design e) tree.top (is-ordered units top design e).tree tree.not_joined)
