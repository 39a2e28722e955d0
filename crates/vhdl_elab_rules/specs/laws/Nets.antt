-- Nets and instances in the words of a designer: what a port is, whose a net is, and in which order they stand
-- (IEEE 1076-2008, 14.2, 6.5.6.3).
use Rattle.std.specs.Prelude.{◌≡◌, ℕ, ◌+◌, ◌<◌, List, map, take, slice_get, slice_index, slice_range, Some, None, Ok}
use Rattle.std.specs.List.{range_with_len}
use Rattle.vhdl_names_rules.specs.units.Units.{Units}
use Rattle.vhdl_expand_rules.specs.Kinds.{size}
use Rattle.vhdl_expand_rules.specs.Site.{elements_count}
use Rattle.vhdl_expand_rules.specs.Tree.{Object}
use Rattle.vhdl_expand_rules.specs.Expansion.{Design, expanded_design}
use Rattle.vhdl_expand_rules.specs.Tops.{Top}
use Rattle.vhdl_elab_rules.specs.Numbering.{Placed, Numbered, numbered_design}
use Rattle.vhdl_elab_rules.specs.Wiring.{Element, own_elements}

-- how many elements objects have together
abbrev pub objects_count : List Object → ℕ
objects_count os = elements_count (map (λ (o : Object). o.kind) os)

-- the instance of this number is this one
abbrev pub IsInstance : Numbered → ℕ → Placed → Type 0
IsInstance d k p = slice_get d.instances k ≡ Some p

-- the nets of the name of an instance's j-th port or signal, from the left
abbrev pub nets_of_name : Placed → (j : ℕ) → Object → List ℕ
nets_of_name p j o =
    slice_range p.nets (objects_count (take j p.objects)) (objects_count (take j p.objects) + size o.kind)

pub record NetsAreAsSaid (d : Numbered) : Type 0 where
  -- The k-th element that has a net of its own has the net k. So each net is the own net of one declaration's element
  -- and of no other, and the own nets of instances follow each other in order of the text.
  pub own_nets : map (λ (e : Element). e.net) (own_elements d) ≡ range_with_len 0 d.nets
  -- an instance stands in one before it
  pub goes_up : (k m : ℕ) (child : Placed) → IsInstance d k child → child.parent ≡ Some m → m < k
  -- An associated port's elements are the actual's elements in the instance above, whatever its mode, and no
  -- nets besides.
  pub ports_are_actuals : (k m j : ℕ) (child above : Placed) (o : Object) (es : List ℕ)
      → IsInstance d k child → child.parent ≡ Some m → IsInstance d m above
      → slice_get child.objects j ≡ Some o → o.actual ≡ Some es
      → nets_of_name child j o ≡ map (slice_index above.nets) es
  -- a signal, and a port that is open or not associated, has nets of its own, one after another
  pub others_are_own : (k j : ℕ) (p : Placed) (o : Object)
      → IsInstance d k p → slice_get p.objects j ≡ Some o → o.actual ≡ None
      → (first : ℕ) × (nets_of_name p j o ≡ range_with_len first (size o.kind))

abbrev pub EachNetIsAsSaid : Type 0
EachNetIsAsSaid =
    (units : Units) (top : Top) (design : Design)
    → expanded_design units top ≡ Ok design → NetsAreAsSaid (numbered_design design)
