-- Instances are added behind those that there are: going through the tree.
use Rattle.std.proofs.Common.{◌≡◌, ℕ, List, [], ◌∷◌, ◌++◌, length, refl, sym, ap, ◌∙◌, append_assoc, append-nil}
use Rattle.vhdl_expand_rules.specs.Tree.{Instance, instance, Parts, no_parts, process, inner}
use Rattle.vhdl_elab_rules.specs.Numbering.{Placed, Numbered, Above, above_parts, placed_instance, with_process, with_placed, with_instance, with_parts}

pub record Grown (before after : List Placed) : Type 0 where
  pub more : List Placed
  pub is : after ≡ before ++ more

grown-on : (xs ys zs : List Placed) → Grown xs ys → Grown ys zs → Grown xs zs
grown-on xs ys zs h g = record { more = h.more ++ g.more; is = g.is ∙ ap (λ (ps : List Placed). ps ++ g.more) h.is ∙ append_assoc xs h.more g.more }

mutual
  instance-grows : (i : Instance) (a : Above) (label : List ℕ) (d : Numbered) → Grown d.instances (with_instance a label i d).instances
  instance-grows (instance os turns parts) a label d =
      let p : Placed = placed_instance a label d.nets (instance os turns parts) in
      grown-on d.instances (d.instances ++ p ∷ []) (with_instance a label (instance os turns parts) d).instances (record { more = p ∷ []; is = refl }) (parts_grow parts (length d.instances) p (with_placed p d))

  pub parts_grow : (ps : Parts) (number : ℕ) (round : Placed) (d : Numbered) → Grown d.instances (with_parts number round ps d).instances
  parts_grow no_parts number round d = record { more = []; is = sym (append-nil d.instances) }
  parts_grow (process q rest) number round d = parts_grow rest number round (with_process number round q d)
  parts_grow (inner label i rest) number round d =
      let e : Numbered = with_instance (above_parts number round) label i d in
      grown-on d.instances e.instances (with_parts number round rest e).instances (instance-grows i (above_parts number round) label d) (parts_grow rest number round e)
