-- Parts behind parts, with what is left of a budget.
use Rattle.std.proofs.Common.{◌≡◌, ℕ, List, [], ◌∷◌, ◌++◌, refl, sym, ap, ◌∙◌, Vec, Global}
use mathlib.Core.Former.{Count}
use Rattle.vhdl_expand_rules.specs.Tree.{Parts, no_parts, process, inner, followed_by, instance}
use Rattle.vhdl_expand_tree.specs.declared.tree.Object.{Object}
use Rattle.vhdl_expand_tree.specs.declared.tree.InstancePart.{InstancePart}
use Rattle.vhdl_expand_tree.specs.declared.tree.InstancePart.TheVariants as p
use Rattle.vhdl_expand_tree.specs.declared.tree.InstancePart.TheBlock.{Row_of-InstancePart, end_of-InstancePart, more_of-InstancePart, items-the_row-InstancePart, hidden-the_row-InstancePart-0, items_hidden-the_row-InstancePart-0}
use Rattle.vhdl_expand_tree.specs.Views.{objects_view, part_before, parts_row, parts_of, parts_view}
use Rattle.vhdl_expand_tree.specs.Costs.{plus, parts_costs}
use Rattle.vhdl_expand_tree.proofs.Charging.{plus-none, plus-assoc}

-- ---- the parts of an instance in another, as contracts see them

rows : (n : Count) (row : Row_of-InstancePart n) → parts_row row ≡ parts_of (items-the_row-InstancePart n row)
rows n end_of-InstancePart = refl
rows n (more_of-InstancePart x rest) = ap (λ r. part_before r x) (rows _ rest)

pub view_instance : (rest : Parts) (label : Vec ℕ Global) (objects : Vec Object Global) (turns : ℕ) (parts : Vec InstancePart Global)
    → part_before rest (p.Instance label (record { objects = objects; turns = turns; parts = parts })) ≡ inner label.items (instance (objects_view objects) turns (parts_view parts)) rest
view_instance rest label objects turns parts =
    ap (λ r. inner label.items (instance (objects_view objects) turns r) rest) (rows _ (hidden-the_row-InstancePart-0 parts) ∙ ap parts_of (items_hidden-the_row-InstancePart-0 parts))

-- ---- behind one another

pub followed_assoc : (x y z : Parts) → followed_by (followed_by x y) z ≡ followed_by x (followed_by y z)
followed_assoc no_parts y z = refl
followed_assoc (process p x) y z = ap (process p) (followed_assoc x y z)
followed_assoc (inner label i x) y z = ap (inner label i) (followed_assoc x y z)

pub followed_none : (x : Parts) → followed_by x no_parts ≡ x
followed_none no_parts = refl
followed_none (process p x) = ap (process p) (followed_none x)
followed_none (inner label i x) = ap (inner label i) (followed_none x)

-- what stands before others is followed by them
before : (x : InstancePart) (rest : Parts) → part_before rest x ≡ followed_by (part_before no_parts x) rest
before (p.Process q) rest = refl
before (p.Instance' label objects turns shape parts) rest = refl

push : (xs : List InstancePart) (y : InstancePart) → parts_of (xs ++ y ∷ []) ≡ followed_by (parts_of xs) (part_before no_parts y)
push [] y = refl
push (x ∷ xs) y =
    ap (λ r. part_before r x) (push xs y) ∙ before x (followed_by (parts_of xs) (part_before no_parts y))
    ∙ sym (followed_assoc (part_before no_parts x) (parts_of xs) (part_before no_parts y))
    ∙ ap (λ r. followed_by r (part_before no_parts y)) (sym (before x (parts_of xs)))

pub parts_push : (xs ys : List InstancePart) (y : InstancePart) → ys ≡ xs ++ y ∷ [] → parts_of ys ≡ followed_by (parts_of xs) (part_before no_parts y)
parts_push xs ys y h = ap parts_of h ∙ push xs y

-- ---- their costs

pub followed_costs : (x y : Parts) → parts_costs (followed_by x y) ≡ plus (parts_costs x) (parts_costs y)
followed_costs no_parts y = sym (plus-none (parts_costs y))
followed_costs (process p x) y = ap (plus _) (followed_costs x y) ∙ sym (plus-assoc _ (parts_costs x) (parts_costs y))
followed_costs (inner label i x) y = ap (plus _) (followed_costs x y) ∙ sym (plus-assoc _ (parts_costs x) (parts_costs y))
