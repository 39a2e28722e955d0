-- What contracts see of two lists, compared in pairs.
use Rattle.std.proofs.Common.{◌≡◌, Bool, ◌&&◌, List, [], ◌∷◌, map, Vec, Global, refl, ap}
use Rattle.vhdl_tree.specs.declared.expression.Identifier.{Identifier}
use Rattle.vhdl_tree.specs.declared.declaration.Generic.{Generic}
use Rattle.vhdl_tree.specs.declared.declaration.Port.{Port}
use Rattle.vhdl_tree.specs.View.{ident_view, idents_view, generic_view, generics_view, port_view, ports_view}
use Rattle.vhdl_names_rules.specs.SameText.{same_each, same_name, same_generic, same_port}

module _ {A B : Type 0} (view : A → B) (same : B → B → Bool) where
  pub each_alike : (xs ys : List A) → same_each same (map view xs) (map view ys) ≡ same_each (λ x y. same (view x) (view y)) xs ys
  each_alike [] [] = refl
  each_alike [] (y ∷ ys) = refl
  each_alike (x ∷ xs) [] = refl
  each_alike (x ∷ xs) (y ∷ ys) = ap (λ b. same (view x) (view y) && b) (each_alike xs ys)

pub names_alike : (v w : Vec Identifier Global) → same_each same_name (idents_view v) (idents_view w) ≡ same_each (λ x y. same_name (ident_view x) (ident_view y)) v.items w.items
names_alike v w = each_alike ident_view same_name v.items w.items

pub generics_alike : (v w : Vec Generic Global) → same_each same_generic (generics_view v) (generics_view w) ≡ same_each (λ x y. same_generic (generic_view x) (generic_view y)) v.items w.items
generics_alike v w = each_alike generic_view same_generic v.items w.items

pub ports_alike : (v w : Vec Port Global) → same_each same_port (ports_view v) (ports_view w) ≡ same_each (λ x y. same_port (port_view x) (port_view y)) v.items w.items
ports_alike v w = each_alike port_view same_port v.items w.items
