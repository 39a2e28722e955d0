-- What is told of the maps of an instance, over what is seen of its entity.
use Rattle.std.proofs.Common.{◌≡◌, ℕ, true, List, map, Option, Some, None, refl, ap, sym, ◌∙◌}
use Rattle.std.specs.Prelude.{filter_map, is_some}
use Rattle.vhdl_tree.specs.Tree as t
use Rattle.vhdl_tree.specs.Tree.{Ident, Expr, Association}
use Rattle.vhdl_names_rules.specs.declared.fault.NameFault.{NameFault}
use Rattle.vhdl_names_rules.specs.units.Expressions.{SignalPart}
use Rattle.vhdl_names_rules.specs.units.Units as u
use Rattle.vhdl_names_rules.specs.Rules.{◌>>=◌, all_of}
use Rattle.vhdl_names_rules.specs.Visibility.{Sight}
use Rattle.vhdl_names_rules.specs.Instances.{Formal, GenericFormal, associated, generic_formal, port_formal}
use Rattle.vhdl_names_rules.specs.Interfaces.{EntityView}
use Rattle.vhdl_names_rules.specs.problems.Broken.{Broken, Tells}
use Rattle.vhdl_names_rules.specs.problems.Instances.{generic_map, port_map, maps}
use Rattle.vhdl_names_rules.proofs.Telling.{IsKept, told_same, told_left, told_right}
use Rattle.vhdl_names_instances.specs.Table.{Seen, seen, type_of, kind_of}
use Rattle.vhdl_names_instances.specs.steps.Actuals.{port_actuals}
use Rattle.vhdl_names_instances.specs.steps.Generics.{generic_actuals}
use Rattle.vhdl_names_instances.specs.steps.Instances.{with_formals}
use Rattle.vhdl_names_instances.specs.steps.Maps as steps
use Rattle.vhdl_names_instances.proofs.Sorted.{port_name, generic_name}

module _ (sight : Sight) (e : EntityView) (i : t.Instance) where
  abbrev generics : List GenericFormal
  generics = filter_map generic_formal e.interface.declared

  abbrev ports : List Formal
  ports = filter_map port_formal e.interface.declared

  abbrev generic : Broken
  generic = generic_map sight generics (all_of i.generics)

  abbrev port : Broken
  port = port_map sight ports (all_of i.ports)

  pub generic_map_told : (f : NameFault) (as' : List Association) → as' ≡ all_of i.generics → Tells (generic_map sight generics as') f → Tells (maps sight e i) f
  generic_map_told f as' h w = told_left generic port f (told_same (generic_map sight generics as') generic f (ap (generic_map sight generics) h) w)

  pub port_map_told : (f : NameFault) (as' : List Association) → as' ≡ all_of i.generics → IsKept (generic_map sight generics as') → (bs : List Association) → bs ≡ all_of i.ports
      → Tells (port_map sight ports bs) f → Tells (maps sight e i) f
  port_map_told f as' h k bs g w =
      told_right generic port f (sym (ap (generic_map sight generics) h) ∙ k) (told_same (port_map sight ports bs) port f (ap (port_map sight ports) g) w)

-- where both maps are given, an instance is
both_given : (o : Option (List (Option Expr))) (f : List (Option Expr) → Option (List (Option u.Fixed))) (p : Option (List (Option Expr)))
    (g : List (Option Expr) → Option (List (Option SignalPart))) (made : List (Option u.Fixed) → List (Option SignalPart) → u.Instance)
    → is_some (o >>= f) ≡ true → is_some (p >>= g) ≡ true → is_some (o >>= λ gs. f gs >>= λ x. p >>= λ ps. g ps >>= λ y. Some (made x y)) ≡ true
both_given None f p g made h k = absurd cc
both_given (Some gs) f None g made h k = absurd cc
both_given (Some gs) f (Some ps) g made h k = go (f gs) (g ps) h k
  where
    go : (x : Option (List (Option u.Fixed))) (y : Option (List (Option SignalPart))) → is_some x ≡ true → is_some y ≡ true → is_some (x >>= λ x. y >>= λ y. Some (made x y)) ≡ true
    go None y h k = absurd cc
    go (Some x) None h k = absurd cc
    go (Some x) (Some y) h k = refl

pub maps_given : (sight : Sight) (e : EntityView) (s : Seen) → s ≡ seen e → (label : Ident) (k : ℕ) (as' bs as'' bs' : List Association) → as' ≡ as'' → bs ≡ bs'
    → is_some (steps.generics sight (filter_map generic_formal e.interface.declared) as') ≡ true → is_some (steps.ports sight (filter_map port_formal e.interface.declared) bs) ≡ true
    → is_some (with_formals sight label k s as'' bs') ≡ true
maps_given sight e s is label k as' bs as'' bs' p q h g =
    ap (λ as'. is_some (with_formals sight label k s as' bs')) (sym p)
    ∙ ap (λ bs. is_some (with_formals sight label k s as' bs)) (sym q)
    ∙ ap (λ s. is_some (with_formals sight label k s as' bs)) is
    ∙ both_given (associated (map generic_name (filter_map generic_formal e.interface.declared)) as') (λ gs. generic_actuals sight (map kind_of (filter_map generic_formal e.interface.declared)) gs)
    (associated (map port_name (filter_map port_formal e.interface.declared)) bs) (λ ps. port_actuals sight (map type_of (filter_map port_formal e.interface.declared)) ps)
    (λ generics ports. record { at = label.at; label = label.text; unit = k; generics = generics; ports = ports }) h g
