-- The rules of instances, over the table of entities.
use Rattle.std.proofs.Common.{◌≡◌, ℕ, zero, suc, ◌+◌, arith, Bool, true, false, List, [], ◌∷◌, map, drop, Option, Some, None, Vec, Global, refl, ap, sym, ◌∙◌}
use Rattle.std.specs.Prelude.{bytes_eq, option_map, slice_get, find, position, filter_map, if◌then◌else◌, codes}
use Rattle.std.specs.List.{position_from, enumerate_from}
use Rattle.std.proofs.lemmas.Option.{slice_get-map}
use Rattle.std.proofs.lemmas.Iterator.Adapters.{position_from-zero}
use Rattle.vhdl_tree.specs.Tree as t
use Rattle.vhdl_tree.specs.Tree.{Ident, Expr, Association}
use Rattle.vhdl_names_rules.specs.units.Expressions.{SignalPart}
use Rattle.vhdl_names_rules.specs.units.Units as u
use Rattle.vhdl_names_rules.specs.Rules.{◌>>=◌, ◌>>◌, met, if_any, all_of}
use Rattle.vhdl_names_rules.specs.Visibility.{Name, Sight}
use Rattle.vhdl_names_rules.specs.Instances as rules
use Rattle.vhdl_names_rules.specs.Instances.{Formal, GenericFormal, associated, is_architecture, generic_formal, generic_actual, port_formal, port_actual}
use Rattle.vhdl_names_rules.specs.Interfaces.{EntityView, entity_named}
use Rattle.vhdl_names_units.proofs.Lists.{bound}
use Rattle.vhdl_names_instances.specs.Table.{Seen, seen, seen_view, type_of, kind_of, items, AreEntities}
use Rattle.vhdl_names_instances.specs.declared.instances.Formals.{Formals}
use Rattle.vhdl_names_instances.specs.declared.instances.InstanceEntities.{InstanceEntities}
use Rattle.vhdl_names_instances.specs.steps.Actuals as actuals
use Rattle.vhdl_names_instances.specs.steps.Generics as generics
use Rattle.vhdl_names_instances.specs.steps.Instances as steps
use Rattle.vhdl_names_units.specs.Once.{names_view}
use Rattle.vhdl_names_instances.proofs.Sorted.{ports, port_name, generics_of, generic_name}

-- ---- places of names

from_map : {A B : Type 0} (f : A → B) (p : B → Bool) (i : ℕ) (xs : List A) → position_from p i (map f xs) ≡ position_from (λ x. p (f x)) i xs
from_map f p i [] = refl
from_map f p i (x ∷ xs) = ap (λ o. if p (f x) then Some i else o) (from_map f p (i + 1) xs)

pub named_place : (n : Name) (ks : List (Vec ℕ Global)) (o : Option ℕ) → o ≡ position (λ k. bytes_eq n k.items) ks → position_from (bytes_eq n) 0 (map items ks) ≡ o
named_place n ks o e = from_map items (bytes_eq n) 0 ks ∙ sym (e ∙ position_from-zero (λ k. bytes_eq n k.items) ks)

pub first_at : {A : Type 0} (xs : List A) (i : ℕ) (y : A) (ys : List A) → drop i xs ≡ y ∷ ys → slice_get xs i ≡ Some y
first_at [] zero y ys h = cc
first_at [] (suc i) y ys h = cc
first_at (x ∷ xs) zero y ys h = let q : x ≡ y = cc in ap Some q
first_at (x ∷ xs) (suc i) y ys h = first_at xs i y ys h

pub rest_at : {A : Type 0} (xs : List A) (i : ℕ) (y : A) (ys : List A) → drop i xs ≡ y ∷ ys → drop (suc i) xs ≡ ys
rest_at [] zero y ys h = cc
rest_at [] (suc i) y ys h = cc
rest_at (x ∷ xs) zero y ys h = cc
rest_at (x ∷ xs) (suc i) y ys h = rest_at xs i y ys h

-- an entity with its number
abbrev pub beside : ℕ → EntityView → Option (ℕ × EntityView)
beside k e = Some (k, e)

found_from : (p : EntityView → Bool) (all : List EntityView) (i : ℕ) (es : List EntityView) → drop i all ≡ es
    → find (λ e. p e.1) (enumerate_from i es) ≡ (position_from p i es >>= λ j. slice_get all j >>= beside j)
found_from p all i [] h = refl
found_from p all i (e ∷ es) h =
    let s : suc i ≡ i + 1 = omega arith in
    go (p e) (found_from p all (i + 1) es (ap (λ j. drop j all) (sym s) ∙ rest_at all i e es h))
  where
    go : (b : Bool) → find (λ e. p e.1) (enumerate_from (i + 1) es) ≡ (position_from p (i + 1) es >>= λ j. slice_get all j >>= beside j)
        → (if b then Some (i, e) else find (λ e. p e.1) (enumerate_from (i + 1) es))
        ≡ ((if b then Some i else position_from p (i + 1) es) >>= λ j. slice_get all j >>= beside j)
    go true k = ap (λ o. o >>= beside i) (sym (first_at all i e es h))
    go false k = k

-- ---- which entity

-- an entity at its number, as it is seen
pub formals_at : (fs : List Formals) (i : ℕ) (o : Option Formals) → o ≡ slice_get fs i → slice_get (map seen_view fs) i ≡ option_map seen_view o
formals_at fs i o e = slice_get-map seen_view fs i ∙ ap (option_map seen_view) (sym e)

pub seen_at : (seens : List Seen) (a : Option Ident) (k : ℕ) (e : Seen) → Some e ≡ slice_get seens k
    → steps.with_architecture seens a k ≡ (met (is_architecture a e.architecture) >> Some k)
seen_at seens a k e h = ap (λ o. o >>= λ e. met (is_architecture a e.architecture) >> Some k) (sym h)

pub instance_seen : (names : List Name) (seens : List Seen) (sight : Sight) (label : Ident) (i : t.Instance) (k : ℕ) (e : Seen)
    → steps.instantiated names seens sight i.unit ≡ Some k → Some e ≡ slice_get seens k
    → steps.instance names seens sight label i ≡ steps.with_formals sight label k e (all_of i.generics) (all_of i.ports)
instance_seen names seens sight label i k e p q =
    ap (λ o. o >>= λ k. slice_get seens k >>= λ e. steps.with_formals sight label k e (all_of i.generics) (all_of i.ports)) p
    ∙ ap (λ o. o >>= λ e. steps.with_formals sight label k e (all_of i.generics) (all_of i.ports)) (sym q)

module _ (es : List EntityView) where
  pub found : (n : Name) → entity_named es n ≡ (position_from (bytes_eq n) 0 (map (λ (e : EntityView). e.name) es) >>= λ j. slice_get es j >>= beside j)
  found n =
      found_from (λ e. bytes_eq n e.name) es 0 es refl
      ∙ ap (λ o. o >>= λ j. slice_get es j >>= beside j) (sym (from_map (λ (e : EntityView). e.name) (bytes_eq n) 0 es))

  entity_by : (library n : Ident) (a : Option Ident) (sight : Sight)
      → rules.instantiated es sight (t.entity_unit library n a) ≡ steps.entity_of (map (λ (e : EntityView). e.name) es) (map seen es) library n a
  unfolding rules.instantiated
  entity_by library n a sight =
      ap (λ o. met (bytes_eq library.text (codes "work")) >> (o >>= λ e. met (is_architecture a e.1.architecture) >> Some e.0)) (found n.text)
      ∙ ap (λ o. met (bytes_eq library.text (codes "work")) >> o) (go (position_from (bytes_eq n.text) 0 (map (λ (e : EntityView). e.name) es)))
    where
      at : (j : ℕ) (o : Option EntityView) (q : Option Seen) → q ≡ option_map seen o
          → ((o >>= beside j) >>= λ e. met (is_architecture a e.1.architecture) >> Some e.0)
          ≡ (q >>= λ e. met (is_architecture a e.architecture) >> Some j)
      at j None q h = ap (λ q. q >>= λ e. met (is_architecture a e.architecture) >> Some j) (sym h)
      at j (Some e) q h = ap (λ q. q >>= λ e. met (is_architecture a e.architecture) >> Some j) (sym h)

      go : (o : Option ℕ)
          → ((o >>= λ j. slice_get es j >>= beside j) >>= λ e. met (is_architecture a e.1.architecture) >> Some e.0)
          ≡ (o >>= λ k. slice_get (map seen es) k >>= λ e. met (is_architecture a e.architecture) >> Some k)
      go None = refl
      go (Some j) = at j (slice_get es j) (slice_get (map seen es) j) (slice_get-map seen es j)

  pub instantiated_by : (sight : Sight) (i : t.Instantiated)
      → rules.instantiated es sight i ≡ steps.instantiated (map (λ (e : EntityView). e.name) es) (map seen es) sight i
  unfolding rules.instantiated
  instantiated_by sight (t.entity_unit library n a) = entity_by library n a sight
  instantiated_by sight (t.component_unit word n) = refl

  -- ---- formals by their types

  generic_entry_by : (sight : Sight) (f : GenericFormal) (e : Option Expr) → if_any (generic_actual sight f) e ≡ generics.generic_entry sight (kind_of f) e
  generic_entry_by sight f None = refl
  generic_entry_by sight f (Some e) = ap (λ o. o >>= λ y. Some (Some y)) (sym ((generics_of sight).same_given f e))

  generics_by : (sight : Sight) (fs : List GenericFormal) (es : List (Option Expr)) → rules.generic_actuals sight fs es ≡ generics.generic_actuals sight (map kind_of fs) es
  generics_by sight [] es = refl
  generics_by sight (f ∷ fs) [] = refl
  generics_by sight (f ∷ fs) (e ∷ es) =
      ap (λ o. o >>= λ p. rules.generic_actuals sight fs es >>= λ ps. Some (p ∷ ps)) (generic_entry_by sight f e)
      ∙ ap (λ o. generics.generic_entry sight (kind_of f) e >>= λ p. o >>= λ ps. Some (p ∷ ps)) (generics_by sight fs es)

  port_entry_by : (sight : Sight) (f : Formal) (e : Option Expr) → if_any (port_actual sight f) e ≡ actuals.port_entry sight (type_of f) e
  port_entry_by sight f None = refl
  port_entry_by sight f (Some e) = ap (λ o. o >>= λ y. Some (Some y)) (sym ((ports sight).same_given f e))

  ports_by : (sight : Sight) (fs : List Formal) (es : List (Option Expr)) → rules.port_actuals sight fs es ≡ actuals.port_actuals sight (map type_of fs) es
  ports_by sight [] es = refl
  ports_by sight (f ∷ fs) [] = refl
  ports_by sight (f ∷ fs) (e ∷ es) =
      ap (λ o. o >>= λ p. rules.port_actuals sight fs es >>= λ ps. Some (p ∷ ps)) (port_entry_by sight f e)
      ∙ ap (λ o. actuals.port_entry sight (type_of f) e >>= λ p. o >>= λ ps. Some (p ∷ ps)) (ports_by sight fs es)

  -- ---- the whole

  abbrev made : Ident → ℕ → List (Option u.Fixed) → List (Option SignalPart) → Option u.Instance
  made label k generics ports = Some (record { at = label.at; label = label.text; unit = k; generics = generics; ports = ports })

  formals_by : (sight : Sight) (label : Ident) (k : ℕ) (e : EntityView) (as' bs : List Association)
      → (associated (map generic_name (filter_map generic_formal e.interface.declared)) as' >>= λ gs. rules.generic_actuals sight (filter_map generic_formal e.interface.declared) gs >>= λ generics.
      associated (map port_name (filter_map port_formal e.interface.declared)) bs >>= λ ps. rules.port_actuals sight (filter_map port_formal e.interface.declared) ps >>= λ ports. made label k generics ports)
      ≡ steps.with_formals sight label k (seen e) as' bs
  formals_by sight label k e as' bs =
      bound (associated (map generic_name (filter_map generic_formal e.interface.declared)) as') _ _ (λ gs.
      ap (λ o. o >>= λ generics. associated (map port_name (filter_map port_formal e.interface.declared)) bs >>= λ ps.
      rules.port_actuals sight (filter_map port_formal e.interface.declared) ps >>= λ ports. made label k generics ports) (generics_by sight (filter_map generic_formal e.interface.declared) gs)
      ∙ bound (generics.generic_actuals sight (map kind_of (filter_map generic_formal e.interface.declared)) gs) _ _ (λ generics.
      bound (associated (map port_name (filter_map port_formal e.interface.declared)) bs) _ _ (λ ps.
      ap (λ o. o >>= λ ports. made label k generics ports) (ports_by sight (filter_map port_formal e.interface.declared) ps))))

  instance_by : (sight : Sight) (label : Ident) (i : t.Instance)
      → rules.instance es sight label i ≡ steps.instance (map (λ (e : EntityView). e.name) es) (map seen es) sight label i
  unfolding rules.instance
  instance_by sight label i =
      ap (λ o. o >>= λ k. slice_get es k >>= λ e. associated (map generic_name (filter_map generic_formal e.interface.declared)) (all_of i.generics)
      >>= λ gs. rules.generic_actuals sight (filter_map generic_formal e.interface.declared) gs >>= λ generics. associated (map port_name (filter_map port_formal e.interface.declared)) (all_of i.ports)
      >>= λ ps. rules.port_actuals sight (filter_map port_formal e.interface.declared) ps >>= λ ports. made label k generics ports) (instantiated_by sight i.unit)
      ∙ bound (steps.instantiated (map (λ (e : EntityView). e.name) es) (map seen es) sight i.unit) _ _
      (λ k. bound (slice_get es k) _ _ (λ e. formals_by sight label k e (all_of i.generics) (all_of i.ports))
      ∙ go k (slice_get es k) ∙ ap (λ o. o >>= λ e. steps.with_formals sight label k e (all_of i.generics) (all_of i.ports)) (sym (slice_get-map seen es k)))
    where
      go : (k : ℕ) (o : Option EntityView) → (o >>= λ e. steps.with_formals sight label k (seen e) (all_of i.generics) (all_of i.ports))
          ≡ (option_map seen o >>= λ e. steps.with_formals sight label k e (all_of i.generics) (all_of i.ports))
      go k None = refl
      go k (Some e) = refl

pub instance_gives : (table : InstanceEntities) (es : List EntityView) → AreEntities table es → (sight : Sight) (label : Ident) (i : t.Instance)
    → rules.instance es sight label i ≡ steps.instance (names_view table.names) (map seen_view table.formals.items) sight label i
instance_gives table es are sight label i =
    instance_by es sight label i
    ∙ ap (λ ns. steps.instance ns (map seen es) sight label i) (sym are.names)
    ∙ ap (λ fs. steps.instance (names_view table.names) fs sight label i) (sym are.formals)
