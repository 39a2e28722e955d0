-- The values that are set for the generics of a top.
use Rattle.std.proofs.Common.{◌≡◌, ℕ, ◌+◌, ◌<◌, ◌≤◌, Bool, true, false, List, [], ◌∷◌, ◌++◌, length, map, get_or, drop, Err, refl, sym, ap, ◌∙◌, append_assoc, append-nil}
use Rattle.std.specs.Prelude.{◌≢◌, ◌&&◌, ◌||◌, flat_map}
use Rattle.std.specs.List.{list_any, list_all}
use Rattle.std.proofs.lemmas.List.{map-append}
use Rattle.std.proofs.lemmas.List.Folds.{list_any-append}
use Rattle.vhdl_tree.specs.declared.expression.Identifier.{Identifier}
use Rattle.vhdl_tree.specs.View.{ident_view}
use Rattle.vhdl_names_rules.specs.units.Units.{Generic, Entity}
use Rattle.vhdl_names_units.specs.declared.declaration.Generics.{Generics}
use Rattle.vhdl_names_units.specs.declared.declaration.GenericType.{GenericType}
use Rattle.vhdl_names_units.specs.declared.declaration.GenericType.TheVariants as gt
use Rattle.vhdl_names_units.specs.views.Declarations.{generic_type_view, generics_view}
use Rattle.vhdl_expand_rules.specs.declared.fault.ElabProblem.TheVariants.{NoGeneric}
use Rattle.vhdl_expand_rules.specs.Elab.{◌>>◌, unless}
use Rattle.vhdl_expand_rules.specs.Declarations.{interface}
use Rattle.vhdl_expand_rules.specs.Site.{no_site}
use Rattle.vhdl_expand_rules.specs.Tops.{Setting, Top, sets, set_actual, actuals_of, is_integer, is_generic, top_interface}
use Rattle.vhdl_expand_rules.proofs.Items.{next_left, none_left}
use Rattle.vhdl_expand_declarations.specs.Generics.{generic_view}

-- ---- whether a setting is of a generic

pub no_integer : (g : GenericType) → ((s : _) → g ≢ gt.Integers s) → is_integer (generic_type_view g) ≡ false
no_integer (gt.Integers s) h = absurd (h s refl)
no_integer gt.Truths h = refl
no_integer (gt.Values f) h = refl

-- the names of one declaration, where they are integers
pub any_named : (d : Generics) (s : Setting) → is_integer (generic_type_view d.generic_type) ≡ true → (ns : List Identifier)
    → is_generic (map (λ n. generic_view n d) (map ident_view ns)) s ≡ list_any (λ (n : Identifier). sets n.text.items s) ns
any_named d s is [] = refl
any_named d s is (n ∷ ns) =
    ap (λ b. (sets n.text.items s && b) || is_generic (map (λ n. generic_view n d) (map ident_view ns)) s) is
    ∙ ap (λ b. b || is_generic (map (λ n. generic_view n d) (map ident_view ns)) s) (both (sets n.text.items s))
    ∙ ap (λ b. sets n.text.items s || b) (any_named d s is ns)
  where
    both : (b : Bool) → b && true ≡ b
    both true = refl
    both false = refl

-- and where they are none
pub none_named : (d : Generics) (s : Setting) → is_integer (generic_type_view d.generic_type) ≡ false → (ns : List Identifier)
    → is_generic (map (λ n. generic_view n d) (map ident_view ns)) s ≡ false
none_named d s is [] = refl
none_named d s is (n ∷ ns) =
    ap (λ b. (sets n.text.items s && b) || is_generic (map (λ n. generic_view n d) (map ident_view ns)) s) is
    ∙ ap (λ b. b || is_generic (map (λ n. generic_view n d) (map ident_view ns)) s) (neither (sets n.text.items s))
    ∙ none_named d s is ns
  where
    neither : (b : Bool) → b && false ≡ false
    neither true = refl
    neither false = refl

pub next_declared : (s : Setting) (ds : List Generics) (i : ℕ) (d : Generics) → i < length ds → d ≡ get_or ds i d
    → is_generic (flat_map generics_view (drop i ds)) s ≡ (is_generic (generics_view d) s || is_generic (flat_map generics_view (drop (i + 1) ds)) s)
next_declared s ds i d below is =
    ap (λ xs. is_generic (flat_map generics_view xs) s) (next_left ds i d below is)
    ∙ list_any-append (λ (g : Generic). sets g.name s && is_integer g.type) (generics_view d) (flat_map generics_view (drop (i + 1) ds))

-- ---- lists that grow by what is seen of a list

module _ {A B : Type 0} (v : A → B) where
  pub one_pushed : {X : Type 0} (f : X → B) (total : List B) (old new : List A) (xs : List X) (i : ℕ) (x : X) (a : A) → i < length xs → x ≡ get_or xs i x
      → total ≡ map v old ++ map f (drop i xs) → v a ≡ f x → new ≡ old ++ a ∷ [] → total ≡ map v new ++ map f (drop (i + 1) xs)
  one_pushed f total old new xs i x a below is so_far seen more =
      so_far ∙ ap (λ ys. map v old ++ map f ys) (next_left xs i x below is)
      ∙ ap (λ b. map v old ++ b ∷ map f (drop (i + 1) xs)) (sym seen)
      ∙ sym (append_assoc (map v old) (v a ∷ []) (map f (drop (i + 1) xs)))
      ∙ ap (λ ys. ys ++ map f (drop (i + 1) xs)) (sym (map-append v old (a ∷ [])))
      ∙ ap (λ ys. map v ys ++ map f (drop (i + 1) xs)) (sym more)

  pub all_pushed : {X Y : Type 0} (f : X → B) (g : Y → List X) (total : List B) (old new : List A) (ys : List Y) (i : ℕ) (y : Y) → i < length ys → y ≡ get_or ys i y
      → total ≡ map v old ++ map f (flat_map g (drop i ys)) → map v new ≡ map v old ++ map f (g y) → total ≡ map v new ++ map f (flat_map g (drop (i + 1) ys))
  all_pushed f g total old new ys i y below is so_far more =
      so_far ∙ ap (λ zs. map v old ++ map f (flat_map g zs)) (next_left ys i y below is)
      ∙ ap (λ zs. map v old ++ zs) (map-append f (g y) (flat_map g (drop (i + 1) ys)))
      ∙ sym (append_assoc (map v old) (map f (g y)) (map f (flat_map g (drop (i + 1) ys))))
      ∙ ap (λ zs. zs ++ map f (flat_map g (drop (i + 1) ys))) (sym more)

  -- where none is left
  pub none_pushed : {X : Type 0} (f : X → B) (total : List B) (new : List A) (xs : List X) (i : ℕ) → length xs ≤ i → total ≡ map v new ++ map f (drop i xs) → map v new ≡ total
  none_pushed f total new xs i h so_far = sym (so_far ∙ ap (λ ys. map v new ++ map f ys) (none_left xs i h) ∙ append-nil (map v new))

  pub all_done : {X Y : Type 0} (f : X → B) (g : Y → List X) (total : List B) (new : List A) (ys : List Y) (i : ℕ) → length ys ≤ i
      → total ≡ map v new ++ map f (flat_map g (drop i ys)) → map v new ≡ total
  all_done f g total new ys i h so_far = sym (so_far ∙ ap (λ zs. map v new ++ map f (flat_map g zs)) (none_left ys i h) ∙ append-nil (map v new))

-- what is seen of the names of one declaration
pub actuals_named : (ss : List Setting) (d : Generics) (ns : List Identifier)
    → map (λ (g : Generic). set_actual ss g.name g.at) (map (λ n. generic_view n d) (map ident_view ns)) ≡ map (λ (n : Identifier). set_actual ss n.text.items n.at) ns
actuals_named ss d [] = refl
actuals_named ss d (n ∷ ns) = ap (λ xs. set_actual ss n.text.items n.at ∷ xs) (actuals_named ss d ns)

pub some_set : (ss : List Setting) (gs : List Generic) → length ss ≢ 0 → actuals_of ss gs ≡ map (λ (g : Generic). set_actual ss g.name g.at) gs
some_set [] gs h = absurd (h refl)
some_set (s ∷ ss) gs h = refl

pub none_set : (ss : List Setting) (gs : List Generic) → length ss ≡ 0 → actuals_of ss gs ≡ []
none_set [] gs h = refl
none_set (s ∷ ss) gs h = absurd cc

-- ---- the interface of the top

module _ (top : Top) (e : Entity) where
  pub all_known : list_all (is_generic e.generics) top.generics ≡ true → top_interface top e ≡ interface no_site (actuals_of top.generics e.generics) e
  unfolding top_interface
  all_known h = ap (λ b. unless NoGeneric e.at b >> interface no_site (actuals_of top.generics e.generics) e) h

  pub one_unknown : list_all (is_generic e.generics) top.generics ≡ false → top_interface top e ≡ Err (NoGeneric, e.at)
  unfolding top_interface
  one_unknown h = ap (λ b. unless NoGeneric e.at b >> interface no_site (actuals_of top.generics e.generics) e) h
