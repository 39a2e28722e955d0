-- The formals of an interface are its generics and ports, in order (IEEE 1076-2008, 6.5.6).
use Rattle.std.proofs.Common.{◌≡◌, List, [], ◌∷◌, ◌++◌, Option, Some, None, refl, ap, sym, ◌∙◌, subst}
use Rattle.std.specs.List.{filter_map, cons_option}
use Rattle.std.proofs.lemmas.List.{append-nil}
use Rattle.vhdl_names_rules.specs.units.Units as u
use Rattle.vhdl_names_rules.specs.Visibility.{Declared}
use Rattle.vhdl_names_rules.specs.Instances as n
use Rattle.vhdl_names_rules.specs.Instances.{Formal, GenericKind, GenericFormal}
use Rattle.vhdl_names_rules.specs.sound.Expressions.{shape_of}
use Rattle.vhdl_names_laws.specs.Meanings.{kind_shape, type_shape}

-- the formal of a port
pub record IsFormal (f : Formal) (p : u.Port) : Type 0 where
  pub name : p.object.name ≡ f.name
  pub mode : p.mode ≡ f.mode
  pub shape : shape_of p.object.form ≡ type_shape f.type

-- a generic as it is associated is of its type
abbrev pub IsOfType : GenericKind → u.GenericType → Type 0
IsOfType n.integer (u.integers s) = Unit {0}
IsOfType n.boolean u.truths = Unit {0}
IsOfType (n.elements k) (u.values f) = shape_of f ≡ kind_shape k
IsOfType _ _ = ⊥

pub record IsGeneric (f : GenericFormal) (g : u.Generic) : Type 0 where
  pub «type» : IsOfType f.kind g.type

-- each of the one is that of the other at its place
abbrev pub Match : {A B : Type 0} → (A → B → Type 0) → List A → List B → Type 0
Match Is [] [] = Unit {0}
Match Is [] (p ∷ ps) = ⊥
Match Is (f ∷ fs) [] = ⊥
Match Is (f ∷ fs) (p ∷ ps) = Is f p × Match Is fs ps

abbrev pub AreFormals : List Formal → List u.Port → Type 0
AreFormals = Match IsFormal

abbrev pub AreGenerics : List GenericFormal → List u.Generic → Type 0
AreGenerics = Match IsGeneric

picked_append : {A B : Type 0} (pick : A → Option B) (ds es : List A) → filter_map pick (ds ++ es) ≡ filter_map pick ds ++ filter_map pick es
picked_append pick [] es = refl
picked_append {A} {B} pick (d ∷ ds) es = go (pick d) (picked_append pick ds es)
  where
    go : (o : Option B) → filter_map pick (ds ++ es) ≡ filter_map pick ds ++ filter_map pick es
        → cons_option o (filter_map pick (ds ++ es)) ≡ cons_option o (filter_map pick ds) ++ filter_map pick es
    go None h = h
    go (Some c) h = ap (λ xs. c ∷ xs) h

-- where neither has a formal
pub none_picked : {A : Type 0} (pick : Declared → Option A) (ds es : List Declared) → filter_map pick ds ≡ [] → filter_map pick es ≡ [] → filter_map pick (ds ++ es) ≡ []
none_picked pick ds es h e = picked_append pick ds es ∙ ap (λ fs. fs ++ filter_map pick es) h ∙ e

module _ {A B : Type 0} (Is : A → B → Type 0) where
  match_append : (fs gs : List A) (ps qs : List B) → Match Is fs ps → Match Is gs qs → Match Is (fs ++ gs) (ps ++ qs)
  match_append [] gs [] qs h k = k
  match_append (f ∷ fs) gs (p ∷ ps) qs h k = (h.0, match_append fs gs ps qs h.1 k)
  match_append _ gs _ qs h k = absurd h

  module _ (pick : Declared → Option A) (ds es : List Declared) (ps : List B) where
    -- what has no formals adds none
    pub same_formals : filter_map pick es ≡ [] → Match Is (filter_map pick ds) ps → Match Is (filter_map pick (ds ++ es)) ps
    same_formals e h = subst (λ fs. Match Is fs ps) (sym (picked_append pick ds es ∙ ap (λ fs. filter_map pick ds ++ fs) e ∙ append-nil (filter_map pick ds))) h

    pub more_formals : (f : A) (p : B) → filter_map pick es ≡ f ∷ [] → Match Is (filter_map pick ds) ps → Is f p → Match Is (filter_map pick (ds ++ es)) (ps ++ p ∷ [])
    more_formals f p e h k =
        subst (λ fs. Match Is fs (ps ++ p ∷ [])) (sym (picked_append pick ds es ∙ ap (λ fs. filter_map pick ds ++ fs) e))
        (match_append (filter_map pick ds) (f ∷ []) ps (p ∷ []) h (k, tt))
