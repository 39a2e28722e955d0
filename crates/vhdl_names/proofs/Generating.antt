-- Concurrent statements, one after another.
use Rattle.std.proofs.Common.{◌≡◌, ℕ, Bool, true, false, List, [], ◌∷◌, Option, Some, None, refl, ap, ◌∙◌}
use Rattle.std.specs.Prelude.{option_map}
use Rattle.vhdl_tree.specs.Tree as t
use Rattle.vhdl_tree.specs.Tree.{Ident}
use Rattle.vhdl_tree.specs.View as tree
use Rattle.vhdl_tree.specs.declared.concurrent.Generate.{Generate, out-Generate}
use Rattle.vhdl_tree.specs.declared.concurrent.Concurrent.TheVariants as c
use Rattle.vhdl_tree.proofs.RowsConcurrents.{view_generate}
use Rattle.vhdl_names_rules.specs.units.Units as u
use Rattle.vhdl_names_rules.specs.Rules.{◌>>=◌, ◌>>◌, met}
use Rattle.vhdl_names_rules.specs.Visibility.{Sight, are_distinct, ends}
use Rattle.vhdl_names_rules.proofs.laws.Rules.{some_is}
use Rattle.vhdl_names_rules.specs.Interfaces.{EntityView}
use Rattle.vhdl_names_rules.specs.Instances.{instance}
use Rattle.vhdl_names_rules.specs.Concurrent as rules
use Rattle.vhdl_names_rules.specs.Concurrent.{concurrent_labels, sight_within, generated}
use Rattle.vhdl_names_units.specs.views.Concurrent.{concurrents_of}
use Rattle.vhdl_names_units.proofs.Lists.{bound}
use Rattle.vhdl_names.specs.steps.Concurrents as steps
use Rattle.vhdl_names.specs.steps.Concurrents.{with_any}

pub generate_is : (g : Generate) → tree.concurrent_view (c.Generate g)
    ≡ t.generated (tree.ident_view (out-Generate g).label) (out-Generate g).at (tree.scheme_view (out-Generate g).scheme) (out-Generate g).begin_word
    (t.concurrents_of (tree.concurrents_view (out-Generate g).statements)) (tree.option_ident_view (out-Generate g).end_label)
generate_is g =
    view_generate (out-Generate g).label (out-Generate g).at (out-Generate g).scheme (out-Generate g).begin_word (out-Generate g).statements (out-Generate g).end_label

module _ (f : Sight → Ident → t.Instance → Option u.Instance) where
  each_statement : (sight : Sight) (cs : List t.Concurrent) → steps.concurrents f sight (t.concurrents_of cs) ≡ option_map concurrents_of (steps.all f sight cs)
  each_statement sight [] = refl
  each_statement sight (t.assertion a ∷ cs) = each_statement sight cs ∙ skip (steps.all f sight cs)
    where
      skip : (o : Option (List u.Concurrent)) → option_map concurrents_of o ≡ option_map concurrents_of (o >>= λ xs. Some xs)
      skip None = refl
      skip (Some xs) = refl
  each_statement sight (x ∷ cs) =
      bound (steps.concurrent f sight x) _ _ (λ y. ap (λ o. o >>= λ ys. Some (u.concurrent y ys)) (each_statement sight cs) ∙ go y (steps.all f sight cs))
      ∙ end (steps.concurrent f sight x) (steps.all f sight cs)
    where
      go : (y : u.Concurrent) (o : Option (List u.Concurrent)) → (option_map concurrents_of o >>= λ ys. Some (u.concurrent y ys)) ≡ option_map concurrents_of (o >>= λ ys. Some (y ∷ ys))
      go y None = refl
      go y (Some ys) = refl

      end : (p : Option u.Concurrent) (o : Option (List u.Concurrent)) → (p >>= λ y. option_map concurrents_of (o >>= λ ys. Some (y ∷ ys)))
          ≡ option_map concurrents_of (option_map Some p >>= λ x. o >>= λ xs. Some (with_any x xs))
      end None o = refl
      end (Some y) o = refl

  generate_by : (sight : Sight) (label : Ident) (at : ℕ) (k : t.Scheme) (word : Bool) (cs : List t.Concurrent) (end : Option Ident)
      → steps.concurrent f sight (t.generated label at k word (t.concurrents_of cs) end) ≡ steps.generate f sight label at k cs end
  generate_by sight label at k word cs end =
      ap (λ o. met (ends label.text end) >> (met (are_distinct (concurrent_labels (t.concurrents_of cs))) >> (o >>= λ b. generated sight label.text at k b)))
      (each_statement (sight_within sight k) cs)
      ∙ go (ends label.text end) (are_distinct (concurrent_labels (t.concurrents_of cs))) (steps.all f (sight_within sight k) cs)
    where
      go : (e d : Bool) (o : Option (List u.Concurrent))
          → (met e >> (met d >> (option_map concurrents_of o >>= λ b. generated sight label.text at k b)))
          ≡ ((met d >> o) >>= λ xs. met e >> generated sight label.text at k (concurrents_of xs))
      go true true None = refl
      go true true (Some xs) = refl
      go true false o = refl
      go false true None = refl
      go false true (Some xs) = refl
      go false false o = refl

  pub generate_gives : (sight : Sight) (g : Generate) → steps.concurrent f sight (tree.concurrent_view (c.Generate g))
      ≡ steps.generate f sight (tree.ident_view (out-Generate g).label) (out-Generate g).at (tree.scheme_view (out-Generate g).scheme) (tree.concurrents_view (out-Generate g).statements)
      (tree.option_ident_view (out-Generate g).end_label)
  generate_gives sight g =
      ap (steps.concurrent f sight) (generate_is g)
      ∙ generate_by sight (tree.ident_view (out-Generate g).label) (out-Generate g).at (tree.scheme_view (out-Generate g).scheme) (out-Generate g).begin_word (tree.concurrents_view (out-Generate g).statements)
      (tree.option_ident_view (out-Generate g).end_label)

  -- where what it goes by is refused, the generate is
  pub no_scheme : (sight : Sight) (label : Ident) (at : ℕ) (k : t.Scheme) (cs : List t.Concurrent) (end : Option Ident)
      → ((b : u.Concurrents) → generated sight label.text at k b ≡ None) → steps.generate f sight label at k cs end ≡ None
  no_scheme sight label at k cs end h = go (are_distinct (concurrent_labels (t.concurrents_of cs))) (ends label.text end) (steps.all f (sight_within sight k) cs)
    where
      go : (d e : Bool) (o : Option (List u.Concurrent)) → ((met d >> o) >>= λ xs. met e >> generated sight label.text at k (concurrents_of xs)) ≡ None
      go true true None = refl
      go true true (Some xs) = h (concurrents_of xs)
      go true false None = refl
      go true false (Some xs) = refl
      go false e o = refl

  -- where the statements in it are refused, and where its end is
  module _ (sight : Sight) (label : Ident) (at : ℕ) (k : t.Scheme) (cs : List t.Concurrent) (end : Option Ident) where
    pub no_body : (within : Sight) → Some (sight_within sight k) ≡ Some within → steps.labelled f within cs ≡ None → steps.generate f sight label at k cs end ≡ None
    no_body within e h =
        ap (λ (o : Option (List u.Concurrent)). o >>= λ xs. met (ends label.text end) >> generated sight label.text at k (concurrents_of xs))
        (ap (λ s. steps.labelled f s cs) (some_is (sight_within sight k) within e) ∙ h)

    pub no_end : met (ends label.text end) ≡ None → steps.generate f sight label at k cs end ≡ None
    no_end h = go (steps.labelled f (sight_within sight k) cs)
      where
        go : (o : Option (List u.Concurrent)) → (o >>= λ xs. met (ends label.text end) >> generated sight label.text at k (concurrents_of xs)) ≡ None
        go None = refl
        go (Some xs) = ap (λ o. o >> generated sight label.text at k (concurrents_of xs)) h

  module _ (es : List EntityView) (h : (sight : Sight) (label : Ident) (i : t.Instance) → instance es sight label i ≡ f sight label i) where
    mutual
      unfolding rules.concurrent rules.concurrents

      pub by_instance : (sight : Sight) (x : t.Concurrent) → rules.concurrent es sight x ≡ steps.concurrent f sight x
      by_instance sight (t.assignment a) = refl
      by_instance sight (t.selected label a) = refl
      by_instance sight (t.process label p) = refl
      by_instance sight (t.instance label i) = ap (option_map u.instance) (h sight label i)
      by_instance sight (t.generated label at k word cs end) =
          ap (λ o. met (ends label.text end) >> (met (are_distinct (concurrent_labels cs)) >> (o >>= λ b. generated sight label.text at k b)))
          (by_instances (sight_within sight k) cs)
      by_instance sight (t.assertion a) = refl

      by_instances : (sight : Sight) (cs : t.Concurrents) → rules.concurrents es sight cs ≡ steps.concurrents f sight cs
      by_instances sight t.no_concurrents = refl
      by_instances sight (t.concurrent (t.assertion a) cs) = by_instances sight cs
      by_instances sight (t.concurrent x cs) =
          ap (λ o. o >>= λ y. rules.concurrents es sight cs >>= λ ys. Some (u.concurrent y ys)) (by_instance sight x)
          ∙ bound (steps.concurrent f sight x) _ _ (λ y. ap (λ o. o >>= λ ys. Some (u.concurrent y ys)) (by_instances sight cs))

    pub concurrents_by : (sight : Sight) (cs : List t.Concurrent) → rules.concurrents es sight (t.concurrents_of cs) ≡ option_map concurrents_of (steps.all f sight cs)
    concurrents_by sight cs = by_instances sight (t.concurrents_of cs) ∙ each_statement sight cs
