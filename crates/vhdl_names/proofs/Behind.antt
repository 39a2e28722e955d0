-- An architecture, in the order of its parts.
use Rattle.std.proofs.Common.{◌≡◌, Bool, true, false, List, ◌++◌, Option, Some, refl, ap, ◌∙◌}
use Rattle.vhdl_tree.specs.Tree as t
use Rattle.vhdl_tree.specs.Tree.{ContextItem}
use Rattle.vhdl_names_rules.specs.units.Units as u
use Rattle.vhdl_names_rules.specs.Rules.{◌>>=◌, ◌>>◌, met}
use Rattle.vhdl_names_rules.specs.Visibility.{Declared, Sight, Declares, are_distinct, ends, with_declared}
use Rattle.vhdl_names_rules.specs.Packages.{context, sight_of}
use Rattle.vhdl_names_rules.specs.Declarations.{in_order}
use Rattle.vhdl_names_rules.specs.Interfaces.{EntityView, declared_names}
use Rattle.vhdl_names_rules.specs.Concurrent.{concurrents, concurrent_labels}
use Rattle.vhdl_names_rules.specs.Files.{declaration, labelled, architecture}
use Rattle.vhdl_names_units.proofs.Lists.{bound, inner}
use Rattle.vhdl_names_declarations.specs.Entered.{entered, entering, more}
use Rattle.vhdl_names_declarations.proofs.Regions.{more_split}
use Rattle.vhdl_names_interfaces.specs.Views.{sight_behind}
use Rattle.vhdl_names.specs.steps.Architectures as steps
use Rattle.vhdl_names.specs.steps.Architectures.{with_region}

abbrev pair : {A B : Type 0} → A → B → A × B
pair x y = (x, y)

module _ (all : List EntityView) (e : EntityView) (items : List ContextItem) (a : t.Architecture) where
  abbrev labels : List Declared
  labels = labelled (concurrent_labels (t.concurrents_of a.statements))

  -- what is made of the region, behind all declarations and labels
  abbrev rest : Sight → List u.Declaration → Option (List Declared) → Option u.Architecture
  rest s ds o = o >>= λ region. (concurrents all (with_region s region) (t.concurrents_of a.statements) >>= λ body. (met (ends a.name.text a.end_name) >>
      Some (record { declarations = ds; statements = body })))

  -- the rule of the whole region, and the region, are what its parts give one after another
  by_parts : (s : Sight) (x : Declares u.Declaration)
      → rest s x.analysed (more s.region (x.declared ++ labels)) ≡ (entered s x >>= λ w. steps.body all w.0 w.1 a)
  by_parts s x = ap (rest s x.analysed) (more_split s.region x.declared labels) ∙ go (are_distinct (declared_names (s.region ++ x.declared)))
    where
      go : (b : Bool) → rest s x.analysed ((met b >>= λ _. Some (s.region ++ x.declared)) >>= λ r. more r labels)
          ≡ ((met b >>= λ _. Some (pair (with_declared s x.declared) x.analysed)) >>= λ w. steps.body all w.0 w.1 a)
      go true = refl
      go false = refl

  ruled : (s : Sight) (x : Declares u.Declaration) (region : List Declared)
      → (met (are_distinct (declared_names region)) >> (concurrents all (with_region s region) (t.concurrents_of a.statements) >>= λ body.
      (met (ends a.name.text a.end_name) >> let r : Option u.Architecture = Some (record { declarations = x.analysed; statements = body }) in r)))
      ≡ rest s x.analysed (met (are_distinct (declared_names region)) >>= λ _. Some region)
  ruled s x region = go (are_distinct (declared_names region))
    where
      go : (b : Bool) → (met b >> (concurrents all (with_region s region) (t.concurrents_of a.statements) >>= λ body.
          (met (ends a.name.text a.end_name) >> let r : Option u.Architecture = Some (record { declarations = x.analysed; statements = body }) in r)))
          ≡ rest s x.analysed (met b >>= λ _. Some region)
      go true = refl
      go false = refl

  pub in_parts : architecture all e items a ≡ steps.architecture all e items a
  unfolding architecture
  in_parts =
      bound (context e.context items) _ (λ c. entering (in_order with_declared (declaration all)) (sight_of c e.interface.declared) a.declarations >>= λ w. steps.body all w.0 w.1 a)
      (λ c.
      bound (in_order with_declared (declaration all) (sight_of c e.interface.declared) a.declarations) _
      (λ x. entered (sight_of c e.interface.declared) x >>= λ w. steps.body all w.0 w.1 a)
      (λ x. ruled (sight_of c e.interface.declared) x (e.interface.declared ++ (x.declared ++ labels)) ∙ by_parts (sight_of c e.interface.declared) x)
      ∙ inner (in_order with_declared (declaration all) (sight_of c e.interface.declared) a.declarations) (entered (sight_of c e.interface.declared)) (λ w. steps.body all w.0 w.1 a))
      ∙ inner (context e.context items) (λ c. Some (sight_of c e.interface.declared))
      (λ s. entering (in_order with_declared (declaration all)) s a.declarations >>= λ w. steps.body all w.0 w.1 a)

  abbrev behind : Option Sight → Option u.Architecture
  behind o = o >>= λ s. (entering (in_order with_declared (declaration all)) s a.declarations >>= λ w. steps.body all w.0 w.1 a)

  pub then_within : (s : Sight) → sight_behind e items ≡ Some s → architecture all e items a ≡ steps.within all s a
  then_within s h = in_parts ∙ ap behind h
