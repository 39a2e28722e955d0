-- An architecture, of what its parts break.
use Rattle.std.proofs.Common.{◌≡◌, true, List, ◌++◌, Some, ap, sym, ◌∙◌}
use Rattle.vhdl_tree.specs.Tree as t
use Rattle.vhdl_tree.specs.Tree.{ContextItem}
use Rattle.vhdl_names_rules.specs.units.Units as u
use Rattle.vhdl_names_rules.specs.declared.fault.NameFault.{NameFault}
use Rattle.vhdl_names_rules.specs.Visibility.{Sight, are_distinct, with_declared}
use Rattle.vhdl_names_rules.specs.Packages as packages
use Rattle.vhdl_names_rules.specs.Packages.{Context, sight_of}
use Rattle.vhdl_names_rules.specs.Declarations as are
use Rattle.vhdl_names_rules.specs.Interfaces.{EntityView, declared_names}
use Rattle.vhdl_names_rules.specs.Files as rules
use Rattle.vhdl_names_rules.proofs.laws.Rules.{comes, kept, some_is}
use Rattle.vhdl_names_rules.specs.problems.Broken.{Broken, Tells, ◌▸◌, where_given}
use Rattle.vhdl_names_rules.specs.problems.Declarations.{context, in_order, end_name}
use Rattle.vhdl_names_rules.specs.problems.Files.{declaration, body, architecture_in, architecture}
use Rattle.vhdl_names_rules.proofs.Telling.{behind_kept, told_left, told_same}
use Rattle.vhdl_names_rules.proofs.kept.Declarations.{context_kept}
use Rattle.vhdl_names_rules.proofs.kept.Architectures.{declarations_kept}
use Rattle.vhdl_names_declarations.specs.Entered.{entered, entering}
use Rattle.vhdl_names_interfaces.specs.Views.{sight_behind}

module _ (es : List EntityView) (e : EntityView) (items : List ContextItem) (a : t.Architecture) where
  abbrev statements : t.Concurrents
  statements = t.concurrents_of a.statements

  abbrev inside : Broken
  inside = where_given (packages.context e.context items) (λ c. architecture_in es e c a)

  abbrev at_end : Broken
  at_end = end_name a.name a.end_name

  pub context_told : (f : NameFault) → Tells (context e.context items) f → Tells (architecture es e items a) f
  context_told f w = told_left (context e.context items) (inside ▸ at_end) f w

  -- ---- what is in sight

  record Begins (s : Sight) : Type 0 where
    pub context : Context
    pub given : packages.context e.context items ≡ Some context
    pub sight : sight_of context e.interface.declared ≡ s

  begins : (s : Sight) → sight_behind e items ≡ Some s → Begins s
  begins s h =
      let c = comes (packages.context e.context items) (λ c. Some (sight_of c e.interface.declared)) s h in
      record { context = c.value; given = c.is; sight = some_is (sight_of c.value e.interface.declared) s c.rest }

  -- the rest, behind the context
  behind_context : (c : Context) → packages.context e.context items ≡ Some c → architecture es e items a ≡ (architecture_in es e c a ▸ at_end)
  behind_context c h =
      behind_kept (context e.context items) (inside ▸ at_end) (context_kept items e.context c h)
      ∙ ap (λ o. where_given o (λ c. architecture_in es e c a) ▸ at_end) h

  -- ---- declarations

  abbrev in_turn : Sight → Broken
  in_turn s = in_order with_declared (rules.declaration es) (declaration es) s a.declarations

  abbrev behind : Context → Broken
  behind c = where_given (are.in_order with_declared (rules.declaration es) (sight_of c e.interface.declared) a.declarations)
      (λ ds. body es (sight_of c (e.interface.declared ++ ds.declared)) statements)

  pub declarations_told : (f : NameFault) (s : Sight) → sight_behind e items ≡ Some s
      → Tells (in_order with_declared (rules.declaration es) (declaration es) s a.declarations) f → Tells (architecture es e items a) f
  declarations_told f s h w =
      let b = begins s h in
      told_same (architecture_in es e b.context a ▸ at_end) (architecture es e items a) f (sym (behind_context b.context b.given))
      (told_left (architecture_in es e b.context a) at_end f (told_left (in_turn (sight_of b.context e.interface.declared)) (behind b.context) f
      (told_same (in_turn s) (in_turn (sight_of b.context e.interface.declared)) f (ap in_turn (sym b.sight)) w)))

  -- ---- the rest, behind the declarations

  pub at_body : (s v : Sight) (ds : List u.Declaration) → sight_behind e items ≡ Some s
      → entering (are.in_order with_declared (rules.declaration es)) s a.declarations ≡ Some (v, ds)
      → architecture es e items a ≡ (body es v (t.concurrents_of a.statements) ▸ end_name a.name a.end_name)
  at_body s v ds h k =
      let b = begins s h in
      let x = comes (are.in_order with_declared (rules.declaration es) s a.declarations) (entered s) (v, ds) k in
      let y = kept (are_distinct (declared_names (s.region ++ x.value.declared))) (Some (with_declared s x.value.declared, x.value.analysed)) (v, ds) x.rest in
      let same : with_declared s x.value.declared ≡ v =
      ap (λ (p : Sight × List u.Declaration). p.0) (some_is (with_declared s x.value.declared, x.value.analysed) (v, ds) y.1) in
      let at : with_declared (sight_of b.context e.interface.declared) x.value.declared ≡ v = ap (λ s. with_declared s x.value.declared) b.sight ∙ same in
      let given : are.in_order with_declared (rules.declaration es) (sight_of b.context e.interface.declared) a.declarations ≡ Some x.value =
      ap (λ s. are.in_order with_declared (rules.declaration es) s a.declarations) b.sight ∙ x.is in
      let distinct : are_distinct (declared_names (e.interface.declared ++ x.value.declared)) ≡ true =
      ap (λ (s : Sight). are_distinct (declared_names (s.region ++ x.value.declared))) b.sight ∙ y.0 in
      behind_context b.context b.given
      ∙ ap (λ o. o ▸ at_end)
      (behind_kept (in_turn (sight_of b.context e.interface.declared)) (behind b.context)
      (declarations_kept es (sight_of b.context e.interface.declared) a.declarations x.value given distinct)
      ∙ ap (λ o. where_given o (λ ds. body es (sight_of b.context (e.interface.declared ++ ds.declared)) statements)) given
      ∙ ap (λ v. body es v statements) at)
