-- Processes, by their parts.
use Rattle.std.proofs.Common.{◌≡◌, Bool, true, false, List, [], ◌++◌, Option, Some, None, refl, ap, sym, ◌∙◌}
use Rattle.std.specs.Prelude.{option_map, is_some}
use Rattle.vhdl_tree.specs.Tree as t
use Rattle.vhdl_tree.specs.Tree.{Ident}
use Rattle.vhdl_names_rules.specs.units.Statements as s
use Rattle.vhdl_names_rules.specs.units.Units as u
use Rattle.vhdl_names_rules.specs.Rules.{◌>>=◌, ◌>>◌, met}
use Rattle.vhdl_names_rules.specs.Edges.{Edge}
use Rattle.vhdl_names_rules.specs.Visibility.{Sight, Declares, Declared, are_distinct, label_ends, with_variables}
use Rattle.vhdl_names_rules.specs.Declarations.{in_order, process_declaration}
use Rattle.vhdl_names_rules.specs.Interfaces.{declared_names}
use Rattle.vhdl_names_rules.specs.Statements.{statements, statement_labels}
use Rattle.vhdl_names_rules.specs.Concurrent.{sensitivity, awaited, resumed_by, behind_wait, process, label_of}
use Rattle.vhdl_names_units.proofs.Lists.{bound, inner}
use Rattle.vhdl_names.specs.steps.Processes as steps

module _ (sight : Sight) (label : Option Ident) (p : t.Process) (outside : sight.variables ≡ []) where
  abbrev made : u.Sensitivity → List u.Declaration → s.Statements → Option u.Process
  made on vs b = met (label_ends label p.end_label) >> Some (record { at = p.at; label = label_of label; declarations = vs; sensitivity = on; body = b })

  -- behind what is declared
  abbrev rest : u.Sensitivity → Sight × List u.Declaration → Option u.Process
  rest on w = steps.resumed w.0 p on >>= λ r. steps.body w.0 p.statements >>= λ b. steps.behind w.0 p b >>= made r w.1

  abbrev waited : u.Sensitivity → List u.Declaration → Option (Option Edge) → Option s.Statements → Option u.Process
  waited on vs a o = a >>= λ edge. o >>= λ b. made (resumed_by edge on) vs (behind_wait p.wait edge b)

  with_wait : (on : u.Sensitivity) (vs : List u.Declaration) (a : Option (Option Edge)) (l : Bool) (o : Option s.Statements)
      → (met l >> waited on vs a o)
      ≡ (option_map (λ edge. resumed_by edge on) a >>= λ r. (met l >> o) >>= λ b. option_map (λ edge. behind_wait p.wait edge b) a >>= made r vs)
  with_wait on vs None true o = refl
  with_wait on vs None false o = refl
  with_wait on vs (Some edge) true None = refl
  with_wait on vs (Some edge) true (Some b) = refl
  with_wait on vs (Some edge) false o = refl

  with_body : (on : u.Sensitivity) (w : Sight × List u.Declaration) (d l : Bool)
      → (met d >> (met l >> waited on w.1 (awaited w.0 p.sensitivity p.wait) (statements w.0 (t.statements_of p.statements))))
      ≡ ((met d >> Some w) >>= λ w. steps.resumed w.0 p on >>= λ r. (met l >> statements w.0 (t.statements_of p.statements)) >>= λ b. steps.behind w.0 p b >>= made r w.1)
  with_body on w true l = with_wait on w.1 (awaited w.0 p.sensitivity p.wait) l (statements w.0 (t.statements_of p.statements))
  with_body on w false l = refl

  pub process_by : process sight label p ≡ steps.process sight label p
  unfolding process
  process_by =
      bound (sensitivity sight p.sensitivity (is_some p.wait)) _ _ (λ on.
      bound (in_order with_variables process_declaration sight p.declarations) _ (λ x. (met (are_distinct (declared_names (sight.variables ++ x.declared))) >>
      let w : Option (Sight × List u.Declaration) = Some (with_variables sight x.declared, x.analysed) in w)
      >>= rest on) (λ x.
      ap (λ vs. met (are_distinct (declared_names (vs ++ x.declared))) >> (met (are_distinct (statement_labels (t.statements_of p.statements))) >>
      waited on x.analysed (awaited (with_variables sight x.declared) p.sensitivity p.wait) (statements (with_variables sight x.declared) (t.statements_of p.statements)))) (sym outside)
      ∙ with_body on (with_variables sight x.declared, x.analysed) (are_distinct (declared_names (sight.variables ++ x.declared)))
      (are_distinct (statement_labels (t.statements_of p.statements))))
      ∙ inner (in_order with_variables process_declaration sight p.declarations) _ (rest on))

-- ---- outside a process again

abbrev first : {A : Type 0} → Sight → Option (Sight × A) → Sight
first s None = s
first s (Some p) = p.0

abbrev entry : Sight → List u.Declaration → Option (Sight × List u.Declaration)
entry s vs = Some (s, vs)

pub left_process : (outer : Sight) (ds : List t.ProcessDeclaration) (entered done left : Sight) (vs : List u.Declaration) → outer.variables ≡ []
    → steps.declarations_in outer ds ≡ Some (entered, vs) → done ≡ entered
    → ((o : Sight) (d : List Declared) → o.variables ≡ [] → done ≡ with_variables o d → left ≡ o) → left ≡ outer
left_process outer ds entered done left vs none e k h = go (in_order with_variables process_declaration outer ds) e
  where
    ruled : (x : Declares u.Declaration) (b : Bool) → (met b >> entry (with_variables outer x.declared) x.analysed) ≡ Some (entered, vs) → left ≡ outer
    ruled x true q = h outer x.declared none (k ∙ sym (ap (first outer) q))
    ruled x false q = cc

    go : (m : Option (Declares u.Declaration))
        → (m >>= λ x. met (are_distinct (declared_names (outer.variables ++ x.declared))) >> entry (with_variables outer x.declared) x.analysed) ≡ Some (entered, vs)
        → left ≡ outer
    go None q = cc
    go (Some x) q = ruled x (are_distinct (declared_names (outer.variables ++ x.declared))) q
