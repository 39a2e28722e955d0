use Rattle.std.proofs.Common.{◌≡◌, ℕ, List, map, Option, None, Err, inl, inr, ap, ◌∙◌, sym, arith, rules}
use Rattle.std.specs.Prelude.{◌≢◌, ◌⊎◌, find, bytes_eq}
use Rattle.std.specs.Char.{to_ascii_lowercase}
use Rattle.std.proofs.lemmas.Grind.{common_steps}
use Rattle.vhdl_names_rules.specs.units.Units.{Entity}
use Rattle.vhdl_names_rules.specs.units.Bytes.{units_bytes}
use Rattle.vhdl_names_units.specs.declared.unit.Entity as analysed
use Rattle.vhdl_names_units.specs.views.Units.{entity_view, units_view}
use Rattle.vhdl_expand_rules.specs.declared.fault.ElabFault.TheVariants.{NoMemory}
use Rattle.vhdl_expand_rules.specs.declared.fault.ElabProblem.TheVariants.{NoTop}
use Rattle.vhdl_expand_rules.specs.Expansion.{expanded_design, instance_of}
use Rattle.vhdl_expand_rules.specs.views.Tops.{top_view}
use Rattle.vhdl_expand_rules.proofs.Steps.{given}
use Rattle.vhdl_elab_rules.specs.Limits.{Counts}
use Rattle.vhdl_expand_rules.specs.Declarations.{InstanceObjects}
use Rattle.vhdl_expand_tree.specs.declared.budget.Budget.{Budget}
use Rattle.vhdl_expand_tree.specs.Costs.{charged, instance_costs}
use Rattle.vhdl_expand_tree.specs.Views.{budget_view, instance_view}
use Rattle.vhdl_expand.specs.Limits.{within_limits}
use Rattle.vhdl_expand_declarations.specs.Views.{declared_view}
use Rattle.vhdl_expand.proofs.Nested.{no_top, no_top_interface, no_instance, design_made}
use Rattle.vhdl_elab_rules.specs.Refused.{HasInterface}
use Rattle.vhdl_expand.proofs.Among.{same_among, then_among}
use Rattle.vhdl_expand.proofs.Standing.{instance_list, top_places, top_among}
use Rattle.vhdl_expand_declarations.proofs.Told.{same_at}
use Rattle.vhdl_expand.proofs.Told.{told_at, other_told, no_top_other, has_interface}
use Rattle.vhdl_expand.proofs.Heavier.{found_among}
use Rattle.vhdl_expand_rules.specs.Elab.{fault_told}
use Rattle.vhdl_expand_tree.proofs.Alike.{tells, tells_same, tells_among}
use Rattle.vhdl_expand.proofs.Passing.{passed_told, passed_err}
use Rattle.vhdl_expand.proofs.expansion.expand.Goals as goal

-- a unit by its name, and what an instance of it costs, by things that are equal
found_by : (es ds : List analysed.Entity) (n m : List ℕ) (o : Option Entity) → m ≡ n → ds ≡ es → find (λ (e : Entity). bytes_eq e.name m) (map entity_view ds) ≡ o
    → find (λ (e : Entity). bytes_eq e.name n) (map entity_view es) ≡ o
found_by es ds n m o h k found =
    ap (λ l. find (λ (e : Entity). bytes_eq e.name l) (map entity_view es)) (sym h) ∙ ap (λ xs. find (λ (e : Entity). bytes_eq e.name m) (map entity_view xs)) (sym k) ∙ found

charged_alike : (b : Budget) (l : Counts) (es ds : List analysed.Entity) (e : Entity) (d : InstanceObjects) → budget_view b ≡ l → ds ≡ es
    → charged l instance_costs (instance_of (map entity_view es) 32 e.at e d) ≡ charged (budget_view b) instance_costs (instance_of (map entity_view ds) 32 e.at e d)
charged_alike b l es ds e d h k =
    ap (λ c. charged c instance_costs (instance_of (map entity_view es) 32 e.at e d)) (sym h) ∙ ap (λ xs. charged (budget_view b) instance_costs (instance_of (map entity_view xs) 32 e.at e d)) (sym k)

pub returns-in_default-clause-given : goal.returns-in_default-clause-given
returns-in_default-clause-given c =
    let us = units_view c.args.units.now in
    let named = found_by _ _ _ _ _ (c.deref-2.ensures.value ∙ c.in_ok-name.ensures.ok) c.deref.ensures.value c.in_default.ensures in
    let none : c.named.result ≡ None = first_of (search rules, grind (arith, common_steps)) in
    λ _. told_at c.at.ensures (other_told NoTop 0 no_top_other (no_top us (top_view c.args.top) named))

pub returns-in_err-declared-clause-given : goal.returns-in_err-declared-clause-given
returns-in_err-declared-clause-given c =
    let us = units_view c.args.units.now in
    let named = found_by _ _ _ _ _ (c.deref-2.ensures.value ∙ c.in_ok-name.ensures.ok) c.deref.ensures.value c.in-Some.ensures in
    let e = entity_view c.in-Some.unit.now in
    let among = found_among (λ (x : Entity). bytes_eq x.name (map to_ascii_lowercase c.args.top.name.now)) us e named in
    passed_told _ _ c.in_err-declared.field-0.0 _ c.from_residual-in_err-declared.result c.from_residual-in_err-declared.ensures.1 (λ e p. p)
    (λ n. tells ((top_places us (top_view c.args.top) e among).placed _ (c.in_err-declared.ensures n)) (no_top_interface us (top_view c.args.top) e named (c.in_err-declared.ensures n)))

pub instance-requires : goal.instance-requires
instance-requires c =
    let here = ap (λ es. find (λ (e : Entity). bytes_eq e.name c.deref-2.result.now) (map entity_view es)) (c.deref-3.ensures.value ∙ sym c.deref.ensures.value) ∙ c.in-Some.ensures in
    record { among = found_among (λ (e : Entity). bytes_eq e.name c.deref-2.result.now) (map entity_view c.deref-3.result.now) (entity_view c.in-Some.unit.now) here }

pub returns-in_err-top-clause-given : goal.returns-in_err-top-clause-given
returns-in_err-top-clause-given c =
    let us = units_view c.args.units.now in
    let e = entity_view c.in-Some.unit.now in
    let d = declared_view c.in_ok-declared.declared in
    let named = found_by _ _ _ _ _ (c.deref-2.ensures.value ∙ c.in_ok-name.ensures.ok) c.deref.ensures.value c.in-Some.ensures in
    let same = charged_alike c.whole-left.result _ _ _ e d c.whole-left.ensures c.deref-3.ensures.value in
    let among = found_among (λ (x : Entity). bytes_eq x.name (map to_ascii_lowercase c.args.top.name.now)) us e named in
    let listed = λ (es : List analysed.Entity). instance_list (map entity_view es) e.at d.objects in
    let there = then_among (listed c.deref-3.result.now) (instance_list us e.at d.objects) (units_bytes us) (same_among listed _ _ c.deref-3.ensures.value) (top_among us (top_view c.args.top) e among d c.in_ok-declared.ensures) in
    passed_told _ _ c.in_err-top.field-0.0 _ c.from_residual-in_err-top.result c.from_residual-in_err-top.ensures.1 (λ e p. p)
    (λ n. no_instance us (top_view c.args.top) e d named c.in_ok-declared.ensures (tells_same same (tells_among there (c.in_err-top.ensures n))))

pub returns-clause-given : goal.returns-clause-given
returns-clause-given c =
    let us = units_view c.args.units.now in
    let e = entity_view c.in-Some.unit.now in
    let d = declared_view c.in_ok-declared.declared in
    let named = found_by _ _ _ _ _ (c.deref-2.ensures.value ∙ c.in_ok-name.ensures.ok) c.deref.ensures.value c.in-Some.ensures in
    let same = charged_alike c.whole-left.result _ _ _ e d c.whole-left.ensures c.deref-3.ensures.value in
    let name : c.in-Some.unit.now.name.text.items ≡ c.in_ok-name-2.name.items = first_of (search rules, grind (arith, common_steps)) in
    design_made us (top_view c.args.top) e d named c.in_ok-declared.ensures (instance_view c.in_ok-top.top) (budget_view c.instance.new.left) (same ∙ c.in_ok-top.ensures)
    ∙ ap (λ n. given (record { name = n; top = instance_view c.in_ok-top.top })) name

pub returns-in_default-clause-begun : goal.returns-in_default-clause-begun
returns-in_default-clause-begun c =
    let us = units_view c.args.units.now in
    let named = found_by _ _ _ _ _ (c.deref-2.ensures.value ∙ c.in_ok-name.ensures.ok) c.deref.ensures.value c.in_default.ensures in
    let none : c.named.result ≡ None = first_of (search rules, grind (arith, common_steps)) in
    λ _. inl (same_at c.at.ensures (no_top us (top_view c.args.top) named))

pub returns-in_err-declared-clause-begun : goal.returns-in_err-declared-clause-begun
returns-in_err-declared-clause-begun c =
    let us = units_view c.args.units.now in
    let named = found_by _ _ _ _ _ (c.deref-2.ensures.value ∙ c.in_ok-name.ensures.ok) c.deref.ensures.value c.in-Some.ensures in
    let stopped : c.in_err-declared.field-0.0 ≢ NoMemory → (within_limits (expanded_design us (top_view c.args.top)) ≡ Err (fault_told c.in_err-declared.field-0.0)) ⊎ HasInterface us (top_view c.args.top) =
    λ n. inl (no_top_interface us (top_view c.args.top) (entity_view c.in-Some.unit.now) named (c.in_err-declared.ensures n)) in
    passed_err _ c.in_err-declared.field-0.0 _ c.from_residual-in_err-declared.result c.from_residual-in_err-declared.ensures.1 (λ e p. p) stopped

pub returns-in_err-top-clause-begun : goal.returns-in_err-top-clause-begun
returns-in_err-top-clause-begun c =
    let us = units_view c.args.units.now in
    let named = found_by _ _ _ _ _ (c.deref-2.ensures.value ∙ c.in_ok-name.ensures.ok) c.deref.ensures.value c.in-Some.ensures in
    let stopped : c.in_err-top.field-0.0 ≢ NoMemory → (within_limits (expanded_design us (top_view c.args.top)) ≡ Err (fault_told c.in_err-top.field-0.0)) ⊎ HasInterface us (top_view c.args.top) =
    λ n. inr (has_interface us (top_view c.args.top) (entity_view c.in-Some.unit.now) (declared_view c.in_ok-declared.declared) named c.in_ok-declared.ensures) in
    passed_err _ c.in_err-top.field-0.0 _ c.from_residual-in_err-top.result c.from_residual-in_err-top.ensures.1 (λ e p. p) stopped
