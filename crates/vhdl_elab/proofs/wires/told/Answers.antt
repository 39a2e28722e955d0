use Rattle.std.proofs.Common.{rules, ◌≡◌, None, Some, refl, sym, ◌∙◌, subst, arith}
use Rattle.std.proofs.lemmas.Grind.{common_steps}
use Rattle.std.specs.List.{zip}
use Rattle.vhdl_expand_rules.specs.declared.fault.ElabFault.{ElabFault}
use Rattle.vhdl_expand_rules.specs.Elab.{fault_told}
use Rattle.vhdl_elab.specs.Tables.{first_at, is_two_unresolved, is_read_of_shared}
use Rattle.vhdl_elab.specs.Wires.{used, IsHeld, IsRefused, two_unresolved, read_of_shared}
use Rattle.vhdl_elab.proofs.wires.told.Goals as goal

pub returns-in-Some-clause-refused : goal.returns-in-Some-clause-refused
returns-in-Some-clause-refused c =
    let at = sym (c.two_unresolved.ensures ∙ (λ i. first_at is_two_unresolved (zip (c.deref-5.ensures.value i) (c.deref-6.ensures.value i)))) ∙ c.in-Some.is in
    λ n. subst (λ (f : ElabFault). IsRefused c.args.made.now (fault_told f)) (sym c.at.ensures) (two_unresolved refl at)

pub returns-in-Some-read_of_shared-clause-refused : goal.returns-in-Some-read_of_shared-clause-refused
returns-in-Some-read_of_shared-clause-refused c =
    let table = c.in_ok-values.values.items in
    let held : IsHeld c.args.made.now table = search rules in
    let resolved : first_at is_two_unresolved (used c.args.made.now) ≡ None = first_of (search rules, grind (arith, common_steps)) in
    let at : first_at (is_read_of_shared table) (used c.args.made.now) ≡ Some c.in-Some-read_of_shared.at =
    sym (c.read_of_shared.ensures ∙ (λ i. first_at (is_read_of_shared (c.deref-9.ensures.value i)) (zip (c.deref-7.ensures.value i) (c.deref-8.ensures.value i))))
    ∙ c.in-Some-read_of_shared.is in
    λ n. subst (λ (f : ElabFault). IsRefused c.args.made.now (fault_told f)) (sym c.at-in-Some-read_of_shared.ensures) (read_of_shared refl resolved table held at)
