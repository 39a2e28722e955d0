use Rattle.std.proofs.Common.{ℕ, List, Bool, true, false, map, refl, sym, ap, arith, ◌∙◌}
use Rattle.std.specs.Prelude.{slice_index_or, replicate}
use Rattle.std.proofs.lemmas.List.{length-map, with_items_is}
use Rattle.std.proofs.lemmas.Result.{IfOk-weaker}
use Rattle.rtl_net.specs.declared.body.Statement.{Statement}
use Rattle.rtl_net.specs.declared.process.Variable.{Variable}
use Rattle.rtl_net.specs.Bodies.{statements_of}
use Rattle.rtl_net.specs.Nets.{variable_view, body_of}
use Rattle.rtl_variable_registers.specs.Bodies.{keeps_element}
use Rattle.rtl_kept_bodies.specs.Rules.{byte_of, keeps_each}
use Rattle.rtl_kept_bodies.proofs.Whole.{none_kept, flags_are}
use Rattle.rtl_kept_bodies.proofs.keeping.flags_in.Goals as goal

pub returns-then-not-is_register-clause-kept : goal.returns-then-not-is_register-clause-kept
returns-then-not-is_register-clause-kept c =
    let p = c.args.process.now in
    IfOk-weaker c.no_flags.result _ _ (λ v h. h ∙ ap (λ (n : ℕ). replicate n false) (c.len.ensures ∙ p.variables.ok.0 ∙ sym (length-map p.variables.items variable_view)) ∙ sym (none_kept (body_of p) 0 (map variable_view p.variables.items) (sym c.requires.register ∙ c.if-not-is_register.true)))
    c.no_flags.ensures

pub returns-clause-kept : goal.returns-clause-kept
returns-clause-kept c =
    let p = c.args.process.now in
    let marks = c.in_ok-marks.marks.items in
    let body = c.deref_mut.result.now in
    IfOk-weaker c.flags_of.result _ _
    (λ v h. h
    ∙ ap (λ (ms : List Bool). keeps_each (λ e. slice_index_or ms e true) 0 (map variable_view c.deref.result.now)) c.deref-2.ensures.value
    ∙ ap (λ (vs : List Variable). keeps_each (λ e. slice_index_or marks e true) 0 (map variable_view vs)) c.deref.ensures.value
    ∙ flags_are (λ e. slice_index_or marks e true) (keeps_element (statements_of body)) c.args.elements 0 p.variables.items c.in_ok-marks.ensures.are.each (omega (arith, c.requires.elements))
    ∙ ap (λ (xs : List Statement). keeps_each (keeps_element (statements_of xs)) 0 (map variable_view p.variables.items)) c.deref_mut.ensures.value)
    c.flags_of.ensures

pub returns-clause-named : goal.returns-clause-named
returns-clause-named c =
    let p = c.args.process.now in
    let marked = c.kept_elements in
    IfOk-weaker c.flags_of.result _ _
    (λ v h. record {
      wakes = refl;
      variables = refl;
      scope = refl;
      generates = refl;
      label = refl;
      at = refl;
      bytes = ap (λ (xs : List Statement). map byte_of xs) (with_items_is p.body marked.new.body (marked.auto.body ∙ c.deref_mut.ensures.len))
          ∙ c.in_ok-marks.ensures.bytes ∙ ap (λ (xs : List Statement). map byte_of xs) c.deref_mut.ensures.value;
    })
    c.flags_of.ensures
