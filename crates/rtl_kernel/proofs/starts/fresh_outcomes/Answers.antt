use Rattle.std.proofs.Common.{refl, ◌≡◌, ℕ, ◌+◌, List, [], ◌∷◌, length, map, take, replicate, get_or, Option, None, ap, sym, subst, ◌∙◌, arith, length-append}
use Rattle.std.proofs.lemmas.List.{take_all}
use Rattle.rtl_model.specs.nets.FlatNetlist.{element_starts}
use Rattle.rtl_drives.specs.Outcomes.{Outcome}
use Rattle.rtl_net.specs.Nets.{variable_view}
use Rattle.rtl_net.specs.declared.process.Process.{Process}
use Rattle.rtl_net.specs.declared.process.Variable.{Variable}
use Rattle.rtl_kernel.specs.drivers.Starts.{AreFresh, elements_of, no_entries}
use Rattle.rtl_kernel.proofs.Started.{fresh_more}
use Rattle.rtl_kernel.proofs.starts.fresh_outcomes.Goals as goal

pub loop-number-init : goal.loop-number-init
loop-number-init g c = record {
  many = ap length c.in_ok-outcomes.ensures.items;
  fresh = subst (AreFresh g.E.Exec.most [] c.args.bodies.now) (sym c.in_ok-outcomes.ensures.items)
      (record { entries = refl; starts = refl; room = λ k e l. absurd (omega (arith, l)) });
}

pub loop-number-preserved : goal.loop-number-preserved
loop-number-preserved g c =
    let ps = c.args.processes.now in
    let bodies = c.args.bodies.now in
    let i = c.loop-number.number in
    let I = c.loop-number.invariant in
    let p = c.index-processes-number.result in
    let b = c.index-bodies-number.result in
    let o = c.in_ok-new.field-0 in
    let count : c.len.result ≡ length p.drives.items = omega (arith, c.len.ensures, p.drives.ok.0) in
    let entries : o.entries ≡ no_entries (get_or ps i p) =
    ap (λ (x : Outcome). x.entries) c.in_ok-new.ensures
    ∙ ap (λ (n : ℕ). replicate {A = Option ℕ} n None) count ∙ ap no_entries c.index-processes-number.is in
    let elements : o.starts ≡ elements_of (get_or ps i p) =
    ap (λ (x : Outcome). x.starts) c.in_ok-new.ensures ∙ c.deref-in-loop-number.ensures.value ∙ c.in_ok-starts.ensures
    ∙ ap (λ (vs : List Variable). element_starts (map variable_view vs)) c.deref.ensures.value
    ∙ ap elements_of c.index-processes-number.is in
    let room : o.room ≡ g.E.Exec.most (get_or bodies i b) =
    ap (λ (x : Outcome). x.room) c.in_ok-new.ensures ∙ c.room-room.ensures ∙ ap g.E.Exec.most c.index-bodies-number.is in
    record {
      many = ap length c.in_ok-push.ensures.items ∙ length-append c.loop-number.outcomes.items (o ∷ []) ∙ ap (λ (n : ℕ). n + 1) I.many;
      fresh = subst (AreFresh g.E.Exec.most (take (i + 1) ps) bodies) (sym c.in_ok-push.ensures.items)
          (fresh_more g.E.Exec.most ps bodies c.loop-number.outcomes.items i o p b c.loop-number-test.true I.many I.fresh
          entries elements (omega (arith, c.requires, c.loop-number-test.true)) (omega (arith, room)));
    }

pub returns : goal.returns
returns g c =
    let whole = take_all c.loop-number.number c.args.processes.now c.loop-number-test.false in
    subst (λ (ps : List Process). AreFresh g.E.Exec.most ps c.args.bodies.now c.loop-number.outcomes.items) whole c.loop-number.invariant.fresh
