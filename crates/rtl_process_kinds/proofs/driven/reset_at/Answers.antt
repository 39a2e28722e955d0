use Rattle.std.proofs.Common.{◌≡◌, ℕ, Bool, List, [], ◌∷◌, Option, Some, None, refl, sym, ap, subst, ◌∙◌}
use Rattle.std.specs.Prelude.{option_map}
use Rattle.rtl_model.specs.bodies.Reads.{events}
use Rattle.rtl_model.specs.bodies.Kinds as k
use Rattle.rtl_model.specs.simulation.Netlist as m
use Rattle.rtl_net.specs.declared.body.Statement.{Statement}
use Rattle.rtl_net.specs.declared.process.Process.{Process}
use Rattle.rtl_net.specs.Nets.{NetlistView, body_of}
use Rattle.rtl_net.specs.Bodies.{statements_of}
use Rattle.rtl_body_facts.specs.declared.kinds.Clocking.{Clocking}
use Rattle.rtl_body_facts.specs.declared.kinds.ProcessKind.{ProcessKind}
use Rattle.rtl_body_facts.specs.Timing.{clocking_view, kind_view}
use Rattle.rtl_process_kinds.specs.KindViews.{IsKind, reset_kept}
use Rattle.rtl_process_kinds.proofs.Processes.{process_is, kind_is, listed_as}
use Rattle.rtl_process_kinds.proofs.driven.reset_at.Goals as goal

-- what a clocking has for its reset, a kind with it has too
kept : (o : Option k.Clocking) (es : List ℕ) (r : Option Clocking) (x : Clocking) → r ≡ option_map clocking_view o → r ≡ Some x → x.reset ≡ reset_kept (kind_view o es)
kept (Some c) es r x h e = let f : x ≡ clocking_view c = cc in ap (λ (y : Clocking). y.reset) f
kept None es r x h e = absurd cc

none : (o : Option k.Clocking) (es : List ℕ) (r : Option Clocking) → r ≡ option_map clocking_view o → r ≡ None → None ≡ reset_kept (kind_view o es)
none (Some c) es r h e = absurd cc
none None [] r h e = refl
none None (n ∷ ns) r h e = refl

abbrev kind_of_body : NetlistView → Process → ProcessKind
kind_of_body net x = kind_view (k.clocking net.wide net.inputs (body_of x)) (events (body_of x))

pub returns : goal.returns
returns c =
    let net = c.args.net.now in
    let p = c.args.process in
    let x = c.index-processes-process.result in
    let at = listed_as p c.index-processes-process.is c.processes-processes.ensures in
    let is : c.clocking_of.result ≡ option_map clocking_view (k.clocking net.wide net.inputs (body_of x)) =
    c.clocking_of.ensures ∙ (ap (λ (w : Bool). option_map clocking_view (k.clocking w c.inputs.result.now (statements_of c.deref.result.now))) c.is_wide.ensures
    ∙ ap (λ (ns : List ℕ). option_map clocking_view (k.clocking net.wide ns (statements_of c.deref.result.now))) c.inputs.ensures
    ∙ (ap (λ (xs : List Statement). option_map clocking_view (k.clocking net.wide net.inputs (statements_of xs))) c.deref.ensures.value
    ∙ ap (λ (q : Process). option_map clocking_view (k.clocking net.wide net.inputs (body_of q))) (sym c.index-processes-process.is))) in (
      kind_of_body net x,
      subst (λ (q : m.Process). IsKind q (kind_of_body net x)) (sym (process_is net p x c.requires at)) (kind_is net.wide net.inputs x),
      kept (k.clocking net.wide net.inputs (body_of x)) (events (body_of x)) _ _ is c.in_ok-clocking.was,
    )

pub returns-in_err-clocking : goal.returns-in_err-clocking
returns-in_err-clocking c =
    let net = c.args.net.now in
    let p = c.args.process in
    let x = c.index-processes-process.result in
    let at = listed_as p c.index-processes-process.is c.processes-processes.ensures in
    let is : c.clocking_of.result ≡ option_map clocking_view (k.clocking net.wide net.inputs (body_of x)) =
    c.clocking_of.ensures ∙ (ap (λ (w : Bool). option_map clocking_view (k.clocking w c.inputs.result.now (statements_of c.deref.result.now))) c.is_wide.ensures
    ∙ ap (λ (ns : List ℕ). option_map clocking_view (k.clocking net.wide ns (statements_of c.deref.result.now))) c.inputs.ensures
    ∙ (ap (λ (xs : List Statement). option_map clocking_view (k.clocking net.wide net.inputs (statements_of xs))) c.deref.ensures.value
    ∙ ap (λ (q : Process). option_map clocking_view (k.clocking net.wide net.inputs (body_of q))) (sym c.index-processes-process.is))) in (
      kind_of_body net x,
      subst (λ (q : m.Process). IsKind q (kind_of_body net x)) (sym (process_is net p x c.requires at)) (kind_is net.wide net.inputs x),
      c.from_residual.ensures ∙ none (k.clocking net.wide net.inputs (body_of x)) (events (body_of x)) _ is c.in_err-clocking.was,
    )
