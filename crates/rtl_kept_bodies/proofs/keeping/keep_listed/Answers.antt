use Rattle.std.proofs.Common.{ℕ, List, ◌≡◌, ◌+◌, ◌++◌, length, map, refl, sym, ap, subst, arith, ◌∙◌}
use Rattle.std.proofs.lemmas.List.{with_items_is, length-map}
use Rattle.rtl_model.specs.bodies.Body.{followed_by}
use Rattle.rtl_net.specs.declared.body.Statement.{Statement}
use Rattle.rtl_net.specs.Bodies.{statements_of}
use Rattle.rtl_net.specs.Nets.{driver_view, process_view, body_of}
use Rattle.rtl_variable_registers.specs.Bodies.{reset_branch, with_branches}
use Rattle.rtl_variable_registers.specs.Known.{at_start, with_constants}
use Rattle.rtl_variable_registers.specs.Processes.{kept_elements}
use Rattle.rtl_kept_bodies.specs.Rules.{byte_of}
use Rattle.rtl_kept_bodies.specs.Steps.{recall_all, remember_all, all_at_reset, all_drivers_of, place_at, placed_by, CanCompute}
use Rattle.rtl_kept_bodies.proofs.Whole.{body_is, process_is}
use Rattle.rtl_kept_bodies.proofs.keeping.keep_listed.Goals as goal

pub keep_body-requires : goal.keep_body-requires
keep_body-requires c =
    subst (λ (xs : List Statement). CanCompute c.args.starts.now (reset_branch (statements_of xs))) (sym c.deref_mut.ensures.value) c.requires.computes

pub returns-clause-process : goal.returns-clause-process
returns-clause-process c =
    let p = c.args.process.now in
    let flat = process_view p in
    let ks = c.args.kept.now in
    let P = place_at c.in_ok-places.places in
    let behind : c.len.result + c.args.many ≡ length (map driver_view p.drives.items) + length (kept_elements flat) =
    (let a = length-map p.drives.items driver_view in omega (arith, a, c.requires.many, c.len.ensures, p.drives.ok.0)) in
    process_is c.args.first flat ks c.requires.kept _ _ _ _ c.requires.register
    (c.in_ok-add_all_drivers.ensures ∙ ap (λ (xs : List ℕ). map driver_view p.drives.items ++ all_drivers_of xs ks) c.requires.starts)
    refl refl
    (ap (λ (xs : List Statement). statements_of xs) (with_items_is p.body c.keep_body.new.body (c.keep_body.auto.body ∙ c.deref_mut.ensures.len))
    ∙ c.in_ok-keep_body.ensures.body
    ∙ ap (λ (xs : List Statement). with_branches (λ a. all_at_reset P (with_constants (at_start c.args.starts.now) a)) (λ s. followed_by (recall_all ks) (followed_by s (remember_all ks))) (statements_of xs)) c.deref_mut.ensures.value
    ∙ ap (λ (vs : List ℕ). with_branches (λ a. all_at_reset P (with_constants (at_start vs) a)) (λ s. followed_by (recall_all ks) (followed_by s (remember_all ks))) (body_of p)) c.requires.starts
    ∙ body_is c.args.first flat ks c.requires.kept P (λ e. c.in_ok-places.ensures e ∙ ap (λ (d : ℕ). placed_by ks d e) behind))

pub returns-clause-named : goal.returns-clause-named
returns-clause-named c =
    let p = c.args.process.now in
    record {
      wakes = refl;
      variables = refl;
      scope = refl;
      generates = refl;
      label = refl;
      at = refl;
      bytes = ap (λ (xs : List Statement). map byte_of xs) (with_items_is p.body c.keep_body.new.body (c.keep_body.auto.body ∙ c.deref_mut.ensures.len))
          ∙ c.in_ok-keep_body.ensures.bytes ∙ ap (λ (xs : List Statement). map byte_of xs) c.deref_mut.ensures.value;
    }
