use Rattle.std.proofs.Common.{ℕ, List, length, map, subst, sym, ap, ◌∙◌}
use Rattle.std.proofs.lemmas.List.{with_items_is}
use Rattle.rtl_model.specs.bodies.Body.{Stmts}
use Rattle.rtl_net.specs.declared.body.Statement.{Statement}
use Rattle.rtl_net.specs.declared.process.Variable.{Variable}
use Rattle.rtl_net.specs.Bodies.{statements_of}
use Rattle.rtl_model.specs.nets.FlatNetlist.{element_starts}
use Rattle.rtl_net.specs.Nets.{driver_view, variable_view, process_view}
use Rattle.rtl_variable_registers.specs.Processes.{kept_process}
use Rattle.rtl_kept_bodies.specs.Rules.{byte_of}
use Rattle.rtl_kept_bodies.specs.Steps.{SetsWithin}
use Rattle.rtl_kept_bodies.proofs.Knowing.{sets_within}
use Rattle.rtl_kept_bodies.proofs.Whole.{views_same, reads_same}
use Rattle.rtl_kept_bodies.proofs.keeping.keep.Goals as goal

pub is_register-requires : goal.is_register-requires
is_register-requires c =
    let p = c.args.process.now in
    let (types, ranged, few) = c.requires.in_range in
    let many = c.len.ensures ∙ c.in_ok-starts.starts.ok.0 ∙ ap length c.in_ok-starts.ensures ∙ ap (λ (vs : List Variable). length (element_starts (map variable_view vs))) c.deref.ensures.value in
    subst (λ (n : ℕ). SetsWithin n (statements_of c.deref_mut.result.now)) (sym many)
    (subst (λ (xs : List Statement). SetsWithin (length (element_starts (map variable_view p.variables.items))) (statements_of xs)) (sym c.deref_mut.ensures.value) (sets_within types (process_view p) ranged))

pub keep_flagged-requires-clause-reads : goal.keep_flagged-requires-clause-reads
keep_flagged-requires-clause-reads c =
    let p = c.args.process.now in
    let asked = c.is_register in
    let back = ap (λ (xs : List Statement). statements_of xs) (with_items_is p.body asked.new.body (asked.auto.body ∙ c.deref_mut.ensures.len)) ∙ c.in_ok-is_register.ensures.same
    ∙ ap (λ (xs : List Statement). statements_of xs) c.deref_mut.ensures.value in
    reads_same p c.flags_in.new.process c.in_ok-flags.ensures.reads (c.in_ok-flags.ensures.body ∙ back) c.requires.reads

pub returns-clause-process : goal.returns-clause-process
returns-clause-process c =
    let p = c.args.process.now in
    let asked = c.is_register in
    let back = ap (λ (xs : List Statement). statements_of xs) (with_items_is p.body asked.new.body (asked.auto.body ∙ c.deref_mut.ensures.len)) ∙ c.in_ok-is_register.ensures.same
    ∙ ap (λ (xs : List Statement). statements_of xs) c.deref_mut.ensures.value in
    c.in_ok-keep_flagged.ensures.process
    ∙ ap (kept_process c.args.first)
    (views_same _ c.flags_in.new.process c.in_ok-flags.ensures.drives c.in_ok-flags.ensures.named c.in_ok-flags.ensures.body
    ∙ ap (λ (b : Stmts). record { drivers = map driver_view p.drives.items; wakes = p.wakes.items; variables = map variable_view p.variables.items; body = b }) back)

pub returns-clause-named : goal.returns-clause-named
returns-clause-named c =
    let p = c.args.process.now in
    let asked = c.is_register in
    let f = c.in_ok-flags.ensures.named in
    let k = c.in_ok-keep_flagged.ensures.named in
    record {
      wakes = k.wakes ∙ f.wakes;
      variables = k.variables ∙ f.variables;
      scope = k.scope ∙ f.scope;
      generates = k.generates ∙ f.generates;
      label = k.label ∙ f.label;
      at = k.at ∙ f.at;
      bytes = k.bytes ∙ f.bytes
          ∙ ap (λ (xs : List Statement). map byte_of xs) (with_items_is p.body asked.new.body (asked.auto.body ∙ c.deref_mut.ensures.len))
          ∙ c.in_ok-is_register.ensures.bytes ∙ ap (λ (xs : List Statement). map byte_of xs) c.deref_mut.ensures.value;
    }
