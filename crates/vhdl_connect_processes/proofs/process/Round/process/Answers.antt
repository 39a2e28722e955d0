use Rattle.std.proofs.Common.{ℕ, List, map, ap, refl, sym, ◌∙◌, subst}
use Rattle.std.specs.Prelude.{◌↔◌, Contains, option_map}
use Rattle.std.proofs.lemmas.List.{with_items_is}
use Rattle.rtl_model.specs.bodies.Reads.{reads}
use Rattle.rtl_net.specs.Bodies.{statements_of}
use Rattle.rtl_net.specs.declared.body.Statement.{Statement}
use Rattle.vhdl_expand_rules.specs.laws.Trees.{Assigns}
use Rattle.vhdl_elab_rules.specs.Bodies.{connected_body}
use Rattle.vhdl_connect_processes.proofs.Reading.{reads_connected}
use Rattle.vhdl_expand_tree.specs.Views.{process_view, variable_view}
use Rattle.vhdl_connect_processes.specs.Located.{driver_in, of_variable}
use Rattle.vhdl_connect_processes.proofs.process.Round.process.Goals as goal

pub connect_body-requires-clause-driven : goal.connect_body-requires-clause-driven
connect_body-requires-clause-driven c =
    subst (λ (ss : List Statement). Assigns (Contains c.deref.result.now) (statements_of ss)) (sym c.deref_mut.ensures.value)
    (subst (λ (ds : List ℕ). Assigns (Contains ds) (statements_of c.args.from.now.body.items)) (sym c.deref.ensures.value) c.requires.driven)

pub returns : goal.returns
returns c =
    let nets = c.args.self.now.nets.now in
    let drives = c.args.from.now.drives.items in
    let old = statements_of c.args.from.now.body.items in
    let same = with_items_is c.args.from.now.body c.connect_body.new.body (c.connect_body.auto.body ∙ c.deref_mut.ensures.len) in
    let made = c.in_ok-connect_body.ensures ∙ (λ i. connected_body nets (c.deref.ensures.value i) (statements_of (c.deref_mut.ensures.value i))) in
    let found =
    ap (λ xs. reads (statements_of xs)) c.deref-2.ensures.value ∙ ap (λ xs. reads (statements_of xs)) same ∙ ap reads made ∙ reads_connected nets drives old in
    record {
      drivers = c.in_ok-drives.ensures ∙ ap (map (driver_in nets c.args.self.now.defaults.now)) c.deref-4.ensures.value;
      reads = record {
        rise = c.in_ok-reads.ensures.rise;
        all = λ n. subst (λ xs. Contains c.in_ok-reads.reads.items n ↔ Contains (reads (statements_of xs)) n) (c.deref-2.ensures.value ∙ sym (ap (λ v. v.items) c.replace-2.ensures.value)) (c.in_ok-reads.ensures.all n);
      };
      wakes = c.in_ok-wakes.ensures (process_view c.args.from.now) refl
          (λ n. subst (λ ns. Contains c.deref-3.result.now n ↔ Contains ns n) found
          (subst (λ ms. Contains ms n ↔ Contains (reads (statements_of c.deref-2.result.now)) n) (sym c.deref-3.ensures.value) (c.in_ok-reads.ensures.all n)));
      variables = c.in_ok-variables.ensures ∙ ap (λ vs. map of_variable (map variable_view vs)) c.deref_mut-2.ensures.value;
      body = ap (λ v. statements_of v.items) c.replace-2.ensures.value ∙ ap statements_of same ∙ made;
      scope_is = refl;
      prefix = c.without_dot-generates.ensures ∙ ap (λ v. v.items) c.replace.ensures.value;
      label = ap (option_map (λ l. l.items)) c.take.ensures.value;
      at = c.byte.ensures;
    }
