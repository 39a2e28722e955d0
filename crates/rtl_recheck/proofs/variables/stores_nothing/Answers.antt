use Rattle.std.proofs.Common.{◌≡◌, ℕ, List, length, get_or, sym, ap, subst, ◌∙◌}
use Rattle.std.specs.Prelude.{◌↔◌, IsTrue, All}
use Rattle.rtl_net.specs.declared.body.Statement.{Statement}
use Rattle.rtl_net.specs.declared.process.Process.{Process}
use Rattle.rtl_net.specs.declared.process.Variable.{Variable}
use Rattle.rtl_net.specs.Bodies.{statements_of}
use Rattle.rtl_check.specs.Places.{places_from, widths}
use Rattle.rtl_recheck.specs.Kept.{HasFew, StoresNone}
use Rattle.rtl_recheck.proofs.Stored.{none_to, none_from, few}
use Rattle.rtl_recheck.proofs.variables.stores_nothing.Goals as goal

pub returns : goal.returns
returns c =
    let net = c.args.net.now in
    let p = c.args.process in
    let x = c.index-processes-process.result in
    let at = c.index-processes-process.is ∙ ap (λ (ps : List Process). get_or ps p x) c.processes-processes.ensures in
    let body = statements_of x.body.items in
    let many : c.elements_of.result ≡ length (places_from 0 (widths x.variables.items)) = c.elements_of.ensures ∙ ap (λ (vs : List Variable). length (places_from 0 (widths vs))) c.deref-2.ensures.value in
    let so : IsTrue c.stores_none.result ↔ StoresNone body (length (places_from 0 (widths x.variables.items))) =
    subst (λ (n : ℕ). IsTrue c.stores_none.result ↔ StoresNone body n) many
    (subst (λ (xs : List Statement). IsTrue c.stores_none.result ↔ StoresNone (statements_of xs) c.elements_of.result) c.deref.ensures.value c.stores_none.ensures) in
    (λ t. none_to net p x c.requires at (so.0 t), λ N. so.1 (none_from net p x c.requires at N))

pub elements_of-requires : goal.elements_of-requires
elements_of-requires c =
    let net = c.args.net.now in
    let p = c.args.process in
    let x = c.index-processes-process.result in
    let at = c.index-processes-process.is ∙ ap (λ (ps : List Process). get_or ps p x) c.processes-processes.ensures in
    subst (All HasFew) (sym c.deref-2.ensures.value) (few net p x c.requires at c.is_elaborated.ensures)
