use Rattle.std.proofs.Common.{List, Option, ap, sym, subst, ◌∙◌}
use Rattle.std.specs.Prelude.{IsSome}
use Rattle.std.proofs.lemmas.Result.{on_ok_weaker}
use Rattle.rtl_looks.specs.declared.hubs.Look.{Look}
use Rattle.rtl_looks.specs.declared.table.Change.{Change}
use Rattle.rtl_looks.specs.Denoting.{look_at}
use Rattle.rtl_looks.specs.Targets.{first_at, was_at}
use Rattle.rtl_looks.proofs.Noted.{was_noted, was_kept}
use Rattle.rtl_looks.proofs.table.Table.put.Goals as goal

pub returns-then-is_noted-clause-kept : goal.returns-then-is_noted-clause-kept
returns-then-is_noted-clause-kept c =
    let changes = c.args.changes.now.items in
    let there = subst (λ (cs : List Change). IsSome (first_at cs c.args.number)) c.deref.ensures.value (c.is_noted.ensures c.if-is_noted.true) in
    on_ok_weaker c.set.result (was_kept changes c.args.number c.args.look c.args.self.now.looks.items c.set.new.self.looks.items there) c.set.ensures

pub returns-clause-kept : goal.returns-clause-kept
returns-clause-kept c =
    let changes = c.args.changes.now.items in
    let looks = c.note.new.self.looks.items in
    let new = c.set-2.new.self.looks.items in
    let before = c.at-before.ensures ∙ ap (λ (ls : List (Option Look)). look_at ls c.args.number) (sym c.in_ok-note.ensures) in
    on_ok_weaker c.set-2.result
    (λ set k. ap (λ (cs : List Change). was_at cs new k) c.in_ok-push.ensures.items
    ∙ (was_noted changes c.args.number c.at-before.result c.args.look looks new before set k
    ∙ ap (λ (ls : List (Option Look)). was_at changes ls k) c.in_ok-note.ensures))
    c.set-2.ensures
