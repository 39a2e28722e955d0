use Rattle.std.proofs.Common.{List, ap, ◌∙◌}
use Rattle.rtl_model.specs.bodies.Body.{followed_by}
use Rattle.rtl_net.specs.declared.body.Statement.{Statement}
use Rattle.rtl_net.specs.Bodies.{statements_of}
use Rattle.rtl_kept_bodies.specs.Steps.{recall_all, remember_all}
use Rattle.rtl_kept_bodies.proofs.Sequences.{followed_assoc, of_append}
use Rattle.rtl_kept_bodies.proofs.edge.keep_at_edge.Goals as goal

pub returns : goal.returns
returns c =
    let ks = c.args.kept.now in
    let old = c.args.statements.now.items in
    let last = remember_all ks in
    c.in_ok-remember.ensures ∙ ap (λ (xs : List Statement). followed_by (statements_of xs) last) c.in_ok-append.ensures.items
    ∙ ap (λ s. followed_by s last)
    (of_append c.recall.new.statements.items old
    ∙ ap (λ s. followed_by s (statements_of old)) (c.in_ok-recall.ensures ∙ ap (λ (xs : List Statement). followed_by (statements_of xs) (recall_all ks)) c.new-whole.ensures.items))
    ∙ followed_assoc (recall_all ks) (statements_of old) last
