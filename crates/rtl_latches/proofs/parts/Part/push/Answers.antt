use Rattle.std.proofs.Common.{◌==◌, ◌&&◌, Bool, Some, sym, ap, ◌∙◌}
use Rattle.std.specs.Option.{option_or}
use Rattle.rtl_body_facts.specs.Reading.{is_in}
use Rattle.rtl_body_facts.proofs.Anys.{or_none}
use Rattle.rtl_latches.specs.Parts.{left_at, told, both, only_left, where_so}
use Rattle.rtl_latches.proofs.Telling.{told-same, both-nothing, left-push}
use Rattle.rtl_latches.proofs.parts.Part.push.Goals as goal

pub returns-then-not-so : goal.returns-then-not-so
returns-then-not-so c =
    let p = c.args.self.now in
    let l = c.args.left in
    λ n. sym (ap (λ (b : Bool). both (told n p) (only_left (where_so (b && (l.net == n)) (Some l.omission)))) c.if-not-so.true ∙ both-nothing (told n p))

pub returns : goal.returns
returns c =
    let p = c.args.self.now in
    let l = c.args.left in
    λ n. told-same _ _ _ _ (or_none (is_in n p.assigned.items))
    (left-push n p.left.items _ l c.in_ok-push.ensures.items
    ∙ ap (λ (b : Bool). option_or (left_at n p.left.items) (where_so (b && (l.net == n)) (Some l.omission))) (sym c.if-not-so.false))
