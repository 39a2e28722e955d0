use Rattle.std.proofs.Common.{◌≡◌, ◌+◌, ◌≤◌, ◌==◌, if◌then◌else◌, Bool, Some, inr, ap, ◌∙◌, subst, arith}
use Rattle.rtl_looks.specs.declared.ends.End.{End}
use Rattle.rtl_looks.specs.Evaluating.{Joins}
use Rattle.rtl_looks.specs.Parts.{end_at, skips}
use Rattle.rtl_looks.proofs.Maps.{moves, end_put}
use Rattle.rtl_looks.proofs.ends.take_end.Goals as goal

pub returns : goal.returns
returns c =
    let ends = c.args.ends.now in
    let ends' = c.insert.new.self in
    let x = c.args.number in
    let look = c.in_ok-look.look in
    let parts = c.args.parts in
    let e : c.end_at-end.result ≡ end_at ends x = c.end_at-end.ensures in
    let open_yet : c.end_at-end.result.parts ≤ parts = omega (arith, c.if-end-parts.false) in
    let put = end_put ends ends' x _ (moves x (Some (record { look = look; parts = parts + 1; skipped = c.skips.result })) c.in_ok-insert.ensures.updates) in
    inr (
      subst (λ (w : End). w.parts ≤ parts) e open_yet,
      (
        look,
        subst (λ (w : End). Joins c.args.hubs.now.hubs.items c.join.new.self.hubs.items w.look c.args.look look) e c.in_ok-look.ensures,
        λ k. subst (λ (s : Bool). end_at ends' k ≡ (if x == k then record { look = look; parts = parts + 1; skipped = s } else end_at ends k))
            (c.skips.ensures ∙ ap (λ (w : End). skips w parts) e) (put k),
      ),
    )
