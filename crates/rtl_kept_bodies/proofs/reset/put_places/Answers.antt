use Rattle.std.proofs.Common.{ℕ, refl, get_or, arith, ap, ◌+◌, ◌∙◌, ◌≡◌}
use Rattle.std.proofs.Math.ListN.{length-set}
use Rattle.rtl_kept_bodies.specs.Steps.{placed}
use Rattle.rtl_kept_bodies.proofs.Putting.{first_ones, placed_none, placed_more}
use Rattle.rtl_kept_bodies.proofs.reset.put_places.Goals as goal

pub loop-k-init : goal.loop-k-init
loop-k-init c = record { long = refl; each = λ e d. placed_none c.args.kept (get_or c.args.listed.now e d) e }

pub loop-k-preserved : goal.loop-k-preserved
loop-k-preserved c =
    let l = c.loop-k in
    record {
      long = length-set l.listed (c.args.kept.element + l.k) (c.args.kept.place + l.k) ∙ l.invariant.long;
      each = λ e d. placed_more c.args.kept l.k c.args.listed.now l.listed d e (omega (arith, c.requires.elements, l.invariant.long, c.loop-k-test.true)) (l.invariant.each e d);
    }

pub returns-clause-each : goal.returns-clause-each
returns-clause-each c =
    let l = c.loop-k in
    let whole : l.k ≡ c.args.kept.len = omega (arith, c.loop-k-test.false, l.auto.k-end) in
    λ e d. l.invariant.each e d ∙ ap (λ (n : ℕ). placed (first_ones c.args.kept n) (get_or c.args.listed.now e d) e) whole
