use Rattle.std.proofs.Common.{ℕ, ◌+◌, ◌<◌, ◌==◌, length, arith, refl, ap, ◌∙◌, length-append, [], ◌∷◌}
use Rattle.rtl_net.specs.Nets.{flat}
use Rattle.rtl_kernel.proofs.Grouped.{alone_more, marks_alone}
use Rattle.rtl_kernel.proofs.wakes.alone_groups.Goals as goal

pub sources-sources-requires : goal.sources-sources-requires
sources-sources-requires c =
    let there : c.loop-group.group < length c.args.groups.now.first = omega (arith, c.loop-group-test.true, c.count-count.ensures, c.requires.each_group) in
    let begins = c.requires.runs.begins c.loop-group.group there in
    omega (arith, begins.0, c.first-first.ensures, c.requires.each_net)

pub loop-group-preserved : goal.loop-group-preserved
loop-group-preserved c =
    let I = c.loop-group.invariant in
    let marks = c.loop-group.alone.items in
    let sources = c.sources-sources in
    record {
      as_many = ap length c.in_ok-push.ensures.items ∙ length-append marks ((length sources.result.now == 1) ∷ []) ∙ ap (λ (n : ℕ). n + 1) I.as_many;
      each = rw (c.in_ok-push.ensures.items) (alone_more (flat c.args.net.now) c.args.groups.now.first marks c.loop-group.group (length sources.result.now) sources.result.now I.as_many
          (rw (c.first-first.ensures) at sources.ensures) refl I.each);
    }

pub returns : goal.returns
returns c =
    let I = c.loop-group.invariant in
    marks_alone (flat c.args.net.now) c.args.groups.now c.loop-group.alone.items c.requires.runs c.requires.each_group c.requires.alike
    (omega (arith, I.as_many, c.loop-group-test.false, c.count-count.ensures)) (λ g l. I.each g (omega (arith, l, c.loop-group-test.false, c.count-count.ensures)))
