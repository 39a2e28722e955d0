use Rattle.std.proofs.Common.{◌<◌, length, refl, ◌∙◌, arith}
use Rattle.std.proofs.lemmas.List.{length-set}
use Rattle.rtl_net.specs.Nets.{flat}
use Rattle.rtl_kernel.proofs.Grouped.{told_more}
use Rattle.rtl_kernel.proofs.wakes.tell_apart.Goals as goal

pub sources-requires : goal.sources-requires
sources-requires c = omega (arith, c.loop-each-test.true, c.len-each-end.ensures, c.args.declared.now.ok.0, c.requires)

pub loop-each-preserved : goal.loop-each-preserved
loop-each-preserved c =
    let numbers = c.loop-each.declared.items in
    let I = c.loop-each.invariant in
    let each = c.loop-each.each in
    let there : each < length numbers = omega (arith, c.loop-each-test.true, c.len-each-end.ensures, c.args.declared.now.ok.0, I.as_many) in
    record {
      as_many = length-set numbers each _ ∙ I.as_many;
      apart = told_more (flat c.args.net.now) numbers each _ c.sources.result.now _ there c.sources.ensures refl c.told_apart.ensures I.apart;
    }
