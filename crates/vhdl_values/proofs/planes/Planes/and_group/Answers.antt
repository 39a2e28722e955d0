use Rattle.std.proofs.Common.{arith, refl}
use Rattle.vhdl_values.proofs.Coded.{HaveCodes-append, all_below}
use Rattle.vhdl_values.proofs.planes.Planes.and_group.Goals as goal

pub returns : goal.returns
returns c = λ codes room have.
    let below = all_below c.args.group.now (λ i. omega (arith, c.type_inv.group i)) in
    HaveCodes-append codes c.args.group.now _ _ _ _ _ _ _ _ _ _ _ _ _ room refl have record {
      firsts = c.gathered.ensures c.args.group.now c.requires below c.packed-word.ensures;
      seconds = c.gathered-2.ensures c.args.group.now c.requires below c.packed-word.ensures;
      thirds = c.gathered-3.ensures c.args.group.now c.requires below c.packed-word.ensures;
      fourths = c.gathered-4.ensures c.args.group.now c.requires below c.packed-word.ensures;
    }
    c.beside.ensures c.beside-2.ensures c.beside-3.ensures c.beside-4.ensures
