use Rattle.std.proofs.Common.{◌≡◌, ◌<◌, ℕ, Bool, true, false, List, length, get_or, ◌∙◌, sym, ap, subst}
use Rattle.std.proofs.lemmas.List.{length-set}
use Rattle.rtl_kernel.specs.values.Differing.{two_of}
use Rattle.rtl_kernel.specs.values.TwoValues.{group_of}
use Rattle.rtl_kernel.specs.worklists.Numbers.{IsWith}
use Rattle.rtl_kernel.proofs.Events.{covers_set}
use Rattle.rtl_kernel.proofs.values.Values.set.Goals as goal

pub insert-requires : goal.insert-requires
insert-requires c =
    let I = c.self.invariant in
    let within = rw (← c.self.view_is) at c.requires in
    let there : c.args.net < length c.of_net.result.now = rw (c.of_net.ensures.value, I.each_net) within in
    rw (I.bound) (c.of_net.ensures.below c.args.net 0 there)

pub invariant_of-self : goal.invariant_of-self
invariant_of-self c =
    let I = c.self.invariant in
    let v = two_of c.self.inside in
    let net = c.args.net in
    let within = rw (← c.self.view_is) at c.requires in
    let longer = length-set c.self.inside.current.items net c.args.value in
    let there : net < length c.of_net.result.now = rw (c.of_net.ensures.value, I.each_net) within in
    let is : get_or c.of_net.result.now net 0 ≡ group_of v net = ap (λ (ns : List ℕ). get_or ns net 0) c.of_net.ensures.value in
    let below : group_of v net < length v.groups.listed = rw is at (c.of_net.ensures.below net 0 there) in
    let A = subst (λ (g : ℕ). IsWith g c.self.inside.changed c.insert.new.self) is c.insert.ensures.with in
    record {
      runs = I.runs;
      each_group = I.each_group;
      each_net = I.each_net ∙ sym longer;
      as_many = I.as_many ∙ sym longer;
      bound = A.bound_stays ∙ I.bound;
      covers = covers_set v c.self.inside.changed c.insert.new.self net c.args.value below I.covers A;
      sure = λ told. (let no : ◌≡◌ {A = Bool} false true = told in cc);
    }
