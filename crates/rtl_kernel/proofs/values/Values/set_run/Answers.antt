use Rattle.std.proofs.Common.{◌≡◌, ◌+◌, ◌<◌, ◌≤◌, Bool, ℕ, true, false, All, List, length, refl, sym, ◌∙◌, subst, arith}
use Rattle.std.specs.Vec.{with_items}
use Rattle.rtl_net_groups.specs.Written.{IsWritten}
use Rattle.rtl_kernel.specs.values.Differing.{two_of, IsCovered}
use Rattle.rtl_kernel.specs.values.TwoValues.{CoverEvents, HasEventIn, HasWritten, group_of}
use Rattle.rtl_kernel.specs.declared.values.Values.TheInside.{Inside}
use Rattle.rtl_kernel.specs.worklists.Numbers.{Numbers, IsWith}
use Rattle.rtl_kernel.proofs.Events.{covers_written, sure_written}
use Rattle.rtl_net_groups.proofs.Replaced.{same_values}
use Rattle.rtl_net_groups.proofs.Writing.{written_items}
use Rattle.rtl_kernel.proofs.values.Values.set_run.Goals as goal
use Rattle.rtl_kernel.proofs.values.Values.set_run.Goals.{After-replace}

-- values are written to nets of a group, and the group is noted
noted : (v : Inside) → IsCovered v → (first group : ℕ) (values over : List ℕ) → IsWritten first values v.current.items (with_items v.current over).items → group < length v.groups.listed
    → ((k : ℕ) → k < length values → group_of (two_of v) (first + k) ≡ group) → (new : Numbers) → IsWith group v.changed new → (once : Bool)
    → (once ≡ true → All (HasEventIn (record (two_of v) { current = (with_items v.current over).items })) new.members)
    → IsCovered (record v { current = with_items v.current over; changed = new; once = once })
noted v I first group values over W below together new A once sure = record {
  runs = I.runs;
  each_group = I.each_group;
  each_net = I.each_net ∙ sym W.as_many;
  as_many = I.as_many ∙ sym W.as_many;
  bound = A.bound_stays ∙ I.bound;
  covers = covers_written (two_of v) v.changed new first group values (with_items v.current over).items below together W I.covers A;
  sure = sure;
}

-- once values are written
module _ (c : After-replace) where
  written : IsWritten c.args.first c.args.values.now c.self.inside.current.items (with_items c.self.inside.current c.replace.new.over).items
  written =
      let told = rw c.deref_mut.ensures.value at c.replace.ensures.written in
      written_items c.self.inside.current c.replace.new.over c.args.first c.args.values.now told

  has_written : HasWritten c.args.first c.args.values.now c.args.self.now (record (two_of c.self.inside) { current = (with_items c.self.inside.current c.replace.new.over).items })
  has_written = rw (← c.self.view_is) (record { groups_stay = refl; before_stays = refl; current = written })

pub insert-requires : goal.insert-requires
insert-requires c = let requires = rw (← c.self.view_is) at c.requires in rw (c.self.invariant.bound) requires.group

pub invariant_of-self : goal.invariant_of-self
invariant_of-self c =
    let requires = rw (← c.self.view_is) at c.requires in
    noted c.self.inside c.self.invariant c.args.first c.args.group c.args.values.now c.replace.new.over (written (goal.at.invariant_of-self c).After-replace) requires.group requires.together
    c.insert.new.self c.insert.ensures.with false (λ told. (let no : ◌≡◌ {A = Bool} false true = told in cc))

pub invariant_of-self-else-not-insert : goal.invariant_of-self-else-not-insert
invariant_of-self-else-not-insert c =
    let I = c.self.invariant in
    let v = two_of c.self.inside in
    let requires = rw (← c.self.view_is) at c.requires in
    let W = written (goal.at.invariant_of-self-else-not-insert c).After-replace in
    let O = rw c.deref_mut.ensures.value at (c.replace.ensures.other c.if-replace.true) in
    let there : c.args.first + length c.args.values.now ≤ length v.groups.of_net = omega (arith, requires.there, I.each_net) in
    noted c.self.inside I c.args.first c.args.group c.args.values.now c.replace.new.over W requires.group requires.together c.insert.new.self c.insert.ensures.with c.self.inside.once
    (λ told. sure_written v c.self.inside.changed c.insert.new.self c.args.first c.args.group c.args.values.now (with_items c.self.inside.current c.replace.new.over).items
    requires.together there W O I.covers (c.insert.ensures.first c.if-not-insert.false) c.insert.ensures.with (I.sure told))

pub invariant_of-self-else-replace : goal.invariant_of-self-else-replace
invariant_of-self-else-replace c =
    let I = c.self.invariant in
    let v = two_of c.self.inside in
    let members = c.self.inside.changed.members in
    let W = written (goal.at.invariant_of-self-else-replace c).After-replace in
    let alike = rw c.deref_mut.ensures.value at (c.replace.ensures.alike c.if-replace.false) in
    let same = same_values c.args.first c.args.values.now v.current (with_items c.self.inside.current c.replace.new.over).items W alike in
    record {
      runs = I.runs;
      each_group = I.each_group;
      each_net = I.each_net ∙ sym W.as_many;
      as_many = I.as_many ∙ sym W.as_many;
      bound = I.bound;
      covers = subst (λ (cs : List ℕ). CoverEvents (record v { current = cs }) members) same I.covers;
      sure = λ told. subst (λ (cs : List ℕ). All (HasEventIn (record v { current = cs })) members) same (I.sure told);
    }

pub returns-then-not-insert : goal.returns-then-not-insert
returns-then-not-insert c = has_written (goal.at.returns-then-not-insert c).After-replace

pub returns-else-not-insert : goal.returns-else-not-insert
returns-else-not-insert c = has_written (goal.at.returns-else-not-insert c).After-replace

pub returns-else-replace : goal.returns-else-replace
returns-else-replace c = has_written (goal.at.returns-else-replace c).After-replace
