use Rattle.std.proofs.Common.{◌≡◌, ℕ, ◌+◌, ◌-◌, ◌<◌, ◌≤◌, true, false, arith, length, get_or, ap, sym, subst, ◌∙◌, Contains}
use Rattle.std.proofs.lemmas.List.{get_or_default}
use Rattle.rtl_net_groups.specs.Groups.{Grouping}
use Rattle.rtl_net_groups.specs.declared.cuts.Cut.{Cut}
use Rattle.rtl_net.specs.Nets.{NetlistView, flat}
use Rattle.rtl_kernel.specs.drivers.Brought.{IsAlone, MarkAlone}
use Rattle.rtl_kernel.specs.drivers.DriverCuts.{IsCutThere}
use Rattle.rtl_kernel.proofs.Brought.{alone_marked, brings_at_once, brings_later, brings_nothing}
use Rattle.rtl_kernel.proofs.Pieces.{net_is}
use Rattle.rtl_kernel.proofs.nets.Nets.take.Goals as goal

-- so many nets of a cut behind the first few
module _ (net : NetlistView) (groups : Grouping) (cut : Cut) (C : IsCutThere net groups cut) (grouped : length groups.of_net ≡ length net.types) (skipped len : ℕ)
    (to : skipped + len ≤ cut.len) where
  in_group : (k : ℕ) → k < len → get_or groups.of_net (cut.net + skipped + k) 0 ≡ cut.group
  in_group k l =
      let at : cut.net + skipped + k ≡ cut.net + (skipped + k) = omega arith in
      ap (λ (n : ℕ). get_or groups.of_net n 0) at ∙ C.in_group (skipped + k) (omega (arith, l, to))

  group_there : (marks : _) → MarkAlone (flat net) groups marks → cut.group < length groups.listed
  group_there marks M =
      let at : cut.net ≡ cut.net + 0 = omega arith in
      let own = ap (λ (n : ℕ). get_or groups.of_net n 0) at ∙ C.in_group 0 C.some in
      let below = M.there cut.net (omega (arith, C.there, C.some, grouped)) in
      omega (arith, below, own)

  are_alone : (marks : _) → MarkAlone (flat net) groups marks → get_or marks cut.group false ≡ true → (k : ℕ) → k < len → IsAlone (flat net) (cut.net + skipped + k)
  are_alone marks M told k l =
      alone_marked (flat net) groups marks cut.group M told (cut.net + skipped + k) (omega (arith, C.there, grouped, l, to)) (in_group k l)

pub set_run-requires-clause-together : goal.set_run-requires-clause-together
set_run-requires-clause-together c =
    let C = rw (← c.self.view_is) at c.requires.cut in
    in_group c.self.inside.wiring.now c.self.inside.values.groups c.args.cut C c.self.invariant.grouped (c.args.place - c.args.cut.place)
    (length c.args.assigned.now) (omega (arith, c.requires.from, c.requires.to))

pub insert-requires : goal.insert-requires
insert-requires c =
    let C = rw (← c.self.view_is) at c.requires.cut in
    let I = c.self.invariant in
    let there = group_there c.self.inside.wiring.now c.self.inside.values.groups c.args.cut C I.grouped 0 0 (omega arith) _ I.marked in
    omega (arith, there, I.bound)

pub returns-then-index-clause-brings : goal.returns-then-index-clause-brings
returns-then-index-clause-brings c =
    let C = rw (← c.self.view_is) at c.requires.cut in
    let I = c.self.invariant in
    let cut = c.args.cut in
    let len = length c.args.assigned.now in
    let in_alone : cut.group < length c.self.inside.alone.items =
    omega (arith, I.marked.each_group, group_there c.self.inside.wiring.now c.self.inside.values.groups cut C I.grouped 0 0 (omega arith) _ I.marked) in
    let told = get_or_default c.self.inside.alone.items cut.group false c.index.result.now in_alone ∙ sym c.index.ensures ∙ c.if-index.true in
    let alone = are_alone c.self.inside.wiring.now c.self.inside.values.groups cut C I.grouped (c.args.place - cut.place) len
    (omega (arith, c.requires.from, c.requires.to)) _ I.marked told in
    rw (← c.self.view_is)
    (λ targets T. brings_at_once targets c.args.values.now c.replace-differ.new.over c.args.place (cut.net + (c.args.place - cut.place)) c.args.assigned.now
    (record { net = c.self.inside.wiring.now; values = c.self.inside.values; noted = c.self.inside.noted.members })
    (omega (arith, c.requires.to, T.there)) (net_is _ targets cut T c.args.place len c.requires.from c.requires.to) c.replace-differ.ensures.written
    c.set_run.new.self c.set_run.ensures alone)

pub returns-then-replace-clause-brings : goal.returns-then-replace-clause-brings
returns-then-replace-clause-brings c =
    let C = rw (← c.self.view_is) at c.requires.cut in
    let cut = c.args.cut in
    let len = length c.args.assigned.now in
    let own = in_group c.self.inside.wiring.now c.self.inside.values.groups cut C c.self.invariant.grouped (c.args.place - cut.place) len
    (omega (arith, c.requires.from, c.requires.to)) in
    let W = c.insert.ensures.with in
    rw (← c.self.view_is)
    (λ targets T. brings_later targets c.args.values.now c.replace.new.over c.args.place (cut.net + (c.args.place - cut.place)) c.args.assigned.now
    (record { net = c.self.inside.wiring.now; values = c.self.inside.values; noted = c.self.inside.noted.members })
    (omega (arith, c.requires.to, T.there)) (net_is _ targets cut T c.args.place len c.requires.from c.requires.to) c.replace.ensures.written
    c.insert.new.self.members W.kept (λ k l. subst (Contains c.insert.new.self.members) (sym (own k l)) W.added))

pub returns-else-replace-clause-brings : goal.returns-else-replace-clause-brings
returns-else-replace-clause-brings c =
    let cut = c.args.cut in
    rw (← c.self.view_is)
    (λ targets T. brings_nothing targets c.args.values.now c.replace.new.over c.args.place (cut.net + (c.args.place - cut.place)) c.args.assigned.now
    (record { net = c.self.inside.wiring.now; values = c.self.inside.values; noted = c.self.inside.noted.members })
    (omega (arith, c.requires.to, T.there)) (net_is _ targets cut T c.args.place (length c.args.assigned.now) c.requires.from c.requires.to)
    c.replace.ensures.written (c.replace.ensures.alike c.if-replace.false))
