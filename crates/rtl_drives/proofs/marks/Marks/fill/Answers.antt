use Rattle.std.proofs.Common.{ℕ, Bool, false, List, length, replicate, subst, sym, ap, ◌∙◌, arith}
use Rattle.rtl_drives.specs.Marked.{marked, HasNoMark}
use Rattle.rtl_drives.proofs.Marking.{all_off, length-marked, none_before}
use Rattle.rtl_drives.proofs.marks.Marks.fill.Goals as goal

pub invariant_of-self : goal.invariant_of-self
invariant_of-self c =
    let d = c.self.inside in
    let many = ap (λ (ms : List Bool). length ms) c.self.view_is in
    let none = subst HasNoMark (sym c.self.view_is) (c.requires.first c.if-are_first.true) in
    record {
      within = omega (arith, c.requires.within, many, length-marked d.alone.first d.alone.len d.marks.items);
      no_other = λ some. none_before d.alone.first d.alone.len d.marks.items none;
    }

pub invariant_of-self-else-are_first : goal.invariant_of-self-else-are_first
invariant_of-self-else-are_first c = record {
  within = omega (arith, c.settle.ensures.within, ap (λ (ms : List Bool). length ms) c.fill.ensures, length-marked c.args.first c.args.len c.settle.new.marks.items);
  no_other = λ some. absurd (omega (arith, some, c.settle.ensures.none));
}

pub returns-then-are_first : goal.returns-then-are_first
returns-then-are_first c =
    let d = c.self.inside in
    let none = subst HasNoMark (sym c.self.view_is) (c.requires.first c.if-are_first.true) in
    let was = all_off d.marks.items (none_before d.alone.first d.alone.len d.marks.items none) in
    let is = all_off (marked d.alone.first d.alone.len d.marks.items) none in
    let many = length-marked d.alone.first d.alone.len d.marks.items in
    ap (λ (ms : List Bool). marked c.args.first c.args.len ms) (was ∙ ap (λ (n : ℕ). replicate n false) (sym many) ∙ sym is ∙ c.self.view_is)
