use Rattle.std.proofs.Common.{◌≡◌, ℕ, ◌+◌, ◌-◌, ◌/◌, ◌<◌, ◌≤◌, Bool, true, false, not, length, get_or, refl, arith, ap, sym, ◌∙◌}
use Rattle.std.proofs.lemmas.List.Edits.{get_or-between, length-between}
use Rattle.rtl_net_groups.proofs.touched.Touched.are_left.Goals as goal

none : (b : Bool) → not b ≡ true → b ≡ false
none true e = absurd (cc)
none false e = refl

some : (b : Bool) → not b ≡ false → b ≡ true
some true e = refl
some false e = absurd (cc)

pub returns-clause-left : goal.returns-clause-left
returns-clause-left c = λ is n low high.
    let marks = c.self.inside.marks.items in
    let from = c.args.first / 256 in
    let end = (c.args.end - 1) / 256 + 1 in
    let within : c.args.end ≤ c.self.inside.nets = rw (← c.self.view_is) at c.requires.within in
    let long : end ≤ length marks = omega (arith, c.self.invariant, within) in
    let at : n / 256 ≡ from + (n / 256 - from) = omega (arith, low) in
    let lt : from + (n / 256 - from) < end = omega (arith, low, high) in
    let none_here = rw (c.deref.ensures.value) at c.has_mark.ensures.none in
    rw (← c.self.view_is)
    (ap (λ (k : ℕ). get_or marks k false) at
    ∙ sym (get_or-between marks from end (n / 256 - from) false lt)
    ∙ none_here (none c.has_mark.result is) (n / 256 - from) (omega (arith, lt, length-between marks from end long)))

pub returns-clause-marked : goal.returns-clause-marked
returns-clause-marked c = λ is.
    let marks = c.self.inside.marks.items in
    let from = c.args.first / 256 in
    let end = (c.args.end - 1) / 256 + 1 in
    let within : c.args.end ≤ c.self.inside.nets = rw (← c.self.view_is) at c.requires.within in
    let long : end ≤ length marks = omega (arith, c.self.invariant, within) in
    let some_here = rw (c.deref.ensures.value) at c.has_mark.ensures.some in
    let (k, lt, marked) = some_here (some c.has_mark.result is) in
    let less : from + k < end = omega (arith, lt, length-between marks from end long) in
    (from + k, omega arith, omega (arith, less), rw (← c.self.view_is) (sym (get_or-between marks from end k false less) ∙ marked))
