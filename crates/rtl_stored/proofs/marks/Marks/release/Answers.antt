use Rattle.std.proofs.Common.{◌≡◌, ◌<◌, ℕ, true, List, length, get_or, refl, subst, sym, ap, ◌∙◌}
use Rattle.std.proofs.lemmas.List.{get_or_default}
use Rattle.rtl_body_facts.specs.Reading.{is_in}
use Rattle.rtl_stored.specs.declared.marks.Mark.{Mark}
use Rattle.rtl_stored.specs.Walks.{no_element}
use Rattle.rtl_stored.proofs.Marking.{in_at, released_more}
use Rattle.rtl_stored.proofs.marks.Marks.release.Goals as goal

-- the element is there, at first and at this turn
inside : (xs : List ℕ) (i many now : ℕ) → i < length xs → ((e : ℕ) → is_in e xs ≡ true → e < many) → now ≡ many → get_or xs i 0 < now
inside xs i many now l all same = subst (λ n. get_or xs i 0 < n) (sym same) (all (get_or xs i 0) (in_at xs i l))

pub index-requires : goal.index-requires
index-requires c =
    let l = c.loop-element in
    inside c.args.elements.now l.element-index _ _ c.loop-element-test.true c.requires (l.self.marks.ok.0 ∙ l.invariant.same_length)

pub index_mut-requires : goal.index_mut-requires
index_mut-requires c =
    let l = c.loop-element in
    inside c.args.elements.now l.element-index _ _ c.loop-element-test.true c.requires (l.self.marks.ok.0 ∙ l.invariant.same_length)

pub loop-element-preserved : goal.loop-element-preserved
loop-element-preserved c =
    let l = c.loop-element in
    let xs = c.args.elements.now in
    let i = l.element-index in
    let x = get_or xs i 0 in
    let now = l.self.marks.items in
    let there = inside xs i _ _ c.loop-element-test.true c.requires l.invariant.same_length in
    released_more xs i x c.args.self.now.marks.items now _ _ c.loop-element-test.true (get_or_default xs i 0 x c.loop-element-test.true) there
    (ap (λ (m : Mark). m.stored) (c.index.ensures ∙ get_or_default now x c.index.result.now no_element there)) refl l.invariant
