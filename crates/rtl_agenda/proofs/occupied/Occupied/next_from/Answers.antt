use Rattle.std.proofs.Common.{◌≡◌, ◌<◌, ◌≤◌, ◌*◌, ◌/◌, ◌%◌, ◌^◌, ℕ, false, get_or, inl, inr, sym, ap, ◌∙◌, arith, rules}
use Rattle.std.proofs.lemmas.Bool.{cases_lt}
use Rattle.std.proofs.lemmas.List.{get_or_default}
use Rattle.rtl_agenda.specs.Occupied.{is_marked}
use Rattle.rtl_agenda.proofs.Marks.{unmarked_rest, marked_lowest, unmarked_below}
use Rattle.rtl_agenda.proofs.occupied.Occupied.next_from.Goals as goal
use Rattle.rtl_agenda.proofs.occupied.Occupied.next_from.Goals.{After-index}

-- at a word
module _ (c : After-index) where
  abbrev rest : ℕ
  rest = c.index.result.now / 2 ^ (c.loop-slot.slot % 64)

  was : get_or c.args.self.now.words.items (c.loop-slot.slot / 64) 0 ≡ c.index.result.now
  was = get_or_default c.args.self.now.words.items (c.loop-slot.slot / 64) 0 c.index.result.now (omega (arith, c.loop-slot-test.true, c.len.ensures)) ∙ sym c.index.ensures

  rest_is : get_or c.args.self.now.words.items (c.loop-slot.slot / 64) 0 / 2 ^ (c.loop-slot.slot % 64) ≡ rest
  rest_is = ap (λ n. n / 2 ^ (c.loop-slot.slot % 64)) was

  fits : c.index.result.now < 2 ^ 64 → get_or c.args.self.now.words.items (c.loop-slot.slot / 64) 0 < 2 ^ 64
  fits word = omega (arith, was, word)

  -- no slot before an end is occupied, if none from this one on is
  still_free : {end s : ℕ} → (c.loop-slot.slot ≤ s → s < end → is_marked c.args.self.now.words.items s ≡ false) → c.args.from ≤ s → s < end → is_marked c.args.self.now.words.items s ≡ false
  still_free {s = s} more from below = elim (cases_lt s c.loop-slot.slot) [
    | inl before ↦ c.loop-slot.invariant.free s from before
    | inr not_before ↦ more not_before below
  ]

pub returns-then-rest-ne0-clause-occupied : goal.returns-then-rest-ne0-clause-occupied
returns-then-rest-ne0-clause-occupied c =
    let at = (goal.at.returns-then-rest-ne0-clause-occupied c).After-index in
    marked_lowest c.args.self.now.words.items c.loop-slot.slot (rest at) (sym (rest_is at)) (omega (arith, c.if-rest-ne0.true)) (fits at (search rules))

pub returns-then-rest-ne0-clause-first : goal.returns-then-rest-ne0-clause-first
returns-then-rest-ne0-clause-first c =
    let at = (goal.at.returns-then-rest-ne0-clause-first c).After-index in
    λ s. still_free at (unmarked_below c.args.self.now.words.items c.loop-slot.slot (rest at) (sym (rest_is at)) (omega (arith, c.if-rest-ne0.true)) (fits at (search rules)) s)

pub loop-slot-preserved : goal.loop-slot-preserved
loop-slot-preserved c =
    let at = (goal.at.loop-slot-preserved c).After-index in
    record {
      from = omega (arith, c.loop-slot.invariant.from);
      free = λ s. still_free at (unmarked_rest c.args.self.now.words.items c.loop-slot.slot (rest at) (sym (rest_is at)) c.if-rest-ne0.false s);
    }
