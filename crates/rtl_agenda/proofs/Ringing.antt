-- The slots of a ring, and times within one turn.
use Rattle.std.proofs.Common.{◌≡◌, ◌≢◌, ◌⊎◌, ℕ, zero, suc, ◌+◌, ◌-◌, ◌*◌, ◌/◌, ◌%◌, ◌<◌, ◌≤◌, true, false, List, [], ◌∷◌, ◌++◌, length, get_or, set, Option, Some, None, refl, sym, ap, subst, ◌∙◌, arith, inl, inr}
use Rattle.std.specs.Prelude.{IfSome}
use Rattle.std.specs.List.{AllByRecursion}
use Rattle.std.specs.Map.{keys_of}
use Rattle.std.proofs.lemmas.Bool.{cases_Bool, cases_eq, cases_lt, cases_order}
use Rattle.std.proofs.lemmas.List.{get_or-map, get_or-set_same, get_or-set_other, length-map, length-set, map-set, set-get_or}
use Rattle.std.proofs.lemmas.List.Elements.{All-from_recursion, All-weaker, recursion_from_All}
use Rattle.std.proofs.lemmas.Nat.{div-add-mod', mod_below, mul-le, row_fits}
use Rattle.rtl_agenda.specs.Agenda.{Change, changes_at, with_change}
use Rattle.rtl_agenda.specs.Occupied.{is_marked, most_slots}
use Rattle.rtl_agenda.specs.Wheel.{IsAhead, IsFilled, IsParted, IsRing, IsWithinTurn, entries_of, entry_of, is_filled, slot_at, waiting_in}
use Rattle.rtl_agenda.specs.declared.slot.Slot.{Slot}
use Rattle.rtl_agenda.proofs.InOrder.{Rises, far_of_none, in_order_head, keys_insert, keys_weaker, nothing_before}
use Rattle.rtl_agenda.proofs.Slots.{filled_within, times_set}
use Rattle.rtl_agenda.proofs.Turning.{waiting_near, waiting_far}

-- a slot that is read, and one that is written
pub entry_read : (items : List Slot) (s : ℕ) (x : Slot) → s < length items → x ≡ get_or items s x → slot_at (entries_of items) s ≡ entry_of x
entry_read items s x within read = get_or-map entry_of items s x (0, []) within ∙ ap entry_of (sym read)

pub entry_written : (items : List Slot) (s : ℕ) (x : Slot) (e : ℕ × List Change) → entry_of x ≡ e → entries_of (set items s x) ≡ set (entries_of items) s e
entry_written items s x e is = map-set entry_of items s x ∙ ap (λ (e : ℕ × List Change). set (entries_of items) s e) is

pub entry_kept : (items : List Slot) (s : ℕ) (x y : Slot) → s < length items → y ≡ get_or items s y → entry_of x ≡ entry_of y → entries_of (set items s x) ≡ entries_of items
entry_kept items s x y within read is =
    entry_written items s x (slot_at (entries_of items) s) (is ∙ sym (entry_read items s y within read)) ∙ set-get_or (entries_of items) s (0, [])

-- a slot is written, and its mark with it
pub ring_set : (slots : List (ℕ × List Change)) (words new_words : List ℕ) (s : ℕ) (e : ℕ × List Change) → IsRing slots words → s < length slots → (is_filled e.1 ≡ true → e.0 % length slots ≡ s)
    → is_marked new_words s ≡ is_filled e.1 → ((k : ℕ) → k ≢ s → is_marked new_words k ≡ is_marked words k) → length new_words ≡ length words → IsRing (set slots s e) new_words
ring_set slots words new_words s e ring within place here others long = record {
  some = omega (arith, ring.some, length-set slots s e);
  bounded = omega (arith, ring.bounded, length-set slots s e);
  all = omega (arith, ring.all, long, length-set slots s e);
  occupied = λ k. marked k (cases_eq k s);
  placed = λ k. placed_at k (cases_eq k s);
}
  where
    marked : (k : ℕ) → (k ≡ s) ⊎ (k ≡ s → ⊥) → is_marked new_words k ≡ is_filled (slot_at (set slots s e) k).1
    marked k (inl is) =
        let P : ℕ → Type 0 = λ i. is_marked new_words i ≡ is_filled (slot_at (set slots s e) i).1 in
        subst P (sym is) (here ∙ sym (ap (λ (x : ℕ × List Change). is_filled x.1) (get_or-set_same slots s e (0, []) within)))
    marked k (inr apart) = others k apart ∙ ring.occupied k ∙ sym (ap (λ (x : ℕ × List Change). is_filled x.1) (get_or-set_other slots s k e (0, []) apart))

    placed_at : (k : ℕ) → (k ≡ s) ⊎ (k ≡ s → ⊥) → IsFilled (set slots s e) k → (slot_at (set slots s e) k).0 % length (set slots s e) ≡ k
    placed_at k (inl is) =
        let P : ℕ × List Change → Type 0 = λ x. is_filled x.1 ≡ true → x.0 % length (set slots s e) ≡ k in
        subst P (sym (ap (λ i. slot_at (set slots s e) i) is ∙ get_or-set_same slots s e (0, []) within)) (λ filled. ap (λ n. e.0 % n) (length-set slots s e) ∙ place filled ∙ sym is)
    placed_at k (inr apart) =
        let P : ℕ × List Change → Type 0 = λ x. is_filled x.1 ≡ true → x.0 % length (set slots s e) ≡ k in
        subst P (sym (get_or-set_other slots s k e (0, []) apart)) (λ filled. ap (λ n. (slot_at slots k).0 % n) (length-set slots s e) ∙ ring.placed k filled)

pub ring_written : (items : List Slot) (words new_words : List ℕ) (s : ℕ) (x : Slot) (e : ℕ × List Change) → IsRing (entries_of items) words → s < length items → entry_of x ≡ e → (is_filled e.1 ≡ true → e.0 % length items ≡ s)
    → is_marked new_words s ≡ is_filled e.1 → ((k : ℕ) → k ≢ s → is_marked new_words k ≡ is_marked words k) → length new_words ≡ length words → IsRing (entries_of (set items s x)) new_words
ring_written items words new_words s x e ring within is place here others long =
    let P : List (ℕ × List Change) → Type 0 = λ es. IsRing es new_words in
    let count : length (entries_of items) ≡ length items = length-map items entry_of in
    subst P (sym (entry_written items s x e is))
    (ring_set (entries_of items) words new_words s e ring (omega (arith, within, count)) (λ filled. ap (λ n. e.0 % n) count ∙ place filled) here others long)

pub slot_within : (items : List Slot) (words : List ℕ) (t k : ℕ) → IsRing (entries_of items) words → k ≡ t % length items → k < length items
slot_within items words t k ring at = omega (arith, at, mod_below t (length items) (omega (arith, ring.some, length-map items entry_of)))

-- a slot's number, by the slots' entries
pub slot_number : (items : List Slot) (t k : ℕ) → k ≡ t % length items → k ≡ t % length (entries_of items)
slot_number items t k at = at ∙ ap (λ n. t % n) (sym (length-map items entry_of))

pub change_written : (items : List Slot) (words : List ℕ) (t k : ℕ) (x old : Slot) (c : Change) → IsRing (entries_of items) words → k ≡ t % length items → old ≡ get_or items k old → entry_of x ≡ (t, (entry_of old).1 ++ c ∷ [])
    → entries_of (set items k x) ≡ set (entries_of items) (t % length (entries_of items)) (t, (slot_at (entries_of items) (t % length (entries_of items))).1 ++ c ∷ [])
change_written items words t k x old c ring at read is =
    entry_written items k x (t, (entry_of old).1 ++ c ∷ []) is
    ∙ ap (λ (e : ℕ × List Change). set (entries_of items) k (t, e.1 ++ c ∷ [])) (sym (entry_read items k old (slot_within items words t k ring at) read))
    ∙ ap (λ i. set (entries_of items) i (t, (slot_at (entries_of items) i).1 ++ c ∷ [])) (slot_number items t k at)

pub ring_none : (slots : List (ℕ × List Change)) (words : List ℕ) (n : ℕ) → 0 < n → n ≤ most_slots → length slots ≡ n → n ≤ length words * 64 → ((s : ℕ) → is_marked words s ≡ false)
    → ((s : ℕ) → is_filled (slot_at slots s).1 ≡ false) → IsRing slots words
ring_none slots words n some bounded long all free empty = record {
  some = omega (arith, some, long);
  bounded = omega (arith, bounded, long);
  all = omega (arith, long, all);
  occupied = λ s. free s ∙ sym (empty s);
  placed = λ s filled. let none = empty s in absurd (cc);
}

pub empty_more : (items : List Slot) (x : Slot) → x.changes.items ≡ [] → ((s : ℕ) → is_filled (slot_at (entries_of items) s).1 ≡ false) → (s : ℕ) → is_filled (slot_at (entries_of (items ++ x ∷ [])) s).1 ≡ false
empty_more [] x none empty zero = ap is_filled none
empty_more [] x none empty (suc s) = refl
empty_more (y ∷ ys) x none empty zero = empty 0
empty_more (y ∷ ys) x none empty (suc s) = empty_more ys x none (λ k. empty (suc k)) s

-- ---- times within one turn, by their remainders

ahead : (n a b : ℕ) → 0 < n → b ≤ a → b % n ≤ a % n → b + (a % n - b % n) ≤ a
ahead n a b some le less = by (cases_lt (a / n) (b / n))
  where
    by : (a / n < b / n) ⊎ (b / n ≤ a / n) → b + (a % n - b % n) ≤ a
    by (inl lower) = let rows = row_fits (a / n) n (b / n) n lower (omega arith) in absurd (omega (arith, rows, div-add-mod' a n, div-add-mod' b n, mod_below a n some))
    by (inr upper) = let rows = mul-le (b / n) n (a / n) n upper (omega arith) in omega (arith, rows, div-add-mod' a n, div-add-mod' b n)

behind : (n a b : ℕ) → 0 < n → b ≤ a → a % n < b % n → b + (n - b % n) + a % n ≤ a
behind n a b some le less = by (cases_lt (b / n) (a / n))
  where
    by : (b / n < a / n) ⊎ (a / n ≤ b / n) → b + (n - b % n) + a % n ≤ a
    by (inl lower) = let rows = row_fits (b / n) n (a / n) n lower (omega arith) in omega (arith, rows, div-add-mod' a n, div-add-mod' b n, mod_below b n some)
    by (inr upper) = let rows = mul-le (a / n) n (b / n) n upper (omega arith) in absurd (omega (arith, rows, div-add-mod' a n, div-add-mod' b n))

-- two times of one turn with the same remainder are the same
pub one_in_turn : (n from a b : ℕ) → from ≤ a → a - from < n → from ≤ b → b - from < n → a % n ≡ b % n → a ≡ b
one_in_turn n from a b a_from a_near b_from b_near same = by (cases_order (a / n) (b / n))
  where
    by : (a / n ≡ b / n) ⊎ ((a / n < b / n) ⊎ (b / n < a / n)) → a ≡ b
    by (inl is) = omega (arith, ap (λ q. q * n) is, div-add-mod' a n, div-add-mod' b n, same)
    by (inr (inl less)) = let rows = row_fits (a / n) n (b / n) n less (omega arith) in absurd (omega (arith, rows, div-add-mod' a n, div-add-mod' b n, same, a_from, b_near))
    by (inr (inr more)) = let rows = row_fits (b / n) n (a / n) n more (omega arith) in absurd (omega (arith, rows, div-add-mod' a n, div-add-mod' b n, same, b_from, a_near))

-- a time from the turn's first slot on is as far behind it as its slot
in_front : (n from a : ℕ) → from ≤ a → a - from < n → from % n ≤ a % n → a ≡ from + (a % n - from % n)
in_front n from a le near less = by (cases_order (a / n) (from / n))
  where
    some : 0 < n
    some = omega (arith, near)

    by : (a / n ≡ from / n) ⊎ ((a / n < from / n) ⊎ (from / n < a / n)) → a ≡ from + (a % n - from % n)
    by (inl is) = omega (arith, ap (λ q. q * n) is, div-add-mod' a n, div-add-mod' from n, less)
    by (inr (inl lower)) = let rows = row_fits (a / n) n (from / n) n lower (omega arith) in absurd (omega (arith, rows, div-add-mod' a n, div-add-mod' from n, mod_below a n some, le))
    by (inr (inr upper)) = let rows = row_fits (from / n) n (a / n) n upper (omega arith) in absurd (omega (arith, rows, div-add-mod' a n, div-add-mod' from n, less, near, le))

-- the least time of a turn stands in the first slot from that of the turn's first time round
pub least_in_front : (n from a b : ℕ) → from ≤ a → a - from < n → from ≤ b → b - from < n → from % n ≤ a % n → (a % n ≤ b % n) ⊎ (b % n < from % n) → a ≤ b
least_in_front n from a b a_from a_near b_from b_near less (inl le) =
    omega (arith, in_front n from a a_from a_near less, ahead n b from (omega arith) b_from (omega arith), le, less)
least_in_front n from a b a_from a_near b_from b_near less (inr round) =
    omega (arith, in_front n from a a_from a_near less, behind n b from (omega arith) b_from round, mod_below a n (omega arith), mod_below from n (omega arith))

pub least_behind : (n from a b : ℕ) → from ≤ a → a - from < n → from ≤ b → b - from < n → b % n < from % n → a % n ≤ b % n → a ≤ b
least_behind n from a b a_from a_near b_from b_near round le = by (cases_lt b a)
  where
    apart : b < a → (a % n ≡ b % n) ⊎ (a % n ≡ b % n → ⊥) → a ≤ b
    apart more (inl same) = absurd (omega (arith, one_in_turn n from a b a_from a_near b_from b_near same, more))
    apart more (inr differ) =
        let less : a % n < b % n = omega (arith, le, differ) in
        absurd (omega (arith, behind n b from (omega arith) b_from round, behind n a b (omega arith) (omega (arith, more)) less, mod_below from n (omega arith), mod_below b n (omega arith), a_near))

    by : (b < a) ⊎ (a ≤ b) → a ≤ b
    by (inl more) = apart more (cases_eq (a % n) (b % n))
    by (inr le) = le

-- the first occupied slot from that of the turn's first time round
module _ (slots : List (ℕ × List Change)) (words : List ℕ) (from s : ℕ) (ring : IsRing slots words) (turn : IsWithinTurn slots from) (filled : IsFilled slots s) where
  pub first_in_front : from % length slots ≤ s → ((k : ℕ) → from % length slots ≤ k → k < s → is_marked words k ≡ false) → (k : ℕ) → IsFilled slots k → (slot_at slots s).0 ≤ (slot_at slots k).0
  first_in_front start free k there =
      least_in_front (length slots) from (slot_at slots s).0 (slot_at slots k).0 (turn s filled).0 (turn s filled).1 (turn k there).0 (turn k there).1 (omega (arith, ring.placed s filled, start))
      (by (cases_lt k s) (cases_lt k (from % length slots)))
    where
      by : (k < s) ⊎ (s ≤ k) → (k < from % length slots) ⊎ (from % length slots ≤ k)
          → ((slot_at slots s).0 % length slots ≤ (slot_at slots k).0 % length slots) ⊎ ((slot_at slots k).0 % length slots < from % length slots)
      by (inr after) side = inl (omega (arith, ring.placed s filled, ring.placed k there, after))
      by (inl before) (inl round) = inr (omega (arith, ring.placed k there, round))
      by (inl before) (inr from_k) = let none = free k from_k before in let is = ring.occupied k in absurd (cc)

  pub first_round : ((k : ℕ) → from % length slots ≤ k → is_marked words k ≡ false) → ((k : ℕ) → k < s → is_marked words k ≡ false) → (k : ℕ) → IsFilled slots k → (slot_at slots s).0 ≤ (slot_at slots k).0
  first_round ended free k there =
      least_behind (length slots) from (slot_at slots s).0 (slot_at slots k).0 (turn s filled).0 (turn s filled).1 (turn k there).0 (turn k there).1
      (round (cases_lt k (from % length slots))) (from_s (cases_lt k s))
    where
      round : (k < from % length slots) ⊎ (from % length slots ≤ k) → (slot_at slots k).0 % length slots < from % length slots
      round (inl before) = omega (arith, ring.placed k there, before)
      round (inr after) = let none = ended k after in let is = ring.occupied k in absurd (cc)

      from_s : (k < s) ⊎ (s ≤ k) → (slot_at slots s).0 % length slots ≤ (slot_at slots k).0 % length slots
      from_s (inl before) = let none = free k before in let is = ring.occupied k in absurd (cc)
      from_s (inr after) = omega (arith, ring.placed s filled, ring.placed k there, after)

pub least_round : (slots : List (ℕ × List Change)) (words : List ℕ) (from : ℕ) (o : Option ℕ) → IsRing slots words → IsWithinTurn slots from → IfSome o (λ s. is_marked words s ≡ true)
    → IfSome o (λ s. (k : ℕ) → 0 ≤ k → k < s → is_marked words k ≡ false) → ((k : ℕ) → from % length slots ≤ k → is_marked words k ≡ false)
    → IfSome o (λ s. (k : ℕ) → IsFilled slots k → (slot_at slots s).0 ≤ (slot_at slots k).0)
least_round slots words from None ring turn marked free ended = tt
least_round slots words from (Some s) ring turn marked free ended =
    first_round slots words from s ring turn (sym (ring.occupied s) ∙ marked) ended (λ k before. free k (omega arith) before)

-- ---- near and far times

pub far_ahead : (far slots : List (ℕ × List Change)) (from : ℕ) → IsParted far slots from → AllByRecursion (λ u. length slots ≤ u - from) (keys_of far)
far_ahead far slots from parted = recursion_from_All (λ u. length slots ≤ u - from) (keys_of far) parted.ahead

module _ (far slots : List (ℕ × List Change)) (from : ℕ) where
  -- a time of the turn is in its slot alone, and waits nowhere far ahead
  own_slot : (words : List ℕ) (t : ℕ) → IsRing slots words → IsWithinTurn slots from → from ≤ t → t - from < length slots → IsFilled slots (t % length slots) → (slot_at slots (t % length slots)).0 ≡ t
  own_slot words t ring turn le near filled =
      one_in_turn (length slots) from (slot_at slots (t % length slots)).0 t (turn (t % length slots) filled).0 (turn (t % length slots) filled).1 le near (ring.placed (t % length slots) filled)

  -- nothing waits at all
  pub parted_none : far ≡ [] → ((s : ℕ) → is_filled (slot_at slots s).1 ≡ false) → IsParted far slots from
  parted_none empty none = record {
    near = λ k filled. let here = none k in absurd (cc);
    ahead = All-from_recursion (λ u. length slots ≤ u - from) (keys_of far) (far_of_none (λ u. length slots ≤ u - from) far empty);
  }

  module _ (t : ℕ) (change : Change) (words : List ℕ) (in_order : Rises far) (ring : IsRing slots words) (parted : IsParted far slots from) where
    pub pushed_near : from ≤ t → t - from < length slots → waiting_in far (set slots (t % length slots) (t, (slot_at slots (t % length slots)).1 ++ change ∷ [])) ≡ with_change (waiting_in far slots) t change
    pushed_near le near =
        waiting_near slots words ring far in_order t change (own_slot words t ring parted.near le near)
        (nothing_before far t t (keys_weaker (λ u. length slots ≤ u - from) (λ u. t < u) (λ u more. omega (arith, near, more)) (keys_of far) (far_ahead far slots from parted)) (omega arith))

    pub pushed_far : length slots ≤ t - from → waiting_in (with_change far t change) slots ≡ with_change (waiting_in far slots) t change
    pushed_far more = waiting_far slots words ring far in_order t change (λ s filled same. absurd (omega (arith, (parted.near s filled).1, same, more)))

    pub parted_far : length slots ≤ t - from → IsParted (with_change far t change) slots from
    parted_far more = record { near = parted.near; ahead = All-from_recursion (λ u. length slots ≤ u - from) (keys_of (with_change far t change)) (keys_insert (λ u. length slots ≤ u - from) far t (changes_at far t ++ change ∷ []) (far_ahead far slots from parted) more) }

  -- a slot is written at a time of the turn
  turn_set : (s t : ℕ) (cs : List Change) → IsWithinTurn slots from → s < length slots → from ≤ t → t - from < length slots → IsWithinTurn (set slots s (t, cs)) from
  turn_set s t cs turn within le near k filled = (
    times_set (λ x. from ≤ x) slots s (t, cs) within (λ i there. (turn i there).0) (λ _. le) k filled,
    omega (arith, times_set (λ x. x - from < length slots) slots s (t, cs) within (λ i there. (turn i there).1) (λ _. near) k filled, length-set slots s (t, cs)),
  )

  pub parted_near : (t : ℕ) (cs : List Change) → IsParted far slots from → from ≤ t → t - from < length slots → IsParted far (set slots (t % length slots) (t, cs)) from
  parted_near t cs parted le near = record {
    near = turn_set (t % length slots) t cs parted.near (mod_below t (length slots) (omega (arith, near))) le near;
    ahead = All-weaker (λ u. length slots ≤ u - from) (λ u. length (set slots (t % length slots) (t, cs)) ≤ u - from) (λ u more. omega (arith, more, length-set slots (t % length slots) (t, cs))) (keys_of far) parted.ahead;
  }

  -- the changes of a slot that has the least time are taken
  pub ahead_taken : (s : ℕ) → IsParted far slots from → IsFilled slots s → ((k : ℕ) → IsFilled slots k → (slot_at slots s).0 ≤ (slot_at slots k).0)
      → IsAhead far (set slots s ((slot_at slots s).0, [])) (slot_at slots s).0
  ahead_taken s parted filled least =
      let within = filled_within slots s filled in
      record {
        near = λ k there. (
          times_set (λ x. (slot_at slots s).0 ≤ x) slots s ((slot_at slots s).0, []) within least (λ none. absurd (cc)) k there,
          omega (arith, times_set (λ x. x - (slot_at slots s).0 < length slots) slots s ((slot_at slots s).0, []) within (λ i here. omega (arith, (parted.near i here).1, (parted.near s filled).0)) (λ none. absurd (cc)) k there, length-set slots s ((slot_at slots s).0, [])),
        );
        later = keys_weaker (λ u. length slots ≤ u - from) (λ u. (slot_at slots s).0 ≤ u) (λ u more. omega (arith, (parted.near s filled).1, more)) (keys_of far) (far_ahead far slots from parted);
        behind = times_set (λ x. AllByRecursion (λ u. x < u) (keys_of far)) slots s ((slot_at slots s).0, []) within
            (λ i here. keys_weaker (λ u. length slots ≤ u - from) (λ u. (slot_at slots i).0 < u) (λ u more. omega (arith, (parted.near i here).1, more)) (keys_of far) (far_ahead far slots from parted)) (λ none. absurd (cc));
      }

-- far times alone are left, and the least of them is taken
pub ahead_far : (e : ℕ × List Change) (far slots : List (ℕ × List Change)) → Rises (e ∷ far) → ((s : ℕ) → is_filled (slot_at slots s).1 ≡ false) → IsAhead far slots e.0
ahead_far e far slots in_order none = record {
  near = λ k filled. let empty = none k in absurd (cc);
  later = keys_weaker (λ u. e.0 < u) (λ u. e.0 ≤ u) (λ u more. omega (arith, more)) (keys_of far) (in_order_head e far in_order).1;
  behind = λ k filled. let empty = none k in absurd (cc);
}

-- the first of the far times is drawn into its slot, which is free
module _ (far slots : List (ℕ × List Change)) (words : List ℕ) (from t : ℕ) (cs : List Change) (ring : IsRing slots words) (before : IsAhead ((t, cs) ∷ far) slots from) (near : t - from < length slots) where
  pub free_slot : is_filled (slot_at slots (t % length slots)).1 ≡ false
  free_slot = by (cases_Bool (is_filled (slot_at slots (t % length slots)).1))
    where
      by : (is_filled (slot_at slots (t % length slots)).1 ≡ true) ⊎ (is_filled (slot_at slots (t % length slots)).1 ≡ false) → is_filled (slot_at slots (t % length slots)).1 ≡ false
      by (inl filled) =
          let same = own_slot far slots from words t ring before.near before.later.0 near filled in
          absurd (omega (arith, same, (before.behind (t % length slots) filled).0))
      by (inr free) = free

  pub ahead_drawn : Rises ((t, cs) ∷ far) → IsAhead far (set slots (t % length slots) (t, cs)) from
  ahead_drawn in_order =
      let within = mod_below t (length slots) ring.some in
      record {
        near = turn_set far slots from (t % length slots) t cs before.near within before.later.0 near;
        later = before.later.1;
        behind = times_set (λ x. AllByRecursion (λ u. x < u) (keys_of far)) slots (t % length slots) (t, cs) within (λ i here. (before.behind i here).1) (λ _. (in_order_head (t, cs) far in_order).1);
      }
