-- Characters of values, put part by part behind the first bytes of a room.
use Rattle.std.proofs.Common.{◌≡◌, ℕ, ◌+◌, ◌-◌, ◌<◌, ◌≤◌, Bool, true, false, not, ◌||◌, List, [], ◌∷◌, ◌++◌, length, map, take, drop, get_or, set, slice_index, refl, sym, ap, ap₂, subst, ◌∙◌, arith, append_assoc, append-nil, ⊎_elim}
use Rattle.std.specs.Prelude.{◌==◌}
use Rattle.std.specs.Str.{bytes_eq}
use Rattle.std.proofs.lemmas.Bool.{cases_Bool, eqb-true, eqb-false}
use Rattle.std.proofs.lemmas.List.{append_cancel_left, length-append, length-map, length-take-le, map-append, take-append-drop, take_at, take_all, take_more, take_more_set, take_rest, length-set}
use Rattle.std.proofs.lemmas.Simd.{take_more_put_chunk}
use lib.Lanes.{put_chunk}
use Rattle.rtl_vcd_values.specs.Values.{character}
use Rattle.rtl_vcd_values.specs.Puts.{IsPut}
use Rattle.rtl_vcd_values.proofs.Printing.{same_test}
use Rattle.rtl_net_groups.proofs.Lanes.{are_same, are_others, same_from, others_from}

-- two texts of two parts, the first of which are as long
pub other_both : (a b c d : List ℕ) (p q : Bool) → length a ≡ length b → p ≡ not (bytes_eq a b) → q ≡ not (bytes_eq c d) → (p || q) ≡ not (bytes_eq (a ++ c) (b ++ d))
other_both a b c d false q long one other =
    let same = same_from a b one in
    other ∙ ap not (same_test c d (a ++ c) (b ++ d)
    (λ e. ap₂ (λ x y. x ++ y) same e)
    (λ e. append_cancel_left a c d (e ∙ ap (λ x. x ++ d) (sym same))))
other_both a b c d true q long one other =
    are_others (a ++ c) (b ++ d) (λ e. others_from a b one (sym (take_at a c (length a) refl) ∙ ap (take (length a)) e ∙ take_at b d (length a) (sym long)))

-- characters behind others
pub put_behind : (room mid put : List ℕ) (from : ℕ) (old more_old new more_new : List ℕ) (p q : Bool) → length old ≡ length new
    → IsPut room mid from old new p → IsPut mid put (from + length new) more_old more_new q → IsPut room put from (old ++ more_old) (new ++ more_new) (p || q)
put_behind room mid put from old more_old new more_new p q long one more =
    let place : from + length (new ++ more_new) ≡ from + length new + length more_new = omega (arith, length-append new more_new) in
    let chars : length (map character old) ≡ length (map character new) = omega (arith, long, length-map old character, length-map new character) in
    record {
      text =
          ap (λ n. take n put) place ∙ more.text ∙ ap (λ t. t ++ map character more_new) one.text
          ∙ append_assoc (take from room) (map character new) (map character more_new)
          ∙ ap (λ t. take from room ++ t) (sym (map-append character new more_new));
      long = more.long ∙ one.long;
      other =
          other_both (map character old) (map character new) (map character more_old) (map character more_new) p q chars one.other more.other
          ∙ ap₂ (λ x y. not (bytes_eq x y)) (sym (map-append character old more_old)) (sym (map-append character new more_new));
    }

-- nothing
pub put_none : (room : List ℕ) (from : ℕ) (old new : List ℕ) → IsPut room room from (take 0 old) (take 0 new) false
put_none room from old new = record {
  text = let e : from + 0 ≡ from = omega arith in ap (λ n. take n room) e ∙ sym (append-nil (take from room));
  long = refl;
  other = refl;
}

-- the first values, and those behind them
pub put_parts : (room mid put : List ℕ) (from n : ℕ) (old new : List ℕ) (p q : Bool) → length old ≡ length new → n ≤ length new
    → IsPut room mid from (take n old) (take n new) p
    → IsPut mid put (from + n) (take (length old - n) (drop n old)) (take (length new - n) (drop n new)) q
    → IsPut room put from old new (p || q)
put_parts room mid put from n old new p q long le one more =
    let k : length (take n new) ≡ n = length-take-le n new le in
    let first : length (take n old) ≡ length (take n new) = omega (arith, k, length-take-le n old (omega (arith, long, le))) in
    let rest : IsPut mid put (from + n) (drop n old) (drop n new) q =
    subst (λ xs. IsPut mid put (from + n) xs (drop n new) q) (take_rest old n)
    (subst (λ ys. IsPut mid put (from + n) (take (length old - n) (drop n old)) ys q) (take_rest new n) more) in
    let both = put_behind room mid put from (take n old) (drop n old) (take n new) (drop n new) p q first one
    (subst (λ m. IsPut mid put (from + m) (drop n old) (drop n new) q) (sym k) rest) in
    subst (λ xs. IsPut room put from xs new (p || q)) (take-append-drop n old)
    (subst (λ ys. IsPut room put from (take n old ++ drop n old) ys (p || q)) (take-append-drop n new) both)

-- all of them
pub put_all : (room put : List ℕ) (from n : ℕ) (old new : List ℕ) (p : Bool) → length old ≡ length new → n ≡ length new
    → IsPut room put from (take n old) (take n new) p → IsPut room put from old new p
put_all room put from n old new p long e is =
    subst (λ xs. IsPut room put from xs new p) (take_all n old (omega (arith, long, e)))
    (subst (λ ys. IsPut room put from (take n old) ys p) (take_all n new (omega (arith, e))) is)

-- lanes that are stored behind the first bytes
pub stored : {lanes chars : List ℕ} (room : List ℕ) (from n : ℕ) → lanes ≡ chars → length chars ≡ n → from + n ≤ length room
    → take (from + n) (put_chunk from room lanes) ≡ take from room ++ chars
stored {lanes} {chars} room from n e long le =
    take_more_put_chunk from room lanes (from + n) (omega (arith, ap length e, long)) le ∙ ap (λ t. take from room ++ t) e

-- so many values at once
pub put_many : (room put : List ℕ) (from n : ℕ) (old new : List ℕ) (r : Bool) → n ≤ length new
    → take (from + n) put ≡ take from room ++ map character (take n new) → length put ≡ length room
    → r ≡ not (bytes_eq (map character (take n old)) (map character (take n new))) → IsPut room put from (take n old) (take n new) r
put_many room put from n old new r le text long other = record {
  text = ap (λ m. take (from + m) put) (length-take-le n new le) ∙ text;
  long = long;
  other = other;
}

-- one value more
pub put_more : (room mid : List ℕ) (from at : ℕ) (old new : List ℕ) (p q : Bool) → length old ≡ length new → at < length new → from + at < length mid
    → q ≡ not (bytes_eq (character (slice_index old at) ∷ []) (character (slice_index new at) ∷ []))
    → IsPut room mid from (take at old) (take at new) p
    → IsPut room (set mid (from + at) (character (slice_index new at))) from (take (at + 1) old) (take (at + 1) new) (p || q)
put_more room mid from at old new p q long lt there other is =
    let k : length (take at new) ≡ at = length-take-le at new (omega (arith, lt)) in
    let first : length (take at old) ≡ length (take at new) = omega (arith, k, length-take-le at old (omega (arith, long, lt))) in
    let put = set mid (from + at) (character (slice_index new at)) in
    let one : IsPut mid put (from + at) (slice_index old at ∷ []) (slice_index new at ∷ []) q =
    record {
      text = take_more_set mid (from + at) (character (slice_index new at)) there;
      long = length-set mid (from + at) (character (slice_index new at));
      other = other;
    } in
    let both = put_behind room mid put from (take at old) (slice_index old at ∷ []) (take at new) (slice_index new at ∷ []) p q first is
    (subst (λ m. IsPut mid put (from + m) (slice_index old at ∷ []) (slice_index new at ∷ []) q) (sym k) one) in
    subst (λ xs. IsPut room put from xs (take (at + 1) new) (p || q)) (sym (take_more old at 0 (omega (arith, long, lt))))
    (subst (λ ys. IsPut room put from (take at old ++ slice_index old at ∷ []) ys (p || q)) (sym (take_more new at 0 lt)) both)

-- two values alone
pub alone_tells : (a b : ℕ) → not (a == b) ≡ not (bytes_eq (a ∷ []) (b ∷ []))
alone_tells a b =
    ⊎_elim (λ t. ap not t ∙ are_same (ap (λ x. x ∷ []) (eqb-true a b t)))
    (λ f. ap not f ∙ are_others (a ∷ []) (b ∷ []) (λ e. eqb-false a b f (ap (λ xs. get_or xs 0 0) e)))
    (cases_Bool (a == b))
