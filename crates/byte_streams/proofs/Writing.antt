-- One text after another.
use Rattle.std.proofs.Common.{◌≡◌, ℕ, ◌+◌, ◌≤◌, List, ◌++◌, Option, ◌⊎◌, inl, inr, Bool, true, false, refl, length, take, take-add, drop, sym, ◌-◌, ◌<◌, min, arith, append-nil, append_assoc, get_or, []}
use Rattle.std.proofs.KnownBytes.{Appends-nil, Appends-trans, Appends-kept, Keeps-refl, Keeps-trans}
use Rattle.std.specs.Io.KnownBytes.{Appends}
use Rattle.std.proofs.Math.Seq.{take-append-add}
use Rattle.std.proofs.lemmas.List.{take-append-le, take_min, take_more, take_rest}
use Rattle.std.specs.Prelude.{◌==◌, flat_map}
use Rattle.std.proofs.lemmas.Grind.{flat_map-append}
use Rattle.std.proofs.lemmas.Bool.Decides.{nat_tests}
use Rattle.byte_streams.specs.Written.{SinkState, TakesAll, TakesBeginning, Goes, IsIntact, fails_at}

-- a text that went out, and a beginning of the next
pub TakesBeginning-after : (a b c : SinkState) (x y : List ℕ) → TakesAll a b x → TakesBeginning b c y → TakesBeginning a c (x ++ y)
TakesBeginning-after a b c x y p q =
    (length x + q.0, rw take-append-add (Appends-trans a.taken b.taken c.taken x (take q.0 y) p q.1))

-- a beginning of a text begins a longer one
pub TakesBeginning-append : (a b : SinkState) (x y : List ℕ) → TakesBeginning a b x → TakesBeginning a b (x ++ y)
TakesBeginning-append a b x y p =
    let within : min p.0 (length x) ≤ length x = omega arith in
    (min p.0 (length x), rw (take-append-le (min p.0 (length x)) x y within, take_min p.0 x) p.1)

either : (f : Bool) → (f ≡ false) ⊎ (f ≡ true)
either false = inl refl
either true = inr refl

-- no text
pub Goes-nil : (a : SinkState) → Goes a a []
Goes-nil a = record {
  whole = λ intact. (intact, Appends-nil a.taken);
  beginning = λ _. (0, Appends-nil a.taken);
  nothing = λ failed. (failed, Keeps-refl a.taken);
}

two_beginnings : (a b c : SinkState) (x y : List ℕ) → Goes a b x → Goes b c y → IsIntact a → (b.failed ≡ false) ⊎ (b.failed ≡ true) → TakesBeginning a c (x ++ y)
two_beginnings a b c x y p q intact (inl still) = TakesBeginning-after a b c x y (p.whole still).1 (q.beginning still)
two_beginnings a b c x y p q intact (inr failed) =
    let first = p.beginning intact in
    TakesBeginning-append a c x y (first.0, Appends-kept a.taken b.taken c.taken (take first.0 x) first.1 (q.nothing failed).1)

-- one text, and then another
pub Goes-append : (a b c : SinkState) (x y : List ℕ) → Goes a b x → Goes b c y → Goes a c (x ++ y)
Goes-append a b c x y p q = record {
  whole = λ intact. let second = q.whole intact in let first = p.whole second.0 in
      (first.0, Appends-trans a.taken b.taken c.taken x y first.1 second.1);
  beginning = λ intact. two_beginnings a b c x y p q intact (either b.failed);
  nothing = λ failed. let first = p.nothing failed in let second = q.nothing first.0 in
      (second.0, Keeps-trans a.taken b.taken c.taken first.1 second.1);
}

-- one more piece of a text
pub Appends-more : (a b c : Option (List ℕ)) (text : List ℕ) (done n : ℕ) → Appends a b (take done text) →
    Appends b c (take n (take (length text - done) (drop done text))) → Appends a c (take (done + n) text)
Appends-more a b c text done n p q =
    rw (take-add done n text, ← take_rest text done) (Appends-trans a b c (take done text) (take n (take (length text - done) (drop done text))) p q)

-- to take some is no failure
pub fails_at-some : (n : ℕ) (bytes : List ℕ) → (n ≡ 0 → ⊥) → fails_at n bytes ≡ false
fails_at-some n bytes some = let e : (n == 0) ≡ false = grind (arith, nat_tests) in rw e refl

-- after a text, the texts of the elements before a place, and of the one there
pub Goes-next : {A : Type 0} (a b c : SinkState) (head : List ℕ) (text : A → List ℕ) (xs : List A) (i : ℕ) (d : A) → i < length xs →
    Goes a b (head ++ flat_map text (take i xs)) → Goes b c (text (get_or xs i d)) → Goes a c (head ++ flat_map text (take (i + 1) xs))
Goes-next a b c head text xs i d lt p q =
    let e : head ++ flat_map text (take (i + 1) xs) ≡ (head ++ flat_map text (take i xs)) ++ text (get_or xs i d) =
    rw (take_more xs i d lt, flat_map-append, append-nil) (sym (append_assoc head _ _)) in
    rw e (Goes-append a b c _ _ p q)
