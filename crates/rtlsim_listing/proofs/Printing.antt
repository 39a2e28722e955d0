-- Parts of a text, one after another.
use Rattle.std.proofs.Common.{◌≡◌, ℕ, ◌+◌, ◌<◌, List, [], ◌∷◌, ◌++◌, Result, Ok, Err, refl, sym, ap, subst, ◌∙◌, arith, length, take, drop, get_or, append_assoc, append-nil}
use Rattle.std.specs.Prelude.{flat_map}
use Rattle.std.specs.List.{range_with_len}
use Rattle.std.proofs.lemmas.Grind.{flat_map-append}
use Rattle.std.proofs.lemmas.List.{map-id, take_more, take-append-drop}
use Rattle.std.proofs.lemmas.List.FromFn.{get_or-range_with_len, length-range_with_len, map-range_with_len_more, take-map-range_with_len}
use Rattle.std.specs.Result.{IsErrAnd}
use Rattle.std.proofs.lemmas.Result.{err_from_is_err_and}
use Rattle.byte_streams.specs.Written.{SinkState, Goes, IsIntact, TakesBeginning}
use Rattle.byte_streams.proofs.Writing.{Goes-append, Goes-nil, TakesBeginning-append}
use Rattle.rtlsim_listing.specs.NetText.{lines}
use Rattle.rtlsim_listing.specs.Printing.{GoesInPart, Prints}

-- nothing went out
pub none : (a : SinkState) (text : List ℕ) → GoesInPart a a text
none a text = record { part = []; rest = text; is = refl; goes = Goes-nil a }

-- a part of a text is one of a longer text
pub longer : (a b : SinkState) (x y : List ℕ) → GoesInPart a b x → GoesInPart a b (x ++ y)
longer a b x y p = record {
  part = p.part;
  rest = p.rest ++ y;
  is = sym (append_assoc p.part p.rest y) ∙ ap (λ t. t ++ y) p.is;
  goes = p.goes;
}

-- a part behind a text
pub behind : (a b c : SinkState) (x y : List ℕ) → Goes a b x → GoesInPart b c y → GoesInPart a c (x ++ y)
behind a b c x y p q = record {
  part = x ++ q.part;
  rest = q.rest;
  is = append_assoc x q.part q.rest ∙ ap (λ t. x ++ t) q.is;
  goes = Goes-append a b c x q.part p q.goes;
}

-- a text, or a part of it, behind another
pub then : {T E : Type 0} (r : Result T E) (a b c : SinkState) (x y : List ℕ) → Goes a b x → Prints r b c y → Prints r a c (x ++ y)
then (Ok v) a b c x y p q = Goes-append a b c x y p q
then (Err e) a b c x y p q = behind a b c x y p q

-- what a refusal answers
pub refused : {T E : Type 0} (r : Result T E) (Q : E → Type 0) (a b : SinkState) (text : List ℕ) → IsErrAnd r Q → GoesInPart a b text → Prints r a b text
refused r Q a b text failed p = let e = err_from_is_err_and r failed in rw e.1 p

-- a sink that was intact took a beginning
pub beginning : (a b : SinkState) (text : List ℕ) → IsIntact a → GoesInPart a b text → TakesBeginning a b text
beginning a b text intact p =
    rw (← p.is) (TakesBeginning-append a b p.part p.rest (p.goes.beginning intact))

-- ---- the texts of a list's elements

-- one element more
pub next_text : {A : Type 0} (a b c : SinkState) (text : A → List ℕ) (xs : List A) (i : ℕ) (d : A) → i < length xs
    → Goes a b (flat_map text (take i xs)) → Goes b c (text (get_or xs i d)) → Goes a c (flat_map text (take (i + 1) xs))
next_text a b c text xs i d lt p q =
    rw (take_more xs i d lt, flat_map-append, append-nil) (Goes-append a b c _ _ p q)

-- a part of an element's text, behind those before it
pub part_of_text : {A : Type 0} (a b c : SinkState) (text : A → List ℕ) (xs : List A) (i : ℕ) (d : A) → i < length xs
    → Goes a b (flat_map text (take i xs)) → GoesInPart b c (text (get_or xs i d)) → GoesInPart a c (flat_map text xs)
part_of_text a b c text xs i d lt p q =
    let apart : flat_map text xs ≡ flat_map text (take (i + 1) xs) ++ flat_map text (drop (i + 1) xs) =
    ap (flat_map text) (sym (take-append-drop (i + 1) xs)) ∙ flat_map-append text (take (i + 1) xs) (drop (i + 1) xs) in
    rw (apart, take_more xs i d lt, flat_map-append, append-nil) (longer a c _ _ (behind a b c _ _ p q))

-- ---- lines

pub counted : (n : ℕ) → range_with_len 0 (n + 1) ≡ range_with_len 0 n ++ n ∷ []
counted n =
    let from : 0 + n ≡ n = omega arith in
    sym (map-id (range_with_len 0 (n + 1))) ∙ map-range_with_len_more (λ (k : ℕ). k) 0 n n from ∙ ap (λ t. t ++ n ∷ []) (map-id (range_with_len 0 n))

-- one line more
pub next_line : (a b c : SinkState) (line : ℕ → List ℕ) (n m : ℕ) → m ≡ n + 1 → Goes a b (lines line n) → Goes b c (line n) → Goes a c (lines line m)
next_line a b c line n m e p q = rw (e, counted n, flat_map-append, append-nil) (Goes-append a b c _ _ p q)

-- a part of a line, behind the lines before it
pub part_of_line : (a b c : SinkState) (line : ℕ → List ℕ) (n count : ℕ) → n < count → Goes a b (lines line n) → GoesInPart b c (line n)
    → GoesInPart a c (lines line count)
part_of_line a b c line n count lt p q =
    let long : n < length (range_with_len 0 count) = rw length-range_with_len lt in
    let from : 0 + n ≡ n = omega arith in
    let before = sym (take-map-range_with_len (λ (k : ℕ). k) 0 count n (omega (arith, lt)) ∙ map-id (range_with_len 0 n)) ∙ ap (take n) (map-id (range_with_len 0 count)) in
    part_of_text a b c line (range_with_len 0 count) n 0 long (subst (λ ks. Goes a b (flat_map line ks)) before p)
    (subst (λ k. GoesInPart b c (line k)) (sym (get_or-range_with_len 0 count n 0 lt ∙ from)) q)
