-- Codes and planes: what words have of codes, and the values of codes.
use Rattle.std.proofs.Common.{◌≡◌, ℕ, zero, suc, ◌+◌, ◌-◌, ◌*◌, ◌^◌, ◌<◌, ◌≤◌, Bool, List, [], ◌∷◌, ◌++◌, length, map, get_or, set, drop, take, refl, sym, ap, ◌∙◌, arith, add-one, append_assoc}
use Rattle.std.specs.List.{All}
use Rattle.std.proofs.lemmas.List.{append-nil, drop_all, length-map, length-take, map-append, take_all, take_more}
use Rattle.std.proofs.Math.Seq.{take-add, take-append_seam, take-suc-set}
use borrow.Rule.Slice.PartMut.{put_mid, post_of, Post-is}
use Rattle.vhdl_values.specs.declared.scalar.Nine.{Nine}
use Rattle.vhdl_values.specs.Scalar.{code_of, value_of_code}
use Rattle.vhdl_values.specs.Planes.{bit, marks, code_has, has_bit, plane_of, HaveCodes, code_of-value_of_code}
use Rattle.vhdl_values.proofs.Codes.{value_of_code-code_of, code_of_below}
use Rattle.vhdl_values.proofs.Marks.{marks-beside, marks-map}
use Rattle.vhdl_values.proofs.Kept.{IsKept}

-- marks that agree on the elements that there are
marks-like_on : {A : Type 0} (f g : A → Bool) (xs : List A) → All (λ x. f x ≡ g x) xs → marks f xs ≡ marks g xs
unfolding marks
marks-like_on f g [] same = refl
marks-like_on f g (x ∷ xs) same =
    ap (λ b. bit b * 2 ^ length xs + marks f xs) (same 0 x (omega arith))
    ∙ ap (λ n. bit (g x) * 2 ^ length xs + n) (marks-like_on f g xs (λ k d lt. same (suc k) d (omega arith)))

plane_of-codes : (j : ℕ) (codes : List ℕ) → All (λ code. code < 9) codes → plane_of j (map value_of_code codes) ≡ marks (code_has j) codes
plane_of-codes j codes below =
    marks-map (has_bit j) value_of_code codes
    ∙ marks-like_on (λ code. has_bit j (value_of_code code)) (code_has j) codes (λ k d lt. ap (code_has j) (code_of-value_of_code _ (below k d lt)))

-- words that have codes keep their values
pub IsKept-codes : (codes : List ℕ) (a b c d : ℕ) → 1 ≤ length codes → length codes ≤ 64 → All (λ code. code < 9) codes → HaveCodes codes a b c d →
    IsKept (map value_of_code codes) (length codes) a b c d
IsKept-codes codes a b c d some room below h =
    let long = length-map codes value_of_code in record {
      same = sym long;
      some = rw long some;
      room = rw long room;
      first = h.firsts ∙ sym (plane_of-codes 0 codes below);
      second = h.seconds ∙ sym (plane_of-codes 1 codes below);
      third = h.thirds ∙ sym (plane_of-codes 2 codes below);
      fourth = h.fourths ∙ sym (plane_of-codes 3 codes below);
    }

-- more codes behind those that are
pub HaveCodes-append : (codes group : List ℕ) (n a b c d e f g h p q r s : ℕ) → length codes + length group ≤ 64 → n ≡ length group →
    HaveCodes codes a b c d → HaveCodes group e f g h →
    (a < 2 ^ (64 - n) → e < 2 ^ n → p ≡ a * 2 ^ n + e) → (b < 2 ^ (64 - n) → f < 2 ^ n → q ≡ b * 2 ^ n + f) →
    (c < 2 ^ (64 - n) → g < 2 ^ n → r ≡ c * 2 ^ n + g) → (d < 2 ^ (64 - n) → h < 2 ^ n → s ≡ d * 2 ^ n + h) → HaveCodes (codes ++ group) p q r s
HaveCodes-append codes group n a b c d e f g h p q r s room long have more pp pq pr ps = record {
  firsts = marks-beside (code_has 0) codes group n a e p have.firsts more.firsts long room pp;
  seconds = marks-beside (code_has 1) codes group n b f q have.seconds more.seconds long room pq;
  thirds = marks-beside (code_has 2) codes group n c g r have.thirds more.thirds long room pr;
  fourths = marks-beside (code_has 3) codes group n d h s have.fourths more.fourths long room ps;
}

-- the codes up to the end of a part
pub HaveCodes-next : (codes : List ℕ) (i n m a b c d : ℕ) → m ≡ i + n → HaveCodes (take i codes ++ take n (drop i codes)) a b c d → HaveCodes (take m codes) a b c d
HaveCodes-next codes i n m a b c d e h = rw (e, take-add i n codes) h

pub HaveCodes-whole : (codes : List ℕ) (m a b c d : ℕ) → length codes ≤ m → HaveCodes (take m codes) a b c d → HaveCodes codes a b c d
HaveCodes-whole codes m a b c d le h = rw (take_all m codes le) at h

-- bytes are below 256, whatever is taken past the end
pub all_below : (codes : List ℕ) → ((i : ℕ) → get_or codes i 0 < 256) → All (λ code. code < 256) codes
all_below [] each k d lt = absurd (omega arith)
all_below (code ∷ codes) each zero d lt = each 0
all_below (code ∷ codes) each (suc k) d lt = all_below codes (λ i. each (suc i)) k d (omega arith)

pub HaveCodes-none : HaveCodes [] 0 0 0 0
unfolding marks
HaveCodes-none = record { firsts = refl; seconds = refl; thirds = refl; fourths = refl }

-- a code written behind those that are
pub write-more : (xs : List Nine) (codes : List ℕ) (i code : ℕ) (x d : Nine) → i < length codes → i < length xs → get_or xs i d ≡ x → code ≡ code_of x →
    take i codes ≡ map code_of (take i xs) → take (i + 1) (set codes i code) ≡ map code_of (take (i + 1) xs)
write-more xs codes i code x d room lt here is_code so_far =
    let next : take (i + 1) xs ≡ take i xs ++ x ∷ [] = take_more xs i d lt ∙ ap (λ y. take i xs ++ y ∷ []) here in
    rw (next, map-append, add-one, take-suc-set codes i code room, so_far, is_code) refl

codes_below-at : (vs : List Nine) (k d : ℕ) → k < length vs → get_or (map code_of vs) k d < 9
codes_below-at [] k d lt = absurd (omega arith)
codes_below-at (v ∷ vs) zero d lt = code_of_below v
codes_below-at (v ∷ vs) (suc k) d lt = codes_below-at vs k d (omega arith)

pub codes_below : (vs : List Nine) (codes : List ℕ) → codes ≡ map code_of vs → All (λ code. code < 9) codes
codes_below vs codes e = rw e (λ k d lt. codes_below-at vs k d (omega (arith, length-map vs code_of)))

back : (vs : List Nine) → map value_of_code (map code_of vs) ≡ vs
back [] = refl
back (v ∷ vs) = ap (λ w. w ∷ map value_of_code (map code_of vs)) (value_of_code-code_of v) ∙ ap (λ ws. v ∷ ws) (back vs)

pub values-of_codes : (vs : List Nine) (codes : List ℕ) → codes ≡ map code_of vs → map value_of_code codes ≡ vs
values-of_codes vs codes e = ap (map value_of_code) e ∙ back vs

-- all are written
pub written-all : (xs : List Nine) (codes : List ℕ) (i : ℕ) → i ≡ length xs → take i codes ≡ map code_of (take i xs) → take (length xs) codes ≡ map code_of xs
written-all xs codes i end so_far =
    ap (λ n. take n codes) (sym end) ∙ so_far ∙ ap (λ n. map code_of (take n xs)) end ∙ ap (map code_of) (take_all (length xs) xs (omega arith))

-- a part is written behind those that are
behind : (xs : List Nine) (out put bytes : List ℕ) (i n m : ℕ) → put ≡ bytes → bytes ≡ map code_of (take n (drop i xs)) → m ≡ i + n → take i out ≡ map code_of (take i xs) → take i out ++ put ≡ map code_of (take m xs)
behind xs out put bytes i n m e f g so_far =
    ap (λ l. l ++ put) so_far ∙ ap (λ l. map code_of (take i xs) ++ l) (e ∙ f) ∙ sym (map-append code_of (take i xs) (take n (drop i xs)))
    ∙ ap (map code_of) (sym (take-add i n xs)) ∙ ap (λ k. map code_of (take k xs)) (sym g)

pub write-part : (xs : List Nine) (out put bytes : List ℕ) (i k n m : ℕ) → put ≡ bytes → bytes ≡ map code_of (take n (drop i xs)) → m ≡ i + n → m ≤ length xs →
    take i out ≡ map code_of (take i xs) → take m (put_mid i k out put) ≡ map code_of (take m xs)
write-part xs out put bytes i k n m e f g le so_far =
    let both = behind xs out put bytes i n m e f g so_far in
    let long : m ≡ length (take i out ++ put) = sym (ap length both ∙ length-map (take m xs) code_of ∙ length-take m xs ∙ omega arith) in
    ap (take m) (sym (append_assoc (take i out) put (post_of i k out)))
    ∙ ap (λ j. take j ((take i out ++ put) ++ post_of i k out)) long
    ∙ take-append_seam (take i out ++ put) (post_of i k out)
    ∙ both

pub write-rest : (xs : List Nine) (out put bytes : List ℕ) (i k n : ℕ) → put ≡ bytes → bytes ≡ map code_of (take n (drop i xs)) → length xs ≡ i + n → k ≡ length out - i → i ≤ length out →
    take i out ≡ map code_of (take i xs) → put_mid i k out put ≡ map code_of xs
write-rest xs out put bytes i k n e f g last le so_far =
    let none : post_of i k out ≡ [] = ap (λ j. post_of i j out) last ∙ Post-is i (length out) out le ∙ drop_all (length out) out (omega arith) in
    ap (λ l. take i out ++ (put ++ l)) none
    ∙ ap (λ l. take i out ++ l) (append-nil put)
    ∙ behind xs out put bytes i n (length xs) e f g so_far
    ∙ ap (map code_of) (take_all (length xs) xs (omega arith))

-- no more bytes are taken than there are codes
pub whole-part : (xs : List Nine) (bytes : List ℕ) (k n i : ℕ) → bytes ≡ map code_of (take n (drop i xs)) → n ≤ k → take k bytes ≡ map code_of (take n (drop i xs))
whole-part xs bytes k n i e le =
    ap (take k) e ∙ take_all k (map code_of (take n (drop i xs))) (omega (arith, length-map (take n (drop i xs)) code_of, length-take n (drop i xs)))
