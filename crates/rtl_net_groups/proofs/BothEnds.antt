-- Values of which the first so many and the last are looked at, which together are all.
use Rattle.std.proofs.Common.{◌≡◌, ℕ, ◌+◌, ◌-◌, ◌≤◌, ◌<◌, Bool, true, false, not, ◌||◌, List, length, get_or, sym, ap, ◌∙◌, arith, ◌⊎◌, inl, inr}
use Rattle.std.specs.Str.{bytes_eq}
use Rattle.std.proofs.lemmas.Bool.{cases_lt}
use Rattle.std.proofs.lemmas.List.{ext_get_or}
use Rattle.std.proofs.lemmas.Simd.{get_or-chunk, get_or-put_chunk_at, get_or-put_chunk_below, length-chunk, length-put_chunk}
use lib.Lanes.{chunk, put_chunk}
use Rattle.rtl_net_groups.proofs.Lanes.{are_others, are_same, others_from, same_from}

in_chunk : (i n : ℕ) (xs : List ℕ) (k : ℕ) → i ≤ k → k < i + n → get_or (chunk i n xs) (k - i) 0 ≡ get_or xs k 0
in_chunk i n xs k low high =
    let at : i + (k - i) ≡ k = omega (arith, low) in
    get_or-chunk i n xs (k - i) 0 (omega (arith, low, high)) ∙ ap (λ (m : ℕ). get_or xs m 0) at

in_put : (i : ℕ) (xs ys : List ℕ) (k : ℕ) → i ≤ k → k < i + length ys → i + length ys ≤ length xs → get_or (put_chunk i xs ys) k 0 ≡ get_or ys (k - i) 0
in_put i xs ys k low high within =
    let at : k ≡ i + (k - i) = omega (arith, low) in
    ap (λ (m : ℕ). get_or (put_chunk i xs ys) m 0) at ∙ get_or-put_chunk_at i xs ys (k - i) 0 (omega (arith, low, high)) within

module _ (n last : ℕ) (xs ys : List ℕ) (as_many : length xs ≡ length ys) (least : n ≤ length ys) (covers : length ys ≤ n + n) (is : last ≡ length ys - n) where
  front_long : length (chunk 0 n ys) ≡ n
  front_long = length-chunk 0 n ys (omega (arith, least))

  back_long : length (chunk last n ys) ≡ n
  back_long = length-chunk last n ys (omega (arith, least, is))

  -- where both are written over what was there, all are
  pub ends_written : put_chunk last (put_chunk 0 xs (chunk 0 n ys)) (chunk last n ys) ≡ ys
  ends_written =
      ext_get_or 0 (put_chunk last (put_chunk 0 xs (chunk 0 n ys)) (chunk last n ys)) ys
      (length-put_chunk last (put_chunk 0 xs (chunk 0 n ys)) (chunk last n ys) ∙ mid_long ∙ as_many) (λ k l. by k l (cases_lt k last))
    where
      mid_long : length (put_chunk 0 xs (chunk 0 n ys)) ≡ length xs
      mid_long = length-put_chunk 0 xs (chunk 0 n ys)

      by : (k : ℕ) → k < length (put_chunk last (put_chunk 0 xs (chunk 0 n ys)) (chunk last n ys)) → (k < last) ⊎ (last ≤ k)
          → get_or (put_chunk last (put_chunk 0 xs (chunk 0 n ys)) (chunk last n ys)) k 0 ≡ get_or ys k 0
      by k l (inl low) =
          let long = front_long in
          get_or-put_chunk_below last (put_chunk 0 xs (chunk 0 n ys)) (chunk last n ys) k 0 low
          ∙ in_put 0 xs (chunk 0 n ys) k (omega arith) (omega (arith, low, is, covers, long)) (omega (arith, long, least, as_many))
          ∙ in_chunk 0 n ys k (omega arith) (omega (arith, low, is, covers))
      by k l (inr high) =
          let long = back_long in
          let same = mid_long in
          let all = length-put_chunk last (put_chunk 0 xs (chunk 0 n ys)) (chunk last n ys) in
          in_put last (put_chunk 0 xs (chunk 0 n ys)) (chunk last n ys) k high (omega (arith, l, all, same, as_many, is, least, long)) (omega (arith, long, same, as_many, is, least))
          ∙ in_chunk last n ys k high (omega (arith, l, all, same, as_many, is, least))

  -- where both are alike, all are
  pub ends_alike : chunk 0 n xs ≡ chunk 0 n ys → chunk last n xs ≡ chunk last n ys → xs ≡ ys
  ends_alike front back = ext_get_or 0 xs ys as_many (λ k l. by k l (cases_lt k n))
    where
      by : (k : ℕ) → k < length xs → (k < n) ⊎ (n ≤ k) → get_or xs k 0 ≡ get_or ys k 0
      by k l (inl low) =
          sym (in_chunk 0 n xs k (omega arith) (omega (arith, low))) ∙ ap (λ (zs : List ℕ). get_or zs (k - 0) 0) front ∙ in_chunk 0 n ys k (omega arith) (omega (arith, low))
      by k l (inr high) =
          let from : last ≤ k = omega (arith, high, is, covers) in
          let before : k < last + n = omega (arith, l, as_many, is, least) in
          sym (in_chunk last n xs k from before) ∙ ap (λ (zs : List ℕ). get_or zs (k - last) 0) back ∙ in_chunk last n ys k from before

  -- whether one of them differs tells of all
  pub ends_tell : (a b : Bool) → a ≡ not (bytes_eq (chunk 0 n xs) (chunk 0 n ys)) → b ≡ not (bytes_eq (chunk last n xs) (chunk last n ys)) → (a || b) ≡ not (bytes_eq xs ys)
  ends_tell true b front back = are_others xs ys (λ e. others_from (chunk 0 n xs) (chunk 0 n ys) front (ap (chunk 0 n) e))
  ends_tell false true front back = are_others xs ys (λ e. others_from (chunk last n xs) (chunk last n ys) back (ap (chunk last n) e))
  ends_tell false false front back = are_same (ends_alike (same_from (chunk 0 n xs) (chunk 0 n ys) front) (same_from (chunk last n xs) (chunk last n ys) back))
