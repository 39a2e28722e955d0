-- Generates, behind what is made so far.
use Rattle.std.proofs.Common.{◌≡◌, ℕ, ◌+◌, ◌<◌, ◌≤◌, Bool, true, false, if◌then◌else◌, List, [], ◌∷◌, ◌++◌, length, sum, drop, Ok, Err, refl, sym, ap, ◌∙◌, arith}
use Rattle.std.specs.Prelude.{ℤ, fold, codes}
use Rattle.std.specs.Fmt.{signed_decimal}
use Rattle.vhdl_tree.specs.declared.operator.Direction.{Direction}
use Rattle.vhdl_names_rules.specs.units.Expressions.{Range, StaticTest}
use Rattle.vhdl_names_rules.specs.units.Units as u
use Rattle.vhdl_names_rules.specs.units.Units.{Units}
use Rattle.vhdl_expand_rules.specs.Elab.{Elab, ◌>>=◌, each, MayTell, Told}
use Rattle.vhdl_expand_rules.specs.Integers.{turns, decision, numbers_from}
use Rattle.vhdl_expand_rules.specs.Parameters.{parameter}
use Rattle.vhdl_expand_rules.specs.Tree.{Parts, no_parts, followed_by}
use Rattle.vhdl_expand_rules.specs.Expansion as definition
use Rattle.vhdl_expand_rules.specs.Expansion.{Spot, instance_of, in_branch, joined_parts, with_dot}
use Rattle.vhdl_expand_rules.proofs.Steps.{given}
use Rattle.vhdl_expand_rules.proofs.Parameters.{next-turn, no-turn, counted-length}
use Rattle.vhdl_expand_tree.proofs.Alike.{Alike, alike_same, alike_after, alike_trans, tells_same}
use Rattle.vhdl_expand.specs.Making as made
use Rattle.vhdl_expand.specs.Making.{Made, Progress, adding, together, made_turns}
use Rattle.vhdl_expand.specs.Spots.{within}
use Rattle.vhdl_expand.proofs.Counted.{concurrents_counted}
use Rattle.vhdl_expand.proofs.Making.{in_turn, added_alike, goes, stops, ends, none_added}

-- ---- turns

-- all turns and then their parts
first-turns : (n : ℕ) (ps : Elab (List Parts)) (ns : Elab (List ℕ))
    → Alike (together (ps >>= λ xs. given (joined_parts xs)) (ns >>= λ ms. given (n + sum ms)))
    (in_turn (given (made_turns n)) (together (ps >>= λ xs. given (joined_parts xs)) (ns >>= λ ms. given (sum ms))))
first-turns n (Ok xs) (Ok ms) = alike_same refl
first-turns n (Ok xs) (Err told) = alike_same refl
first-turns n (Err told) ns = alike_same refl

sum-from : (n m : ℕ) (ns : List ℕ) → fold ◌+◌ (n + m) ns ≡ n + fold ◌+◌ m ns
sum-from n m [] = refl
sum-from n m (k ∷ ns) = ap (λ q. fold ◌+◌ q ns) (assoc n m k) ∙ sum-from n (m + k) ns
  where
    assoc : (a b c : ℕ) → a + b + c ≡ a + (b + c)
    assoc a b c = omega arith

no-first : (n : ℕ) → 0 + n ≡ n + 0
no-first n = omega arith

sum-more : (n : ℕ) (ns : List ℕ) → sum (n ∷ ns) ≡ n + sum ns
sum-more n ns = ap (λ m. fold ◌+◌ m ns) (no-first n) ∙ sum-from n 0 ns

-- a turn and then the others
one-turn : (p : Elab Parts) (ps : Elab (List Parts)) (m : Elab ℕ) (ms : Elab (List ℕ)) → ((x : Parts) → p ≡ Ok x → (k : ℕ) × (m ≡ Ok k))
    → Alike (together ((p >>= λ x. ps >>= λ xs. given (x ∷ xs)) >>= λ xs. given (joined_parts xs)) ((m >>= λ n. ms >>= λ ns. given (n ∷ ns)) >>= λ ns. given (sum ns)))
    (in_turn (together p m) (together (ps >>= λ xs. given (joined_parts xs)) (ms >>= λ ns. given (sum ns))))
one-turn (Ok x) (Ok xs) (Ok n) (Ok ns) numbers_from = alike_same (ap (λ m. given (record { parts = followed_by x (joined_parts xs); turns = m })) (sum-more n ns))
one-turn (Ok x) (Ok xs) (Ok n) (Err told) numbers_from = alike_same refl
one-turn (Ok x) (Ok xs) (Err told) ms numbers_from = alike_same refl
one-turn (Ok x) (Err told) (Ok n) ms numbers_from = alike_same refl
one-turn (Ok x) (Err told) (Err other) ms numbers_from = let e = (numbers_from x refl).1 in absurd cc
one-turn (Err told) ps m ms numbers_from = alike_same refl

module _ (units : Units) (levels : ℕ) (here : Spot) (at : ℕ) (label : List ℕ) (body : u.Concurrents) where
  -- of a turn whose parameter has this value, and of several turns
  abbrev pub turned : ℤ → Elab Made
  turned i = made.concurrents units levels (definition.in_turn here label i) body

  abbrev pub all_turned : List ℤ → Elab Made
  all_turned is =
      together (each (λ i. definition.concurrents units (instance_of units levels) (definition.in_turn here label i) body) is >>= λ ps. given (joined_parts ps))
      (each (λ i. definition.concurrents_turns (definition.in_turn here label i) body) is >>= λ ns. given (sum ns))

  abbrev pub for_each : Range → Elab Made
  for_each r = made.concurrent units levels here (u.generate_for at label r body)

  abbrev pub if_holding : StaticTest → Elab Made
  if_holding test = made.concurrent units levels here (u.generate_if at label test body)

  -- the count is charged first
  turns-begin : (r : Range) (is : List ℤ) (old now : Progress) → turns here.site.integers at r ≡ Ok is → adding old (given (made_turns (length is))) ≡ Ok now
      → Alike (adding old (for_each r)) (adding now (all_turned is))
  unfolding definition.concurrent definition.concurrent_turns
  turns-begin r is old now h k =
      goes (adding old (for_each r)) old now (given (made_turns (length is))) (all_turned is) (alike_trans (alike_same (ap (λ q. adding old (by q)) h)) (added_alike old _ _ (first-turns (length is) _ _))) k
    where
      by : Elab (List ℤ) → Elab Made
      by q =
          together (q >>= λ is. each (λ i. definition.concurrents units (instance_of units levels) (definition.in_turn here label i) body) is >>= λ ps. given (joined_parts ps))
          (q >>= λ is. each (λ i. definition.concurrents_turns (definition.in_turn here label i) body) is >>= λ ns. given (length is + sum ns))

  turns-refused : {bytes : List ℕ} {told : Told} → (r : Range) (is : List ℤ) (old : Progress) → turns here.site.integers at r ≡ Ok is → MayTell bytes (adding old (given (made_turns (length is)))) told
      → MayTell bytes (adding old (for_each r)) told
  unfolding definition.concurrent definition.concurrent_turns
  turns-refused r is old h k =
      stops (adding old (for_each r)) old (given (made_turns (length is))) (all_turned is) (alike_trans (alike_same (ap (λ q. adding old (by q)) h)) (added_alike old _ _ (first-turns (length is) _ _))) k
    where
      by : Elab (List ℤ) → Elab Made
      by q =
          together (q >>= λ is. each (λ i. definition.concurrents units (instance_of units levels) (definition.in_turn here label i) body) is >>= λ ps. given (joined_parts ps))
          (q >>= λ is. each (λ i. definition.concurrents_turns (definition.in_turn here label i) body) is >>= λ ns. given (length is + sum ns))

  pub turns_begin : (r : Range) (direction : Direction) (x : ℤ) (count : ℕ) (old now : Progress) → turns here.site.integers at r ≡ Ok (numbers_from direction x count)
      → adding old (given (made_turns count)) ≡ Ok now → Alike (adding old (for_each r)) (adding now (all_turned (numbers_from direction x count)))
  turns_begin r direction x count old now h k =
      turns-begin r (numbers_from direction x count) old now h (ap (λ n. adding old (given (made_turns n))) (counted-length direction x count) ∙ k)

  pub turns_refused : {bytes : List ℕ} {told : Told} → (r : Range) (direction : Direction) (x : ℤ) (count : ℕ) (old : Progress) → turns here.site.integers at r ≡ Ok (numbers_from direction x count)
      → MayTell bytes (adding old (given (made_turns count))) told → MayTell bytes (adding old (for_each r)) told
  turns_refused r direction x count old h k =
      turns-refused r (numbers_from direction x count) old h (tells_same (ap (λ n. adding old (given (made_turns n))) (counted-length direction x count)) k)

  pub no_turns : {told : Told} → (r : Range) (old : Progress) → turns here.site.integers at r ≡ Err told → adding old (for_each r) ≡ Err told
  unfolding definition.concurrent definition.concurrent_turns
  no_turns r old h = ap (λ q. adding old (by q)) h
    where
      by : Elab (List ℤ) → Elab Made
      by q =
          together (q >>= λ is. each (λ i. definition.concurrents units (instance_of units levels) (definition.in_turn here label i) body) is >>= λ ps. given (joined_parts ps))
          (q >>= λ is. each (λ i. definition.concurrents_turns (definition.in_turn here label i) body) is >>= λ ns. given (length is + sum ns))

  next-turned : (now : Progress) (direction : Direction) (x i : ℤ) (count k : ℕ) → k < count → i ≡ parameter direction x k
      → Alike (adding now (all_turned (drop k (numbers_from direction x count)))) (adding now (in_turn (turned i) (all_turned (drop (k + 1) (numbers_from direction x count)))))
  next-turned now direction x i count k below is =
      alike_after (ap (λ js. adding now (all_turned js)) (next-turn direction x count k below ∙ ap (λ j. j ∷ drop (k + 1) (numbers_from direction x count)) (sym is)))
      (added_alike now _ _ (one-turn (definition.concurrents units (instance_of units levels) (definition.in_turn here label i) body) _ (definition.concurrents_turns (definition.in_turn here label i) body) _
      (concurrents_counted units (instance_of units levels) (definition.in_turn here label i) body)))

  pub turns_go : (total : Elab Progress) (now new : Progress) (direction : Direction) (x i : ℤ) (count k : ℕ) → k < count → i ≡ parameter direction x k
      → Alike total (adding now (all_turned (drop k (numbers_from direction x count)))) → adding now (turned i) ≡ Ok new
      → Alike total (adding new (all_turned (drop (k + 1) (numbers_from direction x count))))
  turns_go total now new direction x i count k below is so_far h =
      goes total now new (turned i) (all_turned (drop (k + 1) (numbers_from direction x count))) (alike_trans so_far (next-turned now direction x i count k below is)) h

  pub turns_stop : {bytes : List ℕ} {told : Told} → (total : Elab Progress) (now : Progress) (direction : Direction) (x i : ℤ) (count k : ℕ) → k < count → i ≡ parameter direction x k
      → Alike total (adding now (all_turned (drop k (numbers_from direction x count)))) → MayTell bytes (adding now (turned i)) told → MayTell bytes total told
  turns_stop total now direction x i count k below is so_far h =
      stops total now (turned i) (all_turned (drop (k + 1) (numbers_from direction x count))) (alike_trans so_far (next-turned now direction x i count k below is)) h

  pub turns_end : (total : Elab Progress) (now : Progress) (direction : Direction) (x : ℤ) (count k : ℕ) → count ≤ k
      → Alike total (adding now (all_turned (drop k (numbers_from direction x count)))) → total ≡ Ok now
  turns_end total now direction x count k h so_far = ends total now (alike_trans so_far (alike_same (ap (λ js. adding now (all_turned js)) (no-turn direction x count k h))))

  -- the place in a turn, and in an if generate
  pub turn_spot : (inner : Spot) (i : ℤ) (values : List ℤ) (prefix : List ℕ) → inner ≡ within here values prefix → values ≡ here.site.integers.generates ++ i ∷ []
      → prefix ≡ here.prefix ++ with_dot (label ++ (codes "(" ++ (signed_decimal i ++ codes ")"))) → definition.in_turn here label i ≡ inner
  turn_spot inner i values prefix h v p = sym (h ∙ ap (λ vs. within here vs prefix) v ∙ ap (within here (here.site.integers.generates ++ i ∷ [])) p)

  pub branch_spot : (inner : Spot) (prefix : List ℕ) → inner ≡ within here here.site.integers.generates prefix → prefix ≡ here.prefix ++ with_dot label → in_branch here label ≡ inner
  branch_spot inner prefix h p = sym (h ∙ ap (within here here.site.integers.generates) p)

  -- ---- if generates

  pub branch_taken : (test : StaticTest) → decision here.site.integers test ≡ Ok true → if_holding test ≡ made.concurrents units levels (in_branch here label) body
  unfolding definition.concurrent definition.concurrent_turns
  branch_taken test h =
      ap (λ (q : Elab Bool). together (q >>= λ holds. if holds then definition.concurrents units (instance_of units levels) (in_branch here label) body else Ok no_parts)
      (q >>= λ holds. if holds then definition.concurrents_turns (in_branch here label) body else Ok 0)) h

  pub branch_left : (test : StaticTest) (old : Progress) → decision here.site.integers test ≡ Ok false → adding old (if_holding test) ≡ Ok old
  unfolding definition.concurrent definition.concurrent_turns
  branch_left test old h =
      ap (λ (q : Elab Bool). adding old (together (q >>= λ holds. if holds then definition.concurrents units (instance_of units levels) (in_branch here label) body else Ok no_parts)
      (q >>= λ holds. if holds then definition.concurrents_turns (in_branch here label) body else Ok 0))) h
      ∙ none_added old

  pub no_branch : {told : Told} → (test : StaticTest) (old : Progress) → decision here.site.integers test ≡ Err told → adding old (if_holding test) ≡ Err told
  unfolding definition.concurrent definition.concurrent_turns
  no_branch test old h =
      ap (λ (q : Elab Bool). adding old (together (q >>= λ holds. if holds then definition.concurrents units (instance_of units levels) (in_branch here label) body else Ok no_parts)
      (q >>= λ holds. if holds then definition.concurrents_turns (in_branch here label) body else Ok 0))) h
