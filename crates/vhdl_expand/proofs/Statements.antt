-- Concurrent statements, behind what is made so far.
use Rattle.std.proofs.Common.{◌≡◌, ℕ, ◌+◌, ◌<◌, List, [], ◌++◌, length, map, get_or, drop, Ok, Err, refl, ap, ◌∙◌}
use Rattle.vhdl_names_rules.specs.units.Units as u
use Rattle.vhdl_names_rules.specs.units.Units.{Units}
use Rattle.vhdl_names_units.specs.declared.concurrent.Concurrent.{Concurrent}
use Rattle.vhdl_names_units.specs.views.Concurrent as views
use Rattle.vhdl_expand_rules.specs.Elab.{Elab, ◌>>=◌, MayTell, Told}
use Rattle.vhdl_expand_rules.specs.Tree as t
use Rattle.vhdl_expand_rules.specs.Tree.{Parts, no_parts, followed_by, Process, Instance}
use Rattle.vhdl_expand_rules.specs.Expansion as definition
use Rattle.vhdl_expand_rules.specs.Expansion.{Spot, instance_of}
use Rattle.vhdl_expand_rules.proofs.Steps.{given}
use Rattle.vhdl_expand_rules.proofs.Items.{next_left}
use Rattle.vhdl_expand_tree.proofs.Alike.{Alike, alike_same, alike_after, alike_trans}
use Rattle.vhdl_expand.specs.Making as made
use Rattle.vhdl_expand.specs.Making.{Made, Progress, adding, together, made_process, made_instance}
use Rattle.vhdl_expand.proofs.Counted.{concurrent_counted}
use Rattle.vhdl_expand.proofs.Making.{in_turn, added_alike, goes, stops, ends}

-- parts and turns, each in two steps; where the first parts are given, so are their turns
pub apart : (p q : Elab Parts) (m n : Elab ℕ) → ((x : Parts) → p ≡ Ok x → (k : ℕ) × (m ≡ Ok k))
    → Alike (together (p >>= λ x. q >>= λ y. given (followed_by x y)) (m >>= λ a. n >>= λ b. given (a + b))) (in_turn (together p m) (together q n))
apart (Ok x) (Ok y) (Ok a) (Ok b) counted = alike_same refl
apart (Ok x) (Ok y) (Ok a) (Err told) counted = alike_same refl
apart (Ok x) (Ok y) (Err told) n counted = alike_same refl
apart (Ok x) (Err told) (Ok a) n counted = alike_same refl
apart (Ok x) (Err told) (Err other) n counted = let e = (counted x refl).1 in absurd cc
apart (Err told) q m n counted = alike_same refl

module _ (units : Units) (levels : ℕ) (here : Spot) where
  concurrents-in_turn : (x : u.Concurrent) (rest : u.Concurrents)
      → Alike (made.concurrents units levels here (u.concurrent x rest)) (in_turn (made.concurrent units levels here x) (made.concurrents units levels here rest))
  unfolding definition.concurrents definition.concurrents_turns
  concurrents-in_turn x rest =
      apart (definition.concurrent units (instance_of units levels) here x) (definition.concurrents units (instance_of units levels) here rest)
      (definition.concurrent_turns here x) (definition.concurrents_turns here rest) (concurrent_counted units (instance_of units levels) here x)

  pub no_concurrents : made.concurrents units levels here u.no_concurrents ≡ Ok (record { parts = no_parts; turns = 0 })
  unfolding definition.concurrents definition.concurrents_turns
  no_concurrents = refl

  -- those of a list
  abbrev pub listed : List Concurrent → Elab Made
  listed xs = made.concurrents units levels here (views.concurrents_of (map views.concurrent_view xs))

  next : (now : Progress) (xs : List Concurrent) (i : ℕ) (x : Concurrent) → i < length xs → x ≡ get_or xs i x
      → Alike (adding now (listed (drop i xs))) (adding now (in_turn (made.concurrent units levels here (views.concurrent_view x)) (listed (drop (i + 1) xs))))
  next now xs i x below is =
      alike_after (ap (λ ys. adding now (listed ys)) (next_left xs i x below is))
      (added_alike now _ _ (concurrents-in_turn (views.concurrent_view x) (views.concurrents_of (map views.concurrent_view (drop (i + 1) xs)))))

  pub list_goes : (total : Elab Progress) (now new : Progress) (xs : List Concurrent) (i : ℕ) (x : Concurrent) → i < length xs → x ≡ get_or xs i x
      → Alike total (adding now (listed (drop i xs))) → adding now (made.concurrent units levels here (views.concurrent_view x)) ≡ Ok new
      → Alike total (adding new (listed (drop (i + 1) xs)))
  list_goes total now new xs i x below is so_far h =
      goes total now new (made.concurrent units levels here (views.concurrent_view x)) (listed (drop (i + 1) xs)) (alike_trans so_far (next now xs i x below is)) h

  pub list_stops : {bytes : List ℕ} {told : Told} → (total : Elab Progress) (now : Progress) (xs : List Concurrent) (i : ℕ) (x : Concurrent) → i < length xs → x ≡ get_or xs i x
      → Alike total (adding now (listed (drop i xs))) → MayTell bytes (adding now (made.concurrent units levels here (views.concurrent_view x))) told → MayTell bytes total told
  list_stops total now xs i x below is so_far h =
      stops total now (made.concurrent units levels here (views.concurrent_view x)) (listed (drop (i + 1) xs)) (alike_trans so_far (next now xs i x below is)) h

  pub list_ends : (total : Elab Progress) (now : Progress) (xs : List Concurrent) → xs ≡ [] → Alike total (adding now (listed xs)) → total ≡ Ok now
  list_ends total now xs h so_far = ends total now (alike_trans so_far (alike_same (ap (λ ys. adding now (listed ys)) h ∙ ap (adding now) no_concurrents)))

  -- ---- processes and instances

  pub process_is : (p : u.Process) → made.concurrent units levels here (u.process p) ≡ made.process units levels here p
  unfolding definition.concurrent definition.concurrent_turns
  process_is p = go (definition.process here p)
    where
      go : (r : Elab Process) → together (r >>= λ q. given (t.process q no_parts)) (Ok 0) ≡ (r >>= λ q. given (made_process q))
      go (Ok q) = refl
      go (Err told) = refl

  pub instance_is : (x : u.Instance) → made.concurrent units levels here (u.instance x) ≡ made.instance units levels here x
  unfolding definition.concurrent definition.concurrent_turns
  instance_is x = go (definition.instance units (instance_of units levels) here x)
    where
      go : (r : Elab Instance) → together (r >>= λ i. given (t.inner (here.prefix ++ x.label) i no_parts)) (Ok 0) ≡ (r >>= λ i. given (made_instance (here.prefix ++ x.label) i))
      go (Ok i) = refl
      go (Err told) = refl
