-- What walks put behind the names so far.
use Rattle.std.proofs.Common.{◌≡◌, ℕ, ◌+◌, ◌<◌, ◌≤◌, List, [], ◌∷◌, ◌++◌, length, get_or, drop, Vec, Global, Result, Ok, Err, append-nil, refl, sym, ap, ◌∙◌}
use Rattle.std.specs.Prelude.{false, flat_map, IfOk}
use Rattle.std.proofs.lemmas.List.{append_assoc}
use Rattle.std.proofs.lemmas.List.Concat.{flat_map-cons}
use Rattle.vhdl_names_rules.specs.units.Expressions as u
use Rattle.vhdl_expand_rules.proofs.Items.{next_left, none_left}
use Rattle.vhdl_expand_processes.specs.declared.name.Gathered.{Gathered}
use Rattle.vhdl_expand_processes.specs.declared.name.Name.{Name}
use Rattle.vhdl_expand_processes.specs.Adding.{Adds}
use Rattle.vhdl_expand_processes.specs.Named.{named_by}

pub nothing_more : (s : Gathered) (xs : List u.SignalPart) → xs ≡ [] → Adds s s xs
nothing_more s xs h = λ n. (n, sym (append-nil (named_by s.found)) ∙ ap (λ l. named_by s.found ++ l) (sym h))

-- the same by another name
pub adds_along : (old new : Gathered) (xs ys : List u.SignalPart) → ys ≡ xs → Adds old new xs → Adds old new ys
adds_along old new xs ys e h = λ n. ((h n).0, (h n).1 ∙ ap (λ l. named_by old.found ++ l) (sym e))

-- two things behind what stands there
pub adds_both : (old mid new : Gathered) (xs ys zs : List u.SignalPart) → zs ≡ xs ++ ys → Adds old mid xs → Adds mid new ys → Adds old new zs
adds_both old mid new xs ys zs e h k = λ n.
    let more = k n in
    let first = h more.0 in
    (first.0, more.1 ∙ ap (λ l. l ++ ys) first.1 ∙ append_assoc (named_by old.found) xs ys ∙ ap (λ l. named_by old.found ++ l) (sym e))

-- those so far, and those that are left, of things of a list: by what the list gives, to which one thing may be the last
module _ {X : Type 0} (of : List X → List u.SignalPart) (old : Gathered) (xs : List X) where
  abbrev pub LeftOf : Gathered → List X → Type 0
  LeftOf now rest = now.failed ≡ false → (old.failed ≡ false) × (named_by old.found ++ of xs ≡ named_by now.found ++ of rest)

  pub next_of : (now new : Gathered) (i : ℕ) (x : X) (more : List u.SignalPart) → i < length xs → x ≡ get_or xs i x → LeftOf now (drop i xs)
      → ((rest : List X) → of (x ∷ rest) ≡ more ++ of rest) → Adds now new more → LeftOf new (drop (i + 1) xs)
  next_of now new i x more below is so_far gives h = λ n.
      let added = h n in
      let left = so_far added.0 in
      let rest = drop (i + 1) xs in (
        left.0,
        left.1 ∙ ap (λ ys. named_by now.found ++ of ys) (next_left xs i x below is) ∙ ap (λ l. named_by now.found ++ l) (gives rest)
            ∙ sym (append_assoc (named_by now.found) more (of rest)) ∙ ap (λ l. l ++ of rest) (sym added.1),
      )

  pub last_of : (now new : Gathered) (i : ℕ) (x : X) (more : List u.SignalPart) → i < length xs → x ≡ get_or xs i x → LeftOf now (drop i xs)
      → ((rest : List X) → of (x ∷ rest) ≡ more) → Adds now new more → Adds old new (of xs)
  last_of now new i x more below is so_far gives h = λ n.
      let added = h n in
      let left = so_far added.0 in
      (left.0, added.1 ∙ ap (λ l. named_by now.found ++ l) (sym (gives (drop (i + 1) xs))) ∙ ap (λ ys. named_by now.found ++ of ys) (sym (next_left xs i x below is)) ∙ sym left.1)

  pub none_of : (now : Gathered) (i : ℕ) → length xs ≤ i → LeftOf now (drop i xs) → of [] ≡ [] → Adds old now (of xs)
  none_of now i past so_far none = λ n.
      let left = so_far n in
      (left.0, sym (left.1 ∙ ap (λ ys. named_by now.found ++ of ys) (none_left xs i past) ∙ ap (λ l. named_by now.found ++ l) none ∙ append-nil (named_by now.found)))

-- the same where each thing gives its own
module _ {X : Type 0} (f : X → List u.SignalPart) (old : Gathered) (xs : List X) where
  abbrev pub Left : Gathered → List X → Type 0
  Left now rest = LeftOf (flat_map f) old xs now rest

  pub left_next : (now new : Gathered) (i : ℕ) (x : X) → i < length xs → x ≡ get_or xs i x → Left now (drop i xs) → Adds now new (f x) → Left new (drop (i + 1) xs)
  left_next now new i x below is so_far h = next_of (flat_map f) old xs now new i x (f x) below is so_far (λ rest. flat_map-cons f x rest) h

  pub left_none : (now : Gathered) (i : ℕ) → length xs ≤ i → Left now (drop i xs) → Adds old now (flat_map f xs)
  left_none now i past so_far = none_of (flat_map f) old xs now i past so_far refl

-- all that a walk puts behind nothing
pub gathered : {E : Type 0} (r : Result (Vec Name Global) E) (old new : Gathered) (xs ys : List u.SignalPart) → named_by old.found ≡ [] → ys ≡ xs → Adds old new xs
    → IfOk r (λ v. new.failed ≡ false) → IfOk r (λ v. named_by v ≡ named_by new.found) → IfOk r (λ v. named_by v ≡ ys)
gathered (Ok v) old new xs ys none e h f k = k ∙ (h f).1 ∙ ap (λ l. l ++ xs) none ∙ sym e
gathered (Err y) old new xs ys none e h f k = tt
