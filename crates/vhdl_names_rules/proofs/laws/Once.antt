-- Names that are distinct stand once.
use Rattle.std.proofs.Common.{◌≡◌, ℕ, zero, suc, true, not, List, [], ◌∷◌, Some, refl, ap, sym, ◌⊎◌, inl, inr}
use Rattle.std.specs.List.{slice_get}
use Rattle.std.specs.Str.{bytes_eq}
use Rattle.std.proofs.lemmas.Bool.{or_cases}
use Rattle.std.proofs.lemmas.Slice.Eq.{bytes_eq-Decides}
use Rattle.vhdl_names_rules.specs.Visibility.{Name, is_among, are_distinct}
use Rattle.vhdl_names_rules.specs.laws.Once.{StandOnce}
use Rattle.vhdl_names_rules.proofs.laws.Rules.{both, not_true, none_passes}

-- a name is not among later ones
pub differs : (n m : Name) (ns : List Name) (k : ℕ) → are_distinct (n ∷ ns) ≡ true → slice_get ns k ≡ Some m → n ≡ m → ⊥
differs n m ns k e p h =
    let f = none_passes (bytes_eq n) ns k m (not_true (is_among n ns) (both (not (is_among n ns)) (are_distinct ns) e).0) p in
    let g : bytes_eq n m ≡ true = (bytes_eq-Decides n m).1 h in
    cc

pub stand_once : (ns : List Name) → are_distinct ns ≡ true → StandOnce ns
stand_once [] e i j n p q = cc
stand_once (m ∷ ns) e zero zero n p q = refl
stand_once (m ∷ ns) e zero (suc j) n p q = absurd (differs m n ns j e q (cc))
stand_once (m ∷ ns) e (suc i) zero n p q = absurd (differs m n ns i e p (cc))
stand_once (m ∷ ns) e (suc i) (suc j) n p q = ap suc (stand_once ns (both (not (is_among m ns)) (are_distinct ns) e).1 i j n p q)

-- a name that is among others has a place there
pub place_among : (n : Name) (ns : List Name) → is_among n ns ≡ true → (i : ℕ) × (slice_get ns i ≡ Some n)
place_among n [] e = cc
place_among n (m ∷ ns) e = go (or_cases (bytes_eq n m) (is_among n ns) e) (place_among n ns)
  where
    go : (bytes_eq n m ≡ true) ⊎ (is_among n ns ≡ true) → (is_among n ns ≡ true → (i : ℕ) × (slice_get ns i ≡ Some n))
        → (i : ℕ) × (slice_get (m ∷ ns) i ≡ Some n)
    go (inl h) more = (zero, ap Some (sym ((bytes_eq-Decides n m).0 h)))
    go (inr h) more = let p = more h in (suc p.0, p.1)
