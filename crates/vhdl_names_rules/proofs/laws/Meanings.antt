-- A name means what the innermost declaration of it is.
use Rattle.std.proofs.Common.{◌≡◌, ℕ, zero, suc, Bool, true, false, List, [], ◌∷◌, ◌++◌, Option, Some, cond, refl, ap, sym, ◌∙◌, arith}
use Rattle.std.specs.List.{slice_get, find}
use Rattle.std.specs.Option.{option_map}
use Rattle.std.specs.Str.{bytes_eq}
use Rattle.std.proofs.lemmas.Option.{slice_get-map}
use Rattle.std.proofs.lemmas.Slice.Eq.{bytes_eq-Decides}
use Rattle.vhdl_names_rules.specs.Visibility.{Name, Meaning, Declared, in_sight}
use Rattle.vhdl_names_rules.specs.Interfaces.{declared_names}
use Rattle.vhdl_names_rules.specs.laws.Once.{StandOnce}
use Rattle.vhdl_names_rules.specs.laws.Regions.{InnermostIsMeant, MeaningsAreDeclared}

abbrev found : Name → List Declared → Option Declared
found n ds = find (λ (d : Declared). bytes_eq n d.name) ds

found_past : (n : Name) (inner rest : List Declared) → ((j : ℕ) (e : Declared) → slice_get inner j ≡ Some e → e.name ≡ n → ⊥)
    → found n (inner ++ rest) ≡ found n rest
found_past n [] rest none = refl
found_past n (e ∷ inner) rest none = go (bytes_eq n e.name) refl (found_past n inner rest (λ j. none (suc j)))
  where
    go : (t : Bool) → bytes_eq n e.name ≡ t → found n (inner ++ rest) ≡ found n rest → cond t (Some e) (found n (inner ++ rest)) ≡ found n rest
    go true h m = absurd (none 0 e refl (sym ((bytes_eq-Decides n e.name).0 h)))
    go false h m = m

found_here : (n : Name) (region outer : List Declared) (k : ℕ) (d : Declared)
    → StandOnce (declared_names region) → slice_get region k ≡ Some d → d.name ≡ n → found n (region ++ outer) ≡ Some d
found_here n [] outer k d once p h = cc
found_here n (e ∷ region) outer zero d once p h =
    let g : e ≡ d = cc in
    ap (λ t. cond t (Some e) (found n (region ++ outer))) ((bytes_eq-Decides n e.name).1 (sym h ∙ ap (λ (d : Declared). d.name) (sym g))) ∙ ap Some g
found_here n (e ∷ region) outer (suc k) d once p h =
    go (bytes_eq n e.name) refl (found_here n region outer k d (λ i j m q r. let s : suc i ≡ suc j = once (suc i) (suc j) m q r in omega arith) p h)
  where
    go : (t : Bool) → bytes_eq n e.name ≡ t → found n (region ++ outer) ≡ Some d → cond t (Some e) (found n (region ++ outer)) ≡ Some d
    go true g m =
        let q : slice_get (declared_names region) k ≡ Some n = slice_get-map (λ (d : Declared). d.name) region k ∙ ap (option_map (λ (d : Declared). d.name)) p ∙ ap Some h in
        let s : 0 ≡ suc k = once 0 (suc k) n (ap Some (sym ((bytes_eq-Decides n e.name).0 g))) q in
        absurd (omega arith)
    go false g m = m

pub innermost_is_meant : InnermostIsMeant
innermost_is_meant sight inner region outer n k d e none once p h =
    ap (λ ds. option_map (λ (d : Declared). d.meaning) (found n ds)) e
    ∙ ap (option_map (λ (d : Declared). d.meaning)) (found_past n inner (region ++ outer) none ∙ found_here n region outer k d once p h)

is_declared : (n : Name) (ds : List Declared) (m : Meaning) → option_map (λ (d : Declared). d.meaning) (found n ds) ≡ Some m
    → (k : ℕ) × (d : Declared) × (slice_get ds k ≡ Some d) × (d.name ≡ n) × (d.meaning ≡ m)
is_declared n [] m e = cc
is_declared n (c ∷ ds) m e = go (bytes_eq n c.name) refl e (is_declared n ds m)
  where
    go : (t : Bool) → bytes_eq n c.name ≡ t → option_map (λ (d : Declared). d.meaning) (cond t (Some c) (found n ds)) ≡ Some m
        → (option_map (λ (d : Declared). d.meaning) (found n ds) ≡ Some m → (k : ℕ) × (d : Declared) × (slice_get ds k ≡ Some d) × (d.name ≡ n) × (d.meaning ≡ m))
        → (k : ℕ) × (d : Declared) × (slice_get (c ∷ ds) k ≡ Some d) × (d.name ≡ n) × (d.meaning ≡ m)
    go true h e more = (0, c, refl, sym ((bytes_eq-Decides n c.name).0 h), cc)
    go false h e more = let m = more e in (suc m.0, m.1, m.2, m.3, m.4)

pub meanings_are_declared : MeaningsAreDeclared
meanings_are_declared sight n m e = is_declared n (in_sight sight) m e
