-- Declarations one after another, each of which enters the region behind those before it.
use Rattle.std.proofs.Common.{◌≡◌, ℕ, suc, ◌+◌, ◌<◌, ◌≤◌, Bool, true, false, List, [], ◌∷◌, ◌++◌, map, length, drop, get_or, Option, Some, None, refl, sym, ap, ◌∙◌, append_assoc, append-nil, arith}
use Rattle.std.proofs.Math.Seq.{drop-cons}
use Rattle.std.proofs.lemmas.List.{drop_all}
use Rattle.vhdl_names_rules.specs.Rules.{◌>>=◌, met}
use Rattle.vhdl_names_rules.specs.Visibility.{Declared, Sight, Declares, followed_by, are_distinct}
use Rattle.vhdl_names_rules.specs.Declarations.{in_order}
use Rattle.vhdl_names_rules.specs.Interfaces.{declared_names}
use Rattle.vhdl_names_declarations.proofs.Regions.{names-append, still_twice}

abbrev pub pair : {B : Type 0} → Sight → List B → Sight × List B
pair s xs = (s, xs)

abbrev sight_or : {B : Type 0} → Sight → Option (Sight × List B) → Sight
sight_or d None = d
sight_or d (Some x) = x.0

pub first_is : {B : Type 0} (s t : Sight) (xs ys : List B) → Some (pair s xs) ≡ Some (pair t ys) → s ≡ t
first_is s t xs ys e = ap (sight_or s) e

-- behind what is analysed already
abbrev pub behind : {B : Type 0} → List B → Option (Sight × List B) → Option (Sight × List B)
behind xs o = o >>= λ y. Some (pair y.0 (xs ++ y.1))

behind-nil : {B : Type 0} (o : Option (Sight × List B)) → behind [] o ≡ o
behind-nil None = refl
behind-nil (Some y) = refl

behind-append : {B : Type 0} (xs ys : List B) (o : Option (Sight × List B)) → behind xs (behind ys o) ≡ behind (xs ++ ys) o
behind-append xs ys None = refl
behind-append xs ys (Some y) = ap (λ l. Some (pair y.0 l)) (sym (append_assoc xs ys y.1))

-- a region of a sight, and the sight with more in it
module _ (region : Sight → List Declared) (with_more : Sight → List Declared → Sight)
    (grows : (s : Sight) (ds : List Declared) → region (with_more s ds) ≡ region s ++ ds)
    (joins : (s : Sight) (ds es : List Declared) → with_more (with_more s ds) es ≡ with_more s (ds ++ es))
    (stays : (s : Sight) → with_more s [] ≡ s) where
  abbrev pub enters : {B : Type 0} → Sight → Declares B → Option (Sight × List B)
  enters s x = met (are_distinct (declared_names (region s ++ x.declared))) >>= λ _. Some (pair (with_more s x.declared) x.analysed)

  module _ {A B : Type 0} (declares : Sight → A → Option (Declares B)) where
    abbrev pub stepped : Sight → List A → Option (Sight × List B)
    stepped s [] = Some (pair s [])
    stepped s (a ∷ as') = (declares s a >>= enters s) >>= λ x. behind x.1 (stepped x.0 as')

    module _ (s : Sight) (x : Declares B) where
      first : (b : Bool) → are_distinct (declared_names (region s ++ x.declared)) ≡ b → (o : Option (Declares B)) →
          ((o >>= λ xs. Some (followed_by x xs)) >>= enters s)
          ≡ ((met b >>= λ _. Some (pair (with_more s x.declared) x.analysed)) >>= λ y. behind y.1 (o >>= enters y.0))
      first true h None = refl
      first false h None = refl
      first true h (Some xs) =
          ap (λ l. met (are_distinct (declared_names l)) >>= λ _. Some (pair (with_more s (x.declared ++ xs.declared)) (x.analysed ++ xs.analysed)))
          (sym (append_assoc (region s) x.declared xs.declared) ∙ ap (λ r. r ++ xs.declared) (sym (grows s x.declared)))
          ∙ ap (λ t. met (are_distinct (declared_names (region (with_more s x.declared) ++ xs.declared))) >>= λ _. Some (pair t (x.analysed ++ xs.analysed)))
          (sym (joins s x.declared xs.declared))
          ∙ out (are_distinct (declared_names (region (with_more s x.declared) ++ xs.declared)))
        where
          out : (b : Bool) → (met b >>= λ _. Some (pair (with_more (with_more s x.declared) xs.declared) (x.analysed ++ xs.analysed)))
              ≡ behind x.analysed (met b >>= λ _. Some (pair (with_more (with_more s x.declared) xs.declared) xs.analysed))
          out true = refl
          out false = refl
      first false h (Some xs) =
          ap (λ b. met b >>= λ _. Some (pair (with_more s (x.declared ++ xs.declared)) (x.analysed ++ xs.analysed)))
          (ap (λ l. are_distinct (declared_names l)) (sym (append_assoc (region s) x.declared xs.declared))
          ∙ ap are_distinct (names-append (region s ++ x.declared) xs.declared)
          ∙ still_twice (declared_names (region s ++ x.declared)) (declared_names xs.declared) h)

    abbrev Steps : List A → Type 0
    Steps as' = (t : Sight) → are_distinct (declared_names (region t)) ≡ true → (in_order with_more declares t as' >>= enters t) ≡ stepped t as'

    pub in_steps : (as' : List A) (s : Sight) → are_distinct (declared_names (region s)) ≡ true →
        (in_order with_more declares s as' >>= enters s) ≡ stepped s as'
    in_steps [] s h =
        ap (λ r. met (are_distinct (declared_names r)) >>= λ _. Some (pair (with_more s []) [])) (append-nil (region s))
        ∙ ap (λ b. met b >>= λ _. Some (pair (with_more s []) [])) h ∙ ap (λ t. Some (pair t [])) (stays s)
    in_steps (a ∷ as') s h = go (declares s a) (λ t e. in_steps as' t e)
      where
        by : (x : Declares B) (b : Bool) → are_distinct (declared_names (region s ++ x.declared)) ≡ b → Steps as' →
            ((met b >>= λ _. Some (pair (with_more s x.declared) x.analysed)) >>= λ y. behind y.1 (in_order with_more declares (with_more s x.declared) as' >>= enters y.0))
            ≡ ((met b >>= λ _. Some (pair (with_more s x.declared) x.analysed)) >>= λ y. behind y.1 (stepped y.0 as'))
        by x true e rest = ap (behind x.analysed) (rest (with_more s x.declared) (ap (λ r. are_distinct (declared_names r)) (grows s x.declared) ∙ e))
        by x false e rest = refl

        go : (o : Option (Declares B)) → Steps as' →
            ((o >>= λ x. (in_order with_more declares (with_more s x.declared) as' >>= λ xs. Some (followed_by x xs))) >>= enters s)
            ≡ ((o >>= enters s) >>= λ x. behind x.1 (stepped x.0 as'))
        go None rest = refl
        go (Some x) rest =
            first s x (are_distinct (declared_names (region s ++ x.declared))) refl (in_order with_more declares (with_more s x.declared) as')
            ∙ by x (are_distinct (declared_names (region s ++ x.declared))) refl rest

    module _ {C : Type 0} (view : C → A) where
      -- what is left, on what is done
      abbrev pub left : Sight → List B → List C → ℕ → Option (Sight × List B)
      left s done cs i = behind done (stepped s (map view (drop i cs)))

      pub begun : (s : Sight) (cs : List C) → are_distinct (declared_names (region s)) ≡ true →
          (in_order with_more declares s (map view cs) >>= enters s) ≡ left s [] cs 0
      begun s cs h = in_steps (map view cs) s h ∙ sym (behind-nil (stepped s (map view cs)))

      next : (s : Sight) (done : List B) (cs : List C) (i : ℕ) (c : C) → i < length cs → c ≡ get_or cs i c →
          left s done cs i ≡ behind done ((declares s (view c) >>= enters s) >>= λ x. behind x.1 (stepped x.0 (map view (drop (i + 1) cs))))
      next s done cs i c lt is =
          let t : suc i ≡ i + 1 = omega arith in
          ap (λ l. behind done (stepped s (map view l))) (drop-cons cs i c lt)
          ∙ ap (λ k. behind done (stepped s (view k ∷ map view (drop (suc i) cs)))) (sym is)
          ∙ ap (λ k. behind done ((declares s (view c) >>= enters s) >>= λ x. behind x.1 (stepped x.0 (map view (drop k cs))))) t

      pub fails : (s : Sight) (done : List B) (cs : List C) (i : ℕ) (c : C) → i < length cs → c ≡ get_or cs i c →
          (declares s (view c) >>= enters s) ≡ None → left s done cs i ≡ None
      fails s done cs i c lt is e =
          next s done cs i c lt is ∙ ap (λ o. behind done (o >>= λ x. behind x.1 (stepped x.0 (map view (drop (i + 1) cs))))) e

      pub goes : (s t : Sight) (done ys done' : List B) (cs : List C) (i : ℕ) (c : C) → i < length cs → c ≡ get_or cs i c →
          (declares s (view c) >>= enters s) ≡ Some (t, ys) → done' ≡ done ++ ys → left s done cs i ≡ left t done' cs (i + 1)
      goes s t done ys done' cs i c lt is e grown =
          next s done cs i c lt is ∙ ap (λ o. behind done (o >>= λ x. behind x.1 (stepped x.0 (map view (drop (i + 1) cs))))) e
          ∙ behind-append done ys (stepped t (map view (drop (i + 1) cs)))
          ∙ ap (λ l. behind l (stepped t (map view (drop (i + 1) cs)))) (sym grown)

      pub ended : (s : Sight) (done : List B) (cs : List C) (i : ℕ) → length cs ≤ i → left s done cs i ≡ Some (s, done)
      ended s done cs i le = ap (λ l. behind done (stepped s (map view l))) (drop_all i cs le) ∙ ap (λ l. Some (pair s l)) (append-nil done)
