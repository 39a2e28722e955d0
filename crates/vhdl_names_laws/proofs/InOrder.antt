-- Declarations one after another: what each gives fits, and what is counted goes on (IEEE 1076-2008, 12.2).
use Rattle.std.proofs.Common.{◌≡◌, ℕ, suc, Bool, true, ◌&&◌, List, [], ◌∷◌, ◌++◌, map, Option, Some, None, refl, sym, subst}
use Rattle.std.specs.Option.{option_map}
use Rattle.std.specs.List.{AllByRecursion}
use Rattle.std.proofs.lemmas.Bool.{and_parts, and_from}
use Rattle.vhdl_tree.specs.declared.operator.Direction.{Direction}
use Rattle.vhdl_tree.specs.Tree.{Ident}
use Rattle.vhdl_names_rules.specs.Visibility.{Name, Meaning, DeclaredRange, Declared, names_of, numbered, ranged, global_if, Sight, Declares, followed_by}
use Rattle.vhdl_names_rules.specs.Declarations.{in_order}
use Rattle.vhdl_names_laws.specs.Meanings.{Counts}
use Rattle.vhdl_names_laws.proofs.Statics.{some_same}
use Rattle.vhdl_names_rules.proofs.laws.Rules.{comes}

-- ---- the names of one declaration

-- a range of this direction, if there is one, and the number of the next
abbrev pub range_at : Option Direction → ℕ → Option DeclaredRange
range_at direction k = option_map (λ d. record { number = k; direction = d }) direction

abbrev pub next_range : Option Direction → ℕ → ℕ
next_range None k = k
next_range (Some d) k = suc k

-- one name
abbrev pub declared_one : Bool → Option Direction → (range : ℕ) → Meaning → Name → Declared
declared_one g direction k m n = record { name = n; meaning = m; range = range_at direction k; is_global = g }

abbrev pub declared_all : Bool → Option Direction → (range : ℕ) → (ℕ → Meaning) → ℕ → List Ident → List Declared
declared_all g direction k f c ns = global_if g (ranged direction k (numbered f c (names_of ns)))

one_first : (g : Bool) (direction : Option Direction) (k : ℕ) (f : ℕ → Meaning) (c : ℕ) (n : Ident) (ns : List Ident)
    → declared_all g direction k f c (n ∷ ns) ≡ declared_one g direction k (f c) n.text ∷ declared_all g direction (next_range direction k) f (suc c) ns
one_first g None k f c n ns = refl
one_first g (Some d) k f c n ns = refl

none_left : (g : Bool) (direction : Option Direction) (k : ℕ) (f : ℕ → Meaning) (c : ℕ) → declared_all g direction k f c [] ≡ []
none_left g None k f c = refl
none_left g (Some d) k f c = refl

-- ---- one declaration after another, with what is inside

module _ {I B : Type 0} (add : I → B → I) (fits : I → B → Bool) (with_more : Sight → List Declared → Sight)
    (Known : I → Counts → Sight → Type 0) where
  -- each fits with those before it
  abbrev pub all_fit : I → List B → Bool
  all_fit i [] = true
  all_fit i (b ∷ bs) = fits i b && all_fit (add i b) bs

  abbrev pub all_added : I → List B → I
  all_added i [] = i
  all_added i (b ∷ bs) = all_added (add i b) bs

  -- what is declared and analysed in a sight, with what is known behind it
  pub record Step (i : I) (sight : Sight) (x : Declares B) : Type 0 where
    pub more : Counts
    pub fit : all_fit i x.analysed ≡ true
    pub after : Known (all_added i x.analysed) more (with_more sight x.declared)

  added_append : (bs cs : List B) (i : I) → all_added i (bs ++ cs) ≡ all_added (all_added i bs) cs
  added_append [] cs i = refl
  added_append (b ∷ bs) cs i = added_append bs cs (add i b)

  fit_append : (bs cs : List B) (i : I) → all_fit i bs ≡ true → all_fit (all_added i bs) cs ≡ true → all_fit i (bs ++ cs) ≡ true
  fit_append [] cs i h k = k
  fit_append (b ∷ bs) cs i h k =
      let a = and_parts (fits i b) (all_fit (add i b) bs) h in
      and_from (fits i b) (all_fit (add i b) (bs ++ cs)) a.0 (fit_append bs cs (add i b) a.1 k)

  module _ (none : (sight : Sight) → with_more sight [] ≡ sight)
      (twice : (sight : Sight) (ds es : List Declared) → with_more (with_more sight ds) es ≡ with_more sight (ds ++ es)) where
    pub no_step : (i : I) (counts : Counts) (sight : Sight) → Known i counts sight → Step i sight (record { declared = []; analysed = [] })
    no_step i counts sight h = record { more = counts; fit = refl; after = subst (Known i counts) (sym (none sight)) h }

    pub two_steps : (i : I) (sight : Sight) (x y : Declares B) (a : Step i sight x) → Step (all_added i x.analysed) (with_more sight x.declared) y → Step i sight (followed_by x y)
    two_steps i sight x y a b = record {
      more = b.more;
      fit = fit_append x.analysed y.analysed i a.fit b.fit;
      after =
          subst (λ j. Known j b.more (with_more sight (x.declared ++ y.declared))) (sym (added_append x.analysed y.analysed i))
          (subst (Known (all_added (all_added i x.analysed) y.analysed) b.more) (twice sight x.declared y.declared) b.after);
    }

    -- ---- one declaration after another

    pub steps : {A : Type 0} (Is : A → Type 0) (declares : Sight → A → Option (Declares B))
        → ((i : I) (counts : Counts) (sight : Sight) (a : A) (x : Declares B) → Is a → Known i counts sight → declares sight a ≡ Some x → Step i sight x)
        → (as' : List A) → AllByRecursion Is as' → (i : I) (counts : Counts) (sight : Sight) (x : Declares B) → Known i counts sight
        → in_order with_more declares sight as' ≡ Some x → Step i sight x
    steps Is declares one [] all i counts sight x h q = subst (Step i sight) (some_same _ x q) (no_step i counts sight h)
    steps Is declares one (a ∷ as') all i counts sight x h q =
        let c = comes (declares sight a) _ x q in
        let d = comes (in_order with_more declares (with_more sight c.value.declared) as') _ x c.rest in
        let f = one i counts sight a c.value all.0 h c.is in
        subst (Step i sight) (some_same _ x d.rest)
        (two_steps i sight c.value d.value f
        (steps Is declares one as' all.1 (all_added i c.value.analysed) f.more (with_more sight c.value.declared) d.value f.after d.is))

    -- ---- the names of one declaration

    module _ (g : Bool) (direction : Option Direction) (f : ℕ → Meaning) (count ranges : Sight → ℕ) (a : Ident → B) (Ok : I → Counts → Type 0) where
      abbrev next : Sight → Ident → Sight
      next sight n = with_more sight (declared_one g direction (ranges sight) (f (count sight)) n.text ∷ [])

      pub names_step : ((i : I) (counts : Counts) (sight : Sight) (n : Ident) → Ok i counts → Known i counts sight → Known (add i (a n)) counts (next sight n))
          → ((i : I) (counts : Counts) (n : Ident) → Ok i counts → fits i (a n) ≡ true)
          → ((i : I) (counts : Counts) (n : Ident) → Ok i counts → Ok (add i (a n)) counts)
          → ((sight : Sight) (n : Ident) → count (next sight n) ≡ suc (count sight))
          → ((sight : Sight) (n : Ident) → ranges (next sight n) ≡ next_range direction (ranges sight))
          → (ns : List Ident) (i : I) (counts : Counts) (sight : Sight) → Ok i counts → Known i counts sight
          → Step i sight (record { declared = declared_all g direction (ranges sight) f (count sight) ns; analysed = map a ns })
      names_step single fit keep up on [] i counts sight ok h =
          subst (λ ds. Step i sight (record { declared = ds; analysed = [] })) (sym (none_left g direction (ranges sight) f (count sight))) (no_step i counts sight h)
      names_step single fit keep up on (n ∷ ns) i counts sight ok h =
          let d = declared_one g direction (ranges sight) (f (count sight)) n.text in
          let here = single i counts sight n ok h in
          let rest = names_step single fit keep up on ns (add i (a n)) counts (next sight n) (keep i counts n ok) here in
          let by_count : Step (add i (a n)) (next sight n) (record { declared = declared_all g direction (ranges (next sight n)) f (suc (count sight)) ns; analysed = map a ns }) =
          subst (λ k. Step (add i (a n)) (next sight n) (record { declared = declared_all g direction (ranges (next sight n)) f k ns; analysed = map a ns })) (up sight n) rest in
          let later : Step (add i (a n)) (next sight n) (record { declared = declared_all g direction (next_range direction (ranges sight)) f (suc (count sight)) ns; analysed = map a ns }) =
          subst (λ k. Step (add i (a n)) (next sight n) (record { declared = declared_all g direction k f (suc (count sight)) ns; analysed = map a ns })) (on sight n) by_count in
          subst (λ ds. Step i sight (record { declared = ds; analysed = map a (n ∷ ns) })) (sym (one_first g direction (ranges sight) f (count sight) n ns))
          (two_steps i sight (record { declared = d ∷ []; analysed = a n ∷ [] }) (record { declared = declared_all g direction (next_range direction (ranges sight)) f (suc (count sight)) ns; analysed = map a ns })
          (record { more = counts; fit = and_from (fits i (a n)) true (fit i counts n ok) refl; after = here }) later)
