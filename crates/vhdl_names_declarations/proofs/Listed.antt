-- Declarations of a list, on the regions that they enter.
use Rattle.std.proofs.Common.{◌≡◌, ℕ, ◌+◌, ◌<◌, ◌≤◌, Bool, true, false, List, [], ◌∷◌, ◌++◌, map, flat_map, length, take, get_or, Option, Some, None, Vec, Global, refl, sym, ap, subst, ◌∙◌, append_assoc, append-nil, arith}
use Rattle.std.proofs.Math.Seq.{take-append_seam}
use Rattle.std.proofs.lemmas.Grind.{flat_map-append}
use Rattle.std.proofs.lemmas.List.{length-map, length-append}
use Rattle.vhdl_names_rules.specs.Rules.{◌>>=◌, met}
use Rattle.vhdl_names_rules.specs.Visibility.{Declared, Sight, Declares, are_distinct, declared_here, with_declared, with_variables}
use Rattle.vhdl_names_rules.specs.Declarations.{in_order}
use Rattle.vhdl_names_rules.specs.Interfaces.{declared_names}
use Rattle.vhdl_names_sight.specs.declared.sight.Sight.TheInside.{Inside}
use Rattle.vhdl_names_sight.specs.Seen.{sight_view}
use Rattle.vhdl_names_sight.specs.Views.{entry_view}
use Rattle.vhdl_names_units.specs.declared.declaration.Declaration.{Declaration}
use Rattle.vhdl_names_units.specs.views.Declarations.{declaration_view, declarations_view}
use Rattle.vhdl_names_declarations.specs.declared.counts.Counts.{Counts}
use Rattle.vhdl_names_declarations.specs.Counts.{AreCounts}
use Rattle.vhdl_names_declarations.specs.Entered.{entering, entering_variables}
use Rattle.vhdl_names_declarations.proofs.Orders as o

abbrev pub in_region : Sight → List Declared
in_region s = s.region

abbrev pub of_process : Sight → List Declared
of_process s = s.variables

grows : (s : Sight) (ds : List Declared) → in_region (with_declared s ds) ≡ in_region s ++ ds
grows s ds = refl

joins : (s : Sight) (ds es : List Declared) → with_declared (with_declared s ds) es ≡ with_declared s (ds ++ es)
joins s ds es = ap (λ r. record s { region = r }) (append_assoc s.region ds es)

stays : (s : Sight) → with_declared s [] ≡ s
stays s = ap (λ r. record s { region = r }) (append-nil s.region)

grows_variables : (s : Sight) (ds : List Declared) → of_process (with_variables s ds) ≡ of_process s ++ ds
grows_variables s ds = refl

joins_variables : (s : Sight) (ds es : List Declared) → with_variables (with_variables s ds) es ≡ with_variables s (ds ++ es)
joins_variables s ds es = ap (λ r. record s { variables = r }) (append_assoc s.variables ds es)

stays_variables : (s : Sight) → with_variables s [] ≡ s
stays_variables s = ap (λ r. record s { variables = r }) (append-nil s.variables)

module _ {A B C : Type 0} (declares : Sight → A → Option (Declares B)) (view : C → A) where
  pub left : Sight → List B → List C → ℕ → Option (Sight × List B)
  left = o.left in_region with_declared grows joins stays declares view

  pub begins : (s : Sight) (cs : List C) → are_distinct (declared_names s.region) ≡ true → entering (in_order with_declared declares) s (map view cs) ≡ left s [] cs 0
  unfolding left
  begins = o.begun in_region with_declared grows joins stays declares view

  pub fails : (s : Sight) (done : List B) (cs : List C) (i : ℕ) (c : C) → i < length cs → c ≡ get_or cs i c → entering declares s (view c) ≡ None → left s done cs i ≡ None
  unfolding left
  fails = o.fails in_region with_declared grows joins stays declares view

  pub goes : (s t : Sight) (done ys done' : List B) (cs : List C) (i : ℕ) (c : C) → i < length cs → c ≡ get_or cs i c →
      entering declares s (view c) ≡ Some (t, ys) → done' ≡ done ++ ys → left s done cs i ≡ left t done' cs (i + 1)
  unfolding left
  goes = o.goes in_region with_declared grows joins stays declares view

  pub ends : (s : Sight) (done : List B) (cs : List C) (i : ℕ) → length cs ≤ i → left s done cs i ≡ Some (s, done)
  unfolding left
  ends = o.ended in_region with_declared grows joins stays declares view

  pub left_variables : Sight → List B → List C → ℕ → Option (Sight × List B)
  left_variables = o.left of_process with_variables grows_variables joins_variables stays_variables declares view

  pub begins_variables : (s : Sight) (cs : List C) → are_distinct (declared_names s.variables) ≡ true → entering_variables (in_order with_variables declares) s (map view cs) ≡ left_variables s [] cs 0
  unfolding left_variables
  begins_variables = o.begun of_process with_variables grows_variables joins_variables stays_variables declares view

  pub fails_variables : (s : Sight) (done : List B) (cs : List C) (i : ℕ) (c : C) → i < length cs → c ≡ get_or cs i c → entering_variables declares s (view c) ≡ None → left_variables s done cs i ≡ None
  unfolding left_variables
  fails_variables = o.fails of_process with_variables grows_variables joins_variables stays_variables declares view

  pub goes_variables : (s t : Sight) (done ys done' : List B) (cs : List C) (i : ℕ) (c : C) → i < length cs → c ≡ get_or cs i c →
      entering_variables declares s (view c) ≡ Some (t, ys) → done' ≡ done ++ ys → left_variables s done cs i ≡ left_variables t done' cs (i + 1)
  unfolding left_variables
  goes_variables = o.goes of_process with_variables grows_variables joins_variables stays_variables declares view

  pub ends_variables : (s : Sight) (done : List B) (cs : List C) (i : ℕ) → length cs ≤ i → left_variables s done cs i ≡ Some (s, done)
  unfolding left_variables
  ends_variables = o.ended of_process with_variables grows_variables joins_variables stays_variables declares view

-- ---- what was there before a declaration stays

-- how many a region has, by what is seen of it
pub region_size : (i : Inside) (s : Sight) → sight_view i ≡ s → length s.region ≡ length i.region.entries
region_size i s e = ap (λ (s : Sight). length s.region) (sym e) ∙ length-map i.region.entries entry_view

pub variables_size : (i : Inside) (s : Sight) → sight_view i ≡ s → length s.variables ≡ length i.variables.entries
variables_size i s e = ap (λ (s : Sight). length s.variables) (sym e) ∙ length-map i.variables.entries entry_view

module _ {A B : Type 0} (declares : Sight → A → Option (Declares B)) where
  pub grown_by : (s t : Sight) (a : A) (ys : List B) → entering declares s a ≡ Some (t, ys) → (ds : List Declared) × (t.region ≡ s.region ++ ds)
  grown_by s t a ys h = go (declares s a) h
    where
      by : (x : Declares B) (b : Bool) → (met b >>= λ _. Some (o.pair (with_declared s x.declared) x.analysed)) ≡ Some (t, ys) → t.region ≡ s.region ++ x.declared
      by x true e = ap (λ (y : Sight). y.region) (sym (o.first_is (with_declared s x.declared) t x.analysed ys e))
      by x false e = cc

      go : (p : Option (Declares B)) → (p >>= o.enters in_region with_declared grows joins stays s) ≡ Some (t, ys) → (ds : List Declared) × (t.region ≡ s.region ++ ds)
      go None e = cc
      go (Some x) e = (x.declared, by x (are_distinct (declared_names (s.region ++ x.declared))) e)

  counts_before : (c : Counts) (s t : Sight) (a : A) (ys : List B) (first : ℕ) → entering declares s a ≡ Some (t, ys) → first ≡ length s.region →
      AreCounts c s.region → AreCounts c (take first t.region)
  counts_before c s t a ys first h size counts =
      let g = grown_by s t a ys h in
      subst (AreCounts c) (sym (ap (λ n. take n t.region) size ∙ ap (take (length s.region)) g.1 ∙ take-append_seam s.region g.0)) counts

  place_within : (s t : Sight) (a : A) (ys : List B) → entering declares s a ≡ Some (t, ys) → length s.region ≤ length t.region
  place_within s t a ys h =
      let g = grown_by s t a ys h in
      let e = ap length g.1 in
      let l = length-append s.region g.0 in
      omega (arith, e, l)

  -- the same of what is seen
  pub place_after : (s t : Sight) (a : A) (ys : List B) (i j : Inside) (first : ℕ) → entering declares s a ≡ Some (t, ys) → sight_view i ≡ s → sight_view j ≡ t →
      first ≡ length i.region.entries → first ≤ length j.region.entries
  place_after s t a ys i j first h e d size =
      let w = place_within s t a ys h in
      let p = region_size i s e in
      let q = region_size j t d in
      omega (arith, w, p, q, size)

  pub counts_after : (c : Counts) (s t : Sight) (a : A) (ys : List B) (i j : Inside) (first : ℕ) → entering declares s a ≡ Some (t, ys) → sight_view i ≡ s → sight_view j ≡ t →
      first ≡ length i.region.entries → AreCounts c s.region → AreCounts c (take first (sight_view j).region)
  counts_after c s t a ys i j first h e d size counts =
      subst (λ (x : Sight). AreCounts c (take first x.region)) (sym d) (counts_before c s t a ys first h (size ∙ sym (region_size i s e)) counts)

-- one more
pub all_more : {X Y : Type 0} (f : X → List Y) (xs : List X) (x : X) → flat_map f (xs ++ x ∷ []) ≡ flat_map f xs ++ f x
all_more f xs x = flat_map-append f xs (x ∷ []) ∙ ap (λ l. flat_map f xs ++ l) (append-nil (f x))

pub none_more : (v : Vec Declaration Global) → declarations_view v ≡ declarations_view v ++ []
none_more v = sym (append-nil (declarations_view v))

pub one_more : (v w : Vec Declaration Global) (d : Declaration) → w.items ≡ v.items ++ d ∷ [] → declarations_view w ≡ declarations_view v ++ declaration_view d
one_more v w d h = ap (flat_map declaration_view) h ∙ all_more declaration_view v.items d

-- ---- the same of a process's variables

module _ {A B : Type 0} (declares : Sight → A → Option (Declares B)) where
  grown_by_variables : (s t : Sight) (a : A) (ys : List B) → entering_variables declares s a ≡ Some (t, ys) → (ds : List Declared) × (t.variables ≡ s.variables ++ ds)
  grown_by_variables s t a ys h = go (declares s a) h
    where
      by : (x : Declares B) (b : Bool) → (met b >>= λ _. Some (o.pair (with_variables s x.declared) x.analysed)) ≡ Some (t, ys) → t.variables ≡ s.variables ++ x.declared
      by x true e = ap (λ (y : Sight). y.variables) (sym (o.first_is (with_variables s x.declared) t x.analysed ys e))
      by x false e = cc

      go : (p : Option (Declares B)) → (p >>= o.enters of_process with_variables grows_variables joins_variables stays_variables s) ≡ Some (t, ys) → (ds : List Declared) × (t.variables ≡ s.variables ++ ds)
      go None e = cc
      go (Some x) e = (x.declared, by x (are_distinct (declared_names (s.variables ++ x.declared))) e)

  place_within_variables : (s t : Sight) (a : A) (ys : List B) → entering_variables declares s a ≡ Some (t, ys) → length s.variables ≤ length t.variables
  place_within_variables s t a ys h =
      let g = grown_by_variables s t a ys h in
      let e = ap length g.1 in
      let l = length-append s.variables g.0 in
      omega (arith, e, l)

  pub place_after_variables : (s t : Sight) (a : A) (ys : List B) (i j : Inside) (first : ℕ) → entering_variables declares s a ≡ Some (t, ys) → sight_view i ≡ s → sight_view j ≡ t →
      first ≡ length i.variables.entries → first ≤ length j.variables.entries
  place_after_variables s t a ys i j first h e d size =
      let w = place_within_variables s t a ys h in
      let p = variables_size i s e in
      let q = variables_size j t d in
      omega (arith, w, p, q, size)

  -- the region stays as it is
  pub counts_after_variables : (c : Counts) (s t : Sight) (a : A) (ys : List B) (i j : Inside) (first : ℕ) → entering_variables declares s a ≡ Some (t, ys) → t ≡ record s { variables = t.variables } →
      sight_view i ≡ s → sight_view j ≡ t → first ≡ length i.variables.entries → AreCounts c (declared_here s) → AreCounts c ((sight_view j).region ++ take first (sight_view j).variables)
  counts_after_variables c s t a ys i j first h kept e d size counts =
      let g = grown_by_variables s t a ys h in
      let all = ap (λ n. take n t.variables) (size ∙ sym (variables_size i s e)) ∙ ap (take (length s.variables)) g.1 ∙ take-append_seam s.variables g.0 in
      subst (λ (x : Sight). AreCounts c (x.region ++ take first x.variables)) (sym d)
      (subst (AreCounts c) (sym (ap (λ (x : Sight). x.region ++ take first t.variables) kept ∙ ap (λ l. s.region ++ l) all)) counts)
