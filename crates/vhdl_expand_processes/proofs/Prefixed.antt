-- The elements of names, one name after another, and how they are numbered.
use Rattle.std.proofs.Common.{◌≡◌, ℕ, zero, suc, ◌+◌, ◌<◌, ◌≤◌, List, [], ◌∷◌, ◌++◌, length, get_or, drop, map, take, Some, Ok, Err, All, refl, sym, ap, ◌∙◌, subst, arith}
use Rattle.std.specs.Prelude.{slice_get}
use Rattle.std.specs.List.Sorted.{IsStrictlyIncreasing}
use Rattle.std.proofs.lemmas.List.{append_assoc, append-nil}
use Rattle.std.proofs.lemmas.List.Elements.{All-weaker, All-map}
use Rattle.std.proofs.lemmas.Option.{same_Some}
use Rattle.rtl_body_facts.specs.Reading.{is_in}
use Rattle.vhdl_names_rules.specs.units.Expressions as u
use Rattle.vhdl_names_rules.specs.units.Expressions.{Signal, Part, SignalPart}
use Rattle.vhdl_names_rules.specs.units.Statements.{Statements}
use Rattle.vhdl_expand_rules.specs.declared.fault.ElabProblem.TheVariants.{Index}
use Rattle.vhdl_expand_rules.specs.Elab.{Told, Elab, ◌>>=◌, each, item_or}
use Rattle.vhdl_expand_rules.specs.Integers.{Integers}
use Rattle.vhdl_expand_rules.specs.Kinds.{ObjectKind, size, places}
use Rattle.vhdl_expand_rules.specs.Site.{Site, elements_count, part_elements, signal_elements, place_elements}
use Rattle.vhdl_expand_rules.specs.Prefixes.{prefix, targets, concatenation_of, prefixes_elements, names_elements, in_order}
use Rattle.vhdl_expand_rules.proofs.Steps.{given, ok, bound, each-all}
use Rattle.vhdl_expand_rules.proofs.Chains.{err_first}
use Rattle.vhdl_expand_rules.proofs.laws.Names.{count-cons, was_found}
use Rattle.vhdl_expand_rules.proofs.laws.Prefixes.{places_below}
use Rattle.vhdl_expand_rules.proofs.laws.Targets.{all_concatenated}
use Rattle.vhdl_expand_rules.proofs.Items.{next_left, none_left}
use Rattle.vhdl_expand_operands.proofs.Several.{behind}
use Rattle.vhdl_expand_processes.specs.Driven.{drives_of}
use Rattle.vhdl_expand_processes.proofs.Rising.{sorted_in_order}

-- ---- one name after another

module _ {A X : Type 0} (f : A → Elab (List ℕ)) (v : X → A) where
  abbrev all : List X → Elab (List ℕ)
  all xs = each f (map v xs) >>= λ es. given (concatenation_of es)

  step : (made more es : List ℕ) (r : Elab (List (List ℕ))) → more ≡ made ++ es
      → behind made ((r >>= λ zs. given (es ∷ zs)) >>= λ ess. given (concatenation_of ess)) ≡ behind more (r >>= λ ess. given (concatenation_of ess))
  step made more es (Ok ess) pushed = ap given (sym (append_assoc made es (concatenation_of ess)) ∙ ap (λ m. m ++ concatenation_of ess) (sym pushed))
  step made more es (Err p) pushed = refl

  goes : (total : Elab (List ℕ)) (made more es : List ℕ) (xs : List X) (i : ℕ) (x : X) → i < length xs → x ≡ get_or xs i x
      → total ≡ behind made (all (drop i xs)) → f (v x) ≡ Ok es → more ≡ made ++ es → total ≡ behind more (all (drop (i + 1) xs))
  goes total made more es xs i x below is so_far h pushed =
      so_far ∙ ap (λ zs. behind made (all zs)) (next_left xs i x below is)
      ∙ ap (λ r. behind made ((r >>= λ y. each f (map v (drop (i + 1) xs)) >>= λ zs. given (y ∷ zs)) >>= λ ess. given (concatenation_of ess))) h
      ∙ step made more es (each f (map v (drop (i + 1) xs))) pushed

  stops : {told : Told} (total : Elab (List ℕ)) (made : List ℕ) (xs : List X) (i : ℕ) (x : X) → i < length xs → x ≡ get_or xs i x
      → total ≡ behind made (all (drop i xs)) → (f (v x)) ≡ Err told → total ≡ Err told
  stops {told} total made xs i x below is so_far h =
      subst (λ (r : Elab (List ℕ)). r ≡ Err told) (sym (so_far ∙ ap (λ zs. behind made (all zs)) (next_left xs i x below is)))
      (err_first (each f (map v (x ∷ drop (i + 1) xs)) >>= λ ess. given (concatenation_of ess)) (λ ys. given (made ++ ys))
      (err_first (each f (map v (x ∷ drop (i + 1) xs))) (λ ess. given (concatenation_of ess)) (err_first (f (v x)) _ h)))

  ends : (total : Elab (List ℕ)) (made : List ℕ) (xs : List X) (i : ℕ) → length xs ≤ i → total ≡ behind made (all (drop i xs)) → total ≡ Ok made
  ends total made xs i h so_far = so_far ∙ ap (λ zs. behind made (all zs)) (none_left xs i h) ∙ ap given (append-nil made)

module _ {X : Type 0} (at : Site) (v : X → SignalPart) where
  pub prefixes_go : (total : Elab (List ℕ)) (made more es : List ℕ) (xs : List X) (i : ℕ) (x : X) → i < length xs → x ≡ get_or xs i x
      → total ≡ behind made (prefixes_elements at (map v (drop i xs))) → place_elements at (prefix (v x)) ≡ Ok es → more ≡ made ++ es
      → total ≡ behind more (prefixes_elements at (map v (drop (i + 1) xs)))
  unfolding prefixes_elements
  prefixes_go total made more es xs i x below is so_far h pushed = goes (λ p. place_elements at (prefix p)) v total made more es xs i x below is so_far h pushed

  pub prefixes_stop : {told : Told} (total : Elab (List ℕ)) (made : List ℕ) (xs : List X) (i : ℕ) (x : X) → i < length xs → x ≡ get_or xs i x
      → total ≡ behind made (prefixes_elements at (map v (drop i xs))) → (place_elements at (prefix (v x))) ≡ Err told → total ≡ Err told
  unfolding prefixes_elements
  prefixes_stop total made xs i x below is so_far h = stops (λ p. place_elements at (prefix p)) v total made xs i x below is so_far h

  pub prefixes_end : (total : Elab (List ℕ)) (made : List ℕ) (xs : List X) (i : ℕ) → length xs ≤ i → total ≡ behind made (prefixes_elements at (map v (drop i xs))) → total ≡ Ok made
  unfolding prefixes_elements
  prefixes_end total made xs i h so_far = ends (λ p. place_elements at (prefix p)) v total made xs i h so_far

  pub names_go : (total : Elab (List ℕ)) (made more es : List ℕ) (xs : List X) (i : ℕ) (x : X) → i < length xs → x ≡ get_or xs i x
      → total ≡ behind made (names_elements at (map v (drop i xs))) → place_elements at (v x) ≡ Ok es → more ≡ made ++ es
      → total ≡ behind more (names_elements at (map v (drop (i + 1) xs)))
  unfolding names_elements
  names_go total made more es xs i x below is so_far h pushed = goes (place_elements at) v total made more es xs i x below is so_far h pushed

  pub names_stop : {told : Told} (total : Elab (List ℕ)) (made : List ℕ) (xs : List X) (i : ℕ) (x : X) → i < length xs → x ≡ get_or xs i x
      → total ≡ behind made (names_elements at (map v (drop i xs))) → (place_elements at (v x)) ≡ Err told → total ≡ Err told
  unfolding names_elements
  names_stop total made xs i x below is so_far h = stops (place_elements at) v total made xs i x below is so_far h

  pub names_end : (total : Elab (List ℕ)) (made : List ℕ) (xs : List X) (i : ℕ) → length xs ≤ i → total ≡ behind made (names_elements at (map v (drop i xs))) → total ≡ Ok made
  unfolding names_elements
  names_end total made xs i h so_far = ends (place_elements at) v total made xs i h so_far

-- ---- each element is among those of the instance

within : (kinds : List ObjectKind) (k : ℕ) (kind : ObjectKind) (p : ℕ) → slice_get kinds k ≡ Some kind → p < size kind → elements_count (take k kinds) + p < elements_count kinds
within [] k kind p h l = absurd cc
within (q ∷ kinds) zero kind p h l =
    let same : q ≡ kind = same_Some q kind h in
    let m : p < size q = subst (λ (x : ObjectKind). p < size x) (sym same) l in
    let all : elements_count (q ∷ kinds) ≡ size q + elements_count kinds = count-cons q kinds in
    omega (arith, m, all)
within (q ∷ kinds) (suc k) kind p h l =
    let m : elements_count (take k kinds) + p < elements_count kinds = within kinds k kind p h l in
    let first : elements_count (q ∷ take k kinds) ≡ size q + elements_count (take k kinds) = count-cons q (take k kinds) in
    let all : elements_count (q ∷ kinds) ≡ size q + elements_count kinds = count-cons q kinds in
    omega (arith, m, first, all)

part-all : (P : ℕ → Type 0) (here : Integers) (at from : ℕ) (kinds : List ObjectKind) (n : ℕ) (part : Part) (es : List ℕ) → part_elements here at from kinds n part ≡ Ok es
    → ((p : ℕ) → p < elements_count kinds → P (from + p)) → All P es
part-all P here at from kinds n part es h go =
    let kind = bound (item_or Index at (slice_get kinds n)) _ es h in
    let ps = bound (places here at kind.x part) _ es kind.then_gave in
    let c : ℕ = elements_count (take n kinds) in
    let there : slice_get kinds n ≡ Some kind.x = was_found Index at (slice_get kinds n) kind.x kind.gave in
    subst (All P) (ok (map (λ p. from + c + p) ps.x) es ps.then_gave)
    (All-map P (λ p. from + c + p) ps.x (All-weaker (λ p. p < size kind.x) (λ p. P (from + c + p))
    (λ p l. subst P (plus-assoc from c p) (go (c + p) (within kinds n kind.x p there l))) ps.x (places_below here at kind.x part ps.x ps.gave)))
  where
    plus-assoc : (a b c : ℕ) → a + (b + c) ≡ a + b + c
    plus-assoc a b c = omega arith

abbrev count : Site → ℕ
count at = elements_count at.ports + elements_count at.signals

signal-below : (here : Site) (at : ℕ) (x : Signal) (part : Part) (es : List ℕ) → signal_elements here at x part ≡ Ok es → All (λ e. e < count here) es
unfolding signal_elements
signal-below here at (u.port k) part es h = part-all (λ e. e < count here) here.integers at 0 here.ports k part es h (λ p l. omega (arith, l))
signal-below here at (u.Signal.signal k) part es h = part-all (λ e. e < count here) here.integers at (elements_count here.ports) here.signals k part es h (λ p l. omega (arith, l))

pub prefixes_below : (at : Site) (ps : List SignalPart) (ds : List ℕ) → prefixes_elements at ps ≡ Ok ds → All (λ e. e < count at) ds
unfolding prefixes_elements
prefixes_below at ps ds h =
    let ess = bound (each (λ p. place_elements at (prefix p)) ps) _ ds h in
    subst (All (λ e. e < count at)) (ok (concatenation_of ess.x) ds ess.then_gave)
    (all_concatenated (λ e. e < count at) ess.x
    (each-all (All (λ e. e < count at)) (λ p. place_elements at (prefix p)) ps ess.x (λ p es g. signal-below at (prefix p).at (prefix p).signal (prefix p).part es g) ess.gave))

pub drives_given : (at : Site) (body : Statements) (ds sorted : List ℕ) → prefixes_elements at (targets body) ≡ Ok ds → IsStrictlyIncreasing sorted
    → ((n : ℕ) → is_in n sorted ≡ is_in n ds) → drives_of at body ≡ Ok sorted
drives_given at body ds sorted h rise same =
    ap (λ r. r >>= λ es. given (in_order (count at) es)) h
    ∙ ap given (sorted_in_order (count at) ds sorted (prefixes_below at (targets body) ds h) rise same)
