-- What is refused of the choices of a case on an integer is told where the case or a choice starts, or at one of their bytes.
use Rattle.std.proofs.Common.{◌≡◌, ℕ, not, ◌||◌, ◌==◌, List, [], ◌∷◌, ◌++◌, length, map, Ok, All, subst}
use Rattle.std.specs.Prelude.{flat_map, nat_le}
use Rattle.std.specs.List.{list_any, list_all}
use Rattle.std.proofs.lemmas.List.Elements.{All-cons, All-nil, All-head, All-tail, All-append}
use Rattle.vhdl_tree.specs.declared.operator.Direction.TheVariants.{To}
use Rattle.vhdl_names_rules.specs.units.Expressions as u
use Rattle.vhdl_names_rules.specs.units.Expressions.{index_start}
use Rattle.vhdl_names_rules.specs.units.Statements as s
use Rattle.vhdl_names_rules.specs.units.Bytes.{static_bytes, range_bytes, index_bytes, choice_bytes, statements_bytes, alternatives_bytes}
use Rattle.vhdl_expand_rules.specs.declared.fault.ElabProblem.TheVariants.{GenericRange, Length, Index, StaticError, TooMany}
use Rattle.vhdl_expand_rules.specs.Elab.{Told, unless, each, same_length}
use Rattle.vhdl_expand_rules.specs.Integers as integers
use Rattle.vhdl_expand_rules.specs.Integers.{Integers, extent, most_turns}
use Rattle.vhdl_expand_rules.specs.Computed.{Span, Number, covers}
use Rattle.vhdl_expand_rules.specs.Statements.{choice, spread_choices, last_choices, index_range, range_spans, starting, choice_spans, choices_spans, overlap, are_apart, numbers_count, has_others, are_complete, choices_serve, spread}
use Rattle.vhdl_expand_rules.proofs.Steps.{ok, bound}
use Rattle.vhdl_expand_rules.proofs.Tells.{Tells, At, tells_none, tells_refused, tells_then, tells_with, tells_unless, tells_within, tells_each, tells_all, all_flat}
use Rattle.vhdl_expand_rules.proofs.laws.Targets.{all_left, all_right, each_with}
use Rattle.vhdl_expand_rules.proofs.laws.told.Aggregates.{computed_range_tells, index_stands}
use Rattle.vhdl_expand_rules.proofs.laws.told.Static.{integer_tells}
use Rattle.vhdl_expand_rules.proofs.laws.told.Expressions.{length_tells}

module _ (P : Told → Type 0) where
  abbrev pub ChoiceStands : s.Choice → Type 0
  ChoiceStands c = All (At P) (choice_bytes c)

  -- ---- of any case

  choice-tells : (at len : ℕ) (c : s.Choice) → At P at → Tells P (choice at len c)
  unfolding choice
  choice-tells at len (s.values vs) h = tells_then P (same_length at (length vs) len) _ (length_tells P at (length vs) len h) (λ same. tells_none P _)
  choice-tells at len (s.Choice.position n) h = tells_none P _
  choice-tells at len (s.numbers i) h = tells_refused P (Length 1 len) tt at h

  pub choices_tell : (at len : ℕ) (cs : List s.Choice) → At P at → Tells P (each (choice at len) cs)
  choices_tell at len cs h = tells_all P (choice at len) cs (λ c. choice-tells at len c h)

  -- ---- of one on an integer: each choice stands where it starts

  abbrev Placed : ℕ × Span → Type 0
  Placed y = At P y.0

  index-tells : (here : Integers) (i : u.Index) → All (At P) (index_bytes i) → Tells P (index_range here i)
  index-tells here (u.index at t) k =
      tells_then P (integers.integer here at t) _ (integer_tells P here at t (All-head (At P) at (static_bytes t) k) (All-tail (At P) at (static_bytes t) k)) (λ n. tells_none P _)
  index-tells here (u.indexes at r) k = computed_range_tells P here at r (All-head (At P) at (range_bytes r) k) (All-tail (At P) at (range_bytes r) k)

  spans-tell : (here : Integers) (among : Span) (c : s.Choice) → ChoiceStands c → Tells P (choice_spans here among c)
  spans-tell here among (s.numbers i) k =
      tells_then P (index_range here i) _ (index-tells here i k) (λ r.
      tells_then P (unless GenericRange (index_start i) (list_all (covers among) (range_spans r))) _
      (tells_unless P GenericRange tt (index_start i) (list_all (covers among) (range_spans r)) (index_stands P i k)) (λ inside. tells_none P _))
  spans-tell here among (s.values vs) k = tells_none P _
  spans-tell here among (s.Choice.position n) k = tells_none P _

  all-spans-tell : (here : Integers) (among : Span) (cs : List s.Choice) → All ChoiceStands cs → Tells P (choices_spans here among cs)
  all-spans-tell here among cs k =
      tells_then P (each (choice_spans here among) cs) _ (tells_each P ChoiceStands (choice_spans here among) cs (λ c h. spans-tell here among c h) k) (λ ss. tells_none P _)

  starts-placed : (at : ℕ) (ys : List Span) → At P at → All Placed (map (starting at) ys)
  starts-placed at [] h = All-nil Placed
  starts-placed at (y ∷ ys) h = All-cons Placed (at, y) (map (starting at) ys) h (starts-placed at ys h)

  spans-placed : (here : Integers) (among : Span) (c : s.Choice) (ss : List (ℕ × Span)) → ChoiceStands c → choice_spans here among c ≡ Ok ss → All Placed ss
  spans-placed here among (s.numbers i) ss k e =
      let r = bound (index_range here i) _ ss e in
      let inside = bound (unless GenericRange (index_start i) (list_all (covers among) (range_spans r.x))) _ ss r.then_gave in
      subst (All Placed) (ok (map (starting (index_start i)) (range_spans r.x)) ss inside.then_gave) (starts-placed (index_start i) (range_spans r.x) (index_stands P i k))
  spans-placed here among (s.values vs) ss k e = subst (All Placed) (ok [] ss e) (All-nil Placed)
  spans-placed here among (s.Choice.position n) ss k e = subst (All Placed) (ok [] ss e) (All-nil Placed)

  flat-placed : (sss : List (List (ℕ × Span))) → All (All Placed) sss → All Placed (flat_map (λ xs. xs) sss)
  flat-placed [] h = All-nil Placed
  flat-placed (ss ∷ sss) h = All-append Placed ss (flat_map (λ xs. xs) sss) (All-head (All Placed) ss sss h) (flat-placed sss (All-tail (All Placed) ss sss h))

  all-placed : (here : Integers) (among : Span) (cs : List s.Choice) (ss : List (ℕ × Span)) → All ChoiceStands cs → choices_spans here among cs ≡ Ok ss → All Placed ss
  all-placed here among cs ss k e =
      let sss = bound (each (choice_spans here among) cs) _ ss e in
      subst (All Placed) (ok (flat_map (λ xs. xs) sss.x) ss sss.then_gave)
      (flat-placed sss.x (each_with ChoiceStands (All Placed) (choice_spans here among) cs sss.x (λ c ys h g. spans-placed here among c ys h g) k sss.gave))

  apart-tell : (before : List Span) (ys : List (ℕ × Span)) → All Placed ys → Tells P (are_apart before ys)
  apart-tell before [] h = tells_none P tt
  apart-tell before ((at, y) ∷ rest) h =
      tells_then P (unless Index at (not (list_any (overlap y) before))) _ (tells_unless P Index tt at (not (list_any (overlap y) before)) (All-head Placed (at, y) rest h)) (λ apart.
      apart-tell (before ++ y ∷ []) rest (All-tail Placed (at, y) rest h))

  -- ---- the choices of all alternatives

  spread-stand : (alts : s.Alternatives) → All (At P) (alternatives_bytes alts) → All ChoiceStands (spread_choices alts)
  spread-stand (s.others ys) k = All-nil ChoiceStands
  spread-stand (s.complete cs ys) k = All-nil ChoiceStands
  spread-stand (s.alternative cs ys alts) k =
      let own : List ℕ = flat_map choice_bytes cs in
      let rest : All (At P) (statements_bytes ys ++ alternatives_bytes alts) = all_right (At P) own (statements_bytes ys ++ alternatives_bytes alts) k in
      All-append ChoiceStands cs (spread_choices alts) (all_flat (At P) choice_bytes cs (all_left (At P) own (statements_bytes ys ++ alternatives_bytes alts) k))
      (spread-stand alts (all_right (At P) (statements_bytes ys) (alternatives_bytes alts) rest))

  last-stand : (alts : s.Alternatives) → All (At P) (alternatives_bytes alts) → All ChoiceStands (last_choices alts)
  last-stand (s.others ys) k = All-nil ChoiceStands
  last-stand (s.complete cs ys) k = all_flat (At P) choice_bytes cs (all_left (At P) (flat_map choice_bytes cs) (statements_bytes ys) k)
  last-stand (s.alternative cs ys alts) k =
      last-stand alts (all_right (At P) (statements_bytes ys) (alternatives_bytes alts) (all_right (At P) (flat_map choice_bytes cs) (statements_bytes ys ++ alternatives_bytes alts) k))

  pub serve_tells : (here : Integers) (at : ℕ) (among : Span) (n : Number) (alts : s.Alternatives) → P (TooMany, at) → At P at → All (At P) (alternatives_bytes alts) → Tells P (choices_serve here at among n alts)
  serve_tells here at among n alts many own k =
      let front = spread-stand alts k in
      let last = last-stand alts k in
      tells_with P (choices_spans here among (spread_choices alts)) _ (all-spans-tell here among (spread_choices alts) front) (λ ss e.
      tells_with P (choices_spans here among (last_choices alts)) _ (all-spans-tell here among (last_choices alts) last) (λ ts f.
      tells_then P (are_apart [] (ss ++ ts)) _
      (apart-tell [] (ss ++ ts) (All-append Placed ss ts (all-placed here among (spread_choices alts) ss front e) (all-placed here among (last_choices alts) ts last f))) (λ apart.
      tells_then P (are_complete at n.span alts (ss ++ ts)) _
      (tells_unless P StaticError tt at (has_others alts || numbers_count n.span (ss ++ ts) == extent To n.span.least n.span.greatest) own) (λ complete.
      tells_within P at (nat_le (numbers_count n.span ss) most_turns) many))))

  pub spread_tells : (here : Integers) (among : Span) (n : Number) (cs : List s.Choice) → All ChoiceStands cs → Tells P (spread here among n cs)
  spread_tells here among n cs k = tells_then P (choices_spans here among cs) _ (all-spans-tell here among cs k) (λ ss. tells_none P _)
