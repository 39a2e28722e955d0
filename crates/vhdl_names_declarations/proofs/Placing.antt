-- Ports whose names were hidden in their list get what they mean, one declaration after another.
use Rattle.std.proofs.Common.{◌≡◌, ℕ, ◌+◌, ◌≤◌, List, [], ◌∷◌, ◌++◌, length, take, drop, refl, sym, ap, subst, ◌∙◌, append_assoc, arith}
use Rattle.std.proofs.Math.Seq.{take-append_seam, drop-append_seam}
use Rattle.std.proofs.lemmas.List.{length-map, length-append}
use Rattle.vhdl_names_rules.specs.Visibility as visibility
use Rattle.vhdl_names_rules.specs.Visibility.{Declared, count_of}
use Rattle.vhdl_names_rules.specs.Interfaces.{declared_names}
use Rattle.vhdl_names_declarations.specs.declared.counts.Counts.{Counts}
use Rattle.vhdl_names_declarations.specs.declared.region.Settled.{Settled}
use Rattle.vhdl_names_declarations.specs.Counts.{AreCounts, next_of}
use Rattle.vhdl_names_declarations.specs.Porting.{settled_view}
use Rattle.vhdl_names_declarations.specs.Settled.{class_view, settled_between}
use Rattle.vhdl_names_declarations.proofs.Hiding.{Group, standing_of, hidden_names, hidden_all, stood, stood_size}
use Rattle.vhdl_names_declarations.proofs.Regions.{names-all}
use Rattle.vhdl_names_declarations.proofs.Settling.{standing_names}
use Rattle.vhdl_names_declarations.proofs.Turns.{number_is, stand_from}

hidden_size : (g : Group) → length (hidden_names g) ≡ length g.names
hidden_size g = length-map g.names (λ n. visibility.declare n visibility.unfinished)

-- ---- the places behind the names of each

-- from this place on
abbrev pub AreOf : ℕ → List (Settled × ℕ) → List Group → Type 0
AreOf at [] [] = Unit {0}
AreOf at (h ∷ hs) (g ∷ gs) = (settled_view h.0 ≡ standing_of g) × (h.1 ≡ at + length g.names) × AreOf h.1 hs gs
AreOf at _ _ = ⊥

pub one_behind : (at : ℕ) (hs : List (Settled × ℕ)) (gs : List Group) (h : Settled × ℕ) (g : Group) → AreOf at hs gs → settled_view h.0 ≡ standing_of g →
    h.1 ≡ (at + length (hidden_all gs)) + length g.names → AreOf at (hs ++ h ∷ []) (gs ++ g ∷ [])
one_behind at [] [] h g are st is = (st, omega (arith, is), tt)
one_behind at [] (y ∷ gs) h g are st is = absurd are
one_behind at (x ∷ hs) [] h g are st is = absurd are
one_behind at (x ∷ hs) (y ∷ gs) h g are st is =
    let both = length-append (hidden_names y) (hidden_all gs) in
    let size = hidden_size y in
    let here = are.1 in
    (are.0, are.1, one_behind x.1 hs gs h g are.2 st (omega (arith, is, both, size, here)))

pub record First (at : ℕ) (h : Settled × ℕ) (hs : List (Settled × ℕ)) (gs : List Group) : Type 0 where
  pub group : Group
  pub rest : List Group
  pub are : gs ≡ group ∷ rest
  pub standing : settled_view h.0 ≡ standing_of group
  pub place : h.1 ≡ at + length group.names
  pub behind : AreOf h.1 hs rest

pub first_of_them : (at : ℕ) (h : Settled × ℕ) (hs : List (Settled × ℕ)) (gs : List Group) → AreOf at (h ∷ hs) gs → First at h hs gs
first_of_them at h hs [] are = absurd are
first_of_them at h hs (g ∷ gs) are = record { group = g; rest = gs; are = refl; standing = are.0; place = are.1; behind = are.2 }

pub none_left : (at : ℕ) (gs : List Group) → AreOf at [] gs → gs ≡ []
none_left at [] are = refl
none_left at (g ∷ gs) are = absurd are

-- ---- one declaration gets what it means

-- these declarations stand, and the names of groups behind them are hidden
module _ (ds : List Declared) (g : Group) (gs : List Group) (x : Settled) (c : Counts) (first last : ℕ) (size : first ≡ length ds) (place : last ≡ first + length g.names)
    (standing : settled_view x ≡ standing_of g) (counts : AreCounts c ds) where
  names_are : standing_names (class_view x.class) x.direction x.is_global (next_of c x.class) c.ranges g.names ≡ stood ds g
  names_are =
      ap (λ n. standing_names (class_view x.class) x.direction x.is_global n c.ranges g.names) (number_is c x.class)
      ∙ ap (λ st. stand_from c st g.names) standing
      ∙ ap (λ n. standing_names (λ k. visibility.port k g.mode g.type) g.direction g.is_global n c.ranges g.names) counts.ports
      ∙ ap (λ r. standing_names (λ k. visibility.port k g.mode g.type) g.direction g.is_global (count_of visibility.is_port ds) r g.names) counts.ranges

  abbrev by : (region : List Declared) (a b : ℕ) → List Declared
  by region a b = take a region ++ (standing_names (class_view x.class) x.direction x.is_global (next_of c x.class) c.ranges (declared_names (drop a (take b region))) ++ drop b region)

  seam : length (ds ++ hidden_names g) ≡ last
  seam =
      let both = length-append ds (hidden_names g) in
      let names = hidden_size g in
      omega (arith, both, names, size, place)

  stands_behind : settled_between x c first last (ds ++ (hidden_names g ++ hidden_all gs)) ≡ (ds ++ stood ds g) ++ hidden_all gs
  stands_behind =
      ap (λ a. by (ds ++ (hidden_names g ++ hidden_all gs)) a last) size
      ∙ ap (λ l. l ++ (standing_names (class_view x.class) x.direction x.is_global (next_of c x.class) c.ranges (declared_names (drop (length ds) (take last (ds ++ (hidden_names g ++ hidden_all gs))))) ++ drop last (ds ++ (hidden_names g ++ hidden_all gs))))
      (take-append_seam ds (hidden_names g ++ hidden_all gs))
      ∙ ap (λ r. ds ++ (standing_names (class_view x.class) x.direction x.is_global (next_of c x.class) c.ranges (declared_names (drop (length ds) (take last r))) ++ drop last r)) (sym (append_assoc ds (hidden_names g) (hidden_all gs)))
      ∙ ap (λ b. ds ++ (standing_names (class_view x.class) x.direction x.is_global (next_of c x.class) c.ranges (declared_names (drop (length ds) (take b ((ds ++ hidden_names g) ++ hidden_all gs)))) ++ drop b ((ds ++ hidden_names g) ++ hidden_all gs))) (sym seam)
      ∙ ap (λ r. ds ++ (standing_names (class_view x.class) x.direction x.is_global (next_of c x.class) c.ranges (declared_names (drop (length ds) r)) ++ drop (length (ds ++ hidden_names g)) ((ds ++ hidden_names g) ++ hidden_all gs)))
      (take-append_seam (ds ++ hidden_names g) (hidden_all gs))
      ∙ ap (λ r. ds ++ (standing_names (class_view x.class) x.direction x.is_global (next_of c x.class) c.ranges (declared_names (drop (length ds) (ds ++ hidden_names g))) ++ r))
      (drop-append_seam (ds ++ hidden_names g) (hidden_all gs))
      ∙ ap (λ r. ds ++ (standing_names (class_view x.class) x.direction x.is_global (next_of c x.class) c.ranges (declared_names r) ++ hidden_all gs)) (drop-append_seam ds (hidden_names g))
      ∙ ap (λ ns. ds ++ (standing_names (class_view x.class) x.direction x.is_global (next_of c x.class) c.ranges ns ++ hidden_all gs)) (names-all visibility.unfinished g.names)
      ∙ ap (λ l. ds ++ (l ++ hidden_all gs)) names_are
      ∙ sym (append_assoc ds (stood ds g) (hidden_all gs))

  place_behind : last ≡ length (ds ++ stood ds g)
  place_behind =
      let both = length-append ds (stood ds g) in
      let names = stood_size ds g in
      omega (arith, both, names, size, place)

  -- what the code asks of its places
  pub place_inside : last ≤ length (ds ++ (hidden_names g ++ hidden_all gs))
  place_inside =
      let all = length-append ds (hidden_names g ++ hidden_all gs) in
      let both = length-append (hidden_names g) (hidden_all gs) in
      let names = hidden_size g in
      omega (arith, all, both, names, size, place)

-- what stands once the names of one more group do, and the place behind them
pub record Stand (ds : List Declared) (g : Group) (gs : List Group) (last : ℕ) (region : List Declared) : Type 0 where
  pub is : region ≡ (ds ++ stood ds g) ++ hidden_all gs
  pub place : last ≡ length (ds ++ stood ds g)
  pub within : last ≤ length region

pub stand : (ds : List Declared) (gs : List Group) (h : Settled × ℕ) (hs : List (Settled × ℕ)) (c : Counts) (first : ℕ) (t : First first h hs gs) (old new : List Declared) → first ≡ length ds → AreCounts c ds →
    old ≡ ds ++ hidden_all gs → new ≡ settled_between h.0 c first h.1 old → Stand ds t.group t.rest h.1 new
stand ds gs h hs c first t old new size counts was settles =
    let is = settles ∙ ap (settled_between h.0 c first h.1) (was ∙ ap (λ gs. ds ++ hidden_all gs) t.are) ∙ stands_behind ds t.group t.rest h.0 c first h.1 size t.place t.standing counts in
    let place = place_behind ds t.group t.rest h.0 c first h.1 size t.place t.standing counts in
    let both = length-append (ds ++ stood ds t.group) (hidden_all t.rest) in
    let all = ap length is in
    record { is = is; place = place; within = omega (arith, place, both, all) }

pub counts_up_to : (c : Counts) (ds es : List Declared) (n : ℕ) → n ≡ length ds → AreCounts c (take n (ds ++ es)) → AreCounts c ds
counts_up_to c ds es n size h = subst (AreCounts c) (ap (λ k. take k (ds ++ es)) size ∙ take-append_seam ds es) h

pub counts_before : (c : Counts) (ds es : List Declared) (n : ℕ) → n ≡ length ds → AreCounts c ds → AreCounts c (take n (ds ++ es))
counts_before c ds es n size h = subst (AreCounts c) (sym (ap (λ k. take k (ds ++ es)) size ∙ take-append_seam ds es)) h
