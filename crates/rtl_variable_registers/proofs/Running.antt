-- Runs of a register's body, and of the one that keeps its variables by nets.
use Rattle.std.proofs.Common.{◌≡◌, ℕ, ◌<◌, ◌≤◌, Bool, true, false, cond, not, ◌&&◌, List, [], ◌∷◌, ◌++◌, Option, unwrap_or, length, map, slice_index, slice_index_or}
use Rattle.std.proofs.lemmas.List.{append-nil}
use Rattle.std.proofs.Common.{refl, sym, ap, ◌∙◌, subst, arith, ◌⊎◌, inl, inr, Contains}
use Rattle.std.proofs.lemmas.Bool.{or_cases, and_parts, eqb-true}
use Rattle.std.proofs.lemmas.List.Elements.{Contains-append_left, Contains-append_right, Contains-append_cases}
use Rattle.std.proofs.lemmas.Option.{slice_get_within}
use Rattle.vhdl_values.specs.Edges.{has_edge}
use Rattle.vhdl_values.specs.Scalar.{value_of_code, is_same}
use Rattle.rtl_model.specs.basics.Valuations.{AgreeOn, or_else}
use Rattle.rtl_model.specs.bodies.Assigns.{is_element, stmt_must_assign, must_assign}
use Rattle.rtl_model.specs.bodies.Body.{Test, assign, if_of, Stmts, done, step, Branches, no_else, branch, followed_by}
use Rattle.rtl_model.specs.bodies.Effect.{no_entries, effect, branches_effect, entries_if}
use Rattle.rtl_model.specs.bodies.Fits.{Scope, IsWidth, Fits}
use Rattle.rtl_model.specs.bodies.Laws.{IsRead, SeesTypes}
use Rattle.rtl_model.specs.bodies.Looks.{Sight, net_now, net_before, element_kept, seen_at}
use Rattle.rtl_model.specs.bodies.Reads.{reads, events, test_reads, test_events}
use Rattle.rtl_model.specs.bodies.Stored.{stores_element, value_looks_at}
use Rattle.rtl_model.specs.bodies.Tests.{is_met}
use Rattle.rtl_model.specs.bodies.Types.{ElementType, nine_valued, enumeration, limit_of, HasType}
use Rattle.rtl_model.specs.bodies.Values.{Seen}
use Rattle.rtl_model.specs.bodies.Variables.{variables_after, after, after_stmt, branches_variables}
use Rattle.rtl_model.proofs.basics.Lists.{Contains-none, Contains-first, in_contains}
use Rattle.rtl_model.proofs.bodies.EdgeTests.{edge_meets, edge_test_event}
use Rattle.rtl_model.proofs.bodies.Looking.{as_many_after}
use Rattle.rtl_model.proofs.bodies.LooksRead.{looks_at_reads}
use Rattle.rtl_model.proofs.bodies.Ranges.{entries_keep_types}
use Rattle.rtl_model.proofs.bodies.Sequences.{or_else-none, later_replaces, sequences_add_up}
use Rattle.rtl_variable_registers.specs.Bodies.{KeptVariable, variable_value, recalled, remembered, at_edge}
use Rattle.rtl_variable_registers.specs.Known.{with_constants}
use Rattle.rtl_variable_registers.proofs.Known.{are_constants, made_constants, assigns_same, DoesSame, constants_run}
use Rattle.rtl_variable_registers.proofs.Recalling.{all_elements, AreHeld, length-recalled, recalled_gives, recalled_drives_none, remembered_drives_none, remembered_gives}
use Rattle.rtl_variable_registers.proofs.Resetting.{told, unwrapped, same_entries, kept_entries, AreBelow}
use Rattle.rtl_variable_registers.proofs.Shapes.{AtEdge, ByReset, edge_test_reads}
use Rattle.rtl_variable_registers.proofs.Values.{FitTogether, Agree, on_both}

-- ---- variables that are kept, each of its type

pub record IsTyped (types : List ElementType) (v : KeptVariable) : Type 0 where
  pub width : IsWidth (length v.elements)
  pub fit : FitTogether v.type_of v.elements
  pub has : (e : ℕ) → Contains v.elements e → HasType types v.type_of e

abbrev pub AreTyped : List ElementType → List KeptVariable → Type 0
AreTyped types [] = Unit {0}
AreTyped types (v ∷ vs) = IsTyped types v × AreTyped types vs

held_if_typed : (types : List ElementType) (values : ℕ → ℕ) (vs : List KeptVariable) → AreTyped types vs
    → ((e : ℕ) (t : ElementType) → Contains (all_elements vs) e → HasType types t e → values e < limit_of t) → AreHeld values vs
held_if_typed types values [] h k = tt
held_if_typed types values (v ∷ vs) h k = (
  record { fit = h.0.fit; below = λ e c. k e v.type_of (Contains-append_left v.elements (all_elements vs) e c) (h.0.has e c) },
  held_if_typed types values vs h.1 (λ e t c. k e t (Contains-append_right v.elements (all_elements vs) e c)),
)

pub typed_within : (types : List ElementType) (vs : List KeptVariable) → AreTyped types vs → (e : ℕ) → Contains (all_elements vs) e → e < length types
typed_within types [] h e c = absurd (Contains-none e c)
typed_within types (v ∷ vs) h e c = go (λ d. typed_within types vs h.1 e d) (Contains-append_cases v.elements (all_elements vs) e c)
  where
    go : (Contains (all_elements vs) e → e < length types) → Contains v.elements e ⊎ Contains (all_elements vs) e → e < length types
    go rest (inl d) = slice_get_within types e v.type_of (h.0.has e d)
    go rest (inr d) = rest d

-- ---- `remembered` reads the elements alone

remembered_reads : (net place : ℕ → ℕ) (vs : List KeptVariable) → reads (remembered net place vs) ≡ []
remembered_reads net place [] = refl
remembered_reads net place (v ∷ vs) = go v.type_of (remembered_reads net place vs)
  where
    go : (t : ElementType) → reads (remembered net place vs) ≡ [] → reads (step (assign (map place v.elements) (variable_value t v.elements)) (remembered net place vs)) ≡ []
    go nine_valued h = h
    go (enumeration n) h = h

pub remembered_events : (net place : ℕ → ℕ) (vs : List KeptVariable) → events (remembered net place vs) ≡ []
remembered_events net place [] = refl
remembered_events net place (v ∷ vs) = remembered_events net place vs

looks_at_own : (t : ElementType) (es : List ℕ) → FitTogether t es → (e : ℕ) → value_looks_at e (variable_value t es) ≡ true → Contains es e
looks_at_own nine_valued es fit e h = in_contains es e h
looks_at_own (enumeration n) es fit e h = (0, (let l = fit.one n refl in omega arith), (let s = eqb-true (slice_index es 0) e h in first es (fit.one n refl) s))
  where
    first : (es : List ℕ) → length es ≡ 1 → slice_index es 0 ≡ e → slice_index_or es 0 e ≡ e
    first [] l s = absurd (omega arith)
    first (d ∷ ds) l s = s

pub remembered_stores : (net place : ℕ → ℕ) (types : List ElementType) (vs : List KeptVariable) → AreTyped types vs → (e : ℕ) → stores_element e (remembered net place vs) ≡ true → Contains (all_elements vs) e
remembered_stores net place types [] h e k = absurd cc
remembered_stores net place types (v ∷ vs) h e k =
    go (λ i. remembered_stores net place types vs h.1 e i)
    (or_cases (value_looks_at e (variable_value v.type_of v.elements)) (not (stmt_must_assign (is_element e) (assign (map place v.elements) (variable_value v.type_of v.elements))) && stores_element e (remembered net place vs)) k)
  where
    go : (stores_element e (remembered net place vs) ≡ true → Contains (all_elements vs) e)
        → (value_looks_at e (variable_value v.type_of v.elements) ≡ true) ⊎ (not (stmt_must_assign (is_element e) (assign (map place v.elements) (variable_value v.type_of v.elements))) && stores_element e (remembered net place vs) ≡ true)
        → Contains (all_elements (v ∷ vs)) e
    go rest (inl i) = Contains-append_left v.elements (all_elements vs) e (looks_at_own v.type_of v.elements h.0.fit e i)
    go rest (inr i) =
        Contains-append_right v.elements (all_elements vs) e
        (rest (and_parts (not (stmt_must_assign (is_element e) (assign (map place v.elements) (variable_value v.type_of v.elements)))) (stores_element e (remembered net place vs)) i).1)

-- ---- two runs

pub agree_left : (xs ys v w : List ℕ) → AgreeOn (xs ++ ys) v w → AgreeOn xs v w
agree_left xs ys v w h n c = h n (Contains-append_left xs ys n c)

pub agree_right : (xs ys v w : List ℕ) → AgreeOn (xs ++ ys) v w → AgreeOn ys v w
agree_right xs ys v w h n c = h n (Contains-append_right xs ys n c)

agree_more : (xs ys v w : List ℕ) → ys ≡ [] → AgreeOn xs v w → AgreeOn (xs ++ ys) v w
agree_more xs ys v w e h = subst (λ (zs : List ℕ). AgreeOn (xs ++ zs) v w) (sym e) (subst (λ (zs : List ℕ). AgreeOn zs v w) (sym (append-nil xs)) h)

-- the kept variables with the nets and places of their elements, and two runs: one sees the variables, the other their
-- nets
pub record Runs (scope : Scope) (net place : ℕ → ℕ) (vs : List KeptVariable) (left other : Seen) : Type 0 where
  pub typed : AreTyped scope.variables vs
  pub above : (e : ℕ) → Contains (all_elements vs) e → length scope.targets ≤ place e
  pub apart : (d e : ℕ) → Contains (all_elements vs) d → Contains (all_elements vs) e → place d ≡ place e → d ≡ e
  pub sees : SeesTypes scope left
  pub as_many : length left.variables ≡ length scope.variables
  pub other_many : length other.variables ≡ length scope.variables
  pub held : (e : ℕ) → Contains (all_elements vs) e → slice_index other.now (net e) ≡ slice_index left.variables e

module _ (scope : Scope) (net place : ℕ → ℕ) (vs : List KeptVariable) (left other : Seen) (runs : Runs scope net place vs left other) where
  abbrev IsKept : ℕ → Type 0
  IsKept e = Contains (all_elements vs) e

  -- what `new` does in the other run, and `old` in the first
  pub record BodiesAlike (new old : Stmts) : Type 0 where
    pub entries : (q : ℕ) → q < length scope.targets → effect other new q ≡ effect left old q
    pub kept : (e : ℕ) → IsKept e → unwrap_or (effect other new (place e)) (slice_index left.variables e) ≡ slice_index (variables_after left old) e

  pub record BranchesAlike (new old : Branches) : Type 0 where
    entries : (q : ℕ) → q < length scope.targets → branches_effect other new q ≡ branches_effect left old q
    kept : (e : ℕ) → IsKept e → unwrap_or (branches_effect other new (place e)) (slice_index left.variables e) ≡ slice_index (branches_variables left old) e

  -- ---- ifs

  pub none_alike : BranchesAlike no_else no_else
  none_alike = record { entries = λ q l. refl; kept = λ e i. refl }

  pub branch_alike : (t : Test) (new old : Stmts) (news olds : Branches) → is_met other t ≡ is_met left t → BodiesAlike new old → BranchesAlike news olds
      → BranchesAlike (branch t new news) (branch t old olds)
  branch_alike t new old news olds m h k = record { entries = λ q l. entered q l (is_met other t) (is_met left t) m; kept = λ e i. given e i (is_met other t) (is_met left t) m }
    where
      entered : (q : ℕ) → q < length scope.targets → (b c : Bool) → b ≡ c
          → entries_if b (effect other new) (branches_effect other news) q ≡ entries_if c (effect left old) (branches_effect left olds) q
      entered q l true true e = h.entries q l
      entered q l false false e = k.entries q l
      entered q l true false e = absurd cc
      entered q l false true e = absurd cc

      given : (e : ℕ) → IsKept e → (b c : Bool) → b ≡ c
          → unwrap_or (entries_if b (effect other new) (branches_effect other news) (place e)) (slice_index left.variables e)
          ≡ slice_index (cond c (variables_after left old) (branches_variables left olds)) e
      given e i true true s = h.kept e i
      given e i false false s = k.kept e i
      given e i true false s = absurd cc
      given e i false true s = absurd cc

  pub if_alike : (news olds : Branches) → BranchesAlike news olds → BodiesAlike (step (if_of news) done) (step (if_of olds) done)
  if_alike news olds h = record { entries = h.entries; kept = h.kept }

  -- ---- tests

  pub edge_met : (t : Test) (s : Stmts) → AtEdge t s → AgreeOn (test_reads t) left.now other.now → AgreeOn (test_events t) left.before other.before → is_met other t ≡ is_met left t
  edge_met t s h now before =
      edge_meets t h.clock h.edge other h.tests
      ∙ on_both (λ x y. has_edge h.edge (value_of_code x) (value_of_code y))
      (sym (before h.clock (subst (λ (ns : List ℕ). Contains ns h.clock) (sym (edge_test_event t h.clock h.edge h.tests)) (Contains-first h.clock []))))
      (sym (now h.clock (edge_test_reads t h.clock h.edge h.tests)))
      ∙ sym (edge_meets t h.clock h.edge left h.tests)

  -- whatever the variables are
  pub reset_met : (known : ℕ → Bool) (r : Test) (a : Stmts) → ByReset known r a → AgreeOn (test_reads r) left.now other.now → (xs ys : List ℕ)
      → is_met (record other { variables = xs }) r ≡ is_met (record left { variables = ys }) r
  reset_met known r a h now xs ys =
      ap (is_met (record other { variables = xs })) h.is
      ∙ ap (λ (x : ℕ). is_same (value_of_code x) h.v) (sym (now h.net (subst (λ (t : Test). Contains (test_reads t) h.net) (sym h.is) (Contains-first h.net []))))
      ∙ sym (ap (is_met (record left { variables = ys })) h.is)

  -- ---- the branch at the edge

  abbrev recalls : Seen
  recalls = after other (recalled net place vs)

  within : (e : ℕ) → IsKept e → e < length scope.variables
  within e c = typed_within scope.variables vs runs.typed e c

  recalled_is : (e : ℕ) → IsKept e → slice_index recalls.variables e ≡ slice_index left.variables e
  recalled_is e c =
      recalled_gives net place vs other
      (held_if_typed scope.variables (λ d. slice_index other.now (net d)) vs runs.typed (λ d t k i. rw (runs.held d k) (runs.sees.variables d t i)))
      e (let l = within e c in let m = runs.other_many in omega arith) c
      ∙ runs.held e c

  abbrev followed : Stmts → Stmts
  followed s = followed_by s (remembered net place vs)

  stored_kept : (s : Stmts) → ((e : ℕ) → stores_element e s ≡ true → IsKept e) → (e : ℕ) → stores_element e (followed s) ≡ true → IsKept e
  stored_kept s stored e h = go (or_cases (stores_element e s) (not (must_assign (is_element e) s) && stores_element e (remembered net place vs)) (sym ((sequences_add_up s (remembered net place vs)).stores_either e) ∙ h))
    where
      go : (stores_element e s ≡ true) ⊎ (not (must_assign (is_element e) s) && stores_element e (remembered net place vs) ≡ true) → IsKept e
      go (inl k) = stored e k
      go (inr k) = remembered_stores net place scope.variables vs runs.typed e (and_parts (not (must_assign (is_element e) s)) (stores_element e (remembered net place vs)) k).1

  abbrev SeesSame : Stmts → Type 0
  SeesSame s = (sight : Sight) → IsRead (followed s) sight → seen_at left sight ≡ seen_at recalls sight

  edge_sees : (s : Stmts) → ((e : ℕ) → stores_element e s ≡ true → IsKept e) → AgreeOn (reads s) left.now other.now → AgreeOn (events s) left.before other.before → SeesSame s
  edge_sees s stored now before (net_now n) c =
      subst (λ (ns : List ℕ). AgreeOn ns left.now other.now) (sym ((sequences_add_up s (remembered net place vs)).reads_both))
      (agree_more (reads s) (reads (remembered net place vs)) left.now other.now (remembered_reads net place vs) now) n c
  edge_sees s stored now before (net_before n) c =
      subst (λ (ns : List ℕ). AgreeOn ns left.before other.before) (sym ((sequences_add_up s (remembered net place vs)).events_of_both))
      (agree_more (events s) (events (remembered net place vs)) left.before other.before (remembered_events net place vs) before) n c
  edge_sees s stored now before (element_kept e) h = sym (recalled_is e (stored_kept s stored e h))

  edge_effect : (s : Stmts) → SeesSame s → (q : ℕ)
      → effect other (at_edge net place vs s) q ≡ or_else (effect (after left s) (remembered net place vs) q) (effect left s q)
  edge_effect s h q =
      (later_replaces (recalled net place vs) (followed s) other).effect_is q
      ∙ ap (or_else (effect recalls (followed s) q)) (recalled_drives_none net place vs other q)
      ∙ or_else-none (effect recalls (followed s) q)
      ∙ sym (looks_at_reads (followed s) left recalls (runs.as_many ∙ sym runs.other_many ∙ sym (length-recalled net place vs other)) h q)
      ∙ (later_replaces s (remembered net place vs) left).effect_is q

  pub edge_alike : (s : Stmts) → Fits scope s → ((e : ℕ) → stores_element e s ≡ true → IsKept e)
      → AgreeOn (reads s) left.now other.now → AgreeOn (events s) left.before other.before → BodiesAlike (at_edge net place vs s) s
  edge_alike s fits stored now before =
      let alike : SeesSame s = edge_sees s stored now before in
      record {
        entries = λ q l. edge_effect s alike q ∙ ap (λ (o : Option ℕ). or_else o (effect left s q)) (remembered_drives_none net place vs (after left s) q (λ e c at. let b = runs.above e c in omega arith));
        kept = λ e c. ap (λ (o : Option ℕ). unwrap_or o (slice_index left.variables e))
            (edge_effect s alike (place e) ∙ ap (λ (o : Option ℕ). or_else o (effect left s (place e))) (remembered_gives net place vs (after left s) keeps e (λ d k at. runs.apart d e k c at) c));
      }
    where
      keeps : AreHeld (slice_index (variables_after left s)) vs
      keeps = held_if_typed scope.variables (slice_index (variables_after left s)) vs runs.typed (λ e t c h. (entries_keep_types scope s left fits runs.sees).variables e t h)

  -- ---- the branch of the reset

  abbrev SetsKept : Stmts → Type 0
  SetsKept a = (e : ℕ) → must_assign (is_element e) a ≡ true → IsKept e

  sets_too : (seen : Seen) (a : Stmts) → SetsKept a → SetsKept (with_constants seen a)
  sets_too seen a h e k = h e (sym (assigns_same (is_element e) seen a) ∙ k)

  -- by what is known at first, and what is seen of it
  pub reset_alike : (known : ℕ → Bool) (seen : Seen) (r : Test) (a : Stmts) → ByReset known r a → Agree known left seen → length left.variables ≡ length seen.variables
      → SetsKept a → AreBelow (length scope.targets) (with_constants seen a) → BodiesAlike (told net place seen a) a
  reset_alike known seen r a h agree many sets below =
      let new = with_constants seen a in
      let all = made_constants known seen a h.constants in
      let set_too = sets_too seen a sets in
      let does = constants_run known seen left a h.constants agree many in
      record {
        entries = λ q l. same_entries (length scope.targets) net place IsKept runs.above runs.apart new all set_too left other q l ∙ does.entries q;
        kept = λ e c. kept_entries (length scope.targets) net place IsKept runs.above runs.apart new all set_too below left other e c (let l = within e c in let m = runs.as_many in omega arith)
            ∙ ap (λ (values : List ℕ). slice_index values e) does.variables;
      }

  -- behind an if it replaces what that gives, and sees what is known as it was
  pub behind_alike : (news olds : Branches) → BranchesAlike news olds → (known : ℕ → Bool) (seen : Seen) (r : Test) (a : Stmts) → ByReset known r a → AgreeOn (test_reads r) left.now other.now
      → Agree known (after_stmt left (if_of olds)) seen → length left.variables ≡ length seen.variables → SetsKept a → AreBelow (length scope.targets) (with_constants seen a)
      → BodiesAlike (step (if_of news) (step (if_of (branch r (told net place seen a) no_else)) done)) (step (if_of olds) (step (if_of (branch r a no_else)) done))
  behind_alike news olds h known seen r a x now agree many sets below = record { entries = λ q l. entered q l (is_met other' r) (is_met left' r) met; kept = λ e i. given e i (is_met other' r) (is_met left' r) met }
    where
      other' : Seen
      other' = after_stmt other (if_of news)

      left' : Seen
      left' = after_stmt left (if_of olds)

      met : is_met other' r ≡ is_met left' r
      met = reset_met known r a x now other'.variables left'.variables

      new : Stmts
      new = with_constants seen a

      all : are_constants new ≡ true
      all = made_constants known seen a x.constants

      many_left : length left'.variables ≡ length left.variables
      many_left = as_many_after left (step (if_of olds) done)

      does : DoesSame left' new a
      does = constants_run known seen left' a x.constants agree (many_left ∙ many)

      entered : (q : ℕ) → q < length scope.targets → (b c : Bool) → b ≡ c
          → or_else (entries_if b (effect other' (told net place seen a)) no_entries q) (branches_effect other news q) ≡ or_else (entries_if c (effect left' a) no_entries q) (branches_effect left olds q)
      entered q l true true e = on_both or_else (same_entries (length scope.targets) net place IsKept runs.above runs.apart new all (sets_too seen a sets) left' other' q l ∙ does.entries q) (h.entries q l)
      entered q l false false e = h.entries q l
      entered q l true false e = absurd cc
      entered q l false true e = absurd cc

      given : (e : ℕ) → IsKept e → (b c : Bool) → b ≡ c
          → unwrap_or (or_else (entries_if b (effect other' (told net place seen a)) no_entries (place e)) (branches_effect other news (place e))) (slice_index left.variables e)
          ≡ slice_index (cond c (variables_after left' a) left'.variables) e
      given e i true true s =
          unwrapped (effect other' (told net place seen a) (place e)) (branches_effect other news (place e)) (slice_index left.variables e)
          ∙ ap (unwrap_or (effect other' (told net place seen a) (place e))) (h.kept e i)
          ∙ kept_entries (length scope.targets) net place IsKept runs.above runs.apart new all (sets_too seen a sets) below left' other' e i (let n = within e i in let m = runs.as_many in let k = many_left in omega arith)
          ∙ ap (λ (values : List ℕ). slice_index values e) does.variables
      given e i false false s = h.kept e i
      given e i true false s = absurd cc
      given e i false true s = absurd cc
