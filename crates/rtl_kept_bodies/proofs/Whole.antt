-- A register's process whose variables are kept, of what its steps made.
use Rattle.std.proofs.Common.{◌≡◌, ℕ, zero, suc, ◌&&◌, ◌||◌, Vec, Global, nat_le, nat_lt, append-nil, length-append, ◌+◌, ◌<◌, ◌≤◌, ◌^◌, Bool, true, false, if◌then◌else◌, List, [], ◌∷◌, ◌++◌, length, map, All, Contains, refl, sym, ap, ◌∙◌, subst, arith}
use Rattle.std.specs.Prelude.{flat_map, slice_index, replicate}
use Rattle.std.specs.List.{list_any, range_with_len}
use Rattle.std.proofs.lemmas.Bool.{and_parts, and_from, leb-true, ltb-true, le-leb, lt-ltb}
use Rattle.std.proofs.lemmas.List.{length-map}
use Rattle.rtl_model.specs.bodies.Reads.{reads}
use Rattle.rtl_net.specs.Limits.{most_nets}
use Rattle.rtl_net.specs.Elaborated.{ReadsOfBody}
use Rattle.std.specs.Prelude.{◌↔◌}
use Rattle.std.specs.List.Sorted.{IsStrictlyIncreasing}
use Rattle.rtl_body_facts.specs.Reading.{is_in}
use Rattle.rtl_model.specs.bodies.Body.{Stmts, followed_by}
use Rattle.rtl_model.specs.bodies.Assigns.{is_element, must_assign}
use Rattle.rtl_model.specs.bodies.Stored.{stores_element}
use Rattle.rtl_model.specs.nets.FlatNetlist.{FlatDriver, FlatVariable, FlatProcess, VariableInRange, element_starts}
use Rattle.rtl_net.specs.declared.process.Driver.{Driver}
use Rattle.rtl_net.specs.declared.process.Process.{Process}
use Rattle.rtl_net.specs.declared.process.Variable.{Variable}
use Rattle.rtl_net.specs.Nets.{driver_view, variable_view, process_view, body_of}
use Rattle.rtl_variable_registers.specs.Bodies as spec
use Rattle.rtl_variable_registers.specs.Known as known
use Rattle.rtl_variable_registers.proofs.Known.{reads_stay}
use Rattle.rtl_variable_registers.specs.Processes.{kept_variables, kept_elements, kept_starts, rank_in, drivers_from, with_nets, kept_process}
use Rattle.rtl_kept_bodies.specs.declared.kept.Kept.{Kept}
use Rattle.rtl_kept_bodies.specs.Rules.{keeps_each, HasRoom, NamedAlike}
use Rattle.rtl_kept_bodies.specs.Steps.{kept_count, kept_from, recall_all, remember_all, placed_by, all_at_reset, all_drivers_of, AreKept}
use Rattle.rtl_kept_bodies.proofs.Ranks.{stand, kept_view, elements_of, elements_viewed, views_are, counted, are_within, places_are, recalls, remembers, drivers_are}
use Rattle.rtl_kept_bodies.proofs.Listing.{elements_in}
use Rattle.rtl_kept_bodies.proofs.Marking.{register_gives}
use Rattle.rtl_kept_bodies.proofs.Putting.{at_reset_is}
use Rattle.rtl_kept_bodies.proofs.Reading.{are_one, reads_by, remember_reads, reset_reads, changed_reads}
use Rattle.rtl_kept_bodies.proofs.Shapes.{register_form}

-- ---- the variables that are listed are those that are kept

module _ (body : Stmts) (vs : List Variable) (flags : List Bool) (is : flags ≡ keeps_each (spec.keeps_element body) 0 (map variable_view vs)) where
  pub viewed : (first base : ℕ) → map kept_view (kept_from 0 first base flags vs) ≡ kept_variables (record { drivers = []; wakes = []; variables = map variable_view vs; body = body })
  viewed first base = ap (λ fs. map kept_view (kept_from 0 first base fs vs)) is ∙ views_are (spec.keeps_element body) 0 first base vs

  pub elements_are : (first base : ℕ) → elements_of (kept_from 0 first base flags vs) ≡ kept_elements (record { drivers = []; wakes = []; variables = map variable_view vs; body = body })
  elements_are first base =
      sym (elements_viewed (kept_from 0 first base flags vs)) ∙ ap (flat_map (λ (v : spec.KeptVariable). v.elements)) (viewed first base)

  pub count_is : kept_count flags vs ≡ length (kept_elements (record { drivers = []; wakes = []; variables = map variable_view vs; body = body }))
  count_is = sym (counted 0 0 0 flags vs) ∙ ap length (elements_are 0 0)

pub are_kept : (p : Process) (flags : List Bool) (first base : ℕ) → flags ≡ keeps_each (spec.keeps_element (body_of p)) 0 (map variable_view p.variables.items)
    → All VariableInRange (map variable_view p.variables.items) → base ≡ length p.drives.items
    → base + kept_count flags p.variables.items < 2 ^ 32 → AreKept first (process_view p) (kept_from 0 first base flags p.variables.items)
are_kept p flags first base is ranged at fits =
    let vs = p.variables.items in
    let flat = process_view p in
    let from = length (map driver_view p.drives.items) in
    let same : base ≡ length (map driver_view p.drives.items) = at ∙ sym (length-map p.drives.items driver_view) in
    let ks = kept_from 0 first from flags vs in
    let one = are_one 0 first from flags vs ranged in
    let stands = stand 0 first from flags vs in
    let elements : elements_of ks ≡ kept_elements flat = elements_are (body_of p) vs flags is first from in
    let views : map kept_view ks ≡ kept_variables flat = viewed (body_of p) vs flags is first from in
    subst (λ b. AreKept first flat (kept_from 0 first b flags vs)) (sym same)
    (record {
      within = are_within (elements_in vs) 0 first from flags vs (omega arith) (omega (arith, fits, same));
      recall = recalls first from [] 0 first from ks (λ ys e l. omega arith) (omega arith) (omega arith) stands one
          ∙ ap (λ zs. spec.recalled (λ e. first + rank_in zs e) (λ e. from + rank_in zs e) (map kept_view ks)) elements
          ∙ ap (spec.recalled (λ e. first + rank_in (kept_elements flat) e) (λ e. from + rank_in (kept_elements flat) e)) views;
      remember = remembers first from [] 0 first from ks (λ ys e l. omega arith) (omega arith) (omega arith) stands one
          ∙ ap (λ zs. spec.remembered (λ e. first + rank_in zs e) (λ e. from + rank_in zs e) (map kept_view ks)) elements
          ∙ ap (spec.remembered (λ e. first + rank_in (kept_elements flat) e) (λ e. from + rank_in (kept_elements flat) e)) views;
      places = λ e. places_are 0 first from (from + length (kept_elements flat)) ks stands (ap (λ zs. from + length zs) (sym elements)) e
          ∙ ap (λ zs. from + rank_in zs e) elements;
      drivers = drivers_are (element_starts (map variable_view vs)) 0 first from ks stands
          ∙ ap (λ zs. drivers_from first (map (slice_index (element_starts (map variable_view vs))) zs)) elements;
    })

-- ---- the process

module _ (first : ℕ) (p : FlatProcess) (ks : List Kept) (h : AreKept first p ks) where
  abbrev pub net_of : ℕ → ℕ
  net_of e = first + rank_in (kept_elements p) e

  abbrev pub place_of : ℕ → ℕ
  place_of e = length p.drivers + rank_in (kept_elements p) e

  abbrev pub constants : Stmts → Stmts
  constants a = known.with_constants (known.at_start (element_starts p.variables)) a

  pub body_is : (P : ℕ → ℕ) → ((e : ℕ) → P e ≡ placed_by ks (length p.drivers + length (kept_elements p)) e)
      → spec.with_branches (λ a. all_at_reset P (constants a)) (λ s. followed_by (recall_all ks) (followed_by s (remember_all ks))) p.body
      ≡ spec.kept_body (λ e. first + rank_in (kept_elements p) e) (λ e. length p.drivers + rank_in (kept_elements p) e) (element_starts p.variables) (kept_variables p) p.body
  body_is P same =
      let places : P ≡ place_of = (λ i e. (same e ∙ h.places e) i) in
      let told : Stmts → Stmts = (λ a. spec.at_reset net_of place_of (constants a)) in
      let resets : (λ a. all_at_reset place_of (constants a)) ≡ (λ a. spec.at_reset net_of place_of (constants a)) = (λ i a. at_reset_is net_of place_of (constants a) i) in
      ap (λ f. spec.with_branches (λ a. all_at_reset f (constants a)) (λ s. followed_by (recall_all ks) (followed_by s (remember_all ks))) p.body) places
      ∙ ap (λ f. spec.with_branches f (λ s. followed_by (recall_all ks) (followed_by s (remember_all ks))) p.body) resets
      ∙ ap (λ r. spec.with_branches told (λ s. followed_by r (followed_by s (remember_all ks))) p.body) h.recall
      ∙ ap (λ m. spec.with_branches told (λ s. followed_by (spec.recalled net_of place_of (kept_variables p)) (followed_by s m)) p.body) h.remember

  pub process_is : (ds : List FlatDriver) (ws : List ℕ) (vs : List FlatVariable) (b : Stmts) → spec.is_register p.body ≡ true
      → ds ≡ p.drivers ++ all_drivers_of (element_starts p.variables) ks → ws ≡ p.wakes → vs ≡ p.variables
      → b ≡ spec.kept_body (λ e. first + rank_in (kept_elements p) e) (λ e. length p.drivers + rank_in (kept_elements p) e) (element_starts p.variables) (kept_variables p) p.body
      → record { drivers = ds; wakes = ws; variables = vs; body = b } ≡ kept_process first p
  process_is ds ws vs b reg hd hw hv hb =
      ap (λ x. record { drivers = x; wakes = ws; variables = vs; body = b }) (hd ∙ ap (λ zs. p.drivers ++ zs) h.drivers)
      ∙ ap (λ x. record { drivers = p.drivers ++ drivers_from first (kept_starts p); wakes = x; variables = vs; body = b }) hw
      ∙ ap (λ x. record { drivers = p.drivers ++ drivers_from first (kept_starts p); wakes = p.wakes; variables = x; body = b }) hv
      ∙ ap (λ x. record { drivers = p.drivers ++ drivers_from first (kept_starts p); wakes = p.wakes; variables = p.variables; body = x }) hb
      ∙ ap (λ x. if x then with_nets first p else p) (sym reg)

-- ---- a process whose body alone was taken apart and put back

pub views_same : (old new : Process) → new.drives ≡ old.drives → NamedAlike old new → body_of new ≡ body_of old → process_view new ≡ process_view old
views_same old new hd h hb =
    ap (λ (ds : Vec Driver Global). record { drivers = map driver_view ds.items; wakes = new.wakes.items; variables = map variable_view new.variables.items; body = body_of new }) hd
    ∙ ap (λ (ws : _). record { drivers = map driver_view old.drives.items; wakes = ws; variables = map variable_view new.variables.items; body = body_of new }) (ap (λ w. w.items) h.wakes)
    ∙ ap (λ (vs : Vec Variable Global). record { drivers = map driver_view old.drives.items; wakes = old.wakes.items; variables = map variable_view vs.items; body = body_of new }) h.variables
    ∙ ap (λ b. record { drivers = map driver_view old.drives.items; wakes = old.wakes.items; variables = map variable_view old.variables.items; body = b }) hb

-- no variable of what is no register is kept
pub none_kept : (body : Stmts) (e : ℕ) (vs : List FlatVariable) → spec.is_register body ≡ false → keeps_each (spec.keeps_element body) e vs ≡ replicate (length vs) false
none_kept body e [] h = refl
none_kept body e (v ∷ vs) h =
    ap (λ b. b ∷ keeps_each (spec.keeps_element body) (e + length v.starts) vs) (none (range_with_len e (length v.starts)))
    ∙ ap (λ bs. false ∷ bs) (none_kept body (e + length v.starts) vs h)
  where
    none : (es : List ℕ) → list_any (spec.keeps_element body) es ≡ false
    none [] = refl
    none (d ∷ ds) =
        ap (λ b. (b && (stores_element d (spec.without_reset body) || must_assign (is_element d) (spec.reset_branch body))) || list_any (spec.keeps_element body) ds) h ∙ none ds

-- flags by marks are those by what is kept
pub flags_are : (f g : ℕ → Bool) (many e : ℕ) (vs : List Variable) → ((d : ℕ) → d < many → f d ≡ g d) → e + elements_in vs ≤ many
    → keeps_each f e (map variable_view vs) ≡ keeps_each g e (map variable_view vs)
flags_are f g many e [] h l = refl
flags_are f g many e (v ∷ vs) h l =
    let long = length-append v.starts.items (element_starts (map variable_view vs)) in
    ap (λ b. b ∷ keeps_each f (e + length v.starts.items) (map variable_view vs)) (same e (length v.starts.items) (omega (arith, long, l)))
    ∙ ap (λ bs. list_any g (range_with_len e (length v.starts.items)) ∷ bs) (flags_are f g many (e + length v.starts.items) vs h (omega (arith, long, l)))
  where
    same : (a n : ℕ) → a + n ≤ many → list_any f (range_with_len a n) ≡ list_any g (range_with_len a n)
    same a zero m = refl
    same a (suc n) m = ap (λ b. b || list_any f (range_with_len (a + 1) n)) (h a (omega arith)) ∙ ap (λ b. g a || b) (same (a + 1) n (omega arith))

pub other_process : (first : ℕ) (p : FlatProcess) → spec.is_register p.body ≡ false → p ≡ kept_process first p
other_process first p h = ap (λ x. if x then with_nets first p else p) (sym h)

-- ---- room

pub as_many : (f : ℕ → Bool) (e : ℕ) (vs : List FlatVariable) → length (keeps_each f e vs) ≡ length vs
as_many f e [] = refl
as_many f e (v ∷ vs) = ap suc (as_many f (e + length v.starts) vs)

module _ (first : ℕ) (p : FlatProcess) (many drivers elements : ℕ) (b : Bool) (m : many ≡ length (kept_elements p)) (d : drivers ≡ length p.drivers)
    (e : elements ≡ length (element_starts p.variables))
    (is : b ≡ (nat_le (first + many) most_nets && (nat_lt (drivers + many) (2 ^ 32) && nat_lt elements (2 ^ 32)))) where
  pub room_is : b ≡ true → HasRoom first p
  room_is t =
      let parts = and_parts (nat_le (first + many) most_nets) (nat_lt (drivers + many) (2 ^ 32) && nat_lt elements (2 ^ 32)) (sym is ∙ t) in
      let others = and_parts (nat_lt (drivers + many) (2 ^ 32)) (nat_lt elements (2 ^ 32)) parts.1 in
      let n = leb-true (first + many) most_nets parts.0 in
      let l = ltb-true (drivers + many) (2 ^ 32) others.0 in
      let k = ltb-true elements (2 ^ 32) others.1 in
      record { nets = omega (arith, n, m); drivers = omega (arith, l, m, d); elements = omega (arith, k, e) }

  pub no_room_is : b ≡ false → HasRoom first p → ⊥
  no_room_is f r =
      let n = le-leb (first + many) most_nets (omega (arith, r.nets, m)) in
      let l = lt-ltb (drivers + many) (2 ^ 32) (omega (arith, r.drivers, m, d)) in
      let k = lt-ltb elements (2 ^ 32) (omega (arith, r.elements, e)) in
      let all = and_from (nat_le (first + many) most_nets) (nat_lt (drivers + many) (2 ^ 32) && nat_lt elements (2 ^ 32)) n
      (and_from (nat_lt (drivers + many) (2 ^ 32)) (nat_lt elements (2 ^ 32)) l k) in
      let x : true ≡ false = sym (is ∙ all) ∙ f in cc

-- ---- what is read

pub kept_reads : (first many : ℕ) (p : FlatProcess) (ks : List Kept) → AreKept first p ks → spec.is_register p.body ≡ true → reads (recall_all ks) ≡ range_with_len first many
    → (n : ℕ) → is_in n (reads (kept_process first p).body) ≡ (is_in n (reads p.body) || is_in n (range_with_len first many))
kept_reads first many p ks h reg nets n =
    ap (λ x. is_in n (reads (if x then with_nets first p else p).body)) reg
    ∙ changed_reads n (λ a. spec.at_reset (net_of first p ks h) (place_of first p ks h) (constants first p ks h a)) (spec.at_edge (net_of first p ks h) (place_of first p ks h) (kept_variables p)) (range_with_len first many)
    besides p.body same (register_form p.body reg)
  where
    same : reads (spec.at_reset (net_of first p ks h) (place_of first p ks h) (constants first p ks h (spec.reset_branch p.body))) ≡ reads (spec.reset_branch p.body)
    same =
        let a = constants first p ks h (spec.reset_branch p.body) in
        sym (ap reads (at_reset_is (net_of first p ks h) (place_of first p ks h) a)) ∙ reset_reads (place_of first p ks h) a
        ∙ reads_stay (known.never_set p.body) (known.at_start (element_starts p.variables)) (spec.reset_branch p.body) (register_gives p.body reg)

    besides : (s : Stmts) → reads (spec.at_edge (net_of first p ks h) (place_of first p ks h) (kept_variables p) s) ≡ range_with_len first many ++ reads s
    besides s =
        sym (ap (λ r. reads (followed_by r (followed_by s (spec.remembered (net_of first p ks h) (place_of first p ks h) (kept_variables p))))) h.recall)
        ∙ sym (ap (λ m. reads (followed_by (recall_all ks) (followed_by s m))) h.remember)
        ∙ reads_by (recall_all ks) (followed_by s (remember_all ks))
        ∙ ap (λ ns. ns ++ reads (followed_by s (remember_all ks))) nets
        ∙ ap (λ ns. range_with_len first many ++ ns) (reads_by s (remember_all ks) ∙ ap (λ ns. reads s ++ ns) (remember_reads ks) ∙ append-nil (reads s))

-- ---- the same process again

pub reads_same : (old new : Process) → new.reads ≡ old.reads → body_of new ≡ body_of old → ReadsOfBody old → ReadsOfBody new
reads_same old new hr hb r = record {
  rise = subst (λ (v : Vec ℕ Global). IsStrictlyIncreasing v.items) (sym hr) r.rise;
  all = λ n. subst (λ (b : Stmts). Contains new.reads.items n ↔ Contains (reads b) n) (sym hb)
      (subst (λ (v : Vec ℕ Global). Contains v.items n ↔ Contains (reads (body_of old)) n) (sym hr) (r.all n));
}
