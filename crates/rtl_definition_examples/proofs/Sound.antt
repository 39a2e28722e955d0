-- Tests of a flat netlist of which all is known: that it is in range, connected, and accepted.
use Rattle.std.proofs.Common.{◌≡◌, ℕ, zero, suc, ◌+◌, ◌<◌, ◌≤◌, Bool, true, false, cond, not, ◌&&◌, ◌||◌, ◌==◌, nat_lt, nat_le, List, [], ◌∷◌, ◌++◌}
use Rattle.std.proofs.Common.{length, map, slice_get, slice_index, slice_index_or, Option, Some, None, refl, sym, ap, ◌∙◌, subst, arith, ◌⊎◌, inl, inr, Contains, All, length-append}
use Rattle.std.proofs.lemmas.Bool.{and_parts, or_cases, not-true, eqb-true, ltb-true, leb-true, cases_lt}
use Rattle.std.proofs.lemmas.List.{get_or_past}
use Rattle.std.proofs.lemmas.Option.{slice_get_within}
use Rattle.rtl_model.specs.basics.Lists.{is_empty}
use Rattle.rtl_model.specs.bodies.Stored.{stores_element}
use Rattle.rtl_model.specs.bodies.Types.{ElementType, nine_valued, enumeration, limit_of, IsByte, HasType}
use Rattle.rtl_model.specs.nets.FlatNetlist as flat
use Rattle.rtl_model.specs.nets.FlatNetlist.{FlatDriver, FlatVariable, FlatProcess, FlatNetlist, starts, element_starts, scope_of, flat_sources}
use Rattle.rtl_model.specs.nets.FlatNetlist.{DriverInRange, VariableInRange, ProcessInRange, IsInRange}
use Rattle.rtl_model.specs.nets.CoreNetlist.{core_netlist, core_resolve, core_process, element_number, raised_by, stores_one}
use Rattle.rtl_model.specs.nets.Wiring.{IsConnected}
use Rattle.rtl_model.specs.nets.Laws.{IsSound}
use Rattle.rtl_model.specs.simulation.Netlist as c
use Rattle.rtl_model.specs.simulation.Netlist.{Source}
use Rattle.rtl_model.specs.simulation.Cycle.{source_value}
use Rattle.rtl_model.proofs.basics.Lists.{Contains-none, Contains-first, is_nil}
use Rattle.rtl_model.specs.simulation.Elaborated.{IsElaborated}
use Rattle.rtl_model.proofs.nets.Connected.{connected_is_elaborated, source_below}
use Rattle.rtl_model.proofs.nets.Processes.{process-core_net}
use Rattle.rtl_definition_examples.proofs.Deciding.{all_below, below, all_in, contained, is_accepted, accepted_by}
use Rattle.rtl_definition_examples.proofs.Fitting.{all_of, same_type, passes, has_type, is_of_type, is_wide, is_width, body_fits, of_body}

-- ---- processes

-- a place with a value of its type
abbrev value_fits : List ElementType → (net value : ℕ) → Bool
value_fits types net value = passes (λ t. nat_lt value (limit_of t)) (slice_get types net)

is_value : (types : List ElementType) (net value : ℕ) → value_fits types net value ≡ true → (t : ElementType) × HasType types t net × (value < limit_of t)
is_value types net value h = go (slice_get types net) refl h
  where
    go : (o : Option ElementType) → slice_get types net ≡ o → passes (λ t. nat_lt value (limit_of t)) o ≡ true → (t : ElementType) × HasType types t net × (value < limit_of t)
    go None e h = absurd cc
    go (Some t) e h = (t, e, ltb-true value (limit_of t) h)

abbrev is_byte : ElementType → Bool
is_byte t = nat_le (limit_of t) 256

is_in_byte : (t : ElementType) → is_byte t ≡ true → IsByte t
is_in_byte t h = leb-true (limit_of t) 256 h

abbrev rises : List ℕ → Bool
rises [] = true
rises (x ∷ []) = true
rises (x ∷ y ∷ xs) = nat_lt x y && rises (y ∷ xs)

rise_at : (xs : List ℕ) → rises xs ≡ true → (k : ℕ) → suc k < length xs → slice_index xs k < slice_index xs (suc k)
rise_at [] h k l = absurd (omega arith)
rise_at (x ∷ []) h k l = absurd (omega arith)
rise_at (x ∷ y ∷ xs) h zero l = ltb-true x y (and_parts (nat_lt x y) (rises (y ∷ xs)) h).0
rise_at (x ∷ y ∷ xs) h (suc k) l = rise_at (y ∷ xs) (and_parts (nat_lt x y) (rises (y ∷ xs)) h).1 k (omega arith)

do_rise : (xs : List ℕ) → rises xs ≡ true → (k : ℕ) → k + 1 < length xs → slice_index xs k < slice_index xs (k + 1)
do_rise xs h k l = subst (λ (j : ℕ). slice_index xs k < slice_index xs j) (next k) (rise_at xs h k (omega arith))
  where
    next : (k : ℕ) → suc k ≡ k + 1
    next k = omega arith

abbrev variable_fits : FlatVariable → Bool
variable_fits v = (is_wide (length v.starts) && is_byte v.type_of) && ((same_type v.type_of nine_valued || (length v.starts == 1)) && all_in (λ x. nat_lt x (limit_of v.type_of)) v.starts)

is_variable : (v : FlatVariable) → variable_fits v ≡ true → VariableInRange v
is_variable v h =
    let (ab, b) = and_parts (is_wide (length v.starts) && is_byte v.type_of) _ h in
    let (a, z) = and_parts (is_wide (length v.starts)) (is_byte v.type_of) ab in
    let (p, q) = and_parts (same_type v.type_of nine_valued || (length v.starts == 1)) _ b in
    record {
      width = is_width (length v.starts) a;
      type_fits = is_in_byte v.type_of z;
      one_literal = λ n e. one n e (or_cases (same_type v.type_of nine_valued) (length v.starts == 1) p);
      starts = all_of (λ x. x < limit_of v.type_of) (λ x. nat_lt x (limit_of v.type_of)) (λ x e. ltb-true x (limit_of v.type_of) e) v.starts q;
    }
  where
    one : (n : ℕ) → v.type_of ≡ enumeration n → (same_type v.type_of nine_valued ≡ true) ⊎ ((length v.starts == 1) ≡ true) → length v.starts ≡ 1
    one n e (inl f) = let g : same_type (enumeration n) nine_valued ≡ true = ap (λ (t : ElementType). same_type t nine_valued) (sym e) ∙ f in absurd cc
    one n e (inr f) = eqb-true (length v.starts) 1 f

abbrev process_fits : List ElementType → FlatProcess → Bool
process_fits types p =
    all_in (λ (d : FlatDriver). value_fits types d.net d.start) p.drivers
    && ((all_in (λ n. nat_lt n (length types)) p.wakes && rises p.wakes) && (all_in variable_fits p.variables && body_fits (scope_of types p) p.body))

is_process : (types : List ElementType) (p : FlatProcess) → process_fits types p ≡ true → ProcessInRange types p
is_process types p h =
    let (a, b) = and_parts (all_in (λ (d : FlatDriver). value_fits types d.net d.start) p.drivers) _ h in
    let (de, e) = and_parts (all_in (λ n. nat_lt n (length types)) p.wakes && rises p.wakes) _ b in
    let (d, w) = and_parts (all_in (λ n. nat_lt n (length types)) p.wakes) (rises p.wakes) de in
    let (f, g) = and_parts (all_in variable_fits p.variables) _ e in
    record {
      drivers = all_of (DriverInRange types) (λ (d : FlatDriver). value_fits types d.net d.start) (λ d e. is_value types d.net d.start e) p.drivers a;
      wakes = all_of (λ n. n < length types) (λ n. nat_lt n (length types)) (λ n e. ltb-true n (length types) e) p.wakes d;
      wakes_rise = do_rise p.wakes w;
      variables = all_of VariableInRange variable_fits is_variable p.variables f;
      body = of_body (scope_of types p) p.body g;
    }

-- ---- nets

abbrev net_fits : FlatNetlist → ℕ → Bool
net_fits net n = value_fits net.types n (slice_index net.start n) && all_in (value_fits net.types n) (slice_index_or net.idle n [])

abbrev is_in_range : FlatNetlist → Bool
is_in_range net =
    ((length net.start == length net.types) && ((length net.idle == length net.types) && all_in is_byte net.types))
    && (all_below (net_fits net) (length net.types) && ((rises net.inputs && all_in (has_type net.types nine_valued) net.inputs) && all_in (process_fits net.types) net.processes))

module _ (net : FlatNetlist) (h : is_in_range net ≡ true) where
  parts : ((length net.start == length net.types) && ((length net.idle == length net.types) && all_in is_byte net.types) ≡ true)
      × (all_below (net_fits net) (length net.types) && ((rises net.inputs && all_in (has_type net.types nine_valued) net.inputs) && all_in (process_fits net.types) net.processes) ≡ true)
  parts = and_parts ((length net.start == length net.types) && ((length net.idle == length net.types) && all_in is_byte net.types)) _ h

  net_at : (n : ℕ) (t : ElementType) → HasType net.types t n → (slice_index net.start n < limit_of t) × All (λ v. v < limit_of t) (slice_index_or net.idle n [])
  net_at n t typed =
      let each = (and_parts (all_below (net_fits net) (length net.types)) _ parts.1).0 in
      let (a, b) = and_parts (value_fits net.types n (slice_index net.start n)) _ (below (net_fits net) (length net.types) n each (slice_get_within net.types n t typed)) in
      (of_this n t typed (slice_index net.start n) a, all_of (λ v. v < limit_of t) (value_fits net.types n) (of_this n t typed) (slice_index_or net.idle n []) b)
    where
      of_this : (n : ℕ) (t : ElementType) → HasType net.types t n → (v : ℕ) → value_fits net.types n v ≡ true → v < limit_of t
      of_this n t typed v e =
          let (s, has, l) = is_value net.types n v e in
          let k : s ≡ t = cc in
          subst (λ (x : ElementType). v < limit_of x) k l

  in_range : IsInRange net
  in_range =
      let (a, bz) = and_parts (length net.start == length net.types) _ parts.0 in
      let (b, z) = and_parts (length net.idle == length net.types) (all_in is_byte net.types) bz in
      let (d, e) = and_parts (all_below (net_fits net) (length net.types)) _ parts.1 in
      let (f, g) = and_parts (rises net.inputs && all_in (has_type net.types nine_valued) net.inputs) _ e in
      let (r, i) = and_parts (rises net.inputs) _ f in
      record {
        types_fit = all_of IsByte is_byte is_in_byte net.types z;
        each_starts = eqb-true (length net.start) (length net.types) a;
        each_has_idle = eqb-true (length net.idle) (length net.types) b;
        starts = λ n t typed. (net_at n t typed).0;
        idle = λ n t typed. (net_at n t typed).1;
        inputs_rise = do_rise net.inputs r;
        inputs = all_of (HasType net.types nine_valued) (has_type net.types nine_valued) (is_of_type net.types nine_valued) net.inputs i;
        processes = all_of (ProcessInRange net.types) (process_fits net.types) (is_process net.types) net.processes g;
      }

abbrev start_fits : FlatNetlist → ℕ → List Source → Bool
start_fits net n sources = is_empty sources || (slice_index net.start n == core_resolve (map (source_value (map starts net.processes)) sources))

abbrev is_connected : FlatNetlist → Bool
is_connected net =
    all_in (λ n. is_empty (flat_sources net n)) net.inputs
    && all_below (λ n. start_fits net n (flat_sources net n) && (nat_lt (length (flat_sources net n)) 2 || has_type net.types nine_valued n)) (length net.types)

connected_by : (net : FlatNetlist) → IsInRange net → is_connected net ≡ true → IsConnected net
connected_by net in_range h =
    let (a, b) = and_parts (all_in (λ n. is_empty (flat_sources net n)) net.inputs) _ h in
    record {
      inputs_have_no_source = λ n c. is_nil (flat_sources net n) (contained (λ n. is_empty (flat_sources net n)) net.inputs n a c);
      nets_start = λ n source c. starts_at n source c (and_parts (start_fits net n (flat_sources net n)) _ (below _ (length net.types) n b (source_below net in_range n source c))).0;
      shared_are_resolved = λ n l. shared n l (and_parts (start_fits net n (flat_sources net n)) _ (below _ (length net.types) n b (many_below n l))).1;
    }
  where
    starts_at : (n : ℕ) (source : Source) → Contains (flat_sources net n) source → start_fits net n (flat_sources net n) ≡ true
        → slice_index net.start n ≡ core_resolve (map (source_value (map starts net.processes)) (flat_sources net n))
    starts_at n source c e = go (or_cases (is_empty (flat_sources net n)) _ e)
      where
        go : (is_empty (flat_sources net n) ≡ true) ⊎ ((slice_index net.start n == core_resolve (map (source_value (map starts net.processes)) (flat_sources net n))) ≡ true)
            → slice_index net.start n ≡ core_resolve (map (source_value (map starts net.processes)) (flat_sources net n))
        go (inl f) = absurd (Contains-none source (subst (λ (xs : List Source). Contains xs source) (is_nil (flat_sources net n) f) c))
        go (inr f) = eqb-true _ _ f

    many_below : (n : ℕ) → 2 ≤ length (flat_sources net n) → n < length net.types
    many_below n l = go (flat_sources net n) refl
      where
        go : (xs : List Source) → flat_sources net n ≡ xs → n < length net.types
        go [] e = absurd (omega (arith, ap length e))
        go (x ∷ xs) e = source_below net in_range n x (subst (λ (ys : List Source). Contains ys x) (sym e) (Contains-first x xs))

    shared : (n : ℕ) → 2 ≤ length (flat_sources net n) → nat_lt (length (flat_sources net n)) 2 || has_type net.types nine_valued n ≡ true → HasType net.types nine_valued n
    shared n l e = go (or_cases (nat_lt (length (flat_sources net n)) 2) (has_type net.types nine_valued n) e)
      where
        go : (nat_lt (length (flat_sources net n)) 2 ≡ true) ⊎ (has_type net.types nine_valued n ≡ true) → HasType net.types nine_valued n
        go (inl f) = let k = ltb-true (length (flat_sources net n)) 2 f in absurd (omega arith)
        go (inr f) = is_of_type net.types nine_valued n f

-- ---- no process stores a variable

abbrev forgets : FlatProcess → Bool
forgets p = all_below (λ e. not (stores_element e p.body)) (length (element_starts p.variables))

number_below : (vs : List FlatVariable) (which place e : ℕ) → element_number vs which place ≡ Some e → e < length (element_starts vs)
number_below [] which place e h = absurd cc
number_below (v ∷ vs) zero place e h = go (nat_lt place (length v.starts)) refl h
  where
    go : (t : Bool) → nat_lt place (length v.starts) ≡ t → cond t (Some place) None ≡ Some e → e < length (v.starts ++ element_starts vs)
    go true f g =
        let l = ltb-true place (length v.starts) f in
        let k : place ≡ e = cc in
        omega (arith, length-append v.starts (element_starts vs))
    go false f g = absurd cc
number_below (v ∷ vs) (suc which) place e h = go (element_number vs which place) (number_below vs which place) h
  where
    go : (o : Option ℕ) → ((d : ℕ) → o ≡ Some d → d < length (element_starts vs)) → raised_by (length v.starts) o ≡ Some e → e < length (v.starts ++ element_starts vs)
    go None more g = absurd cc
    go (Some d) more g =
        let l = more d refl in
        let k : length v.starts + d ≡ e = cc in
        omega (arith, length-append v.starts (element_starts vs))

forgets_all : (wide : Bool) (inputs : List ℕ) (p : FlatProcess) → forgets p ≡ true → (which place : ℕ) → (core_process wide inputs p).stores which place ≡ true → ⊥
forgets_all wide inputs p h which place s = go (element_number p.variables which place) refl s
  where
    go : (o : Option ℕ) → element_number p.variables which place ≡ o → stores_one p.body o ≡ true → ⊥
    go None e t = absurd cc
    go (Some k) e t = let f = not-true (stores_element k p.body) (below (λ e. not (stores_element e p.body)) (length (element_starts p.variables)) k h (number_below p.variables which place k e)) in cc

-- ---- a sound netlist, given a numbering of its processes that rises

abbrev pub fits : FlatNetlist → Bool
fits net = is_in_range net && is_connected net

-- accepted or not
pub elaborated_by : (net : FlatNetlist) → fits net ≡ true → IsElaborated (core_netlist net)
elaborated_by net h =
    let (d, e) = and_parts (is_in_range net) (is_connected net) h in
    connected_is_elaborated net (in_range net d) (connected_by net (in_range net d) e)

abbrev is_sound : FlatNetlist → (number : ℕ → ℕ) → Bool
is_sound net number = fits net && (is_accepted (core_netlist net) number && all_in forgets net.processes)

pub sound_by : (net : FlatNetlist) (number : ℕ → ℕ) → is_sound net number ≡ true → IsSound net
sound_by net number h =
    let (a, b) = and_parts (fits net) _ h in
    let (d, e) = and_parts (is_in_range net) (is_connected net) a in
    let (f, g) = and_parts (is_accepted (core_netlist net) number) (all_in forgets net.processes) b in
    record {
      in_range = in_range net d;
      connected = connected_by net (in_range net d) e;
      accepted = accepted_by (core_netlist net) number f (forgets_each g);
    }
  where
    forgets_each : all_in forgets net.processes ≡ true → (p which place : ℕ) → (c.process (core_netlist net) p).stores which place ≡ true → ⊥
    forgets_each g p which place = rw (process-core_net net p) (λ s. forgets_all net.wide net.inputs (flat.process_at net p) (forgetting g p) which place s)
      where
        forgetting : all_in forgets net.processes ≡ true → (p : ℕ) → forgets (flat.process_at net p) ≡ true
        forgetting g p = go (cases_lt p (length net.processes))
          where
            go : (p < length net.processes) ⊎ (length net.processes ≤ p) → forgets (flat.process_at net p) ≡ true
            go (inl l) = all_of (λ q. forgets q ≡ true) forgets (λ q e. e) net.processes g p flat.no_flat_process l
            go (inr l) = ap forgets (get_or_past net.processes p flat.no_flat_process l)
