-- What drivers give to their nets is what the code computes of them.
use Rattle.std.proofs.Common.{◌≡◌, ◌↔◌, ℕ, zero, suc, ◌+◌, ◌<◌, ◌==◌, Bool, true, false, not, ◌&&◌, List, [], ◌∷◌, ◌++◌, length, get_or, set, take, drop, map, replicate, Option, Some, None, IsTrue, refl, sym, ap, subst, ◌∙◌, arith, ◌⊎◌, inl, inr, Contains, Vec, Global, Result, Ok, Err, OnOk}
use Rattle.std.specs.Prelude.{if◌then◌else◌, option_map}
use Rattle.std.proofs.lemmas.Bool.{cases_eq, eq-eqb, eqb-true}
use Rattle.std.proofs.lemmas.List.{length-map, get_or-set_same, get_or-set_other, length_push}
use Rattle.std.proofs.lemmas.Option.{get_or_from_slice_get, slice_get-map}
use Rattle.rtl_model.specs.basics.Valuations.{clocked_entry}
use Rattle.rtl_model.specs.bodies.Copies.{passed_on}
use Rattle.rtl_model.specs.bodies.Types.{ElementType, limit_of, KeepsTypes}
use Rattle.rtl_model.specs.nets.CoreNetlist.{copied_at}
use Rattle.rtl_model.specs.simulation.Netlist as m
use Rattle.rtl_model.specs.simulation.Netlist.{Netlist, Reset, HasReset, IsCombinational, process, reset_of, reset_entry, resets, holds_back}
use Rattle.rtl_model.specs.simulation.Elaborated.{IsElaborated}
use Rattle.rtl_model.specs.simulation.Calm.{IsFromOutside}
use Rattle.rtl_model.proofs.basics.Lists.{get_or-map_within}
use Rattle.std.specs.List.{range_with_len}
use Rattle.std.proofs.lemmas.List.FromFn.{length-range_with_len, get_or-map-range_with_len}
use Rattle.rtl_net.specs.Nets.{NetlistView}
use Rattle.rtl_eval.specs.Trees.{ProcessOf, processes_of}
use Rattle.rtl_calm_nets.proofs.Lists.{written_back}
use Rattle.rtl_process_kinds.specs.declared.copies.BodyCopy.{BodyCopy}
use Rattle.rtl_calm_nets.specs.declared.origins.Origin.{Origin}
use Rattle.rtl_calm_nets.specs.declared.origins.Origin.TheVariants as o
use Rattle.rtl_calm_nets.specs.declared.resets.ResetTest.{ResetTest}
use Rattle.rtl_process_kinds.specs.AskedValues.{is_asked}
use Rattle.rtl_process_kinds.specs.BodyViews.{copy_view}
use Rattle.rtl_calm_nets.specs.NetOrigins.{IsResetTest, IsClocked, LooksOutside, Gives, AreGiven, given_at, given_by, combinational_origin, register_origin}

-- ---- lists that grow

pub push_at : {X : Type 0} (xs : List X) (x d : X) → get_or (xs ++ x ∷ []) (length xs) d ≡ x
push_at [] x d = refl
push_at (y ∷ ys) x d = push_at ys x d

pub push_below : {X : Type 0} (xs : List X) (x d : X) (k : ℕ) → k < length xs → get_or (xs ++ x ∷ []) k d ≡ get_or xs k d
push_below [] x d k l = absurd (omega arith)
push_below (y ∷ ys) x d zero l = refl
push_below (y ∷ ys) x d (suc k) l = push_below ys x d k (omega arith)

-- what holds of each so far holds of one more
pub pushed : {X : Type 0} (P : ℕ → X → Type 0) (xs new : List X) (x d : X) (many : ℕ) → length xs ≡ many → new ≡ xs ++ x ∷ [] → ((k : ℕ) → k < many → P k (get_or xs k d)) → P many x
    → (length new ≡ many + 1) × ((k : ℕ) → k < many + 1 → P k (get_or new k d))
pushed P xs new x d many n e h last = (ap length e ∙ (length_push xs x ∙ ap (λ (k : ℕ). k + 1) n), λ k l. subst (λ ys. P k (get_or ys k d)) (sym e) (go k l (below k l)))
  where
    below : (k : ℕ) → k < many + 1 → (k < many) ⊎ (many ≡ k)
    below k l = grind arith

    go : (k : ℕ) → k < many + 1 → (k < many) ⊎ (many ≡ k) → P k (get_or (xs ++ x ∷ []) k d)
    go k l (inl m) = subst (P k) (sym (push_below xs x d k (omega arith))) (h k m)
    go k l (inr m) = subst (λ (j : ℕ). P j (get_or (xs ++ x ∷ []) j d)) (n ∙ m) (subst (P (length xs)) (sym (push_at xs x d)) (subst (λ (j : ℕ). P j x) (sym n) last))

-- ---- combinational processes

module _ (net : Netlist) (p : ℕ) where
  clocked_not : {A : Type 0} → IsClocked net p → IsCombinational net p → A
  clocked_not (clock, (edge, (reset, e))) (l, f) = let h : m.Clocked clock edge reset ≡ m.Combinational = sym e ∙ f in absurd cc

  pub combinational_gives : IsCombinational net p → (copy : Option BodyCopy) → ((place : ℕ) → (process net p).copies place ≡ copied_at (option_map copy_view copy) place)
      → (place : ℕ) (follows : Bool) → (follows ≡ true) ↔ ((m : ℕ) → Contains ((process net p).looks place) m → IsFromOutside net m)
      → Gives net p place (combinational_origin follows copy place)
  combinational_gives comb copy are place true looks = (comb, looks.0 refl)
  combinational_gives comb copy are place false looks = go copy are
    where
      no_look : LooksOutside net p place → ⊥
      no_look h = let t : false ≡ true = looks.1 h.1 in cc

      no_clock : IsClocked net p → ⊥
      no_clock c = clocked_not c comb

      of_copy : (c : BodyCopy) (b : Bool) → (process net p).copies place ≡ (if b then Some (record { net = c.copied.net; passed = passed_on c.copied.inverted }) else None)
          → Gives net p place (if b then o.Copied c.copied else o.Other)
      of_copy c true e = (no_look, comb, e)
      of_copy c false e = (no_look, no_clock, λ copy also f. let h : None ≡ Some copy = sym e ∙ f in cc)

      go : (copy : Option BodyCopy) → ((place : ℕ) → (process net p).copies place ≡ copied_at (option_map copy_view copy) place) → Gives net p place (combinational_origin false copy place)
      go None e = (no_look, no_clock, λ copy also f. let h : None ≡ Some copy = sym (e place) ∙ f in cc)
      go (Some c) e = of_copy c (c.place == place) (e place)

  -- ---- clocked processes

  -- a reset's branch has an entry, or none
  pub register_gives : IsClocked net p → (reset : Reset) → HasReset net p reset → (by place : ℕ) (entry : Option ℕ) → reset.net ≡ by → reset_entry (reset_of net p) place ≡ entry → Gives net p place (register_origin by entry)
  register_gives c reset has by place None same e = (c, e)
  register_gives c reset has by place (Some value) same e = (c, (reset, has, same), e)

  pub unreset_gives : IsClocked net p → reset_of net p ≡ None → (place : ℕ) → Gives net p place o.Unreset
  unreset_gives c none place = (c, ap (λ (r : Option Reset). reset_entry r place) none)

  pub mixed_gives : (process net p).kind ≡ m.Mixed → (place : ℕ) → Gives net p place o.Other
  mixed_gives mixed place = (
    λ h. not_comb h.0,
    λ (clock, (edge, (reset, e))). let h : m.Mixed ≡ m.Clocked clock edge reset = sym mixed ∙ e in absurd cc,
    λ copy comb e. not_comb comb,
  )
    where
      not_comb : IsCombinational net p → ⊥
      not_comb (l, e) = let h : m.Mixed ≡ m.Combinational = sym mixed ∙ e in cc

-- while a reset holds and there is no edge, a clocked body does what the reset's branch does
without_edge : (o x : Option ℕ) → clocked_entry true false o x ≡ o
without_edge None x = refl
without_edge (Some v) x = refl

pub entry_while : (net : Netlist) → IsElaborated net → (p : ℕ) → IsClocked net p → (reset : Reset) → HasReset net p reset → (values : List ℕ) → get_or values reset.net 0 ≡ reset.value
    → (place : ℕ) → get_or ((process net p).effect values values) place None ≡ reset_entry (reset_of net p) place
entry_while net E p (clock, (edge, (r, kind))) reset has values held place =
    E.bodies.clocked_acts p clock place edge values values (r, kind)
    ∙ ((λ i. clocked_entry (holds i) (still i) (reset_entry (reset_of net p) place) (get_or ((process net p).acting_effect values) place None))
    ∙ without_edge (reset_entry (reset_of net p) place) (get_or ((process net p).acting_effect values) place None))
  where
    holds : resets (reset_of net p) (λ n. get_or values n 0) ≡ true
    holds = ap (λ (x : Option Reset). resets x (λ n. get_or values n 0)) has ∙ eq-eqb (get_or values reset.net 0) reset.value held

    still : (net.edge edge (get_or values clock 0) (get_or values clock 0) && not (holds_back (reset_of net p) (λ n. get_or values n 0))) ≡ false
    still = ap (λ (b : Bool). b && not (holds_back (reset_of net p) (λ n. get_or values n 0))) (E.values.edges_differ edge (get_or values clock 0))

-- ---- the values of nets, so that a reset holds

pub value_held : (net : Netlist) (p : ℕ) (test : ResetTest) (w : ℕ) → IsResetTest net p (Some test) → IsTrue (is_asked test.asked w)
    → (reset : Reset) × HasReset net p reset × (reset.net ≡ test.net) × (reset.value ≡ w)
value_held net p test w (l, nine, (reset, has, same, all)) t = (reset, has, same, sym (eqb-true w reset.value (sym (all w) ∙ t)))

pub still_keep : (types : List ElementType) (values : List ℕ) (n w : ℕ) → KeepsTypes types values → n < length values → get_or (map limit_of types) n 0 ≡ 9 → w < 9 → KeepsTypes types (set values n w)
still_keep types values n w keep l nine small place t has = go (cases_eq place n)
  where
    limit : get_or (map limit_of types) place 0 ≡ limit_of t
    limit = get_or_from_slice_get (map limit_of types) place (limit_of t) 0 (slice_get-map limit_of types place ∙ ap (option_map limit_of) has)

    go : (place ≡ n) ⊎ (place ≡ n → ⊥) → get_or (set values n w) place 0 < limit_of t
    go (inl e) =
        let here : get_or (set values n w) place 0 ≡ w = ap (λ (j : ℕ). get_or (set values n w) j 0) e ∙ get_or-set_same values n w 0 l in
        let top : limit_of t ≡ 9 = sym limit ∙ (ap (λ (j : ℕ). get_or (map limit_of types) j 0) e ∙ nine) in
        omega arith
    go (inr other) = let h = keep place t has in let e = get_or-set_other values n place w 0 other in omega arith

-- ---- lists of what all drivers give

pub replicate_at : (many k : ℕ) (x : Origin) → k < many → given_at (replicate many x) k ≡ x
replicate_at zero k x l = absurd (omega arith)
replicate_at (suc many) zero x l = refl
replicate_at (suc many) (suc k) x l = replicate_at many k x (omega arith)

pub length-replicate_origin : (many : ℕ) (x : Origin) → length (replicate many x) ≡ many
length-replicate_origin zero x = refl
length-replicate_origin (suc many) x = ap suc (length-replicate_origin many x)

pub all_alike : (net : Netlist) (p many : ℕ) (x : Origin) (origins : List Origin) → origins ≡ replicate many x → length (process net p).drives ≡ many → ((place : ℕ) → Gives net p place x) → AreGiven net p origins
all_alike net p many x origins e n gives = record {
  each_driver = so_many ∙ sym n;
  each = λ place l. subst (Gives net p place) (sym (ap (λ (xs : List Origin). given_at xs place) e ∙ replicate_at many place x (omega (arith, l, so_many)))) (gives place);
}
  where
    so_many : length origins ≡ many
    so_many = ap length e ∙ length-replicate_origin many x

-- what a clocked process with this reset gives, by the entries that its body has while the reset holds
pub reset_given : (net : Netlist) → IsElaborated net → (p : ℕ) → IsClocked net p → (test : ResetTest) (w : ℕ) → IsResetTest net p (Some test) → IsTrue (is_asked test.asked w)
    → (values : List ℕ) → get_or values test.net 0 ≡ w → (entries : List (Option ℕ)) → entries ≡ (process net p).effect values values → length entries ≡ length (process net p).drives
    → (origins : List Origin) → origins ≡ map (register_origin test.net) entries → AreGiven net p origins
reset_given net E p clocked test w is t values held entries e many origins f = go (value_held net p test w is t)
  where
    so_many : length origins ≡ length entries
    so_many = ap length f ∙ length-map entries (register_origin test.net)

    go : (reset : Reset) × HasReset net p reset × (reset.net ≡ test.net) × (reset.value ≡ w) → AreGiven net p origins
    go (reset, has, same, value) = record { each_driver = so_many ∙ many; each = each }
      where
        holds : get_or values reset.net 0 ≡ reset.value
        holds = ap (λ (n : ℕ). get_or values n 0) same ∙ (held ∙ sym value)

        each : (place : ℕ) → place < length origins → Gives net p place (given_at origins place)
        each place l =
            let is_entry : given_at origins place ≡ register_origin test.net (get_or entries place None) =
            ap (λ (xs : List Origin). given_at xs place) f ∙ get_or-map_within (register_origin test.net) entries place None o.Other (omega (arith, l, so_many)) in
            let entry : reset_entry (reset_of net p) place ≡ get_or entries place None = sym (ap (λ (xs : List (Option ℕ)). get_or xs place None) e ∙ entry_while net E p clocked reset has values holds place) in
            subst (Gives net p place) (sym is_entry) (register_gives net p clocked reset has test.net place (get_or entries place None) same entry)

pub given_row : (all : List (Vec Origin Global)) (p : ℕ) (v : Vec Origin Global) → p < length all → v ≡ get_or all p v → given_by all p ≡ v.items
given_row all p v l e = get_or-map_within (λ (given : Vec Origin Global). given.items) all p v [] l ∙ ap (λ (given : Vec Origin Global). given.items) (sym e)

rows_push : (all : List (Vec Origin Global)) (v : Vec Origin Global) → map (λ (given : Vec Origin Global). given.items) (all ++ v ∷ []) ≡ map (λ (given : Vec Origin Global). given.items) all ++ v.items ∷ []
rows_push [] v = refl
rows_push (x ∷ xs) v = ap (λ ys. x.items ∷ ys) (rows_push xs v)

pub given_more : (net : Netlist) (all new : List (Vec Origin Global)) (v : Vec Origin Global) (many : ℕ) → length all ≡ many → new ≡ all ++ v ∷ [] → ((p : ℕ) → p < many → AreGiven net p (given_by all p)) → AreGiven net many v.items
    → (p : ℕ) → p < many + 1 → AreGiven net p (given_by new p)
given_more net all new v many n e h last =
    (pushed (AreGiven net) (map (λ (given : Vec Origin Global). given.items) all) (map (λ (given : Vec Origin Global). given.items) new) v.items [] many
    (length-map all (λ (given : Vec Origin Global). given.items) ∙ n) (ap (map (λ (given : Vec Origin Global). given.items)) e ∙ rows_push all v) h last).1

-- the tree of a process
pub tree_at : (net : NetlistView) (bodies : List ProcessOf) (number : ℕ) (b : ProcessOf) → bodies ≡ processes_of net → number < length net.processes → b ≡ get_or bodies number b → b ≡ record { net = net; number = number }
tree_at net bodies number b e l is =
    is ∙ (ap (λ (xs : List ProcessOf). get_or xs number b) e ∙ get_or-map-range_with_len (λ (k : ℕ). record { net = net; number = k }) 0 (length net.processes) number number b l (omega arith))

pub many_trees : (net : NetlistView) (bodies : List ProcessOf) → bodies ≡ processes_of net → length bodies ≡ length net.processes
many_trees net bodies e =
    ap (λ (xs : List ProcessOf). length xs) e ∙ (length-map (range_with_len 0 (length net.processes)) (λ (k : ℕ). record { net = net; number = k }) ∙ length-range_with_len 0 (length net.processes))

pub values_back : (types : List ElementType) (values : Vec ℕ Global) (new seen : List ℕ) → length new ≡ length seen → seen ≡ values.items → KeepsTypes types new → length values.items ≡ length types
    → (length (take values.len (new ++ drop (length new) values.items)) ≡ length types) × KeepsTypes types (take values.len (new ++ drop (length new) values.items))
values_back types values new seen n same keep many =
    let so_many : length new ≡ length values.items = n ∙ ap (λ (xs : List ℕ). length xs) same in
    let back = written_back values.len new values.items (so_many ∙ sym values.ok.0) in
    (ap (λ (xs : List ℕ). length xs) back ∙ (so_many ∙ many), subst (KeepsTypes types) (sym back) keep)

pub on_ok : {A B : Type 0} {P : Type 0} (r : Result A B) → P → OnOk r P
on_ok (Ok v) h = h
on_ok (Err e) h = tt
