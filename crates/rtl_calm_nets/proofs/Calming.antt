-- The steps along copies come to a good end just from nets that are made of inputs, and from those that are calm.
use Rattle.std.proofs.Common.{◌≡◌, ◌↔◌, ℕ, zero, suc, ◌*◌, ◌<◌, ◌≤◌, Bool, true, false, not, ◌||◌, ◌&&◌, nat_lt, List, [], ◌∷◌, length, get_or, map, Some, None, IsTrue, refl, sym, ap, subst, ◌∙◌, arith, ◌⊎◌, inl, inr, Contains}
use Rattle.std.specs.Prelude.{if◌then◌else◌}
use Rattle.std.proofs.lemmas.Bool.{cases_Bool, cases_lt, ltb-true, lt-ltb, or_cases}
use Rattle.std.proofs.lemmas.List.{get_or_past}
use Rattle.rtl_model.specs.simulation.Netlist.{Netlist, Source, Driver, Reset, Copy, reset_of, reset_entry, HasReset}
use Rattle.rtl_model.specs.simulation.Elaborated.{IsElaborated}
use Rattle.rtl_model.specs.simulation.Calm.{IsFromOutside, IsRegister, Copies, IsMadeOfInputs, follows, copies_made, ResetsTo, StartsQuietly, starts_without, resets_to_these}
use Rattle.rtl_model.specs.simulation.Calm.{IsCalm, follows_inputs, ends_reset, reset_by_inputs, copies_calm}
use Rattle.rtl_model.specs.bodies.Copies.{passed_on}
use Rattle.rtl_model.proofs.basics.Lists.{Contains-first}
use Rattle.rtl_process_kinds.specs.declared.asked.Asked.{Asked}
use Rattle.rtl_process_kinds.specs.declared.copies.Copied.{Copied}
use Rattle.rtl_calm_nets.specs.declared.origins.Origin.{Origin}
use Rattle.rtl_calm_nets.specs.declared.origins.Origin.TheVariants as o
use Rattle.rtl_calm_nets.specs.declared.search.Step.{Step}
use Rattle.rtl_calm_nets.specs.declared.search.Step.TheVariants as s
use Rattle.rtl_process_kinds.specs.AskedValues.{is_asked, asked_through}
use Rattle.rtl_calm_nets.specs.NetOrigins.{given_at, AreOrigins}
use Rattle.rtl_calm_nets.specs.Reaching.{step_at, Comes, ends, leads, AreReached}
use Rattle.rtl_calm_nets.specs.CalmPlaces.{made_step, AreMade, place_of, resets_to, starts_quietly, calm_step, AreSteps, AreCalm}
use Rattle.rtl_calm_nets.proofs.AskedSets.{through_is}
use Rattle.rtl_calm_nets.proofs.Deriving.{copy_by, follows_if, copied_if, unreset_if, reset_if, is_inputs, is_copy, is_register}

comes_there : (steps : List Step) (k : ℕ) → Comes steps k → k < length steps
comes_there steps k c = go k c (cases_lt k (length steps))
  where
    go : (k : ℕ) → Comes steps k → (k < length steps) ⊎ (length steps ≤ k) → k < length steps
    go k c (inl l) = l
    go k (ends j e) (inr l) = let h : s.Ends false ≡ s.Ends true = sym (get_or_past steps k (s.Ends false) l) ∙ e in absurd cc
    go k (leads j next e more) (inr l) = let h : s.Ends false ≡ s.To next = sym (get_or_past steps k (s.Ends false) l) ∙ e in absurd cc

pub made_at : (origins : List Origin) (n : ℕ) → step_at (map made_step origins) n ≡ made_step (given_at origins n)
made_at [] n = refl
made_at (x ∷ xs) zero = refl
made_at (x ∷ xs) (suc n) = made_at xs n

pub all_reached : (steps : List Step) (reached : List Bool) (many : ℕ) → length reached ≡ many → many ≡ length steps → ((k : ℕ) → k < many → IsTrue (get_or reached k false) ↔ Comes steps k) → AreReached steps reached
all_reached steps reached many n e each = record { each_place = n ∙ e; each = λ k. go k (cases_lt k many) }
  where
    go : (k : ℕ) → (k < many) ⊎ (many ≤ k) → IsTrue (get_or reached k false) ↔ Comes steps k
    go k (inl l) = each k l
    go k (inr l) = (
      λ t. let h : false ≡ true = sym (get_or_past reached k false (omega (arith, l, n))) ∙ t in absurd cc,
      λ c. let m = comes_there steps k c in absurd (omega arith),
    )

-- what nets copy and are reset by is there
pub record AreThere (net : Netlist) : Type 0 where
  pub elaborated : IsElaborated net
  pub copies : (p place : ℕ) (copy : Copy) → Copies net p place copy → copy.net < length net.start
  pub resets : (p : ℕ) (reset : Reset) → HasReset net p reset → reset.net < length net.start

module _ (net : Netlist) (T : AreThere net) (origins : List Origin) (O : AreOrigins net origins) where
  register_inside : (n p place : ℕ) → IsRegister net n p place → IsFromOutside net n → ⊥
  register_inside n p place is out =
      let (h, e) = T.elaborated.wiring.sources_are_drivers n p place (subst (λ (xs : List Source). Contains xs (Driver p place)) (sym is.1) (Contains-first (Driver p place) [])) in
      out.0 (p, place, h, e)

  -- ---- made of inputs

  made_ends : (x : Origin) → made_step x ≡ s.Ends true → x ≡ o.Inputs
  made_ends o.Inputs e = refl
  made_ends (o.Copied c) e = absurd cc
  made_ends o.Unreset e = absurd cc
  made_ends (o.Reset by value) e = absurd cc
  made_ends o.Other e = absurd cc

  made_leads : (x : Origin) (next : ℕ) → made_step x ≡ s.To next → (c : Copied) × (x ≡ o.Copied c) × (c.net ≡ next)
  made_leads o.Inputs next e = absurd cc
  made_leads (o.Copied c) next e = (c, refl, to_one e)
    where
      to_one : {a b : ℕ} → s.To a ≡ s.To b → a ≡ b
      to_one e = cc
  made_leads o.Unreset next e = absurd cc
  made_leads (o.Reset by value) next e = absurd cc
  made_leads o.Other next e = absurd cc

  module _ (steps : List Step) (many : length steps ≡ length net.start) (S : (n : ℕ) → n < length net.start → step_at steps n ≡ made_step (given_at origins n)) where
    there : (k : ℕ) → Comes steps k → k < length net.start
    there k c = let l = comes_there steps k c in omega arith

    pub made_to : (n : ℕ) → Comes steps n → IsMadeOfInputs net n
    made_to n (ends k e) = let l = there k (ends k e) in follows k (follows_if net k (given_at origins k) (O.each k l) (made_ends (given_at origins k) (sym (S k l) ∙ e)))
    made_to n (leads k next e c) =
        let l = there k (leads k next e c) in
        let (copied, is, same) = made_leads (given_at origins k) next (sym (S k l) ∙ e) in
        let (p, place, comb, copies) = copied_if net k (given_at origins k) copied (O.each k l) is in
        copies_made k p place (copy_by copied) comb copies (subst (IsMadeOfInputs net) (sym same) (made_to next c))

    pub made_from : (n : ℕ) → n < length net.start → IsMadeOfInputs net n → Comes steps n
    made_from n l (follows k f) = ends k (S k l ∙ ap made_step (is_inputs net k (given_at origins k) (O.each k l) f))
    made_from n l (copies_made k p place copy comb copies made) = go (is_copy net k (given_at origins k) (O.each k l) p place copy comb copies) (made_from copy.net (T.copies p place copy copies) made)
      where
        go : (given_at origins k ≡ o.Inputs) ⊎ ((c : Copied) × (given_at origins k ≡ o.Copied c) × (copy ≡ copy_by c)) → Comes steps copy.net → Comes steps k
        go (inl e) c = ends k (S k l ∙ ap made_step e)
        go (inr (copied, e, same)) c = leads k copied.net (S k l ∙ ap made_step e) (subst (Comes steps) (ap (λ (x : Copy). x.net) same) c)

    pub are_made : (made : List Bool) → AreReached steps made → AreMade net made
    are_made made R = record {
      each_net = R.each_place ∙ many;
      each = λ n l. (λ t. made_to n ((R.each n).0 t), λ h. (R.each n).1 (made_from n l h));
    }

  -- ---- calm

  -- a register that is reset to one of the values, if at all
  none_value : (p place : ℕ) (asked : Asked) → reset_entry (reset_of net p) place ≡ None → (value : ℕ) → reset_entry (reset_of net p) place ≡ Some value → is_asked asked value ≡ true
  none_value p place asked e value f = let h : None ≡ Some value = sym e ∙ f in absurd cc

  one_value : (p place v : ℕ) (asked : Asked) → reset_entry (reset_of net p) place ≡ Some v → is_asked asked v ≡ true → (value : ℕ) → reset_entry (reset_of net p) place ≡ Some value → is_asked asked value ≡ true
  one_value p place v asked e t value f = let h : Some v ≡ Some value = sym e ∙ f in let same : v ≡ value = cc in ap (is_asked asked) (sym same) ∙ t

  resets_if : (n : ℕ) (asked : Asked) → n < length net.start → (x : Origin) → given_at origins n ≡ x → resets_to asked x ≡ true → ResetsTo net n (is_asked asked)
  resets_if n asked l o.Inputs f t = absurd cc
  resets_if n asked l (o.Copied c) f t = absurd cc
  resets_if n asked l o.Unreset f t = let (p, place, is, none) = unreset_if net n (given_at origins n) (O.each n l) f in (p, place, is, none_value p place asked none)
  resets_if n asked l (o.Reset by v) f t = let (p, place, is, has, one) = reset_if net n (given_at origins n) by v (O.each n l) f in (p, place, is, one_value p place v asked one t)
  resets_if n asked l o.Other f t = absurd cc

  is_reset_to : (n : ℕ) (asked : Asked) → n < length net.start → ResetsTo net n (is_asked asked) → resets_to asked (given_at origins n) ≡ true
  is_reset_to n asked l (p, place, is, all) = go (is_register net n (given_at origins n) (O.each n l) p place (register_inside n p place is) is)
    where
      go : ((given_at origins n ≡ o.Unreset) × (reset_entry (reset_of net p) place ≡ None)) ⊎ ((r : Reset) × (value : ℕ) × (given_at origins n ≡ o.Reset r.net value) × (reset_of net p ≡ Some r) × (reset_entry (reset_of net p) place ≡ Some value))
          → resets_to asked (given_at origins n) ≡ true
      go (inl (e, none)) = ap (resets_to asked) e
      go (inr (r, value, e, has, one)) = ap (resets_to asked) e ∙ all value one

  -- a net that starts quietly
  quiet_to : (n : ℕ) (asked : Asked) → n < length net.start → starts_quietly asked (given_at origins n) (get_or net.start n 0) ≡ true → StartsQuietly net n (is_asked asked)
  quiet_to n asked l e = go (cases_Bool (is_asked asked (get_or net.start n 0))) (given_at origins n) refl e
    where
      go : (is_asked asked (get_or net.start n 0) ≡ true) ⊎ (is_asked asked (get_or net.start n 0) ≡ false) → (x : Origin) → given_at origins n ≡ x
          → starts_quietly asked (given_at origins n) (get_or net.start n 0) ≡ true → StartsQuietly net n (is_asked asked)
      go (inr f) x is t = starts_without f
      go (inl f) x is t = resets_to_these (resets_if n asked l x is (sym (ap (λ (b : Bool). not b || resets_to asked x) f) ∙ (ap (λ (y : Origin). starts_quietly asked y (get_or net.start n 0)) (sym is) ∙ t)))

  or_true : (a : Bool) → (a || true) ≡ true
  or_true true = refl
  or_true false = refl

  quiet_from : (n : ℕ) (asked : Asked) → n < length net.start → StartsQuietly net n (is_asked asked) → starts_quietly asked (given_at origins n) (get_or net.start n 0) ≡ true
  quiet_from n asked l (starts_without f) = ap (λ (b : Bool). not b || resets_to asked (given_at origins n)) f
  quiet_from n asked l (resets_to_these to) = ap (λ (b : Bool). not (is_asked asked (get_or net.start n 0)) || b) (is_reset_to n asked l to) ∙ or_true (not (is_asked asked (get_or net.start n 0)))

  -- the condition of a step along a copy
  both_true : (a b : Bool) → (a && b) ≡ true → (a ≡ true) × (b ≡ true)
  both_true true true e = (refl, refl)
  both_true true false e = absurd cc
  both_true false b e = absurd cc

  module _ (made : List Bool) (M : AreMade net made) (steps : List Step) (S : AreSteps origins made net.start steps) where
    abbrev step_of : ℕ → Asked → Step
    step_of n asked = calm_step origins made net.start (given_at origins n) asked

    abbrev condition : ℕ → Asked → Bool
    condition m asked = nat_lt m (length origins) && starts_quietly asked (given_at origins m) (get_or net.start m 0)

    copy_ends : (m : ℕ) (asked : Asked) (b : Bool) → (if b then s.To (place_of m asked) else s.Ends false) ≡ s.Ends true → ⊥
    copy_ends m asked true e = cc
    copy_ends m asked false e = cc

    copy_leads : (m : ℕ) (asked : Asked) (b : Bool) (next : ℕ) → (if b then s.To (place_of m asked) else s.Ends false) ≡ s.To next → (b ≡ true) × (place_of m asked ≡ next)
    copy_leads m asked true next e = (refl, to_one e)
      where
        to_one : {a b : ℕ} → s.To a ≡ s.To b → a ≡ b
        to_one e = cc
    copy_leads m asked false next e = absurd cc

    made_there : (by : ℕ) → get_or made by false ≡ true → by < length net.start
    made_there by t = go (cases_lt by (length made))
      where
        go : (by < length made) ⊎ (length made ≤ by) → by < length net.start
        go (inl l) = let e = M.each_net in omega arith
        go (inr l) = let h : false ≡ true = sym (get_or_past made by false l) ∙ t in absurd cc

    ends_calm : (n : ℕ) (asked : Asked) → n < length net.start → (x : Origin) → given_at origins n ≡ x → calm_step origins made net.start x asked ≡ s.Ends true → IsCalm net n (is_asked asked)
    ends_calm n asked l o.Inputs f e = follows_inputs n (is_asked asked) (follows_if net n (given_at origins n) (O.each n l) f)
    ends_calm n asked l (o.Copied c) f e = absurd (copy_ends c.net (asked_through asked c.inverted) (condition c.net (asked_through asked c.inverted)) e)
    ends_calm n asked l o.Unreset f e = ends_reset n (is_asked asked) (resets_if n asked l o.Unreset f refl)
    ends_calm n asked l (o.Reset by v) f e = go (or_cases (is_asked asked v) (get_or made by false) (ends_one e))
      where
        ends_one : {a b : Bool} → s.Ends a ≡ s.Ends b → a ≡ b
        ends_one e = cc

        go : (is_asked asked v ≡ true) ⊎ (get_or made by false ≡ true) → IsCalm net n (is_asked asked)
        go (inl t) = ends_reset n (is_asked asked) (resets_if n asked l (o.Reset by v) f t)
        go (inr t) =
            let (p, place, is, (reset, has, same), one) = reset_if net n (given_at origins n) by v (O.each n l) f in
            reset_by_inputs n p place (is_asked asked) reset is has (subst (IsMadeOfInputs net) (sym same) ((M.each by (made_there by t)).0 t))
    ends_calm n asked l o.Other f e = absurd cc

    -- a copy of what is calm and starts quietly
    copy_calm : (n : ℕ) (asked : Asked) (c : Copied) → n < length net.start → given_at origins n ≡ o.Copied c
        → StartsQuietly net c.net (is_asked (asked_through asked c.inverted)) → IsCalm net c.net (is_asked (asked_through asked c.inverted)) → IsCalm net n (is_asked asked)
    copy_calm n asked c l f quiet calm =
        let (p, place, comb, copies) = copied_if net n (given_at origins n) c (O.each n l) f in
        let same = sym (through_is asked c.inverted) in
        copies_calm n p place (is_asked asked) (copy_by c) comb copies (subst (StartsQuietly net c.net) same quiet) (subst (IsCalm net c.net) same calm)

    leads_calm : (n next : ℕ) (asked : Asked) → n < length net.start → (x : Origin) → given_at origins n ≡ x → calm_step origins made net.start x asked ≡ s.To next
        → ((m : ℕ) (other : Asked) → place_of m other ≡ next → m < length net.start → IsCalm net m (is_asked other)) → IsCalm net n (is_asked asked)
    leads_calm n next asked l o.Inputs f e more = absurd cc
    leads_calm n next asked l (o.Copied c) f e more =
        let other = asked_through asked c.inverted in
        let (t, to) = copy_leads c.net other (condition c.net other) next e in
        let (below, quiet) = both_true (nat_lt c.net (length origins)) (starts_quietly other (given_at origins c.net) (get_or net.start c.net 0)) t in
        let there : c.net < length net.start = subst (λ (k : ℕ). c.net < k) O.each_net (ltb-true c.net (length origins) below) in
        copy_calm n asked c l f (quiet_to c.net other there quiet) (more c.net other to there)
    leads_calm n next asked l o.Unreset f e more = absurd cc
    leads_calm n next asked l (o.Reset by v) f e more = absurd cc
    leads_calm n next asked l o.Other f e more = absurd cc

    at : (n : ℕ) (asked : Asked) (x : Step) → n < length net.start → step_at steps (place_of n asked) ≡ x → step_of n asked ≡ x
    at n asked x l e = sym (S.each n asked (rw O.each_net l)) ∙ e

    pub calm_to : (k n : ℕ) (asked : Asked) → Comes steps k → place_of n asked ≡ k → n < length net.start → IsCalm net n (is_asked asked)
    calm_to k n asked (ends j e) is l = ends_calm n asked l (given_at origins n) refl (at n asked (s.Ends true) l (ap (step_at steps) is ∙ e))
    calm_to k n asked (leads j next e c) is l =
        leads_calm n next asked l (given_at origins n) refl (at n asked (s.To next) l (ap (step_at steps) is ∙ e)) (λ m other to there. calm_to next m other c to there)

    stepped : (n : ℕ) (asked : Asked) (x : Origin) → n < length net.start → given_at origins n ≡ x → step_at steps (place_of n asked) ≡ calm_step origins made net.start x asked
    stepped n asked x l e = S.each n asked (rw O.each_net l) ∙ ap (λ (y : Origin). calm_step origins made net.start y asked) e

    -- a register is reset to one of the values, if at all
    of_resets : (n : ℕ) (asked : Asked) → n < length net.start → ResetsTo net n (is_asked asked) → Comes steps (place_of n asked)
    of_resets n asked l to = go (given_at origins n) refl (is_reset_to n asked l to)
      where
        go : (x : Origin) → given_at origins n ≡ x → resets_to asked (given_at origins n) ≡ true → Comes steps (place_of n asked)
        go o.Unreset e t = ends (place_of n asked) (stepped n asked o.Unreset l e)
        go (o.Reset by v) e t =
            let h : is_asked asked v ≡ true = sym (ap (resets_to asked) e) ∙ t in
            ends (place_of n asked) (stepped n asked (o.Reset by v) l e ∙ ap (λ (b : Bool). s.Ends (b || get_or made by false)) h)
        go o.Inputs e t = let h : false ≡ true = sym (ap (resets_to asked) e) ∙ t in absurd cc
        go (o.Copied c) e t = let h : false ≡ true = sym (ap (resets_to asked) e) ∙ t in absurd cc
        go o.Other e t = let h : false ≡ true = sym (ap (resets_to asked) e) ∙ t in absurd cc

    -- or its reset is made of inputs
    of_register : (n p place : ℕ) (asked : Asked) → n < length net.start → IsRegister net n p place → ((reset : Reset) → reset_of net p ≡ Some reset → IsMadeOfInputs net reset.net) → Comes steps (place_of n asked)
    of_register n p place asked l is made_of = go (is_register net n (given_at origins n) (O.each n l) p place (register_inside n p place is) is)
      where
        go : ((given_at origins n ≡ o.Unreset) × (reset_entry (reset_of net p) place ≡ None)) ⊎ ((r : Reset) × (value : ℕ) × (given_at origins n ≡ o.Reset r.net value) × (reset_of net p ≡ Some r) × (reset_entry (reset_of net p) place ≡ Some value))
            → Comes steps (place_of n asked)
        go (inl (e, none)) = ends (place_of n asked) (stepped n asked o.Unreset l e)
        go (inr (r, v, e, has, one)) = ends (place_of n asked) (stepped n asked (o.Reset r.net v) l e ∙ (ap (λ (b : Bool). s.Ends (is_asked asked v || b)) ((M.each r.net (T.resets p r has)).1 (made_of r has)) ∙ ap s.Ends (or_true (is_asked asked v))))

    pub calm_from : (n : ℕ) (these : ℕ → Bool) (asked : Asked) → IsCalm net n these → these ≡ is_asked asked → n < length net.start → Comes steps (place_of n asked)
    calm_from n these asked (follows_inputs k those f) same l = ends (place_of k asked) (stepped k asked o.Inputs l (is_inputs net k (given_at origins k) (O.each k l) f))
    calm_from n these asked (ends_reset k those to) same l = of_resets k asked l (subst (ResetsTo net k) same to)
    calm_from n these asked (reset_by_inputs k p place those reset is has made_of) same l = of_register k p place asked l is moved
      where
        moved : (r : Reset) → reset_of net p ≡ Some r → IsMadeOfInputs net r.net
        moved r also = let h : Some reset ≡ Some r = sym has ∙ also in let e : reset ≡ r = cc in subst (λ (x : Reset). IsMadeOfInputs net x.net) e made_of
    calm_from n these asked (copies_calm k p place those copy comb copies quiet calm) same l =
        go (is_copy net k (given_at origins k) (O.each k l) p place copy comb copies) (λ other e. calm_from copy.net (λ value. those (copy.passed value)) other calm e (T.copies p place copy copies))
      where
        passed : (c : Copied) → copy ≡ copy_by c → (λ (value : ℕ). those (copy.passed value)) ≡ is_asked (asked_through asked c.inverted)
        passed c e = (λ i value. those ((e i).passed value)) ∙ (λ i value. same i (passed_on c.inverted value)) ∙ through_is asked c.inverted

        below : (c : Copied) → copy ≡ copy_by c → c.net < length net.start
        below c e = subst (λ (x : Copy). x.net < length net.start) e (T.copies p place copy copies)

        holds : (c : Copied) → copy ≡ copy_by c → condition c.net (asked_through asked c.inverted) ≡ true
        holds c e =
            let there = below c e in
            let other = asked_through asked c.inverted in
            let q : StartsQuietly net c.net (is_asked other) = subst (λ (x : Copy). StartsQuietly net x.net (is_asked other)) e (subst (StartsQuietly net copy.net) (passed c e) quiet) in
            let small : nat_lt c.net (length origins) ≡ true = lt-ltb c.net (length origins) (rw O.each_net there) in
            ap (λ (b : Bool). b && starts_quietly other (given_at origins c.net) (get_or net.start c.net 0)) small ∙ quiet_from c.net other there q

        go : (given_at origins k ≡ o.Inputs) ⊎ ((c : Copied) × (given_at origins k ≡ o.Copied c) × (copy ≡ copy_by c))
            → ((other : Asked) → (λ (value : ℕ). those (copy.passed value)) ≡ is_asked other → Comes steps (place_of copy.net other)) → Comes steps (place_of k asked)
        go (inl e) more = ends (place_of k asked) (stepped k asked o.Inputs l e)
        go (inr (c, e, f)) more =
            let other = asked_through asked c.inverted in
            leads (place_of k asked) (place_of c.net other) (stepped k asked (o.Copied c) l e ∙ ap (λ (b : Bool). if b then s.To (place_of c.net other) else s.Ends false) (holds c f))
            (subst (λ (x : Copy). Comes steps (place_of x.net other)) f (more other (passed c f)))

    pub are_calm : (calm : List Bool) → AreReached steps calm → AreCalm net calm
    are_calm calm R = record {
      each_net = R.each_place ∙ (S.each_place ∙ ap (λ (k : ℕ). 4 * k) O.each_net);
      each = λ n asked l. (λ t. calm_to (place_of n asked) n asked ((R.each (place_of n asked)).0 t) refl l, λ h. (R.each (place_of n asked)).1 (calm_from n (is_asked asked) asked h refl l));
    }
