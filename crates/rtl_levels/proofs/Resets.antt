-- What a clocked process does without an event, and how its reset lies over that.
use Rattle.std.proofs.Common.{◌≡◌, ℕ, Bool, true, false, not, ◌&&◌, ◌||◌, ◌==◌, List, get_or, Option, Some, None, refl, sym, ap, ◌∙◌}
use Rattle.rtl_model.specs.basics.Valuations.{clocked_entry, entry_where, or_else}
use Rattle.rtl_model.specs.simulation.Netlist.{Clocked, Combinational, Mixed, Edge, HasReset, holds_back, IsClockedBy, IsCombinational, kind_reset, Netlist, process, ProcessKind, Reset, reset_entry, reset_of, resets, target}
use Rattle.rtl_model.specs.simulation.Accepted.{IsResetOf}
use Rattle.rtl_model.specs.simulation.Elaborated.{IsElaborated}
use Rattle.rtl_model.specs.simulation.Machine.{entry_or}
use Rattle.rtl_model.proofs.simulation.Held.{entry_twice, no_edge_entry, over_branch}
use Rattle.rtl_levels.specs.Running.{IsSettledAt, behind_reset}

-- ---- entries

-- a reset read again in the same values changes nothing
pub read_again : (holds acts : Bool) (a b : Option ℕ) (x : ℕ) → entry_or (entry_where holds a) (entry_or (clocked_entry holds acts a b) x) ≡ entry_or (clocked_entry holds acts a b) x
read_again true acts a b x = over_branch a acts b x
read_again false acts a b x = refl

pub read_twice : (holds : Bool) (a : Option ℕ) (x : ℕ) → entry_or (entry_where holds a) (entry_or (entry_where holds a) x) ≡ entry_or (entry_where holds a) x
read_twice holds a x = entry_twice (entry_where holds a) x

-- read in two, it is read in either
pub read_later : (now later acts : Bool) (a b : Option ℕ) (x : ℕ) → entry_or (entry_where later a) (entry_or (clocked_entry now acts a b) x) ≡ entry_or (clocked_entry (now || later) acts a b) x
read_later true true acts a b x = over_branch a acts b x
read_later false true acts (Some v) b x = refl
read_later false true acts None b x = refl
read_later true false acts a b x = refl
read_later false false acts a b x = refl

pub read_later_alone : (now later : Bool) (a : Option ℕ) (x : ℕ) → entry_or (entry_where later a) (entry_or (entry_where now a) x) ≡ entry_or (entry_where (now || later) a) x
read_later_alone true true a x = entry_twice a x
read_later_alone true false a x = refl
read_later_alone false later a x = refl

-- so what it gave before counts no more
pub read_before : (now later : Bool) (a : Option ℕ) (x : ℕ) → entry_or (entry_where now a) x ≡ x → entry_or (entry_where later a) x ≡ entry_or (entry_where (now || later) a) x
read_before true true a x e = refl
read_before true false a x e = sym e
read_before false later a x e = refl

-- what has been read later has been read
pub read_then : (now later acts : Bool) (a b : Option ℕ) (x : ℕ) → entry_or (entry_where later a) (entry_or (clocked_entry (now || later) acts a b) x) ≡ entry_or (clocked_entry (now || later) acts a b) x
read_then true true acts a b x = over_branch a acts b x
read_then false true acts a b x = over_branch a acts b x
read_then now false acts a b x = refl

pub read_then_alone : (now later : Bool) (a : Option ℕ) (x : ℕ) → entry_or (entry_where later a) (entry_or (entry_where (now || later) a) x) ≡ entry_or (entry_where (now || later) a) x
read_then_alone true true a x = entry_twice a x
read_then_alone false true a x = entry_twice a x
read_then_alone now false a x = refl

-- the branch counts only at the edge
pub branch_alike : (reset edge open' : Bool) (a b b' : Option ℕ) → (edge ≡ true → b ≡ b') → clocked_entry reset (edge && open') a b ≡ clocked_entry reset (edge && open') a b'
branch_alike reset true true a b b' h = ap (or_else (entry_where reset a)) (h refl)
branch_alike reset true false a b b' h = refl
branch_alike reset false open' a b b' h = refl

-- ---- processes

module _ (net : Netlist) (p : ℕ) where
  -- what has a reset is clocked
  pub reset_clocks : (reset : Reset) → HasReset net p reset → (clock : ℕ) × (edge : Edge) × IsClockedBy net p clock edge
  reset_clocks reset has = go (process net p).kind refl
    where
      go : (kind : ProcessKind) → (process net p).kind ≡ kind → (clock : ℕ) × (edge : Edge) × IsClockedBy net p clock edge
      go (Clocked clock edge r) e = (clock, edge, (r, e))
      go Combinational e = let h : kind_reset Combinational ≡ Some reset = ap kind_reset (sym e) ∙ has in absurd cc
      go Mixed e = let h : kind_reset Mixed ≡ Some reset = ap kind_reset (sym e) ∙ has in absurd cc

  pub no_reset : (n : ℕ) → IsCombinational net p → IsResetOf net p n → ⊥
  no_reset n c (reset, has, is) = let h : kind_reset Combinational ≡ Some reset = ap kind_reset (sym c.1) ∙ has in cc

  pub one_reset : (n m : ℕ) → IsResetOf net p n → IsResetOf net p m → n ≡ m
  one_reset n m (a, has, is) (b, has', is') = let e : a ≡ b = cc in sym is ∙ ap (λ (r : Reset). r.net) e ∙ is'

  -- a reset holds alike where its net has the same value
  pub resets_alike : (v w : ℕ → ℕ) → ((reset : Reset) → HasReset net p reset → v reset.net ≡ w reset.net) → resets (reset_of net p) v ≡ resets (reset_of net p) w
  resets_alike v w same = go (reset_of net p) refl
    where
      go : (o : Option Reset) → reset_of net p ≡ o → resets o v ≡ resets o w
      go None e = refl
      go (Some r) e = ap (λ (x : ℕ). x == r.value) (same r e)

  module _ (E : IsElaborated net) (clock : ℕ) (edge : Edge) (is : IsClockedBy net p clock edge) where
    -- without an event it reads its reset alone
    pub still_entry : (v : List ℕ) (place : ℕ) → get_or ((process net p).effect v v) place None ≡ entry_where (resets (reset_of net p) (λ n. get_or v n 0)) (reset_entry (reset_of net p) place)
    still_entry v place =
        E.bodies.clocked_acts p clock place edge v v is
        ∙ no_edge_entry (resets (reset_of net p) (λ n. get_or v n 0)) (net.edge edge (get_or v clock 0) (get_or v clock 0)) (not (holds_back (reset_of net p) (λ n. get_or v n 0))) (reset_entry (reset_of net p) place) (get_or ((process net p).acting_effect v) place None)
        (E.values.edges_differ edge (get_or v clock 0))

    pub settled_by : (v : List ℕ) (place : ℕ) → behind_reset net v p place (get_or v (target net p place) 0) ≡ get_or v (target net p place) 0 → IsSettledAt net v p place
    settled_by v place h = ap (λ (o : Option ℕ). entry_or o (get_or v (target net p place) 0)) (still_entry v place) ∙ h

    pub settled_then : (v : List ℕ) (place : ℕ) → IsSettledAt net v p place → behind_reset net v p place (get_or v (target net p place) 0) ≡ get_or v (target net p place) 0
    settled_then v place h = sym (ap (λ (o : Option ℕ). entry_or o (get_or v (target net p place) 0)) (still_entry v place)) ∙ h

    -- what a run leaves has been settled as long as the reset stays
    pub run_settles : (before now u : List ℕ) (place old : ℕ) → resets (reset_of net p) (λ n. get_or u n 0) ≡ resets (reset_of net p) (λ n. get_or now n 0)
        → get_or u (target net p place) 0 ≡ entry_or (get_or ((process net p).effect before now) place None) old → IsSettledAt net u p place
    run_settles before now u place old same left =
        settled_by u place
        ((λ i. entry_or (entry_where (same i) (reset_entry (reset_of net p) place)) (here i))
        ∙ read_again (resets (reset_of net p) (λ n. get_or now n 0)) (net.edge edge (get_or before clock 0) (get_or now clock 0) && not (holds_back (reset_of net p) (λ n. get_or now n 0))) (reset_entry (reset_of net p) place) (get_or ((process net p).acting_effect now) place None) old
        ∙ sym here)
      where
        here : get_or u (target net p place) 0
            ≡ entry_or (clocked_entry (resets (reset_of net p) (λ n. get_or now n 0)) (net.edge edge (get_or before clock 0) (get_or now clock 0) && not (holds_back (reset_of net p) (λ n. get_or now n 0))) (reset_entry (reset_of net p) place) (get_or ((process net p).acting_effect now) place None)) old
        here = left ∙ ap (λ (o : Option ℕ). entry_or o old) (E.bodies.clocked_acts p clock place edge before now is)
