-- A round of rows, without its hubs, is a loop of nets.
use Rattle.std.proofs.Common.{◌≡◌, ◌≢◌, ℕ, ◌<◌, ◌≤◌, ◌⊎◌, inl, inr, Bool, true, false, cond, List, [], ◌∷◌, length, nat_lt, refl, sym, ap, subst, ◌∙◌, arith, suc, get_or, Contains, All}
use Rattle.std.specs.Prelude.{filter, ⊤}
use Rattle.std.proofs.lemmas.Bool.{cases_Bool, cases_lt, ltb-true, ltb-false}
use Rattle.std.proofs.lemmas.List.{get_or_default}
use Rattle.std.proofs.lemmas.List.Elements.{All-filter}
use Rattle.std.proofs.lemmas.List.Kept.{AllPairs-filter}
use Rattle.rtl_model.proofs.basics.Lists.{Contains-first}
use Rattle.rtl_model.specs.basics.Chains.{IsRound}
use Rattle.rtl_model.specs.simulation.Netlist.{Netlist}
use Rattle.rtl_model.specs.simulation.Accepted.{IsNetLoop, LooksAt}
use Rattle.rtl_check_levels.specs.Feeding.{Table, Feeds}
use Rattle.rtl_check_levels.specs.Rounds as rounds
use Rattle.rtl_check_levels.specs.Rounds.{AreFed, IsListedOnce}
use Rattle.rtl_check_nets.specs.Rows.{IsNetTable, StandsFor, itself, behind}

Contains-cons : (x : ℕ) (xs : List ℕ) (y : ℕ) → Contains xs y → Contains (x ∷ xs) y
Contains-cons x xs y (k, l, e) = (suc k, omega arith, e)

pub lt_is : (a b : ℕ) → a < b → nat_lt a b ≡ true
lt_is a b l = elim (cases_Bool (nat_lt a b)) [ inl e ↦ e | inr e ↦ absurd (let k = ltb-false a b e in omega arith) ]

module _ (net : Netlist) (table : Table) (counts : ℕ → Bool) (t : IsNetTable net table counts) where
  abbrev nets : ℕ
  nets = length net.start

  abbrev among : List ℕ → List ℕ
  among rows = filter (λ row. nat_lt row nets) rows

  a_net : (r : ℕ) (more : List ℕ) → nat_lt r nets ≡ true → among (r ∷ more) ≡ r ∷ among more
  a_net r more e = ap (λ (b : Bool). cond b (r ∷ among more) (among more)) e

  a_hub : (r : ℕ) (more : List ℕ) → nat_lt r nets ≡ false → among (r ∷ more) ≡ among more
  a_hub r more e = ap (λ (b : Bool). cond b (r ∷ among more) (among more)) e

  abbrev head_or : List ℕ → ℕ → ℕ
  head_or [] f = f
  head_or (x ∷ xs) f = x

  -- from a net f on, back to which the round leads
  module _ (f : ℕ) (is_net : f < nets) where
    abbrev Leads : List ℕ → Type 0
    Leads [] = ⊤
    Leads (y ∷ ys) = IsRound (λ m n. LooksAt net n m) f (y ∷ ys)

    -- what feeds a row stands for the next net of the round
    next_stands : (p : ℕ) (rest : List ℕ) → AreFed table (p ∷ rest) f → (row : ℕ) × Feeds table row p × StandsFor nets table (head_or (among rest) f) row
    next_stands p [] feeds = (f, feeds, itself is_net)
    next_stands p (r ∷ more) (feeds, fed) = go (next_stands r more fed) (cases_Bool (nat_lt r nets))
      where
        go : ((row : ℕ) × Feeds table row r × StandsFor nets table (head_or (among more) f) row) → (nat_lt r nets ≡ true) ⊎ (nat_lt r nets ≡ false) → (row : ℕ) × Feeds table row p × StandsFor nets table (head_or (among (r ∷ more)) f) row
        go next (inl e) = (r, feeds, subst (λ (ys : List ℕ). StandsFor nets table (head_or ys f) r) (sym (a_net r more e)) (itself (ltb-true r nets e)))
        go (row, onward, stands) (inr e) =
            (r, feeds, subst (λ (ys : List ℕ). StandsFor nets table (head_or ys f) r) (sym (a_hub r more e)) (behind r row (ltb-false r nets e) onward stands))

    joined : (x : ℕ) (ys : List ℕ) → LooksAt net x (head_or ys f) → Leads ys → IsRound (λ m n. LooksAt net n m) f (x ∷ ys)
    joined x [] looks leads = looks
    joined x (y ∷ ys) looks leads = (looks, leads)

    looks_next : (x : ℕ) (rest : List ℕ) → x < nets → AreFed table (x ∷ rest) f → LooksAt net x (head_or (among rest) f)
    looks_next x rest l fed = (t.looks x (head_or (among rest) f) l).1 (next_stands x rest fed)

    leads : (p : ℕ) (rest : List ℕ) → AreFed table (p ∷ rest) f → Leads (among rest)
    leads p [] fed = tt
    leads p (r ∷ more) (feeds, fed) = go (leads r more fed) (cases_Bool (nat_lt r nets))
      where
        go : Leads (among more) → (nat_lt r nets ≡ true) ⊎ (nat_lt r nets ≡ false) → Leads (among (r ∷ more))
        go onward (inl e) = subst Leads (sym (a_net r more e)) (joined r (among more) (looks_next r more (ltb-true r nets e) fed) onward)
        go onward (inr e) = subst Leads (sym (a_hub r more e)) onward

  pub net_loop : (f : ℕ) (rest : List ℕ) → f < nets → rounds.IsRound table (f ∷ rest) → IsNetLoop net (among (f ∷ rest))
  net_loop f rest l round =
      subst (IsNetLoop net) (sym (a_net f rest (lt_is f nets l)))
      (joined f l f (among rest) (looks_next f l f rest l round) (leads f l f rest round))

  -- hubs alone are no round: each is fed by hubs before it, so the last would be below the first
  descends : (p : ℕ) (rest : List ℕ) (f : ℕ) → nets ≤ p → ((r : ℕ) → Contains rest r → nets ≤ r) → AreFed table (p ∷ rest) f → f < p
  descends p [] f past all feeds = t.hubs f p past feeds
  descends p (r ∷ more) f past all (feeds, fed) =
      let below = t.hubs r p past feeds in
      let l = descends r more f (all r (Contains-first r more)) (λ s c. all s (Contains-cons r more s c)) fed in
      omega arith

  -- a round whose first row is the lowest begins with a net
  pub begins_with_net : (f : ℕ) (rest : List ℕ) → rounds.IsRound table (f ∷ rest) → ((r : ℕ) → Contains rest r → f ≤ r) → f < nets
  begins_with_net f rest round lowest = go (cases_lt f nets)
    where
      go : (f < nets) ⊎ (nets ≤ f) → f < nets
      go (inl l) = l
      go (inr past) = let l = descends f rest f past (λ r c. let k = lowest r c in omega arith) round in omega arith

  -- ---- how it is listed

  listed_among : (f : ℕ) (rest : List ℕ) → f < nets → IsListedOnce (f ∷ rest) → IsListedOnce (among (f ∷ rest))
  listed_among f rest l o = record {
    once = AllPairs-filter (λ p q. p ≢ q) (λ row. nat_lt row nets) (f ∷ rest) o.once;
    lowest = low;
  }
    where
      all : All (λ r. f ≤ r) (f ∷ rest)
      all k d h = o.lowest (get_or (f ∷ rest) k d) (k, h, get_or_default (f ∷ rest) k (get_or (f ∷ rest) k d) d h)

      first : get_or (among (f ∷ rest)) 0 0 ≡ f
      first = ap (λ (xs : List ℕ). get_or xs 0 0) (a_net f rest (lt_is f nets l))

      low : (p : ℕ) → Contains (among (f ∷ rest)) p → get_or (among (f ∷ rest)) 0 0 ≤ p
      low p (k, h, e) =
          let m : f ≤ get_or (among (f ∷ rest)) k p = All-filter (λ row. nat_lt row nets) (λ r. f ≤ r) (f ∷ rest) all k p h in
          let n = first in omega arith

  -- a round that is listed once is a loop of nets that is
  pub loop_among : (round : List ℕ) → rounds.IsRound table round → IsListedOnce round → IsNetLoop net (among round) × IsListedOnce (among round)
  loop_among [] r o = absurd r
  loop_among (f ∷ rest) r o =
      let l = begins_with_net f rest r (λ s c. o.lowest s (Contains-cons f rest s c)) in
      (net_loop f rest l r, listed_among f rest l o)
