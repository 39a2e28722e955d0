-- What stands behind the rows of hubs are the nets behind their looks.
use Rattle.std.proofs.Common.{◌≡◌, ℕ, zero, suc, ◌+◌, ◌<◌, ◌≤◌, ◌⊎◌, inl, inr, Bool, true, false, List, [], ◌∷◌, ◌++◌, length, get_or, map, nat_lt, Option, Some, None, refl, sym, ap, subst, ◌∙◌, arith, Contains}
use Rattle.std.specs.Prelude.{if◌then◌else◌}
use Rattle.std.proofs.lemmas.Bool.{cases_lt, cases_Bool, ltb-true}
use Rattle.std.proofs.lemmas.List.{get_or_append_left, get_or_push, length_push}
use Rattle.std.proofs.lemmas.List.Elements.{Contains-append_left, Contains-append_right, Contains-append_cases}
use Rattle.rtl_looks.specs.declared.hubs.Look.{Look}
use Rattle.rtl_looks.specs.declared.hubs.Look.TheVariants as l
use Rattle.rtl_looks.specs.declared.hubs.Hub.{Hub}
use Rattle.rtl_looks.specs.Denoting.{IsBelow, InOrderFrom, AreInOrder, nets_by, nets_behind}
use Rattle.rtl_check_levels.specs.Feeding.{Table, Feeds, feeders_of}
use Rattle.rtl_check_nets.specs.Building.{rows_at, hub_feeders}
use Rattle.rtl_check_nets.proofs.Circles.{lt_is}
use Rattle.rtl_check_nets.specs.Rows.{StandsFor, itself, behind}

pub none_there : (m : ℕ) → Contains [] m → ⊥
none_there m c = let l : c.0 < 0 = c.1 in omega arith

pub one_is : (n m : ℕ) → Contains (n ∷ []) m → n ≡ m
one_is n m (zero, h, e) = e
one_is n m (suc k, h, e) = absurd (omega arith)

pub behind_length : (known : List (List ℕ)) (hubs : List Hub) → length (nets_behind known hubs) ≡ length known + length hubs
behind_length known [] = omega arith
behind_length known (hub ∷ hubs) =
    let new = nets_by known hub.left ++ nets_by known hub.right in
    let e = behind_length (known ++ new ∷ []) hubs in
    let k = length_push known new in
    omega arith

module _ (nets : ℕ) (table : Table) where
  beneath : (m row : ℕ) → StandsFor nets table m row → nets ≤ row → (p : ℕ) × Feeds table p row × StandsFor nets table m p
  beneath m row (itself l) past = absurd (omega arith)
  beneath m row (behind hub p past feeds stands) l = (p, feeds, stands)

  a_net : (m row : ℕ) → StandsFor nets table m row → row < nets → row ≡ m
  a_net m row (itself l) small = refl
  a_net m row (behind hub p past feeds stands) small = absurd (omega arith)

  -- of hubs that are known
  abbrev AreKnown : List (List ℕ) → Type 0
  AreKnown known = (k m : ℕ) → k < length known
      → (m < nets → Contains (get_or known k []) m → StandsFor nets table m (nets + k)) × (StandsFor nets table m (nets + k) → Contains (get_or known k []) m)

  -- the rows of a look stand for the nets behind it
  abbrev pub Shows : List (List ℕ) → Look → (m : ℕ) → Type 0
  Shows known look m =
      (m < nets → Contains (nets_by known look) m → (row : ℕ) × Contains (rows_at nets look) row × StandsFor nets table m row)
      × ((row : ℕ) → Contains (rows_at nets look) row → StandsFor nets table m row → Contains (nets_by known look) m)

  shows : (known : List (List ℕ)) → AreKnown known → (look : Look) → IsBelow (length known) look → (m : ℕ) → Shows known look m
  shows known K (l.Hub hub) below m = (
    λ small c. (nets + hub, (0, omega arith, refl), (K hub m below).0 small c),
    λ row c stands. (K hub m below).1 (subst (StandsFor nets table m) (sym (one_is (nets + hub) row c)) stands),
  )
  shows known K (l.Net n) below m = (forth, λ row c stands. back row (cases_Bool (nat_lt n nets)) c stands)
    where
      there : m < nets → Contains (rows_at nets (l.Net m)) m
      there small = subst (λ (b : Bool). Contains (if b then (m ∷ []) else []) m) (sym (lt_is m nets small)) (0, omega arith, refl)

      forth : m < nets → Contains (n ∷ []) m → (row : ℕ) × Contains (rows_at nets (l.Net n)) row × StandsFor nets table m row
      forth small c = (m, subst (λ (k : ℕ). Contains (rows_at nets (l.Net k)) m) (sym (one_is n m c)) (there small), itself small)

      back : (row : ℕ) → (nat_lt n nets ≡ true) ⊎ (nat_lt n nets ≡ false) → Contains (rows_at nets (l.Net n)) row → StandsFor nets table m row → Contains (n ∷ []) m
      back row (inr e) c stands = absurd (none_there row (subst (λ (b : Bool). Contains (if b then (n ∷ []) else []) row) e c))
      back row (inl e) c stands =
          let is = one_is n row (subst (λ (b : Bool). Contains (if b then (n ∷ []) else []) row) e c) in
          let l = ltb-true n nets e in
          (0, omega arith, is ∙ a_net m row stands (omega arith))

  grown : (known : List (List ℕ)) → AreKnown known → (left right : Look) → IsBelow (length known) left → IsBelow (length known) right
      → feeders_of table (nets + length known) ≡ rows_at nets left ++ rows_at nets right → AreKnown (known ++ (nets_by known left ++ nets_by known right) ∷ [])
  grown known K left right a b fed k m h = go (cases_lt k (length known))
    where
      new : List ℕ
      new = nets_by known left ++ nets_by known right

      Known : List ℕ → Type 0
      Known xs = (m < nets → Contains xs m → StandsFor nets table m (nets + k)) × (StandsFor nets table m (nets + k) → Contains xs m)

      last : length known ≡ k → Known new
      last e = (λ small c. forth small (Contains-append_cases (nets_by known left) (nets_by known right) m c), back)
        where
          here : feeders_of table (nets + k) ≡ rows_at nets left ++ rows_at nets right
          here = subst (λ (x : ℕ). feeders_of table (nets + x) ≡ rows_at nets left ++ rows_at nets right) e fed

          forth : m < nets → Contains (nets_by known left) m ⊎ Contains (nets_by known right) m → StandsFor nets table m (nets + k)
          forth small (inl c) =
              let (row, in_row, stands) = (shows known K left a m).0 small c in
              behind (nets + k) row (omega arith) (subst (λ (xs : List ℕ). Contains xs row) (sym here) (Contains-append_left (rows_at nets left) (rows_at nets right) row in_row)) stands
          forth small (inr c) =
              let (row, in_row, stands) = (shows known K right b m).0 small c in
              behind (nets + k) row (omega arith) (subst (λ (xs : List ℕ). Contains xs row) (sym here) (Contains-append_right (rows_at nets left) (rows_at nets right) row in_row)) stands

          by_side : (p : ℕ) → StandsFor nets table m p → Contains (rows_at nets left) p ⊎ Contains (rows_at nets right) p → Contains new m
          by_side p stands (inl c) = Contains-append_left (nets_by known left) (nets_by known right) m ((shows known K left a m).1 p c stands)
          by_side p stands (inr c) = Contains-append_right (nets_by known left) (nets_by known right) m ((shows known K right b m).1 p c stands)

          back : StandsFor nets table m (nets + k) → Contains new m
          back stands =
              let (p, feeds, onward) = beneath m (nets + k) stands (omega arith) in
              by_side p onward (Contains-append_cases (rows_at nets left) (rows_at nets right) p (subst (λ (xs : List ℕ). Contains xs p) here feeds))

      go : (k < length known) ⊎ (length known ≤ k) → Known (get_or (known ++ new ∷ []) k [])
      go (inl small) = subst Known (sym (get_or_append_left known (new ∷ []) [] k small)) (K k m small)
      go (inr past) = let e : length known ≡ k = (let n = length_push known new in omega arith) in subst Known (sym (get_or_push known new [] k e)) (last e)

  all_known : (known : List (List ℕ)) → AreKnown known → (hubs : List Hub) → InOrderFrom (length known) hubs
      → ((k : ℕ) (hub : Hub) → get_or (map Some hubs) k None ≡ Some hub → feeders_of table (nets + (length known + k)) ≡ hub_feeders nets hub) → AreKnown (nets_behind known hubs)
  all_known known K [] order fed = K
  all_known known K (hub ∷ hubs) (a, b, order) fed =
      let new = nets_by known hub.left ++ nets_by known hub.right in
      let n : length known + 1 ≡ length (known ++ new ∷ []) = (let k = length_push known new in omega arith) in
      let first : nets + (length known + 0) ≡ nets + length known = omega arith in
      all_known (known ++ new ∷ []) (grown known K hub.left hub.right a b (subst (λ (r : ℕ). feeders_of table r ≡ hub_feeders nets hub) first (fed 0 hub refl))) hubs
      (subst (λ (x : ℕ). InOrderFrom x hubs) n order)
      (λ k h e. let next : nets + (length known + suc k) ≡ nets + (length (known ++ new ∷ []) + k) = omega arith in
      subst (λ (r : ℕ). feeders_of table r ≡ hub_feeders nets h) next (fed (suc k) h e))

  pub looks_stand : (hubs : List Hub) → AreInOrder hubs
      → ((k : ℕ) (hub : Hub) → get_or (map Some hubs) k None ≡ Some hub → feeders_of table (nets + k) ≡ hub_feeders nets hub)
      → (look : Look) → IsBelow (length hubs) look → (m : ℕ) → Shows (nets_behind [] hubs) look m
  looks_stand hubs order fed look below m =
      let from_0 : (k : ℕ) (hub : Hub) → get_or (map Some hubs) k None ≡ Some hub → feeders_of table (nets + (0 + k)) ≡ hub_feeders nets hub
      = (λ k hub e. let same : nets + k ≡ nets + (0 + k) = omega arith in subst (λ (r : ℕ). feeders_of table r ≡ hub_feeders nets hub) same (fed k hub e)) in
      shows (nets_behind [] hubs) (all_known [] (λ k r h. absurd (omega arith)) hubs order from_0) look (let n : length hubs ≡ length (nets_behind [] hubs) = (let e = behind_length [] hubs in omega arith) in subst (λ (n : ℕ). IsBelow n look) n below) m
