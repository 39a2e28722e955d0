-- Nets' new values and notes, as an update of drivers goes on.
use Rattle.std.proofs.Common.{◌≡◌, ℕ, ◌+◌, ◌-◌, ◌<◌, ◌≤◌, Bool, true, false, List, [], length, get_or, set, refl, sym, ap, subst, ◌∙◌, arith, ◌⊎◌, inl, inr, Contains}
use Rattle.std.proofs.lemmas.Bool.{cases_eq, cases_lt}
use Rattle.std.proofs.lemmas.List.{get_or-set_same, get_or-set_other}
use Rattle.rtl_net_groups.specs.Groups.{Grouping}
use Rattle.rtl_model.specs.nets.FlatNetlist.{FlatNetlist}
use Rattle.rtl_net.specs.Nets.{NetlistView, flat}
use Rattle.rtl_net.specs.declared.process.Process.{Process}
use Rattle.rtl_kernel.specs.drivers.Brought.{IsAlone, MarkAlone, NotedNets, AreNoted, IsDriver, IsDriverOf, IsBrought, is_noted, has_kept, has_value, Stay, AreBrought, Brings, BringsAll}
use Rattle.rtl_kernel.specs.drivers.Transactions.{driver_at, targets_of}
use Rattle.rtl_kernel.specs.values.TwoValues.{TwoValues, HasWritten, group_of}
use Rattle.rtl_net_groups.specs.Written.{IsWritten}
use Rattle.rtl_kernel.specs.worklists.Numbers.{Numbers}
use Rattle.rtl_net_groups.proofs.Replaced.{same_values}

-- the nets of a marked group have one source each
pub alone_marked : (wiring : FlatNetlist) (groups : Grouping) (marks : List Bool) (group : ℕ) → MarkAlone wiring groups marks
    → get_or marks group false ≡ true → (n : ℕ) → n < length groups.of_net → get_or groups.of_net n 0 ≡ group → IsAlone wiring n
alone_marked wiring groups marks group M told n l is = M.alone n l (ap (λ (g : ℕ). get_or marks g false) is ∙ told)

-- what is kept beside the values fits on, where their groups stay
pub still_noted : (net : NetlistView) (alone : List Bool) (v v' : TwoValues) (noted noted' : Numbers) → AreNoted net alone v noted → v'.groups ≡ v.groups
    → length v'.current ≡ length v.current → noted'.bound ≡ noted.bound → AreNoted net alone v' noted'
still_noted net alone v v' noted noted' I same many bound = record {
  each_net = many ∙ I.each_net;
  grouped = ap (λ (g : Grouping). length g.of_net) same ∙ I.grouped;
  marked = subst (λ (g : Grouping). MarkAlone (flat net) g alone) (sym same) I.marked;
  bound = bound ∙ I.bound ∙ ap (λ (g : Grouping). length g.listed) (sym same);
}

pub none_stay : (nets : NotedNets) → Stay nets nets
none_stay nets = record { net_stays = refl; groups_stay = refl; before_stays = refl; as_many = refl; noted_stay = λ g h. h }

pub then_stay : (a b d : NotedNets) → Stay a b → Stay b d → Stay a d
then_stay a b d A B = record {
  net_stays = B.net_stays ∙ A.net_stays;
  groups_stay = B.groups_stay ∙ A.groups_stay;
  before_stays = B.before_stays ∙ A.before_stays;
  as_many = B.as_many ∙ A.as_many;
  noted_stay = λ g h. B.noted_stay g (A.noted_stay g h);
}

-- what holds of the netlist and the groups of nets goes on to hold
pub still : (P : NetlistView → Grouping → Type 0) (a b : NotedNets) → Stay a b → P a.net a.values.groups → P b.net b.values.groups
still P a b S h = subst (λ (n : NetlistView). P n b.values.groups) (sym S.net_stays) (subst (P a.net) (sym S.groups_stay) h)

module _ {D : Type 0} (drives : D → ℕ → Type 0) where
  pub brought_none : (row : D → ℕ) (nets : NotedNets) → AreBrought drives row row nets nets
  brought_none row nets = record { stay = none_stay nets; each = λ n. has_kept refl (λ d own. refl) }

  -- one after the other
  module _ (row row' row'' : D → ℕ) (a b d : NotedNets) (A : AreBrought drives row row' a b) (B : AreBrought drives row' row'' b d) where
    -- the second from the netlist and the groups of the first
    abbrev base : NotedNets
    base = record { net = a.net; values = record { groups = a.values.groups; before = b.values.before; current = b.values.current }; noted = b.noted }

    is_base : b ≡ base
    is_base = λ i. record {
      net = A.stay.net_stays i;
      values = record { groups = A.stay.groups_stay i; before = b.values.before; current = b.values.current };
      noted = b.noted;
    }

    then_at : (n : ℕ) → IsBrought drives row row' a b n → IsBrought drives row' row'' base d n → IsBrought drives row row'' a d n
    then_at n _ (is_noted q own h) = is_noted q own h
    then_at n _ (has_value q own alone is) = has_value q own alone is
    then_at n (is_noted q own h) (has_kept _ _) = is_noted q own (B.stay.noted_stay (group_of a.values n) h)
    then_at n (has_kept same drivers) (has_kept same' drivers') = has_kept (same' ∙ same) (λ q own. drivers' q own ∙ drivers q own)
    then_at n (has_value q own alone is) (has_kept same' drivers') = has_value q own alone (same' ∙ is ∙ sym (drivers' q own))

    pub brought_then : AreBrought drives row row'' a d
    brought_then = record {
      stay = then_stay a b d A.stay B.stay;
      each = λ n. then_at n (A.each n) (subst (λ (m : NotedNets). IsBrought drives row' row'' m d n) is_base (B.each n));
    }

-- ---- new values of the drivers from a place on, whose nets are those from `first` on

module _ (targets row row' : List ℕ) (place first : ℕ) (values : List ℕ) (nets : NotedNets) (there : place + length values ≤ length targets)
    (is : (k : ℕ) → k < length values → get_or targets (place + k) 0 ≡ first + k) (W : IsWritten place values row row') where
  -- the driver of a net among these
  driver : (k : ℕ) → k < length values → IsDriver targets (place + k) (first + k)
  driver k l = record { there = omega (arith, l, there); is = is k l }

  -- a driver of another net keeps its value
  other : (m q : ℕ) → ((k : ℕ) → k < length values → first + k ≡ m → ⊥) → IsDriver targets q m → get_or row' q 0 ≡ get_or row q 0
  other m q out D = by (cases_lt q place) (cases_lt q (place + length values))
    where
      by : (q < place) ⊎ (place ≤ q) → (q < place + length values) ⊎ (place + length values ≤ q) → get_or row' q 0 ≡ get_or row q 0
      by (inl low) _ = W.below q low
      by (inr from) (inr high) = W.behind q high
      by (inr from) (inl l) =
          let k = q - place in
          let at : q ≡ place + k = omega arith in
          let within : k < length values = omega (arith, l, from) in
          absurd (out k within (sym (is k within) ∙ ap (λ (p : ℕ). get_or targets p 0) (sym at) ∙ D.is))

  -- a net is among these, or not
  among : (m : ℕ) → ((k : ℕ) × (k < length values) × (first + k ≡ m)) ⊎ ((k : ℕ) → k < length values → first + k ≡ m → ⊥)
  among m = by (cases_lt m first) (cases_lt m (first + length values))
    where
      by : (m < first) ⊎ (first ≤ m) → (m < first + length values) ⊎ (first + length values ≤ m)
          → ((k : ℕ) × (k < length values) × (first + k ≡ m)) ⊎ ((k : ℕ) → k < length values → first + k ≡ m → ⊥)
      by (inl low) _ = inr (λ k l e. omega (arith, low, l, e))
      by (inr from) (inr high) = inr (λ k l e. omega (arith, high, l, e))
      by (inr from) (inl l) = inl (m - first, omega (arith, from, l), omega (arith, from))

  -- they are the nets' one source each
  pub brings_at_once : (v : TwoValues) → HasWritten first values nets.values v
      → ((k : ℕ) → k < length values → IsAlone (flat nets.net) (first + k)) → Brings targets row row' nets (record nets { values = v })
  brings_at_once v H alone = record {
    stay = record {
      net_stays = refl;
      groups_stay = H.groups_stay;
      before_stays = H.before_stays;
      as_many = H.current.as_many;
      noted_stay = λ g h. h;
    };
    each = λ m. by m (among m);
  }
    where
      kept : (m : ℕ) → ((k : ℕ) → k < length values → first + k ≡ m → ⊥) → get_or v.current m 0 ≡ get_or nets.values.current m 0
      kept m out = at (cases_lt m first) (cases_lt m (first + length values))
        where
          at : (m < first) ⊎ (first ≤ m) → (m < first + length values) ⊎ (first + length values ≤ m)
              → get_or v.current m 0 ≡ get_or nets.values.current m 0
          at (inl low) _ = H.current.below m low
          at (inr from) (inr high) = H.current.behind m high
          at (inr from) (inl l) = absurd (out (m - first) (omega (arith, from, l)) (omega (arith, from)))

      by : (m : ℕ) → ((k : ℕ) × (k < length values) × (first + k ≡ m)) ⊎ ((k : ℕ) → k < length values → first + k ≡ m → ⊥)
          → IsBrought (λ place net. IsDriver targets place net) (λ q. get_or row q 0) (λ q. get_or row' q 0) nets (record nets { values = v }) m
      by m (inl (k, l, e)) =
          rw (← e) (has_value (place + k) (driver k l) (alone k l) (H.current.written k l ∙ sym (W.written k l)))
      by m (inr out) = has_kept (kept m out) (λ q D. other m q out D)

  -- their nets' group is noted
  pub brings_later : (noted : List ℕ) → ((g : ℕ) → Contains nets.noted g → Contains noted g)
      → ((k : ℕ) → k < length values → Contains noted (group_of nets.values (first + k))) → Brings targets row row' nets (record nets { noted = noted })
  brings_later noted kept added = record {
    stay = record { net_stays = refl; groups_stay = refl; before_stays = refl; as_many = refl; noted_stay = kept };
    each = λ m. by m (among m);
  }
    where
      by : (m : ℕ) → ((k : ℕ) × (k < length values) × (first + k ≡ m)) ⊎ ((k : ℕ) → k < length values → first + k ≡ m → ⊥)
          → IsBrought (λ place net. IsDriver targets place net) (λ q. get_or row q 0) (λ q. get_or row' q 0) nets (record nets { noted = noted }) m
      by m (inl (k, l, e)) = rw (← e) (is_noted (place + k) (driver k l) (added k l))
      by m (inr out) = has_kept refl (λ q D. other m q out D)

  -- they had these values before
  pub brings_nothing : ((k : ℕ) → k < length values → get_or row (place + k) 0 ≡ get_or values k 0) → Brings targets row row' nets nets
  brings_nothing were =
      subst (λ (r : List ℕ). Brings targets row r nets nets) (same_values place values row row' W were)
      (brought_none (λ place net. IsDriver targets place net) (λ q. get_or row q 0) nets)

-- ---- those of one process are some of those of all

module _ (processes : List Process) (rows : List (List ℕ)) (p : ℕ) (row : List ℕ) (there : p < length rows) (a b : NotedNets)
    (B : Brings (targets_of processes p) (get_or rows p []) row a b) where
  own : get_or (set rows p row) p [] ≡ row
  own = get_or-set_same rows p row [] there

  -- drivers of this net stay, where those of p do
  stays : (n : ℕ) → ((place : ℕ) → IsDriver (targets_of processes p) place n → get_or row place 0 ≡ get_or (get_or rows p []) place 0)
      → (q place : ℕ) → IsDriver (targets_of processes q) place n → driver_at (set rows p row) q place ≡ driver_at rows q place
  stays n same q place D = by (cases_eq q p)
    where
      by : (q ≡ p) ⊎ (q ≡ p → ⊥) → driver_at (set rows p row) q place ≡ driver_at rows q place
      by (inl is) =
          let D' = subst (λ (k : ℕ). IsDriver (targets_of processes k) place n) is D in
          ap (λ (k : ℕ). driver_at (set rows p row) k place) is ∙ ap (λ (r : List ℕ). get_or r place 0) own ∙ same place D'
          ∙ sym (ap (λ (k : ℕ). driver_at rows k place) is)
      by (inr other) = ap (λ (r : List ℕ). get_or r place 0) (get_or-set_other rows p q row [] other)

  pub brings_one : BringsAll processes rows (set rows p row) a b
  brings_one = record { stay = B.stay; each = λ n. by n (B.each n) }
    where
      by : (n : ℕ) → IsBrought (λ place net. IsDriver (targets_of processes p) place net) (λ q. get_or (get_or rows p []) q 0) (λ q. get_or row q 0) a b n
          → IsBrought (IsDriverOf processes) (λ d. driver_at rows d.0 d.1) (λ d. driver_at (set rows p row) d.0 d.1) a b n
      by n (is_noted place D h) = is_noted (p, place) D h
      by n (has_kept same drivers) = has_kept same (λ d D. stays n drivers d.0 d.1 D)
      by n (has_value place D alone is) = has_value (p, place) D alone (is ∙ sym (ap (λ (r : List ℕ). get_or r place 0) own))
