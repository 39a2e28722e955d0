-- Signals found by a table of their names.
use Rattle.std.proofs.Common.{◌≡◌, ℕ, suc, ◌+◌, ◌<◌, ◌≤◌, ◌-◌, Bool, true, false, List, [], ◌∷◌, length, map, drop, get_or, slice_get, Option, Some, None, Vec, refl, sym, ap, ◌∙◌, arith}
use Rattle.std.specs.Prelude.{if◌then◌else◌, bytes_eq, option_map}
use Rattle.std.specs.Global.{Global}
use Rattle.std.specs.HashMap.{HashMap, Updates, get_by}
use Rattle.std.specs.Map.{KeepsOthers, IsKeyTest, AreApart, lookup}
use Rattle.std.proofs.Math.Seq.{drop-cons}
use Rattle.std.proofs.lemmas.List.{length-map, get_or-map}
use Rattle.std.proofs.lemmas.Option.{slice_get_within}
use Rattle.std.proofs.lemmas.Slice.Eq.{bytes_eq-Decides}
use Rattle.rtl_net.specs.declared.signal.Signal.{Signal}
use Rattle.rtl_net.specs.Nets.{NetlistView, ScopeView, SignalView, signal_view}
use Rattle.rtl_stim_lines.specs.Lines.{Word}
use Rattle.rtl_stim_lines.specs.Inputs.{small}
use Rattle.rtl_signal_names.specs.Names.{are_alike}
use Rattle.rtl_signal_names.specs.Names.{is_named, signal_from, signal_named}
use Rattle.rtl_signal_names.specs.Naming.{kept_number}
use Rattle.rtl_signal_names.proofs.Labels.{signal_at}

-- ---- one more name

abbrev same_key : Vec ℕ Global → Vec ℕ Global → Bool
same_key a b = bytes_eq a.items b.items

other_keys : {X : Type 0} (test : Vec ℕ Global → Bool) (old new : List (Vec ℕ Global × X)) → KeepsOthers same_key test old new → (other : Vec ℕ Global → Bool)
    → IsKeyTest same_key other → AreApart test other → lookup other new ≡ lookup other old
unfolding KeepsOthers
other_keys test old new keeps = keeps

is_same : (a b : List ℕ) → bytes_eq a b ≡ true → a ≡ b
is_same a b = (bytes_eq-Decides a b).0

pub one_more_name : {S : Type 0} (old new : HashMap (Vec ℕ Global) ℕ S) (key : Vec ℕ Global) (number : ℕ) (full name : Word) → Updates same_key old new key (Some number)
    → key.items ≡ small full → kept_number new name ≡ (if are_alike name full then Some number else kept_number old name)
one_more_name old new key number full name updates is = by (are_alike name full) refl
  where
    by : (b : Bool) → are_alike name full ≡ b → kept_number new name ≡ (if b then Some number else kept_number old name)
    by true alike =
        let same : small name ≡ key.items = is_same (small name) (small full) alike ∙ sym is in
        ap (λ (t : List ℕ). get_by (λ k. bytes_eq t k.items) new) same ∙ updates.1
    by false differ =
        other_keys (same_key key) old.entries new.entries updates.3 (λ k. bytes_eq (small name) k.items)
        (λ x y alike. ap (λ (t : List ℕ). bytes_eq t y.items) (is_same (small name) x.items alike))
        (λ k alike. ap (bytes_eq (small name)) (sym (is_same key.items k.items alike) ∙ is) ∙ differ)

-- ---- the signals from a number on

abbrev pub number_from : List ScopeView → (number : ℕ) → List SignalView → (name : Word) → Option ℕ
number_from scopes number signals name = option_map (λ found. found.0) (signal_from scopes number signals name)

one_more : (scopes : List ScopeView) (k : ℕ) (s : SignalView) (ss : List SignalView) (name : Word)
    → number_from scopes k (s ∷ ss) name ≡ (if is_named scopes name s then Some k else number_from scopes (suc k) ss name)
one_more scopes k s ss name = by (is_named scopes name s)
  where
    by : (b : Bool) → option_map (λ found. found.0) (if b then Some (k, s) else signal_from scopes (suc k) ss name) ≡ (if b then Some k else number_from scopes (suc k) ss name)
    by true = refl
    by false = refl

-- the signal before this number
pub one_before : (scopes : List ScopeView) (signals : List Signal) (number : ℕ) (s : Signal) (name : Word) (now before : Option ℕ) → 0 < number → number ≤ length signals
    → s ≡ get_or signals (number - 1) s → before ≡ number_from scopes number (drop number (map signal_view signals)) name
    → now ≡ (if is_named scopes name (signal_view s) then Some (number - 1) else before)
    → now ≡ number_from scopes (number - 1) (drop (number - 1) (map signal_view signals)) name
one_before scopes signals number s name now before some within is was more =
    let k = number - 1 in
    let views = map signal_view signals in
    let v = signal_view s in
    let back : number ≡ suc k = omega (arith, some) in
    let there : k < length signals = omega (arith, some, within) in
    let there' : k < length views = omega (arith, there, length-map signals signal_view) in
    let view : get_or views k v ≡ v = get_or-map signal_view signals k s v there ∙ ap signal_view (sym is) in
    let cut : drop k views ≡ v ∷ drop (suc k) views = drop-cons views k v there' ∙ ap (λ (x : SignalView). x ∷ drop (suc k) views) view in
    more ∙ ap (λ (o : Option ℕ). if is_named scopes name v then Some k else o) (was ∙ ap (λ (m : ℕ). number_from scopes m (drop m views) name) back)
    ∙ sym (one_more scopes k v (drop (suc k) views) name) ∙ ap (λ (ss : List SignalView). number_from scopes k ss name) (sym cut)

-- ---- the signal of a number

pub record IsFound (scopes : List ScopeView) (k : ℕ) (signals : List SignalView) (name : Word) (number : ℕ) : Type 0 where
  pub signal : SignalView
  pub is : signal_from scopes k signals name ≡ Some (number, signal)
  pub place : ℕ
  pub behind : number ≡ k + place
  pub there : slice_get signals place ≡ Some signal

pub found_from : (scopes : List ScopeView) (k : ℕ) (signals : List SignalView) (name : Word) (number : ℕ) → Some number ≡ number_from scopes k signals name
    → IsFound scopes k signals name number
found_from scopes k [] name number has = absurd (none number has)
  where
    none : (n : ℕ) → Some n ≡ None → ⊥
    none n is = cc
found_from scopes k (s ∷ ss) name number has = by (is_named scopes name s) refl (λ rest. found_from scopes (suc k) ss name number rest)
  where
    by : (b : Bool) → is_named scopes name s ≡ b → (Some number ≡ number_from scopes (suc k) ss name → IsFound scopes (suc k) ss name number) → IsFound scopes k (s ∷ ss) name number
    by true is more =
        let one : Some number ≡ Some k = has ∙ one_more scopes k s ss name ∙ ap (λ (b : Bool). if b then Some k else number_from scopes (suc k) ss name) is in
        let same : number ≡ k = cc in
        record {
          signal = s;
          is = ap (λ (b : Bool). if b then Some (k, s) else signal_from scopes (suc k) ss name) is ∙ ap (λ (n : ℕ). Some (n, s)) (sym same);
          place = 0;
          behind = omega (arith, same);
          there = refl;
        }
    by false is more =
        let F = more (has ∙ one_more scopes k s ss name ∙ ap (λ (b : Bool). if b then Some k else number_from scopes (suc k) ss name) is) in
        record {
          signal = F.signal;
          is = ap (λ (b : Bool). if b then Some (k, s) else signal_from scopes (suc k) ss name) is ∙ F.is;
          place = suc F.place;
          behind = let b = F.behind in omega (arith, b);
          there = F.there;
        }

pub number_there : (net : NetlistView) (signals : List Signal) (name : Word) (number : ℕ) → map signal_view signals ≡ net.signals → IsFound net.scopes 0 net.signals name number
    → number < length signals
number_there net signals name number views F =
    let within = slice_get_within net.signals F.place F.signal F.there in
    let behind = F.behind in
    omega (arith, within, behind, ap length views, length-map signals signal_view)

one_signal : (x y : SignalView) (o : Option SignalView) → o ≡ Some x → o ≡ Some y → x ≡ y
one_signal x y o a b = cc

pub found_signal : (net : NetlistView) (signals : List Signal) (name : Word) (number : ℕ) (s : Signal) → map signal_view signals ≡ net.signals
    → IsFound net.scopes 0 net.signals name number → s ≡ get_or signals number s → Some (number, signal_view s) ≡ signal_named net name
found_signal net signals name number s views F is =
    let at : number ≡ F.place = let behind = F.behind in omega (arith, behind) in
    let kept = signal_at net signals views number s s (number_there net signals name number views F) is in
    let same : F.signal ≡ signal_view s = one_signal F.signal (signal_view s) (slice_get net.signals F.place) F.there (ap (slice_get net.signals) (sym at) ∙ kept) in
    sym (F.is ∙ ap (λ (x : SignalView). Some (number, x)) same)
