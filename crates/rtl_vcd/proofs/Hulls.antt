-- Blocks: how they grow, and that one whose nets keep their values prints nothing.
use Rattle.std.proofs.Common.{◌≡◌, ℕ, suc, ◌+◌, ◌<◌, ◌≤◌, ◌-◌, min, max, List, [], ◌∷◌, ◌++◌, length, map, take, drop, get_or, true, refl, sym, ap, subst, ◌∙◌, arith, ⊎_elim, All, slice_index}
use Rattle.std.specs.Prelude.{Contains}
use Rattle.std.specs.Str.{bytes_eq}
use Rattle.std.proofs.lemmas.Slice.Eq.{bytes_eq-Decides}
use Rattle.std.proofs.lemmas.List.{length-take, length-drop, length-append, append-nil, take-append-drop, drop-drop, drop_more, take_all, drop_all, take-append-le, drop-append-le}
use Rattle.std.specs.List.{between}
use Rattle.std.proofs.lemmas.List.Edits.{get_or-between}
use Rattle.std.proofs.lemmas.List.Elements.{All-contains, All-head, All-tail, All-cons, All-nil, All-append, All-weaker, All-more, Contains-get_or}
use Rattle.std.proofs.lemmas.Bool.{cases_lt}
use Rattle.rtl_net.specs.Nets.{SignalView}
use Rattle.rtl_vcd.specs.declared.blocks.Block.{Block}
use Rattle.rtl_vcd_values.specs.Values.{code, value_change}
use Rattle.rtl_vcd.specs.Trace.{printed, change}
use Rattle.rtl_net.specs.Showing.{IsShown}
use Rattle.rtl_vcd.specs.Blocks.{IsBlockOf, AreBlocks, changes_from}

pub one_name : (nets : ℕ) (s : SignalView) (b : Block) → IsShown nets s → b.names ≡ 1 → Contains s.nets b.least → Contains s.nets b.greatest
    → All (λ n. (b.least ≤ n) × (n ≤ b.greatest)) s.nets → IsBlockOf nets b (s ∷ [])
one_name nets s b shown count least greatest lie = record {
  count = count;
  order = (All-contains (λ n. (b.least ≤ n) × (n ≤ b.greatest)) s.nets b.least lie least).1;
  there = All-contains (λ n. n < nets) s.nets b.greatest shown.there greatest;
  between = All-cons (λ (t : SignalView). All (λ n. (b.least ≤ n) × (n ≤ b.greatest)) t.nets) s [] lie (All-nil (λ (t : SignalView). All (λ n. (b.least ≤ n) × (n ≤ b.greatest)) t.nets));
}

wider : (l g least greatest : ℕ) (ns : List ℕ) → least ≤ l → g ≤ greatest → All (λ n. (l ≤ n) × (n ≤ g)) ns → All (λ n. (least ≤ n) × (n ≤ greatest)) ns
wider l g least greatest ns low high = All-weaker (λ n. (l ≤ n) × (n ≤ g)) (λ n. (least ≤ n) × (n ≤ greatest)) (λ n h. (omega (arith, low, h.0), omega (arith, high, h.1))) ns

-- the names of two blocks in one
pub both_blocks : (nets : ℕ) (names more : List SignalView) (b c d : Block) → d.names ≡ b.names + c.names → d.least ≡ min b.least c.least
    → d.greatest ≡ max b.greatest c.greatest → IsBlockOf nets b names → IsBlockOf nets c more → IsBlockOf nets d (names ++ more)
both_blocks nets names more b c d count low high one other =
    let Between : SignalView → Type 0 = λ t. All (λ n. (d.least ≤ n) × (n ≤ d.greatest)) t.nets in
    let before : All Between names =
    All-weaker (λ (t : SignalView). All (λ n. (b.least ≤ n) × (n ≤ b.greatest)) t.nets) Between
    (λ t h. wider b.least b.greatest d.least d.greatest t.nets (omega (arith, low)) (omega (arith, high)) h) names one.between in
    let behind : All Between more =
    All-weaker (λ (t : SignalView). All (λ n. (c.least ≤ n) × (n ≤ c.greatest)) t.nets) Between
    (λ t h. wider c.least c.greatest d.least d.greatest t.nets (omega (arith, low)) (omega (arith, high)) h) more other.between in
    record {
      count = omega (arith, count, one.count, other.count, length-append names more);
      order = omega (arith, low, high, one.order);
      there = omega (arith, high, one.there, other.there);
      between = All-append Between names more before behind;
    }

-- one that is compared, or isn't
pub same_bounds : (nets : ℕ) (names : List SignalView) (b c : Block) → c.names ≡ b.names → c.least ≡ b.least → c.greatest ≡ b.greatest
    → IsBlockOf nets b names → IsBlockOf nets c names
same_bounds nets names b c count low high is = record {
  count = count ∙ is.count;
  order = omega (arith, low, high, is.order);
  there = omega (arith, high, is.there);
  between =
      All-weaker (λ (t : SignalView). All (λ n. (b.least ≤ n) × (n ≤ b.greatest)) t.nets) (λ (t : SignalView). All (λ n. (c.least ≤ n) × (n ≤ c.greatest)) t.nets)
      (λ t h. wider b.least b.greatest c.least c.greatest t.nets (omega (arith, low)) (omega (arith, high)) h) names is.between;
}

min_either : (P : ℕ → Type 0) (a b : ℕ) → P a → P b → P (min a b)
min_either P a b p q =
    ⊎_elim (λ lt. let e : min a b ≡ a = omega (arith, lt) in subst P (sym e) p)
    (λ ge. let e : min a b ≡ b = omega (arith, ge) in subst P (sym e) q) (cases_lt a b)

max_either : (P : ℕ → Type 0) (a b : ℕ) → P a → P b → P (max a b)
max_either P a b p q =
    ⊎_elim (λ lt. let e : max a b ≡ b = omega (arith, lt) in subst P (sym e) q)
    (λ ge. let e : max a b ≡ a = omega (arith, ge) in subst P (sym e) p) (cases_lt a b)

-- the least and the greatest of some nets, with one net more
pub one_net_more : (ns : List ℕ) (i least greatest : ℕ) → i < length ns → Contains ns least → Contains ns greatest
    → All (λ n. (least ≤ n) × (n ≤ greatest)) (take i ns)
    → Contains ns (min least (slice_index ns i)) × Contains ns (max greatest (slice_index ns i))
    × All (λ n. (min least (slice_index ns i) ≤ n) × (n ≤ max greatest (slice_index ns i))) (take (i + 1) ns)
one_net_more ns i least greatest lt low high lie =
    let here = Contains-get_or ns i 0 lt in (
      min_either (Contains ns) least (slice_index ns i) low here,
      max_either (Contains ns) greatest (slice_index ns i) high here,
      All-more (λ n. (min least (slice_index ns i) ≤ n) × (n ≤ max greatest (slice_index ns i))) ns i 0 lt
          (wider least greatest (min least (slice_index ns i)) (max greatest (slice_index ns i)) (take i ns) (omega arith) (omega arith) lie)
          (omega arith, omega arith),
    )

-- a block more
pub one_block_more : (nets : ℕ) (bs : List Block) (b : Block) (xs ys : List SignalView) → AreBlocks nets bs xs → IsBlockOf nets b ys
    → AreBlocks nets (bs ++ b ∷ []) (xs ++ ys)
one_block_more nets [] b xs ys e is =
    let all : length ys ≤ b.names = omega (arith, is.count) in
    rw e (subst (IsBlockOf nets b) (sym (take_all b.names ys all)) is, drop_all b.names ys all)
one_block_more nets (c ∷ cs) b xs ys (first, rest) is =
    let le : c.names ≤ length xs = omega (arith, first.count, length-take c.names xs) in (
      subst (IsBlockOf nets c) (sym (take-append-le c.names xs ys le)) first,
      subst (AreBlocks nets (cs ++ b ∷ [])) (sym (drop-append-le c.names xs ys le)) (one_block_more nets cs b (drop c.names xs) ys rest is),
    )

-- the block at hand of those that are left
pub this_block : (nets : ℕ) (bs : List Block) (k : ℕ) (d : Block) (next : ℕ) (names : List SignalView) → k < length bs → next ≤ length names
    → AreBlocks nets (drop k bs) (drop next names)
    → IsBlockOf nets (get_or bs k d) (take (get_or bs k d).names (drop next names))
    × (next + (get_or bs k d).names ≤ length names)
    × AreBlocks nets (drop (k + 1) bs) (drop (next + (get_or bs k d).names) names)
this_block nets bs k d next names lt le are =
    let b = get_or bs k d in
    let both : AreBlocks nets (b ∷ drop (k + 1) bs) (drop next names) = subst (λ cs. AreBlocks nets cs (drop next names)) (drop_more bs k d lt) are in (
      both.0,
      omega (arith, le, both.0.count, length-take b.names (drop next names), length-drop next names),
      subst (AreBlocks nets (drop (k + 1) bs)) (drop-drop b.names next names) both.1,
    )

-- the last name of a block is among the names
pub ends_within : (nets : ℕ) (b : Block) (first : ℕ) (names : List SignalView) → first ≤ length names → IsBlockOf nets b (take b.names (drop first names))
    → first + b.names ≤ length names
ends_within nets b first names le is = omega (arith, le, is.count, length-take b.names (drop first names), length-drop first names)

-- no block is left
pub all_taken : (nets : ℕ) (bs : List Block) (k next : ℕ) (names : List SignalView) → length bs ≤ k → AreBlocks nets (drop k bs) (drop next names)
    → take next names ≡ names
all_taken nets bs k next names past are =
    let none : drop next names ≡ [] = subst (λ cs. AreBlocks nets cs (drop next names)) (drop_all k bs past) are in
    sym (append-nil (take next names)) ∙ ap (λ t. take next names ++ t) (sym none) ∙ take-append-drop next names

-- the values of a run of nets that is the same in both
pub same_value : (old new : List ℕ) (least greatest n : ℕ) → between least (greatest + 1) old ≡ between least (greatest + 1) new → least ≤ n → n ≤ greatest
    → slice_index old n ≡ slice_index new n
same_value old new least greatest n same low high =
    let at : least + (n - least) ≡ n = omega (arith, low) in
    let within : least + (n - least) < greatest + 1 = omega (arith, low, high) in
    ap (λ k. slice_index old k) (sym at) ∙ sym (get_or-between old least (greatest + 1) (n - least) 0 within)
    ∙ ap (λ vs. slice_index vs (n - least)) same
    ∙ get_or-between new least (greatest + 1) (n - least) 0 within ∙ ap (λ k. slice_index new k) at

module _ (old new : List ℕ) where
  -- the net has one value in both
  abbrev pub Stays : ℕ → Type 0
  Stays n = slice_index old n ≡ slice_index new n

  same_values : (ns : List ℕ) → All Stays ns → map (slice_index old) ns ≡ map (slice_index new) ns
  same_values [] all = refl
  same_values (n ∷ ns) all =
      ap (λ v. v ∷ map (slice_index old) ns) (All-head Stays n ns all) ∙ ap (λ vs. slice_index new n ∷ vs) (same_values ns (All-tail Stays n ns all))

  no_change : (k : ℕ) (s : SignalView) → All Stays s.nets → change k s old new ≡ []
  no_change k s all =
      let e : bytes_eq (printed k s old) (printed k s new) ≡ true =
      (bytes_eq-Decides (printed k s old) (printed k s new)).1 (ap (value_change s.kind (code k)) (same_values s.nets all)) in
      rw e refl

  -- names whose nets keep their values
  pub none_changes : (k : ℕ) (names : List SignalView) → All (λ (s : SignalView). All Stays s.nets) names → changes_from k names old new ≡ []
  none_changes k [] all = refl
  none_changes k (s ∷ ss) all =
      let Kept : SignalView → Type 0 = λ t. All Stays t.nets in
      ap (λ t. t ++ changes_from (suc k) ss old new) (no_change k s (All-head Kept s ss all)) ∙ none_changes (suc k) ss (All-tail Kept s ss all)

  -- the same of nets of a run
  pub no_changes : (least greatest : ℕ) → ((n : ℕ) → least ≤ n → n ≤ greatest → Stays n) → (k : ℕ) (names : List SignalView)
      → All (λ (s : SignalView). All (λ n. (least ≤ n) × (n ≤ greatest)) s.nets) names → changes_from k names old new ≡ []
  no_changes least greatest same k names all =
      none_changes k names
      (All-weaker (λ (s : SignalView). All (λ n. (least ≤ n) × (n ≤ greatest)) s.nets) (λ (s : SignalView). All Stays s.nets)
      (λ s h. All-weaker (λ n. (least ≤ n) × (n ≤ greatest)) Stays (λ n at. same n at.0 at.1) s.nets h) names all)
