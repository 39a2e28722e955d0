-- The nets of blocks, and the names of those that aren't marked.
use Rattle.std.proofs.Common.{◌≡◌, ℕ, suc, ◌+◌, ◌%◌, ◌<◌, ◌≤◌, All, Bool, true, false, List, [], ◌∷◌, ◌++◌, length, take, drop, get_or, flat_map, sym, ap, subst, ◌∙◌, arith, append_assoc, append-nil}
use Rattle.std.specs.Prelude.{Contains, ⊤}
use Rattle.std.proofs.lemmas.Bool.{false≢true}
use Rattle.std.proofs.lemmas.Grind.{flat_map-append}
use Rattle.std.proofs.lemmas.List.{drop-drop, drop_more, drop_all, take_more}
use Rattle.std.proofs.lemmas.List.Elements.{All-append, All-cons, All-contains_itself, All-drop, All-head, All-nil, All-tail, All-take, All-weaker, Contains-append_left, Contains-append_right}
use Rattle.rtl_net.specs.Nets.{SignalView}
use Rattle.rtl_net_groups.specs.Groups.{Grouping, IsListed}
use Rattle.rtl_vcd.specs.declared.blocks.Block.{Block}
use Rattle.rtl_vcd.specs.Blocks.{AreBlocks, ListedFrom}
use Rattle.rtl_vcd.proofs.Hulls.{Stays}

-- ---- the nets of names

-- the nets of these names, one behind the other
abbrev pub all_nets : List SignalView → List ℕ
all_nets names = flat_map (λ (s : SignalView). s.nets) names

-- each net of each name
abbrev pub EachNet : (ℕ → Type 0) → List SignalView → Type 0
EachNet P names = All (λ (s : SignalView). All P s.nets) names

pub nets_more : (names : List SignalView) (i : ℕ) (s : SignalView) → i < length names → get_or names i s ≡ s → all_nets (take (i + 1) names) ≡ all_nets (take i names) ++ s.nets
nets_more names i s lt is =
    ap all_nets (take_more names i s lt ∙ ap (λ (x : SignalView). take i names ++ x ∷ []) is)
    ∙ flat_map-append (λ (x : SignalView). x.nets) (take i names) (s ∷ []) ∙ ap (λ ns. all_nets (take i names) ++ ns) (append-nil s.nets)

pub together : (P : ℕ → Type 0) (names : List SignalView) → EachNet P names → All P (all_nets names)
together P [] all = All-nil P
together P (s ∷ ss) all =
    let Each : SignalView → Type 0 = λ t. All P t.nets in
    All-append P s.nets (all_nets ss) (All-head Each s ss all) (together P ss (All-tail Each s ss all))

pub are_there : (names : List SignalView) → EachNet (Contains (all_nets names)) names
are_there [] = All-nil (λ (s : SignalView). All (Contains []) s.nets)
are_there (s ∷ ss) =
    let Each : SignalView → Type 0 = λ t. All (Contains (all_nets (s ∷ ss))) t.nets in
    All-cons Each s ss
    (All-weaker (Contains s.nets) (Contains (all_nets (s ∷ ss))) (λ n h. Contains-append_left s.nets (all_nets ss) n h) s.nets (All-contains_itself s.nets))
    (All-weaker (λ (t : SignalView). All (Contains (all_nets ss)) t.nets) Each
    (λ t h. All-weaker (Contains (all_nets ss)) (Contains (all_nets (s ∷ ss))) (λ n at. Contains-append_right s.nets (all_nets ss) n at) t.nets h) ss (are_there ss))

-- ---- the nets of blocks

-- of each block the nets of its names
abbrev pub nets_by : List Block → (names : List SignalView) → List (List ℕ)
nets_by [] names = []
nets_by (b ∷ bs) names = all_nets (take b.names names) ∷ nets_by bs (drop b.names names)

-- those of the block at hand come behind those before it
pub nets_of_next : (lists : List (List ℕ)) (bs : List Block) (k : ℕ) (d : Block) (next : ℕ) (names : List SignalView) → k < length bs
    → lists ++ nets_by (drop k bs) (drop next names)
    ≡ (lists ++ all_nets (take (get_or bs k d).names (drop next names)) ∷ []) ++ nets_by (drop (k + 1) bs) (drop (next + (get_or bs k d).names) names)
nets_of_next lists bs k d next names within =
    let b = get_or bs k d in
    let here = all_nets (take b.names (drop next names)) in
    ap (λ cs. lists ++ nets_by cs (drop next names)) (drop_more bs k d within)
    ∙ ap (λ ss. lists ++ here ∷ nets_by (drop (k + 1) bs) ss) (drop-drop b.names next names)
    ∙ sym (append_assoc lists (here ∷ []) (nets_by (drop (k + 1) bs) (drop (next + b.names) names)))

pub nets_of_all : (lists : List (List ℕ)) (bs : List Block) (k : ℕ) (names : List SignalView) → length bs ≤ k → lists ++ nets_by (drop k bs) names ≡ lists
nets_of_all lists bs k names past = ap (λ cs. lists ++ nets_by cs names) (drop_all k bs past) ∙ append-nil lists

module _ (P : ℕ → Type 0) where
  pub nets_by_there : (bs : List Block) (names : List SignalView) → EachNet P names → All (All P) (nets_by bs names)
  nets_by_there [] names all = All-nil (All P)
  nets_by_there (b ∷ bs) names all =
      let Each : SignalView → Type 0 = λ t. All P t.nets in
      All-cons (All P) (all_nets (take b.names names)) (nets_by bs (drop b.names names)) (together P (take b.names names) (All-take Each b.names names all))
      (nets_by_there bs (drop b.names names) (All-drop Each b.names names all))

  -- a grouping that lists each block for its nets
  pub listed_from : (g : Grouping) (k : ℕ) (bs : List Block) (names : List SignalView) → EachNet P names
      → ((p n m : ℕ) → m ≡ k + p → P n → Contains (get_or (nets_by bs names) p []) n → IsListed g m n) → ListedFrom k g bs names
  listed_from g k [] names all lists = tt
  listed_from g k (b ∷ bs) names all lists =
      let Each : SignalView → Type 0 = λ t. All P t.nets in
      let these = take b.names names in (
        λ i d lt j e within. lists 0 _ k (omega arith) (All-take Each b.names names all i d lt j e within) (are_there these i d lt j e within),
        listed_from g (k + 1) bs (drop b.names names) (All-drop Each b.names names all) (λ p n m at has h. lists (suc p) n m (omega (arith, at)) has h),
      )

-- ---- which names keep their values

module _ (marks : List Bool) (old new : List ℕ) where
  -- of blocks that have these names, one behind the other, the first of them being number k, those whose places aren't marked
  -- have names whose nets keep their values
  abbrev pub KeepFrom : (k : ℕ) → List Block → (names : List SignalView) → Type 0
  KeepFrom k [] names = ⊤
  KeepFrom k (b ∷ bs) names = (get_or marks (k % 1024) true ≡ false → EachNet (Stays old new) (take b.names names)) × KeepFrom (k + 1) bs (drop b.names names)

  pub all_marked : ((k : ℕ) → get_or marks (k % 1024) true ≡ true) → (k : ℕ) (bs : List Block) (names : List SignalView) → KeepFrom k bs names
  all_marked is k [] names = tt
  all_marked is k (b ∷ bs) names = (λ unmarked. absurd (false≢true (sym unmarked ∙ is k)), all_marked is (k + 1) bs (drop b.names names))

  pub listed_marked : (nets : ℕ) (g : Grouping) → ((p n : ℕ) → n < nets → IsListed g p n → get_or marks (p % 1024) true ≡ false → Stays old new n)
      → (k : ℕ) (bs : List Block) (names : List SignalView) → AreBlocks nets bs names → ListedFrom k g bs names → KeepFrom k bs names
  listed_marked nets g same k [] names are listed = tt
  listed_marked nets g same k (b ∷ bs) names (is, rest) (first, others) = (
    λ unmarked i d lt j e within. same k _ (omega (arith, (is.between i d lt j e within).1, is.there)) (first i d lt j e within) unmarked,
    listed_marked nets g same (k + 1) bs (drop b.names names) rest others,
  )

  -- the block at hand, and those behind it
  pub this_keeps : (bs : List Block) (k : ℕ) (d : Block) (next : ℕ) (names : List SignalView) → k < length bs → KeepFrom k (drop k bs) (drop next names)
      → (get_or marks (k % 1024) true ≡ false → EachNet (Stays old new) (take (get_or bs k d).names (drop next names)))
      × KeepFrom (k + 1) (drop (k + 1) bs) (drop (next + (get_or bs k d).names) names)
  this_keeps bs k d next names within all =
      let b = get_or bs k d in
      let both : KeepFrom k (b ∷ drop (k + 1) bs) (drop next names) = subst (λ cs. KeepFrom k cs (drop next names)) (drop_more bs k d within) all in
      (both.0, subst (KeepFrom (k + 1) (drop (k + 1) bs)) (drop-drop b.names next names) both.1)
