-- The names of a netlist in blocks.
use Rattle.std.specs.Prelude.{◌≡◌, ℕ, ◌+◌, ◌<◌, ◌≤◌, Bool, true, false, List, [], ◌∷◌, All, take, drop, length, ⊤}
use Rattle.rtl_net.specs.Nets.{SignalView}
use Rattle.rtl_net_groups.specs.Groups.{Grouping, IsListed}
use Rattle.rtl_vcd.specs.declared.blocks.Block.{Block}
use Rattle.rtl_vcd_values.specs.Values.{numbered}
use Rattle.rtl_vcd.specs.Trace.{change, stamped}

-- The block of these names and no others: their nets, among so many, lie between its least and its greatest.
pub record IsBlockOf (nets : ℕ) (b : Block) (names : List SignalView) : Type 0 where
  pub count : b.names ≡ length names
  pub order : b.least ≤ b.greatest
  pub there : b.greatest < nets
  pub between : All (λ (s : SignalView). All (λ n. (b.least ≤ n) × (n ≤ b.greatest)) s.nets) names

-- Each block has the names behind those of the one before it, and together they have all of these.
abbrev pub AreBlocks : (nets : ℕ) → List Block → (names : List SignalView) → Type 0
AreBlocks nets [] names = names ≡ []
AreBlocks nets (b ∷ bs) names = IsBlockOf nets b (take b.names names) × AreBlocks nets bs (drop b.names names)

-- the block of this number is listed for each net of these names
abbrev pub IsListedFor : Grouping → (block : ℕ) → (names : List SignalView) → Type 0
IsListedFor g k names = All (λ (s : SignalView). All (IsListed g k) s.nets) names

-- the same of blocks that have these names, one behind the other; the first of them is number k
abbrev pub ListedFrom : (k : ℕ) → Grouping → List Block → (names : List SignalView) → Type 0
ListedFrom k g [] names = ⊤
ListedFrom k g (b ∷ bs) names = IsListedFor g k (take b.names names) × ListedFrom (k + 1) g bs (drop b.names names)

-- of so many nets, each has the blocks that have a name with it
pub record AreListed (nets : ℕ) (g : Grouping) (bs : List Block) (names : List SignalView) : Type 0 where
  pub each_net : length g.of_net ≡ nets
  pub each : ListedFrom 0 g bs names

-- the changes of these names, the first of them being number k
abbrev pub changes_from : (k : ℕ) → List SignalView → (before now : List ℕ) → List ℕ
changes_from k names before now = numbered (λ k s. change k s before now) k names

-- changes, behind their time where that isn't printed yet
abbrev pub continued : (is_printed : Bool) → (time : ℕ) → (changes : List ℕ) → List ℕ
continued true time changes = changes
continued false time changes = stamped time changes
