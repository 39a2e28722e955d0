-- A process of the flat netlist of so many nets, and a numbered process that it is.
use Rattle.std.specs.Prelude.{◌≡◌, ℕ, ◌<◌, All, List}
use Rattle.std.specs.List.{AllByRecursion}
use Rattle.rtl_net.specs.declared.process.Process.{Process}
use Rattle.rtl_net.specs.Nets.{process_view}
use Rattle.rtl_net.specs.Elaborated.{ReadsOfBody}
use Rattle.vhdl_elab_rules.specs.Numbering.{Located}
use Rattle.vhdl_elab_rules.specs.Wiring.{flat_process}
use Rattle.vhdl_elab_rules.specs.Names.{named_process}
use Rattle.vhdl_elab_rules.specs.Shown.{process_shown, net_process_shown}

-- the nets of the elements round each process are below this number
abbrev pub NetsAreBelow : (count : ℕ) → List Located → Type 0
NetsAreBelow count xs = AllByRecursion (λ (x : Located). All (λ n. n < count) x.round.nets) xs

pub record IsSettled (count : ℕ) (x : Located) (p : Process) : Type 0 where
  pub flat : process_view p ≡ flat_process count x
  pub shown : net_process_shown p ≡ process_shown (named_process x)
  pub reads : ReadsOfBody p
