use Rattle.std.proofs.Common.{◌<◌, List, ℕ, length, All}
use Rattle.std.proofs.lemmas.List.Elements.{All-map}
use Rattle.rtl_net.specs.declared.process.Process.{Process}
use Rattle.rtl_kernel.specs.drivers.Transactions.{nets_of}
use Rattle.rtl_kernel.proofs.cutting.driver_cuts.Goals as goal

pub new-requires : goal.new-requires
new-requires c =
    rw (c.in_ok-targets.ensures)
    (All-map (λ (nets : List ℕ). All (λ n. n < length c.args.of_net.now) nets) (λ (p : Process). nets_of p.drives.items) c.args.processes.now c.requires)
