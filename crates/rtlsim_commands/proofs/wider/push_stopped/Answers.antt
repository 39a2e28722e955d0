use Rattle.std.proofs.Common.{map, sym, ◌∙◌, arith}
use Rattle.std.proofs.lemmas.Bool.Decides.{nat_tests}
use Rattle.rtlsim_commands.proofs.Widened.{goes_further}
use Rattle.vhdl_source_files.specs.Files.{file_view, spot_view}
use Rattle.rtlsim_commands.proofs.wider.push_stopped.Goals as goal

pub returns-then-is_further : goal.returns-then-is_further
returns-then-is_further g c =
    goes_further (map file_view c.args.files.now) c.args.first c.args.at (spot_view c.place_in-begun.result) (spot_view c.place_in-stopped.result) _ _
    c.place_in-begun.ensures c.place_in-stopped.ensures (grind (arith, nat_tests, c.if-first-at.true)) (sym c.is_further.ensures ∙ c.if-is_further.true) c.push_further.ensures
