use Rattle.byte_streams.proofs.Writing.{Goes-append}
use Rattle.rtlsim_listing.proofs.Printing.{behind, longer, refused, then}
use Rattle.rtlsim_commands.proofs.listing.show_judgement.Goals as goal

pub returns-in_err-show_check-in-ToldLines : goal.returns-in_err-show_check-in-ToldLines
returns-in_err-show_check-in-ToldLines g c =
    rw c.in-ToldLines.is (refused c.from_residual.result _ _ _ _ c.from_residual.ensures.1
    (longer _ _ _ _ (longer _ _ _ _ c.in_err-show_check-in-ToldLines.ensures)))

pub returns-in_err-show_explanation-in-ToldLines : goal.returns-in_err-show_explanation-in-ToldLines
returns-in_err-show_explanation-in-ToldLines g c =
    rw c.in-ToldLines.is (refused c.from_residual-in_err-show_explanation-in-ToldLines.result _ _ _ _ c.from_residual-in_err-show_explanation-in-ToldLines.ensures.1
    (longer _ _ _ _ (behind _ _ _ _ _ c.in_ok-show_check-in-ToldLines.ensures c.in_err-show_explanation-in-ToldLines.ensures)))

pub returns-in_ok-show_explanation-in-ToldLines : goal.returns-in_ok-show_explanation-in-ToldLines
returns-in_ok-show_explanation-in-ToldLines g c =
    rw c.in-ToldLines.is (then c.show_behind.result _ _ _ _ _
    (Goes-append _ _ _ _ _ c.in_ok-show_check-in-ToldLines.ensures c.in_ok-show_explanation-in-ToldLines.ensures) c.show_behind.ensures)

pub returns-in_err-show_check-in-ToldGraph : goal.returns-in_err-show_check-in-ToldGraph
returns-in_err-show_check-in-ToldGraph g c =
    rw c.in-ToldGraph.is (refused c.from_residual-in_err-show_check-in-ToldGraph.result _ _ _ _ c.from_residual-in_err-show_check-in-ToldGraph.ensures.1
    (longer _ _ _ _ c.in_err-show_check-in-ToldGraph.ensures))

pub returns-in_ok-show_check-in-ToldGraph : goal.returns-in_ok-show_check-in-ToldGraph
returns-in_ok-show_check-in-ToldGraph g c =
    rw c.in-ToldGraph.is (then c.show_explanation-in-ToldGraph.result _ _ _ _ _ c.in_ok-show_check-in-ToldGraph.ensures c.show_explanation-in-ToldGraph.ensures)
