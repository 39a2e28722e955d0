use Rattle.std.proofs.Common.{ℕ, List, Bor}
use Rattle.rtlsim.specs.Inputs.{GivesStandardAlone}
use Rattle.rtlsim.proofs.Serving.{is_some, serves_some}
use Rattle.rtlsim.proofs.tools.tool.Goals as goal

pub returns : goal.returns
returns g c = (
  c.tool_with.result,
  c.code-2.ensures,
  serves_some (λ (word : Bor (List ℕ)). word.now) GivesStandardAlone _ _ c.tool_with.result _ c.args.words.now (is_some _ _ c.is_empty.ensures c.if-is_empty.false) c.tool_with.ensures,
)
