use Rattle.std.proofs.Common.{ap, sym, ◌∙◌}
use Rattle.std.specs.List.{list_any}
use Rattle.std.proofs.lemmas.Result.{IfOk-weaker}
use Rattle.rtl_body_facts.proofs.Anys.{or_none}
use Rattle.rtl_body_facts.specs.Paths.{to_net}
use Rattle.rtl_latches.specs.declared.parts.Part.{Part}
use Rattle.rtl_latches.specs.Parts.{told, is_touched}
use Rattle.rtl_latches.proofs.Statements.{touched-is}
use Rattle.rtl_latches.proofs.drivers.assigned_on_some_path.Goals as goal

pub returns : goal.returns
returns c = record {
  rise = c.touched.ensures.rise;
  are = IfOk-weaker c.touched.result _ _
      (λ nets found n. found n
      ∙ (ap (list_any (λ (p : Part). is_touched (told n p))) c.from_ref.ensures.value
      ∙ (sym (or_none (is_touched (told n c.in_ok-part.part)))
      ∙ (ap is_touched (c.in_ok-part.ensures.told n) ∙ touched-is (to_net c.args.drives.now n) c.args.statements.now)))) c.touched.ensures.are;
}
