use Rattle.std.proofs.Common.{ℕ, ◌∙◌, rules}
use Rattle.std.proofs.lemmas.List.Sorted.{answers_always}
use Rattle.rtl_model.specs.simulation.Netlist.{Edge}
use Rattle.rtl_recheck.proofs.Clocks.{searched}
use Rattle.rtl_recheck.proofs.clocked.is_clock.Goals as goal

pub returns : goal.returns
returns c =
    let facts = c.binary_search_by_key.ensures in
    let by_net = facts.position (λ (clock : ℕ × Edge). clock.0) (answers_always _ _ _ (λ f a r g called. search rules)) in
    c.is_ok.ensures.value ∙ searched c.args.clocks.now c.requires c.args.net _ facts.bound by_net
