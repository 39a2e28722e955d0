use Rattle.std.proofs.Common.{◌||◌, List, ℕ, ap, ◌∙◌}
use Rattle.std.specs.List.{list_any}
use Rattle.rtl_net.specs.Indices.{numbers}
use Rattle.rtl_body_facts.specs.Paths.{covers}
use Rattle.rtl_body_facts.specs.Reading.{is_in}
use Rattle.rtl_body_facts.proofs.paths.target_nets.Goals as goal

pub returns : goal.returns
returns c = λ n. c.in_ok-push_targets.ensures n
    ∙ ap (λ (xs : List ℕ). is_in n xs || list_any (covers c.args.drives.now n) (numbers c.args.places.now)) c.new-nets.ensures.items
