use Rattle.std.proofs.Common.{◌≡◌, ◌+◌, ◌<◌, ◌≤◌, length, get_or, arith, sym, ◌∙◌}
use Rattle.std.proofs.lemmas.List.{get_or_default}
use Rattle.rtl_net_groups.proofs.Ends.{some_before_next, up_to_end, up_to_next}
use Rattle.rtl_net_groups.proofs.groups.Groups.end.Goals as goal

pub returns-then-group-groups : goal.returns-then-group-groups
returns-then-group-groups c =
    let runs = c.self.inside.runs in
    let requires = rw (← c.self.view_is) at c.requires in
    let next : c.args.group + 1 < length runs.first.items = omega (arith, c.if-group-groups.true, c.len-groups.ensures, runs.first.ok.0) in
    let is : get_or runs.first.items (c.args.group + 1) 0 ≡ c.index.result.now = get_or_default runs.first.items (c.args.group + 1) 0 c.index.result.now next ∙ sym c.index.ensures in
    rw (← c.self.view_is, ← is) (record {
      some = some_before_next runs.of_net.items runs.first.items requires.runs c.args.group requires.there next;
      within = (let (l, _) = requires.runs.begins (c.args.group + 1) next in omega (arith, l));
      each = up_to_next runs.of_net.items runs.first.items requires.runs c.args.group requires.there next;
    })

pub returns-else-group-groups : goal.returns-else-group-groups
returns-else-group-groups c =
    let runs = c.self.inside.runs in
    let requires = rw (← c.self.view_is) at c.requires in
    let last : length runs.first.items ≤ c.args.group + 1 = omega (arith, c.if-group-groups.false, c.len-groups.ensures, runs.first.ok.0) in
    let all : c.len.result ≡ length runs.of_net.items = omega (arith, c.len.ensures, runs.of_net.ok.0) in
    rw (← c.self.view_is, all) (record {
      some = (let (l, _) = requires.runs.begins c.args.group requires.there in l);
      within = omega arith;
      each = up_to_end runs.of_net.items runs.first.items requires.runs c.args.group requires.there last;
    })
