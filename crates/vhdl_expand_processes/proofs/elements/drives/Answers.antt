use Rattle.std.proofs.Common.{map, ap, sym, ◌∙◌}
use Rattle.vhdl_expand_rules.specs.Prefixes.{prefixes_elements}
use Rattle.vhdl_names_units.specs.views.Sequential.{statement_view, statements_of}
use Rattle.vhdl_expand_bodies.specs.Sites.{site_view}
use Rattle.vhdl_expand_processes.specs.Named.{name_view}
use Rattle.vhdl_expand_processes.proofs.Prefixed.{drives_given}
use Rattle.vhdl_expand_processes.proofs.Rising.{rising}
use Rattle.vhdl_expand_processes.proofs.elements.drives.Goals as goal

pub returns-clause-given : goal.returns-clause-given
returns-clause-given c =
    let at = site_view c.args.site.now in
    drives_given at (statements_of (map statement_view c.args.list.now)) _ _
    (ap (prefixes_elements at) (sym c.in_ok-names.ensures ∙ ap (map name_view) (sym c.deref.ensures.value)) ∙ c.in_ok-elements.ensures)
    c.in_ok-order_once.ensures.rise c.in_ok-order_once.ensures.same

pub returns-clause-rising : goal.returns-clause-rising
returns-clause-rising c = rising _ c.in_ok-order_once.ensures.rise
