use Rattle.std.proofs.Common.{◌≡◌, codes, [], ◌++◌, map, sym, ap, ◌∙◌}
use Rattle.std.specs.Prelude.{option_map}
use Rattle.std.specs.Option.{option_to_list}
use Rattle.fault_rules.specs.declared.report.Rule.TheVariants as rule
use Rattle.fault_rules.specs.declared.source.NameRule.{NameRule}
use Rattle.fault_rules.specs.declared.source.NameRule.TheVariants as naming
use Rattle.rtlsim_refusals.specs.Explained.{note_at, notes_at, site_of}
use Rattle.vhdl_places.specs.Firsts.{first_declared}
use Rattle.vhdl_slips.specs.Words.{read_of}
use Rattle.vhdl_source_files.specs.Files.{file_view}
use Rattle.rtlsim_refusals.proofs.beside.notes_at.Goals as goal

pub returns-in-Name-Twice : goal.returns-in-Name-Twice
returns-in-Name-Twice c =
    let files = map file_view c.args.files.now in
    let source = read_of c.args.source in
    let first = c.first_declared-first.ensures ∙ ap (λ n. first_declared source n c.args.site.before.tokens.now) c.first_text-name.ensures in
    let told = c.note_at.ensures ∙ ap (option_map (note_at files (codes "the first of the two"))) first in
    let twice : c.in-Name-Twice.field-0 ≡ naming.Twice = rw c.in-Name-Twice.is at c.in-Name-Twice.field-0-is in
    rw c.in-Name-Twice.is (ap (λ note. option_to_list note ++ []) told ∙ sym (ap (λ (r : NameRule). notes_at files (site_of c.args.site) source (rule.Name r)) twice))
