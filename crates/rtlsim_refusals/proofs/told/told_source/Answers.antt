use Rattle.std.proofs.Common.{ap, sym, ◌∙◌, map, Some}
use Rattle.rtlsim_refusals.specs.Explained as spec
use Rattle.vhdl_slips.specs.Words.{read_of}
use Rattle.vhdl_source_files.specs.Files.{file_view}
use Rattle.vhdl_parser_rules.specs.Expected.{expected_of}
use Rattle.rtlsim_refusals.proofs.told.told_source.Goals as goal

pub returns-in_ok-seen_told-in-Byte : goal.returns-in_ok-seen_told-in-Byte
returns-in_ok-seen_told-in-Byte c =
    ap Some (c.in_ok-seen_told-in-Byte.ensures ∙ ap (λ s. spec.seen_told (map file_view c.args.files.now) s (read_of c.args.source) c.args.report) c.site_at-site.ensures)
    ∙ sym (ap (spec.told_at c.args.language (map file_view c.args.files.now) (read_of c.args.source) (expected_of c.args.expected) c.args.report) c.in-Byte.is)
