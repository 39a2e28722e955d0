use Rattle.std.proofs.Common.{sym, ap, ◌∙◌}
use Rattle.rtlsim_notes.specs.Notes.{edge_in, edge_of}
use Rattle.vhdl_places.specs.Statements.{statement}
use Rattle.vhdl_slips.specs.Words as words
use Rattle.vhdl_slips.specs.Words.{Read, read_of, with_tokens}
use Rattle.rtlsim_notes.proofs.listing.edge_of.Goals as goal

pub returns : goal.returns
returns c =
    let source = read_of c.args.source in
    let obstacle = c.in_ok-obstacle.obstacle in
    c.edge_in.ensures ∙ ap (λ (r : Read). edge_in r.text obstacle.kind r.tokens) c.split_at.ensures.from
    ∙ ap (λ ts. edge_in source.text obstacle.kind (words.from obstacle.at (with_tokens source.text ts)).tokens) (c.statement.ensures ∙ ap statement c.tokens_from.ensures)
    ∙ sym (ap (edge_of source c.args.start) c.in_ok-obstacle.was)
