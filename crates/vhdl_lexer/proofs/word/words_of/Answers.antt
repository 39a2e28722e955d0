use Rattle.std.proofs.Common.{◌≡◌, ◌∙◌, sym, ap, ◌-◌, ◌+◌, subst, ◌<◌}
use Rattle.std.specs.Char.{to_ascii_lowercase}
use Rattle.vhdl_lexer.proofs.Reserved.{words_at, letter_index}
use Rattle.vhdl_lexer.proofs.word.words_of.Goals as goal

pub returns : goal.returns
returns c =
    let small : c.to_ascii_lowercase.result ≡ to_ascii_lowercase c.args.letter = c.to_ascii_lowercase.ensures.value in
    let place : c.from.result ≡ c.to_ascii_lowercase.result - 97 = c.from.ensures in
    let place_is : c.from.result ≡ to_ascii_lowercase c.args.letter - 97 = place ∙ ap (λ x. x - 97) small in
    let index = letter_index c.args.letter c.requires in
    c.group.ensures ∙ words_at c.from.result c.args.letter (subst (λ n. n < 26) (sym place_is) index.1) (ap (λ n. 97 + n) place_is ∙ index.0)
