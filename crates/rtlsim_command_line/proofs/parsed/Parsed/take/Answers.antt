use Rattle.std.proofs.Common.{rules, ◌≡◌, ◌∷◌, List, Option, Some, true, false, refl, map, codes, bytes_eq}
use Rattle.rtlsim_command_line.specs.Words.{Givens, Row, Word, begins_with, dashes, parsed_view, reads, row_of, short, short_value, takes_option, text_of}
use Rattle.rtlsim_command_line.proofs.parsed.Parsed.take.Goals as goal

short_read : (parts : List Row) (given : Givens) (word : Word) (own : Option Word) (others : List Word)
    → bytes_eq word dashes ≡ false → begins_with dashes word ≡ false → begins_with short word ≡ true → own ≡ short_value word
    → takes_option parts (Some true) (codes "generic") own given others ≡ reads parts given (word ∷ others)
short_read parts given word own others alone long begun value = simp (alone, long, begun, value) refl

-- the word begins with `-g`
pub returns-then-starts_with-clause-read : goal.returns-then-starts_with-clause-read
returns-then-starts_with-clause-read c =
    let read = short_read (map row_of c.args.parts.now) (parsed_view c.args.self.now) c.args.word.now _ (map text_of c.args.others.now)
    (search rules) (search rules) (search rules) c.short_value.ensures in
    rw (← read) c.take_option-then-starts_with.ensures.read
