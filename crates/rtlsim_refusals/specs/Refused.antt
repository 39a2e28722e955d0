-- Where the lexer refuses a text, there are no tokens: what stands there, and what is said of it.
use Rattle.std.specs.Prelude.{ℕ, ◌==◌, ◌&&◌, ◌||◌, max, Bool, false, if◌then◌else◌, List, [], ◌∷◌, length, take, codes}
use Rattle.fault_rules.specs.Rules.{words_of}
use Rattle.fault_rules.specs.declared.source.ElabRule.TheVariants as elaboration
use Rattle.fault_rules.specs.declared.source.LexRule.TheVariants as lexing
use Rattle.fault_rules.specs.declared.report.Rule.{Rule}
use Rattle.fault_rules.specs.declared.report.Rule.TheVariants as rule
use Rattle.rtlsim_refusals.specs.declared.refused.TheConstants.{BRACES, CHOICE, EXCLUSIVE_OR, INDEX, IN_STRING, MARK, MATCHING, NEGATION, REMAINDER}
use Rattle.vhdl_slips.specs.Forms.{Said}
use Rattle.vhdl_slips.specs.Words.{quoted}
use Rattle.vhdl_lexer.specs.Bytes.{slash, star, quote, begins, is_printable}
use Rattle.vhdl_lexer.specs.Scan.{run}

-- ---- what stands there

-- a word of letters, digits and underscores, the beginning of a comment, or a byte that can be printed
abbrev pub refused_len : List ℕ → ℕ
refused_len [] = 0
refused_len (byte ∷ text) =
    if byte == slash && begins star text then 2 else if is_printable byte then max (run (byte ∷ text)) 1 else 0

-- a byte that can't be printed, and the end of the text, have no word
abbrev pub refused_named : (text word : List ℕ) → List ℕ
refused_named text word =
    if length text == 0 then codes "the end of the text "
    else if length word == 0 then codes "this byte " else quoted word

abbrev pub refused : (text : List ℕ) → List ℕ
refused text = refused_named text (take (refused_len text) text)

-- ---- what is said of it

-- of a rule: behind the word or the lengths, and what a designer does about it
abbrev pub said_of : Rule → Said
said_of (rule.Elab elaboration.Length) =
    ((words_of (rule.Elab elaboration.Length)).closing.now, (words_of (rule.Elab elaboration.Length)).help.now)
said_of rule = ((words_of rule).middle.now, (words_of rule).help.now)

-- a question mark begins a matching relation behind which = / < or > follows, and the condition operator behind which
-- another follows
abbrev pub goes_on_matching : (behind : List ℕ) → Bool
goes_on_matching [] = false
goes_on_matching (byte ∷ behind) = byte == 61 || byte == 47 || byte == 60 || byte == 62 || byte == 63

-- a byte order mark of UTF-8, behind its first byte
abbrev pub ends_mark : (behind : List ℕ) → Bool
ends_mark (second ∷ third ∷ behind) = second == 187 && third == 191
ends_mark _ = false

-- of a byte that begins nothing that is read, by the text that begins with it: ? [ { ~ ! ^ % and " are known
abbrev pub said_of_byte : (text : List ℕ) → (usual : Said) → Said
said_of_byte [] usual = usual
said_of_byte (byte ∷ behind) usual =
    if byte == 63
    then (if goes_on_matching behind then (MATCHING.0.now, MATCHING.1.now) else (CHOICE.0.now, CHOICE.1.now))
    else if byte == 91 then (INDEX.0.now, INDEX.1.now)
    else if byte == 123 then (BRACES.0.now, BRACES.1.now)
    else if byte == 126 || byte == 33 then (NEGATION.0.now, NEGATION.1.now)
    else if byte == 94 then (EXCLUSIVE_OR.0.now, EXCLUSIVE_OR.1.now)
    else if byte == 37 then (REMAINDER.0.now, REMAINDER.1.now)
    else if byte == quote then (IN_STRING.0.now, IN_STRING.1.now)
    else if byte == 239 && ends_mark behind then (MARK.0.now, MARK.1.now) else usual

abbrev pub said_refused : (text : List ℕ) → Rule → Said
said_refused text (rule.Lex lexing.BadByte) = said_of_byte text (said_of (rule.Lex lexing.BadByte))
said_refused text rule = said_of rule
