-- Why a name that no declaration in sight has means nothing.
use Rattle.std.specs.Prelude.{Bool, false, ◌||◌, if◌then◌else◌, List, [], ◌∷◌, ◌++◌, map, bytes_eq, codes}
use Rattle.vhdl_lexer.specs.declared.language.Language.{Language}
use Rattle.vhdl_names_rules.specs.Visibility.{Name}
use Rattle.vhdl_names_rules.specs.Packages.{std_logic_1164, numeric_std}
use Rattle.vhdl_names_rules.specs.declared.fault.NameProblem.{NameProblem}
use Rattle.vhdl_names_rules.specs.declared.fault.NameProblem.TheVariants.{NotVisible, LeftOut, Undeclared}

abbrev pub is_named : List Name → Name → Bool
is_named [] n = false
is_named (d ∷ ds) n = bytes_eq n d || is_named ds n

-- what the language has of std_logic_1164 and numeric_std (16.7, 16.8)
abbrev pub offered : Language → List Name
offered language = map (λ d. d.name) (std_logic_1164 ++ numeric_std language)

-- what it leaves out of them where it doesn't offer it, and of package standard (16.3), as far as it is told as that:
-- any other name is Undeclared
abbrev pub left_out : List Name
left_out =
    codes "bit"
    ∷ codes "bit_vector"
    ∷ codes "boolean"
    ∷ codes "boolean_vector"
    ∷ codes "character"
    ∷ codes "delay_length"
    ∷ codes "false"
    ∷ codes "file_open_kind"
    ∷ codes "file_open_status"
    ∷ codes "integer_vector"
    ∷ codes "maximum"
    ∷ codes "minimum"
    ∷ codes "now"
    ∷ codes "real"
    ∷ codes "real_vector"
    ∷ codes "severity_level"
    ∷ codes "string"
    ∷ codes "time"
    ∷ codes "time_vector"
    ∷ codes "to_string"
    ∷ codes "true"
    ∷ codes "is_x"
    ∷ codes "resolved"
    ∷ codes "to_01"
    ∷ codes "to_binary_string"
    ∷ codes "to_bit"
    ∷ codes "to_bit_vector"
    ∷ codes "to_bitvector"
    ∷ codes "to_bstring"
    ∷ codes "to_bv"
    ∷ codes "to_hex_string"
    ∷ codes "to_hstring"
    ∷ codes "to_octal_string"
    ∷ codes "to_ostring"
    ∷ codes "to_slv"
    ∷ codes "to_std_logic_vector"
    ∷ codes "to_std_ulogic_vector"
    ∷ codes "to_stdlogicvector"
    ∷ codes "to_stdulogic"
    ∷ codes "to_stdulogicvector"
    ∷ codes "to_sulv"
    ∷ codes "to_ux01"
    ∷ codes "to_x01"
    ∷ codes "to_x01z"
    ∷ codes "ux01"
    ∷ codes "ux01z"
    ∷ codes "x01"
    ∷ codes "x01z"
    ∷ codes "find_leftmost"
    ∷ codes "find_rightmost"
    ∷ codes "rotate_left"
    ∷ codes "rotate_right"
    ∷ codes "signed"
    ∷ codes "std_match"
    ∷ codes "to_integer"
    ∷ codes "to_signed"
    ∷ codes "u_signed"
    ∷ codes "u_unsigned"
    ∷ codes "unresolved_signed"
    ∷ codes "unresolved_unsigned" ∷ []

-- a use clause would make it visible; the language leaves it out; or nothing declares it
abbrev pub problem_of : Language → Name → NameProblem
problem_of language n =
    if is_named (offered language) n then NotVisible else if is_named left_out n then LeftOut else Undeclared
