-- The units of a file that the parser gives.
use Rattle.std.proofs.Common.{None, arith}
use Rattle.vhdl_lexer.proofs.Reached.{cut_within}
use Rattle.vhdl_tree.specs.Tree.{File}
use Rattle.vhdl_names_laws.specs.Words.{HasWords}
use Rattle.vhdl_names_laws.proofs.Spelled.{spelled_files_have_words}
use Rattle.vhdl_names.specs.Spelled.{IsSpelled}

pub words : (f : File) → IsSpelled f → HasWords f
words f h = spelled_files_have_words h.source h.tokens f h.cut (cut_within h.source None 0 h.source h.tokens (omega arith) h.cut) h.spelled
