-- Parts of bodies that assign constants alone.
use Rattle.std.specs.Prelude.{Bool, true, false}
use Rattle.rtl_model.specs.basics.Lists.{is_empty}
use Rattle.rtl_model.specs.bodies.Body.{Stmt, null_of, assign, set, assign_at, set_at, if_of, case_of}
use Rattle.rtl_model.specs.bodies.Reads.{value_reads}

-- a statement that assigns a constant to signals, or nothing
abbrev pub assigns_constant : Stmt → Bool
assigns_constant null_of = true
assigns_constant (assign places v) = is_empty (value_reads v)
assigns_constant (set es v) = false
assigns_constant (assign_at index spacing places e) = false
assigns_constant (set_at index spacing es e) = false
assigns_constant (if_of bs) = false
assigns_constant (case_of v alts) = false
