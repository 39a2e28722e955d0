-- What a body assigns on every syntactic path, and on some. An assignment to one of several rows assigns none of them
-- on every path, since the run decides which, and each of them on some. A net may be reached by several drivers of a
-- process, under several port names; `these` are targets, and an assignment to any of them assigns it.
use Rattle.std.specs.Prelude.{ℕ, Bool, false, ◌&&◌, ◌||◌, ◌==◌}
use Rattle.std.specs.List.{list_any}
use Rattle.rtl_model.specs.bodies.Body.{Stmt, null_of, assign, set, assign_at, set_at, if_of, case_of, Stmts, done, step}
use Rattle.rtl_model.specs.bodies.Body.{Branches, no_else, otherwise, branch, Alternatives, others, alternative}

-- what an assignment assigns: a driver, by its place, or an element of a variable
pub data Target : Type 0 where
  driver : (place : ℕ) → Target
  element : ℕ → Target

-- the same target, one of these drivers, and one element
abbrev pub is_target : Target → Target → Bool
is_target (driver p) (driver q) = p == q
is_target (element d) (element e) = d == e
is_target _ _ = false

abbrev pub of_drivers : (these : ℕ → Bool) → Target → Bool
of_drivers these (driver place) = these place
of_drivers these (element k) = false

abbrev pub is_element : ℕ → Target → Bool
is_element k target = is_target target (element k)

-- ---- on every path

abbrev mutual
  pub stmt_must_assign : (these : Target → Bool) → Stmt → Bool
  stmt_must_assign these null_of = false
  stmt_must_assign these (assign places v) = list_any (λ place. these (driver place)) places
  stmt_must_assign these (set ks v) = list_any (λ k. these (element k)) ks
  stmt_must_assign these (assign_at index spacing places e) = false
  stmt_must_assign these (set_at index spacing ks e) = false
  stmt_must_assign these (if_of bs) = branches_must_assign these bs
  stmt_must_assign these (case_of v alts) = alternatives_must_assign these alts

  -- a sequence with a member that does
  pub must_assign : (these : Target → Bool) → Stmts → Bool
  must_assign these done = false
  must_assign these (step s rest) = stmt_must_assign these s || must_assign these rest

  -- an if with an else, all of whose branches do
  pub branches_must_assign : (these : Target → Bool) → Branches → Bool
  branches_must_assign these no_else = false
  branches_must_assign these (otherwise s) = must_assign these s
  branches_must_assign these (branch t s bs) = must_assign these s && branches_must_assign these bs

  -- a case, all of whose alternatives do
  pub alternatives_must_assign : (these : Target → Bool) → Alternatives → Bool
  alternatives_must_assign these (others s) = must_assign these s
  alternatives_must_assign these (alternative choices s alts) =
      must_assign these s && alternatives_must_assign these alts

-- ---- on some path

abbrev mutual
  pub stmt_assigns : (these : Target → Bool) → Stmt → Bool
  stmt_assigns these null_of = false
  stmt_assigns these (assign places v) = list_any (λ place. these (driver place)) places
  stmt_assigns these (set ks v) = list_any (λ k. these (element k)) ks
  stmt_assigns these (assign_at index spacing places e) = list_any (λ place. these (driver place)) places
  stmt_assigns these (set_at index spacing ks e) = list_any (λ k. these (element k)) ks
  stmt_assigns these (if_of bs) = branches_assign these bs
  stmt_assigns these (case_of v alts) = alternatives_assign these alts

  -- an assignment stands in a body, on whatever path
  pub stmts_assign : (these : Target → Bool) → Stmts → Bool
  stmts_assign these done = false
  stmts_assign these (step s rest) = stmt_assigns these s || stmts_assign these rest

  pub branches_assign : (these : Target → Bool) → Branches → Bool
  branches_assign these no_else = false
  branches_assign these (otherwise s) = stmts_assign these s
  branches_assign these (branch t s bs) = stmts_assign these s || branches_assign these bs

  pub alternatives_assign : (these : Target → Bool) → Alternatives → Bool
  alternatives_assign these (others s) = stmts_assign these s
  alternatives_assign these (alternative choices s alts) = stmts_assign these s || alternatives_assign these alts
