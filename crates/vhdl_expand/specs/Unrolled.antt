-- What a body costs when its loops are unrolled (IEEE 1076-2008, 10.10): each assignment, null, if and case is a
-- statement, a case on an integer also the numbers that it spreads, and a loop is its turns and the statements of each.
use Rattle.std.specs.Prelude.{ℕ, List, [], ◌∷◌, length, Ok}
use Rattle.vhdl_names_rules.specs.units.Expressions as expressions
use Rattle.vhdl_names_rules.specs.units.Expressions.{Value}
use Rattle.vhdl_names_rules.specs.units.Statements as u
use Rattle.vhdl_names_rules.specs.units.Bytes.{statements_bytes}
use Rattle.vhdl_names_units.specs.views.Sequential.{Guarded, Chosen, statements_of}
use Rattle.vhdl_expand_rules.specs.Elab.{Elab, ◌>>=◌}
use Rattle.vhdl_expand_rules.specs.Integers.{turns}
use Rattle.vhdl_expand_rules.specs.Site.{Site, in_loop}
use Rattle.vhdl_expand_rules.specs.Statements.{or_none, spread_count}
use Rattle.vhdl_elab_rules.specs.Limits.{Counts}
use Rattle.vhdl_expand_tree.specs.Costs as costs
use Rattle.vhdl_expand_tree.specs.Costs.{no_costs, a_statement, plus, spent}

-- where both are given
abbrev pub both : Elab Counts → Elab Counts → Elab Counts
both p q = do
  a ← p
  b ← q
  Ok (plus a b)

-- of several things, one after another
abbrev pub together : {A : Type 0} → (A → Elab Counts) → List A → Elab Counts
together f [] = Ok no_costs
together f (x ∷ xs) = both (f x) (together f xs)

-- the numbers that a case on this value spreads, each as a turn
abbrev pub spread_costs : Site → (at : ℕ) → Value → u.Alternatives → Counts
spread_costs here at (expressions.Value.computed x) alts = costs.turns (or_none (spread_count here at x alts))
spread_costs here at v alts = no_costs

unfoldable mutual
  pub statement_costs : Site → u.Statement → Elab Counts
  statement_costs here (u.if_of at bs) = both (Ok a_statement) (branches_costs here bs)
  statement_costs here (u.case_of at v alts) =
      both (Ok a_statement) (both (Ok (spread_costs here at v alts)) (alternatives_costs here alts))
  statement_costs here (u.for_of at r body) = do
    is ← turns here.integers at r
    both (Ok (costs.turns (length is))) (together (λ i. statements_costs (in_loop here i) body) is)
  statement_costs here _ = Ok a_statement

  pub statements_costs : Site → u.Statements → Elab Counts
  statements_costs here u.done = Ok no_costs
  statements_costs here (u.step s rest) = both (statement_costs here s) (statements_costs here rest)

  pub branches_costs : Site → u.Branches → Elab Counts
  branches_costs here u.no_else = Ok no_costs
  branches_costs here (u.otherwise s) = statements_costs here s
  branches_costs here (u.branch t s bs) = both (statements_costs here s) (branches_costs here bs)

  pub alternatives_costs : Site → u.Alternatives → Elab Counts
  alternatives_costs here (u.others s) = statements_costs here s
  alternatives_costs here (u.complete choices s) = statements_costs here s
  alternatives_costs here (u.alternative choices s alts) = both (statements_costs here s) (alternatives_costs here alts)

-- what is left of a budget when these costs are paid; no one says where it ends
abbrev pub paid : (budget : Counts) → Elab Counts → Elab Counts
paid budget given = do
  c ← given
  spent 0 budget c

-- ---- the same where branches and alternatives stand in lists, and the bytes of their statements

abbrev pub guarded_costs : Site → Guarded → Elab Counts
guarded_costs here g = statements_costs here (statements_of g.statements)

abbrev pub chosen_costs : Site → Chosen → Elab Counts
chosen_costs here g = statements_costs here (statements_of g.statements)

abbrev pub guarded_bytes : Guarded → List ℕ
guarded_bytes g = statements_bytes (statements_of g.statements)

abbrev pub chosen_bytes : Chosen → List ℕ
chosen_bytes g = statements_bytes (statements_of g.statements)
