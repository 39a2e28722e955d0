-- Statements whose parts stand in lists, as the code comes to them.
use Rattle.std.specs.Prelude.{ℕ, ◌-◌, ◌^◌, min, ℤ, List, [], ◌∷◌, Ok}
use Rattle.vhdl_names_rules.specs.units.Expressions.{Range, Computed, Value}
use Rattle.vhdl_names_rules.specs.units.Statements.{Choice}
use Rattle.vhdl_names_rules.specs.units.Statements as u
use Rattle.rtl_model.specs.bodies.Body as bodies
use Rattle.rtl_model.specs.bodies.Fits.{value_width}
use Rattle.vhdl_names_units.specs.views.Sequential.{Guarded, Chosen, statements_of}
use Rattle.vhdl_expand_rules.specs.Elab.{Elab, ◌>>=◌, ◌>>◌, each}
use Rattle.vhdl_expand_rules.specs.Integers.{turns}
use Rattle.vhdl_expand_rules.specs.Site.{Site, in_loop}
use Rattle.vhdl_expand_rules.specs.Expressions.{computed, value, test}
use Rattle.vhdl_expand_rules.specs.Statements.{choice, choices_spans, numbers_count, spread, may_choose, joined_bodies, statements, branches}
use Rattle.vhdl_expand_choices.specs.Views.{all_choices, served}

-- what stands behind statements that are made already
abbrev pub after : bodies.Stmts → Elab bodies.Stmts → Elab bodies.Stmts
after made more = do
  s ← more
  Ok (bodies.followed_by made s)

-- what makes the codes of choices
abbrev pub Codes : Type 0
Codes = List Choice → Elab (List (List ℕ))

-- a condition, or choices, and the statements that they guard
pub record Branch : Type 0 where
  pub test : bodies.Test
  pub statements : bodies.Stmts

pub record Alternative : Type 0 where
  pub choices : List (List ℕ)
  pub statements : bodies.Stmts

abbrev pub branches_before : bodies.Branches → List Branch → bodies.Branches
branches_before last [] = last
branches_before last (x ∷ xs) = bodies.branch x.test x.statements (branches_before last xs)

abbrev pub alternatives_before : bodies.Stmts → List Alternative → bodies.Alternatives
alternatives_before last [] = bodies.others last
alternatives_before last (x ∷ xs) = bodies.alternative x.choices x.statements (alternatives_before last xs)

abbrev pub branch : Site → Guarded → Elab Branch
branch here g = do
  c ← test here g.condition
  x ← statements here (statements_of g.statements)
  Ok (record { test = c; statements = x })

abbrev pub conditional : Site → List Guarded → u.Branches → Elab bodies.Stmt
conditional here gs last = do
  bs ← each (branch here) gs
  y ← branches here last
  Ok (bodies.if_of (branches_before y bs))

-- what a case that starts at this byte is on, and what makes the codes of its choices: of the alternatives, and of a
-- last one without others
abbrev pub selector : Site → (at : ℕ) → Value → List Chosen → (last : List Choice) → Elab (bodies.Value × Codes)
selector here at (Value.computed x) gs last = do
  n ← computed here at x
  served here.integers at (may_choose x n) n.span (all_choices gs) last
  Ok (bodies.elements n.digits, spread here.integers (may_choose x n) n)
selector here at v gs last = do
  e ← value here at v
  Ok (e, each (choice at (value_width e)))

abbrev pub alternative : Site → Codes → Chosen → Elab Alternative
alternative here codes g = do
  cs ← codes g.choices
  x ← statements here (statements_of g.statements)
  Ok (record { choices = cs; statements = x })

abbrev pub selection : Site → (at : ℕ) → Value → List Chosen → (last : List Choice) → u.Statements → Elab bodies.Stmt
selection here at v gs last others = do
  e ← selector here at v gs last
  bs ← each (alternative here e.1) gs
  y ← statements here others
  Ok (bodies.case_of e.0 (alternatives_before y bs))

-- how many numbers of a case on an integer are spread, or the most that a word holds
abbrev pub spread_number : Site → (at : ℕ) → Computed → List Chosen → Elab ℕ
spread_number here at x gs = do
  n ← computed here at x
  ss ← choices_spans here.integers (may_choose x n) (all_choices gs)
  Ok (min (2 ^ 64 - 1) (numbers_count n.span ss))

-- the turns of a loop whose parameter has these values
abbrev pub repeated : Site → u.Statements → List ℤ → Elab bodies.Stmts
repeated here body is = do
  ss ← each (λ i. statements (in_loop here i) body) is
  Ok (joined_bodies ss)

-- of a loop that starts at this byte
abbrev pub turned : Site → (at : ℕ) → Range → u.Statements → Elab bodies.Stmts
turned here at r body = do
  is ← turns here.integers at r
  repeated here body is
