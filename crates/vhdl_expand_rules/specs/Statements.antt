-- Expanded bodies: targets are elements, and a loop is the sequence of its turns (IEEE 1076-2008, clause 10). Lengths
-- agree in each statement, run or not.
use Rattle.std.specs.Prelude.{ℕ, ◌+◌, ◌==◌, Bool, true, false, not, ◌&&◌, ◌||◌, nat_le, if◌then◌else◌, List, [], ◌∷◌, ◌++◌, length, map, flat_map, sum, slice_get, Option, Some, ℤ, int_le, Ok, Err}
use Rattle.std.specs.List.{list_any, list_all}
use Rattle.vhdl_values.specs.Scalar.{code_of}
use Rattle.vhdl_names_rules.specs.units.Expressions as expressions
use Rattle.vhdl_names_rules.specs.units.Statements as u
use Rattle.vhdl_names_rules.specs.units.Statements.{Given, Choice}
use Rattle.rtl_model.specs.bodies.Body as bodies
use Rattle.rtl_model.specs.bodies.Fits.{width, value_width}
use Rattle.vhdl_expand_rules.specs.declared.fault.ElabProblem.TheVariants.{GenericRange, Length, Index, StaticError, TooMany}
use Rattle.vhdl_expand_rules.specs.Elab.{Elab, ◌>>=◌, ◌>>◌, refused, unless, each, same_length}
use Rattle.vhdl_tree.specs.declared.operator.Direction.TheVariants.{To}
use Rattle.vhdl_numbers.specs.TwosComplement.{signed_digits_of}
use Rattle.vhdl_names_rules.specs.units.Expressions.{Computed, index_start}
use Rattle.vhdl_expand_rules.specs.Aggregates.{computed_range}
use Rattle.vhdl_expand_rules.specs.Integers as integers
use Rattle.vhdl_expand_rules.specs.Integers.{IntegerRange, Integers, of_range, integer_among, is_null, extent, numbers_from, most_turns, turns}
use Rattle.vhdl_expand_rules.specs.Kinds.{ObjectKind, integer, range_span, number_size}
use Rattle.vhdl_expand_rules.specs.Computed as numbers
use Rattle.vhdl_expand_rules.specs.Computed.{Number, Span, covers, held_in}
use Rattle.vhdl_expand_rules.specs.Site.{Site, in_loop, signal_kind, place_elements, signal_elements, variable_elements, signal_bounds, variable_bounds}
use Rattle.vhdl_expand_rules.specs.Expressions.{vector, value, test, chosen_row, computed, kept_in}

-- what is assigned to so many elements: a value with as many, or one element for each of them
unfoldable pub value_given : Site → (at : ℕ) → (len : ℕ) → Given → Elab bodies.Value
value_given here at len (u.single v) = do
  e ← value here at v
  same_length at (value_width e) len
  Ok e
value_given here at len (u.filled x) = do
  e ← vector here x
  same_length at (width e) 1
  Ok (bodies.elements (bodies.filled len e))

-- to an integer (5.2.1, 10.5.2.1): a static one lies within the range, and a computed one outside is X (own)
abbrev pub number_given : Site → (at : ℕ) → IntegerRange → Computed → Elab bodies.Value
number_given here at r (expressions.static s) = do
  n ← integer_among here.integers at (of_range r) s
  Ok (bodies.elements (bodies.constant (signed_digits_of (number_size r) n)))
number_given here at r x = do
  n ← computed here at x
  Ok (bodies.elements (kept_in r n))

-- to so many elements of an object of this kind
abbrev pub given_to : Site → (at : ℕ) → Option ObjectKind → (len : ℕ) → Given → Elab bodies.Value
given_to here at (Some (integer r)) len (u.single (expressions.Value.computed x)) = number_given here at r x
given_to here at kind len g = value_given here at len g

-- what a run chooses is of the nine values, and so is what is given to it, in units that names have passed
unfoldable pub elements_given : Site → (at : ℕ) → (len : ℕ) → Given → Elab bodies.Expr
elements_given here at len (u.single (expressions.elements x)) = do
  e ← vector here x
  same_length at (width e) len
  Ok e
elements_given here at len (u.single v) = refused (Length 1 len) at
elements_given here at len (u.filled x) = do
  e ← vector here x
  same_length at (width e) 1
  Ok (bodies.filled len e)

-- a choice has as many elements as what is selected by
unfoldable pub choice : (at : ℕ) → (len : ℕ) → Choice → Elab (List ℕ)
choice at len (u.values vs) = do
  same_length at (length vs) len
  Ok (map code_of vs)
choice at len (u.position n) = Ok (n ∷ [])
-- integers are chosen otherwise
choice at len (u.numbers i) = refused (Length 1 len) at

-- ---- a case on an integer: each choice has its numbers (10.9)

-- of all alternatives but the last the numbers are spread; the last one stands as others
abbrev pub spread_choices : u.Alternatives → List Choice
spread_choices (u.others s) = []
spread_choices (u.complete cs s) = []
spread_choices (u.alternative cs s alts) = cs ++ spread_choices alts

abbrev pub last_choices : u.Alternatives → List Choice
last_choices (u.others s) = []
last_choices (u.complete cs s) = cs
last_choices (u.alternative cs s alts) = last_choices alts

abbrev pub index_range : Integers → expressions.Index → Elab IntegerRange
index_range here (expressions.index at s) = do
  n ← integers.integer here at s
  Ok (record { left = n; direction = To; right = n })
index_range here (expressions.indexes at r) = computed_range here at r

-- a null range has no number
abbrev pub range_spans : IntegerRange → List Span
range_spans r = if is_null r.direction r.left r.right then [] else range_span r ∷ []

abbrev pub starting : (at : ℕ) → Span → ℕ × Span
starting at s = (at, s)

-- where a choice starts, and its numbers, which are some of these
abbrev pub choice_spans : Integers → (among : Span) → Choice → Elab (List (ℕ × Span))
choice_spans here among (u.numbers i) = do
  r ← index_range here i
  unless GenericRange (index_start i) (list_all (covers among) (range_spans r))
  Ok (map (starting (index_start i)) (range_spans r))
choice_spans here among _ = Ok []

abbrev pub choices_spans : Integers → (among : Span) → List Choice → Elab (List (ℕ × Span))
choices_spans here among cs = do
  ss ← each (choice_spans here among) cs
  Ok (flat_map (λ xs. xs) ss)

-- of the name of an object, the choices are of its range, else any integers
abbrev pub may_choose : Computed → Number → Span
may_choose (expressions.signal_number x) n = n.span
may_choose (expressions.variable_number k) n = n.span
may_choose x n = numbers.integers

abbrev pub overlap : Span → Span → Bool
overlap s t = int_le s.least t.greatest && int_le t.least s.greatest

-- no number is chosen twice
abbrev pub are_apart : (before : List Span) → List (ℕ × Span) → Elab (Unit {0})
are_apart before [] = Ok tt
are_apart before ((at, s) ∷ rest) = do
  unless Index at (not (list_any (overlap s) before))
  are_apart (before ++ s ∷ []) rest

-- the numbers that the integer may be; others are never chosen
abbrev pub count_in : (all : Span) → Span → ℕ
count_in all s = if overlap all s then extent To (held_in all s.least) (held_in all s.greatest) else 0

abbrev pub numbers_in : (all : Span) → Span → List ℤ
numbers_in all s = numbers_from To (held_in all s.least) (count_in all s)

abbrev pub numbers_count : (all : Span) → List (ℕ × Span) → ℕ
numbers_count all ss = sum (map (λ (s : ℕ × Span). count_in all s.1) ss)

-- without others each number has a choice
abbrev pub has_others : u.Alternatives → Bool
has_others (u.others s) = true
has_others (u.complete cs s) = false
has_others (u.alternative cs s alts) = has_others alts

abbrev pub are_complete : (at : ℕ) → (all : Span) → u.Alternatives → List (ℕ × Span) → Elab (Unit {0})
are_complete at all alts ss =
    unless StaticError at (has_others alts || numbers_count all ss == extent To all.least all.greatest)

abbrev pub may_be_spread : (at : ℕ) → (all : Span) → List (ℕ × Span) → Elab (Unit {0})
may_be_spread at all ss = unless TooMany at (nat_le (numbers_count all ss) most_turns)

-- the rules of the choices of a case on this number
abbrev pub choices_serve : Integers → (at : ℕ) → (among : Span) → Number → u.Alternatives → Elab (Unit {0})
choices_serve here at among n alts = do
  ss ← choices_spans here among (spread_choices alts)
  ts ← choices_spans here among (last_choices alts)
  are_apart [] (ss ++ ts)
  are_complete at n.span alts (ss ++ ts)
  may_be_spread at n.span ss

-- an integer in as many digits as this number has
abbrev pub digits_beside : Number → ℤ → List ℕ
digits_beside n x = map code_of (signed_digits_of (width n.digits) x)

-- each number of some choices
abbrev pub spread : Integers → (among : Span) → Number → List Choice → Elab (List (List ℕ))
spread here among n cs = do
  ss ← choices_spans here among cs
  Ok (map (digits_beside n) (flat_map (λ (s : ℕ × Span). numbers_in n.span s.1) ss))

-- bodies, one after another
abbrev pub joined_bodies : List bodies.Stmts → bodies.Stmts
joined_bodies [] = bodies.done
joined_bodies (s ∷ ss) = bodies.followed_by s (joined_bodies ss)

-- a statement as the sequence that it is
abbrev pub one : bodies.Stmt → bodies.Stmts
one s = bodies.step s bodies.done

unfoldable mutual
  pub statement : Site → u.Statement → Elab bodies.Stmts
  statement here u.null_of = Ok (one bodies.null_of)
  statement here (u.assign p g) = do
    es ← place_elements here p
    v ← given_to here p.at (signal_kind here p.signal) (length es) g
    Ok (one (bodies.assign es v))
  statement here (u.set at k part g) = do
    es ← variable_elements here at k part
    v ← given_to here at (slice_get here.variables k) (length es) g
    Ok (one (bodies.set es v))
  statement here (u.assign_in at x c g) = do
    es ← signal_elements here at x expressions.whole
    b ← signal_bounds here at x
    r ← chosen_row here at b c
    e ← elements_given here at r.spacing.len g
    Ok (one (bodies.assign_at r.index r.spacing es e))
  statement here (u.set_in at k c g) = do
    es ← variable_elements here at k expressions.whole
    b ← variable_bounds here at k
    r ← chosen_row here at b c
    e ← elements_given here at r.spacing.len g
    Ok (one (bodies.set_at r.index r.spacing es e))
  statement here (u.if_of at bs) = do
    cs ← branches here bs
    Ok (one (bodies.if_of cs))
  statement here (u.case_of at (expressions.Value.computed x) alts) = do
    n ← computed here at x
    choices_serve here.integers at (may_choose x n) n alts
    cs ← alternatives here (spread here.integers (may_choose x n) n) alts
    Ok (one (bodies.case_of (bodies.elements n.digits) cs))
  statement here (u.case_of at v alts) = do
    e ← value here at v
    cs ← alternatives here (each (choice at (value_width e))) alts
    Ok (one (bodies.case_of e cs))
  statement here (u.for_of at r body) = do
    is ← turns here.integers at r
    ss ← each (λ i. statements (in_loop here i) body) is
    Ok (joined_bodies ss)

  pub statements : Site → u.Statements → Elab bodies.Stmts
  statements here u.done = Ok bodies.done
  statements here (u.step s rest) = do
    x ← statement here s
    y ← statements here rest
    Ok (bodies.followed_by x y)

  pub branches : Site → u.Branches → Elab bodies.Branches
  branches here u.no_else = Ok bodies.no_else
  branches here (u.otherwise s) = do
    x ← statements here s
    Ok (bodies.otherwise x)
  branches here (u.branch t s bs) = do
    c ← test here t
    x ← statements here s
    y ← branches here bs
    Ok (bodies.branch c x y)

  -- each with the codes of its choices
  pub alternatives : Site → (codes_of : List Choice → Elab (List (List ℕ))) → u.Alternatives → Elab bodies.Alternatives
  alternatives here codes_of (u.others s) = do
    x ← statements here s
    Ok (bodies.others x)
  alternatives here codes_of (u.complete cs s) = do
    x ← statements here s
    Ok (bodies.others x)
  alternatives here codes_of (u.alternative choices s alts) = do
    cs ← codes_of choices
    x ← statements here s
    y ← alternatives here codes_of alts
    Ok (bodies.alternative cs x y)

-- ---- how many turns the loops of a body have together: each turn of an outer loop counts, and those inside it; and so
-- do the numbers that are spread

-- what is wrong with a case is told where it is expanded
abbrev pub or_none : Elab ℕ → ℕ
or_none (Ok n) = n
or_none (Err told) = 0

abbrev pub spread_count : Site → (at : ℕ) → Computed → u.Alternatives → Elab ℕ
spread_count here at x alts = do
  n ← computed here at x
  ss ← choices_spans here.integers (may_choose x n) (spread_choices alts)
  Ok (numbers_count n.span ss)

-- the sum of two numbers, one computed before the other
abbrev pub added : Elab ℕ → Elab ℕ → Elab ℕ
added first second = do
  m ← first
  n ← second
  Ok (m + n)

unfoldable mutual
  pub statement_turns : Site → u.Statement → Elab ℕ
  statement_turns here (u.if_of at bs) = branches_turns here bs
  statement_turns here (u.case_of at (expressions.Value.computed x) alts) =
      added (Ok (or_none (spread_count here at x alts))) (alternatives_turns here alts)
  statement_turns here (u.case_of at v alts) = alternatives_turns here alts
  statement_turns here (u.for_of at r body) = do
    is ← turns here.integers at r
    ns ← each (λ i. statements_turns (in_loop here i) body) is
    Ok (length is + sum ns)
  statement_turns here _ = Ok 0

  pub statements_turns : Site → u.Statements → Elab ℕ
  statements_turns here u.done = Ok 0
  statements_turns here (u.step s rest) = added (statement_turns here s) (statements_turns here rest)

  pub branches_turns : Site → u.Branches → Elab ℕ
  branches_turns here u.no_else = Ok 0
  branches_turns here (u.otherwise s) = statements_turns here s
  branches_turns here (u.branch t s bs) = added (statements_turns here s) (branches_turns here bs)

  pub alternatives_turns : Site → u.Alternatives → Elab ℕ
  alternatives_turns here (u.others s) = statements_turns here s
  alternatives_turns here (u.complete cs s) = statements_turns here s
  alternatives_turns here (u.alternative choices s alts) =
      added (statements_turns here s) (alternatives_turns here alts)
