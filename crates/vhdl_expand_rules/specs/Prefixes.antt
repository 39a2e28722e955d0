-- The longest static prefixes of the names in a text, before its loops are unrolled: a process has a driver for each
-- element of those of its targets, and `process (all)` is sensitive to those of the names that it reads (IEEE
-- 1076-2008, 8.1, 14.7.2, 11.3).
use Rattle.std.specs.Prelude.{ℕ, Bool, true, ◌&&◌, ◌==◌, if◌then◌else◌, List, [], ◌∷◌, ◌++◌, filter, Ok}
use Rattle.std.specs.List.{list_any, range_with_len}
use Rattle.vhdl_names_rules.specs.units.Expressions as u
use Rattle.vhdl_names_rules.specs.units.Expressions.{Part, SignalPart, Computed, Chosen, Vector, Elements, Value, Test}
use Rattle.vhdl_names_rules.specs.units.Statements as s
use Rattle.vhdl_names_rules.specs.Names.{is_static}
use Rattle.vhdl_expand_rules.specs.declared.prefix.Sought.{Sought}
use Rattle.vhdl_expand_rules.specs.declared.prefix.Sought.TheVariants.{Read, Assigned}
use Rattle.vhdl_expand_rules.specs.Elab.{Elab, ◌>>=◌, each}
use Rattle.vhdl_expand_rules.specs.Site.{Site, place_elements}

-- ---- prefixes: a loop's parameter is not static

abbrev pub is_static_part : Part → Bool
is_static_part u.whole = true
is_static_part (u.Part.element x) = is_static x
is_static_part (u.slice r) = is_static r.left && is_static r.right

-- the name, or where its index or slice isn't static, the whole of what is declared
abbrev pub prefix : SignalPart → SignalPart
prefix p = if is_static_part p.part then p else record p { part = u.whole }

-- ---- the signals that a text names: those that it reads, or those that it assigns

-- The whole of a signal of which a run chooses a part, of an enumeration or of an integer, whose byte the units don't
-- have: it is there in units that names have passed, so that nothing is told at it. What it is chosen by is read.
abbrev pub whole_of : u.Signal → SignalPart
whole_of x = record { at = 0; signal = x; part = u.whole }

abbrev mutual
  pub computed_names : Computed → List SignalPart
  computed_names (u.static s) = []
  computed_names (u.number_of at x) = vector_names x
  computed_names (u.signal_number x) = whole_of x ∷ []
  computed_names (u.variable_number k) = []
  computed_names (u.Computed.negated at x) = computed_names x
  computed_names (u.magnitude at x) = computed_names x
  computed_names (u.calculated at op x y) = computed_names x ++ computed_names y

  pub chosen_names : Chosen → List SignalPart
  chosen_names (u.element_at x) = computed_names x
  chosen_names (u.slice_at x direction y) = computed_names x ++ computed_names y

  pub vector_names : Vector → List SignalPart
  vector_names (u.of_signal p) = p ∷ []
  vector_names (u.in_signal at x c) = whole_of x ∷ chosen_names c
  vector_names (u.in_variable at k c) = chosen_names c
  vector_names (u.in_constant at k c) = chosen_names c
  vector_names (u.Vector.inverse x) = vector_names x
  vector_names (u.Vector.binary at op x y) = vector_names x ++ vector_names y
  vector_names (u.with_integer at op x n) = vector_names x
  vector_names (u.integer_with at op n x) = vector_names x
  vector_names (u.with_computed at op x n) = vector_names x ++ computed_names n
  vector_names (u.computed_with at op n x) = computed_names n ++ vector_names x
  vector_names (u.computed_encoded at n size) = computed_names n
  vector_names (u.counted at op x n) = vector_names x
  vector_names (u.shifted at by x n) = vector_names x ++ computed_names n
  vector_names (u.aggregate at r es) = elements_names es
  vector_names (u.sized at r x) = vector_names x
  vector_names _ = []

  pub elements_names : Elements → List SignalPart
  elements_names u.no_elements = []
  elements_names (u.next x es) = vector_names x ++ elements_names es
  elements_names (u.chosen cs x es) = vector_names x ++ elements_names es
  elements_names (u.Elements.others x) = vector_names x

abbrev pub value_names : Value → List SignalPart
value_names (u.Value.elements x) = vector_names x
value_names (u.state_of x) = whole_of x ∷ []
value_names (u.Value.computed x) = computed_names x
value_names _ = []

abbrev pub test_names : Test → List SignalPart
test_names (u.holds x) = vector_names x
test_names (u.Test.fixed t) = []
test_names (u.alike at x y) = value_names x ++ value_names y
test_names (u.unlike at x y) = value_names x ++ value_names y
test_names (u.Test.compared at op x y) = vector_names x ++ vector_names y
test_names (u.compared_to at op x n) = vector_names x
test_names (u.compared_with at op n x) = vector_names x
test_names (u.compared_to_computed at op x n) = vector_names x ++ computed_names n
test_names (u.compared_with_computed at op n x) = computed_names n ++ vector_names x
test_names (u.computed_compared at op x y) = computed_names x ++ computed_names y
test_names (u.edge kind p) = p ∷ []
test_names (u.event p) = p ∷ []
test_names (u.Test.negated t) = test_names t
test_names (u.Test.both op t r) = test_names t ++ test_names r

abbrev pub given_names : s.Given → List SignalPart
given_names (s.single x) = value_names x
given_names (s.filled x) = vector_names x

-- of these, which are read, the sought ones
abbrev pub read_ones : Sought → List SignalPart → List SignalPart
read_ones Read ps = ps
read_ones Assigned ps = []

abbrev pub assignment_names : Sought → SignalPart → s.Given → List SignalPart
assignment_names Read p g = given_names g
assignment_names Assigned p g = p ∷ []

-- of a target's part that a run chooses
abbrev pub chosen_assignment_names : Sought → u.Signal → Chosen → s.Given → List SignalPart
chosen_assignment_names Read x c g = chosen_names c ++ given_names g
chosen_assignment_names Assigned x c g = whole_of x ∷ []

abbrev mutual
  pub statement_names : Sought → s.Statement → List SignalPart
  statement_names sought s.null_of = []
  statement_names sought (s.assign p g) = assignment_names sought p g
  statement_names sought (s.set at k part g) = read_ones sought (given_names g)
  statement_names sought (s.assign_in at x c g) = chosen_assignment_names sought x c g
  statement_names sought (s.set_in at k c g) = read_ones sought (chosen_names c ++ given_names g)
  statement_names sought (s.if_of at bs) = branches_names sought bs
  statement_names sought (s.case_of at v alts) = read_ones sought (value_names v) ++ alternatives_names sought alts
  statement_names sought (s.for_of at r body) = body_names sought body

  pub body_names : Sought → s.Statements → List SignalPart
  body_names sought s.done = []
  body_names sought (s.step x rest) = statement_names sought x ++ body_names sought rest

  pub branches_names : Sought → s.Branches → List SignalPart
  branches_names sought s.no_else = []
  branches_names sought (s.otherwise body) = body_names sought body
  branches_names sought (s.branch t body bs) =
      read_ones sought (test_names t) ++ (body_names sought body ++ branches_names sought bs)

  pub alternatives_names : Sought → s.Alternatives → List SignalPart
  alternatives_names sought (s.others body) = body_names sought body
  alternatives_names sought (s.complete cs body) = body_names sought body
  alternatives_names sought (s.alternative cs body alts) = body_names sought body ++ alternatives_names sought alts

abbrev pub names : s.Statements → List SignalPart
names xs = body_names Read xs

abbrev pub targets : s.Statements → List SignalPart
targets xs = body_names Assigned xs

-- ---- their elements

abbrev pub concatenation_of : {A : Type 0} → List (List A) → List A
concatenation_of [] = []
concatenation_of (xs ∷ rest) = xs ++ concatenation_of rest

-- the elements of these names, and of their longest static prefixes
unfoldable pub names_elements : Site → List SignalPart → Elab (List ℕ)
names_elements here ps = do
  es ← each (place_elements here) ps
  Ok (concatenation_of es)

unfoldable pub prefixes_elements : Site → List SignalPart → Elab (List ℕ)
prefixes_elements here ps = do
  es ← each (λ p. place_elements here (prefix p)) ps
  Ok (concatenation_of es)

abbrev pub is_among : List ℕ → ℕ → Bool
is_among ns n = list_any (λ m. m == n) ns

-- the numbers below this one that are among these: in order, each once
unfoldable pub in_order : (below : ℕ) → List ℕ → List ℕ
in_order below ns = filter (is_among ns) (range_with_len 0 below)
