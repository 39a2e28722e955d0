-- What elaboration may take for granted of sequential statements.
use Rattle.std.specs.Prelude.{suc, nat_lt, Bool, true, false, ◌&&◌, [], ◌∷◌, slice_get, Option, Some, None, is_some}
use Rattle.std.specs.List.{list_all}
use Rattle.vhdl_tree.specs.declared.declaration.Mode.{Mode}
use Rattle.vhdl_tree.specs.declared.declaration.Mode.TheVariants.{In, Out}
use Rattle.vhdl_names_rules.specs.units.Expressions as e
use Rattle.vhdl_names_rules.specs.units.Expressions.{Signal, Value}
use Rattle.vhdl_names_rules.specs.units.Statements as s
use Rattle.vhdl_names_rules.specs.units.Units as u
use Rattle.vhdl_names_rules.specs.Rules.{◌>>=◌}
use Rattle.vhdl_names_rules.specs.sound.Expressions.{Inside, Shape, one, vector, state, number, index_fits, range_fits, part_shape, place_shape, signal_form, is_vector, has_vector, chosen_shape, chosen_fits, vector_shape, value_shape, fits_shape, value_fits, test_fits}

-- ---- sequential statements

abbrev pub given_fits : Inside → Shape → s.Given → Bool
given_fits i x (s.single y) = value_fits i x y
given_fits i x (s.filled y) = is_vector x && fits_shape one (vector_shape i y)

abbrev pub given_fits_target : Inside → Option Shape → s.Given → Bool
given_fits_target i None g = false
given_fits_target i (Some x) g = given_fits i x g

-- no in port is a target
abbrev pub is_out : Option u.Port → Bool
is_out None = false
is_out (Some p) = out p.mode
  where
    out : Mode → Bool
    out Out = true
    out In = false

abbrev pub is_driven : Inside → Signal → Bool
is_driven i (e.port k) = is_out (slice_get i.ports k)
is_driven i (e.Signal.signal k) = true

abbrev pub within_loop : Inside → Inside
within_loop i = record i { loops = suc i.loops }

abbrev pub choice_fits : Inside → Option Shape → s.Choice → Bool
choice_fits i (Some (state count)) (s.Choice.position p) = nat_lt p count
choice_fits i None (s.Choice.position p) = true
choice_fits i (Some one) (s.values (x ∷ [])) = true
choice_fits i (Some vector) (s.values (x ∷ xs)) = true
choice_fits i (Some number) (s.numbers k) = index_fits i k
choice_fits _ _ _ = false

-- a case is on something of a shape, or on an enumeration's literal
abbrev pub selector_fits : Inside → Value → Bool
selector_fits i (e.Value.position p) = true
selector_fits i x = is_some (value_shape i x)

unfoldable mutual
  pub statement_fits : Inside → s.Statement → Bool
  statement_fits i s.null_of = true
  statement_fits i (s.assign p g) = is_driven i p.signal && given_fits_target i (place_shape i p) g
  statement_fits i (s.set at k p g) = given_fits_target i (slice_get i.variables k >>= λ f. part_shape i f p) g
  statement_fits i (s.assign_in at x c g) =
      is_driven i x && has_vector (signal_form i x) && chosen_fits i c && given_fits i (chosen_shape c) g
  statement_fits i (s.set_in at k c g) =
      has_vector (slice_get i.variables k) && chosen_fits i c && given_fits i (chosen_shape c) g
  statement_fits i (s.if_of at bs) = branches_fit i bs
  statement_fits i (s.case_of at x alts) = selector_fits i x && alternatives_fit i (value_shape i x) alts
  statement_fits i (s.for_of at r body) = range_fits i r && statements_fit (within_loop i) body

  pub statements_fit : Inside → s.Statements → Bool
  statements_fit i s.done = true
  statements_fit i (s.step x xs) = statement_fits i x && statements_fit i xs

  pub branches_fit : Inside → s.Branches → Bool
  branches_fit i s.no_else = true
  branches_fit i (s.otherwise body) = statements_fit i body
  branches_fit i (s.branch t body bs) = test_fits i t && statements_fit i body && branches_fit i bs

  pub alternatives_fit : Inside → Option Shape → s.Alternatives → Bool
  alternatives_fit i x (s.others body) = statements_fit i body
  alternatives_fit i x (s.complete cs body) = list_all (choice_fits i x) cs && statements_fit i body
  alternatives_fit i x (s.alternative cs body alts) =
      list_all (choice_fits i x) cs && statements_fit i body && alternatives_fit i x alts
