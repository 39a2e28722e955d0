-- An integer that a run computes is kept, also one that a chain of operators gives.
use Rattle.std.proofs.Common.{◌≡◌, ℕ, List, [], ◌∷◌, Box, Vec, Global, Ok, refl, sym, ap, ◌∙◌}
use Rattle.vhdl_names_trees.specs.declared.vector.Computed.TheVariants as m
use Rattle.vhdl_names_trees.specs.declared.vector.ComputedLink.{ComputedLink}
use Rattle.vhdl_names_trees.specs.declared.vector.ComputedStart.{ComputedStart}
use Rattle.vhdl_names_trees.specs.views.Vectors.{computed_view, computed_chained, computed_start_view}
use Rattle.vhdl_names_rules.specs.units.Expressions as u
use Rattle.vhdl_names_rules.specs.units.Expressions.{Computed}
use Rattle.vhdl_names_trees.proofs.rows.Vectors.{view_computed_chain}
use Rattle.rtl_model.specs.bodies.Body as bodies
use Rattle.vhdl_expand_rules.specs.Elab.{Elab, ◌>>=◌}
use Rattle.vhdl_expand_rules.specs.Expressions.{computed, kept_in}
use Rattle.vhdl_expand_rules.specs.Integers.{IntegerRange}
use Rattle.vhdl_expand_rules.specs.Site.{Site}
use Rattle.vhdl_expand_rules.specs.Statements as definition

module _ (here : Site) (at : ℕ) (r : IntegerRange) where
  abbrev keeping : Computed → Elab bodies.Value
  keeping x = computed here at x >>= λ n. Ok (bodies.elements (kept_in r n))

  kept-chained : (x : Computed) (ks : List ComputedLink) → definition.number_given here at r x ≡ keeping x → definition.number_given here at r (computed_chained x ks) ≡ keeping (computed_chained x ks)
  kept-chained x [] h = h
  kept-chained x (k ∷ ks) h = kept-chained (u.calculated k.at k.operator x (computed_view k.operand)) ks refl

  pub chain_is_kept : (start : Box ComputedStart Global) (links : Vec ComputedLink Global) → definition.number_given here at r (computed_view (m.Chain start links)) ≡ keeping (computed_view (m.Chain start links))
  chain_is_kept start links =
      ap (definition.number_given here at r) (view_computed_chain start links) ∙ kept-chained (computed_start_view start.value) links.items refl
      ∙ ap keeping (sym (view_computed_chain start links))
