-- Chains of operators on vectors and on integers that a run computes, and aggregates.
use Rattle.std.proofs.Common.{◌≡◌, ℕ, List, [], ◌∷◌, Box, Vec, Global, Option, refl, sym, ap, ◌∙◌}
use Rattle.vhdl_names_trees.specs.declared.integer.StaticRange.{StaticRange}
use Rattle.vhdl_names_trees.specs.declared.vector.Computed.{Computed}
use Rattle.vhdl_names_trees.specs.declared.vector.Computed.TheVariants as m
use Rattle.vhdl_names_trees.specs.declared.vector.ComputedLink.{ComputedLink}
use Rattle.vhdl_names_trees.specs.declared.vector.ComputedStart.{ComputedStart}
use Rattle.vhdl_names_trees.specs.declared.vector.Vector.{Vector}
use Rattle.vhdl_names_trees.specs.declared.vector.Vector.TheVariants as v
use Rattle.vhdl_names_trees.specs.declared.vector.VectorElement.{VectorElement}
use Rattle.vhdl_names_trees.specs.declared.vector.VectorLink.{VectorLink}
use Rattle.vhdl_names_trees.specs.declared.vector.VectorLink.TheVariants as l
use Rattle.vhdl_names_trees.specs.declared.vector.VectorStart.{VectorStart}
use Rattle.vhdl_names_trees.specs.views.Integers.{option_range_view}
use Rattle.vhdl_names_trees.specs.views.Vectors.{computed_view, computed_start_view, computed_chained, vector_view, elements_view, vector_chained}
use Rattle.vhdl_names_trees.specs.views.Vectors as views
use Rattle.vhdl_names_rules.specs.units.Expressions as u
use Rattle.vhdl_names_trees.proofs.rows.Vectors.{view_chain, view_aggregate, view_computed_chain}
use Rattle.vhdl_expand_rules.specs.Elab.{Elab, ◌>>=◌}
use Rattle.vhdl_expand_rules.specs.Site.{Site}
use Rattle.vhdl_expand_rules.specs.Expressions.{computed, measured, vector}
use Rattle.vhdl_expand_bodies.specs.steps.Chains.{chained}
use Rattle.vhdl_expand_bodies.specs.steps.Computed as numbers
use Rattle.vhdl_expand_bodies.specs.steps.Vectors as steps
use Rattle.vhdl_expand_rules.proofs.Chains.{bind-assoc}
use Rattle.vhdl_expand_bodies.proofs.Chained.{last-ok, chain_of}

module _ (here : Site) where
  linked-step : (t : u.Vector) (k : VectorLink) → vector here (views.linked t k) ≡ (vector here t >>= λ d. steps.linked here d k)
  unfolding vector
  linked-step t (l.Vector op pos x) = refl
  linked-step t (l.Integer op pos s) = refl
  linked-step t (l.Computed op pos x) = refl

  -- a chain is grouped from the left
  pub chain_is : (e : Vector) (start : Box VectorStart Global) (links : Vec VectorLink Global) (st : VectorStart) (ls : List VectorLink) → e ≡ v.Chain start links → st ≡ start.value → ls ≡ links.items
      → vector here (vector_view e) ≡ (steps.started here st >>= λ d. chained (steps.linked here) d ls)
  chain_is e start links st ls h j k =
      chain_of (steps.linked here) (vector here) views.linked vector_chained (λ x. refl) (λ x k ks. refl) linked-step (λ (s : VectorStart). vector_view s.first) (λ (s : VectorStart). s.link)
      _ start.value st links.items ls (ap (λ (a : Vector). vector here (vector_view a)) h ∙ ap (vector here) (view_chain start links)) j k

  -- an aggregate, and what is lent of its parts
  pub aggregate_is : (e : Vector) (at : ℕ) (range : Option (Box StaticRange Global)) (es : Vec VectorElement Global) (xs : List VectorElement) (r : Option u.Range) → e ≡ v.Aggregate at range es → option_range_view range ≡ r → xs ≡ es.items
      → vector here (vector_view e) ≡ vector here (u.aggregate at r (elements_view xs))
  aggregate_is e at range es xs r h j k =
      ap (λ (a : Vector). vector here (vector_view a)) h ∙ ap (vector here) (view_aggregate at range es)
      ∙ ap (λ q. vector here (u.aggregate at q (elements_view es.items))) j ∙ ap (λ ys. vector here (u.aggregate at r (elements_view ys))) (sym k)

-- operators on integers that a run computes: the byte that is given stands for none but a first operand's
module _ {D : Type 0} (meant : ℕ → u.Computed → Elab D) (linked : D → ComputedLink → Elab D)
    (step : (at : ℕ) (x : u.Computed) (k : ComputedLink) → meant at (u.calculated k.at k.operator x (computed_view k.operand)) ≡ (meant k.at x >>= λ d. linked d k)) where
  links-are : (at : ℕ) (x : u.Computed) (ks : List ComputedLink) → ((p q : ℕ) → meant p x ≡ meant q x) → meant at (computed_chained x ks) ≡ (meant at x >>= λ d. chained linked d ks)
  links-are at x [] same = last-ok linked (meant at x)
  links-are at x (k ∷ ks) same =
      let y = u.calculated k.at k.operator x (computed_view k.operand) in
      links-are at y ks (λ p q. step p x k ∙ sym (step q x k))
      ∙ ap (λ r. r >>= λ d. chained linked d ks) (step at x k ∙ ap (λ r. r >>= λ d. linked d k) (same k.at at))
      ∙ bind-assoc (meant at x) (λ d. linked d k) (λ d. chained linked d ks)

  computed_chain_is : (at : ℕ) (e : Computed) (start : Box ComputedStart Global) (links : Vec ComputedLink Global) (st : ComputedStart) (ls : List ComputedLink)
      → e ≡ m.Chain start links → st ≡ start.value → ls ≡ links.items
      → meant at (computed_view e) ≡ ((meant st.link.at (computed_view st.first) >>= λ d. linked d st.link) >>= λ d. chained linked d ls)
  computed_chain_is at e start links st ls h j k =
      let begin = start.value in
      let x = computed_start_view begin in
      ap (λ (a : Computed). meant at (computed_view a)) h ∙ ap (meant at) (view_computed_chain start links)
      ∙ links-are at x links.items (λ p q. step p (computed_view begin.first) begin.link ∙ sym (step q (computed_view begin.first) begin.link))
      ∙ ap (λ r. r >>= λ d. chained linked d links.items) (step at (computed_view begin.first) begin.link)
      ∙ ap (λ (s : ComputedStart). (meant s.link.at (computed_view s.first) >>= λ d. linked d s.link) >>= λ d. chained linked d links.items) (sym j)
      ∙ ap (λ (xs : List ComputedLink). (meant st.link.at (computed_view st.first) >>= λ d. linked d st.link) >>= λ d. chained linked d xs) (sym k)

module _ (here : Site) where
  computed-step : (at : ℕ) (x : u.Computed) (k : ComputedLink) → computed here at (u.calculated k.at k.operator x (computed_view k.operand)) ≡ (computed here k.at x >>= λ d. numbers.linked here d k)
  unfolding computed
  computed-step at x k = refl

  measured-step : (at : ℕ) (x : u.Computed) (k : ComputedLink) → measured here at (u.calculated k.at k.operator x (computed_view k.operand)) ≡ (measured here k.at x >>= λ d. numbers.measured_linked here d k)
  unfolding measured
  measured-step at x k = refl

  pub computed_is : (at : ℕ) (e : Computed) (start : Box ComputedStart Global) (links : Vec ComputedLink Global) (st : ComputedStart) (ls : List ComputedLink) → e ≡ m.Chain start links → st ≡ start.value → ls ≡ links.items
      → computed here at (computed_view e) ≡ ((computed here st.link.at (computed_view st.first) >>= λ d. numbers.linked here d st.link) >>= λ d. chained (numbers.linked here) d ls)
  computed_is = computed_chain_is (computed here) (numbers.linked here) computed-step

  pub measured_is : (at : ℕ) (e : Computed) (start : Box ComputedStart Global) (links : Vec ComputedLink Global) (st : ComputedStart) (ls : List ComputedLink) → e ≡ m.Chain start links → st ≡ start.value → ls ≡ links.items
      → measured here at (computed_view e) ≡ ((measured here st.link.at (computed_view st.first) >>= λ d. numbers.measured_linked here d st.link) >>= λ d. chained (numbers.measured_linked here) d ls)
  measured_is = computed_chain_is (measured here) (numbers.measured_linked here) measured-step
