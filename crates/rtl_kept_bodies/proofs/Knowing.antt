-- What is known of the elements of variables, and what the values of a reset's branch are by it.
use Rattle.std.proofs.Common.{◌≡◌, ℕ, ◌+◌, ◌<◌, ◌≤◌, Bool, true, false, not, ◌&&◌, ◌||◌, List, [], ◌∷◌, length, get_or, take, drop, map, replicate, Vec, Global}
use Rattle.std.proofs.Common.{refl, sym, ap, ◌∙◌, subst, arith, ◌⊎◌, inl, inr}
use Rattle.std.specs.List.{list_all, range_with_len}
use Rattle.std.proofs.lemmas.Bool.{and_parts, cases_lt}
use Rattle.std.proofs.lemmas.List.{at_drop_more, at_drop_all, get_or_past, get_or-replicate, length-replicate, get_or-map, length-map}
use Rattle.std.proofs.lemmas.List.Folds.{list_all-append}
use Rattle.std.proofs.lemmas.List.Elements.{All-contains}
use Rattle.std.proofs.lemmas.Option.{slice_get_within}
use Rattle.rtl_model.specs.bodies.Body.{Stmt, null_of, assign, set, assign_at, set_at, if_of, case_of, Stmts, done, step, Branches, no_else, otherwise, branch, Alternatives, others, alternative, Value}
use Rattle.rtl_model.specs.bodies.Fits.{Scope, Fits, FitsStmt, FitsBranches, FitsAlternatives, value_width}
use Rattle.rtl_model.specs.bodies.Leaves.{Leaf}
use Rattle.rtl_model.specs.bodies.Types.{ElementType, nine_valued, HasType}
use Rattle.rtl_model.specs.bodies.Values.{value_of}
use Rattle.rtl_model.specs.bodies.Variables.{stmt_variables}
use Rattle.rtl_model.specs.nets.FlatNetlist.{FlatProcess, ProcessInRange, element_starts, scope_of}
use Rattle.rtl_model.proofs.basics.Lists.{in_contains}
use Rattle.rtl_net.specs.declared.body.Statement.{Statement}
use Rattle.rtl_net.specs.declared.body.Statement.TheVariants as vs
use Rattle.rtl_net.specs.declared.body.Value as net_value
use Rattle.rtl_net.specs.declared.indices.Indices.{Indices}
use Rattle.rtl_net.specs.Bodies.{statement_view, statements_of}
use Rattle.rtl_net.specs.Visits.{Tells}
use Rattle.rtl_body_facts.proofs.Anys.{and_assoc}
use Rattle.rtl_body_facts.proofs.EveryPath.{all_more}
use Rattle.rtl_variable_registers.specs.Bodies as spec
use Rattle.rtl_model.specs.bodies.Assigns.{is_element, stmt_assigns, stmts_assign, branches_assign, alternatives_assign}
use Rattle.rtl_variable_registers.specs.Known.{leaf_is_known, is_known, gives_constants, never_set, at_start}
use Rattle.rtl_variable_registers.proofs.Alike.{constants, reset_fits}
use Rattle.rtl_variable_registers.proofs.InRange.{variables_typed}
use Rattle.rtl_variable_registers.proofs.Known.{knows_more, reads_none, typed_after}
use Rattle.rtl_variable_registers.proofs.Recalling.{length-values_put}
use Rattle.rtl_variable_registers.proofs.Straight.{none_of}
use Rattle.rtl_variable_registers.proofs.Tables.{length_types}
use Rattle.rtl_kept_bodies.proofs.Ranks.{range_more}
use Rattle.rtl_kept_bodies.specs.declared.constants.Known.{Known}
use Rattle.rtl_kept_bodies.specs.Steps.{Marked, SetsWithin, knows, Knows, NeedsKnown, stmt_gives, known_after, CanEvaluate, CanCompute}

-- ---- what is set is there

module _ (scope : Scope) (e : ℕ) where
  abbrev There : Bool → Type 0
  There b = b ≡ true → e < length scope.variables

  both_there : (a b : Bool) → There a → There b → There (a || b)
  both_there true b f g h = f refl
  both_there false b f g h = g h

  mutual
    stmt_there : (s : Stmt) → FitsStmt scope s → There (stmt_assigns (is_element e) s)
    stmt_there null_of f h = absurd cc
    stmt_there (assign ps v) f h = absurd (let n = none_of ps in cc)
    stmt_there (set es v) f h = slice_get_within scope.variables e f.0 (All-contains (HasType scope.variables f.0) es e f.3 (in_contains es e h))
    stmt_there (assign_at index spacing ps d) f h = absurd (let n = none_of ps in cc)
    stmt_there (set_at index spacing es d) f h = slice_get_within scope.variables e nine_valued (All-contains (HasType scope.variables nine_valued) es e f.4 (in_contains es e h))
    stmt_there (if_of bs) f h = branches_there bs f h
    stmt_there (case_of v alts) f h = alternatives_there f.0 (value_width v) alts f.2 h

    pub body_there : (s : Stmts) → Fits scope s → There (stmts_assign (is_element e) s)
    body_there done f h = absurd cc
    body_there (step s rest) f h = both_there (stmt_assigns (is_element e) s) (stmts_assign (is_element e) rest) (stmt_there s f.0) (body_there rest f.1) h

    branches_there : (bs : Branches) → FitsBranches scope bs → There (branches_assign (is_element e) bs)
    branches_there no_else f h = absurd cc
    branches_there (otherwise s) f h = body_there s f h
    branches_there (branch t s bs) f h = both_there (stmts_assign (is_element e) s) (branches_assign (is_element e) bs) (body_there s f.1) (branches_there bs f.2) h

    alternatives_there : (t : ElementType) (len : ℕ) (alts : Alternatives) → FitsAlternatives scope t len alts → There (alternatives_assign (is_element e) alts)
    alternatives_there t len (others s) f h = body_there s f h
    alternatives_there t len (alternative choices s alts) f h =
        both_there (stmts_assign (is_element e) s) (alternatives_assign (is_element e) alts) (body_there s f.1) (alternatives_there t len alts f.2) h

pub sets_within : (types : List ElementType) (p : FlatProcess) → ProcessInRange types p → SetsWithin (length (element_starts p.variables)) p.body
sets_within types p h e s = let l = body_there (scope_of types p) e p.body h.body s in omega (arith, l, length_types p.variables)

-- the flags of what isn't set
pub flags_know : (body : Stmts) (many : ℕ) (marks flags : List Bool) → SetsWithin many body → Marked (λ e. stmts_assign (is_element e) body) (replicate many false) marks → flags ≡ map (λ b. not b) marks
    → Knows (never_set body) flags
flags_know body many marks flags within m is e = ap (λ bs. get_or bs e true) is ∙ go (cases_lt e many)
  where
    long : length marks ≡ many
    long = m.same_length ∙ length-replicate many false

    go : (e < many) ⊎ (many ≤ e) → get_or (map (λ b. not b) marks) e true ≡ never_set body e
    go (inl l) =
        get_or-map (λ b. not b) marks e true true (omega (arith, long))
        ∙ ap not (m.each e ∙ ap (λ (b : Bool). b || stmts_assign (is_element e) body) (get_or-replicate many e false true l))
    go (inr l) = get_or_past (map (λ b. not b) marks) e true (omega (arith, long, length-map marks (λ b. not b))) ∙ sym (ap not (unset (stmts_assign (is_element e) body) (within e)))
      where
        unset : (b : Bool) → (b ≡ true → e < many) → b ≡ false
        unset true f = absurd (let k = f refl in omega arith)
        unset false f = refl

-- ---- whether what is looked at is known

and_true : (a : Bool) → a ≡ (a && true)
and_true true = refl
and_true false = refl

pub needs_as : {old new : Known} {a : Bool} (b : Bool) → a ≡ b → NeedsKnown a old new → NeedsKnown b old new
needs_as {old} b e n = record { same = n.same; all = n.all ∙ ap (λ c. old.all && c) e }

pub needs_none : (k : Known) → NeedsKnown true k k
needs_none k = record { same = refl; all = and_true k.all }

-- one need, and then another, told by what is known then
pub needs_then : {old mid new : Known} {a : Bool} (f : (ℕ → Bool) → Bool) → NeedsKnown a old mid → NeedsKnown (f (knows mid.elements.items)) mid new
    → NeedsKnown (a && f (knows old.elements.items)) old new
needs_then {old} {mid} {new} {a} f n m = record {
  same = m.same ∙ n.same;
  all = m.all ∙ ap (λ (v : Vec Bool Global). mid.all && f (knows v.items)) n.same ∙ ap (λ c. c && f (knows old.elements.items)) n.all
      ∙ and_assoc old.all a (f (knows old.elements.items));
}

pub range_needs : {old mid new : Known} (first k : ℕ) → NeedsKnown (list_all (knows old.elements.items) (range_with_len first k)) old mid → NeedsKnown (knows mid.elements.items (first + k)) mid new
    → NeedsKnown (list_all (knows old.elements.items) (range_with_len first (k + 1))) old new
range_needs {old} first k n m =
    needs_as _ (ap (λ c. list_all (knows old.elements.items) (range_with_len first k) && c) (and_true (knows old.elements.items (first + k)))
    ∙ sym (ap (list_all (knows old.elements.items)) (range_more first k) ∙ list_all-append (knows old.elements.items) (range_with_len first k) ((first + k) ∷ [])))
    (needs_then (λ f. f (first + k)) n m)

pub listed_needs : {old mid new : Known} (xs : List ℕ) (i x : ℕ) → i < length xs → x ≡ get_or xs i x → NeedsKnown (list_all (knows old.elements.items) (take i xs)) old mid
    → NeedsKnown (knows mid.elements.items x) mid new → NeedsKnown (list_all (knows old.elements.items) (take (i + 1) xs)) old new
listed_needs {old} xs i x l at n m = needs_as _ (sym (all_more (knows old.elements.items) xs i x l at)) (needs_then (λ f. f x) n m)

pub told_needs : (old new : Known) (ls : List Leaf) → Tells (λ (u : Known) l (v : Known). NeedsKnown (leaf_is_known (knows u.elements.items) l) u v) old ls new
    → NeedsKnown (list_all (leaf_is_known (knows old.elements.items)) ls) old new
told_needs old new [] h = subst (λ (k : Known). NeedsKnown true old k) h (needs_none old)
told_needs old new (l ∷ ls) (mid, one, rest) = needs_then (λ f. list_all (leaf_is_known f) ls) one (told_needs mid new ls rest)

-- ---- constants, one statement at a time

gives_first : (these : ℕ → Bool) (s : Stmt) (rest : Stmts) → gives_constants these (step s rest) ≡ (stmt_gives these s && gives_constants (known_after these s) rest)
gives_first these null_of rest = refl
gives_first these (assign ps v) rest = refl
gives_first these (set es v) rest = refl
gives_first these (assign_at index spacing places d) rest = refl
gives_first these (set_at index spacing es d) rest = refl
gives_first these (if_of bs) rest = refl
gives_first these (case_of v alts) rest = refl

module _ (xs : List Statement) (i : ℕ) (x : Statement) (these : ℕ → Bool) (l : i < length xs) (at : x ≡ get_or xs i x) where
  gives_at : gives_constants these (statements_of (drop i xs)) ≡ (stmt_gives these (statement_view x) && gives_constants (known_after these (statement_view x)) (statements_of (drop (i + 1) xs)))
  gives_at =
      at_drop_more (λ (ys : List Statement). gives_constants these (statements_of ys)) xs i x l
      ∙ ap (λ (y : Statement). gives_constants these (step (statement_view y) (statements_of (drop (i + 1) xs)))) (sym at)
      ∙ gives_first these (statement_view x) (statements_of (drop (i + 1) xs))

  pub gives_lost : (whole : Bool) → gives_constants these (statements_of (drop i xs)) ≡ whole → stmt_gives these (statement_view x) ≡ false → false ≡ whole
  gives_lost whole inv t =
      sym (ap (λ (b : Bool). b && gives_constants (known_after these (statement_view x)) (statements_of (drop (i + 1) xs))) t) ∙ (sym gives_at ∙ inv)

  pub gives_go : (whole : Bool) (next : ℕ → Bool) → gives_constants these (statements_of (drop i xs)) ≡ whole → stmt_gives these (statement_view x) ≡ true
      → ((e : ℕ) → next e ≡ known_after these (statement_view x) e) → gives_constants next (statements_of (drop (i + 1) xs)) ≡ whole
  gives_go whole next inv t same =
      let is : next ≡ known_after these (statement_view x) = (λ j e. same e j) in
      ap (λ f. gives_constants f (statements_of (drop (i + 1) xs))) is
      ∙ sym (ap (λ (b : Bool). b && gives_constants (known_after these (statement_view x)) (statements_of (drop (i + 1) xs))) t) ∙ (sym gives_at ∙ inv)

pub gives_end : (xs : List Statement) (i : ℕ) (these : ℕ → Bool) (whole : Bool) → length xs ≤ i → gives_constants these (statements_of (drop i xs)) ≡ whole → true ≡ whole
gives_end xs i these whole l inv = sym (at_drop_all (λ (ys : List Statement). gives_constants these (statements_of ys)) xs i l) ∙ inv

-- what is no assignment and no null gives none
pub gives_not : (these : ℕ → Bool) (s : Statement) → (s ≡ vs.Null → ⊥) → ((places : Indices) (v : net_value.Value) → s ≡ vs.Assign places v → ⊥)
    → ((es : Indices) (v : net_value.Value) → s ≡ vs.Set es v → ⊥) → false ≡ stmt_gives these (statement_view s)
gives_not these vs.Null n a t = absurd (n refl)
gives_not these (vs.Assign places v) n a t = absurd (a places v refl)
gives_not these (vs.Set es v) n a t = absurd (t es v refl)
gives_not these (vs.AssignAt at index spacing places value) n a t = refl
gives_not these (vs.SetAt at index spacing elements value) n a t = refl
gives_not these (vs.If' at shape branches last) n a t = refl
gives_not these (vs.Case' at selector shape alternatives shape_of_last last) n a t = refl

-- ---- what can be computed

pub can_compute : (types : List ElementType) (p : FlatProcess) → ProcessInRange types p → spec.is_register p.body ≡ true → CanCompute (element_starts p.variables) (spec.reset_branch p.body)
can_compute types p h register = record {
  scope = scope_of types p;
  these = never_set p.body;
  fits = reset_fits (scope_of types p) p.body h.body;
  gives = constants types p h register;
  as_many = sym (length_types p.variables);
  typed = variables_typed p.variables h.variables;
}

pub can_evaluate_assigned : (vars places : List ℕ) (v : Value) (rest : Stmts) → CanCompute vars (step (assign places v) rest) → CanEvaluate vars v
can_evaluate_assigned vars places v rest c = record {
  scope = c.scope;
  type_of = c.fits.0.0;
  fits = c.fits.0.1;
  reads_none = reads_none c.these v (and_parts (is_known c.these v) (gives_constants c.these rest) c.gives).0;
  as_many = c.as_many;
  typed = c.typed;
}

pub can_evaluate_set : (vars es : List ℕ) (v : Value) (rest : Stmts) → CanCompute vars (step (set es v) rest) → CanEvaluate vars v
can_evaluate_set vars es v rest c = record {
  scope = c.scope;
  type_of = c.fits.0.0;
  fits = c.fits.0.1;
  reads_none = reads_none c.these v (and_parts (is_known c.these v) (gives_constants (knows_more c.these es) rest) c.gives).0;
  as_many = c.as_many;
  typed = c.typed;
}

-- a statement, and those behind it
pub can_first : (vars : List ℕ) (s : Stmt) (rest : Stmts) → CanCompute vars (step s rest) → CanCompute vars (step s done)
can_first vars s rest c = record {
  scope = c.scope;
  these = c.these;
  fits = (c.fits.0, tt);
  gives = gives_first c.these s done ∙ sym (and_true (stmt_gives c.these s)) ∙ (and_parts (stmt_gives c.these s) (gives_constants (known_after c.these s) rest) (sym (gives_first c.these s rest) ∙ c.gives)).0;
  as_many = c.as_many;
  typed = c.typed;
}

pub can_later : (vars : List ℕ) (s : Stmt) (rest : Stmts) → CanCompute vars (step s rest) → CanCompute (stmt_variables (at_start vars) s) rest
can_later vars null_of rest c = record { scope = c.scope; these = c.these; fits = c.fits.1; gives = c.gives; as_many = c.as_many; typed = c.typed }
can_later vars (assign ps v) rest c = record {
  scope = c.scope;
  these = c.these;
  fits = c.fits.1;
  gives = (and_parts (is_known c.these v) (gives_constants c.these rest) c.gives).1;
  as_many = c.as_many;
  typed = c.typed;
}
can_later vars (set es v) rest c =
    let (k, g) = and_parts (is_known c.these v) (gives_constants (knows_more c.these es) rest) c.gives in
    record {
      scope = c.scope;
      these = knows_more c.these es;
      fits = c.fits.1;
      gives = g;
      as_many = length-values_put es (value_of (at_start vars) v) vars ∙ c.as_many;
      typed = typed_after c.scope c.these (at_start vars) es v c.typed k c.fits.0;
    }
can_later vars (assign_at index spacing places d) rest c = absurd (let g = c.gives in cc)
can_later vars (set_at index spacing es d) rest c = absurd (let g = c.gives in cc)
can_later vars (if_of bs) rest c = absurd (let g = c.gives in cc)
can_later vars (case_of v alts) rest c = absurd (let g = c.gives in cc)
