-- Marks of elements, some more at a time.
use Rattle.std.proofs.Common.{◌≡◌, ℕ, ◌+◌, ◌<◌, ◌==◌, Bool, true, false, ◌&&◌, ◌||◌, List, [], ◌∷◌, length, get_or, take, map, refl, sym, ap, ◌∙◌, arith, Vec, Some, None, Global}
use Rattle.std.specs.Prelude.{is_some}
use Rattle.std.specs.List.{list_any, range_with_len}
use Rattle.std.proofs.lemmas.Bool.{and_parts}
use Rattle.std.proofs.lemmas.List.{get_or_default}
use Rattle.std.proofs.lemmas.List.FromFn.{get_or-map-range_with_len, length-map-range_with_len}
use Rattle.rtl_model.specs.bodies.Assigns.{is_element, must_assign, stmt_assigns, stmts_assign, branches_assign, alternatives_assign}
use Rattle.rtl_model.specs.bodies.Body as bodies
use Rattle.rtl_model.specs.bodies.Body.{Stmts}
use Rattle.rtl_model.specs.bodies.Kinds.{clocking}
use Rattle.rtl_model.specs.bodies.Stored.{stores_element}
use Rattle.rtl_net.specs.declared.body.Alternative.{Alternative}
use Rattle.rtl_net.specs.declared.body.Branch.{Branch}
use Rattle.rtl_net.specs.declared.body.Statement.{Statement}
use Rattle.rtl_net.specs.declared.body.Statement.TheVariants as vs
use Rattle.rtl_net.specs.declared.body.Value.{Value}
use Rattle.rtl_net.specs.Bodies.{statement_view, statements_of, branches_of, alternatives_of}
use Rattle.rtl_net.proofs.Rows.{view_if, view_case}
use Rattle.rtl_body_facts.proofs.Anys.{or_assoc, or_none}
use Rattle.rtl_body_facts.proofs.EveryPath.{any_append, any_more}
use Rattle.rtl_variable_registers.specs.Bodies.{is_register, without_reset, keeps_element, reset_branch}
use Rattle.rtl_variable_registers.specs.Known as known
use Rattle.rtl_variable_registers.proofs.Straight.{gives_straight, straight_sets}
use Rattle.rtl_kept_bodies.proofs.Ranks.{range_more}
use Rattle.rtl_kept_bodies.specs.Steps.{Marked, Marks, branch_sets, alternative_sets}

pub marked_none : (ms : List Bool) → Marked (λ e. false) ms ms
marked_none ms = record { same_length = refl; each = λ e. or_none (get_or ms e true) }

pub marked_as : (f g : ℕ → Bool) (a b : List Bool) → ((e : ℕ) → f e ≡ g e) → Marked f a b → Marked g a b
marked_as f g a b h m = record { same_length = m.same_length; each = λ e. m.each e ∙ ap (λ (x : Bool). get_or a e true || x) (h e) }

pub marked_both : (f g : ℕ → Bool) (a b c : List Bool) → Marked f a b → Marked g b c → Marked (λ e. f e || g e) a c
marked_both f g a b c m n = record {
  same_length = n.same_length ∙ m.same_length;
  each = λ e. n.each e ∙ ap (λ (x : Bool). x || g e) (m.each e) ∙ or_assoc (get_or a e true) (f e) (g e);
}

-- ---- marks of a name

abbrev pub in_run : (first len e : ℕ) → Bool
in_run first len e = list_any (λ (d : ℕ). d == e) (range_with_len first len)

pub run_more : (first k : ℕ) (a b c : List Bool) → Marked (in_run first k) a b → Marked (λ e. first + k == e) b c → Marked (in_run first (k + 1)) a c
run_more first k a b c m n = marked_as _ _ a c same (marked_both _ _ a b c m n)
  where
    same : (e : ℕ) → (in_run first k e || (first + k == e)) ≡ in_run first (k + 1) e
    same e =
        ap (λ (x : Bool). in_run first k e || x) (or_none (first + k == e))
        ∙ sym (ap (list_any (λ (d : ℕ). d == e)) (range_more first k) ∙ any_append (λ (d : ℕ). d == e) (range_with_len first k) ((first + k) ∷ []))

pub listed_more : (xs : List ℕ) (i : ℕ) (a b c : List Bool) → i < length xs → Marked (λ e. list_any (λ d. d == e) (take i xs)) a b
    → Marked (λ e. get_or xs i 0 == e) b c → Marked (λ e. list_any (λ d. d == e) (take (i + 1) xs)) a c
listed_more xs i a b c l m n =
    marked_as _ _ a c (λ e. sym (any_more (λ (d : ℕ). d == e) xs i (get_or xs i 0) l (at i xs l))) (marked_both _ _ a b c m n)
  where
    at : (i : ℕ) (xs : List ℕ) → i < length xs → get_or xs i 0 ≡ get_or xs i (get_or xs i 0)
    at i xs l = get_or_default xs i 0 (get_or xs i 0) l

-- ---- marks of what is set

module _ (e : ℕ) where
  sets_any : (xs : List Statement) → stmts_assign (is_element e) (statements_of xs) ≡ list_any (λ (x : Statement). stmt_assigns (is_element e) (statement_view x)) xs
  sets_any [] = refl
  sets_any (x ∷ xs) = ap (λ (b : Bool). stmt_assigns (is_element e) (statement_view x) || b) (sets_any xs)

  pub sets_more : (xs : List Statement) (i : ℕ) (x : Statement) → i < length xs → x ≡ get_or xs i x
      → (stmts_assign (is_element e) (statements_of (take i xs)) || stmt_assigns (is_element e) (statement_view x)) ≡ stmts_assign (is_element e) (statements_of (take (i + 1) xs))
  sets_more xs i x l at =
      ap (λ (b : Bool). b || stmt_assigns (is_element e) (statement_view x)) (sets_any (take i xs))
      ∙ sym (sets_any (take (i + 1) xs) ∙ any_more (λ (y : Statement). stmt_assigns (is_element e) (statement_view y)) xs i x l at)

  branches_any : (last : bodies.Branches) (bs : List Branch) → branches_assign (is_element e) (branches_of last bs) ≡ (list_any (branch_sets e) bs || branches_assign (is_element e) last)
  branches_any last [] = refl
  branches_any last (b ∷ bs) = ap (λ (c : Bool). branch_sets e b || c) (branches_any last bs) ∙ sym (or_assoc (branch_sets e b) (list_any (branch_sets e) bs) (branches_assign (is_element e) last))

  alternatives_any : (last : Stmts) (bs : List Alternative) → alternatives_assign (is_element e) (alternatives_of last bs) ≡ (list_any (alternative_sets e) bs || stmts_assign (is_element e) last)
  alternatives_any last [] = refl
  alternatives_any last (b ∷ bs) =
      ap (λ (c : Bool). alternative_sets e b || c) (alternatives_any last bs) ∙ sym (or_assoc (alternative_sets e b) (list_any (alternative_sets e) bs) (stmts_assign (is_element e) last))

  pub if_sets : (x : Statement) (at : ℕ) (branches : Vec Branch Global) (v : Vec Statement Global) → x ≡ vs.If at branches (Some v)
      → (list_any (branch_sets e) branches.items || stmts_assign (is_element e) (statements_of v.items)) ≡ stmt_assigns (is_element e) (statement_view x)
  if_sets x at branches v is =
      sym (ap (λ (y : Statement). stmt_assigns (is_element e) (statement_view y)) is
      ∙ (ap (stmt_assigns (is_element e)) (view_if at branches (Some v)) ∙ branches_any (bodies.otherwise (statements_of v.items)) branches.items))

  pub if_alone_sets : (x : Statement) (at : ℕ) (branches : Vec Branch Global) → x ≡ vs.If at branches None → list_any (branch_sets e) branches.items ≡ stmt_assigns (is_element e) (statement_view x)
  if_alone_sets x at branches is =
      sym (ap (λ (y : Statement). stmt_assigns (is_element e) (statement_view y)) is
      ∙ (ap (stmt_assigns (is_element e)) (view_if at branches None) ∙ (branches_any bodies.no_else branches.items ∙ sym (or_none (list_any (branch_sets e) branches.items)))))

  pub case_sets : (x : Statement) (at : ℕ) (selector : Value) (alternatives : Vec Alternative Global) (others : Vec Statement Global) → x ≡ vs.Case at selector alternatives others
      → (list_any (alternative_sets e) alternatives.items || stmts_assign (is_element e) (statements_of others.items)) ≡ stmt_assigns (is_element e) (statement_view x)
  case_sets x at selector alternatives others is =
      sym (ap (λ (y : Statement). stmt_assigns (is_element e) (statement_view y)) is
      ∙ (ap (stmt_assigns (is_element e)) (view_case at selector alternatives others) ∙ alternatives_any (statements_of others.items) alternatives.items))

-- ---- the elements that are kept

pub register_gives : (body : Stmts) → is_register body ≡ true → known.gives_constants (known.never_set body) (reset_branch body) ≡ true
register_gives body reg =
    (and_parts (is_some (clocking true [] (without_reset body))) (known.gives_constants (known.never_set body) (reset_branch body)) reg).1

-- what a register's reset sets is set on every path
pub reset_sets : (body : Stmts) → is_register body ≡ true → (e : ℕ) → stmts_assign (is_element e) (reset_branch body) ≡ must_assign (is_element e) (reset_branch body)
reset_sets body reg e =
    straight_sets (is_element e) (reset_branch body) (gives_straight (known.never_set body) (reset_branch body) (register_gives body reg))

pub kept_marks : (body : Stmts) (many : ℕ) (stored marks : List Bool) → is_register body ≡ true
    → stored ≡ map (λ e. stores_element e (without_reset body)) (range_with_len 0 many)
    → Marked (λ e. must_assign (is_element e) (reset_branch body)) stored marks → Marks many (keeps_element body) marks
kept_marks body many stored marks reg is m = record {
  length_is = m.same_length ∙ (ap length is ∙ length-map-range_with_len (λ e. stores_element e (without_reset body)) 0 many);
  each = λ e l. m.each e
      ∙ ap (λ (x : Bool). x || must_assign (is_element e) (reset_branch body))
      (ap (λ (xs : List Bool). get_or xs e true) is ∙ get_or-map-range_with_len (λ d. stores_element d (without_reset body)) 0 many e e true l (let z : 0 + e ≡ e = omega arith in z))
      ∙ ap (λ (x : Bool). x && (stores_element e (without_reset body) || must_assign (is_element e) (reset_branch body))) (sym reg);
}
