-- Where an assignment stands in a body, and not on all paths, a place is found.
use Rattle.std.proofs.Common.{◌≡◌, ℕ, ◌+◌, Bool, true, false, ◌&&◌, ◌||◌, not, Option, Some, refl, sym, ap, ◌∙◌, List, [], ◌∷◌}
use Rattle.std.specs.Prelude.{IsSome, if◌then◌else◌}
use mathlib.Core.Former.{Count}
use Rattle.rtl_model.specs.bodies.Body as bodies
use Rattle.rtl_model.specs.bodies.Assigns.{Target, must_assign, branches_must_assign, alternatives_must_assign, stmt_must_assign, stmt_assigns, stmts_assign}
use Rattle.rtl_net.specs.declared.body.Statement.{Statement}
use Rattle.rtl_net.specs.declared.body.Statement.TheVariants as vs
use Rattle.rtl_net.specs.declared.body.Statement.TheBlock.{None', Some', Row_of-Statement, end_of-Statement, more_of-Statement, Row_of-Branch, end_of-Branch, more_of-Branch, Row_of-Alternative, end_of-Alternative, more_of-Alternative}
use Rattle.rtl_net.specs.Bodies.{statement_view, statements_row, branches_row, alternatives_row, statements_of}
use Rattle.rtl_latches.specs.Omissions.{leaves_out, in_statement, in_row, itself_or, in_branches, in_alternatives, omission_of}
use Rattle.rtl_latches.specs.declared.omission.Omission.{Omission}
use Rattle.rtl_latches.specs.declared.omission.Omission.TheVariants as o

not-both : (a : Bool) → (a && not a) ≡ true → ⊥
not-both true h = cc
not-both false h = cc

and-second : (a b : Bool) → (a && not b) ≡ true → b ≡ false
and-second true true h = absurd cc
and-second true false h = refl
and-second false b h = absurd cc

and-rest : (a b : Bool) → a ≡ true → (a && b) ≡ false → b ≡ false
and-rest a b t h = sym (ap (λ (x : Bool). x && b) t) ∙ h

or-first : (a b : Bool) → (a || b) ≡ false → a ≡ false
or-first true b h = absurd cc
or-first false b h = refl

or-second : (a b : Bool) → (a || b) ≡ false → b ≡ false
or-second true b h = absurd cc
or-second false b h = h

-- what doesn't leave an assignment out, and doesn't assign on all paths, has none
later : (a m r : Bool) → (a && not m) ≡ false → m ≡ false → (a || r) ≡ true → r ≡ true
later true m r kept f t = absurd (let e : true ≡ false = sym (ap not f) ∙ kept in cc)
later false m r _ f t = t

chosen : {A : Type 0} (b : Bool) (x y : Option A) → (b ≡ true → IsSome x) → (b ≡ false → IsSome y) → IsSome (if b then x else y)
chosen true x y f g = f refl
chosen false x y f g = g refl

module _ (these : Target → Bool) where
  there-part : (itself : Omission) (xs : bodies.Stmts) (within : Option Omission) → (stmts_assign these xs ≡ true → must_assign these xs ≡ false → IsSome within)
      → must_assign these xs ≡ false → IsSome (itself_or these itself xs within)
  there-part itself xs within found f = chosen (stmts_assign these xs) within (Some itself) (λ t. found t f) (λ out. refl)

  mutual
    there-statement : (x : Statement) → leaves_out these x ≡ true → IsSome (in_statement these x)
    there-statement vs.Null h = absurd cc
    there-statement (vs.AssignAt at index spacing places value) h = refl
    there-statement (vs.SetAt at index spacing es value) h = refl
    there-statement (vs.If' at shape branches None') h = refl
    there-statement (vs.If' at shape branches (Some' of_last last)) h =
        there-branches at (λ k. itself_or these (o.Branch at k) (statements_row last) (in_row these last)) (bodies.otherwise (statements_row last))
        (λ f k. there-part (o.Branch at k) (statements_row last) (in_row these last) (there-row _ last) f) 1 _ branches
        (and-second (stmt_assigns these (statement_view (vs.If' at shape branches (Some' of_last last)))) _ h)
    there-statement (vs.Case' at selector shape alternatives of_last last) h =
        there-alternatives at (λ k. itself_or these (o.Alternative at k) (statements_row last) (in_row these last)) (statements_row last)
        (λ f k. there-part (o.Alternative at k) (statements_row last) (in_row these last) (there-row _ last) f) 1 _ alternatives
        (and-second (stmt_assigns these (statement_view (vs.Case' at selector shape alternatives of_last last))) _ h)
    there-statement _ h = absurd (not-both _ h)

    there-row : (n : Count) (row : Row_of-Statement n) → stmts_assign these (statements_row row) ≡ true → must_assign these (statements_row row) ≡ false → IsSome (in_row these row)
    there-row n end_of-Statement t f = absurd cc
    there-row n (more_of-Statement x rest) t f =
        chosen (leaves_out these x) (in_statement these x) (in_row these rest) (there-statement x)
        (λ out. there-row _ rest (later (stmt_assigns these (statement_view x)) (stmt_must_assign these (statement_view x)) (stmts_assign these (statements_row rest)) out (or-first _ _ f) t) (or-second (stmt_must_assign these (statement_view x)) _ f))

    there-branches : (at : ℕ) (last : ℕ → Option Omission) (end : bodies.Branches) → (branches_must_assign these end ≡ false → (k : ℕ) → IsSome (last k)) → (number : ℕ) (n : Count) (row : Row_of-Branch n)
        → branches_must_assign these (branches_row end row) ≡ false → IsSome (in_branches these at last number row)
    there-branches at last end ends number n end_of-Branch f = ends f number
    there-branches at last end ends number n (more_of-Branch test shape x rest) f =
        chosen (must_assign these (statements_row x)) (in_branches these at last (number + 1) rest) (itself_or these (o.Branch at number) (statements_row x) (in_row these x))
        (λ t. there-branches at last end ends (number + 1) _ rest (and-rest (must_assign these (statements_row x)) _ t f)) (there-part (o.Branch at number) (statements_row x) (in_row these x) (there-row _ x))

    there-alternatives : (at : ℕ) (last : ℕ → Option Omission) (end : bodies.Stmts) → (must_assign these end ≡ false → (k : ℕ) → IsSome (last k)) → (number : ℕ) (n : Count) (row : Row_of-Alternative n)
        → alternatives_must_assign these (alternatives_row end row) ≡ false → IsSome (in_alternatives these at last number row)
    there-alternatives at last end ends number n end_of-Alternative f = ends f number
    there-alternatives at last end ends number n (more_of-Alternative choices shape x rest) f =
        chosen (must_assign these (statements_row x)) (in_alternatives these at last (number + 1) rest) (itself_or these (o.Alternative at number) (statements_row x) (in_row these x))
        (λ t. there-alternatives at last end ends (number + 1) _ rest (and-rest (must_assign these (statements_row x)) _ t f)) (there-part (o.Alternative at number) (statements_row x) (in_row these x) (there-row _ x))

  -- of a list
  pub omission_there : (xs : List Statement) → stmts_assign these (statements_of xs) ≡ true → must_assign these (statements_of xs) ≡ false → IsSome (omission_of these xs)
  omission_there [] t f = absurd cc
  omission_there (x ∷ xs) t f =
      chosen (leaves_out these x) (in_statement these x) (omission_of these xs) (there-statement x)
      (λ out. omission_there xs (later (stmt_assigns these (statement_view x)) (stmt_must_assign these (statement_view x)) (stmts_assign these (statements_of xs)) out (or-first _ _ f) t) (or-second (stmt_must_assign these (statement_view x)) _ f))
