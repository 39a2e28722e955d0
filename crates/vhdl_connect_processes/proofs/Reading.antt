-- What a connected body reads is the nets of what the body reads.
use Rattle.std.proofs.Common.{◌≡◌, ℕ, List, ◌++◌, map, refl, sym, ap, ◌∙◌}
use Rattle.std.proofs.lemmas.List.{map-append}
use Rattle.rtl_model.specs.bodies.Body as bodies
use Rattle.rtl_model.specs.bodies.Reads.{expr_reads, value_reads, test_reads, stmt_reads, reads, branches_reads, alternatives_reads}
use Rattle.vhdl_elab_rules.specs.Bodies.{net_of, connected_expr, connected_value, connected_test, connected_stmt, connected_body, connected_branches, connected_alternatives}

module _ (nets drives : List ℕ) where
  abbrev net : ℕ → ℕ
  net = net_of nets drives

  both : (xs ys as' bs : List ℕ) → xs ≡ map net as' → ys ≡ map net bs → xs ++ ys ≡ map net (as' ++ bs)
  both xs ys as' bs h k = ap (λ zs. zs ++ ys) h ∙ ap (λ zs. map net as' ++ zs) k ∙ sym (map-append net as' bs)

  expr-net : (e : bodies.Expr) → expr_reads (connected_expr nets drives e) ≡ map net (expr_reads e)
  expr-net (bodies.Expr.inverse e) = expr-net e
  expr-net (bodies.filled len e) = expr-net e
  expr-net (bodies.Expr.binary op d e) = both _ _ (expr_reads d) (expr_reads e) (expr-net d) (expr-net e)
  expr-net (bodies.Expr.counted op count e) = expr-net e
  expr-net (bodies.Expr.shifted by count e) = both _ _ (expr_reads count) (expr_reads e) (expr-net count) (expr-net e)
  expr-net (bodies.Expr.converted by e) = expr-net e
  expr-net (bodies.Expr.chosen index spacing rows) = both _ _ (expr_reads index) (expr_reads rows) (expr-net index) (expr-net rows)
  expr-net _ = refl

  value-net : (v : bodies.Value) → value_reads (connected_value nets drives v) ≡ map net (value_reads v)
  value-net (bodies.Value.elements e) = expr-net e
  value-net _ = refl

  test-net : (t : bodies.Test) → test_reads (connected_test nets drives t) ≡ map net (test_reads t)
  test-net (bodies.condition e) = expr-net e
  test-net (bodies.equal v w) = both _ _ (value_reads v) (value_reads w) (value-net v) (value-net w)
  test-net (bodies.unequal v w) = both _ _ (value_reads v) (value_reads w) (value-net v) (value-net w)
  test-net (bodies.Test.compared op d e) = both _ _ (expr_reads d) (expr_reads e) (expr-net d) (expr-net e)
  test-net (bodies.compared_to op e n) = expr-net e
  test-net (bodies.Test.negated t) = test-net t
  test-net (bodies.combined op s t) = both _ _ (test_reads s) (test_reads t) (test-net s) (test-net t)
  test-net _ = refl

  mutual
    stmt-net : (s : bodies.Stmt) → stmt_reads (connected_stmt nets drives s) ≡ map net (stmt_reads s)
    stmt-net bodies.null_of = refl
    stmt-net (bodies.assign es v) = value-net v
    stmt-net (bodies.set es v) = value-net v
    stmt-net (bodies.assign_at index spacing es e) = both _ _ (expr_reads index) (expr_reads e) (expr-net index) (expr-net e)
    stmt-net (bodies.set_at index spacing es e) = both _ _ (expr_reads index) (expr_reads e) (expr-net index) (expr-net e)
    stmt-net (bodies.if_of bs) = branches-net bs
    stmt-net (bodies.case_of v alts) = both _ _ (value_reads v) (alternatives_reads alts) (value-net v) (alternatives-net alts)

    pub reads_connected : (s : bodies.Stmts) → reads (connected_body nets drives s) ≡ map net (reads s)
    reads_connected bodies.done = refl
    reads_connected (bodies.step s rest) = both _ _ (stmt_reads s) (reads rest) (stmt-net s) (reads_connected rest)

    branches-net : (bs : bodies.Branches) → branches_reads (connected_branches nets drives bs) ≡ map net (branches_reads bs)
    branches-net bodies.no_else = refl
    branches-net (bodies.otherwise s) = reads_connected s
    branches-net (bodies.branch t s bs) =
        both _ _ (test_reads t) (reads s ++ branches_reads bs) (test-net t) (both _ _ (reads s) (branches_reads bs) (reads_connected s) (branches-net bs))

    alternatives-net : (alts : bodies.Alternatives) → alternatives_reads (connected_alternatives nets drives alts) ≡ map net (alternatives_reads alts)
    alternatives-net (bodies.others s) = reads_connected s
    alternatives-net (bodies.alternative choices s alts) = both _ _ (reads s) (alternatives_reads alts) (reads_connected s) (alternatives-net alts)
