use Rattle.std.proofs.Common.{ap, ◌∙◌}
use Rattle.rtl_net.specs.declared.body.Expr.TheVariants as ve
use Rattle.rtl_net.specs.Bodies.{expr_view, links_of}
use Rattle.rtl_net.proofs.Rows.{view_chain}
use Rattle.vhdl_connect_processes.specs.Connected.{link_view, link_in, expr_in}
use Rattle.vhdl_connect_processes.proofs.Nodes.{on_both}
use Rattle.vhdl_connect_processes.proofs.Parts.{node_becomes, links_in}
use Rattle.vhdl_connect_processes.proofs.connection.Connection.+expression.Goals as goal

pub connect_expr-returns-in-Chain : goal.connect_expr-returns-in-Chain
connect_expr-returns-in-Chain t c =
    on_both c.connect_expr-in-Chain.result c.connect_links.result c.and.result c.and.ensures c.connect_expr-in-Chain.ensures c.connect_links.ensures
    (node_becomes expr_view links_of (expr_in c.args.self.now) link_view (link_in c.args.self.now) ve.Chain view_chain (links_in c.args.self.now) c.args.expr.now c.in-Chain.first (record c.in-Chain.first { value = c.connect_expr-in-Chain.new.expr }) c.in-Chain.rest _ _ _ _
    c.in-Chain.is (c.deref_mut-in-Chain.ensures.value ∙ ap (λ b. b.value) c.in-Chain.first-is) (c.deref_mut-in-Chain-2.ensures.value ∙ ap (λ v. v.items) c.in-Chain.rest-is) (c.connect_links.auto.links ∙ c.deref_mut-in-Chain-2.ensures.len))
