use Rattle.std.proofs.Common.{ℕ, suc, ◌+◌, Bor, List, [], ◌∷◌, drop, ◌≡◌, Result, Ok, refl, ap, subst, ◌∙◌, arith}
use Rattle.std.specs.Prelude.{◌≢◌}
use Rattle.rtl_stim_lines.specs.Lines.{as_lines}
use Rattle.rtl_expect.specs.Expected.{Expectation}
use Rattle.rtl_expect.specs.Lines.{after_lines}
use Rattle.rtl_expect.specs.Reading.{all_placed}
use Rattle.rtl_expect.specs.Watching.{list_view}
use Rattle.rtl_expect.specs.declared.faults.ExpectFault.{ExpectFault}
use Rattle.rtl_expect.specs.declared.faults.ExpectFault.TheVariants.{NoMemory}
use Rattle.rtl_expect.proofs.Parts.{texts, wrong_line, err_listed}
use Rattle.rtl_expect.proofs.reading.read_lines.Goals as goal

unrefused : (P : Type 0) → NoMemory ≢ NoMemory → P
unrefused P other = absurd (other refl)

pub returns-in_err-table : goal.returns-in_err-table
returns-in_err-table g c = err_listed (g.L.Literals.positions c.args.literals.now) c.args.net.now c.args.text.now c.from_residual.result NoMemory c.from_residual.ensures.1 (unrefused _)

pub returns-in_err-parts : goal.returns-in_err-parts
returns-in_err-parts g c = err_listed (g.L.Literals.positions c.args.literals.now) c.args.net.now c.args.text.now c.from_residual-in_err-parts.result NoMemory c.from_residual-in_err-parts.ensures.1 (unrefused _)

pub returns-in_err-put_in_order : goal.returns-in_err-put_in_order
returns-in_err-put_in_order g c =
    err_listed (g.L.Literals.positions c.args.literals.now) c.args.net.now c.args.text.now c.from_residual-in_err-put_in_order.result NoMemory c.from_residual-in_err-put_in_order.ensures.1 (unrefused _)

pub loop-place-preserved : goal.loop-place-preserved
loop-place-preserved g c =
    let net = c.args.net.now in
    let positions = g.L.Literals.positions c.args.literals.now in
    let place = c.loop-place.place in
    let line = c.line_at-line.result.now in
    let behind = as_lines (drop (place + 1) (texts c.in_ok-parts.parts.items)) in
    let so_far = all_placed [] (list_view c.loop-place.list) in
    let are = subst (λ (ps : List (Bor (List ℕ))). as_lines (drop place (texts ps)) ≡ line ∷ as_lines (drop (place + 1) (texts ps))) c.deref.ensures.value c.line_at-line.ensures in
    let next : suc (place + 1) ≡ place + 1 + 1 = omega arith in
    c.loop-place.invariant ∙ ap (λ (ls : List (List ℕ)). after_lines positions net (place + 1) ls (Ok so_far)) are
    ∙ ap (λ (r : Result (List Expectation) ExpectFault). after_lines positions net (suc (place + 1)) behind r) c.in_ok-read_line.ensures
    ∙ ap (λ (n : ℕ). after_lines positions net n behind (Ok (all_placed [] (list_view c.read_line.new.list)))) next

pub returns-in_err-read_line : goal.returns-in_err-read_line
returns-in_err-read_line g c =
    let place = c.loop-place.place in
    let line = c.line_at-line.result.now in
    let parts = c.in_ok-parts.parts.items in
    let fault = c.in_err-read_line.field-0.0 in
    let are = subst (λ (ps : List (Bor (List ℕ))). as_lines (drop place (texts ps)) ≡ line ∷ as_lines (drop (place + 1) (texts ps))) c.deref.ensures.value c.line_at-line.ensures in
    err_listed (g.L.Literals.positions c.args.literals.now) c.args.net.now c.args.text.now c.from_residual-in_err-read_line.result fault c.from_residual-in_err-read_line.ensures.1
    (λ other. c.loop-place.invariant ∙ wrong_line (g.L.Literals.positions c.args.literals.now) c.args.net.now (place + 1) (as_lines (drop place (texts parts))) line _ (all_placed [] (list_view c.loop-place.list)) fault are (c.in_err-read_line.ensures other))
