use Rattle.std.proofs.Common.{◌≡◌, ℕ, ◌+◌, List, [], ◌∷◌, ◌++◌, take, drop, ap, sym, ◌∙◌}
use Rattle.std.specs.Option.{option_or}
use Rattle.rtl_body_facts.specs.Reading.{is_in}
use Rattle.rtl_mixed_reasons.specs.Reasons.{first_in, assigns_in, assigns_beside, stands_beside, others, statements_beside}
use Rattle.rtl_mixed_reasons.proofs.Searches.{first-fits, later-fits, only-fits, both-first, both-later, in-both, behind-is}
use Rattle.rtl_mixed_reasons.proofs.beside.beside_edge.Goals as goal

pub returns-then-is_some : goal.returns-then-is_some
returns-then-is_some c =
    let p = c.args.process.now in
    let wide = c.args.wide in
    let xs = p.body.items in
    let i = c.args.found in
    let n = i.number in
    let at = i.at in
    let f = assigns_beside p (assigns_in p c.args.statement.now) at in
    let rest : c.others.result.0.now ++ c.others.result.1.now ≡ others wide i.before (drop (n + 1) xs) = c.others.ensures ∙ ap (others wide i.before) (behind-is (n + 1) _ xs c.deref-2.ensures.value) in
    let first : c.in_ok-reason.reason ≡ first_in f (take n xs) = c.in_ok-reason.ensures
    ∙ (λ j. first_in (assigns_beside p (λ (m : ℕ). (ap (is_in m) c.deref-3.ensures.value ∙ c.in_ok-edge.ensures.are m) j) at) (take n (c.deref.ensures.value j))) in
    let so = sym c.is_some.ensures ∙ c.if-is_some.true in
    first-fits _ (first_in f (statements_beside wide p i)) (first_in (stands_beside at) (statements_beside wide p i) ∷ []) (both-first f (take n xs) (others wide i.before (drop (n + 1) xs)) _ first so) so

pub returns-then-is_some-2 : goal.returns-then-is_some-2
returns-then-is_some-2 c =
    let p = c.args.process.now in
    let wide = c.args.wide in
    let xs = p.body.items in
    let i = c.args.found in
    let n = i.number in
    let at = i.at in
    let f = assigns_beside p (assigns_in p c.args.statement.now) at in
    let rest : c.others.result.0.now ++ c.others.result.1.now ≡ others wide i.before (drop (n + 1) xs) = c.others.ensures ∙ ap (others wide i.before) (behind-is (n + 1) _ xs c.deref-2.ensures.value) in
    let first : c.in_ok-reason.reason ≡ first_in f (take n xs) = c.in_ok-reason.ensures
    ∙ (λ j. first_in (assigns_beside p (λ (m : ℕ). (ap (is_in m) c.deref-3.ensures.value ∙ c.in_ok-edge.ensures.are m) j) at) (take n (c.deref.ensures.value j))) in
    let second : c.in_ok-reason-2.reason ≡ first_in f c.others.result.0.now = c.in_ok-reason-2.ensures
    ∙ (λ j. first_in (assigns_beside p (λ (m : ℕ). (ap (is_in m) c.deref-4.ensures.value ∙ c.in_ok-edge.ensures.are m) j) at) c.others.result.0.now) in
    first-fits _ (first_in f (statements_beside wide p i)) (first_in (stands_beside at) (statements_beside wide p i) ∷ [])
    (both-later f (take n xs) (others wide i.before (drop (n + 1) xs)) _ first _ (sym c.is_some.ensures ∙ c.if-is_some.false) (both-first f c.others.result.0.now c.others.result.1.now _ second (sym c.is_some-2.ensures ∙ c.if-is_some-2.true) ∙ ap (first_in f) rest)) (sym c.is_some-2.ensures ∙ c.if-is_some-2.true)

pub returns-then-is_some-3 : goal.returns-then-is_some-3
returns-then-is_some-3 c =
    let p = c.args.process.now in
    let wide = c.args.wide in
    let xs = p.body.items in
    let i = c.args.found in
    let n = i.number in
    let at = i.at in
    let f = assigns_beside p (assigns_in p c.args.statement.now) at in
    let rest : c.others.result.0.now ++ c.others.result.1.now ≡ others wide i.before (drop (n + 1) xs) = c.others.ensures ∙ ap (others wide i.before) (behind-is (n + 1) _ xs c.deref-2.ensures.value) in
    let first : c.in_ok-reason.reason ≡ first_in f (take n xs) = c.in_ok-reason.ensures
    ∙ (λ j. first_in (assigns_beside p (λ (m : ℕ). (ap (is_in m) c.deref-3.ensures.value ∙ c.in_ok-edge.ensures.are m) j) at) (take n (c.deref.ensures.value j))) in
    let second : c.in_ok-reason-2.reason ≡ first_in f c.others.result.0.now = c.in_ok-reason-2.ensures
    ∙ (λ j. first_in (assigns_beside p (λ (m : ℕ). (ap (is_in m) c.deref-4.ensures.value ∙ c.in_ok-edge.ensures.are m) j) at) c.others.result.0.now) in
    let third : c.in_ok-reason-3.reason ≡ first_in f c.others.result.1.now = c.in_ok-reason-3.ensures
    ∙ (λ j. first_in (assigns_beside p (λ (m : ℕ). (ap (is_in m) c.deref-5.ensures.value ∙ c.in_ok-edge.ensures.are m) j) at) c.others.result.1.now) in
    first-fits _ (first_in f (statements_beside wide p i)) (first_in (stands_beside at) (statements_beside wide p i) ∷ [])
    (both-later f (take n xs) (others wide i.before (drop (n + 1) xs)) _ first _ (sym c.is_some.ensures ∙ c.if-is_some.false) (both-later f c.others.result.0.now c.others.result.1.now _ second _ (sym c.is_some-2.ensures ∙ c.if-is_some-2.false) third ∙ ap (first_in f) rest)) (sym c.is_some-3.ensures ∙ c.if-is_some-3.true)

pub returns : goal.returns
returns c =
    let p = c.args.process.now in
    let wide = c.args.wide in
    let xs = p.body.items in
    let i = c.args.found in
    let n = i.number in
    let at = i.at in
    let f = assigns_beside p (assigns_in p c.args.statement.now) at in
    let rest : c.others.result.0.now ++ c.others.result.1.now ≡ others wide i.before (drop (n + 1) xs) = c.others.ensures ∙ ap (others wide i.before) (behind-is (n + 1) _ xs c.deref-2.ensures.value) in
    let first : c.in_ok-reason.reason ≡ first_in f (take n xs) = c.in_ok-reason.ensures
    ∙ (λ j. first_in (assigns_beside p (λ (m : ℕ). (ap (is_in m) c.deref-3.ensures.value ∙ c.in_ok-edge.ensures.are m) j) at) (take n (c.deref.ensures.value j))) in
    let second : c.in_ok-reason-2.reason ≡ first_in f c.others.result.0.now = c.in_ok-reason-2.ensures
    ∙ (λ j. first_in (assigns_beside p (λ (m : ℕ). (ap (is_in m) c.deref-4.ensures.value ∙ c.in_ok-edge.ensures.are m) j) at) c.others.result.0.now) in
    let third : c.in_ok-reason-3.reason ≡ first_in f c.others.result.1.now = c.in_ok-reason-3.ensures
    ∙ (λ j. first_in (assigns_beside p (λ (m : ℕ). (ap (is_in m) c.deref-5.ensures.value ∙ c.in_ok-edge.ensures.are m) j) at) c.others.result.1.now) in
    let s = stands_beside at in
    let behind : c.or-standing.result ≡ first_in s (others wide i.before (drop (n + 1) xs)) = c.or-standing.ensures
    ∙ ((λ j. option_or (c.first_standing.ensures j) (c.first_standing-2.ensures j)) ∙ (sym (in-both s c.others.result.0.now c.others.result.1.now) ∙ ap (first_in s) rest)) in
    let stands : c.or.result ≡ first_in s (statements_beside wide p i) = c.or.ensures
    ∙ ((λ j. option_or ((c.first_standing-3.ensures ∙ ap (λ (ys : List _). first_in s (take n ys)) c.deref.ensures.value) j) (behind j)) ∙ sym (in-both s (take n xs) (others wide i.before (drop (n + 1) xs)))) in
    later-fits _ (first_in f (statements_beside wide p i)) _ (first_in s (statements_beside wide p i) ∷ [])
    (both-later f (take n xs) (others wide i.before (drop (n + 1) xs)) _ first _ (sym c.is_some.ensures ∙ c.if-is_some.false) (both-later f c.others.result.0.now c.others.result.1.now _ second _ (sym c.is_some-2.ensures ∙ c.if-is_some-2.false) third ∙ ap (first_in f) rest)) (sym c.is_some-3.ensures ∙ c.if-is_some-3.false)
    (stands ∙ only-fits (first_in s (statements_beside wide p i)))
