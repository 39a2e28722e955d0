use Rattle.std.proofs.Common.{◌≡◌, ℕ, List, [], ◌∷◌, ◌++◌, length, length-append, refl, arith, ap, subst, ◌∙◌}
use Rattle.rtl_net_groups.specs.Lists.{lists_of, EndAt}
use Rattle.rtl_net_groups.proofs.Starts.{ends_more, lists_more}
use Rattle.rtl_net_groups.proofs.lists.Lists.push.Goals as goal

-- the row `all` of the items and these behind them, whose end `n` stands behind the starts
module _ {X : Type 0} (starts ends : List ℕ) (items list all : List X) (n : ℕ) (E : EndAt starts (length items)) (all_are : all ≡ items ++ list) (ends_are : ends ≡ starts ++ n ∷ []) (n_is : n ≡ length all) where
  end : EndAt ends (length all)
  end = rw ends_are (subst (EndAt (starts ++ n ∷ [])) n_is (ends_more starts (length items) n E (omega (arith, n_is, ap length all_are, length-append items list))))

  one_more : lists_of ends all ≡ lists_of starts items ++ list ∷ []
  one_more = (λ i. lists_of (ends_are i) (all_are i)) ∙ lists_more starts (length items) n items list E refl (n_is ∙ ap length all_are ∙ length-append items list)

pub invariant_of-self-2 : goal.invariant_of-self-2
invariant_of-self-2 g c =
    end _ _ _ c.args.list.now _ c.len.result c.self.invariant c.in_ok-extend_from_slice.ensures.items
    (c.push_reserved.ensures.items ∙ ap (λ (s : List ℕ). s ++ c.len.result ∷ []) c.in_ok-reserve.ensures.items)
    (omega (arith, c.len.ensures, c.extend_from_slice.new.self.ok.0))

pub returns-clause-ok : goal.returns-clause-ok
returns-clause-ok g c =
    let ends = c.push_reserved.ensures.items ∙ ap (λ (s : List ℕ). s ++ c.len.result ∷ []) c.in_ok-reserve.ensures.items in
    let last : c.len.result ≡ length c.extend_from_slice.new.self.items = omega (arith, c.len.ensures, c.extend_from_slice.new.self.ok.0) in
    rw (← c.self.view_is) (one_more _ _ _ c.args.list.now _ c.len.result c.self.invariant c.in_ok-extend_from_slice.ensures.items ends last)
