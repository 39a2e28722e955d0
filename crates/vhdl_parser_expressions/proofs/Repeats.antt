-- How readers are made of repetitions: what each makes.
use Rattle.std.proofs.Common.{◌≡◌, ℕ, zero, suc, ◌≤◌, Bool, true, false, List, [], ◌∷◌, ◌++◌, length, Ok, Err, Option, None, ⊎_elim, refl, sym, ap, ◌∙◌, subst, append_assoc, append-nil, arith}
use Rattle.vhdl_lexer.specs.declared.token.TokenKind.{TokenKind}
use Rattle.vhdl_parser_expressions.specs.declared.stop.Stop.{Stop}
use Rattle.vhdl_parser_expressions.specs.declared.stop.Stop.TheVariants.{TooDeep}
use Rattle.vhdl_tree.specs.Lexeme.{Lexeme}
use Rattle.vhdl_tree.specs.Pieces.{Piece, some, Spells, spell_each, spell_list, IsEach, IsList}
use Rattle.vhdl_parser_expressions.specs.reader.Input.{Outcome, Parser, IsRefused, and_then, expect, next_kind, is_kind, many_from, many, separated}
use Rattle.vhdl_parser_expressions.proofs.Steps.{bind_ok, bind_err, at_pure, pure_err, spells_append, spells_length}
use Rattle.vhdl_parser_expressions.proofs.Halts.{Halts, halt_after, halt_map}
use Rattle.vhdl_parser_expressions.proofs.Steady.{Advances, steady_many}
use Rattle.vhdl_parser_expressions.proofs.Walks.{Walk, walk_none, walk_append, Deep, deep_after, Rule, afresh, w_then, w_as, w_rule}
use Rattle.vhdl_parser_expressions.proofs.Rules.{is_neutral, w_some}

module _ {A : Type 0} {n d : ℕ} {part : A → List Piece} {Part : A → Type 0} (begins : Option TokenKind → Bool) (item : Parser A) (le : d ≤ n) (each : Rule n d item part Part) where
  -- what was found, and then items that are spelled
  pub record ManyMade (found all : List A) (ts rest : List Lexeme) : Type 0 where
    pub more : List A
    pub all_is : all ≡ found ++ more
    pub spelled : Spells (spell_each part more) ts rest
    pub formed : IsEach Part more
    pub walk : Walk n d false d false ts rest

  none_more : (found all : List A) (ts rest : List Lexeme) → ◌≡◌ {A = Outcome (List A)} (Ok (found, ts)) (Ok (all, rest)) → ManyMade found all ts rest
  none_more found all ts rest h = at_pure (λ u us. ManyMade found u ts us) found all ts rest h (record { more = []; all_is = sym (append-nil found); spelled = refl; formed = tt; walk = walk_none n d false ts le })

  pub many_made : (turns : ℕ) (found : List A) (ts : List Lexeme) (all : List A) (rest : List Lexeme) → many_from begins item turns found ts ≡ Ok (all, rest) → ManyMade found all ts rest
  unfolding many_from
  many_made zero found ts all rest h = none_more found all ts rest h
  many_made (suc turns) found ts all rest h = by_test (many_made turns) (begins (next_kind ts)) refl
    where
      Later : Type 0
      Later = (found : List A) (ts : List Lexeme) (all : List A) (rest : List Lexeme) → many_from begins item turns found ts ≡ Ok (all, rest) → ManyMade found all ts rest

      one_more : Later → and_then (item ts) (λ x us. many_from begins item turns (found ++ x ∷ []) us) ≡ Ok (all, rest) → ManyMade found all ts rest
      one_more later g =
          let a = bind_ok (item ts) _ (all, rest) g in
          let s = each.reads ts a.0.0 a.0.1 a.1 in
          let m = later (found ++ a.0.0 ∷ []) a.0.1 all rest a.2 in
          record {
            more = a.0.0 ∷ m.more;
            all_is = m.all_is ∙ append_assoc found (a.0.0 ∷ []) m.more;
            spelled = spells_append (part a.0.0) (spell_each part m.more) ts a.0.1 rest (subst (λ ps. Spells ps ts a.0.1) (sym s.is) s.spelled) m.spelled;
            formed = (s.formed, m.formed);
            walk = walk_append s.walk m.walk;
          }

      by_test : Later → (t : Bool) → begins (next_kind ts) ≡ t → ManyMade found all ts rest
      by_test later true e = one_more later (rw e at h)
      by_test later false e = none_more found all ts rest (rw e at h)

  pub many_deep : (turns : ℕ) (found : List A) (ts at : List Lexeme) → many_from begins item turns found ts ≡ Err (TooDeep, at) → Deep n d false ts
  unfolding many_from
  many_deep zero found ts at h = pure_err (found, ts) (TooDeep, at) h
  many_deep (suc turns) found ts at h = by_test (many_deep turns) (begins (next_kind ts)) refl
    where
      by_test : ((found : List A) (ts at : List Lexeme) → many_from begins item turns found ts ≡ Err (TooDeep, at) → Deep n d false ts) → (t : Bool) → begins (next_kind ts) ≡ t → Deep n d false ts
      by_test later true e = ⊎_elim (each.deep ts at)
          (λ a. deep_after (each.reads ts a.0.0 a.0.1 a.1).walk (later (found ++ a.0.0 ∷ []) a.0.1 at a.2))
          (bind_err (item ts) (λ x us. many_from begins item turns (found ++ x ∷ []) us) (TooDeep, at) (rw e at h))
      by_test later false e = pure_err (found, ts) (TooDeep, at) (rw e at h)

  -- items that go on from where reading them is refused
  abbrev pub ManyHalts : List Lexeme → List Lexeme → Type 0
  ManyHalts ts at = Halts {B = List A} afresh (spell_each part) (IsEach Part) ts at

  one_halts : {ts at : List Lexeme} → Halts afresh part Part ts at → ManyHalts ts at
  one_halts h = halt_map h (record { tree = h.example.tree ∷ []; more = h.example.more; is = append-nil (part h.example.tree) ∙ h.example.is; formed = (h.example.formed, tt) }) refl

  more_halts : {ts us at : List Lexeme} (a : A) → Part a → Spells (part a) ts us → ManyHalts us at → ManyHalts ts at
  more_halts a good s h = halt_after (part a) s (halt_map h (record { tree = a ∷ h.example.tree; more = h.example.more; is = ap (λ ps. part a ++ ps) h.example.is; formed = (good, h.example.formed) }) refl)

  pub many_stuck : (turns : ℕ) (found : List A) (ts : List Lexeme) (why : Stop) (at : List Lexeme) → many_from begins item turns found ts ≡ Err (why, at) → IsRefused why → ManyHalts ts at
  unfolding many_from
  many_stuck zero found ts why at h met = pure_err (found, ts) (why, at) h
  many_stuck (suc turns) found ts why at h met = by_test (many_stuck turns) (begins (next_kind ts)) refl
    where
      Later : Type 0
      Later = (found : List A) (ts : List Lexeme) (why : Stop) (at : List Lexeme) → many_from begins item turns found ts ≡ Err (why, at) → IsRefused why → ManyHalts ts at

      by_test : Later → (t : Bool) → begins (next_kind ts) ≡ t → ManyHalts ts at
      by_test later true e = ⊎_elim (λ x. one_halts (each.stuck le ts why at x met))
          (λ a.
          let s = each.reads ts a.0.0 a.0.1 a.1 in
          more_halts a.0.0 s.formed (subst (λ ps. Spells ps ts a.0.1) (sym s.is) s.spelled) (later (found ++ a.0.0 ∷ []) a.0.1 why at a.2 met))
          (bind_err (item ts) (λ x us. many_from begins item turns (found ++ x ∷ []) us) (why, at) (rw e at h))
      by_test later false e = pure_err (found, ts) (why, at) (rw e at h)

  -- what takes a token at least
  pub item_on : ((a : A) → 1 ≤ length (part a)) → Advances item
  item_on long ts a rest h =
      let s = each.reads ts a rest h in
      let whole = spells_length (part a) ts rest (subst (λ ps. Spells ps ts rest) (sym s.is) s.spelled) in
      omega (arith, whole, long a)

  -- { item }
  pub each_rule : begins None ≡ false → ((a : A) → 1 ≤ length (part a)) → Rule n d (many begins item []) (spell_each part) (IsEach Part)
  each_rule none long = record {
    reads = λ ts all rest h.
        let m = many_made (length ts) [] ts all rest h in
        record { more = spell_each part m.more; is = ap (spell_each part) m.all_is; spelled = m.spelled; formed = subst (IsEach Part) (sym m.all_is) m.formed; walk = m.walk };
    deep = λ ts at h. many_deep (length ts) [] ts at h;
    example = λ _. record { tree = []; more = []; is = refl; formed = tt };
    stuck = λ _ ts why at h met. many_stuck (length ts) [] ts why at h met;
    steady = steady_many begins none each.steady (item_on long) [];
  }

-- the items behind the first one
abbrev pub spell_behind : {A : Type 0} → (A → List Piece) → List A → List Piece
spell_behind part [] = []
spell_behind part (x ∷ xs) = spell_each part xs

-- all items, of which the first one was read
abbrev pub Behind : {A : Type 0} → (A → Type 0) → A → List A → Type 0
Behind {A} Part first all = (more : List A) × (all ≡ first ∷ more) × IsEach Part more

-- { item }, behind the first one
pub behind_rule : {A : Type 0} {n d : ℕ} {item : Parser A} {part : A → List Piece} {Part : A → Type 0} (begins : Option TokenKind → Bool) → begins None ≡ false → d ≤ n → Rule n d item part Part → ((a : A) → 1 ≤ length (part a)) → (first : A) →
    Rule n d (many begins item (first ∷ [])) (spell_behind part) (Behind Part first)
behind_rule {A} {n} {d} {item} {part} {Part} begins none le each long first = record {
  reads = λ ts all rest h.
      let m = many_made begins item le each (length ts) (first ∷ []) ts all rest h in
      record { more = spell_each part m.more; is = ap (spell_behind part) m.all_is; spelled = m.spelled; formed = (m.more, m.all_is, m.formed); walk = m.walk };
  deep = λ ts at h. many_deep begins item le each (length ts) (first ∷ []) ts at h;
  example = λ _. record { tree = first ∷ []; more = []; is = refl; formed = ([], refl, tt) };
  stuck = λ _ ts why at h met.
      let s = many_stuck begins item le each (length ts) (first ∷ []) ts why at h met in
      let x = s.example in
      halt_map s (record { tree = first ∷ x.tree; more = x.more; is = x.is; formed = (x.tree, refl, x.formed) }) refl;
  steady = steady_many begins none each.steady (item_on begins item le each long) (first ∷ []);
}

-- item { separator item }
pub separated_rule : {A : Type 0} {n d : ℕ} {item : Parser A} {part : A → List Piece} {Part : A → Type 0} (separator : TokenKind) → is_neutral separator ≡ true → d ≤ n → Rule n d item part Part →
    Rule n d (separated separator item) (spell_list separator part) (IsList Part)
unfolding separated
separated_rule {A} {n} {d} {item} {part} {Part} separator ok le each = w_then each (λ first good le. w_as (whole first good) (behind_rule (is_kind separator) refl le more (λ x. omega arith) first))
  where
    next : Parser A
    next = λ ts. and_then (expect separator ts) (λ _. item)

    more : Rule n d next (λ x. some separator ∷ part x) Part
    more = w_some separator ok (λ _. w_rule (λ x. refl) each)

    whole : (first : A) → Part first → (all : List A) (ps : List Piece) → Behind Part first all → spell_behind (λ x. some separator ∷ part x) all ≡ ps → (spell_list separator part all ≡ part first ++ ps) × IsList Part all
    whole first good all ps b is = (
      ap (spell_list separator part) b.1 ∙ ap (λ qs. part first ++ qs) (sym (ap (spell_behind (λ x. some separator ∷ part x)) b.1) ∙ is),
      subst (IsList Part) (sym b.1) (good, b.2),
    )
