-- The reader of files stops at the first token with which no file goes on.
use Rattle.std.proofs.Common.{◌≡◌, ℕ, ◌-◌, ◌≤◌, List, [], ◌∷◌, ◌++◌, length, Ok, Err, ⊎_elim, refl, sym, ap, ◌∙◌, subst, append_assoc, append-nil, length-append, arith}
use Rattle.std.proofs.lemmas.List.{map-append, length-map}
use Rattle.vhdl_lexer.specs.declared.language.Language.{Language}
use Rattle.vhdl_lexer.specs.declared.token.Token.{Token}
use Rattle.vhdl_parser_expressions.specs.declared.stop.Stop.{Stop}
use Rattle.vhdl_parser_expressions.specs.declared.stop.Stop.TheVariants.{TooDeep}
use Rattle.vhdl_tree.specs.Lexeme.{Lexeme, lexeme, lexemes}
use Rattle.vhdl_tree.specs.Tree.{DesignUnit}
use Rattle.vhdl_tree.specs.Pieces.{Spells, spell_each, IsEach}
use Rattle.vhdl_tree.specs.grammar.Units.{spell_unit, spell_file, IsUnitIn}
use Rattle.vhdl_parser_expressions.specs.reader.Input.{IsRefused, is_more}
use Rattle.vhdl_parser_rules.specs.declared.fault.SyntaxFault.{SyntaxFault}
use Rattle.vhdl_parser_rules.specs.declared.fault.SyntaxFault.TheVariants as f
use Rattle.vhdl_parser_rules.specs.Fault.{IsRefusal}
use Rattle.vhdl_parser_rules.specs.Stuck.{BeginsIn, IsStuckIn, IsMetBehind}
use Rattle.vhdl_parser.specs.reader.Units.{units, finish, file}
use Rattle.vhdl_parser_expressions.proofs.Steps.{bind_err, pure_err}
use Rattle.vhdl_parser_expressions.proofs.Steady.{Steady, steady_pure, steady_refuse, steady_then, steady_test, refused_alike}
use Rattle.vhdl_parser_expressions.proofs.Halts.{Halts, halt_here, halt_after}
use Rattle.vhdl_parser.proofs.Files.{units_rule, file_refused, finish_here}

file_steady : (language : Language) → Steady (file language)
unfolding file finish
file_steady language = steady_then (units_rule language).steady (λ ts all rest h. steady_then (steady_test is_more steady_refuse steady_pure) (λ us x vs g. steady_pure))

-- the tokens before a place begin a file
pub record Begun (language : Language) (ts at : List Lexeme) : Type 0 where
  pub front : List Lexeme
  pub split : ts ≡ front ++ at
  pub begun : BeginsIn language front

in_units : (language : Language) (ts at : List Lexeme) → Halts (λ ps. ps) (spell_each spell_unit) (IsEach (IsUnitIn language)) ts at → Begun language ts at
in_units language ts at h = record {
  front = h.front;
  split = h.split;
  begun = record { more = h.behind; file = record { units = h.example.tree }; formed = h.example.formed; spelled = subst (λ ps. Spells ps (h.front ++ h.behind) []) (sym h.example.is) h.spelled };
}

behind_units : (language : Language) (ts us : List Lexeme) (all : List DesignUnit) → units language ts ≡ Ok (all, us) → Begun language ts us
behind_units language ts us all h =
    let m = (units_rule language).reads ts all us h in
    let ps = spell_each spell_unit all in
    in_units language ts us (halt_after ps (subst (λ qs. Spells qs ts us) (sym m.is) m.spelled) (halt_here (record { tree = all; more = []; is = sym (append-nil ps); formed = m.formed }) refl))

pub file_begun : (language : Language) (ts : List Lexeme) (why : Stop) (at : List Lexeme) → file language ts ≡ Err (why, at) → IsRefused why → Begun language ts at
unfolding file
file_begun language ts why at h refused = ⊎_elim
    (λ e. in_units language ts at ((units_rule language).stuck (omega arith) ts why at e refused))
    (λ a. ⊎_elim
    (λ e. subst (λ us. Begun language ts us) (finish_here a.0.1 why at e) (behind_units language ts a.0.1 a.0.0 a.1))
    (λ b. pure_err _ (why, at) b.2)
    (bind_err (finish a.0.1) _ (why, at) a.2))
    (bind_err (units language ts) _ (why, at) h)

not_deep : (why : Stop) → IsRefused why → why ≡ TooDeep → ⊥
not_deep why refused e = subst IsRefused e refused

-- with the token at that place no file begins
pub no_further : (language : Language) (front : List Lexeme) (t : Lexeme) (r : List Lexeme) (why : Stop) → file language (front ++ t ∷ r) ≡ Err (why, t ∷ r) → IsRefused why → BeginsIn language (front ++ t ∷ []) → ⊥
no_further language front t r why h refused b =
    let alike = refused_alike t r b.more (file language (front ++ t ∷ r)) (file language (front ++ t ∷ b.more)) why ((file_steady language).twins front t r b.more) h in
    file_refused language (front ++ t ∷ b.more) why (t ∷ b.more) alike (not_deep why refused) b.file b.formed
    (subst (λ ts. Spells (spell_file b.file) ts []) (append_assoc front (t ∷ []) b.more) b.spelled)

-- ---- tokens in place of lexemes

split_same : {A : Type 0} (xs ys us vs : List A) → xs ++ us ≡ ys ++ vs → length xs ≡ length ys → (xs ≡ ys) × (us ≡ vs)
split_same [] [] us vs e l = (refl, e)
split_same [] (y ∷ ys) us vs e l = absurd (omega (arith, l))
split_same (x ∷ xs) [] us vs e l = absurd (omega (arith, l))
split_same {A} (x ∷ xs) (y ∷ ys) us vs e l =
    let first : x ≡ y = cc in
    let more : xs ++ us ≡ ys ++ vs = cc in
    let s = split_same xs ys us vs more (omega (arith, l)) in
    (ap (λ z. z ∷ xs) first ∙ ap (λ zs. y ∷ zs) s.0, s.1)

pub is_stuck : (language : Language) (source : List ℕ) (tokens : List Token) (fault : SyntaxFault) (met : ℕ) (why : Stop) (at : List Lexeme) → IsMetBehind tokens met fault → met ≡ length tokens - length at →
    (IsRefusal fault → IsRefused why × (file language (lexemes source tokens) ≡ Err (why, at))) → IsStuckIn language source tokens fault
is_stuck language source tokens (f.Unexpected byte) met why at next m refused =
    let r = refused tt in
    let b = file_begun language (lexemes source tokens) why at r.1 r.0 in
    let split = ap (λ ts. lexemes source ts) next.split ∙ map-append (lexeme source) next.before (next.token ∷ next.after) in
    let long = ap (λ us. length us) b.split ∙ length-append b.front at in
    let s = split_same b.front (lexemes source next.before) at (lexemes source (next.token ∷ next.after)) (sym b.split ∙ split)
    (omega (arith, m, long, next.behind, length-map tokens (lexeme source), length-map next.before (lexeme source))) in
    let stopped : file language (lexemes source next.before ++ lexeme source next.token ∷ lexemes source next.after) ≡ Err (why, lexeme source next.token ∷ lexemes source next.after) =
    subst (λ us. file language us ≡ Err (why, lexeme source next.token ∷ lexemes source next.after)) split (subst (λ us. file language (lexemes source tokens) ≡ Err (why, us)) s.1 r.1) in
    record {
      n = met;
      next = next;
      begun = subst (BeginsIn language) s.0 b.begun;
      no_further = λ w. no_further language (lexemes source next.before) (lexeme source next.token) (lexemes source next.after) why stopped r.0
          (subst (BeginsIn language) (map-append (lexeme source) next.before (next.token ∷ [])) w);
    }
is_stuck language source tokens (f.EndOfFile byte) met why at le m refused =
    let r = refused tt in
    let b = file_begun language (lexemes source tokens) why at r.1 r.0 in
    let long = ap (λ us. length us) b.split ∙ length-append b.front at in
    subst (BeginsIn language) (sym (b.split ∙ ap (λ us. b.front ++ us) (none at (omega (arith, m, le, long, length-map tokens (lexeme source)))) ∙ append-nil b.front)) b.begun
  where
    none : (us : List Lexeme) → length us ≤ 0 → us ≡ []
    none [] h = refl
    none (u ∷ us) h = absurd (omega (arith, h))
is_stuck language source tokens _ met why at _ m refused = tt
