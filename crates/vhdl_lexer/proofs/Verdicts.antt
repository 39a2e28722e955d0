-- What the loop's end says of the source.
use Rattle.std.proofs.Common.{◌≡◌, ℕ, ◌+◌, ◌-◌, ◌≤◌, List, [], ◌∷◌, ◌++◌, length, Err, IfSome, Option, Some, None, inl, inr, refl, sym, ap, ◌∙◌, subst, true≢false, arith}
use Rattle.vhdl_lexer.specs.declared.token.TokenKind.{TokenKind}
use Rattle.vhdl_lexer.specs.declared.token.Token.{Token}
use Rattle.vhdl_lexer.specs.declared.fault.LexFault.{LexFault}
use Rattle.vhdl_lexer.specs.declared.fault.LexFault.TheVariants as fault
use Rattle.vhdl_lexer.specs.Cut.{IsNext, Cuts, CutsTo}
use Rattle.vhdl_lexer.specs.Bytes.{quote, slash, star}
use Rattle.vhdl_lexer.specs.declared.byte.ByteClass.{ByteClass}
use Rattle.vhdl_lexer.specs.Fault.{fault_byte, Faulty, StartsFirst, IsRefusal, HasFault}
use Rattle.vhdl_lexer.specs.Scan.{front, skip}
use Rattle.vhdl_lexer.proofs.Sound.{err_ok}
use Rattle.vhdl_lexer.proofs.Faults.{err_same, front_faulty, fault_found}
use Rattle.vhdl_lexer.proofs.Starts.{fault_stands}
use Rattle.vhdl_lexer.proofs.Skipping.{skip_skipped, leads_skip, leads_shorter}
use Rattle.vhdl_lexer.proofs.Reached.{Reached, next_found, next_empty, next_same}

pub no_bytes : (xs : List ℕ) → length xs ≡ 0 → xs ≡ []
no_bytes [] e = refl
no_bytes (x ∷ xs) e = absurd (omega (arith, e))

pub has_fault : (p : LexFault) (source : List ℕ) → StartsFirst p source → HasFault p source
has_fault (fault.TooLong at) source s = absurd s.faulty
has_fault fault.NoMemory source s = absurd s.faulty
has_fault _ source s = s

fault_starts : (e : LexFault) (source : List ℕ) → IsRefusal e → HasFault e source → StartsFirst e source
fault_starts (fault.TooLong at) source r h = absurd r
fault_starts fault.NoMemory source r h = absurd r
fault_starts _ source r h = h

-- ---- where the front is a fault

pub reached_fault : (source : List ℕ) (tokens : List Token) (last : Option TokenKind) (text : List ℕ) (p : LexFault) →
    Reached source tokens last text → (skip text ≡ [] → ⊥) → front (length source - length (skip text)) last (skip text) ≡ Err p → StartsFirst p source
reached_fault source tokens last text p r some e =
    let s = skip_skipped text in
    let m = front_faulty (length source - length (skip text)) last (skip text) p s.stands some e in
    let at : length source - length (skip text) ≡ (length source - length text) + (length text - length (skip text)) =
    omega (arith, r.within, leads_shorter s.pieces text (skip text) s.led) in
    record {
      tokens = tokens;
      last = last;
      place = length source - length text;
      left = text;
      cut = r.cut;
      pieces = s.pieces;
      ahead = skip text;
      led = s.led;
      starts = m.byte ∙ ap (λ n. Some n) at;
      faulty = m.faulty;
    }

-- and its byte is within the source
pub reached_placed : (source : List ℕ) (last : Option TokenKind) (text : List ℕ) (p : LexFault) → (skip text ≡ [] → ⊥) →
    front (length source - length (skip text)) last (skip text) ≡ Err p → IfSome (fault_byte p) (λ at. at ≤ length source)
reached_placed source last text p some e =
    let s = skip_skipped text in
    let m = front_faulty (length source - length (skip text)) last (skip text) p s.stands some e in
    let le : length source - length (skip text) ≤ length source = omega arith in
    subst (λ byte. IfSome byte (λ at. at ≤ length source)) (sym m.byte) le

-- ---- faults and tokens are the only ones

-- a state of the cut where the lexer meets a fault
record Stuck (p : LexFault) (last : Option TokenKind) (place : ℕ) (left : List ℕ) : Type 0 where
  met : front (place + (length left - length (skip left))) last (skip left) ≡ Err p

stuck_next : {A : Type 0} (p : LexFault) (last : Option TokenKind) (at place : ℕ) (text : List ℕ) (t : Token) (rest : List ℕ) →
    Stuck p last place text → IsNext last at text t rest → A
stuck_next p last at place text t rest s n =
    err_ok p (t.kind, length n.slice) (sym s.met ∙ next_found last at text t rest n (place + (length text - length (skip text))))

-- from one state the cut goes to one such state
same_stuck : (b : Option TokenKind) (at : ℕ) (text : List ℕ) (ts us : List Token) (l m : Option TokenKind) (place other : ℕ) (left back : List ℕ) (p q : LexFault) →
    CutsTo b at text ts l place left → CutsTo b at text us m other back → Stuck p l place left → Stuck q m other back → p ≡ q
same_stuck b at text [] [] l m place other left back p q c d s r =
    let lefts : left ≡ back = sym c.2 ∙ d.2 in
    let lasts : l ≡ m = sym c.0 ∙ d.0 in
    let places : place ≡ other = sym c.1 ∙ d.1 in
    err_same p q (sym s.met ∙ ap (λ n. front (n + (length left - length (skip left))) l (skip left)) places
    ∙ ap (λ x. front (other + (length left - length (skip left))) x (skip left)) lasts
    ∙ ap (λ x. front (other + (length x - length (skip x))) m (skip x)) lefts ∙ r.met)
same_stuck b at text [] (u ∷ us) l m place other left back p q c d s r =
    stuck_next p b at place text u d.0 (subst (λ x. Stuck p x place text) (sym c.0) (subst (Stuck p l place) (sym c.2) s)) d.1
same_stuck b at text (t ∷ ts) [] l m place other left back p q c d s r =
    stuck_next q b at other text t c.0 (subst (λ x. Stuck q x other text) (sym d.0) (subst (Stuck q m other) (sym d.2) r)) c.1
same_stuck b at text (t ∷ ts) (u ∷ us) l m place other left back p q c d s r =
    let e = next_same b at text t u c.0 d.0 c.1 d.1 in
    let others : CutsTo (Some t.kind) t.end c.0 us m other back =
    subst (λ x. CutsTo (Some t.kind) t.end x us m other back) e.1 (subst (λ (x : Token). CutsTo (Some x.kind) x.end d.0 us m other back) e.0 d.2) in
    same_stuck (Some t.kind) t.end c.0 ts us l m place other left back p q c.2 others s r

-- what cuts the whole text meets no fault
never_stuck : {A : Type 0} (b : Option TokenKind) (at : ℕ) (text : List ℕ) (ts us : List Token) (m : Option TokenKind) (other : ℕ) (back : List ℕ) (q : LexFault) →
    Cuts b at text ts → CutsTo b at text us m other back → Stuck q m other back → (skip back ≡ [] → ⊥) → A
never_stuck b at text [] [] m other back q c d r some = absurd (some (ap skip (sym d.2) ∙ leads_skip c.0 text [] c.1 tt))
never_stuck b at text [] (u ∷ us) m other back q c d r some = next_empty b at text u d.0 (leads_skip c.0 text [] c.1 tt) d.1
never_stuck b at text (t ∷ ts) [] m other back q c d r some =
    stuck_next q b at other text t c.0 (subst (λ x. Stuck q x other text) (sym d.0) (subst (Stuck q m other) (sym d.2) r)) c.1
never_stuck b at text (t ∷ ts) (u ∷ us) m other back q c d r some =
    let e = next_same b at text t u c.0 d.0 c.1 d.1 in
    let others : CutsTo (Some t.kind) t.end c.0 us m other back =
    subst (λ x. CutsTo (Some t.kind) t.end x us m other back) e.1 (subst (λ (x : Token). CutsTo (Some x.kind) x.end d.0 us m other back) e.0 d.2) in
    never_stuck (Some t.kind) t.end c.0 ts us m other back q c.2 others r some

starts_ahead : (p : LexFault) (source : List ℕ) (s : StartsFirst p source) → skip s.left ≡ s.ahead
starts_ahead p source s = leads_skip s.pieces s.left s.ahead s.led (fault_stands p s.ahead s.faulty)

starts_stuck : (p : LexFault) (source : List ℕ) (s : StartsFirst p source) → Stuck p s.last s.place s.left
starts_stuck p source s =
    let here : front (s.place + (length s.left - length s.ahead)) s.last s.ahead ≡ Err p =
    subst (λ byte. IfSome byte (λ at. front at s.last s.ahead ≡ Err p)) s.starts (fault_found s.last p s.ahead s.faulty) in
    record { met = ap (λ (x : List ℕ). front (s.place + (length s.left - length x)) s.last x) (starts_ahead p source s) ∙ here }

no_nil : {A : Type 0} (b : ℕ) (text : List ℕ) → ◌≡◌ {A = List ℕ} [] (b ∷ text) → A
no_nil b text e = let l : 0 ≡ length (b ∷ text) = ap (λ (x : List ℕ). length x) e in absurd (omega (arith, l))

-- a fault has a byte
faulty_some : (p : LexFault) → Faulty p [] → ⊥
faulty_some (fault.BadByte at) (inl s) = no_nil s.0 s.1 s.2
faulty_some (fault.BadByte at) (inr s) = no_nil quote (s.0 ++ quote ∷ s.1) s.2.0
faulty_some (fault.OpenComment at) c = no_nil slash (star ∷ c.0) c.1
faulty_some (fault.OpenString at) (inl s) = true≢false (sym s.0)
faulty_some (fault.OpenString at) (inr s) = let never : ◌≡◌ {A = Option ByteClass} None (Some s.0) = s.1 in absurd (cc)
faulty_some (fault.BadIdentifier at) i = i.0
faulty_some (fault.BadNumber at) (inl i) = true≢false (sym i.0)
faulty_some (fault.BadNumber at) (inr s) = no_nil s.3.0 (quote ∷ (s.1 ++ quote ∷ s.2)) s.3.1
faulty_some _ x = x

starts_some : (p : LexFault) (source : List ℕ) (s : StartsFirst p source) → skip s.left ≡ [] → ⊥
starts_some p source s e = faulty_some p (subst (Faulty p) (sym (starts_ahead p source s) ∙ e) s.faulty)

-- a source with a fault of a token has no tokens
pub fault_refuses : (e : LexFault) (source : List ℕ) → IsRefusal e → HasFault e source → (tokens : List Token) → Cuts None 0 source tokens → ⊥
fault_refuses e source r h tokens c =
    let s = fault_starts e source r h in
    never_stuck None 0 source tokens s.tokens s.last s.place s.left e c s.cut (starts_stuck e source s) (starts_some e source s)

-- and no other such fault
pub same_fault : (e other : LexFault) (source : List ℕ) → IsRefusal e → HasFault e source → IsRefusal other → HasFault other source → other ≡ e
same_fault e other source r h q g =
    let s = fault_starts e source r h in
    let u = fault_starts other source q g in
    same_stuck None 0 source u.tokens s.tokens u.last s.last u.place s.place u.left s.left other e u.cut s.cut (starts_stuck other source u) (starts_stuck e source s)
