-- Tokens within a source.
use Rattle.std.proofs.Common.{ℕ, zero, suc, ◌<◌, ◌≤◌, List, [], ◌∷◌, length, refl, ap, arith}
use Rattle.std.specs.Prelude.{slice_index_or}
use Rattle.vhdl_lexer.specs.Cut.{AreWithin}
use Rattle.vhdl_lexer.specs.declared.token.Token.{Token}
use Rattle.vhdl_parser_rules.specs.Fault.{IsStart}
use Rattle.vhdl_parser_rules.specs.Stuck.{IsNext}

pub start_within : (source : List ℕ) (ts : List Token) (i : ℕ) (d : Token) → AreWithin source ts → i < length ts → (slice_index_or ts i d).start ≤ length source
start_within source [] i d w h = absurd (omega (arith, h))
start_within source (t ∷ ts) zero d w h = omega (arith, w.0, w.1)
start_within source (t ∷ ts) (suc i) d w h = start_within source ts i d w.2 (omega (arith, h))

pub start_is : (ts : List Token) (i : ℕ) (d : Token) → i < length ts → IsStart ts (slice_index_or ts i d).start
start_is [] i d h = absurd (omega (arith, h))
start_is (t ∷ ts) zero d h = (0, omega arith, refl)
start_is (t ∷ ts) (suc i) d h = let r = start_is ts i d (omega (arith, h)) in (suc r.0, omega (arith, r.1), r.2)

pub is_next : (ts : List Token) (i : ℕ) (d : Token) → i < length ts → IsNext ts i (slice_index_or ts i d).start
is_next [] i d h = absurd (omega (arith, h))
is_next (t ∷ ts) zero d h = record { before = []; token = t; after = ts; split = refl; behind = refl; starts = refl }
is_next (t ∷ ts) (suc i) d h =
    let r = is_next ts i d (omega (arith, h)) in
    record { before = t ∷ r.before; token = r.token; after = r.after; split = ap (λ us. t ∷ us) r.split; behind = ap suc r.behind; starts = r.starts }
