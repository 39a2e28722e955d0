-- Static integers stand in as many digits as they need.
use Rattle.std.proofs.Common.{◌≡◌, true, ap, ◌∙◌}
use Rattle.std.specs.Prelude.{ℤ}
use Rattle.std.proofs.lemmas.Bool.{cond-true}
use Rattle.vhdl_numbers.specs.declared.kinds.Conversion.TheVariants.{Within}
use Rattle.vhdl_numbers.specs.TwosComplement.{signed_digits_of}
use Rattle.vhdl_numbers.proofs.Lengths.{length-signed_digits_of}
use Rattle.rtl_model.specs.bodies.Body as bodies
use Rattle.vhdl_expand_rules.specs.Computed.{span, integers, covers, cut_to, digits_needed, fitted, limited, known}
use Rattle.vhdl_expand_numbers.proofs.Widths.{number_of, same_length}

pub known_is : (x : ℤ) → covers integers (span x x) ≡ true → known x ≡ record { digits = bodies.constant (signed_digits_of (digits_needed (span x x)) x); span = span x x }
unfolding known limited
known_is x h =
    let e : bodies.Expr = bodies.constant (signed_digits_of (digits_needed (span x x)) x) in
    cond-true (covers integers (span x x)) (fitted (span x x) e) (fitted (cut_to integers (span x x)) (bodies.converted (Within integers.least integers.greatest) e)) h
    ∙ ap (λ (d : bodies.Expr). number_of d (span x x)) (same_length (digits_needed (span x x)) e (length-signed_digits_of (digits_needed (span x x)) x))
