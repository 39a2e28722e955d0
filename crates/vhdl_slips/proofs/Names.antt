-- Names that are listed, by the first token.
use Rattle.std.proofs.Common.{◌≡◌, ℕ, ◌<◌, ◌≤◌, List, [], ◌∷◌, ◌++◌, length, refl, append_assoc, arith}
use Rattle.vhdl_slips.proofs.Rest.{rest, rest_is}
use Rattle.vhdl_slips.specs.Listings.{names_at, names_from}
use Rattle.vhdl_slips.specs.declared.listing.Listing.{Listing}
use Rattle.vhdl_lexer.specs.declared.token.Token.{Token}

pub names_step : (listing : Listing) (text : List ℕ) (ts : List Token) (others : List (List ℕ)) → 1 ≤ length ts
    → names_from listing text ts ++ others ≡ names_at listing text ts ++ (names_from listing text (rest ts) ++ others)
names_step listing text [] others le = absurd (omega arith)
names_step listing text (t ∷ ts) others le = rw (rest_is t ts) (append_assoc (names_at listing text (t ∷ ts)) _ others)

pub no_names : (listing : Listing) (text : List ℕ) (ts : List Token) → length ts < 1 → names_from listing text ts ≡ []
no_names listing text [] below = refl
no_names listing text (t ∷ ts) below = absurd (omega arith)
