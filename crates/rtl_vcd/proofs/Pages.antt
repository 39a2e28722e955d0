-- Text by way of a page.
use Rattle.std.proofs.Common.{◌≡◌, ℕ, ◌+◌, ◌-◌, ◌<◌, ◌≤◌, List, [], ◌++◌, length, take, set, refl, sym, ap, ◌∙◌, subst, arith, append_assoc, append-nil, length-take-le, take-add, take-take, take_at, drop_at}
use Rattle.std.specs.Prelude.{codes}
use Rattle.std.proofs.lemmas.Slice.{take-put_mid}
use Rattle.std.proofs.lemmas.List.{take_all, take-append-le, take-set, take_more_set, length-set}
use borrow.Rule.Slice.PartMut.{put_mid}
use Rattle.byte_streams.specs.Written.{SinkState, Goes}
use Rattle.byte_streams.proofs.Writing.{Goes-nil, Goes-append}
use Rattle.rtl_vcd.specs.Pages.{Passes}
use Rattle.rtl_vcd.proofs.Runs.{behind_page}

-- no text
pub Passes-nil : (a : SinkState) (held : List ℕ) → Passes a a held held []
Passes-nil a held = record { gone = []; goes = Goes-nil a; kept = append-nil held }

-- text that the page holds
pub Passes-held : (a : SinkState) (held text : List ℕ) → Passes a a held (held ++ text) text
Passes-held a held text = record { gone = []; goes = Goes-nil a; kept = refl }

-- all that the page holds goes to the sink
pub Passes-all : (a b : SinkState) (text : List ℕ) → Goes a b text → Passes a b [] [] text
Passes-all a b text goes = record { gone = text; goes = goes; kept = sym (append-nil text) }

-- one text, and then another
pub Passes-append : (a b c : SinkState) (h i j x y : List ℕ) → Passes a b h i x → Passes b c i j y → Passes a c h j (x ++ y)
Passes-append a b c h i j x y p q = record {
  gone = p.gone ++ q.gone;
  goes = Goes-append a b c p.gone q.gone p.goes q.goes;
  kept =
      sym (append_assoc h x y) ∙ ap (λ t. t ++ y) p.kept ∙ append_assoc p.gone i y ∙ ap (λ t. p.gone ++ t) q.kept
      ∙ sym (append_assoc p.gone q.gone j);
}

-- what the page holds in the end goes to the sink
pub Passes-whole : (a b c : SinkState) (holds text : List ℕ) → Passes a b [] holds text → Goes b c holds → Goes a c text
Passes-whole a b c holds text p q = subst (Goes a c) (sym p.kept) (Goes-append a b c p.gone holds p.goes q)

-- ---- the first bytes of a page's room

-- a text behind them
pub text_more : (bytes text : List ℕ) (len : ℕ) → len + length text ≤ length bytes
    → take (len + length text) (put_mid len (len + length text - len) bytes text) ≡ take len bytes ++ text
text_more bytes text len within = take-put_mid len (len + length text - len) bytes text (len + length text) refl (omega arith)

-- the end of a line, with the bytes behind it
pub end_put : (room put bytes : List ℕ) (from len : ℕ) → from ≤ length room → length bytes ≡ 8 → len ≤ 8
    → take (from + 8) put ≡ take from room ++ take 8 bytes → take (from + len) put ≡ take from room ++ take len bytes
end_put room put bytes from len within eight few copied =
    let all : take (from + 8) put ≡ take from room ++ bytes = copied ∙ ap (λ t. take from room ++ t) (take_all 8 bytes (omega (arith, eight))) in
    let front = length-take-le from room within in
    sym (take-take (from + len) (from + 8) put (omega (arith, few))) ∙ ap (take (from + len)) all
    ∙ take-add from len (take from room ++ bytes)
    ∙ (λ k. take_at (take from room) bytes from front k ++ take len (drop_at (take from room) bytes from front k))

-- a vector whose characters were put behind a `b`, behind these bytes
module _ (bytes put : List ℕ) (len m : ℕ) (text : List ℕ) (within : len < length bytes) (is : take (len + 1 + m) put ≡ take (len + 1) (set bytes len 98) ++ text) where
  -- before these characters nothing has changed
  pub vector_kept : take len put ≡ take len bytes
  vector_kept =
      let long : len ≤ length (take (len + 1) (set bytes len 98)) = omega (arith, length-take-le (len + 1) (set bytes len 98) (omega (arith, within, length-set bytes len 98))) in
      sym (take-take len (len + 1 + m) put (omega arith)) ∙ ap (take len) is
      ∙ take-append-le len (take (len + 1) (set bytes len 98)) text long
      ∙ take-take len (len + 1) (set bytes len 98) (omega arith)
      ∙ take-set bytes len 98

  -- with the end of the line they are the line
  pub vector_line : (more end : List ℕ) (many : ℕ) → take (len + 1 + m + many) more ≡ take (len + 1 + m) put ++ end
      → take (len + 1 + m + many) more ≡ take len bytes ++ (codes "b" ++ text ++ end)
  vector_line more end many e =
      e ∙ ap (λ t. t ++ end) (is ∙ ap (λ t. t ++ text) (take_more_set bytes len 98 within))
      ∙ behind_page (take len bytes) (codes "b") text end
