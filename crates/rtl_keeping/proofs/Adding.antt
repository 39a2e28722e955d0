-- Nets and signals are added variable by variable.
use Rattle.std.proofs.Common.{◌≡◌, ℕ, zero, suc, ◌+◌, ◌-◌, ◌<◌, ◌≤◌, Bool, true, false, List, [], ◌∷◌, ◌++◌, length, map, flat_map, take, drop, replicate, get_or, refl, sym, ap, ◌∙◌, arith, append_assoc, append-nil}
use Rattle.std.specs.List.{range_with_len}
use Rattle.std.proofs.lemmas.List.{length-append, length-map, length-replicate, map-append, take_all, drop_more}
use Rattle.rtl_net.specs.declared.net.NetKind.{NetKind}
use Rattle.rtl_net.specs.declared.process.Process.{Process}
use Rattle.rtl_net.specs.declared.process.Variable.{Variable}
use Rattle.rtl_net.specs.declared.signal.Signal.{Signal}
use Rattle.rtl_net.specs.Limits.{most_nets}
use Rattle.rtl_net.specs.Nets.{type_of, element_type, signal_view}
use Rattle.rtl_keeping.specs.Kept.{kept_signal}
use Rattle.rtl_keeping.specs.Steps.{marked, types_of, starts_of, signals_of, Adds}
use Rattle.rtl_keeping.specs.declared.nets.Nets.{Nets}

map_replicate : (n : ℕ) (kind : NetKind) → map type_of (replicate n kind) ≡ replicate n (type_of kind)
map_replicate zero kind = refl
map_replicate (suc n) kind = ap (λ ts. type_of kind ∷ ts) (map_replicate n kind)

pub row_more : (first n : ℕ) → range_with_len first (n + 1) ≡ range_with_len first n ++ (first + n) ∷ []
row_more first n = ap (range_with_len first) (let s : n + 1 ≡ suc n = omega arith in s) ∙ by first n
  where
    by : (a m : ℕ) → range_with_len a (suc m) ≡ range_with_len a m ++ (a + m) ∷ []
    by a zero = ap (λ k. k ∷ []) (let s : a ≡ a + 0 = omega arith in s)
    by a (suc m) = ap (λ ks. a ∷ ks) (by (a + 1) m ∙ ap (λ k. range_with_len (a + 1) m ++ k ∷ []) (let s : a + 1 + m ≡ a + suc m = omega arith in s))

some_at : (vs : List Variable) (k : ℕ) → k < length vs → (v : Variable) × (v ≡ get_or vs k v)
some_at [] k l = absurd (omega (arith, l))
some_at (v ∷ vs) zero l = (v, refl)
some_at (v ∷ vs) (suc k) l = some_at vs k (omega (arith, l))

module _ (p : Process) (number : ℕ) where
  -- ---- one variable

  pub added : (v : Variable) (old new : Nets) (kind : NetKind) (signal : Signal) (n len : ℕ) → n ≡ length old.kinds.items + length v.starts.items → len ≡ length old.kinds.items
      → type_of kind ≡ element_type v.kind → new.kinds.items ≡ take n old.kinds.items ++ replicate (n - len) kind
      → new.starts.items ≡ old.starts.items ++ v.starts.items → new.signals.items ≡ old.signals.items ++ signal ∷ [] → signal_view signal ≡ kept_signal p number (length old.kinds.items) v
      → Adds p number (v ∷ []) old new
  added v old new kind signal n len whole own typed kinds starts signals is =
      let many : n - len ≡ length v.starts.items = omega (arith, whole, own) in
      record {
        types = ap (map type_of) (kinds ∙ (λ i. take_all n old.kinds.items (omega (arith, whole)) i ++ replicate (many i) kind))
            ∙ map-append type_of old.kinds.items (replicate (length v.starts.items) kind)
            ∙ ap (λ ts. map type_of old.kinds.items ++ ts) (map_replicate (length v.starts.items) kind ∙ ap (replicate (length v.starts.items)) typed ∙ sym (append-nil (types_of v)));
        starts = starts ∙ ap (λ ns. old.starts.items ++ ns) (sym (append-nil v.starts.items));
        signals = ap (map signal_view) signals ∙ map-append signal_view old.signals.items (signal ∷ []) ∙ ap (λ s. map signal_view old.signals.items ++ s ∷ []) is;
      }

  longer : (v : Variable) (old new : Nets) → Adds p number (v ∷ []) old new → length new.kinds.items ≡ length old.kinds.items + length v.starts.items
  longer v old new h =
      let n = ap length h.types in
      let m = ap length (append-nil (types_of v)) in
      omega (arith, n, m, length-map new.kinds.items type_of, length-map old.kinds.items type_of, length-append (map type_of old.kinds.items) (types_of v ++ []), length-replicate (length v.starts.items) (element_type v.kind))

  -- ---- one after another

  module _ (marks : List Bool) (vs : List Variable) (old : Nets) where
    -- what the variables from this place on add is still to come
    pub record Adding (k : ℕ) (now : Nets) : Type 0 where
      pub types : map type_of now.kinds.items ++ flat_map types_of (marked (drop k marks) (drop k vs)) ≡ map type_of old.kinds.items ++ flat_map types_of (marked marks vs)
      pub starts : now.starts.items ++ flat_map starts_of (marked (drop k marks) (drop k vs)) ≡ old.starts.items ++ flat_map starts_of (marked marks vs)
      pub signals : map signal_view now.signals.items ++ signals_of p number (length now.kinds.items) (marked (drop k marks) (drop k vs))
          ≡ map signal_view old.signals.items ++ signals_of p number (length old.kinds.items) (marked marks vs)

    module _ (k : ℕ) (now : Nets) (long : length marks ≡ length vs) (l : k < length marks) (v : Variable) (is : v ≡ get_or vs k v) (h : Adding k now) where
      here : (b : Bool) → get_or marks k false ≡ b → marked (drop k marks) (drop k vs) ≡ marked (b ∷ drop (k + 1) marks) (v ∷ drop (k + 1) vs)
      here b e = λ i. marked ((drop_more marks k false l ∙ ap (λ c. c ∷ drop (k + 1) marks) e) i) ((drop_more vs k v (omega (arith, l, long)) ∙ ap (λ w. w ∷ drop (k + 1) vs) (sym is)) i)

      passed_at : get_or marks k false ≡ false → Adding (k + 1) now
      passed_at e = record {
        types = sym (ap (λ ws. map type_of now.kinds.items ++ flat_map types_of ws) (here false e)) ∙ h.types;
        starts = sym (ap (λ ws. now.starts.items ++ flat_map starts_of ws) (here false e)) ∙ h.starts;
        signals = sym (ap (λ ws. map signal_view now.signals.items ++ signals_of p number (length now.kinds.items) ws) (here false e)) ∙ h.signals;
      }

      -- there is room for one of the marked, where there is for all
      pub has_room : get_or marks k false ≡ true → length old.kinds.items + length (flat_map types_of (marked marks vs)) ≤ most_nets → length now.kinds.items + length v.starts.items ≤ most_nets
      has_room e room =
          let ws = marked (drop (k + 1) marks) (drop (k + 1) vs) in
          let whole : length (map type_of now.kinds.items ++ flat_map types_of (v ∷ ws)) ≡ length (map type_of old.kinds.items ++ flat_map types_of (marked marks vs)) =
          ap length (sym (ap (λ us. map type_of now.kinds.items ++ flat_map types_of us) (here true e)) ∙ h.types) in
          omega (
            arith,
            room,
            whole,
            length-append (map type_of now.kinds.items) (flat_map types_of (v ∷ ws)),
            length-append (map type_of old.kinds.items) (flat_map types_of (marked marks vs)),
            length-append (types_of v) (flat_map types_of ws),
            length-replicate (length v.starts.items) (element_type v.kind),
            length-map now.kinds.items type_of,
            length-map old.kinds.items type_of,
          )

      pub one_more : (new : Nets) → get_or marks k false ≡ true → Adds p number (v ∷ []) now new → Adding (k + 1) new
      one_more new e a = record {
        types = ap (λ ts. ts ++ flat_map types_of (marked (drop (k + 1) marks) (drop (k + 1) vs))) (a.types ∙ ap (λ ts. map type_of now.kinds.items ++ ts) (append-nil (types_of v)))
            ∙ append_assoc (map type_of now.kinds.items) (types_of v) (flat_map types_of (marked (drop (k + 1) marks) (drop (k + 1) vs)))
            ∙ sym (ap (λ ws. map type_of now.kinds.items ++ flat_map types_of ws) (here true e)) ∙ h.types;
        starts = ap (λ ts. ts ++ flat_map starts_of (marked (drop (k + 1) marks) (drop (k + 1) vs))) (a.starts ∙ ap (λ ts. now.starts.items ++ ts) (append-nil v.starts.items))
            ∙ append_assoc now.starts.items v.starts.items (flat_map starts_of (marked (drop (k + 1) marks) (drop (k + 1) vs)))
            ∙ sym (ap (λ ws. now.starts.items ++ flat_map starts_of ws) (here true e)) ∙ h.starts;
        signals = ap (λ ts. ts ++ signals_of p number (length new.kinds.items) (marked (drop (k + 1) marks) (drop (k + 1) vs))) a.signals
            ∙ append_assoc (map signal_view now.signals.items) (kept_signal p number (length now.kinds.items) v ∷ []) (signals_of p number (length new.kinds.items) (marked (drop (k + 1) marks) (drop (k + 1) vs)))
            ∙ ap (λ n. map signal_view now.signals.items ++ (kept_signal p number (length now.kinds.items) v ∷ signals_of p number n (marked (drop (k + 1) marks) (drop (k + 1) vs)))) (longer v now new a)
            ∙ sym (ap (λ ws. map signal_view now.signals.items ++ signals_of p number (length now.kinds.items) ws) (here true e)) ∙ h.signals;
      }

    pub passed : (k : ℕ) (now : Nets) → length marks ≡ length vs → k < length marks → get_or marks k false ≡ false → Adding k now → Adding (k + 1) now
    passed k now long l e h = let (v, is) = some_at vs k (omega (arith, l, long)) in passed_at k now long l v is h e
