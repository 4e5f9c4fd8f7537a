-- That each file has a verdict.
use Rattle.std.proofs.Common.{◌≡◌, ◌⊎◌, inl, inr, ℕ, zero, suc, ◌+◌, ◌*◌, ◌<◌, ◌≤◌, ◌^◌, min, List, length, take, arith, refl, ap, ◌∙◌, sym, subst}
use Rattle.std.proofs.Math.Seq.{take-length}
use Rattle.std.specs.Prelude.{Option, Some, None, slice_get, slice_index}
use Rattle.spf_apps_formats.specs.Signatures.{AgreesBelow, BeginsWith, DepartsAt, AreBelow, IsFirstPast}
use Rattle.spf_apps_formats.specs.Huffman.{AreShort, AreCodeLengths, IsTooLongAt, IsOversubscribedAt, AreRefusedAt, space}
use Rattle.spf_apps_formats.specs.Huf1.{IsHuf1, IsNoHuf1At, lengths_of}
use Rattle.spf_apps_formats.specs.Huf1 as huf1
use Rattle.spf_apps_formats.specs.Lex1.{IsLex1, HasCount, HasNoCount, HasCounts, HasSize, HasClasses, IsNoLex1At, size_of, class_at, next_at}
use Rattle.spf_apps_formats.specs.Lex1 as lex1

-- ---- decisions

-- it is so, or it isn't
abbrev Decided : Type 0 → Type 0
Decided P = P ⊎ (P → ⊥)

same_or_not : (a b : ℕ) → Decided (a ≡ b)
same_or_not a b = grind arith

below_or_not : (a b : ℕ) → Decided (a < b)
below_or_not a b = grind arith

same_byte_or_not : (x y : Option ℕ) → Decided (x ≡ y)
same_byte_or_not None None = inl refl
same_byte_or_not None (Some b) = inr (λ e. cc)
same_byte_or_not (Some a) None = inr (λ e. cc)
same_byte_or_not (Some a) (Some b) =
    elim (same_or_not a b) [
      | inl e ↦ inl (ap Some e)
      | inr n ↦ inr (λ e. n (inside a b e))
    ]
  where
    inside : (a b : ℕ) → Some a ≡ Some b → a ≡ b
    inside a b e = cc

-- the first of the numbers below n for which this doesn't hold
record IsFirstOther (P : ℕ → Type 0) (n k : ℕ) : Type 0 where
  inside : k < n
  before : (j : ℕ) → j < k → P j
  other : P k → ⊥

-- this holds for all numbers below n, or there is a first one for which it doesn't
all_or_first : (P : ℕ → Type 0) → ((k : ℕ) → Decided (P k)) → (n : ℕ) → ((k : ℕ) → k < n → P k) ⊎ ((k : ℕ) × IsFirstOther P n k)
all_or_first P decided zero = inl (λ k l. absurd (omega (arith, l)))
all_or_first P decided (suc n) = by_before (all_or_first P decided n)
  where
    with_last : ((k : ℕ) → k < n → P k) → P n → (k : ℕ) → k < suc n → P k
    with_last all last k l =
        elim (below_or_not k n) [
          | inl b ↦ all k b
          | inr b ↦ subst P (grind (arith, l, b)) last
        ]

    by_last : ((k : ℕ) → k < n → P k) → Decided (P n) → ((k : ℕ) → k < suc n → P k) ⊎ ((k : ℕ) × IsFirstOther P (suc n) k)
    by_last all (inl last) = inl (with_last all last)
    by_last all (inr other) = inr (n, record { inside = omega arith; before = all; other = other })

    by_before : ((k : ℕ) → k < n → P k) ⊎ ((k : ℕ) × IsFirstOther P n k) → ((k : ℕ) → k < suc n → P k) ⊎ ((k : ℕ) × IsFirstOther P (suc n) k)
    by_before (inl all) = by_last all (decided n)
    by_before (inr f) = inr (f.0, record { inside = (let l = f.1.inside in omega (arith, l)); before = f.1.before; other = f.1.other })

-- ---- signatures and tables

begins_or_departs : (text file : List ℕ) → BeginsWith text file ⊎ ((offset : ℕ) × DepartsAt text file offset)
begins_or_departs text file =
    elim (all_or_first (λ k. slice_get file k ≡ slice_get text k) (λ k. same_byte_or_not (slice_get file k) (slice_get text k)) (length text)) [
      | inl all ↦ inl all
      | inr f ↦ inr (f.0, record { inside = f.1.inside; before = f.1.before; differs = f.1.other })
    ]

below_or_past : (at : ℕ → ℕ) (count limit : ℕ) (file : List ℕ) → AreBelow at count limit file ⊎ ((offset : ℕ) × IsFirstPast at count limit file offset)
below_or_past at count limit file =
    elim (all_or_first (λ k. slice_index file (at k) < limit) (λ k. below_or_not (slice_index file (at k)) limit) count) [
      | inl all ↦ inl all
      | inr f ↦ inr (at f.0, record { index = f.0; inside = f.1.inside; before = f.1.before; past = (let n = f.1.other in grind (arith, n)); offset_is = refl })
    ]

-- ---- HUF1

short_or_long : (lengths : List ℕ) → AreShort (length lengths) lengths ⊎ ((symbol : ℕ) × IsTooLongAt lengths symbol)
short_or_long lengths =
    elim (all_or_first (λ k. slice_index lengths k ≤ 15) (λ k. grind arith) (length lengths)) [
      | inl all ↦ inl all
      | inr f ↦ inr (f.0, record { inside = f.1.inside; before = f.1.before; long = (let n = f.1.other in grind (arith, n)) })
    ]

-- there is room for the code words of the first n symbols, or there is a first one for which there isn't
room_or_full : (lengths : List ℕ) → AreShort (length lengths) lengths → (n : ℕ) → n ≤ length lengths → (space (take n lengths) ≤ 2 ^ 15) ⊎ ((symbol : ℕ) × IsOversubscribedAt lengths symbol)
room_or_full lengths short zero within = inl (omega arith)
room_or_full lengths short (suc n) within = by_before (room_or_full lengths short n (omega (arith, within)))
  where
    by_before : (space (take n lengths) ≤ 2 ^ 15) ⊎ ((symbol : ℕ) × IsOversubscribedAt lengths symbol) → (space (take (suc n) lengths) ≤ 2 ^ 15) ⊎ ((symbol : ℕ) × IsOversubscribedAt lengths symbol)
    by_before (inr o) = inr o
    by_before (inl room) =
        elim (below_or_not (2 ^ 15) (space (take (suc n) lengths))) [
          | inl full ↦ inr (n, record { short = short; inside = omega (arith, within); before = room; full = (let next : suc n ≡ n + 1 = omega arith in subst (λ k. 2 ^ 15 < space (take k lengths)) next full) })
          | inr fits ↦ inl (grind (arith, fits))
        ]

code_or_refused : (lengths : List ℕ) → AreCodeLengths lengths ⊎ ((symbol : ℕ) × AreRefusedAt lengths symbol)
code_or_refused lengths = by_lengths (short_or_long lengths)
  where
    by_lengths : AreShort (length lengths) lengths ⊎ ((symbol : ℕ) × IsTooLongAt lengths symbol) → AreCodeLengths lengths ⊎ ((symbol : ℕ) × AreRefusedAt lengths symbol)
    by_lengths (inr t) = inr (t.0, inl t.1)
    by_lengths (inl short) =
        elim (room_or_full lengths short (length lengths) (omega arith)) [
          | inl room ↦ inl (record { short = short; room = subst (λ l. space l ≤ 2 ^ 15) (take-length lengths) room })
          | inr o ↦ inr (o.0, inr o.1)
        ]

-- each file is HUF1, or there is an offset at which it isn't
pub huf1_judged : (file : List ℕ) → IsHuf1 file ⊎ ((offset : ℕ) × IsNoHuf1At file offset)
huf1_judged file = by_begin (begins_or_departs huf1.signature file)
  where
    by_lengths : BeginsWith huf1.signature file → 264 ≤ length file → AreCodeLengths (lengths_of file) ⊎ ((symbol : ℕ) × AreRefusedAt (lengths_of file) symbol) → IsHuf1 file ⊎ ((offset : ℕ) × IsNoHuf1At file offset)
    by_lengths begins header (inl lengths) = inl (record { begins = begins; header = header; lengths = lengths })
    by_lengths begins header (inr r) = inr (4 + r.0, inr (inr (record { begins = begins; header = header; symbol = r.0; refused = r.1; offset_is = refl })))

    by_header : BeginsWith huf1.signature file → Decided (length file < 264) → IsHuf1 file ⊎ ((offset : ℕ) × IsNoHuf1At file offset)
    by_header begins (inl short) = inr (length file, inr (inl (record { begins = begins; short = short; offset_is = refl })))
    by_header begins (inr whole) = by_lengths begins (grind (arith, whole)) (code_or_refused (lengths_of file))

    by_begin : BeginsWith huf1.signature file ⊎ ((offset : ℕ) × DepartsAt huf1.signature file offset) → IsHuf1 file ⊎ ((offset : ℕ) × IsNoHuf1At file offset)
    by_begin (inr d) = inr (d.0, inl d.1)
    by_begin (inl begins) = by_header begins (below_or_not (length file) 264)

-- ---- LEX1

count_or_none : (file : List ℕ) (offset : ℕ) → ((n : ℕ) × HasCount file offset n) ⊎ HasNoCount file offset
count_or_none file offset = by_byte (slice_get file offset) refl
  where
    same_count : (a b : ℕ) → Some a ≡ Some b → a ≡ b
    same_count a b e = cc

    in_range : (n : ℕ) → slice_get file offset ≡ Some n → Decided ((1 ≤ n) × (n ≤ 64)) → ((n : ℕ) × HasCount file offset n) ⊎ HasNoCount file offset
    in_range n e (inl r) = inl (n, record { stands = e; some = r.0; few = r.1 })
    in_range n e (inr none) = inr (λ m h. let same = same_count m n (sym h.stands ∙ e) in none (subst (λ k. (1 ≤ k) × (k ≤ 64)) same (h.some, h.few)))

    range_or_not : (n : ℕ) → Decided ((1 ≤ n) × (n ≤ 64))
    range_or_not n =
        elim (below_or_not 0 n) [
          | inr none ↦ inr (λ r. let l = r.0 in none (omega (arith, l)))
          | inl some ↦ elim (below_or_not 64 n) [
            | inl many ↦ inr (λ r. let l = r.1 in omega (arith, l, many))
            | inr few ↦ inl (omega (arith, some), grind (arith, few))
          ]
        ]

    by_byte : (held : Option ℕ) → slice_get file offset ≡ held → ((n : ℕ) × HasCount file offset n) ⊎ HasNoCount file offset
    by_byte None e = inr (λ m h. let both : None ≡ Some m = sym e ∙ h.stands in cc)
    by_byte (Some n) e = in_range n e (range_or_not n)

-- what is said of a file
abbrev Judged : List ℕ → Type 0
Judged file = ((states : ℕ) × (classes : ℕ) × IsLex1 file states classes) ⊎ ((offset : ℕ) × IsNoLex1At file offset)

lex1_by_next : (file : List ℕ) (states classes : ℕ) → HasClasses file states classes → Judged file
lex1_by_next file states classes classed =
    elim (below_or_past next_at (states * classes) states file) [
      | inl below ↦ inl (states, classes, record { classed = classed; below = below })
      | inr f ↦ inr (f.0, inr (inr (inr (inr (inr (record { states = states; classes = classes; classed = classed; first = f.1 }))))))
    ]

lex1_by_classes : (file : List ℕ) (states classes : ℕ) → HasSize file states classes → Judged file
lex1_by_classes file states classes sized =
    elim (below_or_past class_at 256 classes file) [
      | inl below ↦ lex1_by_next file states classes (record { sized = sized; below = below })
      | inr f ↦ inr (f.0, inr (inr (inr (inr (inl (record { states = states; classes = classes; sized = sized; first = f.1 }))))))
    ]

lex1_by_size : (file : List ℕ) (states classes : ℕ) → HasCounts file states classes → Judged file
lex1_by_size file states classes counts =
    elim (same_or_not (length file) (size_of states classes)) [
      | inl size ↦ lex1_by_classes file states classes (record { counts = counts; size = size })
      | inr other ↦ inr (min (length file) (size_of states classes), inr (inr (inr (inl (record { states = states; classes = classes; counts = counts; size = other; offset_is = refl })))))
    ]

-- each file is LEX1, or there is an offset at which it isn't
pub lex1_judged : (file : List ℕ) → Judged file
lex1_judged file = by_begin (begins_or_departs lex1.signature file)
  where
    by_classes : BeginsWith lex1.signature file → (states : ℕ) → HasCount file 4 states → ((n : ℕ) × HasCount file 5 n) ⊎ HasNoCount file 5 → Judged file
    by_classes begins states at (inl c) = lex1_by_size file states c.0 (record { begins = begins; states_at = at; classes_at = c.1 })
    by_classes begins states at (inr none) = inr (5, inr (inr (inl (record { begins = begins; states = states; states_at = at; missing = none; offset_is = refl }))))

    by_states : BeginsWith lex1.signature file → ((n : ℕ) × HasCount file 4 n) ⊎ HasNoCount file 4 → Judged file
    by_states begins (inl s) = by_classes begins s.0 s.1 (count_or_none file 5)
    by_states begins (inr none) = inr (4, inr (inl (record { begins = begins; missing = none; offset_is = refl })))

    by_begin : BeginsWith lex1.signature file ⊎ ((offset : ℕ) × DepartsAt lex1.signature file offset) → Judged file
    by_begin (inr d) = inr (d.0, inl d.1)
    by_begin (inl begins) = by_states begins (count_or_none file 4)
