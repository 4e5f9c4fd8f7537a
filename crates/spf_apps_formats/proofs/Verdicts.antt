-- That a file has one verdict.
use Rattle.std.proofs.Common.{◌≡◌, ◌⊎◌, inl, inr, ℕ, ◌+◌, ◌*◌, ◌<◌, ◌≤◌, min, List, length, take, arith, ap, ◌∙◌, sym, subst}
use Rattle.std.proofs.lemmas.List.{take-take}
use Rattle.std.proofs.lemmas.List.Sums.{sum_by-take-le}
use Rattle.std.specs.Prelude.{Some}
use Rattle.spf_apps_formats.specs.Signatures.{BeginsWith, DepartsAt, AreBelow, IsFirstPast}
use Rattle.spf_apps_formats.specs.Huffman.{AreShort, AreCodeLengths, IsTooLongAt, IsOversubscribedAt, AreRefusedAt, space, share}
use Rattle.spf_apps_formats.specs.Huf1.{IsHuf1, EndsInHeader, HasBadLengths, IsNoHuf1At, lengths_of}
use Rattle.spf_apps_formats.specs.Huf1 as huf1
use Rattle.spf_apps_formats.specs.Lex1.{IsLex1, HasCount, HasNoCount, HasCounts, HasSize, HasClasses, HasNoStates, HasNoClasses, HasOtherSize, HasBadClass, HasBadNext, IsNoLex1At, size_of, class_at, next_at}
use Rattle.spf_apps_formats.specs.Lex1 as lex1

-- ---- first offsets

-- an offset that isn't before nor after another is that one
same_offset : (p q : ℕ) → (p < q → ⊥) → (q < p → ⊥) → p ≡ q
same_offset p q h k = grind (arith, h, k)

begins_not_departs : (text file : List ℕ) (offset : ℕ) → BeginsWith text file → DepartsAt text file offset → ⊥
begins_not_departs text file offset b d = d.differs (b offset d.inside)

departs_once : (text file : List ℕ) (p q : ℕ) → DepartsAt text file p → DepartsAt text file q → p ≡ q
departs_once text file p q d e = same_offset p q (λ h. d.differs (e.before p h)) (λ h. e.differs (d.before q h))

below_not_past : (at : ℕ → ℕ) (count limit : ℕ) (file : List ℕ) (offset : ℕ) → AreBelow at count limit file → IsFirstPast at count limit file offset → ⊥
below_not_past at count limit file offset b f = omega (arith, b f.index f.inside, f.past)

past_once : (at : ℕ → ℕ) (count limit : ℕ) (file : List ℕ) (p q : ℕ) → IsFirstPast at count limit file p → IsFirstPast at count limit file q → p ≡ q
past_once at count limit file p q f g =
    let index_is = same_offset f.index g.index (λ h. omega (arith, g.before f.index h, f.past)) (λ h. omega (arith, f.before g.index h, g.past)) in
    f.offset_is ∙ ap at index_is ∙ sym g.offset_is

-- ---- HUF1

too_long_not_short : (lengths : List ℕ) (symbol : ℕ) → AreShort (length lengths) lengths → IsTooLongAt lengths symbol → ⊥
too_long_not_short lengths symbol s t = omega (arith, s symbol t.inside, t.long)

lengths_not_refused : (lengths : List ℕ) (symbol : ℕ) → AreCodeLengths lengths → AreRefusedAt lengths symbol → ⊥
lengths_not_refused lengths symbol a (inl t) = too_long_not_short lengths symbol a.short t
lengths_not_refused lengths symbol a (inr o) = omega (arith, a.room, o.full, sum_by-take-le share lengths (symbol + 1))

-- fewer symbols take no more space
space_grows : (lengths : List ℕ) (m n : ℕ) → m ≤ n → space (take m lengths) ≤ space (take n lengths)
space_grows lengths m n h = subst (λ l. space l ≤ space (take n lengths)) (take-take m n lengths h) (sum_by-take-le share (take n lengths) m)

not_full_before : (lengths : List ℕ) (p q : ℕ) → IsOversubscribedAt lengths p → IsOversubscribedAt lengths q → p < q → ⊥
not_full_before lengths p q o u h = omega (arith, o.full, u.before, space_grows lengths (p + 1) q (omega arith))

refused_once : (lengths : List ℕ) (p q : ℕ) → AreRefusedAt lengths p → AreRefusedAt lengths q → p ≡ q
refused_once lengths p q (inl t) (inl u) =
    same_offset p q (λ h. omega (arith, u.before p h, t.long)) (λ h. omega (arith, t.before q h, u.long))
refused_once lengths p q (inl t) (inr o) = absurd (too_long_not_short lengths p o.short t)
refused_once lengths p q (inr o) (inl t) = absurd (too_long_not_short lengths q o.short t)
refused_once lengths p q (inr o) (inr u) = same_offset p q (not_full_before lengths p q o u) (not_full_before lengths q p u o)

pub huf1_apart : (file : List ℕ) (offset : ℕ) → IsHuf1 file → IsNoHuf1At file offset → ⊥
huf1_apart file offset h (inl d) = begins_not_departs huf1.signature file offset h.begins d
huf1_apart file offset h (inr (inl e)) = omega (arith, h.header, e.short)
huf1_apart file offset h (inr (inr b)) = lengths_not_refused (lengths_of file) b.symbol h.lengths b.refused

pub huf1_once : (file : List ℕ) (p q : ℕ) → IsNoHuf1At file p → IsNoHuf1At file q → p ≡ q
huf1_once file p q (inl d) (inl e) = departs_once huf1.signature file p q d e
huf1_once file p q (inl d) (inr (inl e)) = absurd (begins_not_departs huf1.signature file p e.begins d)
huf1_once file p q (inl d) (inr (inr b)) = absurd (begins_not_departs huf1.signature file p b.begins d)
huf1_once file p q (inr (inl e)) (inl d) = absurd (begins_not_departs huf1.signature file q e.begins d)
huf1_once file p q (inr (inr b)) (inl d) = absurd (begins_not_departs huf1.signature file q b.begins d)
huf1_once file p q (inr (inl e)) (inr (inl f)) = e.offset_is ∙ sym f.offset_is
huf1_once file p q (inr (inl e)) (inr (inr b)) = absurd (omega (arith, e.short, b.header))
huf1_once file p q (inr (inr b)) (inr (inl e)) = absurd (omega (arith, e.short, b.header))
huf1_once file p q (inr (inr a)) (inr (inr b)) =
    omega (arith, a.offset_is, b.offset_is, refused_once (lengths_of file) a.symbol b.symbol a.refused b.refused)

-- ---- LEX1

count_once : (file : List ℕ) (offset n m : ℕ) → HasCount file offset n → HasCount file offset m → n ≡ m
count_once file offset n m h k = some_same (sym h.stands ∙ k.stands)
  where
    some_same : {a b : ℕ} → Some a ≡ Some b → a ≡ b
    some_same e = cc

-- two numbers of states and of classes
abbrev AreSame : (s c t d : ℕ) → Type 0
AreSame s c t d = (s ≡ t) × (c ≡ d)

counts_once : (file : List ℕ) (s c t d : ℕ) → HasCounts file s c → HasCounts file t d → AreSame s c t d
counts_once file s c t d h k =
    (count_once file 4 s t h.states_at k.states_at, count_once file 5 c d h.classes_at k.classes_at)

pub lex1_counts : (file : List ℕ) (s c t d : ℕ) → IsLex1 file s c → IsLex1 file t d → AreSame s c t d
lex1_counts file s c t d h k = counts_once file s c t d h.classed.sized.counts k.classed.sized.counts

-- what may be wrong after the signature, the count of states, both counts, the size and the classes
abbrev BehindClasses : List ℕ → ℕ → Type 0
BehindClasses file offset = HasBadNext file offset

abbrev BehindSize : List ℕ → ℕ → Type 0
BehindSize file offset = HasBadClass file offset ⊎ HasBadNext file offset

abbrev BehindCounts : List ℕ → ℕ → Type 0
BehindCounts file offset = HasOtherSize file offset ⊎ BehindSize file offset

abbrev BehindStates : List ℕ → ℕ → Type 0
BehindStates file offset = HasNoClasses file offset ⊎ BehindCounts file offset

abbrev BehindSignature : List ℕ → ℕ → Type 0
BehindSignature file offset = HasNoStates file offset ⊎ BehindStates file offset

-- what stands there in each of these cases
size_stands : (file : List ℕ) (offset : ℕ) → BehindSize file offset → (s : ℕ) × (c : ℕ) × HasSize file s c
size_stands file offset (inl b) = (b.states, b.classes, b.sized)
size_stands file offset (inr b) = (b.states, b.classes, b.classed.sized)

counts_stand : (file : List ℕ) (offset : ℕ) → BehindCounts file offset → (s : ℕ) × (c : ℕ) × HasCounts file s c
counts_stand file offset (inl o) = (o.states, o.classes, o.counts)
counts_stand file offset (inr b) = let found = size_stands file offset b in (found.0, found.1, found.2.counts)

states_stand : (file : List ℕ) (offset : ℕ) → BehindStates file offset → BeginsWith lex1.signature file × ((s : ℕ) × HasCount file 4 s)
states_stand file offset (inl n) = (n.begins, (n.states, n.states_at))
states_stand file offset (inr b) = let found = counts_stand file offset b in (found.2.begins, (found.0, found.2.states_at))

signature_stands : (file : List ℕ) (offset : ℕ) → BehindSignature file offset → BeginsWith lex1.signature file
signature_stands file offset (inl n) = n.begins
signature_stands file offset (inr b) = (states_stand file offset b).0

-- where classes all stand below, no class is bad; and so on
classes_not_bad : (file : List ℕ) (offset s c : ℕ) → HasClasses file s c → HasBadClass file offset → ⊥
classes_not_bad file offset s c h b =
    let same = counts_once file s c b.states b.classes h.sized.counts b.sized.counts in
    below_not_past class_at 256 b.classes file offset (subst (λ n. AreBelow class_at 256 n file) same.1 h.below) b.first

size_not_other : (file : List ℕ) (offset s c : ℕ) → HasSize file s c → HasOtherSize file offset → ⊥
size_not_other file offset s c h o =
    let same = counts_once file s c o.states o.classes h.counts o.counts in
    o.size (h.size ∙ (λ i. size_of (same.0 i) (same.1 i)))

counts_not_missing : (file : List ℕ) (offset s c : ℕ) → HasCounts file s c → HasNoClasses file offset → ⊥
counts_not_missing file offset s c h n = n.missing c h.classes_at

pub lex1_apart : (file : List ℕ) (offset s c : ℕ) → IsLex1 file s c → IsNoLex1At file offset → ⊥
lex1_apart file offset s c h (inl d) = begins_not_departs lex1.signature file offset h.classed.sized.counts.begins d
lex1_apart file offset s c h (inr (inl n)) = n.missing s h.classed.sized.counts.states_at
lex1_apart file offset s c h (inr (inr (inl n))) = counts_not_missing file offset s c h.classed.sized.counts n
lex1_apart file offset s c h (inr (inr (inr (inl o)))) = size_not_other file offset s c h.classed.sized o
lex1_apart file offset s c h (inr (inr (inr (inr (inl b))))) = classes_not_bad file offset s c h.classed b
lex1_apart file offset s c h (inr (inr (inr (inr (inr b))))) =
    let same = counts_once file s c b.states b.classes h.classed.sized.counts b.classed.sized.counts in
    below_not_past next_at (b.states * b.classes) b.states file offset
    (subst (λ (x : ℕ × ℕ). AreBelow next_at (x.0 * x.1) x.0 file) (λ i. (same.0 i, same.1 i)) h.below) b.first

bad_next_once : (file : List ℕ) (p q : ℕ) → HasBadNext file p → HasBadNext file q → p ≡ q
bad_next_once file p q a b =
    let same = counts_once file a.states a.classes b.states b.classes a.classed.sized.counts b.classed.sized.counts in
    past_once next_at (b.states * b.classes) b.states file p q
    (subst (λ (x : ℕ × ℕ). IsFirstPast next_at (x.0 * x.1) x.0 file p) (λ i. (same.0 i, same.1 i)) a.first) b.first

behind_size_once : (file : List ℕ) (p q : ℕ) → BehindSize file p → BehindSize file q → p ≡ q
behind_size_once file p q (inl a) (inl b) =
    let same = counts_once file a.states a.classes b.states b.classes a.sized.counts b.sized.counts in
    past_once class_at 256 b.classes file p q (subst (λ n. IsFirstPast class_at 256 n file p) same.1 a.first) b.first
behind_size_once file p q (inl a) (inr b) = absurd (classes_not_bad file p b.states b.classes b.classed a)
behind_size_once file p q (inr a) (inl b) = absurd (classes_not_bad file q a.states a.classes a.classed b)
behind_size_once file p q (inr a) (inr b) = bad_next_once file p q a b

behind_counts_once : (file : List ℕ) (p q : ℕ) → BehindCounts file p → BehindCounts file q → p ≡ q
behind_counts_once file p q (inl a) (inl b) =
    let same = counts_once file a.states a.classes b.states b.classes a.counts b.counts in
    a.offset_is ∙ ap (λ (x : ℕ × ℕ). min (length file) (size_of x.0 x.1)) (λ i. (same.0 i, same.1 i)) ∙ sym b.offset_is
behind_counts_once file p q (inl a) (inr t) = let found = size_stands file q t in absurd (size_not_other file p found.0 found.1 found.2 a)
behind_counts_once file p q (inr t) (inl a) = let found = size_stands file p t in absurd (size_not_other file q found.0 found.1 found.2 a)
behind_counts_once file p q (inr t) (inr u) = behind_size_once file p q t u

behind_states_once : (file : List ℕ) (p q : ℕ) → BehindStates file p → BehindStates file q → p ≡ q
behind_states_once file p q (inl a) (inl b) = a.offset_is ∙ sym b.offset_is
behind_states_once file p q (inl a) (inr t) = let found = counts_stand file q t in absurd (counts_not_missing file p found.0 found.1 found.2 a)
behind_states_once file p q (inr t) (inl a) = let found = counts_stand file p t in absurd (counts_not_missing file q found.0 found.1 found.2 a)
behind_states_once file p q (inr t) (inr u) = behind_counts_once file p q t u

behind_signature_once : (file : List ℕ) (p q : ℕ) → BehindSignature file p → BehindSignature file q → p ≡ q
behind_signature_once file p q (inl a) (inl b) = a.offset_is ∙ sym b.offset_is
behind_signature_once file p q (inl a) (inr t) = let found = (states_stand file q t).1 in absurd (a.missing found.0 found.1)
behind_signature_once file p q (inr t) (inl a) = let found = (states_stand file p t).1 in absurd (a.missing found.0 found.1)
behind_signature_once file p q (inr t) (inr u) = behind_states_once file p q t u

pub lex1_once : (file : List ℕ) (p q : ℕ) → IsNoLex1At file p → IsNoLex1At file q → p ≡ q
lex1_once file p q (inl d) (inl e) = departs_once lex1.signature file p q d e
lex1_once file p q (inl d) (inr t) = absurd (begins_not_departs lex1.signature file p (signature_stands file q t) d)
lex1_once file p q (inr t) (inl d) = absurd (begins_not_departs lex1.signature file q (signature_stands file p t) d)
lex1_once file p q (inr t) (inr u) = behind_signature_once file p q t u
