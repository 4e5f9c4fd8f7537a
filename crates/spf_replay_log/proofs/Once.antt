-- Bytes are read in one way.
use Rattle.std.proofs.Common.{◌≡◌, ◌⊎◌, inl, inr, ◌<◌, ◌≤◌, ℕ, suc, ◌+◌, ◌*◌, ◌^◌, List, [], ◌∷◌, ◌++◌, length, take, drop, slice_index, sym, ap, refl, ◌∙◌, subst, append_assoc, arith, length-append, ℤ, rules}
use Rattle.std.proofs.lemmas.List.{append_cancel_left}
use Rattle.std.proofs.lemmas.Nat.{from_be_bytes-to_be_bytes_2, from_be_bytes-to_be_bytes_8}
use Rattle.std.proofs.lemmas.Int.{to_z-of_z}
use Rattle.std.specs.List.{All, flat_map}
use Rattle.std.specs.Prelude.{FitsSigned}
use Rattle.std.specs.Int.{w16, w64, to_be_bytes, from_be_bytes, cast_unsigned, cast_signed}
use Rattle.spf_replay_log.specs.declared.log.Step.{Step}
use Rattle.spf_replay_log.specs.declared.log.Event.{Event}
use Rattle.spf_replay_log.specs.declared.log.Event.TheVariants.{Load, Store, Turn}
use Rattle.spf_replay_log.specs.Log.{signature, kind_of, cell_of, content_of, IsKind, IsEvent, IsStep, AreSteps, IsSection, step_bytes, section_bytes, log_bytes, IsLog}
use Rattle.spf_replay_log.specs.Refusals.{FailsAt, Field, Kind, Block, Cell, Content, begin_of, end_of, IsRight, IsThere, StepBreaksAt, LacksCount, LacksStep, SectionBreaksAt, LacksSection, LogBreaksAt}

-- ---- lists

head-same : (a b : ℕ) (r s : List ℕ) → a ∷ r ≡ b ∷ s → a ≡ b
head-same a b r s e = cc

tail-same : (a b : ℕ) (r s : List ℕ) → a ∷ r ≡ b ∷ s → r ≡ s
tail-same a b r s e = cc

-- two lists that begin with pieces of one length
cut-at : (a b r s : List ℕ) → length a ≡ length b → a ++ r ≡ b ++ s → (a ≡ b) × (r ≡ s)
cut-at [] [] r s size e = (refl, e)
cut-at [] (y ∷ b) r s size e = absurd (omega (arith, size))
cut-at (x ∷ a) [] r s size e = absurd (omega (arith, size))
cut-at (x ∷ a) (y ∷ b) r s size e =
    let later = cut-at a b r s (omega (arith, size)) (tail-same x y (a ++ r) (b ++ s) e) in
    let first = head-same x y (a ++ r) (b ++ s) e in
    ((λ i. first i ∷ later.0 i), later.1)

-- ---- numbers

two-same : (m n : ℕ) → m < 2 ^ 16 → n < 2 ^ 16 → to_be_bytes w16 m ≡ to_be_bytes w16 n → m ≡ n
two-same m n p q e = sym (from_be_bytes-to_be_bytes_2 m p) ∙ ap (from_be_bytes w16) e ∙ from_be_bytes-to_be_bytes_2 n q

eight-same : (m n : ℕ) → m < 2 ^ 64 → n < 2 ^ 64 → to_be_bytes w64 m ≡ to_be_bytes w64 n → m ≡ n
eight-same m n p q e = sym (from_be_bytes-to_be_bytes_8 m p) ∙ ap (from_be_bytes w64) e ∙ from_be_bytes-to_be_bytes_8 n q

word-same : (w x : ℤ) → FitsSigned w64 w → FitsSigned w64 x → cast_unsigned w64 w ≡ cast_unsigned w64 x → w ≡ x
word-same w x p q e = sym (to_z-of_z w64 w p) ∙ ap (cast_signed w64) e ∙ to_z-of_z w64 x q

-- ---- steps

event-same : (a b : Event) → IsEvent a → IsEvent b → kind_of a ≡ kind_of b → cell_of a ≡ cell_of b → content_of a ≡ content_of b → a ≡ b
event-same (Load c w) (Load d x) p q k e f = let word = word-same w x p.1 q.1 f in λ i. Load (e i) (word i)
event-same (Load c w) (Store d x) p q k e f = absurd (omega (arith, k))
event-same (Load c w) (Turn n) p q k e f = absurd (omega (arith, k))
event-same (Store c w) (Load d x) p q k e f = absurd (omega (arith, k))
event-same (Store c w) (Store d x) p q k e f = let word = word-same w x p.1 q.1 f in λ i. Store (e i) (word i)
event-same (Store c w) (Turn n) p q k e f = absurd (omega (arith, k))
event-same (Turn m) (Load d x) p q k e f = absurd (omega (arith, k))
event-same (Turn m) (Store d x) p q k e f = absurd (omega (arith, k))
event-same (Turn m) (Turn n) p q k e f = λ i. Turn (f i)

cell-small : (a : Event) → IsEvent a → cell_of a < 2 ^ 64
cell-small (Load c w) h = h.0
cell-small (Store c w) h = h.0
cell-small (Turn n) h = omega arith

last-same : (a b : Event) → IsEvent a → IsEvent b → to_be_bytes w64 (content_of a) ≡ to_be_bytes w64 (content_of b) → content_of a ≡ content_of b
last-same a b p q e = eight-same (content_of a) (content_of b) (small a p) (small b q) e
  where
    small : (a : Event) → IsEvent a → content_of a < 2 ^ 64
    small (Load c w) h = search rules
    small (Store c w) h = search rules
    small (Turn n) h = h

step-same : (x y : Step) → IsStep x → IsStep y → step_bytes x ≡ step_bytes y → x ≡ y
step-same x y p q e =
    let kind = head-same _ _ _ _ e in
    let fields = cut-at (to_be_bytes w16 x.block) (to_be_bytes w16 y.block) _ _ refl (tail-same _ _ _ _ e) in
    let numbers = cut-at (to_be_bytes w64 (cell_of x.event)) (to_be_bytes w64 (cell_of y.event)) (to_be_bytes w64 (content_of x.event)) (to_be_bytes w64 (content_of y.event)) refl fields.1 in
    let low = p.block in
    let also = q.block in
    let block : x.block ≡ y.block = two-same x.block y.block (omega (arith, low)) (omega (arith, also)) fields.0 in
    let cell : cell_of x.event ≡ cell_of y.event = eight-same (cell_of x.event) (cell_of y.event) (cell-small x.event p.event) (cell-small y.event q.event) numbers.0 in
    let event : x.event ≡ y.event = event-same x.event y.event p.event q.event kind cell (last-same x.event y.event p.event q.event numbers.1) in
    λ i. record { block = block i; event = event i }

pub step-cut : (x y : Step) (r s : List ℕ) → IsStep x → IsStep y → step_bytes x ++ r ≡ step_bytes y ++ s → (x ≡ y) × (r ≡ s)
step-cut x y r s p q e = let c = cut-at (step_bytes x) (step_bytes y) r s refl e in (step-same x y p q c.0, c.1)

first-step : (x : Step) (xs : List Step) → AreSteps (x ∷ xs) → IsStep x
first-step x xs h = h 0 x (omega arith)

later-steps : (x : Step) (xs : List Step) → AreSteps (x ∷ xs) → AreSteps xs
later-steps x xs h k d low = h (suc k) d (omega arith)

steps-cut : (xs ys : List Step) (r s : List ℕ) → AreSteps xs → AreSteps ys → length xs ≡ length ys → flat_map step_bytes xs ++ r ≡ flat_map step_bytes ys ++ s → (xs ≡ ys) × (r ≡ s)
steps-cut [] [] r s p q size e = (refl, e)
steps-cut [] (y ∷ ys) r s p q size e = absurd (omega (arith, size))
steps-cut (x ∷ xs) [] r s p q size e = absurd (omega (arith, size))
steps-cut (x ∷ xs) (y ∷ ys) r s p q size e =
    let c = step-cut x y (flat_map step_bytes xs ++ r) (flat_map step_bytes ys ++ s) (first-step x xs p) (first-step y ys q)
    (sym (append_assoc (step_bytes x) (flat_map step_bytes xs) r) ∙ e ∙ append_assoc (step_bytes y) (flat_map step_bytes ys) s) in
    let later = steps-cut xs ys r s (later-steps x xs p) (later-steps y ys q) (omega (arith, size)) c.1 in
    ((λ i. c.0 i ∷ later.0 i), later.1)

-- ---- sections

section-cut : (xs ys : List Step) (r s : List ℕ) → IsSection xs → IsSection ys → section_bytes xs ++ r ≡ section_bytes ys ++ s → (xs ≡ ys) × (r ≡ s)
section-cut xs ys r s p q e =
    let c = cut-at (to_be_bytes w64 (length xs)) (to_be_bytes w64 (length ys)) (flat_map step_bytes xs ++ r) (flat_map step_bytes ys ++ s) refl
    (sym (append_assoc (to_be_bytes w64 (length xs)) (flat_map step_bytes xs) r) ∙ e ∙ append_assoc (to_be_bytes w64 (length ys)) (flat_map step_bytes ys) s) in
    steps-cut xs ys r s p.each q.each (eight-same (length xs) (length ys) p.few q.few c.0) c.1

first-section : (x : List Step) (xs : List (List Step)) → All IsSection (x ∷ xs) → IsSection x
first-section x xs h = h 0 x (omega arith)

later-sections : (x : List Step) (xs : List (List Step)) → All IsSection (x ∷ xs) → All IsSection xs
later-sections x xs h k d low = h (suc k) d (omega arith)

sections-same : (xs ys : List (List Step)) → All IsSection xs → All IsSection ys → flat_map section_bytes xs ≡ flat_map section_bytes ys → xs ≡ ys
sections-same [] [] p q e = refl
sections-same [] (y ∷ ys) p q e = cc
sections-same (x ∷ xs) [] p q e = cc
sections-same (x ∷ xs) (y ∷ ys) p q e =
    let c = section-cut x y (flat_map section_bytes xs) (flat_map section_bytes ys) (first-section x xs p) (first-section y ys q) e in
    let later = sections-same xs ys (later-sections x xs p) (later-sections y ys q) c.1 in
    λ i. c.0 i ∷ later i

pub one-log : (bytes : List ℕ) (one other : List (List Step)) → IsLog one bytes → IsLog other bytes → one ≡ other
one-log bytes one other p q =
    sections-same one other p.sections q.sections (append_cancel_left signature (flat_map section_bytes one) (flat_map section_bytes other) (sym p.bytes_are ∙ q.bytes_are))

-- ---- what breaks is none

is-kind : (a : Event) → IsKind (kind_of a)
is-kind (Load c w) = (omega arith, omega arith)
is-kind (Store c w) = (omega arith, omega arith)
is-kind (Turn n) = (omega arith, omega arith)

turn-cell : (a : Event) → kind_of a ≡ 3 → cell_of a ≡ 0
turn-cell (Load c w) k = absurd (omega (arith, k))
turn-cell (Store c w) k = absurd (omega (arith, k))
turn-cell (Turn n) k = refl

-- each field of a step is there
there : (x : Step) (bytes r : List ℕ) → IsStep x → bytes ≡ step_bytes x ++ r → (field : Field) → IsThere bytes field
there x bytes r p e Kind = let whole = ap length e in (omega (arith, whole), subst IsKind (sym (ap (λ l. slice_index l 0) e)) (is-kind x.event))
there x bytes r p e Block =
    let whole = ap length e in
    let low = p.block in
    let same : from_be_bytes w16 (take 2 (drop 1 bytes)) ≡ x.block =
    ap (λ l. from_be_bytes w16 (take 2 (drop 1 l))) e ∙ from_be_bytes-to_be_bytes_2 x.block (omega (arith, low)) in
    (omega (arith, whole), omega (arith, low, same))
there x bytes r p e Cell =
    let whole = ap length e in (
      omega (arith, whole),
      λ turn. ap (λ l. from_be_bytes w64 (take 8 (drop 3 l))) e ∙ from_be_bytes-to_be_bytes_8 (cell_of x.event) (cell-small x.event p.event)
          ∙ turn-cell x.event (sym (ap (λ l. slice_index l 0) e) ∙ turn),
    )
there x bytes r p e Content = let whole = ap length e in (omega (arith, whole), tt)

-- a field that is there doesn't fail
there-fails : (begin end offset : ℕ) (right : Type 0) (bytes : List ℕ) → (end ≤ length bytes) × right → FailsAt begin end right bytes offset → ⊥
there-fails begin end offset right bytes h (inl x) = x.1 h.1
there-fails begin end offset right bytes h (inr x) = let a = h.0 in let b = x.0 in omega (arith, a, b)

step-breaks : (x : Step) (bytes r : List ℕ) (offset : ℕ) → IsStep x → bytes ≡ step_bytes x ++ r → StepBreaksAt bytes offset → ⊥
step-breaks x bytes r offset p e b = there-fails _ _ offset _ bytes (there x bytes r p e b.field) b.fails

-- more steps than these go on with one
steps-longer : (xs ys : List Step) (r s : List ℕ) (offset : ℕ) → AreSteps xs → AreSteps ys → length ys < length xs → flat_map step_bytes xs ++ r ≡ flat_map step_bytes ys ++ s → StepBreaksAt s offset → ⊥
steps-longer [] ys r s offset p q more e b = omega (arith, more)
steps-longer (x ∷ xs) [] r s offset p q more e b =
    step-breaks x s (flat_map step_bytes xs ++ r) offset (first-step x xs p) (sym e ∙ append_assoc (step_bytes x) (flat_map step_bytes xs) r) b
steps-longer (x ∷ xs) (y ∷ ys) r s offset p q more e b =
    let c = step-cut x y (flat_map step_bytes xs ++ r) (flat_map step_bytes ys ++ s) (first-step x xs p) (first-step y ys q)
    (sym (append_assoc (step_bytes x) (flat_map step_bytes xs) r) ∙ e ∙ append_assoc (step_bytes y) (flat_map step_bytes ys) s) in
    steps-longer xs ys r s offset (later-steps x xs p) (later-steps y ys q) (omega (arith, more)) c.1 b

section-breaks : (xs : List Step) (bytes r : List ℕ) (offset : ℕ) → IsSection xs → bytes ≡ section_bytes xs ++ r → SectionBreaksAt bytes offset → ⊥
section-breaks xs bytes r offset p e (inl b) =
    let whole : length bytes ≡ length (section_bytes xs ++ r) = ap length e in
    let short = b.short in
    omega (arith, whole, short)
section-breaks xs bytes r offset p e (inr b) =
    let c = cut-at (to_be_bytes w64 (length xs)) (to_be_bytes w64 b.count) (flat_map step_bytes xs ++ r) (flat_map step_bytes b.steps ++ b.rest) refl
    (sym (append_assoc (to_be_bytes w64 (length xs)) (flat_map step_bytes xs) r) ∙ sym e ∙ b.bytes_are) in
    let size : length xs ≡ b.count = eight-same (length xs) b.count p.few b.small c.0 in
    let fewer = b.fewer in
    steps-longer xs b.steps r b.rest b.rest_offset p.each b.are_steps (omega (arith, size, fewer)) c.1 b.breaks

sections-break : (log done : List (List Step)) (rest : List ℕ) (offset : ℕ) → All IsSection log → All IsSection done → flat_map section_bytes log ≡ flat_map section_bytes done ++ rest → 1 ≤ length rest → SectionBreaksAt rest offset → ⊥
sections-break [] [] rest offset p q e some b = let none : 0 ≡ length rest = ap length e in omega (arith, none, some)
sections-break (x ∷ log) [] rest offset p q e some b = section-breaks x rest (flat_map section_bytes log) offset (first-section x log p) (sym e) b
sections-break [] (y ∷ done) rest offset p q e some b = cc
sections-break (x ∷ log) (y ∷ done) rest offset p q e some b =
    let c = section-cut x y (flat_map section_bytes log) (flat_map section_bytes done ++ rest) (first-section x log p) (first-section y done q)
    (e ∙ append_assoc (section_bytes y) (flat_map section_bytes done) rest) in
    sections-break log done rest offset (later-sections x log p) (later-sections y done q) c.1 some b

pub none-breaks : (bytes : List ℕ) (log : List (List Step)) (offset : ℕ) → IsLog log bytes → LogBreaksAt bytes offset → ⊥
none-breaks bytes log offset p (inl b) =
    let whole : length bytes ≡ length (log_bytes log) = ap length p.bytes_are in
    there-fails 0 (length signature) offset _ bytes (omega (arith, whole), ap (take (length signature)) p.bytes_are) b
none-breaks bytes log offset p (inr b) =
    sections-break log b.log b.rest b.rest_offset p.sections b.are_sections
    (append_cancel_left signature (flat_map section_bytes log) (flat_map section_bytes b.log ++ b.rest) (sym p.bytes_are ∙ b.bytes_are ∙ append_assoc signature (flat_map section_bytes b.log) b.rest)) b.goes_on b.breaks

-- ---- bytes break at one offset

cases : {A B C : Type 0} → A ⊎ B → (A → C) → (B → C) → C
cases (inl a) f g = f a
cases (inr b) f g = g b

fails-once : (begin end p q : ℕ) (right : Type 0) (bytes : List ℕ) → FailsAt begin end right bytes p → FailsAt begin end right bytes q → p ≡ q
fails-once begin end p q right bytes (inl x) (inl y) = x.2 ∙ sym y.2
fails-once begin end p q right bytes (inl x) (inr y) = let a = x.0 in let b = y.0 in absurd (omega (arith, a, b))
fails-once begin end p q right bytes (inr x) (inl y) = let a = x.0 in let b = y.0 in absurd (omega (arith, a, b))
fails-once begin end p q right bytes (inr x) (inr y) = x.1 ∙ sym y.1

-- a field is before another one, after it, or the same
before-or-behind : (f g : Field) → (begin_of f < begin_of g) ⊎ ((begin_of g < begin_of f) ⊎ (f ≡ g))
before-or-behind Kind Kind = inr (inr refl)
before-or-behind Kind Block = inl (omega arith)
before-or-behind Kind Cell = inl (omega arith)
before-or-behind Kind Content = inl (omega arith)
before-or-behind Block Kind = inr (inl (omega arith))
before-or-behind Block Block = inr (inr refl)
before-or-behind Block Cell = inl (omega arith)
before-or-behind Block Content = inl (omega arith)
before-or-behind Cell Kind = inr (inl (omega arith))
before-or-behind Cell Block = inr (inl (omega arith))
before-or-behind Cell Cell = inr (inr refl)
before-or-behind Cell Content = inl (omega arith)
before-or-behind Content Kind = inr (inl (omega arith))
before-or-behind Content Block = inr (inl (omega arith))
before-or-behind Content Cell = inr (inl (omega arith))
before-or-behind Content Content = inr (inr refl)

break-once : (bytes : List ℕ) (p q : ℕ) → StepBreaksAt bytes p → StepBreaksAt bytes q → p ≡ q
break-once bytes p q b c = cases (before-or-behind b.field c.field)
    (λ before. absurd (there-fails _ _ p _ bytes (c.earlier b.field before) b.fails))
    (λ rest. cases rest (λ behind. absurd (there-fails _ _ q _ bytes (b.earlier c.field behind) c.fails))
    (λ same. fails-once _ _ p q _ bytes (subst (λ f. FailsAt (begin_of f) (end_of f) (IsRight f bytes) bytes p) same b.fails) c.fails))

-- one list of steps is as long as the other
as-long : (xs ys : List Step) (r s : List ℕ) (p q : ℕ) → AreSteps xs → AreSteps ys → flat_map step_bytes xs ++ r ≡ flat_map step_bytes ys ++ s
    → StepBreaksAt r p → StepBreaksAt s q → length xs ≡ length ys
as-long xs ys r s p q are also e b c = cases (less-or-more (length xs) (length ys))
    (λ less. absurd (steps-longer ys xs s r p also are less (sym e) b))
    (λ rest. cases rest (λ more. absurd (steps-longer xs ys r s q are also more e c)) (λ same. same))
  where
    less-or-more : (a b : ℕ) → (a < b) ⊎ ((b < a) ⊎ (a ≡ b))
    less-or-more a b = grind arith

-- the number of steps is whole where steps follow it
count-whole : (bytes : List ℕ) (p q : ℕ) → LacksCount bytes p → LacksStep bytes q → ⊥
count-whole bytes p q b c =
    let whole : length bytes ≡ length (to_be_bytes w64 c.count ++ (flat_map step_bytes c.steps ++ c.rest)) = ap length c.bytes_are in
    let short = b.short in
    omega (arith, whole, short)

section-once : (bytes : List ℕ) (p q : ℕ) → SectionBreaksAt bytes p → SectionBreaksAt bytes q → p ≡ q
section-once bytes p q (inl b) (inl c) = b.offset_is ∙ sym c.offset_is
section-once bytes p q (inl b) (inr c) = absurd (count-whole bytes p q b c)
section-once bytes p q (inr b) (inl c) = absurd (count-whole bytes q p c b)
section-once bytes p q (inr b) (inr c) =
    let cut = cut-at (to_be_bytes w64 b.count) (to_be_bytes w64 c.count) (flat_map step_bytes b.steps ++ b.rest) (flat_map step_bytes c.steps ++ c.rest) refl (sym b.bytes_are ∙ c.bytes_are) in
    let long = as-long b.steps c.steps b.rest c.rest b.rest_offset c.rest_offset b.are_steps c.are_steps cut.1 b.breaks c.breaks in
    let same = steps-cut b.steps c.steps b.rest c.rest b.are_steps c.are_steps long cut.1 in
    let offsets : b.rest_offset ≡ c.rest_offset = break-once c.rest b.rest_offset c.rest_offset (subst (λ l. StepBreaksAt l b.rest_offset) same.1 b.breaks) c.breaks in
    b.offset_is ∙ (λ i. 8 + 19 * long i + offsets i) ∙ sym c.offset_is

-- where what follows whole sections breaks
sections-once : (xs ys : List (List Step)) (r s : List ℕ) (p q : ℕ) → All IsSection xs → All IsSection ys → flat_map section_bytes xs ++ r ≡ flat_map section_bytes ys ++ s
    → SectionBreaksAt r p → SectionBreaksAt s q → length (flat_map section_bytes xs) + p ≡ length (flat_map section_bytes ys) + q
sections-once [] [] r s p q are also e b c = from-zero p q (section-once s p q (subst (λ l. SectionBreaksAt l p) e b) c)
  where
    from-zero : (p q : ℕ) → p ≡ q → 0 + p ≡ 0 + q
    from-zero p q h = ap (λ x. 0 + x) h
sections-once (x ∷ xs) [] r s p q are also e b c =
    absurd (section-breaks x s (flat_map section_bytes xs ++ r) q (first-section x xs are) (sym e ∙ append_assoc (section_bytes x) (flat_map section_bytes xs) r) c)
sections-once [] (y ∷ ys) r s p q are also e b c =
    absurd (section-breaks y r (flat_map section_bytes ys ++ s) p (first-section y ys also) (e ∙ append_assoc (section_bytes y) (flat_map section_bytes ys) s) b)
sections-once (x ∷ xs) (y ∷ ys) r s p q are also e b c =
    let cut = section-cut x y (flat_map section_bytes xs ++ r) (flat_map section_bytes ys ++ s) (first-section x xs are) (first-section y ys also)
    (sym (append_assoc (section_bytes x) (flat_map section_bytes xs) r) ∙ e ∙ append_assoc (section_bytes y) (flat_map section_bytes ys) s) in
    let later = sections-once xs ys r s p q (later-sections x xs are) (later-sections y ys also) cut.1 b c in
    longer (length (section_bytes x)) (length (section_bytes y)) _ _ _ _ p q (ap (λ z. length (section_bytes z)) cut.0)
    (length-append (section_bytes x) (flat_map section_bytes xs)) (length-append (section_bytes y) (flat_map section_bytes ys)) later
  where
    longer : (a b u v m n p q : ℕ) → a ≡ b → m ≡ a + u → n ≡ b + v → u + p ≡ v + q → m + p ≡ n + q
    longer a b u v m n p q e f g h = omega (arith, e, f, g, h)

-- the signature is whole and right where sections follow it
signed : (bytes : List ℕ) (p q : ℕ) → LacksSection bytes q → FailsAt 0 (length signature) (take (length signature) bytes ≡ signature) bytes p → ⊥
signed bytes p q c b =
    let whole : length bytes ≡ length (log_bytes c.log ++ c.rest) = ap length c.bytes_are in
    there-fails 0 (length signature) p _ bytes (omega (arith, whole), ap (take (length signature)) c.bytes_are) b

pub log-once : (bytes : List ℕ) (p q : ℕ) → LogBreaksAt bytes p → LogBreaksAt bytes q → p ≡ q
log-once bytes p q (inl b) (inl c) = fails-once 0 (length signature) p q _ bytes b c
log-once bytes p q (inl b) (inr c) = absurd (signed bytes p q c b)
log-once bytes p q (inr b) (inl c) = absurd (signed bytes q p b c)
log-once bytes p q (inr b) (inr c) =
    let e = append_cancel_left signature (flat_map section_bytes b.log ++ b.rest) (flat_map section_bytes c.log ++ c.rest)
    (sym (append_assoc signature (flat_map section_bytes b.log) b.rest) ∙ sym b.bytes_are ∙ c.bytes_are ∙ append_assoc signature (flat_map section_bytes c.log) c.rest) in
    let same = sections-once b.log c.log b.rest c.rest b.rest_offset c.rest_offset b.are_sections c.are_sections e b.breaks c.breaks in
    b.offset_is ∙ shifted (length signature) (length (flat_map section_bytes b.log)) (length (flat_map section_bytes c.log)) _ _ b.rest_offset c.rest_offset
    (length-append signature (flat_map section_bytes b.log)) (length-append signature (flat_map section_bytes c.log)) same ∙ sym c.offset_is
  where
    shifted : (c u v m n p q : ℕ) → m ≡ c + u → n ≡ c + v → u + p ≡ v + q → m + p ≡ n + q
    shifted c u v m n p q f g h = omega (arith, f, g, h)
