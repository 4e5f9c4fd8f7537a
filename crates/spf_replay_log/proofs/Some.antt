-- Bytes are a log, or they break somewhere.
use Rattle.std.proofs.Common.{◌≡◌, ◌⊎◌, inl, inr, sym, ap, refl, ◌∙◌, subst, arith}
use Rattle.std.proofs.Common.{ℕ, zero, suc, ◌<◌, ◌≤◌, ◌+◌, ◌*◌, ◌^◌, List, [], ◌∷◌, ◌++◌}
use Rattle.std.proofs.Common.{length, take, drop, get_or, slice_index, append_assoc, length-append}
use mathlib.Core.List.{List-discrete}
use mathlib.Core.Logic.Dec.{and}
use native.Mathlib.Decide.{ℕ_discrete, dec_le, dec_lt}
use Rattle.std.proofs.lemmas.List.{take-append-drop, length-take-le, length-drop}
use Rattle.std.proofs.lemmas.List.Elements.{All-nil, All-cons, All-tail, All-take, All-drop}
use Rattle.std.proofs.lemmas.Nat.{be_bytes_2, be_bytes_8}
use Rattle.std.specs.List.{All, flat_map}
use Rattle.std.specs.Int.{w16, w64, to_be_bytes, from_be_bytes}
use Rattle.spf_replay_log.specs.declared.log.Step.{Step}
use Rattle.spf_replay_log.specs.Log.{signature, max_blocks, IsStep, AreSteps, IsSection, IsLog}
use Rattle.spf_replay_log.specs.Log.{step_bytes, section_bytes, log_bytes}
use Rattle.spf_replay_log.specs.Refusals.{Field, Kind, Block, Cell, Content, begin_of, end_of, IsRight, IsThere}
use Rattle.spf_replay_log.specs.Refusals.{step_size, count_size, StepBreaksAt, SectionBreaksAt, LogBreaksAt}
use Rattle.spf_replay_log.proofs.Reading.{before_kind, before_block, before_cell, before_content, ends_in, wrong_in}
use Rattle.spf_replay_log.proofs.Reading.{step_found}

-- ---- alternatives

-- what follows the first, where it is there
and-then : {A B C : Type 0} → A ⊎ B → (A → C ⊎ B) → C ⊎ B
and-then (inl a) f = f a
and-then (inr b) f = inr b

-- whether one thing implies another
if-then : {A B : Type 0} → Dec A → Dec B → Dec (A → B)
if-then (yes a) (yes b) = yes (λ h. b)
if-then (yes a) (no wrong) = no (λ f. wrong (f a))
if-then (no wrong) b = yes (λ a. absurd (wrong a))

-- the bytes go on to an end, or they are fewer
whole-or-short : (end size : ℕ) → (end ≤ size) ⊎ (size < end)
whole-or-short end size = grind arith

-- ---- bytes

abbrev IsByte : ℕ → Type 0
IsByte byte = byte < 256

abbrev AreBytes : List ℕ → Type 0
AreBytes bytes = All IsByte bytes

-- at each offset, and 0 past the end
small-at : (bytes : List ℕ) → AreBytes bytes → (i : ℕ) → get_or bytes i 0 < 256
small-at [] are i = omega arith
small-at (x ∷ bytes) are zero = are 0 x (omega arith)
small-at (x ∷ bytes) are (suc i) = small-at bytes (All-tail IsByte x bytes are) i

-- a piece of bytes
piece-are : (size at : ℕ) (bytes : List ℕ) → AreBytes bytes → AreBytes (take size (drop at bytes))
piece-are size at bytes are = All-take IsByte size (drop at bytes) (All-drop IsByte at bytes are)

piece-size : (size at : ℕ) (bytes : List ℕ) → at + size ≤ length bytes → length (take size (drop at bytes)) ≡ size
piece-size size at bytes whole = length-take-le size (drop at bytes) (omega (arith, whole, length-drop at bytes))

-- the number in two or eight bytes has these bytes
two-back : (at : ℕ) (bytes : List ℕ) → AreBytes bytes → at + 2 ≤ length bytes
    → to_be_bytes w16 (from_be_bytes w16 (take 2 (drop at bytes))) ≡ take 2 (drop at bytes)
two-back at bytes are whole =
    let small = small-at (take 2 (drop at bytes)) (piece-are 2 at bytes are) in
    be_bytes_2 (take 2 (drop at bytes)) _ (piece-size 2 at bytes whole) small refl

eight-back : (at : ℕ) (bytes : List ℕ) → AreBytes bytes → at + 8 ≤ length bytes
    → to_be_bytes w64 (from_be_bytes w64 (take 8 (drop at bytes))) ≡ take 8 (drop at bytes)
eight-back at bytes are whole =
    let small = small-at (take 8 (drop at bytes)) (piece-are 8 at bytes are) in
    be_bytes_8 (take 8 (drop at bytes)) _ (piece-size 8 at bytes whole) small refl

-- and eight bytes give no larger one
eight-low : (bytes : List ℕ) → AreBytes bytes → from_be_bytes w64 bytes < 2 ^ 64
eight-low bytes are = low bytes (small-at bytes are)
  where
    low : (bytes : List ℕ) → ((i : ℕ) → get_or bytes i 0 < 256) → from_be_bytes w64 bytes < 2 ^ 64
    low bytes small = omega (arith, small 0, small 1, small 2, small 3, small 4, small 5, small 6, small 7)

-- ---- steps

-- whether a field is right
is-right : (field : Field) (bytes : List ℕ) → Dec (IsRight field bytes)
is-right Kind bytes = and (dec_le 1 (slice_index bytes 0)) (dec_le (slice_index bytes 0) 3)
is-right Block bytes = dec_lt (from_be_bytes w16 (take 2 (drop 1 bytes))) max_blocks
is-right Cell bytes =
    if-then (ℕ_discrete (slice_index bytes 0) 3) (ℕ_discrete (from_be_bytes w64 (take 8 (drop 3 bytes))) 0)
is-right Content bytes = yes tt

abbrev BreaksInStep : List ℕ → Type 0
BreaksInStep bytes = (offset : ℕ) × StepBreaksAt bytes offset

-- where those before it are there, a field is there, or the bytes break at it
field-or-break : (field : Field) (bytes : List ℕ)
    → ((other : Field) → begin_of other < begin_of field → IsThere bytes other)
    → IsThere bytes field ⊎ BreaksInStep bytes
field-or-break field bytes before = decided (whole-or-short (end_of field) (length bytes)) (is-right field bytes)
  where
    decided : (end_of field ≤ length bytes) ⊎ (length bytes < end_of field) → Dec (IsRight field bytes)
        → IsThere bytes field ⊎ BreaksInStep bytes
    decided (inl whole) (yes right) = inl (whole, right)
    decided (inl whole) (no wrong) = inr (begin_of field, wrong_in field bytes before whole wrong)
    decided (inr short) right = inr (length bytes, ends_in field bytes before short)

-- a step, and what follows it
record HasStep (bytes : List ℕ) : Type 0 where
  step : Step
  rest : List ℕ
  is_step : IsStep step
  rest_are : AreBytes rest
  bytes_are : bytes ≡ step_bytes step ++ rest

-- four fields are a step
fields-are-step : (bytes : List ℕ) → AreBytes bytes
    → IsThere bytes Kind → IsThere bytes Block → IsThere bytes Cell → IsThere bytes Content → HasStep bytes
fields-are-step bytes are kind block cell content =
    let found = step_found bytes (from_be_bytes w16 (take 2 (drop 1 bytes)))
    (from_be_bytes w64 (take 8 (drop 3 bytes))) (from_be_bytes w64 (take 8 (drop 11 bytes))) _
    content.0 kind.1 cell.1 block.1 (eight-low _ (piece-are 8 3 bytes are)) (eight-low _ (piece-are 8 11 bytes are))
    (two-back 1 bytes are block.0) (eight-back 3 bytes are cell.0) (eight-back 11 bytes are content.0) refl in
    record {
      step = _;
      rest = drop step_size bytes;
      is_step = found.0;
      rest_are = All-drop IsByte step_size bytes are;
      bytes_are = sym (take-append-drop step_size bytes) ∙ ap (λ l. l ++ drop step_size bytes) (sym found.2);
    }

-- a step stands there, or the bytes break
step-or-break : (bytes : List ℕ) → AreBytes bytes → HasStep bytes ⊎ BreaksInStep bytes
step-or-break bytes are =
    and-then (field-or-break Kind bytes (before_kind bytes)) (λ kind.
    and-then (field-or-break Block bytes (before_block bytes kind)) (λ block.
    and-then (field-or-break Cell bytes (before_cell bytes kind block)) (λ cell.
    and-then (field-or-break Content bytes (before_content bytes kind block cell)) (λ content.
    inl (fields-are-step bytes are kind block cell content)))))

-- as many steps as are counted, and what follows them
record HasSteps (count : ℕ) (bytes : List ℕ) : Type 0 where
  steps : List Step
  rest : List ℕ
  are_steps : AreSteps steps
  size : length steps ≡ count
  rest_are : AreBytes rest
  bytes_are : bytes ≡ flat_map step_bytes steps ++ rest

-- fewer steps, and where what follows them breaks
record BreaksInSteps (count : ℕ) (bytes : List ℕ) : Type 0 where
  steps : List Step
  rest : List ℕ
  offset : ℕ
  are_steps : AreSteps steps
  fewer : length steps < count
  bytes_are : bytes ≡ flat_map step_bytes steps ++ rest
  breaks : StepBreaksAt rest offset

-- a step before others
step-before : (count : ℕ) (bytes : List ℕ) (first : HasStep bytes)
    → HasSteps count first.rest ⊎ BreaksInSteps count first.rest
    → HasSteps (suc count) bytes ⊎ BreaksInSteps (suc count) bytes
step-before count bytes first (inl h) =
    let size = h.size in
    inl (record {
      steps = first.step ∷ h.steps;
      rest = h.rest;
      are_steps = All-cons IsStep first.step h.steps first.is_step h.are_steps;
      size = omega (arith, size);
      rest_are = h.rest_are;
      bytes_are =
          first.bytes_are ∙ ap (λ l. step_bytes first.step ++ l) h.bytes_are
          ∙ sym (append_assoc (step_bytes first.step) (flat_map step_bytes h.steps) h.rest);
    })
step-before count bytes first (inr h) =
    let fewer = h.fewer in
    inr (record {
      steps = first.step ∷ h.steps;
      rest = h.rest;
      offset = h.offset;
      are_steps = All-cons IsStep first.step h.steps first.is_step h.are_steps;
      fewer = omega (arith, fewer);
      bytes_are =
          first.bytes_are ∙ ap (λ l. step_bytes first.step ++ l) h.bytes_are
          ∙ sym (append_assoc (step_bytes first.step) (flat_map step_bytes h.steps) h.rest);
      breaks = h.breaks;
    })

-- no steps
no-steps : (bytes : List ℕ) → AreBytes bytes → HasSteps 0 bytes
no-steps bytes are = record {
  steps = [];
  rest = bytes;
  are_steps = All-nil IsStep;
  size = refl;
  rest_are = are;
  bytes_are = refl;
}

-- the first step isn't there
first-lacks-step : (count : ℕ) (bytes : List ℕ) → BreaksInStep bytes → BreaksInSteps (suc count) bytes
first-lacks-step count bytes b = record {
  steps = [];
  rest = bytes;
  offset = b.0;
  are_steps = All-nil IsStep;
  fewer = omega arith;
  bytes_are = refl;
  breaks = b.1;
}

-- the steps stand there, or the bytes break
steps-or-break : (count : ℕ) (bytes : List ℕ) → AreBytes bytes → HasSteps count bytes ⊎ BreaksInSteps count bytes
steps-or-break zero bytes are = inl (no-steps bytes are)
steps-or-break (suc count) bytes are = elim (step-or-break bytes are) [
  | inl first ↦ step-before count bytes first (steps-or-break count first.rest first.rest_are)
  | inr b ↦ inr (first-lacks-step count bytes b)
]

-- ---- sections

-- a section, and what follows it
record HasSection (bytes : List ℕ) : Type 0 where
  section : List Step
  rest : List ℕ
  is_section : IsSection section
  rest_are : AreBytes rest
  bytes_are : bytes ≡ section_bytes section ++ rest

abbrev BreaksInSection : List ℕ → Type 0
BreaksInSection bytes = (offset : ℕ) × SectionBreaksAt bytes offset

-- the steps after their number
counted-or-break : (bytes behind : List ℕ) (count : ℕ) → count < 2 ^ 64 → bytes ≡ to_be_bytes w64 count ++ behind
    → HasSteps count behind ⊎ BreaksInSteps count behind → HasSection bytes ⊎ BreaksInSection bytes
counted-or-break bytes behind count small front (inl h) =
    inl (record {
      section = h.steps;
      rest = h.rest;
      is_section = record { each = h.are_steps; few = subst (λ n. n < 2 ^ 64) (sym h.size) small };
      rest_are = h.rest_are;
      bytes_are =
          front ∙ (λ i. to_be_bytes w64 (sym h.size i) ++ h.bytes_are i)
          ∙ sym (append_assoc (to_be_bytes w64 (length h.steps)) (flat_map step_bytes h.steps) h.rest);
    })
counted-or-break bytes behind count small front (inr h) = inr (
  count_size + step_size * length h.steps + h.offset,
  inr (record {
    count = count;
    steps = h.steps;
    rest = h.rest;
    rest_offset = h.offset;
    small = small;
    are_steps = h.are_steps;
    fewer = h.fewer;
    bytes_are = front ∙ ap (λ l. to_be_bytes w64 count ++ l) h.bytes_are;
    breaks = h.breaks;
    offset_is = refl;
  }),
)

-- a section stands there, or the bytes break
section-or-break : (bytes : List ℕ) → AreBytes bytes → HasSection bytes ⊎ BreaksInSection bytes
section-or-break bytes are = elim (whole-or-short count_size (length bytes)) [
  | inl whole ↦
      let number = ap (λ l. l ++ drop count_size bytes) (sym (eight-back 0 bytes are whole)) in
      counted-or-break bytes (drop count_size bytes) (from_be_bytes w64 (take count_size bytes))
      (eight-low (take count_size bytes) (piece-are count_size 0 bytes are))
      (sym (take-append-drop count_size bytes) ∙ number)
      (steps-or-break _ (drop count_size bytes) (All-drop IsByte count_size bytes are))
  | inr short ↦ inr (length bytes, inl (record { short = short; offset_is = refl }))
]

-- ---- logs

-- sections up to the end
record HasSections (bytes : List ℕ) : Type 0 where
  log : List (List Step)
  are_sections : All IsSection log
  bytes_are : bytes ≡ flat_map section_bytes log

-- sections, and where what follows them breaks
record BreaksInSections (bytes : List ℕ) : Type 0 where
  log : List (List Step)
  rest : List ℕ
  offset : ℕ
  are_sections : All IsSection log
  goes_on : 1 ≤ length rest
  bytes_are : bytes ≡ flat_map section_bytes log ++ rest
  breaks : SectionBreaksAt rest offset

-- a section before others
section-before : (bytes : List ℕ) (first : HasSection bytes)
    → HasSections first.rest ⊎ BreaksInSections first.rest → HasSections bytes ⊎ BreaksInSections bytes
section-before bytes first (inl h) =
    inl (record {
      log = first.section ∷ h.log;
      are_sections = All-cons IsSection first.section h.log first.is_section h.are_sections;
      bytes_are = first.bytes_are ∙ ap (λ l. section_bytes first.section ++ l) h.bytes_are;
    })
section-before bytes first (inr h) =
    inr (record {
      log = first.section ∷ h.log;
      rest = h.rest;
      offset = h.offset;
      are_sections = All-cons IsSection first.section h.log first.is_section h.are_sections;
      goes_on = h.goes_on;
      bytes_are =
          first.bytes_are ∙ ap (λ l. section_bytes first.section ++ l) h.bytes_are
          ∙ sym (append_assoc (section_bytes first.section) (flat_map section_bytes h.log) h.rest);
      breaks = h.breaks;
    })

-- fewer bytes follow a section
fewer-follow : (bytes : List ℕ) (first : HasSection bytes) → length first.rest < length bytes
fewer-follow bytes first =
    let whole : length bytes ≡ length (section_bytes first.section ++ first.rest) = ap length first.bytes_are in
    omega (arith, whole, length-append (section_bytes first.section) first.rest)

-- the first section isn't there
first-lacks-section : (bytes : List ℕ) → 1 ≤ length bytes → BreaksInSection bytes → BreaksInSections bytes
first-lacks-section bytes some b = record {
  log = [];
  rest = bytes;
  offset = b.0;
  are_sections = All-nil IsSection;
  goes_on = some;
  bytes_are = refl;
  breaks = b.1;
}

-- sections stand there up to the end, or the bytes break; limit is the recursion's measure
sections-or-break : (limit : ℕ) (bytes : List ℕ) → length bytes ≤ limit → AreBytes bytes
    → HasSections bytes ⊎ BreaksInSections bytes
sections-or-break limit [] few are = inl (record { log = []; are_sections = All-nil IsSection; bytes_are = refl })
sections-or-break zero (x ∷ bytes) few are = absurd (omega (arith, few))
sections-or-break (suc limit) (x ∷ bytes) few are = elim (section-or-break (x ∷ bytes) are) [
  | inl first ↦
      let fewer = fewer-follow (x ∷ bytes) first in
      section-before (x ∷ bytes) first (sections-or-break limit first.rest (omega (arith, few, fewer)) first.rest_are)
  | inr b ↦ inr (first-lacks-section (x ∷ bytes) (omega arith) b)
]

abbrev LogOrBreak : List ℕ → Type 0
LogOrBreak bytes = ((log : List (List Step)) × IsLog log bytes) ⊎ ((offset : ℕ) × LogBreaksAt bytes offset)

-- what follows the signature
signed-or-break : (bytes behind : List ℕ) → bytes ≡ signature ++ behind
    → HasSections behind ⊎ BreaksInSections behind → LogOrBreak bytes
signed-or-break bytes behind front (inl h) =
    inl (h.log, record { sections = h.are_sections; bytes_are = front ∙ ap (λ l. signature ++ l) h.bytes_are })
signed-or-break bytes behind front (inr h) = inr (
  length (log_bytes h.log) + h.offset,
  inr (record {
    log = h.log;
    rest = h.rest;
    rest_offset = h.offset;
    are_sections = h.are_sections;
    goes_on = h.goes_on;
    bytes_are =
        front ∙ ap (λ l. signature ++ l) h.bytes_are
        ∙ sym (append_assoc signature (flat_map section_bytes h.log) h.rest);
    breaks = h.breaks;
    offset_is = refl;
  }),
)

abbrev signature_size : ℕ
signature_size = length signature

-- the bytes are a log, or they break
pub log-or-break : (bytes : List ℕ) → AreBytes bytes → LogOrBreak bytes
log-or-break bytes are =
    decided (whole-or-short signature_size (length bytes)) (List-discrete ℕ_discrete front signature)
  where
    front : List ℕ
    front = take signature_size bytes

    behind : List ℕ
    behind = drop signature_size bytes

    sections : HasSections behind ⊎ BreaksInSections behind
    sections = sections-or-break (length behind) behind (omega arith) (All-drop IsByte signature_size bytes are)

    joined : front ++ behind ≡ bytes
    joined = take-append-drop signature_size bytes

    decided : (signature_size ≤ length bytes) ⊎ (length bytes < signature_size) → Dec (front ≡ signature)
        → LogOrBreak bytes
    decided (inl whole) (yes right) = signed-or-break bytes behind (sym joined ∙ ap (λ l. l ++ behind) right) sections
    decided (inl whole) (no wrong) = inr (0, inl (inl (whole, wrong, refl)))
    decided (inr short) right = inr (length bytes, inl (inr (short, refl)))
