-- Bytes that are read step by step and section by section.
use Rattle.std.proofs.Common.{◌≡◌, inl, inr, ◌≤◌, ◌<◌, ℕ, zero, suc, ◌+◌, ◌-◌, ◌*◌, ◌^◌, List, [], ◌∷◌, ◌++◌, length, take, drop, slice_index, sym, ap, refl, ◌∙◌, subst, append_assoc, append-nil, arith, length-append, rules}
use Rattle.std.proofs.lemmas.List.{take-append-drop, drop-drop, length-drop, length-take, take_all}
use Rattle.std.proofs.Math.Seq.{take-append-add}
use Rattle.std.proofs.lemmas.List.Elements.{All-append}
use Rattle.std.proofs.lemmas.Grind.{flat_map-append}
use Rattle.std.specs.List.{All, flat_map}
use Rattle.std.specs.Int.{w16, w64, to_be_bytes}
use Rattle.spf_replay_log.specs.declared.log.Step.{Step}
use Rattle.spf_replay_log.specs.declared.log.Event.{Event}
use Rattle.spf_replay_log.specs.declared.log.LogError.{LogError}
use Rattle.spf_replay_log.specs.declared.log.LogError.TheVariants.{NotLog, OutOfMemory}
use Rattle.spf_replay_log.specs.Log.{max_blocks, step_bytes, log_bytes, kind_of, cell_of, content_of, event_with, IsKind, IsEvent, IsStep, AreSteps, IsSection}
use Rattle.spf_replay_log.specs.Refusals.{step_size, Field, Kind, Block, Cell, Content, begin_of, end_of, IsRight, IsThere, StepBreaksAt, SectionBreaksAt, IsNoSection, IsNoLog}

-- one element after others
pub all_one_more : {X : Type 0} (P : X → Type 0) (xs new : List X) (x : X) → new ≡ xs ++ x ∷ [] → All P xs → P x → All P new
all_one_more P xs new x is before here = subst (All P) (sym is) (All-append P xs (x ∷ []) before (single P x here))
  where
    single : {X : Type 0} (P : X → Type 0) (x : X) → P x → All P (x ∷ [])
    single P x h zero d low = h
    single P x h (suc k) d low = absurd (omega arith)

-- what is left, as a slice from an offset on
pub rest-at : {X : Type 0} (p : ℕ) (bytes : List X) → take (length bytes - p) (drop p bytes) ≡ drop p bytes
rest-at p bytes = take_all (length bytes - p) (drop p bytes) (omega (arith, length-drop p bytes))

-- one more piece was read
pub read_more : {X : Type 0} (f : X → List ℕ) (whole head bytes slice : List ℕ) (xs new : List X) (x : X) (size p q : ℕ)
    → whole ≡ head ++ (flat_map f xs ++ drop p bytes) → slice ≡ drop p bytes → f x ≡ take size slice → new ≡ xs ++ x ∷ [] → q ≡ p + size
    → whole ≡ head ++ (flat_map f new ++ drop q bytes)
read_more f whole head bytes slice xs new x size p q before front piece is step =
    let cut : f x ++ drop q bytes ≡ drop p bytes =
    ap (λ l. l ++ drop q bytes) (piece ∙ ap (take size) front)
    ∙ ap (λ l. take size (drop p bytes) ++ l) (ap (λ n. drop n bytes) step ∙ sym (drop-drop size p bytes))
    ∙ take-append-drop size (drop p bytes) in
    let all : flat_map f new ≡ flat_map f xs ++ f x =
    ap (flat_map f) is ∙ flat_map-append f xs (x ∷ []) ∙ ap (λ l. flat_map f xs ++ l) (append-nil (f x)) in
    before ∙ ap (λ l. head ++ l) (ap (λ l. flat_map f xs ++ l) (sym cut) ∙ sym (append_assoc (flat_map f xs) (f x) (drop q bytes)) ∙ ap (λ l. l ++ drop q bytes) (sym all))

-- where the steps break that were read in a section, it breaks
pub section_breaks : (bytes slice : List ℕ) (at count p offset : ℕ) (steps : List Step)
    → count < 2 ^ 64 → AreSteps steps → length steps < count → p ≡ at + 8 + 19 * length steps
    → drop at bytes ≡ to_be_bytes w64 count ++ (flat_map step_bytes steps ++ drop p bytes)
    → slice ≡ drop p bytes → StepBreaksAt slice offset
    → (o : ℕ) × (p + offset ≡ at + o) × SectionBreaksAt (drop at bytes) o
section_breaks bytes slice at count p offset steps small are more begin read front breaks = (
  8 + 19 * length steps + offset,
  omega arith,
  inr (record {
    count = count;
    steps = steps;
    rest = drop p bytes;
    rest_offset = offset;
    small = small;
    are_steps = are;
    fewer = more;
    bytes_are = read;
    breaks = subst (λ l. StepBreaksAt l offset) front breaks;
    offset_is = refl;
  }),
)

-- where a section breaks after those that were read, the log does
pub log_breaks : (bytes : List ℕ) (log : List (List Step)) (at : ℕ) (why : LogError) → All IsSection log → at < length bytes
    → bytes ≡ log_bytes log ++ drop at bytes → IsNoSection bytes at why → IsNoLog bytes why
log_breaks bytes log at (NotLog offset) are more read h =
    let size = length-drop at bytes in
    let joined = length-append (log_bytes log) (drop at bytes) in
    let whole : length bytes ≡ length (log_bytes log ++ drop at bytes) = ap length read in
    let here : at ≡ length (log_bytes log) = omega (arith, size, joined, whole) in
    inr (record {
      log = log;
      rest = drop at bytes;
      rest_offset = h.0;
      are_sections = are;
      goes_on = omega (arith, size);
      bytes_are = read;
      breaks = h.2;
      offset_is = h.1 ∙ ap (λ n. n + h.0) here;
    })
log_breaks bytes log at OutOfMemory are more read h = tt

-- before the first piece
pub read_first : {X : Type 0} (f : X → List ℕ) (whole head bytes : List ℕ) (xs : List X) (at size q : ℕ)
    → take size (drop at bytes) ≡ head → xs ≡ [] → whole ≡ drop at bytes → q ≡ at + size → whole ≡ head ++ (flat_map f xs ++ drop q bytes)
read_first f whole head bytes xs at size q front none is step =
    is ∙ sym (take-append-drop size (drop at bytes)) ∙ ap (λ l. l ++ drop size (drop at bytes)) front
    ∙ ap (λ l. head ++ l) (drop-drop size at bytes ∙ ap (λ n. drop n bytes) (sym step) ∙ ap (λ ys. flat_map f ys ++ drop q bytes) (sym none))

-- one more element
pub one_longer : {X : Type 0} (xs new : List X) (x : X) (n : ℕ) → new ≡ xs ++ x ∷ [] → length xs ≡ n → length new ≡ n + 1
one_longer xs new x n is size = let joined = length-append xs (x ∷ []) in let whole : length new ≡ length (xs ++ x ∷ []) = ap length is in omega (arith, joined, whole, size)

-- ---- the first field of a step that isn't there

-- the fields before one of them are there
pub before_kind : (bytes : List ℕ) (other : Field) → begin_of other < begin_of Kind → IsThere bytes other
before_kind bytes other less = absurd (omega (arith, less))

pub before_block : (bytes : List ℕ) → IsThere bytes Kind → (other : Field) → begin_of other < begin_of Block → IsThere bytes other
before_block bytes kind Kind less = kind
before_block bytes kind Block less = absurd (omega (arith, less))
before_block bytes kind Cell less = absurd (omega (arith, less))
before_block bytes kind Content less = absurd (omega (arith, less))

pub before_cell : (bytes : List ℕ) → IsThere bytes Kind → IsThere bytes Block → (other : Field) → begin_of other < begin_of Cell → IsThere bytes other
before_cell bytes kind block Kind less = kind
before_cell bytes kind block Block less = block
before_cell bytes kind block Cell less = absurd (omega (arith, less))
before_cell bytes kind block Content less = absurd (omega (arith, less))

pub before_content : (bytes : List ℕ) → IsThere bytes Kind → IsThere bytes Block → IsThere bytes Cell
    → (other : Field) → begin_of other < begin_of Content → IsThere bytes other
before_content bytes kind block cell Kind less = kind
before_content bytes kind block cell Block less = block
before_content bytes kind block cell Cell less = cell
before_content bytes kind block cell Content less = absurd (omega (arith, less))

-- the bytes end inside a field, or it is wrong
pub ends_in : (field : Field) (bytes : List ℕ) → ((other : Field) → begin_of other < begin_of field → IsThere bytes other)
    → length bytes < end_of field → StepBreaksAt bytes (length bytes)
ends_in field bytes before short = record { field = field; earlier = before; fails = inr (short, refl) }

pub wrong_in : (field : Field) (bytes : List ℕ) → ((other : Field) → begin_of other < begin_of field → IsThere bytes other)
    → end_of field ≤ length bytes → (IsRight field bytes → ⊥) → StepBreaksAt bytes (begin_of field)
wrong_in field bytes before whole wrong = record { field = field; earlier = before; fails = inl (whole, wrong, refl) }

-- ---- a step that is there

-- the fields of the event with these fields
fields_of : (kind cell content : ℕ) → IsKind kind → cell < 2 ^ 64 → content < 2 ^ 64 → (kind ≡ 3 → cell ≡ 0)
    → IsEvent (event_with kind cell content) × (kind_of (event_with kind cell content) ≡ kind)
    × (cell_of (event_with kind cell content) ≡ cell) × (content_of (event_with kind cell content) ≡ content)
fields_of zero cell content h p q turn = let low = h.0 in absurd (omega (arith, low))
fields_of (suc zero) cell content h p q turn = ((p, search rules), refl, refl, search rules)
fields_of (suc (suc zero)) cell content h p q turn = ((p, search rules), refl, refl, search rules)
fields_of (suc (suc (suc zero))) cell content h p q turn = (q, refl, sym (turn refl), refl)
fields_of (suc (suc (suc (suc n)))) cell content h p q turn = let high = h.1 in absurd (omega (arith, high))

-- nineteen bytes by their fields
step-front : (bytes : List ℕ) → step_size ≤ length bytes
    → take step_size bytes ≡ slice_index bytes 0 ∷ (take 2 (drop 1 bytes) ++ (take 8 (drop 3 bytes) ++ take 8 (drop 11 bytes)))
step-front bytes h =
    front 1 18 bytes (omega (arith, h)) ∙ ap (λ l. l ++ take 18 (drop 1 bytes)) (one bytes (omega (arith, h)))
    ∙ ap (λ l. slice_index bytes 0 ∷ l) (front 2 16 (drop 1 bytes) (omega (arith, h, length-drop 1 bytes))
    ∙ ap (λ l. take 2 (drop 1 bytes) ++ l) (ap (take 16) (drop-drop 2 1 bytes) ∙ front 8 8 (drop 3 bytes) (omega (arith, h, length-drop 3 bytes))
    ∙ ap (λ l. take 8 (drop 3 bytes) ++ take 8 l) (drop-drop 8 3 bytes)))
  where
    one : (l : List ℕ) → 1 ≤ length l → take 1 l ≡ slice_index l 0 ∷ []
    one [] h = absurd (omega (arith, h))
    one (x ∷ l) h = refl

    front : (a b : ℕ) (l : List ℕ) → a ≤ length l → take (a + b) l ≡ take a l ++ take b (drop a l)
    front a b l h =
        let size : length (take a l) ≡ a = omega (arith, h, length-take a l) in
        ap (take (a + b)) (sym (take-append-drop a l)) ∙ ap (λ n. take (n + b) (take a l ++ drop a l)) (sym size) ∙ take-append-add (take a l) (drop a l) b

-- the step with these fields
pub step_found : (bytes : List ℕ) (block cell content : ℕ) (event : Event) → step_size ≤ length bytes
    → IsKind (slice_index bytes 0) → (slice_index bytes 0 ≡ 3 → cell ≡ 0) → block < max_blocks → cell < 2 ^ 64 → content < 2 ^ 64
    → to_be_bytes w16 block ≡ take 2 (drop 1 bytes) → to_be_bytes w64 cell ≡ take 8 (drop 3 bytes) → to_be_bytes w64 content ≡ take 8 (drop 11 bytes)
    → event ≡ event_with (slice_index bytes 0) cell content
    → IsStep (record { block = block; event = event }) × (step_size ≤ length bytes) × (step_bytes (record { block = block; event = event }) ≡ take step_size bytes)
step_found bytes block cell content event h kind turn low small also b c d is =
    let fields = fields_of (slice_index bytes 0) cell content kind small also turn in (
      record { block = low; event = subst IsEvent (sym is) fields.0 },
      h,
      (λ i. (ap kind_of is ∙ fields.1) i ∷ (b i ++ ((ap (to_be_bytes w64) (ap cell_of is ∙ fields.2) ∙ c) i ++ (ap (to_be_bytes w64) (ap content_of is ∙ fields.3) ∙ d) i)))
          ∙ sym (step-front bytes h),
    )
