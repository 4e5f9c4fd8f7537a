-- The state of a machine at each index of a content, and the marks that it sets.
use Rattle.std.proofs.Common.{◌≡◌, ◌⊎◌, ℕ, zero, suc, ◌+◌, ◌-◌, ◌*◌, ◌<◌, ◌≤◌, Bool, true, false, List, [], ◌∷◌, ◌++◌, length, drop, replicate, ℤ, pos, refl, ap, sym, ◌∙◌, subst, arith, append_assoc, length-append}
use Rattle.std.specs.Prelude.{nat_lt, if◌then◌else◌, slice_index, slice_index_or}
use Rattle.std.proofs.lemmas.Bool.{lt-ltb}
use Rattle.std.proofs.lemmas.Bool.Decides.{nat_tests}
use Rattle.std.proofs.lemmas.List.{append-nil}
use Rattle.std.proofs.lemmas.Nat.{mul-le}
use Rattle.std.proofs.Math.Nat.{suc-mul}
use Rattle.std.proofs.lemmas.Option.{get_or_from_slice_get}
use Rattle.spf_ast_lemmas.proofs.Members.{cases}
use Rattle.spf_apps_formats.specs.Lex1.{IsLex1, class_at, next_at}
use Rattle.spf_apps_formats.specs.Tokens.{entry_of, next_state, mark, token, tokens_from, tokens}

-- ---- the machine

-- how many classes there are
pub classes_are : (machine : List ℕ) (states classes : ℕ) → IsLex1 machine states classes → slice_index machine 5 ≡ classes
classes_are machine states classes h = get_or_from_slice_get machine 5 classes 0 h.classed.sized.counts.classes_at.stands

pub class_below : (machine : List ℕ) (states classes : ℕ) → IsLex1 machine states classes → (b : ℕ) → b < 256 → slice_index machine (class_at b) < classes
class_below machine states classes h b small = h.classed.below b small

-- the number of the entry of a state and a byte
abbrev pub entry_number : List ℕ → ℕ → ℕ → ℕ → ℕ
entry_number machine classes state byte = state * classes + slice_index machine (class_at byte)

pub entry_below : (machine : List ℕ) (states classes : ℕ) → IsLex1 machine states classes → (q b : ℕ) → q < states → b < 256 → entry_number machine classes q b < states * classes
entry_below machine states classes h q b inside small =
    omega (arith, class_below machine states classes h b small, mul-le (suc q) classes states classes inside (let e : classes ≤ classes = omega arith in e), suc-mul q classes)

pub entry_is : (machine : List ℕ) (states classes : ℕ) → IsLex1 machine states classes → (q b : ℕ) → entry_of machine q b ≡ 262 + 2 * entry_number machine classes q b
entry_is machine states classes h q b = ap (λ c. next_at (q * c + slice_index machine (class_at b))) (classes_are machine states classes h)

pub next_below : (machine : List ℕ) (states classes : ℕ) → IsLex1 machine states classes → (q b : ℕ) → q < states → b < 256 → next_state machine q b < states
next_below machine states classes h q b inside small =
    subst (λ e. slice_index machine e < states) (sym (entry_is machine states classes h q b)) (h.below (entry_number machine classes q b) (entry_below machine states classes h q b inside small))

-- ---- indices

-- the state at an index; after the content it stays
abbrev pub state_at : List ℕ → List ℕ → ℕ → ℕ
state_at machine content zero = 0
state_at machine content (suc p) = if nat_lt p (length content) then next_state machine (state_at machine content p) (slice_index content p) else state_at machine content p

-- the mark of the byte at an index
abbrev pub mark_of : List ℕ → List ℕ → ℕ → ℕ
mark_of machine content p = mark machine (state_at machine content p) (slice_index content p)

-- the mark at an index; after the content there is none
abbrev pub mark_at : List ℕ → List ℕ → ℕ → ℕ
mark_at machine content p = if nat_lt p (length content) then mark_of machine content p else 0

-- these, for the indices before one
abbrev pub marks_before : List ℕ → List ℕ → ℕ → List ℤ
marks_before machine content zero = []
marks_before machine content (suc p) = marks_before machine content p ++ pos (mark_at machine content p) ∷ []

-- the tokens of the indices before one
abbrev pub tokens_before : List ℕ → List ℕ → ℕ → List ℕ
tokens_before machine content zero = []
tokens_before machine content (suc p) = tokens_before machine content p ++ token (mark_of machine content p) p

pub inside_test : (content : List ℕ) (p : ℕ) → p < length content → nat_lt p (length content) ≡ true
inside_test content p h = lt-ltb p (length content) h

pub outside_test : (content : List ℕ) (p : ℕ) → length content ≤ p → nat_lt p (length content) ≡ false
outside_test content p h = grind (arith, nat_tests, h)

pub state_inside : (machine content : List ℕ) (p : ℕ) → p < length content → state_at machine content (suc p) ≡ next_state machine (state_at machine content p) (slice_index content p)
state_inside machine content p h = ap (λ b. if b then next_state machine (state_at machine content p) (slice_index content p) else state_at machine content p) (inside_test content p h)

pub state_outside : (machine content : List ℕ) (p : ℕ) → length content ≤ p → state_at machine content (suc p) ≡ state_at machine content p
state_outside machine content p h = ap (λ b. if b then next_state machine (state_at machine content p) (slice_index content p) else state_at machine content p) (outside_test content p h)

pub mark_inside : (machine content : List ℕ) (p : ℕ) → p < length content → mark_at machine content p ≡ mark_of machine content p
mark_inside machine content p h = ap (λ b. if b then mark_of machine content p else 0) (inside_test content p h)

pub mark_outside : (machine content : List ℕ) (p : ℕ) → length content ≤ p → mark_at machine content p ≡ 0
mark_outside machine content p h = ap (λ b. if b then mark_of machine content p else 0) (outside_test content p h)

pub marks_count : (machine content : List ℕ) (p : ℕ) → length (marks_before machine content p) ≡ p
marks_count machine content zero = refl
marks_count machine content (suc p) = length-append (marks_before machine content p) (pos (mark_at machine content p) ∷ []) ∙ (let e = marks_count machine content p in omega (arith, e))

below_chosen : (b : Bool) (x y n : ℕ) → x < n → y < n → (if b then x else y) < n
below_chosen true x y n h k = h
below_chosen false x y n h k = k

pub state_below : (machine content : List ℕ) (states classes : ℕ) → IsLex1 machine states classes → ((p : ℕ) → slice_index content p < 256) → (p : ℕ) → state_at machine content p < states
state_below machine content states classes h bytes zero = omega (arith, h.classed.sized.counts.states_at.some)
state_below machine content states classes h bytes (suc p) =
    below_chosen (nat_lt p (length content)) (next_state machine (state_at machine content p) (slice_index content p)) (state_at machine content p) states
    (next_below machine states classes h (state_at machine content p) (slice_index content p) (state_below machine content states classes h bytes p) (bytes p))
    (state_below machine content states classes h bytes p)

-- ---- all tokens

drop_next : (content : List ℕ) (p : ℕ) → p < length content → drop p content ≡ slice_index content p ∷ drop (suc p) content
drop_next [] p h = absurd (omega (arith, h))
drop_next (b ∷ content) zero h = refl
drop_next (b ∷ content) (suc p) h = drop_next content p (omega (arith, h))

drop_all : (content : List ℕ) → drop (length content) content ≡ []
drop_all [] = refl
drop_all (b ∷ content) = drop_all content

tokens_on : (machine content : List ℕ) (p : ℕ) → p ≤ length content → tokens_before machine content p ++ tokens_from machine (state_at machine content p) p (drop p content) ≡ tokens machine content
tokens_on machine content zero h = refl
tokens_on machine content (suc p) h =
    let before = tokens_before machine content p in
    let q = state_at machine content p in
    let b = slice_index content p in
    let one = token (mark_of machine content p) p in
    let next : suc p ≡ p + 1 = omega arith in
    (λ i. (before ++ one) ++ tokens_from machine (state_inside machine content p (omega (arith, h)) i) (next i) (drop (suc p) content))
    ∙ append_assoc before one (tokens_from machine (next_state machine q b) (p + 1) (drop (suc p) content))
    ∙ ap (λ l. before ++ tokens_from machine q p l) (sym (drop_next content p (omega (arith, h))))
    ∙ tokens_on machine content p (omega (arith, h))

pub tokens_all : (machine content : List ℕ) → tokens_before machine content (length content) ≡ tokens machine content
tokens_all machine content =
    sym (append-nil (tokens_before machine content (length content)))
    ∙ ap (λ l. tokens_before machine content (length content) ++ tokens_from machine (state_at machine content (length content)) (length content) l) (sym (drop_all content))
    ∙ tokens_on machine content (length content) (omega arith)

-- a token has at most five bytes
token_short : (kind index : ℕ) → length (token kind index) ≤ 5
token_short zero index = omega arith
token_short (suc kind) index = omega arith

pub tokens_short : (machine content : List ℕ) (p : ℕ) → length (tokens_before machine content p) ≤ 5 * p
tokens_short machine content zero = omega arith
tokens_short machine content (suc p) =
    omega (arith, length-append (tokens_before machine content p) (token (mark_of machine content p) p), token_short (mark_of machine content p) p, tokens_short machine content p)

-- the cell of an index that was read
pub marks_word : (machine content : List ℕ) (far : ℕ) (behind : List ℤ) (p : ℕ) → p < far → slice_index_or (marks_before machine content far ++ behind) p (pos 0) ≡ pos (mark_at machine content p)
marks_word machine content zero behind p h = absurd (omega (arith, h))
marks_word machine content (suc far) behind p h =
    let whole = append_assoc (marks_before machine content far) (pos (mark_at machine content far) ∷ []) behind in
    ap (λ (l : List ℤ). slice_index_or l p (pos 0)) whole
    ∙ cases (below p far h)
    (λ before. marks_word machine content far (pos (mark_at machine content far) ∷ behind) p before)
    (λ here. ap (λ q. slice_index_or (marks_before machine content far ++ pos (mark_at machine content far) ∷ behind) q (pos 0)) (here ∙ sym (marks_count machine content far)) ∙ at_seam (marks_before machine content far) (pos (mark_at machine content far)) behind ∙ ap (λ q. pos (mark_at machine content q)) (sym here))
  where
    below : (k n : ℕ) → k < suc n → (k < n) ⊎ (k ≡ n)
    below k n l = grind (arith, l)

    at_seam : (before : List ℤ) (v : ℤ) (more : List ℤ) → slice_index_or (before ++ v ∷ more) (length before) (pos 0) ≡ v
    at_seam [] v more = refl
    at_seam (x ∷ before) v more = at_seam before v more

-- the cells when the indices before one were read
abbrev pub marks_at : List ℕ → List ℕ → ℕ → ℕ → List ℤ
marks_at machine content room p = marks_before machine content p ++ replicate (room - p) (pos 0)
