-- A step of a machine.
use Rattle.std.proofs.Common.{◌≡◌, ℕ, ◌+◌, ◌*◌, ◌<◌, ◌≤◌, ◌^◌, Bool, true, false, List, [], ◌∷◌, ◌++◌, length, Ok, ℤ, pos, refl, ap, sym, ◌∙◌, subst, arith, length-append}
use Rattle.std.specs.Prelude.{slice_index, slice_set, slice_index_or, ◌+ℤ◌, ◌-ℤ◌, int_lt}
use Rattle.std.proofs.lemmas.Int.{ints}
use Rattle.std.proofs.lemmas.Nat.{mul-le}
use Rattle.std.proofs.lemmas.List.{get_or-append-add, get_or_append_left}
use Rattle.spf_ast.specs.declared.syntax.Op.TheVariants.{Add, Sub, Mul}
use Rattle.spf_ast.specs.declared.syntax.Test.TheVariants.{Lt}
use Rattle.spf_ast.specs.Word.{exact, binary_words}
use Rattle.spf_ast.specs.Interaction.{Onward, State, Value}
use Rattle.spf_ast.specs.Syntax.{Condition, Local, Len, Input, Compare, Let, Assign, Store, If, end, on_line}
use Rattle.spf_ast.specs.Meaning.{Environment, block_means, extent_in, condition_means}
use Rattle.spf_ast_laws.proofs.Plainly.{Comes}
use Rattle.spf_apps_formats.specs.Lex1.{IsLex1, class_at}
use Rattle.spf_apps_formats.specs.Tokens.{next_state, mark}
use Rattle.spf_apps_programs.specs.Writing.{number, plus, minus, times, only}
use Rattle.spf_apps_programs.specs.Lexer.{entry_at, step, one_byte}
use Rattle.spf_apps_programs.specs.Lexer as lexer
use Rattle.spf_apps_laws.proofs.LexIndices.{entry_number, entry_below, entry_is}
use Rattle.spf_apps_laws.proofs.Steps.{Gives, gives-number, gives-local, gives-len, gives-input, gives-binary, tells, comes-let, comes-assign, comes-store, comes-on, comes-end, comes-only, comes-then_branch, comes-else_branch, word-ok}

-- where the program runs: its input is a machine and a content, and its one array has enough cells
pub record Lexes (g : Environment) (size states classes : ℕ) (machine content : List ℕ) : Type 0 where
  pub input_is : g.input ≡ machine ++ content
  pub first : (extent_in g.extents 0).0 ≡ 0
  pub room : (extent_in g.extents 0).1 ≡ (length machine + length content) + size
  pub lex1 : IsLex1 machine states classes
  pub machine_bytes : (p : ℕ) → slice_index machine p < 256
  pub content_bytes : (p : ℕ) → slice_index content p < 256
  pub some : 1 ≤ size
  pub few : (length machine + length content) + size ≤ 4194304

-- the state with these words in the slots, and no output
abbrev pub at : (carried number state index entry out : ℤ) → State
at carried number state index entry out =
    record { slots = carried ∷ number ∷ state ∷ index ∷ entry ∷ out ∷ []; output = [] }

-- ---- the input

from_content : (g : Environment) (size states classes : ℕ) (machine content : List ℕ) → Lexes g size states classes machine content → (p : ℕ) → slice_index g.input (length machine + p) ≡ slice_index content p
from_content g size states classes machine content d p = ap (λ (l : List ℕ). slice_index l (length machine + p)) d.input_is ∙ get_or-append-add machine content p 0

from_machine : (g : Environment) (size states classes : ℕ) (machine content : List ℕ) → Lexes g size states classes machine content → (p : ℕ) → p < length machine → slice_index g.input p ≡ slice_index machine p
from_machine g size states classes machine content d p h = ap (λ (l : List ℕ). slice_index l p) d.input_is ∙ get_or_append_left machine content 0 p h

input_long : (g : Environment) (size states classes : ℕ) (machine content : List ℕ) → Lexes g size states classes machine content → length g.input ≡ length machine + length content
input_long g size states classes machine content d = ap (λ (l : List ℕ). length l) d.input_is ∙ length-append machine content

-- ---- sums and products of words

pub sum_ok : (a b : ℕ) → a + b < 2 ^ 63 → binary_words Add (pos a) (pos b) ≡ Ok (pos (a + b))
sum_ok a b h = let sum : pos a +ℤ pos b ≡ pos (a + b) = omega (arith, ints) in ap exact sum ∙ word-ok (a + b) h

pub product_ok : (a b : ℕ) → a * b < 2 ^ 63 → binary_words Mul (pos a) (pos b) ≡ Ok (pos (a * b))
product_ok a b h = word-ok (a * b) h

-- the entry for the state in one slot and the byte at the index in another slot
gives-entry : (g : Environment) (size states classes : ℕ) (machine content : List ℕ) → Lexes g size states classes machine content → (line slot index q p : ℕ) (s : State) (m : List ℤ) → slice_index_or s.slots slot (pos 0) ≡ pos q → slice_index_or s.slots index (pos 0) ≡ pos p → q < states → p < length content
    → Gives g line (entry_at classes (length machine) slot index) s m (pos (262 + 2 * entry_number machine classes q (slice_index content p)))
gives-entry g size states classes machine content d line slot index q p s m q_is p_is inside there =
    let b = slice_index content p in
    let c = slice_index machine (class_at b) in
    let counts = d.lex1.classed.sized.counts in
    let long = input_long g size states classes machine content d in
    let machine_long = d.lex1.classed.sized.size in
    let entry = entry_number machine classes q b in
    let below = entry_below machine states classes d.lex1 q b inside (d.content_bytes p) in
    let product = mul-le q classes 64 64 (omega (arith, inside, counts.states_at.few)) counts.classes_at.few in
    let limit = mul-le states classes 64 64 counts.states_at.few counts.classes_at.few in
    let in_machine : class_at b < length machine = omega (arith, d.content_bytes p, machine_long) in
    let byte : Gives g line (Input (plus (number (length machine)) (Local index))) s m (pos b) =
    subst (λ v. Gives g line (Input (plus (number (length machine)) (Local index))) s m (pos v)) (from_content g size states classes machine content d p)
    (gives-input g line (plus (number (length machine)) (Local index)) s m (length machine + p)
    (gives-binary g line Add (number (length machine)) (Local index) s m (pos (length machine)) (pos p) (pos (length machine + p)) (gives-number g line (pos (length machine)) s m) (gives-local g line index s m (pos p) p_is) (sum_ok (length machine) p (omega (arith, there, d.few))))
    (omega (arith, there, long))) in
    let class : Gives g line (Input (plus (number 6) (Input (plus (number (length machine)) (Local index))))) s m (pos c) =
    subst (λ v. Gives g line (Input (plus (number 6) (Input (plus (number (length machine)) (Local index))))) s m (pos v)) (from_machine g size states classes machine content d (6 + b) in_machine)
    (gives-input g line (plus (number 6) (Input (plus (number (length machine)) (Local index)))) s m (6 + b)
    (gives-binary g line Add (number 6) (Input (plus (number (length machine)) (Local index))) s m (pos 6) (pos b) (pos (6 + b)) (gives-number g line (pos 6) s m) byte (sum_ok 6 b (omega (arith, d.content_bytes p))))
    (omega (arith, in_machine, long))) in
    gives-binary g line Add (number 262) (times (number 2) (plus (times (Local slot) (number classes)) (Input (plus (number 6) (Input (plus (number (length machine)) (Local index))))))) s m (pos 262) (pos (2 * entry)) (pos (262 + 2 * entry)) (gives-number g line (pos 262) s m)
    (gives-binary g line Mul (number 2) (plus (times (Local slot) (number classes)) (Input (plus (number 6) (Input (plus (number (length machine)) (Local index)))))) s m (pos 2) (pos entry) (pos (2 * entry)) (gives-number g line (pos 2) s m)
    (gives-binary g line Add (times (Local slot) (number classes)) (Input (plus (number 6) (Input (plus (number (length machine)) (Local index))))) s m (pos (q * classes)) (pos c) (pos entry)
    (gives-binary g line Mul (Local slot) (number classes) s m (pos q) (pos classes) (pos (q * classes)) (gives-local g line slot s m (pos q) q_is) (gives-number g line (pos classes) s m) (product_ok q classes (omega (arith, product))))
    class
    (sum_ok (q * classes) c (omega (arith, product, d.machine_bytes (class_at b)))))
    (product_ok 2 entry (omega (arith, below, limit))))
    (sum_ok 262 (2 * entry) (omega (arith, below, limit)))

-- ---- a byte

abbrev is_inside : ℕ → Condition
is_inside machine = Compare Lt (Local 3) (lexer.content machine)

inside_tells : (g : Environment) (size states classes : ℕ) (machine content : List ℕ) → Lexes g size states classes machine content → (c k q e x : ℤ) (p : ℕ) (m : List ℤ) (holds : Bool) → int_lt (pos p) (pos (length content)) ≡ holds → Comes (condition_means g 14 (is_inside (length machine))) (at c k q (pos p) e x) m (Value holds (at c k q (pos p) e x)) m
inside_tells g size states classes machine content d c k q e x p m holds t =
    let s = at c k q (pos p) e x in
    let rest : pos (length g.input) -ℤ pos (length machine) ≡ pos (length content) = let long = input_long g size states classes machine content d in omega (arith, ints, long) in
    tells g 14 Lt (Local 3) (minus Len (number (length machine))) s m (pos p) (pos (length content)) holds (gives-local g 14 3 s m (pos p) refl)
    (gives-binary g 14 Sub Len (number (length machine)) s m (pos (length g.input)) (pos (length machine)) (pos (length content)) (gives-len g 14 s m) (gives-number g 14 (pos (length machine)) s m) (ap exact rest ∙ word-ok (length content) (omega (arith, d.few)))) t

-- an index in the content
pub index-inside : (g : Environment) (size states classes : ℕ) (machine content : List ℕ) → Lexes g size states classes machine content → (c k e x : ℤ) (q p : ℕ) (m : List ℤ) → q < states → p < length content
    → Comes (block_means g (one_byte classes (length machine))) (at c k (pos q) (pos p) e x) m (Value Onward (at c k (pos (next_state machine q (slice_index content p))) (pos p) (pos (262 + 2 * entry_number machine classes q (slice_index content p))) x)) (slice_set m p (pos (mark machine q (slice_index content p))))
index-inside g size states classes machine content d c k e x q p m inside there =
    let b = slice_index content p in
    let entry = 262 + 2 * entry_number machine classes q b in
    let s = at c k (pos q) (pos p) e x in
    let u = at c k (pos q) (pos p) (pos entry) x in
    let t = at c k (pos (next_state machine q b)) (pos p) (pos entry) x in
    let base = (extent_in g.extents 0).0 in
    let cell : base + p ≡ p = omega (arith, d.first) in
    let after = slice_set m (base + p) (pos (mark machine q b)) in
    let low : int_lt (pos p) (pos (length content)) ≡ true = grind (arith, ints, there) in
    let below = entry_below machine states classes d.lex1 q b inside (d.content_bytes p) in
    let counts = d.lex1.classed.sized.counts in
    let limit = mul-le states classes 64 64 counts.states_at.few counts.classes_at.few in
    let long = input_long g size states classes machine content d in
    let machine_long = d.lex1.classed.sized.size in
    let is = entry_is machine states classes d.lex1 q b in
    let mark_there : entry + 1 < length machine = omega (arith, below, machine_long) in
    let marked : Gives g 16 (Input (plus (Local 4) (number 1))) u m (pos (mark machine q b)) =
    subst (λ v. Gives g 16 (Input (plus (Local 4) (number 1))) u m (pos v)) (from_machine g size states classes machine content d (entry + 1) mark_there ∙ ap (λ n. slice_index machine (n + 1)) (sym is))
    (gives-input g 16 (plus (Local 4) (number 1)) u m (entry + 1) (gives-binary g 16 Add (Local 4) (number 1) u m (pos entry) (pos 1) (pos (entry + 1)) (gives-local g 16 4 u m (pos entry) refl) (gives-number g 16 (pos 1) u m) (sum_ok entry 1 (omega (arith, below, limit)))) (omega (arith, mark_there, long))) in
    let next : Gives g 17 (Input (Local 4)) u after (pos (next_state machine q b)) =
    subst (λ v. Gives g 17 (Input (Local 4)) u after (pos v)) (from_machine g size states classes machine content d entry (omega (arith, mark_there)) ∙ ap (slice_index machine) (sym is))
    (gives-input g 17 (Local 4) u after entry (gives-local g 17 4 u after (pos entry) refl) (omega (arith, mark_there, long))) in
    subst (λ n. Comes (block_means g (one_byte classes (length machine))) s m (Value Onward t) (slice_set m n (pos (mark machine q b)))) cell
    (comes-only g 14 (If (is_inside (length machine)) (step classes (length machine)) end) s t m after
    (comes-then_branch g 14 (is_inside (length machine)) (step classes (length machine)) end s m after (Value Onward t) (inside_tells g size states classes machine content d c k (pos q) e x p m true low)
    (comes-on g 15 (Let 4 (entry_at classes (length machine) 2 3)) (on_line 16 (Store 0 (Local 3) (Input (plus (Local 4) (number 1)))) (only 17 (Assign 2 (Input (Local 4))))) s u m m after (Value Onward t)
    (comes-let g 15 4 (entry_at classes (length machine) 2 3) s m (pos entry) (gives-entry g size states classes machine content d 15 2 3 q p s m refl refl inside there))
    (comes-on g 16 (Store 0 (Local 3) (Input (plus (Local 4) (number 1)))) (only 17 (Assign 2 (Input (Local 4)))) u u m after after (Value Onward t)
    (comes-store g 16 0 (Local 3) (Input (plus (Local 4) (number 1))) u m p (pos (mark machine q b)) (gives-local g 16 3 u m (pos p) refl) marked (omega (arith, there, d.room)))
    (comes-only g 17 (Assign 2 (Input (Local 4))) u t after after (comes-assign g 17 2 (Input (Local 4)) u after (pos (next_state machine q b)) next))))))

-- an index after the content
pub index-outside : (g : Environment) (size states classes : ℕ) (machine content : List ℕ) → Lexes g size states classes machine content → (c k q e x : ℤ) (p : ℕ) (m : List ℤ) → length content ≤ p → Comes (block_means g (one_byte classes (length machine))) (at c k q (pos p) e x) m (Value Onward (at c k q (pos p) e x)) m
index-outside g size states classes machine content d c k q e x p m out =
    let s = at c k q (pos p) e x in
    let low : int_lt (pos p) (pos (length content)) ≡ false = grind (arith, ints, out) in
    comes-only g 14 (If (is_inside (length machine)) (step classes (length machine)) end) s s m m
    (comes-else_branch g 14 (is_inside (length machine)) (step classes (length machine)) end s m m (Value Onward s) (inside_tells g size states classes machine content d c k q e x p m false low) (comes-end g s m))
