-- Blocks that are run plainly in place change their cells alone.
use Rattle.std.proofs.Common.{◌≡◌, ℕ, zero, suc, ◌+◌, ◌<◌, ◌≤◌, true, false, List, ◌++◌, length, ap, ℤ, pos, ◌+ℤ◌, refl, sym, ◌∙◌, subst, arith}
use Rattle.std.proofs.lemmas.Int.{ints}
use Rattle.spf_ast.specs.Carried.{Carried}
use Rattle.spf_ast.specs.Event.{word_at}
use Rattle.spf_ast.specs.Interaction.{Ending, Value, Trapped}
use Rattle.spf_ast.specs.Plain.{plain_events, plain_answer, plain_memory}
use Rattle.spf_ast.specs.Program.{environment_of}
use Rattle.spf_ast_laws.specs.Chained.{Chained, chained, chained_on, block_asks}
use Rattle.spf_region.specs.declared.span.Span.{Span}
use Rattle.spf_speculation_entry.specs.Entry.{Entry, IsEntry, number_of, own, asks_at, plain_blocks}
use Rattle.spf_speculation.proofs.Blocks.{BlockLaws, plain-outside}
use Rattle.spf_speculation.proofs.Chain.{next-number}
use Rattle.spf_speculation.proofs.Within.{length-after}
use Rattle.spf_replay.specs.Copying.{in_plan, IsCopied, HasOwnSpans}
use Rattle.spf_replay.proofs.Copies.{mixed}
use Rattle.spf_replay.proofs.Planned.{unplanned}

-- a block keeps a cell, and so do all after it
keeps-on : (x : Ending Carried) (v : Carried) (memory m : List ℤ) (others : Carried → Chained) (c : ℕ)
    → word_at memory c ≡ word_at m c → ((next : Carried) → word_at (others next).memory c ≡ word_at m c) → word_at (chained_on v x memory others).memory c ≡ word_at m c
keeps-on (Value next s) v memory m others c here later = later next
keeps-on (Trapped trap output) v memory m others c here later = here

chained-outside : BlockLaws → (e : Entry) → IsEntry e → (n count : ℕ) (v : Carried) (m : List ℤ) (c : ℕ) → n + count ≡ e.header.blocks
    → ((k : ℕ) → k < e.header.blocks → own e k c ≡ false)
    → word_at (chained (environment_of e.program e.input) e.construct e.slots n count (number_of e n) v m).memory c ≡ word_at m c
chained-outside laws e h n zero v m c size out = refl
chained-outside laws e h n (suc count) v m c size out =
    let here = plain-outside laws e h n v m c (out n (omega (arith, size))) in
    keeps-on (plain_answer (asks_at e n v) m) v (plain_memory (asks_at e n v) m) m
    (λ next. chained (environment_of e.program e.input) e.construct e.slots (suc n) count (number_of e n +ℤ pos 1) next (plain_memory (asks_at e n v) m)) c here
    (λ next. subst (λ b. word_at (chained (environment_of e.program e.input) e.construct e.slots (suc n) count b next (plain_memory (asks_at e n v) m)).memory c ≡ word_at m c) (sym (next-number e n))
    (chained-outside laws e h (suc n) count next (plain_memory (asks_at e n v) m) c (omega (arith, size)) out ∙ here))

-- a cell that is no block's has its word of the entry after them
blocks-outside : BlockLaws → (e : Entry) → IsEntry e → (c : ℕ) → ((k : ℕ) → k < e.header.blocks → own e k c ≡ false) → word_at (plain_blocks e).memory c ≡ word_at e.memory c
blocks-outside laws e h c out =
    let low : number_of e 0 ≡ e.header.low = omega (arith, ints) in
    subst (λ b. word_at (chained (environment_of e.program e.input) e.construct e.slots 0 e.header.blocks b e.header.start e.memory).memory c ≡ word_at e.memory c) low
    (chained-outside laws e h 0 e.header.blocks e.header.start e.memory c (omega arith) out)

-- and there are as many cells as before
size-on : (x : Ending Carried) (v : Carried) (memory m : List ℤ) (others : Carried → Chained) → length memory ≡ length m → ((next : Carried) → length (others next).memory ≡ length m) → length (chained_on v x memory others).memory ≡ length m
size-on (Value next s) v memory m others here later = later next
size-on (Trapped trap output) v memory m others here later = here

chained-size : (e : Entry) (n count : ℕ) (b : ℤ) (v : Carried) (m : List ℤ) → length (chained (environment_of e.program e.input) e.construct e.slots n count b v m).memory ≡ length m
chained-size e n zero b v m = refl
chained-size e n (suc count) b v m =
    let g = environment_of e.program e.input in
    let here = length-after (plain_events (block_asks g e.construct e.slots n b v) m) m in
    size-on (plain_answer (block_asks g e.construct e.slots n b v) m) v (plain_memory (block_asks g e.construct e.slots n b v) m) m
    (λ next. chained g e.construct e.slots (suc n) count (b +ℤ pos 1) next (plain_memory (block_asks g e.construct e.slots n b v) m)) here
    (λ next. chained-size e (suc n) count (b +ℤ pos 1) next (plain_memory (block_asks g e.construct e.slots n b v) m) ∙ here)

blocks-size : (e : Entry) → length (plain_blocks e).memory ≡ length e.memory
blocks-size e = chained-size e 0 e.header.blocks e.header.low e.header.start e.memory

-- with the words of the entry in the cells of the blocks, their memory is that of the entry
pub restored : BlockLaws → (e : Entry) → IsEntry e → (blocks : List (List Span)) → HasOwnSpans e blocks → (words memory now : List ℤ) → memory ≡ (plain_blocks e).memory
    → ((c : ℕ) → in_plan blocks c ≡ true → word_at words c ≡ word_at e.memory c) → IsCopied (in_plan blocks) words memory now → length now ≡ length e.memory → now ≡ e.memory
restored laws e h blocks plan words memory now is inside copied size =
    mixed (in_plan blocks) words memory now e.memory copied inside
    (λ c out. subst (λ m. word_at m c ≡ word_at e.memory c) (sym is) (blocks-outside laws e h c (λ k low. unplanned e blocks k c plan low out))) size

-- and with what they left there, the memory of the entry is theirs
pub put-back : BlockLaws → (e : Entry) → IsEntry e → (blocks : List (List Span)) → HasOwnSpans e blocks → (words memory now : List ℤ) → memory ≡ e.memory
    → ((c : ℕ) → in_plan blocks c ≡ true → word_at words c ≡ word_at (plain_blocks e).memory c) → IsCopied (in_plan blocks) words memory now → length now ≡ length e.memory
    → now ≡ (plain_blocks e).memory
put-back laws e h blocks plan words memory now is inside copied size =
    mixed (in_plan blocks) words memory now (plain_blocks e).memory copied inside
    (λ c out. subst (λ m. word_at m c ≡ word_at (plain_blocks e).memory c) (sym is) (sym (blocks-outside laws e h c (λ k low. unplanned e blocks k c plan low out)))) (size ∙ sym (blocks-size e))
