-- The plain run comes to what its blocks' answers on the entry's memory come to.
use Rattle.std.proofs.Common.{◌≡◌, ℕ, zero, suc, List, ◌∷◌, length, ℤ, refl, sym, ap, ◌∙◌, subst, arith}
use Rattle.std.proofs.lemmas.Int.{ints}
use Rattle.spf_ast.specs.Carried.{Carried}
use Rattle.spf_ast.specs.Interaction.{Ending, Value, Trapped}
use Rattle.spf_ast.specs.Plain.{plain_events, plain_answer, plain_memory}
use Rattle.spf_ast.specs.Program.{environment_of}
use Rattle.spf_ast_laws.specs.Chained.{Chained, chained_on, chained}
use Rattle.spf_check_rules.specs.Overwriting.{AgreeOnUnwritten}
use Rattle.spf_speculation_entry.specs.Entry.{Entry, IsEntry, number_of, asks_at, plain_blocks}
use Rattle.spf_speculation.specs.Laws.{MayBegin, entry_answer, Answered, answered_on, answered}
use Rattle.spf_speculation.proofs.Within.{length-after}
use Rattle.spf_speculation.proofs.Blocks.{BlockLaws, not-own, plain-outside, plain-answers, agree-itself}
use Rattle.spf_speculation.proofs.Chain.{next-number}

-- where a block may begin, the memory is as the entry on what isn't written
begins-unwritten : (e : Entry) (n : ℕ) (v : Carried) (memory : List ℤ) → MayBegin e n v memory → AgreeOnUnwritten e.program e.construct (length e.input) e.memory memory
begins-unwritten e zero v memory h = subst (AgreeOnUnwritten e.program e.construct (length e.input) e.memory) (sym h.1) (agree-itself e)
begins-unwritten e (suc n) v memory h = h

-- and so may the next one, on what it leaves
begins-next : BlockLaws → (e : Entry) → IsEntry e → (n : ℕ) (v next : Carried) (memory : List ℤ) → MayBegin e n v memory → MayBegin e (suc n) next (plain_memory (asks_at e n v) memory)
begins-next laws e h n v next memory begin =
    let agree : AgreeOnUnwritten e.program e.construct (length e.input) e.memory memory = begins-unwritten e n v memory begin in
    record {
      cells = agree.cells ∙ sym (length-after (plain_events (asks_at e n v) memory) memory);
      words = λ c out. agree.words c out
          ∙ sym (plain-outside laws e h n v memory c (not-own e n c out));
    }

-- the same rows and the same result
record ComesToAnswers (c : Chained) (a : Answered) : Type 0 where
  values : c.values ≡ a.values
  result : c.result ≡ a.result

one-more : (v : Carried) (x : Ending Carried) (memory : List ℤ) (chain : Carried → Chained) (others : Carried → Answered) → ((next : Carried) → ComesToAnswers (chain next) (others next)) → ComesToAnswers (chained_on v x memory chain) (answered_on v x others)
one-more v (Value next state) memory chain others h = record { values = ap (λ l. v ∷ l) (h next).values; result = (h next).result }
one-more v (Trapped trap output) memory chain others h = record { values = refl; result = refl }

from-block : BlockLaws → (e : Entry) → IsEntry e → (n count : ℕ) (v : Carried) (memory : List ℤ) → MayBegin e n v memory → ComesToAnswers (chained (environment_of e.program e.input) e.construct e.slots n count (number_of e n) v memory) (answered (entry_answer e) n count v)
from-block laws e h n zero v memory begin = record { values = refl; result = refl }
from-block laws e h n (suc count) v memory begin =
    subst (λ x. ComesToAnswers (chained (environment_of e.program e.input) e.construct e.slots n (suc count) (number_of e n) v memory) (answered_on v x (λ next. answered (entry_answer e) (suc n) count next))) (plain-answers laws e n v memory h begin)
    (one-more v (plain_answer (asks_at e n v) memory) (plain_memory (asks_at e n v) memory) _ (λ next. answered (entry_answer e) (suc n) count next)
    (λ next. subst (λ b. ComesToAnswers (chained (environment_of e.program e.input) e.construct e.slots (suc n) count b next (plain_memory (asks_at e n v) memory)) (answered (entry_answer e) (suc n) count next)) (sym (next-number e n))
    (from-block laws e h (suc n) count next (plain_memory (asks_at e n v) memory) (begins-next laws e h n v next memory begin))))

pub plain-answered : BlockLaws → (e : Entry) → IsEntry e → ((plain_blocks e).values ≡ (answered (entry_answer e) 0 e.header.blocks e.header.start).values) × ((plain_blocks e).result ≡ (answered (entry_answer e) 0 e.header.blocks e.header.start).result)
plain-answered laws e h =
    let low : number_of e 0 ≡ e.header.low = omega (arith, ints) in
    let c : ComesToAnswers (plain_blocks e) (answered (entry_answer e) 0 e.header.blocks e.header.start) =
    subst (λ b. ComesToAnswers (chained (environment_of e.program e.input) e.construct e.slots 0 e.header.blocks b e.header.start e.memory) (answered (entry_answer e) 0 e.header.blocks e.header.start)) low
    (from-block laws e h 0 e.header.blocks e.header.start e.memory (refl, refl)) in
    (c.values, c.result)
