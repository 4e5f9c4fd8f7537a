-- The plain run, block after block, from what the logs come to.
use Rattle.std.proofs.Common.{◌≡◌, ℕ, zero, suc, ◌+◌, ◌<◌, ◌≤◌, true, List, [], ◌∷◌, length, ℤ, pos, ◌+ℤ◌, refl, sym, ap, ◌∙◌, subst, arith}
use Rattle.std.specs.Prelude.{Result, Ok, Err}
use Rattle.std.proofs.lemmas.Int.{ints}
use Rattle.std.proofs.lemmas.List.{same_lists, get_or_default}
use Rattle.spf_ast_lemmas.proofs.Members.{cases}
use Rattle.spf_ast.specs.declared.outcome.Trap.{Trap}
use Rattle.spf_ast.specs.Carried.{Carried}
use Rattle.spf_ast.specs.Event.{Event, word_at, after, IsConsistent}
use Rattle.spf_ast.specs.Interaction.{State, Ending, Value, Trapped}
use Rattle.spf_ast.specs.Plain.{plain_events, plain_answer, plain_memory}
use Rattle.spf_ast.specs.Program.{environment_of}
use Rattle.spf_ast_laws.specs.Chained.{Chained, chained_on, chained}
use Rattle.spf_speculation_entry.specs.Entry.{Entry, IsEntry, number_of, own, asks_at, plain_blocks, begins_at}
use Rattle.spf_speculation.specs.Runs.{IsRealLog, IsGuessedLog, LogsComeTo, no_more_blocks, gave_value, gave_trap}
use Rattle.spf_speculation.specs.Laws.{IsItsPlainRun, MayBegin, IsLeftBy, ContinuesAt, AreThePlainRun}
use Rattle.spf_speculation.proofs.Within.{AreWithin, alike, length-after}
use Rattle.spf_speculation.proofs.Blocks.{BlockLaws, attempt-within, real-within, blocks-apart, not-own, plain-outside, real-plain}

-- memories with the same words
pub same-memory : (one other : List ℤ) → length one ≡ length other → ((c : ℕ) → word_at one c ≡ word_at other c) → one ≡ other
same-memory one other size h = same_lists one other size (λ k d low.
    let low' : k < length other = omega (arith, low, size) in
    get_or_default one k d (pos 0) low ∙ h k ∙ get_or_default other k (pos 0) d low')

-- ---- one more block

pub left-first : (e : Entry) (logs : ℕ → List Event) → IsLeftBy e logs 0 e.memory
left-first e logs = record {
  size = refl;
  inside = λ k c low own. absurd (omega (arith, low));
  outside = λ c out. refl;
}

may-begin : (e : Entry) (logs : ℕ → List Event) (n : ℕ) (v : Carried) (memory : List ℤ) → (n ≡ 0 → v ≡ e.header.start) → IsLeftBy e logs n memory → MayBegin e n v memory
may-begin e logs zero v memory first left =
    (first refl, same-memory memory e.memory left.size (λ c. left.outside c (λ k low. absurd (omega (arith, low)))))
may-begin e logs (suc n) v memory first left = record {
  cells = sym left.size;
  words = λ c out. sym (left.outside c (λ k low. not-own e k c out));
}

left-more : BlockLaws → (e : Entry) → IsEntry e → (logs : ℕ → List Event) (n : ℕ) (v : Carried) (answer : Ending Carried) (memory : List ℤ) (value : Carried) (state : State) → n < e.header.blocks → IsLeftBy e logs n memory → IsItsPlainRun e n v (logs n) answer memory → answer ≡ Value value state → IsLeftBy e logs (suc n) (plain_memory (asks_at e n v) memory)
left-more laws e h logs n v answer memory value state low left run is = record {
  size = length-after (plain_events (asks_at e n v) memory) memory ∙ left.size;
  inside = λ k c below mine. cases (alike k n)
      (λ same. inside-here k c same mine)
      (λ ne. let less : k < n = omega (arith, below, ne) in
      let within : k < e.header.blocks = omega (arith, less, low) in
      plain-outside laws e h n v memory c ((blocks-apart e h).apart k n c within low ne mine) ∙ left.inside k c less mine);
  outside = λ c out. plain-outside laws e h n v memory c (out n (omega arith)) ∙ left.outside c (λ k below. out k (omega (arith, below)));
}
  where
    inside-here : (k c : ℕ) → k ≡ n → own e k c ≡ true → word_at (plain_memory (asks_at e n v) memory) c ≡ word_at (after (logs k) e.memory) c
    inside-here k c same mine =
        run.contents value state c is (subst (λ x. own e x c ≡ true) same mine) ∙ ap (λ x. word_at (after (logs x) e.memory) c) (sym same)

pub continues : BlockLaws → (e : Entry) (guess : ℕ → Carried) (logs : ℕ → List Event) (n : ℕ) (v : Carried) (answer : Ending Carried) (memory : List ℤ) → IsEntry e → n < e.header.blocks → (n ≡ 0 → v ≡ e.header.start) → IsRealLog e guess n v (logs n) answer → IsConsistent (logs n) e.memory → IsLeftBy e logs n memory → ContinuesAt e logs n v answer memory
continues laws e guess logs n v answer memory h low first real is left =
    let run : IsItsPlainRun e n v (logs n) answer memory = real-plain laws e guess n v (logs n) answer memory h real is (may-begin e logs n v memory first left) in
    record { same = run.same; left = λ value state ends. left-more laws e h logs n v answer memory value state low left run ends }

-- ---- all blocks

-- chained runs come to this, and leave the memory as the logs do
pub record CameTo (e : Entry) (logs : ℕ → List Event) (values : List Carried) (result : Result Carried Trap) (c : Chained) : Type 0 where
  pub values_are : values ≡ c.values
  pub result_is : result ≡ c.result
  pub left : (value : Carried) → result ≡ Ok value → IsLeftBy e logs e.header.blocks c.memory

chain-value : (e : Entry) (logs : ℕ → List Event) (v next : Carried) (state : State) (values : List Carried) (result : Result Carried Trap) (x : Ending Carried) (memory : List ℤ) (others : Carried → Chained) → x ≡ Value next state → CameTo e logs values result (others next) → CameTo e logs (v ∷ values) result (chained_on v x memory others)
chain-value e logs v next state values result x memory others is c =
    subst (λ y. CameTo e logs (v ∷ values) result (chained_on v y memory others)) (sym is)
    (record { values_are = ap (λ l. v ∷ l) c.values_are; result_is = c.result_is; left = c.left })

chain-trap : (e : Entry) (logs : ℕ → List Event) (v : Carried) (trap : Trap) (output : List ℕ) (x : Ending Carried) (memory : List ℤ) (others : Carried → Chained) → x ≡ Trapped trap output → CameTo e logs (v ∷ []) (Err trap) (chained_on v x memory others)
chain-trap e logs v trap output x memory others is =
    subst (λ y. CameTo e logs (v ∷ []) (Err trap) (chained_on v y memory others)) (sym is)
    (record { values_are = refl; result_is = refl; left = λ value wrong. err-ok trap value wrong })
  where
    err-ok : {A : Type 0} (t : Trap) (w : Carried) → ◌≡◌ {A = Result Carried Trap} (Err t) (Ok w) → A
    err-ok t w wrong = cc

pub next-number : (e : Entry) (n : ℕ) → (number_of e n +ℤ pos 1) ≡ number_of e (suc n)
next-number e n = omega (arith, ints)

pub come-plain : BlockLaws → (e : Entry) → IsEntry e → (guess : ℕ → Carried) (logs : ℕ → List Event) → ((n : ℕ) → n < e.header.blocks → IsConsistent (logs n) e.memory)
    → {n : ℕ} {v : Carried} {values : List Carried} {result : Result Carried Trap} → LogsComeTo e guess logs n v values result
    → (count : ℕ) → n + count ≡ e.header.blocks → (n ≡ 0 → v ≡ e.header.start) → (memory : List ℤ) → IsLeftBy e logs n memory
    → CameTo e logs values result (chained (environment_of e.program e.input) e.construct e.slots n count (number_of e n) v memory)
come-plain laws e h guess logs is {n} {v} (no_more_blocks all) zero size first memory left =
    record { values_are = refl; result_is = refl; left = λ value same. subst (λ k. IsLeftBy e logs k memory) all left }
come-plain laws e h guess logs is {n} {v} (no_more_blocks all) (suc count) size first memory left = absurd (omega (arith, all, size))
come-plain laws e h guess logs is {n} {v} (gave_value next state low real rest) zero size first memory left = absurd (omega (arith, low, size))
come-plain laws e h guess logs is {n} {v} (gave_value {values = values} {result = result} next state low real rest) (suc count) size first memory left =
    let g = continues laws e guess logs n v (Value next state) memory h low first real (is n low) left in
    chain-value e logs v next state values result (plain_answer (asks_at e n v) memory) (plain_memory (asks_at e n v) memory) _ g.same
    (subst (λ b. CameTo e logs values result (chained (environment_of e.program e.input) e.construct e.slots (suc n) count b next (plain_memory (asks_at e n v) memory))) (sym (next-number e n))
    (come-plain laws e h guess logs is rest count (omega (arith, size)) (λ wrong. absurd (omega (arith, wrong))) (plain_memory (asks_at e n v) memory) (g.left next state refl)))
come-plain laws e h guess logs is {n} {v} (gave_trap trap output low real later) zero size first memory left = absurd (omega (arith, low, size))
come-plain laws e h guess logs is {n} {v} (gave_trap trap output low real later) (suc count) size first memory left =
    let g = continues laws e guess logs n v (Trapped trap output) memory h low first real (is n low) left in
    chain-trap e logs v trap output (plain_answer (asks_at e n v) memory) (plain_memory (asks_at e n v) memory) _ g.same

pub logs-plain : BlockLaws → (e : Entry) (guess : ℕ → Carried) (logs : ℕ → List Event) (values : List Carried) (result : Result Carried Trap) → IsEntry e → LogsComeTo e guess logs 0 e.header.start values result → ((n : ℕ) → n < e.header.blocks → IsConsistent (logs n) e.memory) → AreThePlainRun e logs values result
logs-plain laws e guess logs values result h come is =
    let c = come-plain laws e h guess logs is come e.header.blocks (omega arith) (λ z. refl) e.memory (left-first e logs) in
    let low : number_of e 0 ≡ e.header.low = omega (arith, ints) in
    let d : CameTo e logs values result (plain_blocks e) =
    subst (λ b. CameTo e logs values result (chained (environment_of e.program e.input) e.construct e.slots 0 e.header.blocks b e.header.start e.memory)) low c in
    record { same_values = d.values_are; same_result = d.result_is; left = d.left }

-- ---- the logs of all blocks

pub come-within : (e : Entry) → IsEntry e → (guess : ℕ → Carried) (logs : ℕ → List Event)
    → {n : ℕ} {v : Carried} {values : List Carried} {result : Result Carried Trap} → LogsComeTo e guess logs n v values result
    → (k : ℕ) → n ≤ k → k < e.header.blocks → AreWithin (own e k) (logs k)
come-within e h guess logs {n} (no_more_blocks all) k from low = absurd (omega (arith, all, from, low))
come-within e h guess logs {n} {v} (gave_value next state room real rest) k from low = cases (alike k n)
    (λ same. subst (λ x. AreWithin (own e x) (logs x)) (sym same) (real-within e h guess n v (logs n) (Value next state) real))
    (λ ne. come-within e h guess logs rest k (omega (arith, from, ne)) low)
come-within e h guess logs {n} {v} (gave_trap trap output room real later) k from low = cases (alike k n)
    (λ same. subst (λ x. AreWithin (own e x) (logs x)) (sym same) (real-within e h guess n v (logs n) (Trapped trap output) real))
    (λ ne. attempt-within e h k (begins_at e guess k) 1 (logs k) (later k (omega (arith, from, ne)) low))

-- other logs that are the same
pub come-same : (e : Entry) (guess : ℕ → Carried) (logs others : ℕ → List Event) → ((n : ℕ) → n < e.header.blocks → logs n ≡ others n)
    → {n : ℕ} {v : Carried} {values : List Carried} {result : Result Carried Trap} → LogsComeTo e guess logs n v values result → LogsComeTo e guess others n v values result
come-same e guess logs others same (no_more_blocks all) = no_more_blocks all
come-same e guess logs others same {n} {v} (gave_value next state low real rest) =
    gave_value next state low (subst (λ l. IsRealLog e guess n v l (Value next state)) (same n low) real) (come-same e guess logs others same rest)
come-same e guess logs others same {n} {v} (gave_trap trap output low real later) =
    gave_trap trap output low (subst (λ l. IsRealLog e guess n v l (Trapped trap output)) (same n low) real)
    (λ k from below. subst (IsGuessedLog e guess k) (same k below) (later k from below))
