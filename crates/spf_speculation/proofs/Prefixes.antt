-- Validated prefixes grow block by block.
use Rattle.std.proofs.Common.{◌≡◌, ℕ, zero, suc, ◌+◌, ◌<◌, List, [], ◌∷◌, ◌++◌, length, ℤ, refl, sym, ap, ◌∙◌, subst, arith, append_assoc, length-append}
use Rattle.std.specs.Prelude.{Ok, Err, Some, slice_get}
use Rattle.std.proofs.lemmas.List.{append-nil}
use Rattle.std.proofs.lemmas.Int.{ints}
use Rattle.spf_ast.specs.declared.outcome.Trap.{Trap}
use Rattle.spf_ast.specs.Carried.{Carried}
use Rattle.spf_ast.specs.Event.{Event, IsConsistent, word_at, after}
use Rattle.spf_ast.specs.Interaction.{State, Ending, Value, Trapped}
use Rattle.spf_ast.specs.Plain.{plain_answer, plain_memory}
use Rattle.spf_ast.specs.Program.{environment_of}
use Rattle.spf_ast_laws.specs.Chained.{Chained, chained_on, chained}
use Rattle.spf_speculation_entry.specs.Entry.{Entry, IsEntry, number_of, asks_at, plain_blocks}
use Rattle.spf_speculation.specs.Runs.{IsRealLog, LogsComeTo, no_more_blocks, gave_value, gave_trap}
use Rattle.spf_speculation.specs.Laws.{IsLeftBy, ContinuesAt}
use Rattle.spf_speculation.specs.Prefixes.{plain_from, IsTheRest, IsValidatedPrefix, EndsAt, IsComplete}
use Rattle.spf_speculation.proofs.Blocks.{BlockLaws}
use Rattle.spf_speculation.proofs.Chain.{left-first, continues, next-number}

pub prefix-begins : (e : Entry) (guess : ℕ → Carried) (logs : ℕ → List Event) → IsValidatedPrefix e guess logs 0 [] e.header.start e.memory
prefix-begins e guess logs = record {
  within = omega arith;
  count = refl;
  first = λ z. refl;
  come = λ others same later result c. c;
  left = left-first e logs;
  rest = λ count size.
      let low : e.header.low ≡ number_of e 0 = omega (arith, ints) in
      let all : e.header.blocks ≡ count = omega (arith, size) in
      subst (λ b. IsTheRest e [] (chained (environment_of e.program e.input) e.construct e.slots 0 count b e.header.start e.memory)) low
      (subst (λ k. IsTheRest e [] (chained (environment_of e.program e.input) e.construct e.slots 0 k e.header.low e.header.start e.memory)) all
      (record { all_values = refl; end = refl; memory = refl }));
}

-- one block of the rest
rest-value : (e : Entry) (values : List Carried) (v next : Carried) (state : State) (x : Ending Carried) (memory : List ℤ) (others : Carried → Chained) → x ≡ Value next state → IsTheRest e values (chained_on v x memory others) → IsTheRest e (values ++ v ∷ []) (others next)
rest-value e values v next state x memory others is r =
    let s : IsTheRest e values (chained_on v (Value next state) memory others) = subst (λ y. IsTheRest e values (chained_on v y memory others)) is r in
    record { all_values = s.all_values ∙ sym (append_assoc values (v ∷ []) (others next).values); end = s.end; memory = s.memory }

rest-trap : (e : Entry) (values : List Carried) (v : Carried) (trap : Trap) (output : List ℕ) (x : Ending Carried) (memory : List ℤ) (others : Carried → Chained) → x ≡ Trapped trap output → IsTheRest e values (chained_on v x memory others) → ((plain_blocks e).values ≡ values ++ v ∷ []) × ((plain_blocks e).result ≡ Err trap)
rest-trap e values v trap output x memory others is r =
    let s : IsTheRest e values (chained_on v (Trapped trap output) memory others) = subst (λ y. IsTheRest e values (chained_on v y memory others)) is r in
    (s.all_values, s.end)

pub prefix-grows : BlockLaws → (e : Entry) (guess : ℕ → Carried) (logs : ℕ → List Event) (n : ℕ) (values : List Carried) (v : Carried) (memory : List ℤ) (next : Carried) (state : State) → IsEntry e → IsValidatedPrefix e guess logs n values v memory → n < e.header.blocks → IsRealLog e guess n v (logs n) (Value next state) → IsConsistent (logs n) e.memory → IsValidatedPrefix e guess logs (suc n) (values ++ v ∷ []) next (plain_memory (asks_at e n v) memory)
prefix-grows laws e guess logs n values v memory next state h prefix low real is =
    let g : ContinuesAt e logs n v (Value next state) memory = continues laws e guess logs n v (Value next state) memory h low prefix.first real is prefix.left in
    record {
      within = omega (arith, low);
      count = length-append values (v ∷ []) ∙ one-more (length values) prefix.count;
      first = λ wrong. absurd (omega (arith, wrong));
      come = λ others same later result c.
          subst (λ l. LogsComeTo e guess others 0 e.header.start l result) (sym (append_assoc values (v ∷ []) later))
          (prefix.come others (λ k less. same k (omega (arith, less))) (v ∷ later) result
          (gave_value next state low (subst (λ l. IsRealLog e guess n v l (Value next state)) (sym (same n (omega arith))) real) c));
      left = g.left next state refl;
      rest = λ count size.
          subst (λ b. IsTheRest e (values ++ v ∷ []) (chained (environment_of e.program e.input) e.construct e.slots (suc n) count b next (plain_memory (asks_at e n v) memory))) (next-number e n)
          (rest-value e values v next state (plain_answer (asks_at e n v) memory) (plain_memory (asks_at e n v) memory) _ g.same (prefix.rest (suc count) (omega (arith, size))));
    }
  where
    one-more : (k : ℕ) → k ≡ n → k + 1 ≡ suc n
    one-more k same = omega (arith, same)

-- how many blocks there are from this one on
pub gap : (k size : ℕ) → k < size → (count : ℕ) × (k + suc count ≡ size)
gap k zero l = absurd (omega (arith, l))
gap zero (suc size) l = (size, omega arith)
gap (suc k) (suc size) l = let q = gap k size (omega (arith, l)) in let s = q.1 in (q.0, omega (arith, s))

pub prefix-ends : BlockLaws → (e : Entry) (guess : ℕ → Carried) (logs : ℕ → List Event) (n : ℕ) (values : List Carried) (v : Carried) (memory : List ℤ) (trap : Trap) (output : List ℕ) → IsEntry e → IsValidatedPrefix e guess logs n values v memory → n < e.header.blocks → IsRealLog e guess n v (logs n) (Trapped trap output) → IsConsistent (logs n) e.memory → EndsAt e guess logs n (values ++ v ∷ []) trap
prefix-ends laws e guess logs n values v memory trap output h prefix low real is =
    let g : ContinuesAt e logs n v (Trapped trap output) memory = continues laws e guess logs n v (Trapped trap output) memory h low prefix.first real is prefix.left in
    let p = rest-of (gap n e.header.blocks low) g in
    record {
      plain_values = p.0;
      plain_result = p.1;
      come = λ others same later.
          prefix.come others (λ k less. same k (omega (arith, less))) (v ∷ []) (Err trap)
          (gave_trap trap output low (subst (λ l. IsRealLog e guess n v l (Trapped trap output)) (sym (same n (omega arith))) real) later);
    }
  where
    rest-of : (count : ℕ) × (n + suc count ≡ e.header.blocks) → ContinuesAt e logs n v (Trapped trap output) memory → ((plain_blocks e).values ≡ values ++ v ∷ []) × ((plain_blocks e).result ≡ Err trap)
    rest-of q g = rest-trap e values v trap output (plain_answer (asks_at e n v) memory) (plain_memory (asks_at e n v) memory) _ g.same (prefix.rest (suc q.0) q.1)

-- ---- after the last block, and at any one

pub prefix-complete : (e : Entry) (guess : ℕ → Carried) (logs : ℕ → List Event) (n : ℕ) (values : List Carried) (v : Carried) (memory : List ℤ) → IsValidatedPrefix e guess logs n values v memory → n ≡ e.header.blocks → IsComplete e guess logs values v memory
prefix-complete e guess logs n values v memory prefix last =
    let r : IsTheRest e values (plain_from e n 0 v memory) = prefix.rest 0 (omega (arith, last)) in
    record {
      come = subst (λ l. LogsComeTo e guess logs 0 e.header.start l (Ok v)) (append-nil values) (prefix.come logs (λ k low. refl) [] (Ok v) (no_more_blocks last));
      plain_values = r.all_values ∙ append-nil values;
      plain_result = r.end;
      plain_end = r.memory;
      left = subst (λ k. IsLeftBy e logs k memory) last prefix.left;
    }

get-at : (xs : List Carried) (v : Carried) (rest : List Carried) (n : ℕ) → length xs ≡ n → slice_get (xs ++ v ∷ rest) n ≡ Some v
get-at [] v rest n size = subst (λ k. slice_get (v ∷ rest) k ≡ Some v) size refl
get-at (x ∷ xs) v rest n size = subst (λ k. slice_get (x ∷ (xs ++ v ∷ rest)) k ≡ Some v) size (get-at xs v rest (length xs) refl)

-- the first of the rows to come
first-real : (values rest : List Carried) (v : Carried) (x : Ending Carried) (memory : List ℤ) (others : Carried → Chained) (n : ℕ) → length values ≡ n → rest ≡ values ++ (chained_on v x memory others).values → slice_get rest n ≡ Some v
first-real values rest v (Value next state) memory others n size is = ap (λ l. slice_get l n) is ∙ get-at values v (others next).values n size
first-real values rest v (Trapped trap output) memory others n size is = ap (λ l. slice_get l n) is ∙ get-at values v [] n size

pub prefix-real : (e : Entry) (guess : ℕ → Carried) (logs : ℕ → List Event) (n : ℕ) (values : List Carried) (v : Carried) (memory : List ℤ) → IsValidatedPrefix e guess logs n values v memory → n < e.header.blocks → slice_get (plain_blocks e).values n ≡ Some v
prefix-real e guess logs n values v memory prefix low =
    let q = gap n e.header.blocks low in
    first-real values (plain_blocks e).values v (plain_answer (asks_at e n v) memory) (plain_memory (asks_at e n v) memory) _ n prefix.count (prefix.rest (suc q.0) q.1).all_values

pub prefix-earlier : (e : Entry) (guess : ℕ → Carried) (logs others : ℕ → List Event) (n : ℕ) (values : List Carried) (v : Carried) (memory : List ℤ) → IsValidatedPrefix e guess logs n values v memory → ((k : ℕ) → k < n → logs k ≡ others k) → IsValidatedPrefix e guess others n values v memory
prefix-earlier e guess logs others n values v memory prefix same = record {
  within = prefix.within;
  count = prefix.count;
  first = prefix.first;
  come = λ more agree later result c. prefix.come more (λ k low. agree k low ∙ sym (same k low)) later result c;
  left = record {
    size = prefix.left.size;
    inside = λ k cell low mine. prefix.left.inside k cell low mine ∙ ap (λ l. word_at (after l e.memory) cell) (same k low);
    outside = prefix.left.outside;
  };
  rest = prefix.rest;
}
