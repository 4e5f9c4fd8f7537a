-- Blocks that are run plainly, one by one.
use Rattle.std.proofs.Common.{◌≡◌, ℕ, suc, List, [], ◌∷◌, ◌++◌, Ok, Err, ℤ, pos, refl, sym, ap, ◌∙◌, subst, arith, append_assoc, append-nil}
use Rattle.std.specs.Prelude.{Result, ◌+ℤ◌}
use Rattle.std.proofs.lemmas.Int.{ints}
use Rattle.spf_ast.specs.declared.outcome.Trap.{Trap}
use Rattle.spf_ast.specs.Carried.{Carried}
use Rattle.spf_ast.specs.Interaction.{Ending}
use Rattle.spf_ast.specs.Plain.{plain_memory}
use Rattle.spf_ast.specs.Program.{environment_of}
use Rattle.spf_ast_laws.specs.Chained.{Chained, chained_on, chained}
use Rattle.spf_speculation_entry.specs.Entry.{Entry, number_of, asks_at, plain_blocks}
use Rattle.spf_speculation.specs.Prefixes.{plain_from}
use Rattle.spf_speculation.proofs.Chain.{next-number}
use Rattle.spf_ast.specs.Interaction.{Interaction}
use Rattle.spf_ast.specs.BlockRun.{block_setup, part_asks}
use Rattle.spf_ast.specs.Construct.{part_of}
use Rattle.spf_ast.specs.ConstructView.{construct}
use Rattle.spf_ast.specs.declared.construct.TopConstruct.{TopConstruct}
use Rattle.spf_exec_instance.specs.Frame.{main_slots}
use Rattle.spf_exec_instance.specs.Instance.{InstanceValue, program_of}
use Rattle.spf_exec.specs.declared.block_run.BlockRun.{BlockRun}
use Rattle.spf_exec.specs.declared.pieces.Header.{Header}
use Rattle.spf_replay.specs.Plainly.{BlockGives, AreRunPlainly, entry_from}

-- all blocks come to these real values, followed by what the rest comes to
pub record IsRest (e : Entry) (values : List Carried) (rest : Chained) : Type 0 where
  pub values_are : (plain_blocks e).values ≡ values ++ rest.values
  pub result_is : (plain_blocks e).result ≡ rest.result
  pub memory_is : (plain_blocks e).memory ≡ rest.memory

pub rest-begins : (e : Entry) → IsRest e [] (plain_from e 0 e.header.blocks e.header.start e.memory)
rest-begins e =
    let low : e.header.low ≡ number_of e 0 = omega (arith, ints) in
    subst (λ b. IsRest e [] (chained (environment_of e.program e.input) e.construct e.slots 0 e.header.blocks b e.header.start e.memory)) low
    (record { values_are = refl; result_is = refl; memory_is = refl })

-- one more block
one-block : (e : Entry) (n count : ℕ) (v next : Carried) (m now : List ℤ) → BlockGives (asks_at e n v) m (Ok next) now
    → plain_from e n (suc count) v m ≡ (record { values = v ∷ (plain_from e (suc n) count next now).values; result = (plain_from e (suc n) count next now).result; memory = (plain_from e (suc n) count next now).memory })
one-block e n count v next m now h =
    ap (λ x. chained_on v x (plain_memory (asks_at e n v) m) (λ w. chained (environment_of e.program e.input) e.construct e.slots (suc n) count (number_of e n +ℤ pos 1) w (plain_memory (asks_at e n v) m))) h.0.1
    ∙ (λ i. record {
      values = v ∷ (chained (environment_of e.program e.input) e.construct e.slots (suc n) count (next-number e n i) next (sym h.1 i)).values;
      result = (chained (environment_of e.program e.input) e.construct e.slots (suc n) count (next-number e n i) next (sym h.1 i)).result;
      memory = (chained (environment_of e.program e.input) e.construct e.slots (suc n) count (next-number e n i) next (sym h.1 i)).memory;
    })

last-block : (e : Entry) (n count : ℕ) (v : Carried) (trap : Trap) (m now : List ℤ) → BlockGives (asks_at e n v) m (Err trap) now
    → plain_from e n (suc count) v m ≡ (record { values = v ∷ []; result = Err trap; memory = now })
last-block e n count v trap m now h =
    ap (λ x. chained_on v x (plain_memory (asks_at e n v) m) (λ w. chained (environment_of e.program e.input) e.construct e.slots (suc n) count (number_of e n +ℤ pos 1) w (plain_memory (asks_at e n v) m))) h.0.1
    ∙ (λ i. record { values = v ∷ []; result = Err trap; memory = sym h.1 i })

pub rest-grows : (e : Entry) (values new : List Carried) (n left less : ℕ) (v next : Carried) (m now : List ℤ) → left ≡ suc less → new ≡ values ++ v ∷ []
    → IsRest e values (plain_from e n left v m) → BlockGives (asks_at e n v) m (Ok next) now → IsRest e new (plain_from e (suc n) less next now)
rest-grows e values new n left less v next m now size is h k =
    let step = ap (λ c. plain_from e n c v m) size ∙ one-block e n less v next m now k in
    record {
      values_are = h.values_are ∙ ap (λ (c : Chained). values ++ c.values) step ∙ sym (append_assoc values (v ∷ []) (plain_from e (suc n) less next now).values) ∙ ap (λ l. l ++ (plain_from e (suc n) less next now).values) (sym is);
      result_is = h.result_is ∙ ap (λ (c : Chained). c.result) step;
      memory_is = h.memory_is ∙ ap (λ (c : Chained). c.memory) step;
    }

-- where no block is left, or one trapped
pub rest-ends : (e : Entry) (values : List Carried) (n left : ℕ) (v : Carried) (m : List ℤ) → left ≡ 0 → IsRest e values (plain_from e n left v m) → AreRunPlainly e values (Ok v) m
rest-ends e values n left v m none h =
    let step : plain_from e n left v m ≡ (record { values = []; result = Ok v; memory = m }) = ap (λ c. plain_from e n c v m) none in
    record {
      reals_are = sym (append-nil values) ∙ sym (h.values_are ∙ ap (λ (c : Chained). values ++ c.values) step);
      result_is = sym (h.result_is ∙ ap (λ (c : Chained). c.result) step);
      memory_is = sym (h.memory_is ∙ ap (λ (c : Chained). c.memory) step);
    }

pub rest-traps : (e : Entry) (values new : List Carried) (n left less : ℕ) (v : Carried) (trap : Trap) (m now : List ℤ) → left ≡ suc less → new ≡ values ++ v ∷ []
    → IsRest e values (plain_from e n left v m) → BlockGives (asks_at e n v) m (Err trap) now → AreRunPlainly e new (Err trap) now
rest-traps e values new n left less v trap m now size is h k =
    let step = ap (λ c. plain_from e n c v m) size ∙ last-block e n less v trap m now k in
    record {
      reals_are = is ∙ sym (h.values_are ∙ ap (λ (c : Chained). values ++ c.values) step);
      result_is = sym (h.result_is ∙ ap (λ (c : Chained). c.result) step);
      memory_is = sym (h.memory_is ∙ ap (λ (c : Chained). c.memory) step);
    }

-- what the code's block gives is what the entry's block does
pub gives-at : (i : InstanceValue) (k : TopConstruct) (h : Header) (frame memory : List ℤ) (n : ℕ) (v : Carried) (b : BlockRun) (m now : List ℤ) (r : Result Carried Trap)
    → b.construct ≡ k → b.part ≡ part_of (construct k) n → b.number ≡ h.low +ℤ pos n → b.value ≡ v
    → BlockGives (part_asks (program_of i) (construct b.construct) b.part (block_setup i.input (main_slots (program_of i) frame) b.number b.value)) m r now
    → BlockGives (asks_at (entry_from i k h frame memory) n v) m r now
gives-at i k h frame memory n v b m now r same part number value g =
    subst (λ (t : Interaction (Ending Carried)). BlockGives t m r now)
    (λ j. part_asks (program_of i) (construct (same j)) (part j) (block_setup i.input (main_slots (program_of i) frame) (number j) (value j))) g
