-- What a list of events does to a memory that emits nothing.
use Rattle.std.specs.Prelude.{◌≡◌, ◌≤◌, ℕ, List, length, replicate, Option, refl}
use Rattle.std.proofs.Common.{◌∙◌, arith}
use Rattle.std.proofs.lemmas.List.{length-replicate}
use Rattle.spf_ast.specs.Event.{Event}
use Rattle.spf_ast.specs.Meaning.{max_output}
use Rattle.spf_exec_memory.specs.MemoryLaws.{Laws}

-- an output that has as many bytes as it may have
pub record Full : Type 0 where
  pub bytes : List ℕ
  pub full : max_output ≤ length bytes

zeros_are_full : (count zero_byte : ℕ) → count ≤ length (replicate count zero_byte)
zeros_are_full count zero_byte = rw (length-replicate count zero_byte) (omega arith)

-- one such output
pub full_output : Full
full_output = record { bytes = replicate max_output 0; full = zeros_are_full max_output 0 }

-- the events lead the memory that is lent from one state to the other, its output is as before, and it is the same one that is lent
pub record LeadsQuietly {S M N : Type 0} (leads : List Event → M → M → Type 0) (output : M → List ℕ) (lent : S → M)
    (fixed : S → N) (es : List Event) (a b : S) : Type 0 where
  pub led : leads es (lent a) (lent b)
  pub same_output : output (lent b) ≡ output (lent a)
  pub same_fixed : fixed b ≡ fixed a

-- a memory that emits nothing keeps the laws of memories
pub quiet_laws : {S M N : Type 0} {leads : List Event → M → M → Type 0} {stop : M → Option ℕ} (output : M → List ℕ)
    (lent : S → M) (fixed : S → N) → Laws leads stop
    → Laws {M = S} (LeadsQuietly leads output lent fixed) (λ s. stop (lent s))
quiet_laws output lent fixed laws = record {
  empty = λ m. record { led = laws.empty (lent m); same_output = refl; same_fixed = refl };
  joined = λ es fs a b c p q. record {
    led = laws.joined es fs (lent a) (lent b) (lent c) p.led q.led;
    same_output = q.same_output ∙ p.same_output;
    same_fixed = q.same_fixed ∙ p.same_fixed;
  };
  keeps_stop = λ es a b p. laws.keeps_stop es (lent a) (lent b) p.led;
}
