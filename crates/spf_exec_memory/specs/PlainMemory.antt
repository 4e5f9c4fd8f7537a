-- What a list of events does to a memory of its own.
use Rattle.std.specs.Prelude.{◌≡◌, List, [], ◌∷◌, length, slice_set, None, ℤ, refl}
use Rattle.std.proofs.Common.{sym, ap, ◌∙◌, subst}
use Rattle.spf_ast.specs.Event.{Event, Load, Store, Turn, after, IsConsistent, IsUnpolled}
use Rattle.spf_ast.specs.Plain.{plain_answer, plain_memory}
use Rattle.spf_ast.specs.Interaction.{Interaction, State, Ending, Value, Trapped}
use Rattle.spf_ast.proofs.PlainRuns.{consistent_on, after_on, unpolled_on}
use Rattle.std.specs.Prelude.{Result, Ok, Err}
use Rattle.spf_exec_memory.specs.declared.memory.Halt.{Halt}
use Rattle.spf_exec_memory.specs.declared.memory.Halt.TheVariants as halt
use Rattle.std.proofs.Math.ListN.{length-set}
use Rattle.spf_exec_memory.specs.Growing.{IsPrefix, output_of}
use Rattle.spf_exec_memory.specs.MemoryLaws.{Laws}

-- the events are consistent with the first memory, nothing was polled, and they make the second of it
pub record LeadsPlainly (es : List Event) (m n : List ℤ) : Type 0 where
  pub consistent : IsConsistent es m
  pub unpolled : IsUnpolled es
  pub made : n ≡ after es m

-- a memory of its own keeps the laws of memories
pub plain_laws : {M : Type 0} (cells : M → List ℤ) → Laws {M = M} (λ es a b. LeadsPlainly es (cells a) (cells b)) (λ m. None)
plain_laws cells = record {
  empty = λ m. record { consistent = tt; unpolled = tt; made = refl };
  joined = λ es fs a b c p q. record {
    consistent = consistent_on es fs (cells a) p.consistent (subst (IsConsistent fs) p.made q.consistent);
    unpolled = unpolled_on es fs p.unpolled q.unpolled;
    made = q.made ∙ ap (after fs) p.made ∙ sym (after_on es fs (cells a));
  };
  keeps_stop = λ es a b p. refl;
}

-- events keep the number of cells
after_length : (es : List Event) (m : List ℤ) → length (after es m) ≡ length m
after_length [] m = refl
after_length (Load c w ∷ es) m = after_length es m
after_length (Store c w ∷ es) m = after_length es (slice_set m c w) ∙ length-set m c w
after_length (Turn n ∷ es) m = after_length es m

-- so they do on a memory of its own
pub plain_keeps : (es : List Event) (m n : List ℤ) → LeadsPlainly es m n → length n ≡ length m
plain_keeps es m n p = ap length p.made ∙ after_length es m

-- On a memory of its own a form ends as its tree does from these cells, with the cells after its stores. Where the output lacked memory, it is a prefix of the whole output.
abbrev pub IsPlainOutcome : {A : Type 0} → Result A Halt → Interaction (Ending A) → List ℤ → List ℤ → State → Type 0
IsPlainOutcome (Ok value) tree before cells end = (plain_answer tree before ≡ Value value end) × (cells ≡ plain_memory tree before)
IsPlainOutcome (Err (halt.Trapped trap)) tree before cells end =
    (plain_answer tree before ≡ Trapped trap end.output) × (cells ≡ plain_memory tree before)
IsPlainOutcome (Err (halt.Cancelled seen)) tree before cells end = ⊥
IsPlainOutcome (Err halt.NoMemory) tree before cells end = IsPrefix end.output (output_of (plain_answer tree before))
IsPlainOutcome (Err halt.Broken) tree before cells end = ⊥
