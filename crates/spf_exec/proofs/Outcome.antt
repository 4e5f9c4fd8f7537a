-- The outcome of a performance of a whole program.
use Rattle.std.proofs.Common.{pos, length, replicate, ◌≡◌, ℕ, List, [], ℤ, sym, ◌∙◌}
use Rattle.spf_ast.specs.Interaction.{Ending}
use Rattle.spf_ast.specs.Plain.{plain_answer, plain_memory}
use Rattle.spf_ast.specs.Syntax.{Block, Program}
use Rattle.spf_ast.specs.Meaning.{Environment, main_means}
use Rattle.spf_ast.specs.Program.{environment_of, zeros_of, main_asks, outcome, outcome_from}

-- where `main` is performed from zeros, it ends with the program's outcome
pub whole_outcome : (p : Program) (input : List ℕ) (g : Environment) (main : Block) (slots cells : List ℤ) (out : List ℕ) (a : Ending (Unit {0})) (after_ : List ℤ)
    → g ≡ environment_of p input → main ≡ p.main → slots ≡ replicate (length p.slots) (pos 0) → out ≡ [] → cells ≡ zeros_of p (length input)
    → plain_answer (main_means g main (record { slots = slots; output = out })) cells ≡ a
    → after_ ≡ plain_memory (main_means g main (record { slots = slots; output = out })) cells
    → outcome_from a after_ ≡ outcome p input
whole_outcome p input g main slots cells out a after_ e1 e2 e3 e4 e5 answer memory =
    let tree : main_means g main (record { slots = slots; output = out }) ≡ main_asks p input = λ i. main_means (e1 i) (e2 i) (record { slots = e3 i; output = e4 i }) in
    (λ i. outcome_from (sym answer i) (memory i)) ∙ (λ i. outcome_from (plain_answer (tree i) (e5 i)) (plain_memory (tree i) (e5 i)))
