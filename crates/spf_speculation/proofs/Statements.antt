-- A speculative run means the statement of its construct.
use Rattle.std.proofs.Common.{◌≡◌, ℕ, List, length, sym, ap, ◌∙◌, subst}
use Rattle.std.specs.Prelude.{Result}
use Rattle.spf_ast.specs.declared.outcome.Trap.{Trap}
use Rattle.spf_ast.specs.Carried.{Carried}
use Rattle.spf_ast.specs.Event.{after}
use Rattle.spf_ast.specs.Interaction.{State}
use Rattle.spf_ast.specs.Syntax.{Statement}
use Rattle.spf_ast.specs.Meaning.{statement_means}
use Rattle.spf_ast.specs.Plain.{plain_memory}
use Rattle.spf_ast.specs.Program.{extents_of}
use Rattle.spf_ast.specs.Construct.{carried_of, Moment, plainly, header_means}
use Rattle.spf_ast.specs.Lawful.{Scope}
use Rattle.spf_ast_laws.specs.Chained.{Chained, chained, is_trap, IsSettledAs, IsItsBlocks, ConstructsAreTheirBlocks}
use Rattle.spf_speculation.specs.Steps.{Step, events_of}
use Rattle.spf_speculation_entry.specs.Entry.{Entry, IsEntry, plain_blocks}
use Rattle.spf_speculation.specs.Runs.{IsSpeculativeRun}
use Rattle.spf_speculation.specs.Laws.{IsThePlainRun}
use Rattle.spf_speculation.specs.Statements.{environment_at, IsReached, IsTheStatement}
use Rattle.spf_speculation.proofs.Blocks.{BlockLaws}
use Rattle.spf_speculation.proofs.Runs.{run-plain}

its-blocks : ConstructsAreTheirBlocks → (e : Entry) (scope : Scope) (line : ℕ) (s : Statement) (m : Moment) (left entry : State) → IsReached e scope line s m left entry → IsItsBlocks (environment_at e) scope.visible line s e.construct m e.header left entry
its-blocks constructs e scope line s m left entry h =
    constructs h.names scope line s e.construct h.is h.lawful h.declared h.alone
    e.input (extents_of e.program (length e.input)) e.program.functions h.silent (length e.program.functions)
    m e.header left entry h.header h.alike

-- the blocks that are chained there are those of the entry
same-blocks : (e : Entry) (scope : Scope) (line : ℕ) (s : Statement) (m : Moment) (left entry : State) → IsReached e scope line s m left entry
    → chained (environment_at e) e.construct entry.slots 0 e.header.blocks e.header.low e.header.start (plain_memory (header_means (environment_at e) e.construct m.state) m.memory) ≡ plain_blocks e
same-blocks e scope line s m left entry h =
    ap (λ l. chained (environment_at e) e.construct l 0 e.header.blocks e.header.low e.header.start (plain_memory (header_means (environment_at e) e.construct m.state) m.memory)) h.slots
    ∙ ap (λ x. chained (environment_at e) e.construct e.slots 0 e.header.blocks e.header.low e.header.start x) h.memory

pub run-statement : BlockLaws → ConstructsAreTheirBlocks → (e : Entry) (guess : ℕ → Carried) (steps : List Step) (values : List Carried) (result : Result Carried Trap) (scope : Scope) (line : ℕ) (s : Statement) (m : Moment) (left entry : State) → IsEntry e → IsReached e scope line s m left entry → IsSpeculativeRun e guess steps values result → IsTheStatement e scope line s m left entry steps values result
run-statement laws constructs e guess steps values result scope line s m left entry h there run =
    let p : IsThePlainRun e values result (after (events_of steps) e.memory) = run-plain laws e guess steps values result h run in
    let b : IsItsBlocks (environment_at e) scope.visible line s e.construct m e.header left entry = its-blocks constructs e scope line s m left entry there in
    let same = same-blocks e scope line s m left entry there in
    let result_is = ap (λ (c : Chained). c.result) same ∙ sym p.same_result in
    record {
      settled = subst (λ r. IsSettledAs scope.visible entry (carried_of e.construct) r (plainly (statement_means (environment_at e) line s) m)) result_is b.settled;
      memory = λ value ends. p.same_memory value ends ∙ ap (λ (c : Chained). c.memory) (sym same) ∙ sym b.memory;
      reals = p.same_values ∙ ap (λ (c : Chained). c.values) (sym same) ∙ sym b.values;
      trapped = ap is_trap (sym result_is) ∙ sym b.trapped;
    }
