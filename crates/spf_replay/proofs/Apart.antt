-- An attempt that is recorded stores only cells of its block.
use Rattle.std.proofs.Common.{◌≡◌, ℕ, Bool, true, List, [], ◌∷◌, ◌++◌, Some, ℤ, refl, sym, ap, ◌∙◌, subst, append-nil, Contains}
use Rattle.spf_ast_lemmas.proofs.Members.{first-in, later-in}
use Rattle.spf_ast.specs.Carried.{Carried}
use Rattle.spf_ast.specs.BlockRun.{block_setup, part_asks}
use Rattle.spf_ast.specs.Construct.{part_of}
use Rattle.spf_ast.specs.ConstructView.{construct as seen_construct}
use Rattle.spf_ast.specs.Event.{Event, Load, Store, Turn}
use Rattle.spf_ast.specs.Interaction.{Interaction, Ending, HasReadAll, perform, every_cell}
use Rattle.spf_exec_instance.specs.Frame.{main_slots}
use Rattle.spf_exec_instance.specs.Instance.{program_of}
use Rattle.spf_exec_memory.specs.Performs.{performed_as, IsDecided, state}
use Rattle.spf_exec.specs.BlockRuns.{stop_result}
use Rattle.spf_exec.specs.declared.block_run.BlockRun.{BlockRun}
use Rattle.spf_exec.specs.declared.stop.Stop.{Stop}
use Rattle.spf_region.specs.Cells.{in_spans}
use Rattle.spf_speculation_entry.specs.Entry.{Entry, IsEntry, own, asks_at}
use Rattle.spf_speculation.proofs.Blocks.{setup_at, is-setup}
use Rattle.spf_replay.specs.declared.context.BlockContext.{BlockContext}
use Rattle.spf_replay.specs.Contexts.{IsContextOf}
use Rattle.spf_replay.specs.Recording.{StoresWithin}
use Rattle.spf_replay.proofs.Performing.{is-decided, reads-all}

-- what a block asks in its context
pub asks-in : (e : Entry) (n : ℕ) (context : BlockContext) (block : BlockRun) → IsContextOf e n context block
    → part_asks (program_of context.instance.now) (seen_construct block.construct) block.part
    (block_setup context.instance.now.input (main_slots (program_of context.instance.now) context.frame.now) block.number block.value)
    ≡ asks_at e n block.value
asks-in e n context block s = λ t. part_asks (s.program t) (s.same_construct t) (s.part t) (block_setup (s.input t) (s.slots t) (s.number t) block.value)

-- events whose stores are of some cells
stores-within : (cells : ℕ → Bool) (es : List Event) → ((d : ℕ) (w : ℤ) → Contains es (Store d w) → cells d ≡ true) → StoresWithin cells es
stores-within cells [] h = tt
stores-within cells (Load c v ∷ es) h = stores-within cells es (λ d w i. h d w (later-in (Load c v) (Store d w) es i))
stores-within cells (Store c v ∷ es) h = (h c v (first-in (Store c v) es), stores-within cells es (λ d w i. h d w (later-in (Store c v) (Store d w) es i)))
stores-within cells (Turn k ∷ es) h = stores-within cells es (λ d w i. h d w (later-in (Turn k) (Store d w) es i))

-- an attempt that was performed stores only cells of its block
pub recorded-within : (e : Entry) (n : ℕ) (context : BlockContext) (block : BlockRun) (t : Interaction (Ending Carried)) (s : Stop) (es : List Event) (slots : List ℤ)
    → IsEntry e → IsContextOf e n context block → t ≡ asks_at e n block.value
    → (IsDecided (stop_result s) → (rest : List Event) → perform every_cell [] (Some 1) t (es ++ rest) ≡ performed_as (stop_result s) (state slots []) rest)
    → StoresWithin (in_spans context.spans.now) es
recorded-within e n context block t s es slots h is asks performed =
    let ends : perform every_cell [] (Some 1) t es ≡ performed_as (stop_result s) (state slots []) [] =
    ap (perform every_cell [] (Some 1) t) (sym (append-nil es)) ∙ performed (is-decided s) [] in
    let all = subst (λ x. HasReadAll (perform every_cell [] (Some 1) x es)) asks (subst HasReadAll (sym ends) (reads-all s slots)) in
    subst (λ (cells : ℕ → Bool). StoresWithin cells es) (sym (λ i cell. is.cells cell i))
    (stores-within (own e n) es
    (λ d w i. h.free.stores_its_own (part_of e.construct n) (setup_at e n block.value) es (perform every_cell [] (Some 1) (asks_at e n block.value) es)
    (record { setup = is-setup e h n block.value; stop = Some 1; performed = refl; whole = all }) d w i))
