-- What a construct that was passed leads to, whoever ran its blocks.
use Rattle.std.proofs.Common.{◌≡◌, ℕ, zero, suc, ◌+◌, ◌≤◌, List, [], ◌∷◌, ◌++◌, ℤ, pos, ◌+ℤ◌, length, refl, sym, ap, ◌∙◌, subst, arith}
use Rattle.std.specs.Prelude.{Ok}
use Rattle.std.proofs.lemmas.List.{append-nil}
use Rattle.spf_ast.specs.Carried as carried
use Rattle.spf_ast.specs.Interaction.{State, Ending, Value, Trapped as trapped_at}
use Rattle.spf_ast.specs.Syntax.{Program}
use Rattle.spf_ast.specs.Meaning.{Environment}
use Rattle.spf_ast.specs.Program.{environment_of, Stopped}
use Rattle.spf_ast.specs.Construct.{Construct, fold, pair, Header, header_means, carried_of, Moment, plainly}
use Rattle.spf_ast.specs.Silence.{FunctionsAreSilent}
use Rattle.spf_check.specs.Plans.{AreBlocksOf}
use Rattle.spf_exec.specs.declared.pieces.Header as code_header
use Rattle.spf_exec.specs.Pieces.{RunState, refilled, seen_header}
use Rattle.spf_check_rules.specs.Rules.{KeepsTheRules}
use Rattle.spf_speculation_entry.specs.Entry.{Entry, plain_blocks}
use Rattle.spf_ast_laws.specs.Chained.{chained, is_trap}
use Rattle.spf_exec_instance.specs.Frame.{main_slots}
use Rattle.spf_chain.specs.declared.block.Settled.{Settled}
use Rattle.spf_chain.specs.declared.block.Settled.TheVariants.{Carried, Trapped}
use Rattle.spf_chain.specs.Finishing.{result_as}
use Rattle.spf_engine_construct.specs.declared.construct.ConstructReport.{ConstructReport}
use Rattle.spf_engine_construct.specs.Coming.{ComesTo}
use Rattle.spf_guess_statistics.specs.declared.stats.Stats.{Stats}
use Rattle.spf_guess_statistics.specs.Guess.{Guess, Hosts, Telling, guess_for, tells}
use Rattle.spf_guess_statistics.specs.Statistics.{none, plus, statistics_with}
use Rattle.spf_guess.specs.Answers.{WereTold}
use Rattle.spf_engine_laws.specs.Traces.{Trace}
use Rattle.spf_engine_laws.specs.Passed.{PassedConstruct, where_blocks, passed_from, real_rows_from, OneByOne, IsItsTrace}
use Rattle.spf_engine_laws.specs.Progress.{Progress, HasCome, BlocksComeTo, entry_there, entry_guess, with_construct, past_construct, HasEntered, IsLeftThere}
use Rattle.spf_engine_laws.specs.Laws.{ConstructsSettle, ConstructsEndRuns}
use Rattle.spf_engine.specs.declared.step.Step.{Step}
use Rattle.spf_engine.specs.Runs.{IsProgressAfter, IsSettledBy}

-- ---- blocks of a header

abbrev blocks-in : Ending Header → ℕ
blocks-in (Value h s) = h.blocks
blocks-in (trapped_at t o) = 0

-- a header that is done has the blocks of its construct
pub has-its-blocks : (g : Environment) (c : Construct) (m : Moment) (h : code_header.Header) (s : State) → plainly (header_means g c) m ≡ Value (seen_header h) s → AreBlocksOf c h.blocks
has-its-blocks g (fold line head body) m h s e = tt
has-its-blocks g (pair line head producer consumer) m h s e = let two : 2 ≡ h.blocks = ap blocks-in e in omega (arith, two)

-- ---- where it leads

-- A construct was entered, its blocks came to this, and the run was settled with it. Then the run goes on past it, or
-- has reached its end, with what the construct adds to its progress.
pub goes-past-blocks : ConstructsSettle → ConstructsEndRuns → (hosts : Hosts) (p : Program) (input : List ℕ) (after now last : RunState) (progress : Progress) (c : Construct) (h : Header) (settled : Settled) (taken : Step)
    → HasEntered hosts p input c h after progress → FunctionsAreSilent p.functions → KeepsTheRules p c → IsLeftThere after now
    → BlocksComeTo (entry_there p input c h after) (result_as settled) now.cells → IsSettledBy p c now last settled taken
    → IsProgressAfter hosts p input taken last (past_construct hosts (entry_there p input c h after) progress)
goes-past-blocks settle ends hosts p input after now last progress c h (Carried v) taken e silent keeps left came so =
    subst (λ t. IsProgressAfter hosts p input t last (past_construct hosts (entry_there p input c h after) progress)) (sym so.0)
    (settle hosts p input progress c h after now last v e silent keeps left came so.1)
goes-past-blocks settle ends hosts p input after now last progress c h (Trapped t) taken e silent keeps left came so =
    let later = past_construct hosts (entry_there p input c h after) progress in
    subst (λ x. IsProgressAfter hosts p input x last later) (sym so.0)
    (subst (λ (x : RunState). HasCome hosts p input (Stopped t x.output) later) (sym so.1)
    (subst (λ out. HasCome hosts p input (Stopped t out) later) (sym left.output)
    (ends hosts p input progress c h after t now.cells e silent keeps came)))

-- ---- without blocks

no-blocks-come : (p : Program) (input : List ℕ) (c : Construct) (h : Header) (s : RunState) → h.blocks ≡ 0 → BlocksComeTo (entry_there p input c h s) (Ok h.start) s.cells
no-blocks-come p input c h s none_there = record {
  result = ap (λ n. (chained (environment_of p input) c (main_slots p s.frame) 0 n h.low h.start s.cells).result) none_there;
  memory_is = λ v is. sym (ap (λ n. (chained (environment_of p input) c (main_slots p s.frame) 0 n h.low h.start s.cells).memory) none_there);
}

pub plus-none : (one : Stats) → plus one none ≡ one
plus-none one =
    let blocks : one.blocks + 0 ≡ one.blocks = omega arith in
    let hits : one.hits + 0 ≡ one.hits = omega arith in
    let misses : one.misses + 0 ≡ one.misses = omega arith in
    let blind : one.blind + 0 ≡ one.blind = omega arith in
    λ i. record { blocks = blocks i; hits = hits i; misses = misses i; blind = blind i }

-- it adds nothing
adds-nothing : (p : Program) (input : List ℕ) (c : Construct) (h : Header) (s : RunState) (guess : ℕ → Guess) (progress : Progress) → h.blocks ≡ 0
    → with_construct (entry_there p input c h s) guess progress ≡ progress
adds-nothing p input c h s guess progress none_there =
    let values : (plain_blocks (entry_there p input c h s)).values ≡ []
    = ap (λ n. (chained (environment_of p input) c (main_slots p s.frame) 0 n h.low h.start s.cells).values) none_there in
    let e = entry_there p input c h s in
    let passed : passed_from e guess ≡ []
    = ap (λ n. where_blocks n (record { entry = e; guess = λ k. (guess k).value; reals = real_rows_from e })) none_there in
    let stats : plus progress.stats (statistics_with guess (plain_blocks e).values) ≡ progress.stats
    = ap (λ vs. plus progress.stats (statistics_with guess vs)) values ∙ plus-none progress.stats in
    let told = ap (λ vs. progress.telling ++ tells c h vs) values ∙ append-nil progress.telling in
    let all = ap (λ l. progress.passed ++ l) passed ∙ append-nil progress.passed in
    λ i. record { stats = stats i; telling = told i; passed = all i }

-- a construct without blocks is passed with its start row
pub goes-past-none : ConstructsSettle → ConstructsEndRuns → (hosts : Hosts) (p : Program) (input : List ℕ) (after last : RunState) (progress : Progress) (c : Construct) (h : Header) (taken : Step)
    → HasEntered hosts p input c h after progress → FunctionsAreSilent p.functions → KeepsTheRules p c → h.blocks ≡ 0
    → IsSettledBy p c after last (Carried h.start) taken → IsProgressAfter hosts p input taken last progress
goes-past-none settle ends hosts p input after last progress c h taken e silent keeps none_there so =
    subst (IsProgressAfter hosts p input taken last) (adds-nothing p input c h after (entry_guess hosts progress.telling (entry_there p input c h after)) progress none_there)
    (goes-past-blocks settle ends hosts p input after after last progress c h (Carried h.start) taken e silent keeps
    (record { frame = refl; output = refl; place = refl }) (no-blocks-come p input c h after none_there) so)

-- ---- with blocks that workers ran

carried-as : (s : Settled) (v : carried.Carried) → result_as s ≡ Ok v → s ≡ Carried v
carried-as (Carried w) v is = (let same : w ≡ v = cc in ap Carried same)
carried-as (Trapped t) v is = cc

-- what they came to
pub blocks-come : (e : Entry) (guess : ℕ → Guess) (report : ConstructReport) (memory : List ℤ) → ComesTo e guess report memory → BlocksComeTo e (result_as report.settled) memory
blocks-come e guess report memory c = record { result = c.result; memory_is = λ v is. c.plain_memory v (carried-as report.settled v is) }

one-trace : (blocks : ℕ) (x : PassedConstruct) (trace : Trace) → 1 ≤ blocks → IsItsTrace x trace → OneByOne IsItsTrace (where_blocks blocks x) (trace ∷ [])
one-trace zero x trace some is = absurd (omega (arith, some))
one-trace (suc n) x trace some is = (is, tt)

-- and the trace of their construct
pub its-trace : (e : Entry) (guess : ℕ → Guess) (report : ConstructReport) (memory : List ℤ) → 1 ≤ e.header.blocks → ComesTo e guess report memory
    → OneByOne IsItsTrace (passed_from e guess) (report.trace ∷ [])
its-trace e guess report memory some c =
    one-trace e.header.blocks (record { entry = e; guess = λ n. (guess n).value; reals = real_rows_from e }) report.trace some (record {
      logs = c.logs;
      merging = λ steps merges. record { result = result_as report.settled; run = c.merging steps merges; trapped = ap is_trap (sym c.result) };
    })

-- ---- what blocks came to where a run stands

-- the entry of a construct with these slots and cells, and the guesses there
abbrev pub entry_with : Program → List ℕ → Construct → Header → List ℤ → List ℤ → Entry
entry_with p input c h frame cells = record { program = p; construct = c; input = input; slots = main_slots p frame; memory = cells; header = h }

abbrev pub guess_with : Hosts → List Telling → Program → List ℕ → Construct → Header → List ℤ → List ℤ → ℕ → Guess
guess_with hosts telling p input c h frame cells n = guess_for hosts telling p input c (main_slots p frame) cells (h.low +ℤ pos n)

pub come-as : (hosts : Hosts) (telling : List Telling) (p : Program) (input : List ℕ) (c : Construct) (h : Header) (frame other_frame cells other_cells : List ℤ) (report other_report : ConstructReport) (memory other_memory : List ℤ)
    → frame ≡ other_frame → cells ≡ other_cells → report ≡ other_report → memory ≡ other_memory
    → ComesTo (entry_with p input c h frame cells) (guess_with hosts telling p input c h frame cells) report memory
    → ComesTo (entry_with p input c h other_frame other_cells) (guess_with hosts telling p input c h other_frame other_cells) other_report other_memory
come-as hosts telling p input c h frame other_frame cells other_cells report other_report memory other_memory f k r m came =
    subst (λ x. ComesTo (entry_with p input c h other_frame other_cells) (guess_with hosts telling p input c h other_frame other_cells) other_report x) m
    (subst (λ x. ComesTo (entry_with p input c h other_frame other_cells) (guess_with hosts telling p input c h other_frame other_cells) x memory) r
    (subst (λ x. ComesTo (entry_with p input c h other_frame x) (guess_with hosts telling p input c h other_frame x) report memory) k
    (subst (λ x. ComesTo (entry_with p input c h x cells) (guess_with hosts telling p input c h x cells) report memory) f came)))

-- cells that are filled up with as many words are these words
pub refilled-is : (cells words : List ℤ) → length words ≡ length cells → words ≡ refilled cells words
refilled-is [] [] e = refl
refilled-is [] (w ∷ words) e = absurd (omega (arith, e))
refilled-is (x ∷ cells) [] e = absurd (omega (arith, e))
refilled-is (x ∷ cells) (w ∷ words) e = ap (λ l. w ∷ l) (refilled-is cells words (omega (arith, e)))

-- what was told, by another name
pub retold : (before now : Hosts) (one other : List Telling) → one ≡ other → WereTold before one now → WereTold before other now
retold before now one other same were = subst (λ telling. WereTold before telling now) same were
