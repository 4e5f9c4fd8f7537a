-- A construct that a walk passes: its guesses, its real rows, and what its section is read with.
use Rattle.std.proofs.Common.{◌≡◌, ℕ, zero, suc, ◌+◌, ◌-◌, ◌≤◌, ◌<◌, List, [], ◌∷◌, length, map, drop, ℤ, pos, ◌+ℤ◌, refl, sym, ap, ◌∙◌, subst, arith}
use Rattle.std.specs.Prelude.{Some, slice_get}
use Rattle.std.specs.List.{All}
use Rattle.std.proofs.lemmas.List.{length-take-le}
use Rattle.spf_ast.specs.declared.syntax.Program as code_program
use Rattle.spf_ast.specs.Carried.{Carried}
use Rattle.spf_ast.specs.Interaction.{Ending, Value, Trapped}
use Rattle.spf_ast.specs.Meaning.{Environment}
use Rattle.spf_ast.specs.Syntax.{Program}
use Rattle.spf_ast.specs.View.{program}
use Rattle.spf_ast.specs.Plain.{plain_answer, plain_memory}
use Rattle.spf_ast.specs.Program.{environment_of}
use Rattle.spf_ast.specs.Construct.{Construct, fold, pair, Header, constructs_in, part_of}
use Rattle.spf_ast.specs.ConstructView.{construct as seen_construct}
use Rattle.spf_ast_laws.specs.Chained.{Chained, chained, chained_on, block_asks}
use Rattle.spf_exec_instance.specs.Instance.{program_of}
use Rattle.spf_exec_instance.specs.Layout.{LayoutValue, IsLayoutOf}
use Rattle.spf_exec.specs.declared.pieces.Header as code_header
use Rattle.spf_exec.specs.Pieces.{RunState, IsStateOf, seen_header}
use Rattle.spf_chain.specs.declared.block.Settled.{Settled}
use Rattle.spf_chain.specs.Finishing.{result_as}
use Rattle.spf_engine_laws.specs.Passed.{PassedConstruct, where_blocks}
use Rattle.spf_engine_laws.specs.Progress.{BlocksComeTo}
use Rattle.spf_replay.specs.Plainly.{AreRunPlainly}
use Rattle.spf_region.specs.declared.span.Span.{Span}
use Rattle.spf_region.specs.Cells.{cells_at}
use Rattle.spf_check_rules.specs.Rules.{may_write}
use Rattle.spf_check_rules.specs.Freedom.{IsRollbackFree}
use Rattle.spf_check.specs.Checking.{IsFree}
use Rattle.spf_check.specs.Plans.{AreBlocksOf, IsPlanOf}
use Rattle.spf_guess_statistics.specs.declared.guess.Guess as code_guess
use Rattle.spf_guess_statistics.specs.Guess.{Guess}
use Rattle.spf_guess_statistics.specs.Statistics.{statistics_with}
use Rattle.spf_engine_construct.proofs.Counting.{counts-are}
use Rattle.spf_engine_construct.specs.Guesses.{seen_guess, guesses_from, paired, counts_of}
use Rattle.spf_speculation_entry.specs.Entry.{Entry, IsEntry, HasItsBlocks, plain_blocks}
use Rattle.spf_replay.specs.Copying.{HasOwnSpans}
use Rattle.spf_replay_walk.specs.declared.position.Position.{Position}
use Rattle.spf_replay_walk.specs.Positions.{entry_at, IsAtConstruct}
use Rattle.spf_replay_walk.specs.Visiting.{AreGuesses}

-- ---- guesses

guess-at : (items : List code_guess.Guess) (guess : ℕ → Guess) (first count : ℕ) → map seen_guess items ≡ guesses_from guess first count
    → (n : ℕ) (g : code_guess.Guess) → slice_get items n ≡ Some g → seen_guess g ≡ guess (first + n)
guess-at [] guess first count h n g at = cc
guess-at (x ∷ items) guess first zero h n g at = cc
guess-at (x ∷ items) guess first (suc count) h zero g at =
    let same : x ≡ g = cc in
    let here : first ≡ first + 0 = omega arith in
    ap seen_guess (sym same) ∙ ap (head_or (seen_guess x)) h ∙ ap guess here
  where
    head_or : Guess → List Guess → Guess
    head_or d [] = d
    head_or d (g ∷ gs) = g
guess-at (x ∷ items) guess first (suc count) h (suc n) g at =
    let there : suc first + n ≡ first + suc n = omega arith in
    guess-at items guess (suc first) count (ap (drop 1) h) n g at ∙ ap guess there

pub are-guesses : (items : List code_guess.Guess) (guess : ℕ → Guess) (count : ℕ) → map seen_guess items ≡ guesses_from guess 1 count → AreGuesses items (λ n. (guess n).value)
are-guesses items guess count h = λ n g at.
    let next : 1 + n ≡ suc n = omega arith in
    ap (λ (k : Guess). k.value) (guess-at items guess 1 count h n g at) ∙ ap (λ k. (guess k).value) next

-- ---- real rows

few-values : (g : Environment) (c : Construct) (slots : List ℤ) (n count : ℕ) (b : ℤ) (v : Carried) (m : List ℤ) → length (chained g c slots n count b v m).values ≤ count
few-values g c slots n zero b v m = omega arith
few-values g c slots n (suc count) b v m =
    go (plain_answer (block_asks g c slots n b v) m) (λ next. chained g c slots (suc n) count (b +ℤ pos 1) next (plain_memory (block_asks g c slots n b v) m))
    (λ next. few-values g c slots (suc n) count (b +ℤ pos 1) next (plain_memory (block_asks g c slots n b v) m))
  where
    go : (e : Ending Carried) (others : Carried → Chained) → ((next : Carried) → length (others next).values ≤ count) → length (chained_on v e (plain_memory (block_asks g c slots n b v) m) others).values ≤ suc count
    go (Value next s) others h = let k = h next in omega (arith, k)
    go (Trapped t o) others h = omega arith

-- no more blocks begin than there are
pub few-reals : (e : Entry) (reals : List Carried) → reals ≡ (plain_blocks e).values → length reals ≤ e.header.blocks
few-reals e reals is =
    subst (λ (l : List Carried). length l ≤ e.header.blocks) (sym is)
    (few-values (environment_of e.program e.input) e.construct e.slots 0 e.header.blocks e.header.low e.header.start e.memory)

-- they are counted beside their guesses
pub counted-are : (guess : ℕ → Guess) (guesses : List code_guess.Guess) (reals : List Carried) (e : Entry) → map seen_guess guesses ≡ guesses_from guess 1 (e.header.blocks - 1)
    → reals ≡ (plain_blocks e).values → 1 ≤ e.header.blocks
    → counts_of (length reals) (paired (map seen_guess guesses) (drop 1 reals)) ≡ statistics_with guess (plain_blocks e).values
counted-are guess guesses reals e taken is some =
    let few = few-reals e reals is in
    ap (λ l. counts_of (length reals) (paired l (drop 1 reals))) taken ∙ counts-are guess (e.header.blocks - 1) reals (omega (arith, few, some)) ∙ ap (statistics_with guess) is

-- ---- what a section is read with

its-blocks : (c : Construct) (h : Header) → AreBlocksOf c h.blocks → HasItsBlocks c h
its-blocks (fold line head body) h b = tt
its-blocks (pair line head producer consumer) h b = b

-- where an accepted program stands at a construct with blocks, there is an entry
pub is-entry : (checked : code_program.Program) (position : Position) (header : code_header.Header) (cells : List ℤ) → IsAtConstruct (program checked) position header cells → IsFree checked
    → All (λ b. b < 256) position.instance.now.input → IsEntry (entry_at position header cells)
is-entry checked position header cells there free bytes =
    let p = program_of position.instance.now in
    let k = seen_construct position.construct in
    record {
      free = subst (λ (q : Program). slice_get (constructs_in q.main) position.index ≡ Some k → IsRollbackFree q k) (sym there.program) (free position.index k) there.construct;
      bytes = bytes;
      slots = length-take-le (length p.slots) position.frame.now (let size = there.frame in omega (arith, size));
      blocks = its-blocks k (seen_header header) there.blocks;
    }

-- a plan of the construct's blocks has their spans
pub own-spans : (checked : code_program.Program) (position : Position) (header : code_header.Header) (cells : List ℤ) (l : LayoutValue) (low : ℤ) → IsAtConstruct (program checked) position header cells
    → IsLayoutOf (program_of position.instance.now) (length position.instance.now.input) l → low ≡ header.low → (blocks : List (List Span))
    → IsPlanOf (program checked) (seen_construct position.construct) l.extents l.cells low header.blocks blocks
    → HasOwnSpans (entry_at position header cells) blocks
own-spans checked position header cells l low there layout low-is blocks planned =
    let p = program_of position.instance.now in
    let k = seen_construct position.construct in
    let mine : IsPlanOf p k l.extents l.cells header.low header.blocks blocks
    = subst (λ x. IsPlanOf p k l.extents l.cells x header.blocks blocks) low-is
    (subst (λ (q : Program). IsPlanOf q k l.extents l.cells low header.blocks blocks) (sym there.program) planned) in
    record {
      count = mine.count;
      spans = λ n spans cell at.
          (mine.spans n spans at).cells cell ∙ ap (λ x. cells_at x (header.low +ℤ pos n) (may_write p k (part_of k n)) cell) layout.extents;
    }

-- ---- blocks that were run plainly

-- what they came to
pub plain-come : (e : Entry) (reals : List Carried) (settled : Settled) (cells memory : List ℤ) → AreRunPlainly e reals (result_as settled) cells → memory ≡ cells → BlocksComeTo e (result_as settled) memory
plain-come e reals settled cells memory came is = record { result = sym came.result_is; memory_is = λ v ok. is ∙ came.memory_is }

-- a run whose cells were changed is one yet
pub put-run : (p : Program) (size : ℕ) (s now : RunState) (cells : List ℤ) → IsStateOf p size s → now ≡ record s { cells = cells } → length cells ≡ length s.cells → IsStateOf p size now
put-run p size s now cells r is same = subst (IsStateOf p size) (sym is) (record { frame = r.frame; cells = same ∙ r.cells; place = r.place; passed = r.passed })

-- a construct that has blocks is one that was passed
pub some-blocks : (blocks : ℕ) (x : PassedConstruct) → 1 ≤ blocks → x ∷ [] ≡ where_blocks blocks x
some-blocks zero x some = absurd (omega (arith, some))
some-blocks (suc blocks) x some = refl
