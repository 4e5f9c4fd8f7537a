-- One file of a batch, at the exits of its run.
use Rattle.std.specs.Prelude.{Ok, Err}
use Rattle.std.proofs.Common.{◌≡◌, ◌⊎◌, inl, inr, ℕ, ◌≤◌, ◌<◌, List, [], ◌∷◌, length, map, refl, sym, ap, subst, ◌∙◌, Option, Some, None, arith}
use Rattle.std.proofs.lemmas.List.{append-nil}
use Rattle.spf_ast.specs.Syntax.{Program}
use Rattle.spf_ast.specs.Program.{Outcome, outcome, cell_count_of, max_cells}
use Rattle.spf_exec_instance.specs.RunErrors.{counted}
use Rattle.spf_guess_statistics.specs.declared.stats.Stats.{Stats}
use Rattle.spf_guess_statistics.specs.Guess.{Hosts}
use Rattle.spf_guess_statistics.specs.Statistics.{tally}
use Rattle.spf_guess.specs.Answers.{WereTold}
use Rattle.spf_engine.specs.Errors.{IsCauseOf}
use Rattle.spf_engine.specs.Runs.{WereToldFirst}
use Rattle.spf_edge.specs.Entries.{Entry}
use Rattle.spf_edge.specs.Faults.{Rose}
use Rattle.spf_edge.specs.Fetches.{FilesState, AreMade}
use Rattle.spf_edge.specs.Puts.{SinkState}
use Rattle.spf_edge_pieces.specs.Pieces.{IsPutInPieces}
use Rattle.spf_batch.specs.Text.{answer_of}
use Rattle.spf_batch.specs.Batch.{file_answer}
use Rattle.spf_batch.specs.World.{World, world, fetch_giving, ArePut, IsPutInPart}
use Rattle.spf_batch.specs.One.{IsUnfetched, IsPutError, IsRun, HasRunInPart, IsStoppedBy, error_for}
use Rattle.spf_batch.specs.declared.error.BatchError.{BatchError}
use Rattle.spf_batch.specs.declared.error.BatchError.TheVariants as stop
use Rattle.spf_engine.specs.declared.error.EngineError.TheVariants.{TooManyCells, NoHost, OutOfMemory}
use Rattle.spf_engine.specs.declared.error.EngineError.{EngineError}

-- ---- putting

-- bytes that were put in pieces are an answer that was put
pub one-put : (bytes : List ℕ) (before now : SinkState) → IsPutInPieces bytes (Ok tt) before now → before.faults ≤ now.faults → ArePut (bytes ∷ []) before now
one-put bytes before now p later = record {
  pieces = p.pieces;
  cut = (p.pieces, [], sym (append-nil p.pieces), p.cut, refl);
  taken = p.whole;
  later = later;
}

-- ---- the exits

-- hosts that were told nothing
untold : (hosts : Hosts) → WereTold hosts [] hosts
untold hosts host pairs block = refl

-- no host is missing
stopped-host : (p : Program) (name : List ℕ) (place cells limit number : ℕ) (missing : Option ℕ) (before now : World) (hosts then : Hosts)
    → missing ≡ None → IsCauseOf cells limit missing hosts then (NoHost number) → IsStoppedBy p name place before now (stop.NoHost number)
stopped-host p name place cells limit number missing before now hosts then none why = none-some (sym none ∙ why.1)
  where
    none-some : None ≡ Some number → ⊥
    none-some e = cc

-- a run that reached its end didn't have too many cells
pub fits : (cells limit : ℕ) → (limit < cells → ⊥) → cells ≤ limit
fits cells limit few = by_order (order cells limit)
  where
    order : (m n : ℕ) → (m ≤ n) ⊎ (n < m)
    order m n = grind arith

    by_order : (cells ≤ limit) ⊎ (limit < cells) → cells ≤ limit
    by_order (inl l) = l
    by_order (inr l) = absurd (few l)

-- the file can't be fetched
pub stopped-fetch : (p : Program) (name : List ℕ) (place : ℕ) (old new : FilesState) (out : SinkState) (hosts : Hosts) (error : BatchError)
    → IsUnfetched name place old new error → IsStoppedBy p name place (world old out hosts) (world new out hosts) error
stopped-fetch p name place old new out hosts (stop.Fetch at) h = (h.0, record { put = refl; told = untold hosts }, h.1)
stopped-fetch p name place old new out hosts (stop.TooLong at) h = (h.0, record { put = refl; told = untold hosts }, h.1)
stopped-fetch p name place old new out hosts (stop.TooManyCells at count) h = absurd h
stopped-fetch p name place old new out hosts (stop.NoHost number) h = absurd h
stopped-fetch p name place old new out hosts stop.Put h = absurd h
stopped-fetch p name place old new out hosts stop.OutOfMemory h = inl (record { put = refl; told = untold hosts }, h)

-- it has too many cells
stopped-cells : (p : Program) (name content input : List ℕ) (place count : ℕ) (missing : Option ℕ) (old new : FilesState) (out : SinkState) (hosts now : Hosts)
    → AreMade old new (fetch_giving name (Ok content) ∷ []) → input ≡ content
    → IsCauseOf (cell_count_of p (length input)) (max_cells p) missing hosts now (TooManyCells count)
    → IsStoppedBy p name place (world old out hosts) (world new out now) (stop.TooManyCells place count)
stopped-cells p name content input place count missing old new out hosts now made same why = (
  refl,
  record { put = refl; told = why.2 },
  record {
    content = input;
    fetched = subst (λ c. AreMade old new (fetch_giving name (Ok c) ∷ [])) (sym same) made;
    many = why.0;
    count_is = why.1;
  },
)

-- memory ran out before anything was put
pub stopped-short : (p : Program) (name content input : List ℕ) (place : ℕ) (old new : FilesState) (out : SinkState) (hosts now : Hosts)
    → AreMade old new (fetch_giving name (Ok content) ∷ []) → input ≡ content → WereToldFirst hosts p input now
    → IsStoppedBy p name place (world old out hosts) (world new out now) stop.OutOfMemory
stopped-short p name content input place old new out hosts now made same first = inr (inl (record {
  content = input;
  fetched = subst (λ c. AreMade old new (fetch_giving name (Ok c) ∷ [])) (sym same) made;
  put = refl;
  told_first = first;
}))

-- the run was not begun, or memory ran out in it
pub stopped-run : (p : Program) (name content input : List ℕ) (place : ℕ) (missing : Option ℕ) (old new : FilesState) (out : SinkState) (hosts now : Hosts) (error : EngineError) (left : BatchError)
    → AreMade old new (fetch_giving name (Ok content) ∷ []) → input ≡ content → missing ≡ None
    → IsCauseOf (cell_count_of p (length input)) (max_cells p) missing hosts now error → WereToldFirst hosts p input now → left ≡ error_for place error
    → IsStoppedBy p name place (world old out hosts) (world new out now) left
stopped-run p name content input place missing old new out hosts now error left made same none why first is =
    subst (λ e. IsStoppedBy p name place (world old out hosts) (world new out now) e) (sym is) (by_error error why)
  where
    by_error : (error : EngineError) → IsCauseOf (cell_count_of p (length input)) (max_cells p) missing hosts now error → IsStoppedBy p name place (world old out hosts) (world new out now) (error_for place error)
    by_error (TooManyCells count) why = stopped-cells p name content input place count missing old new out hosts now made same why
    by_error (NoHost number) why = stopped-host p name place (cell_count_of p (length input)) (max_cells p) number missing (world old out hosts) (world new out now) hosts now none why
    by_error OutOfMemory why = stopped-short p name content input place old new out hosts now made same first

-- hosts that were told all were told the first of it
pub all-first : (hosts now : Hosts) (p : Program) (input : List ℕ) → WereTold hosts (tally hosts p input).telling now → WereToldFirst hosts p input now
all-first hosts now p input told = record { telling = (tally hosts p input).telling; more = []; all = append-nil (tally hosts p input).telling; told = told }

-- what was run of the file, once it was fetched and its hosts were told
module _ (p : Program) (name content input bytes : List ℕ) (o : Outcome) (old new : FilesState) (out out_now : SinkState) (hosts now : Hosts)
    (made : AreMade old new (fetch_giving name (Ok content) ∷ [])) (same : input ≡ content) (few : cell_count_of p (length input) ≤ max_cells p)
    (told : WereTold hosts (tally hosts p input).telling now) (is : bytes ≡ answer_of name o) (came : o ≡ outcome p input) where
  answer_is : bytes ≡ file_answer p (record { name = name; content = input })
  answer_is = is ∙ ap (answer_of name) came

  -- its answer was put
  pub has-run : (stats : Stats) → stats ≡ (tally hosts p input).stats → ArePut (bytes ∷ []) out out_now → IsRun p name (world old out hosts) (world new out_now now) stats
  has-run stats stats_are put = (
    input,
    record {
      fetched = subst (λ c. AreMade old new (fetch_giving name (Ok c) ∷ [])) (sym same) made;
      few = few;
      put = subst (λ b. ArePut (b ∷ []) out out_now) answer_is put;
      told = told;
    },
    stats_are,
  )

  in-part : IsPutInPart bytes out out_now → HasRunInPart p (record { name = name; content = input }) (world old out hosts) (world new out_now now)
  in-part part = record {
    fetched = subst (λ c. AreMade old new (fetch_giving name (Ok c) ∷ [])) (sym same) made;
    few = few;
    put = subst (λ b. IsPutInPart b out out_now) answer_is part;
    told = told;
  }

  -- its answer was put in part
  pub stopped-put : (place : ℕ) (error : BatchError) → IsPutError (Rose out.faults out_now.faults) error → IsPutInPart bytes out out_now
      → IsStoppedBy p name place (world old out hosts) (world new out_now now) error
  stopped-put place (stop.Fetch at) cause part = absurd cause
  stopped-put place (stop.TooLong at) cause part = absurd cause
  stopped-put place (stop.TooManyCells at count) cause part = absurd cause
  stopped-put place (stop.NoHost number) cause part = absurd cause
  stopped-put place stop.Put cause part = (cause, (input, in-part part))
  stopped-put place stop.OutOfMemory cause part = inr (inr (input, in-part part))
