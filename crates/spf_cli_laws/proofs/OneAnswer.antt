-- A list of words has at most one answer, and none is left without one.
use Rattle.std.specs.Prelude.{Option, Some, None, Result, Ok, Err, if◌then◌else◌, bytes_eq, find, option_map}
use Rattle.std.specs.List.{All, AllByRecursion}
use Rattle.std.proofs.Common.{◌≡◌, ◌⊎◌, ◌++◌, ◌≤◌, ◌<◌, ℕ, zero, suc, Bool, true, false, List, [], ◌∷◌, length, map, refl, sym, ap, ◌∙◌, subst, inl, inr, nat_le, arith}
use Rattle.spf_ast.specs.Syntax.{Program}
use Rattle.spf_ast.specs.Program.{Outcome, outcome, cell_count_of, max_cells}
use Rattle.spf_edge.specs.declared.files.FetchError.{FetchError}
use Rattle.spf_edge.specs.declared.files.FetchError.TheVariants.{Missing, Failed, TooLong, OutOfMemory}
use Rattle.spf_edge.specs.Entries.{Entry, lookup}
use Rattle.spf_edge.specs.Fetches.{Fetch, Gives, IsGiven}
use Rattle.spf_cli_answers.specs.Answer.{Answer, not_understood, accepted, printed, text_refused, rule_refused, explained, file_failed, file_too_long, host_missing, not_huf1, not_lex1, not_a_machine, not_a_name, not_a_log, too_many_steps, written, ran, simulated, judged, shown}
use Rattle.spf_apps_formats.specs.declared.generate.Kind.{Kind}
use Rattle.spf_apps_programs.specs.PackBits.{packbits_program}
use Rattle.spf_apps_programs.specs.Huffman.{huffman_program}
use Rattle.spf_apps_programs.specs.Lexer.{lexer_program}
use Rattle.spf_apps_formats.specs.Huf1.{IsHuf1}
use Rattle.spf_apps_formats.specs.Lex1.{IsLex1}
use Rattle.spf_apps_formats.specs.Laws.{Huf1HasOneVerdict, Lex1HasOneVerdict, EachInputIsGeneratedOnce}
use Rattle.spf_apps_machine_text.specs.MachineText.{machine_text}
use Rattle.spf_apps_machine_text.specs.Laws.{MachinesHaveOneText}
use Rattle.spf_guess_statistics.specs.declared.stats.Stats.{Stats}
use Rattle.spf_guess_statistics.specs.Guess.{Hosts}
use Rattle.spf_guess_statistics.specs.Statistics.{tally}
use Rattle.spf_guess.specs.Missing.{missing_host}
use Rattle.spf_speculation.specs.Steps.{Step}
use Rattle.spf_replay_log.specs.declared.log.Step as logged
use Rattle.spf_replay_log.specs.Log.{IsLog}
use Rattle.spf_replay_log.specs.Refusals.{LogBreaksAt}
use Rattle.spf_replay_log.specs.Laws.{BytesAreOneLog, LogsDoNotBreak, LogsBreakOnce, LogsAreOrBreak}
use Rattle.spf_replay.specs.Limits.{max_steps}
use Rattle.spf_replay.specs.SeenSteps.{seen_steps}
use Rattle.spf_replay.specs.Deciding.{IsRun}
use Rattle.spf_replay.specs.Expecting.{expected, IsSchedule, SchedulesOfRunsExist, SchedulesOfRunsAreOne}
use Rattle.spf_replay.specs.declared.verdict.Verdict as log_verdict
use Rattle.spf_replay.specs.declared.verdict.Verdict.TheVariants.{Yes, No}
use Rattle.spf_replay.specs.Verdicts.{Expected, SectionFits, VerdictsAreOne}
use Rattle.spf_replay.specs.Verdicts.{IsVerdict}
use Rattle.spf_replay_sim.specs.Bytes.{bytes_of}
use Rattle.spf_replay_sim.specs.Drawing.{step_count, HasTooManySteps}
use Rattle.spf_ast.specs.Construct.{constructs_in}
use Rattle.spf_batch.specs.Batch.{max_input}
use Rattle.spf_batch_lists.specs.Lists.{AreNames, IsBadAt}
use Rattle.spf_batch_lists.specs.Laws.{ListsHaveOneVerdict}
use Rattle.spf_cli_words.specs.Command.{Command, Run, Check, Explain, Print, Unpack, Unhuff, Lex, Show, Build, Sim, Replay, Batch, Demo, Options, DecodeOptions, Asks}
use Rattle.spf_cli_words.specs.Only.{IsOnly}
use Rattle.spf_cli_words.specs.Laws.{EachAsksForOneOrNone}
use Rattle.spf_cli_answers.specs.Reading.{TextVerdict, Says, Refuses, IsTextVerdict}
use Rattle.spf_cli_answers.specs.Decoded.{Unpacked, Unhuffed, Tokenized}
use Rattle.spf_cli_answers.specs.Course.{Wanted, Is, Both, Either, Course, Ends, Chosen, Unfetched, After, FetchesOr, Fetches}
use Rattle.spf_cli_answers.specs.Batched.{batch_done, FileUnfetched, RunsFiles}
use Rattle.spf_cli_answers.specs.Whole.{Handed, handed, WithText, Read, CheckedBy, AcceptedIn, Allowed, Explained, WithHosts, Started, host_wanted, RunsTo, WithLog, Drawn, Simulates, Ruled, Replays, Runs, RunsOn, Decodes, Unpacking, Unhuffing, Lexing, WithHuf1, WithLex1, WithMachine, WithNames, Batches, BatchesOn, Demonstrates, WholeOf, Whole, block_of, run_options, by_blocks, demo_program, demo_input, max_program, max_machine, max_machine_text, max_list, max_log}
use Rattle.spf_cli_answers.specs.Laws.{RuleLaws, DecoderLaws}
use Rattle.spf_cli_laws.specs.Laws.{VerdictsAreTheSame, NoTextIsLeftUnjudged, HoldBytes, Over}

-- ---- formats

-- what is known of logs, of schedules and of verdicts
pub record LogLaws : Type 0 where
  pub one : BytesAreOneLog
  pub none : LogsDoNotBreak
  pub offset : LogsBreakOnce
  pub some : LogsAreOrBreak
  pub schedule : SchedulesOfRunsAreOne
  pub scheduled : SchedulesOfRunsExist
  pub verdict : VerdictsAreOne

-- what is known of files, of generated inputs and of what decoders write
pub record FormatLaws : Type 0 where
  pub huf1 : Huf1HasOneVerdict
  pub lex1 : Lex1HasOneVerdict
  pub machines : MachinesHaveOneText
  pub lists : ListsHaveOneVerdict
  pub logs : LogLaws
  pub generated : EachInputIsGeneratedOnce
  pub decoders : DecoderLaws

-- ---- fetches

-- what a fetch of a file with this content, or of none, gives
found : Option (List ℕ) → ℕ → Result (List ℕ) FetchError
found None limit = Err Missing
found (Some content) limit = if nat_le (length content) limit then Ok content else Err TooLong

within : (a b : ℕ) → a ≤ b → nat_le a b ≡ true
within a b l = grind arith

beyond : (a b : ℕ) → b < a → nat_le a b ≡ false
beyond a b l = grind arith

-- a fetch that goes on gave just that
sure : (files : List Entry) (left : FetchError → Wanted) (name : List ℕ) (limit : ℕ) (r : Result (List ℕ) FetchError) (next : List ℕ → Course) (fetches : List Fetch) (a : Answer)
    → (left OutOfMemory a → ⊥) → Gives (Some files) ⊥ name limit r → After left r next fetches a → r ≡ found (lookup files name) limit
unfolding found
sure files left name limit (Ok content) next fetches a none given after =
    sym (ap (λ o. found o limit) given.0 ∙ ap (λ b. if b then Ok content else Err TooLong) (within (length content) limit given.1))
sure files left name limit (Err Missing) next fetches a none given after = sym (ap (λ o. found o limit) given)
sure files left name limit (Err Failed) next fetches a none given after = absurd given
sure files left name limit (Err TooLong) next fetches a none given after =
    sym (ap (λ o. found o limit) given.1 ∙ ap (λ b. if b then Ok given.0 else Err TooLong) (beyond (length given.0) limit given.2))
sure files left name limit (Err OutOfMemory) next [] a none given after = absurd (none after)
sure files left name limit (Err OutOfMemory) next (fetch ∷ fetches) a none given after = absurd after

-- ---- at most one answer

-- this holds for one answer at most
abbrev AtMostOne : Wanted → Type 0
AtMostOne P = (a b : Answer) → P a → P b → a ≡ b

same_said : (said : Answer) → AtMostOne (Is said)
same_said said a b e f = e ∙ sym f

same_either : (A B : Wanted) (b : Bool) → AtMostOne A → AtMostOne B → AtMostOne (Either b A B)
same_either A B true f g = f
same_either A B false f g = g

same_ends : (files : List Entry) (wanted : Wanted) → AtMostOne wanted → AtMostOne (Over files (Ends wanted))
same_ends files wanted f a b x y = by x.0 y.0 x.2 y.2
  where
    by : (xs ys : List Fetch) → Ends wanted xs a → Ends wanted ys b → a ≡ b
    by [] [] p q = f a b p q
    by [] (y ∷ ys) p q = absurd q
    by (x ∷ xs) ys p q = absurd p

same_unfetched : (name : List ℕ) (limit : ℕ) (error : FetchError) → AtMostOne (Unfetched name limit error)
same_unfetched name limit Missing a b e f = e ∙ sym f
same_unfetched name limit Failed a b e f = e ∙ sym f
same_unfetched name limit TooLong a b e f = e ∙ sym f
same_unfetched name limit OutOfMemory a b e f = absurd e

-- without a content there is one answer, and without memory none
record IsOneEach (left : FetchError → Wanted) : Type 0 where
  same : (error : FetchError) → AtMostOne (left error)
  none : (a : Answer) → left OutOfMemory a → ⊥

same_after : (files : List Entry) (left : FetchError → Wanted) (r : Result (List ℕ) FetchError) (next : List ℕ → Course) → IsOneEach left → ((content : List ℕ) → AtMostOne (Over files (next content))) → AtMostOne (Over files (After left r next))
same_after files left (Ok content) next each f = f content
same_after files left (Err error) next each f = same_ends files (left error) (each.same error)

same_fetches_or : (files : List Entry) (left : FetchError → Wanted) (name : List ℕ) (limit : ℕ) (next : List ℕ → Course) → IsOneEach left → ((content : List ℕ) → AtMostOne (Over files (next content))) → AtMostOne (Over files (FetchesOr left name limit next))
same_fetches_or files left name limit next each f a b x y = by x.0 y.0 x.1 y.1 x.2 y.2
  where
    gave : (fetch : Fetch) → fetch.name ≡ name → fetch.limit ≡ limit → IsGiven (Some files) ⊥ fetch → Gives (Some files) ⊥ name limit fetch.gave
    gave fetch n l given = subst (λ m. Gives (Some files) ⊥ m limit fetch.gave) n (subst (λ m. Gives (Some files) ⊥ fetch.name m fetch.gave) l given)

    by : (xs ys : List Fetch) → AllByRecursion (IsGiven (Some files) ⊥) xs → AllByRecursion (IsGiven (Some files) ⊥) ys → FetchesOr left name limit next xs a → FetchesOr left name limit next ys b → a ≡ b
    by [] ys given others p q = absurd p
    by (x ∷ xs) [] given others p q = absurd q
    by (x ∷ xs) (y ∷ ys) given others p q =
        let one = sure files left name limit x.gave next xs a (each.none a) (gave x p.0 p.1 given.0) p.2 in
        let other = sure files left name limit y.gave next ys b (each.none b) (gave y q.0 q.1 others.0) q.2 in
        same_after files left (found (lookup files name) limit) next each f a b
        (xs, given.1, subst (λ r. After left r next xs a) one p.2)
        (ys, others.1, subst (λ r. After left r next ys b) other q.2)

same_fetches : (files : List Entry) (name : List ℕ) (limit : ℕ) (next : List ℕ → Course) → ((content : List ℕ) → AtMostOne (Over files (next content))) → AtMostOne (Over files (Fetches name limit next))
same_fetches files name limit next f = same_fetches_or files (Unfetched name limit) name limit next (record { same = same_unfetched name limit; none = λ a h. h }) f

same_judged : (files : List Entry) (v : TextVerdict) (next : Program → Course) → ((p : Program) → AtMostOne (Over files (next p))) → AtMostOne (Over files (WithText v next))
same_judged files (Says p) next f = f p
same_judged files (Refuses refusal) next f = same_ends files (Is (text_refused refusal)) (same_said (text_refused refusal))

same_read : VerdictsAreTheSame → (files : List Entry) (text : List ℕ) (next : Program → Course) → ((p : Program) → AtMostOne (Over files (next p))) → AtMostOne (Over files (Read text next))
same_read one files text next f a b x y =
    same_judged files x.2.0 next f a b (x.0, x.1, x.2.2) (y.0, y.1, subst (λ v. WithText v next y.0 b) (one text y.2.0 x.2.0 y.2.1 x.2.1) y.2.2)

-- a case that ends is one answer
ends_said : (files : List Entry) (said : Answer) (fetches : List Fetch) (a : Answer) → Ends (Is said) fetches a → a ≡ said
ends_said files said [] a e = e
ends_said files said (fetch ∷ fetches) a e = absurd e

same_checked : RuleLaws → (files : List Entry) (p : Program) (next : Course) → AtMostOne (Over files next) → AtMostOne (Over files (CheckedBy p next))
same_checked laws files p next f a b x y = by x.2 y.2
  where
    by : CheckedBy p next x.0 a → CheckedBy p next y.0 b → a ≡ b
    by (inl u) (inl v) = f a b (x.0, x.1, u.1) (y.0, y.1, v.1)
    by (inl u) (inr v) = absurd (laws.refused p v.0 v.1 v.2 v.3 u.0)
    by (inr u) (inl v) = absurd (laws.refused p u.0 u.1 u.2 u.3 v.0)
    by (inr u) (inr v) =
        let same = laws.one p u.0 v.0 u.1 v.1 u.2 v.2 u.3 v.3 in
        ends_said files (rule_refused p u.0 u.1 u.2) x.0 a u.4 ∙ (λ i. rule_refused p (same.0 i) (same.1 i) (same.2 i)) ∙ sym (ends_said files (rule_refused p v.0 v.1 v.2) y.0 b v.4)

same_allowed : RuleLaws → (files : List Entry) (plain : Bool) (p : Program) (next : Course) → AtMostOne (Over files next) → AtMostOne (Over files (Allowed plain p next))
same_allowed laws files true p next f = f
same_allowed laws files false p next f = same_checked laws files p next f

same_explained : RuleLaws → (p : Program) → AtMostOne (Explained p)
same_explained laws p a b x y = x.2 ∙ ap explained (laws.explanation p x.0 y.0 x.1 y.1) ∙ sym y.2

same_both : (A B : Wanted) → AtMostOne A → AtMostOne (Both A B)
same_both A B f a b x y = f a b x.0 y.0

same_hosts : (wanted : Option ℕ) (next : Wanted) → AtMostOne next → AtMostOne (WithHosts wanted next)
same_hosts None next f = f
same_hosts (Some host) next f = same_said (host_missing host)

same_started : (missing : Option ℕ) (p : Program) (input : List ℕ) (next : Wanted) → AtMostOne next → AtMostOne (Started missing p input next)
same_started missing p input next f = same_either _ _ (nat_le (cell_count_of p (length input)) (max_cells p)) (same_hosts missing next f) (same_said _)

same_runs : (said : Outcome → Stats → Answer) (options : Options) (given : Handed) (p : Program) (input : List ℕ) → AtMostOne (RunsTo said options given p input)
same_runs said options given p input = same_started (host_wanted options given p) p input (Is _) (same_said _)

same_runs_on : (files : List Entry) (options : Options) (given : Handed) (input : List ℕ) (p : Program) → AtMostOne (Over files (RunsOn options given input p))
same_runs_on files options given input p =
    same_fetches files input max_input (λ content. Ends (Runs options given p content)) (λ content.
    same_ends files (Runs options given p content) (same_runs (ran options p (length content)) options given p content))

same_decodes : (options : DecodeOptions) (p : Program) (input : List ℕ) → AtMostOne (Decodes options p input)
same_decodes options p input = same_runs (ran (run_options options) p (length input)) (run_options options) (handed []) p input

same_huf1 : Huf1HasOneVerdict → (files : List Entry) (file : List ℕ) (next : Course) → AtMostOne (Over files next) → AtMostOne (Over files (WithHuf1 file next))
same_huf1 laws files file next f a b x y = by x.2 y.2
  where
    by : WithHuf1 file next x.0 a → WithHuf1 file next y.0 b → a ≡ b
    by (inl u) (inl v) = f a b (x.0, x.1, u.1) (y.0, y.1, v.1)
    by (inl u) (inr v) = absurd (laws.apart file v.0 u.0 v.1)
    by (inr u) (inl v) = absurd (laws.apart file u.0 v.0 u.1)
    by (inr u) (inr v) = ends_said files (not_huf1 u.0) x.0 a u.2 ∙ ap not_huf1 (laws.one file u.0 v.0 u.1 v.1) ∙ sym (ends_said files (not_huf1 v.0) y.0 b v.2)

same_lex1 : Lex1HasOneVerdict → (files : List Entry) (file : List ℕ) (next : ℕ → ℕ → Course) → ((states classes : ℕ) → AtMostOne (Over files (next states classes))) → AtMostOne (Over files (WithLex1 file next))
same_lex1 laws files file next f a b x y = by x.2 y.2
  where
    by : WithLex1 file next x.0 a → WithLex1 file next y.0 b → a ≡ b
    by (inl u) (inl v) =
        let same = laws.counts file v.0 v.1 u.0 u.1 v.2 u.2 in
        f u.0 u.1 a b (x.0, x.1, u.3) (y.0, y.1, subst (λ n. next u.0 n y.0 b) same.1 (subst (λ n. next n v.1 y.0 b) same.0 v.3))
    by (inl u) (inr v) = absurd (laws.apart file v.0 u.0 u.1 u.2 v.1)
    by (inr u) (inl v) = absurd (laws.apart file u.0 v.0 v.1 v.2 u.1)
    by (inr u) (inr v) = ends_said files (not_lex1 u.0) x.0 a u.2 ∙ ap not_lex1 (laws.one file u.0 v.0 u.1 v.1) ∙ sym (ends_said files (not_lex1 v.0) y.0 b v.2)

same_machine : MachinesHaveOneText → (files : List Entry) (text : List ℕ) (next : List ℕ → Course) → ((file : List ℕ) → AtMostOne (Over files (next file))) → AtMostOne (Over files (WithMachine text next))
same_machine laws files text next f a b x y = by x.2 y.2
  where
    by : WithMachine text next x.0 a → WithMachine text next y.0 b → a ≡ b
    by (inl u) (inl v) = f u.0 a b (x.0, x.1, u.2) (y.0, y.1, subst (λ file. next file y.0 b) (laws.file text v.0 u.0 v.1 u.1) v.2)
    by (inl u) (inr v) = absurd (v.0 u.0 u.1)
    by (inr u) (inl v) = absurd (u.0 v.0 v.1)
    by (inr u) (inr v) = ends_said files not_a_machine x.0 a u.1 ∙ sym (ends_said files not_a_machine y.0 b v.1)

same_names : ListsHaveOneVerdict → (files : List Entry) (list : List ℕ) (next : List (List ℕ) → Course) → ((names : List (List ℕ)) → AtMostOne (Over files (next names))) → AtMostOne (Over files (WithNames list next))
same_names laws files list next f a b x y = by x.2 y.2
  where
    by : WithNames list next x.0 a → WithNames list next y.0 b → a ≡ b
    by (inl u) (inl v) = f u.0 a b (x.0, x.1, u.2) (y.0, y.1, subst (λ names. next names y.0 b) (laws.names list v.0 u.0 v.1 u.1) v.2)
    by (inl u) (inr v) = absurd (laws.apart list u.0 v.0 u.1 v.1)
    by (inr u) (inl v) = absurd (laws.apart list v.0 u.0 v.1 u.1)
    by (inr u) (inr v) = ends_said files (not_a_name u.0) x.0 a u.2 ∙ ap not_a_name (laws.one list u.0 v.0 u.1 v.1) ∙ sym (ends_said files (not_a_name v.0) y.0 b v.2)

same_log : LogLaws → (files : List Entry) (file : List ℕ) (next : List (List logged.Step) → Course) → ((log : List (List logged.Step)) → AtMostOne (Over files (next log))) → AtMostOne (Over files (WithLog file next))
same_log laws files file next f a b x y = by x.2 y.2
  where
    by : WithLog file next x.0 a → WithLog file next y.0 b → a ≡ b
    by (inl u) (inl v) = f u.0 a b (x.0, x.1, u.2) (y.0, y.1, subst (λ log. next log y.0 b) (laws.one file v.0 u.0 v.1 u.1) v.2)
    by (inl u) (inr v) = absurd (laws.none file u.0 v.0 u.1 v.1)
    by (inr u) (inl v) = absurd (laws.none file v.0 u.0 v.1 u.1)
    by (inr u) (inr v) = ends_said files (not_a_log u.0) x.0 a u.2 ∙ ap not_a_log (laws.offset file u.0 v.0 u.1 v.1) ∙ sym (ends_said files (not_a_log v.0) y.0 b v.2)

same_drawn : LogLaws → (hosts : Hosts) (p : Program) (input : List ℕ) (seed : ℕ) → AtMostOne (Drawn hosts p input seed)
same_drawn laws hosts p input seed a b x y = by x y
  where
    by : Drawn hosts p input seed a → Drawn hosts p input seed b → a ≡ b
    by (inl u) (inl v) =
        u.3 ∙ ap (λ log. simulated (outcome p input) (tally hosts p input).stats (bytes_of log)) (laws.schedule (expected hosts p input) seed u.0 v.0 u.1 v.1) ∙ sym v.3
    by (inl u) (inr v) = let many = v.0 u.0 u.1 in let few = u.2 in absurd (omega (arith, many, few))
    by (inr u) (inl v) = let many = u.0 v.0 v.1 in let few = v.2 in absurd (omega (arith, many, few))
    by (inr u) (inr v) = u.1 ∙ sym v.1

same_ruled : LogLaws → (hosts : Hosts) (p : Program) (input : List ℕ) (log : List (List logged.Step)) → AtMostOne (Ruled hosts p input log)
same_ruled laws hosts p input log a b x y = x.2 ∙ ap judged (laws.verdict (expected hosts p input) (map seen_steps log) x.0 y.0 x.1 y.1) ∙ sym y.2

same_left : (p : Program) (done : List Entry) (name : List ℕ) (error : FetchError) → AtMostOne (FileUnfetched p done name error)
same_left p done name Missing a b e f = e ∙ sym f
same_left p done name Failed a b e f = e ∙ sym f
same_left p done name TooLong a b e f = e ∙ sym f
same_left p done name OutOfMemory a b e f = absurd e

same_chosen : (files : List Entry) (b : Bool) (first second : Course) → AtMostOne (Over files first) → AtMostOne (Over files second) → AtMostOne (Over files (Chosen b first second))
same_chosen files true first second f g = f
same_chosen files false first second f g = g

same_files : (files : List Entry) (hosts : Hosts) (p : Program) (done : List Entry) (names : List (List ℕ)) → AtMostOne (Over files (RunsFiles hosts p done names))
same_files files hosts p done [] = same_ends files (Is (batch_done hosts p done)) (same_said (batch_done hosts p done))
same_files files hosts p done (name ∷ names) =
    same_fetches_or files (FileUnfetched p done name) name max_input _ (record { same = same_left p done name; none = λ a h. h }) (λ content.
    same_chosen files (nat_le (cell_count_of p (length content)) (max_cells p)) _ _
    (same_files files hosts p (done ++ record { name = name; content = content } ∷ []) names) (same_ends files (Is _) (same_said _)))

same_batches : (files : List Entry) (given : Handed) (p : Program) (names : List (List ℕ)) (missing : Option ℕ) → AtMostOne (Over files (Batches given p names missing))
same_batches files given p names None = same_files files given.hosts p [] names
same_batches files given p names (Some host) = same_ends files (Is (host_missing host)) (same_said (host_missing host))

same_batch : ListsHaveOneVerdict → (files : List Entry) (given : Handed) (list : List ℕ) (p : Program) → AtMostOne (Over files (BatchesOn given list p))
same_batch laws files given list p =
    same_fetches files list max_list _ (λ bytes.
    same_names laws files bytes (λ names. Batches given p names (missing_host given.count (constructs_in p.main))) (λ names.
    same_batches files given p names (missing_host given.count (constructs_in p.main))))

same_demo : EachInputIsGeneratedOnce → (decoder : Kind) (seed size : ℕ) → AtMostOne (Demonstrates decoder seed size)
same_demo laws decoder seed size a b x y =
    let same = laws.one decoder seed size y.0 x.0 y.1 x.1 y.2 x.2 in
    same_runs shown by_blocks (handed []) (demo_program decoder) (demo_input decoder x.0) a b x.3
    (subst (λ file. RunsTo shown by_blocks (handed []) (demo_program decoder) (demo_input decoder file) b) same y.3)

same_accepted : RuleLaws → VerdictsAreTheSame → (files : List Entry) (name : List ℕ) (next : Program → Course) → ((p : Program) → AtMostOne (Over files (next p))) → AtMostOne (Over files (AcceptedIn name next))
same_accepted laws one files name next f =
    same_fetches files name max_program _ (λ text. same_read one files text (λ p. CheckedBy p (next p)) (λ p. same_checked laws files p (next p) (f p)))

command_same : RuleLaws → VerdictsAreTheSame → FormatLaws → (given : Handed) (command : Command) (files : List Entry) → AtMostOne (Over files (WholeOf given command))
command_same laws one formats given (Run program input options) files =
    same_fetches files program max_program _ (λ text. same_read one files text (λ p. Allowed options.plain p (RunsOn options given input p)) (λ p.
    same_allowed laws files options.plain p (RunsOn options given input p) (same_runs_on files options given input p)))
command_same laws one formats given (Check program) files =
    same_accepted laws one files program (λ p. Ends (Is accepted)) (λ p. same_ends files (Is accepted) (same_said accepted))
command_same laws one formats given (Explain program) files =
    same_fetches files program max_program _ (λ text. same_read one files text (λ p. Ends (Explained p)) (λ p. same_ends files (Explained p) (same_explained laws p)))
command_same laws one formats given (Print program) files =
    same_fetches files program max_program _ (λ text. same_read one files text (λ p. Ends (Is (printed p))) (λ p. same_ends files (Is (printed p)) (same_said (printed p))))
command_same laws one formats given (Unpack input options) files =
    same_fetches files input max_input (λ content. Ends (Unpacking options content)) (λ content.
    same_ends files (Unpacking options content)
    (same_both (Decodes options (packbits_program (block_of options)) content) (Unpacked (block_of options) content) (same_decodes options (packbits_program (block_of options)) content)))
command_same laws one formats given (Unhuff input options) files =
    same_fetches files input max_input (λ content. WithHuf1 content (Ends (Unhuffing options content))) (λ content.
    same_huf1 formats.huf1 files content (Ends (Unhuffing options content))
    (same_ends files (Unhuffing options content)
    (same_both (Decodes options (huffman_program (block_of options)) content) (Unhuffed (block_of options) content) (same_decodes options (huffman_program (block_of options)) content))))
command_same laws one formats given (Lex machine input options) files =
    same_fetches files machine max_machine _ (λ table.
    same_lex1 formats.lex1 files table (λ states classes. Fetches input max_input (λ content. Ends (Lexing options table states classes content))) (λ states classes.
    let p = lexer_program (block_of options) states classes in
    same_fetches files input max_input (λ content. Ends (Lexing options table states classes content)) (λ content.
    same_ends files (Lexing options table states classes content)
    (same_both (Decodes options p (table ++ content)) (Tokenized (block_of options) table content) (same_decodes options p (table ++ content))))))
command_same laws one formats given (Show machine) files =
    same_fetches files machine max_machine _ (λ table.
    same_lex1 formats.lex1 files table (λ states classes. Ends (Is (written (machine_text table)))) (λ states classes.
    same_ends files (Is (written (machine_text table))) (same_said (written (machine_text table)))))
command_same laws one formats given (Build text) files =
    same_fetches files text max_machine_text _ (λ bytes.
    same_machine formats.machines files bytes (λ file. Ends (Is (written file))) (λ file. same_ends files (Is (written file)) (same_said (written file))))
command_same laws one formats given (Sim program input seed) files =
    same_accepted laws one files program (λ p. Fetches input max_input (λ content. Ends (Simulates given seed p content))) (λ p.
    same_fetches files input max_input (λ content. Ends (Simulates given seed p content)) (λ content.
    same_ends files (Simulates given seed p content)
    (same_started (missing_host given.count (constructs_in p.main)) p content (Drawn given.hosts p content seed) (same_drawn formats.logs given.hosts p content seed))))
command_same laws one formats given (Replay program input log) files =
    same_accepted laws one files program (λ p. Fetches input max_input (λ content. Fetches log max_log (λ file. WithLog file (λ sections. Ends (Replays given p content sections))))) (λ p.
    same_fetches files input max_input _ (λ content.
    same_fetches files log max_log _ (λ file.
    same_log formats.logs files file (λ sections. Ends (Replays given p content sections)) (λ sections.
    same_ends files (Replays given p content sections)
    (same_started (missing_host given.count (constructs_in p.main)) p content (Ruled given.hosts p content sections) (same_ruled formats.logs given.hosts p content sections))))))
command_same laws one formats given (Batch program list workers) files =
    same_accepted laws one files program (BatchesOn given list) (same_batch formats.lists files given list)
command_same laws one formats given (Demo decoder seed size workers) files =
    same_ends files (Demonstrates decoder seed size) (same_demo formats.generated decoder seed size)

-- a list of words has at most one answer
pub answers_same : RuleLaws → VerdictsAreTheSame → FormatLaws → EachAsksForOneOrNone → (given : Handed) (words : List (List ℕ)) (files : List Entry) → AtMostOne (Over files (Whole given words))
answers_same laws one formats asks given words files a b x y = by_command (asks words) x.2 y.2
  where
    by_command : ((command : Command) × IsOnly (Asks words) command) ⊎ ((command : Command) → Asks words command → ⊥) → Whole given words x.0 a → Whole given words y.0 b → a ≡ b
    by_command (inl c) (inl u) (inl v) =
        command_same laws one formats given c.0 files a b
        (x.0, x.1, subst (λ k. WholeOf given k x.0 a) (c.1.only u.0 u.1) u.2)
        (y.0, y.1, subst (λ k. WholeOf given k y.0 b) (c.1.only v.0 v.1) v.2)
    by_command (inl c) (inl u) (inr v) = absurd (v.0 c.0 c.1.is)
    by_command (inl c) (inr u) v = absurd (u.0 c.0 c.1.is)
    by_command (inr none) (inl u) v = absurd (none u.0 u.1)
    by_command (inr none) (inr u) (inl v) = absurd (none v.0 v.1)
    by_command (inr none) (inr u) (inr v) = ends_said files not_understood x.0 a u.1 ∙ sym (ends_said files not_understood y.0 b v.1)

-- ---- some answer

-- what a file holds is bytes
held_bytes : (files : List Entry) (name content : List ℕ) → HoldBytes files → lookup files name ≡ Some content → All (λ b. b < 256) content
held_bytes [] name content bytes held = cc
held_bytes (file ∷ files) name content bytes held =
    by (bytes_eq file.name name) (λ e. held_bytes files name content (λ k d l. bytes (suc k) d (omega (arith, l))) e) held
  where
    same : (one other : List ℕ) → Some one ≡ Some other → one ≡ other
    same one other e = cc

    by : (b : Bool) → (option_map (λ (entry : Entry). entry.content) (find (λ (entry : Entry). bytes_eq entry.name name) files) ≡ Some content → All (λ b. b < 256) content)
        → option_map (λ (entry : Entry). entry.content) (if b then Some file else find (λ (entry : Entry). bytes_eq entry.name name) files) ≡ Some content → All (λ b. b < 256) content
    by true later e = subst (All (λ b. b < 256)) (same file.content content e) (bytes 0 file (omega arith))
    by false later e = later e

-- there is an answer
abbrev HasOne : Wanted → Type 0
HasOne P = (answer : Answer) × P answer

-- there is a verdict on a text
abbrev HasVerdict : List ℕ → Type 0
HasVerdict text = (v : TextVerdict) × IsTextVerdict text v

some_either : (A B : Wanted) (b : Bool) → HasOne A → HasOne B → HasOne (Either b A B)
some_either A B true a b = a
some_either A B false a b = b

some_ends : (files : List Entry) (wanted : Wanted) → HasOne wanted → HasOne (Over files (Ends wanted))
some_ends files wanted one = (one.0, ([], tt, one.1))

-- a number is within a limit or beyond it
compare : (a b : ℕ) → (a ≤ b) ⊎ (b < a)
compare a b = grind arith

some_fetches_or : (files : List Entry) (left : FetchError → Wanted) (name : List ℕ) (limit : ℕ) (next : List ℕ → Course) → HasOne (left Missing) → HasOne (left TooLong)
    → ((content : List ℕ) → lookup files name ≡ Some content → HasOne (Over files (next content))) → HasOne (Over files (FetchesOr left name limit next))
some_fetches_or files left name limit next missing long f = by (lookup files name) refl
  where
    by : (held : Option (List ℕ)) → lookup files name ≡ held → HasOne (Over files (FetchesOr left name limit next))
    by None e = (missing.0, (record { name = name; limit = limit; gave = Err Missing } ∷ [], (e, tt), (refl, refl, missing.1)))
    by (Some content) e = elim (compare (length content) limit) [
      | inl l ↦ let one = f content e in
          (one.0, (record { name = name; limit = limit; gave = Ok content } ∷ one.1.0, ((e, l), one.1.1), (refl, refl, one.1.2)))
      | inr l ↦ (long.0, (record { name = name; limit = limit; gave = Err TooLong } ∷ [], ((content, e, l), tt), (refl, refl, long.1)))
    ]

some_fetches : (files : List Entry) (name : List ℕ) (limit : ℕ) (next : List ℕ → Course) → ((content : List ℕ) → lookup files name ≡ Some content → HasOne (Over files (next content))) → HasOne (Over files (Fetches name limit next))
some_fetches files name limit next f = some_fetches_or files (Unfetched name limit) name limit next (file_failed name, refl) (file_too_long name limit, refl) f

some_read : (files : List Entry) (text : List ℕ) (next : Program → Course) → HasVerdict text → ((p : Program) → HasOne (Over files (next p))) → HasOne (Over files (Read text next))
some_read files text next v f = let judged = by_verdict v.0 in (judged.0, (judged.1.0, judged.1.1, (v.0, v.1, judged.1.2)))
  where
    by_verdict : (w : TextVerdict) → HasOne (Over files (WithText w next))
    by_verdict (Says p) = f p
    by_verdict (Refuses refusal) = some_ends files (Is (text_refused refusal)) (text_refused refusal, refl)

some_checked : RuleLaws → (files : List Entry) (p : Program) (next : Course) → HasOne (Over files next) → HasOne (Over files (CheckedBy p next))
some_checked laws files p next one =
    elim (laws.some p) [
      | inl accepted ↦ (one.0, (one.1.0, one.1.1, inl (accepted, one.1.2)))
      | inr r ↦ (rule_refused p r.0 r.1 r.2, ([], tt, inr (r.0, r.1, r.2, r.3, refl)))
    ]

some_allowed : RuleLaws → (files : List Entry) (plain : Bool) (p : Program) (next : Course) → HasOne (Over files next) → HasOne (Over files (Allowed plain p next))
some_allowed laws files true p next one = one
some_allowed laws files false p next one = some_checked laws files p next one

some_explained : RuleLaws → (p : Program) → HasOne (Explained p)
some_explained laws p = let x = laws.explained p in (explained x.0, (x.0, x.1, refl))

some_hosts : (wanted : Option ℕ) (next : Wanted) → HasOne next → HasOne (WithHosts wanted next)
some_hosts None next one = one
some_hosts (Some host) next one = (host_missing host, refl)

some_started : (missing : Option ℕ) (p : Program) (input : List ℕ) (next : Wanted) → HasOne next → HasOne (Started missing p input next)
some_started missing p input next one = some_either _ _ (nat_le (cell_count_of p (length input)) (max_cells p)) (some_hosts missing next one) (_, refl)

some_runs : (said : Outcome → Stats → Answer) (options : Options) (given : Handed) (p : Program) (input : List ℕ) → HasOne (RunsTo said options given p input)
some_runs said options given p input = some_started (host_wanted options given p) p input (Is _) (_, refl)

some_run : (files : List Entry) (options : Options) (given : Handed) (input : List ℕ) (p : Program) → HasOne (Over files (RunsOn options given input p))
some_run files options given input p =
    some_fetches files input max_input (λ content. Ends (Runs options given p content)) (λ content e.
    some_ends files (Runs options given p content) (some_runs (ran options p (length content)) options given p content))

some_decoded : (options : DecodeOptions) (p : Program) (input : List ℕ) → HasOne (Decodes options p input)
some_decoded options p input = some_runs (ran (run_options options) p (length input)) (run_options options) (handed []) p input

some_both : (A B : Wanted) → ((a : Answer) → A a → B a) → HasOne A → HasOne (Both A B)
some_both A B means one = (one.0, (one.1, means one.0 one.1))

some_huf1 : Huf1HasOneVerdict → (files : List Entry) (file : List ℕ) (next : Course) → (IsHuf1 file → HasOne (Over files next)) → HasOne (Over files (WithHuf1 file next))
some_huf1 laws files file next some =
    elim (laws.some file) [
      | inl h ↦ let one = some h in (one.0, (one.1.0, one.1.1, inl (h, one.1.2)))
      | inr r ↦ (not_huf1 r.0, ([], tt, inr (r.0, r.1, refl)))
    ]

some_lex1 : Lex1HasOneVerdict → (files : List Entry) (file : List ℕ) (next : ℕ → ℕ → Course) → ((states classes : ℕ) → IsLex1 file states classes → HasOne (Over files (next states classes))) → HasOne (Over files (WithLex1 file next))
some_lex1 laws files file next some =
    elim (laws.some file) [
      | inl h ↦ let one = some h.0 h.1 h.2 in (one.0, (one.1.0, one.1.1, inl (h.0, h.1, h.2, one.1.2)))
      | inr r ↦ (not_lex1 r.0, ([], tt, inr (r.0, r.1, refl)))
    ]

some_machine : MachinesHaveOneText → (files : List Entry) (text : List ℕ) (next : List ℕ → Course) → ((file : List ℕ) → HasOne (Over files (next file))) → HasOne (Over files (WithMachine text next))
some_machine laws files text next some =
    elim (laws.verdict text) [
      | inl h ↦ let one = some h.0 in (one.0, (one.1.0, one.1.1, inl (h.0, h.1, one.1.2)))
      | inr none ↦ (not_a_machine, ([], tt, inr (none, refl)))
    ]

-- a list is names, or has a first line that isn't one
abbrev IsListed : List ℕ → Type 0
IsListed list = ((names : List (List ℕ)) × AreNames list names) ⊎ ((number : ℕ) × IsBadAt list number)

some_names : (files : List Entry) (list : List ℕ) (next : List (List ℕ) → Course) → IsListed list → ((names : List (List ℕ)) → HasOne (Over files (next names))) → HasOne (Over files (WithNames list next))
some_names files list next listed some =
    elim listed [
      | inl h ↦ let one = some h.0 in (one.0, (one.1.0, one.1.1, inl (h.0, h.1, one.1.2)))
      | inr r ↦ (not_a_name r.0, ([], tt, inr (r.0, r.1, refl)))
    ]

some_chosen : (files : List Entry) (b : Bool) (first second : Course) → HasOne (Over files first) → HasOne (Over files second) → HasOne (Over files (Chosen b first second))
some_chosen files true first second f g = f
some_chosen files false first second f g = g

some_files : (files : List Entry) (hosts : Hosts) (p : Program) (done : List Entry) (names : List (List ℕ)) → HasOne (Over files (RunsFiles hosts p done names))
some_files files hosts p done [] = some_ends files (Is (batch_done hosts p done)) (batch_done hosts p done, refl)
some_files files hosts p done (name ∷ names) =
    some_fetches_or files (FileUnfetched p done name) name max_input _ (_, refl) (_, refl) (λ content e.
    some_chosen files (nat_le (cell_count_of p (length content)) (max_cells p)) _ _
    (some_files files hosts p (done ++ record { name = name; content = content } ∷ []) names) (some_ends files (Is _) (_, refl)))

some_batches : (files : List Entry) (given : Handed) (p : Program) (names : List (List ℕ)) (missing : Option ℕ) → HasOne (Over files (Batches given p names missing))
some_batches files given p names None = some_files files given.hosts p [] names
some_batches files given p names (Some host) = some_ends files (Is (host_missing host)) (host_missing host, refl)

some_batch : (files : List Entry) (given : Handed) (list : List ℕ) (p : Program) → ((bytes : List ℕ) → lookup files list ≡ Some bytes → IsListed bytes) → HasOne (Over files (BatchesOn given list p))
some_batch files given list p listed =
    some_fetches files list max_list _ (λ bytes e.
    some_names files bytes (λ names. Batches given p names (missing_host given.count (constructs_in p.main))) (listed bytes e) (λ names.
    some_batches files given p names (missing_host given.count (constructs_in p.main))))

some_drawn : LogLaws → (hosts : Hosts) (p : Program) (input : List ℕ) (seed : ℕ) → HasOne (Drawn hosts p input seed)
some_drawn laws hosts p input seed =
    let log = laws.scheduled (expected hosts p input) seed in
    elim (compare (step_count log.0) max_steps) [
      | inl few ↦ (_, inl (log.0, log.1, few, refl))
      | inr many ↦ (too_many_steps, inr ((λ other is. subst (λ l. max_steps < step_count l) (laws.schedule (expected hosts p input) seed log.0 other log.1 is) many), refl))
    ]

some_sim : LogLaws → (files : List Entry) (given : Handed) (input : List ℕ) (seed : ℕ) (p : Program) → HasOne (Over files (Fetches input max_input (λ content. Ends (Simulates given seed p content))))
some_sim laws files given input seed p =
    some_fetches files input max_input (λ content. Ends (Simulates given seed p content)) (λ content e.
    some_ends files (Simulates given seed p content)
    (some_started (missing_host given.count (constructs_in p.main)) p content (Drawn given.hosts p content seed) (some_drawn laws given.hosts p content seed)))

some_demo : EachInputIsGeneratedOnce → (decoder : Kind) (seed size : ℕ) → HasOne (Demonstrates decoder seed size)
some_demo laws decoder seed size =
    let file = laws.some decoder seed size in
    let one = some_runs shown by_blocks (handed []) (demo_program decoder) (demo_input decoder file.0) in
    (one.0, (file.0, file.1, file.2, one.1))

-- the file of a command's program, where it has one
abbrev program_of : Command → List ℕ
program_of (Run program input options) = program
program_of (Check program) = program
program_of (Explain program) = program
program_of (Print program) = program
program_of (Sim program input seed) = program
program_of (Replay program input log) = program
program_of (Batch program list workers) = program
program_of other = []

-- that of its list, where it has one
abbrev list_of : Command → List ℕ
list_of (Batch program list workers) = list
list_of other = []

-- it is another command than `replay`
abbrev IsNoReplay : Command → Type 0
IsNoReplay (Replay program input log) = ⊥
IsNoReplay other = Unit {0}

some_command : RuleLaws → FormatLaws → (given : Handed) (command : Command) (files : List Entry) → IsNoReplay command → ((text : List ℕ) → lookup files (program_of command) ≡ Some text → HasVerdict text)
    → ((bytes : List ℕ) → lookup files (list_of command) ≡ Some bytes → IsListed bytes) → HasOne (Over files (WholeOf given command))
some_command laws formats given (Run program input options) files other judged listed =
    some_fetches files program max_program _ (λ text e. some_read files text (λ p. Allowed options.plain p (RunsOn options given input p)) (judged text e) (λ p.
    some_allowed laws files options.plain p (RunsOn options given input p) (some_run files options given input p)))
some_command laws formats given (Check program) files other judged listed =
    some_fetches files program max_program _ (λ text e. some_read files text (λ p. CheckedBy p (Ends (Is accepted))) (judged text e) (λ p.
    some_checked laws files p (Ends (Is accepted)) (some_ends files (Is accepted) (accepted, refl))))
some_command laws formats given (Explain program) files other judged listed =
    some_fetches files program max_program _ (λ text e. some_read files text (λ p. Ends (Explained p)) (judged text e) (λ p. some_ends files (Explained p) (some_explained laws p)))
some_command laws formats given (Print program) files other judged listed =
    some_fetches files program max_program _ (λ text e. some_read files text (λ p. Ends (Is (printed p))) (judged text e) (λ p. some_ends files (Is (printed p)) (printed p, refl)))
some_command laws formats given (Unpack input options) files other judged listed =
    let p = packbits_program (block_of options) in
    some_fetches files input max_input (λ content. Ends (Unpacking options content)) (λ content e.
    some_ends files (Unpacking options content)
    (some_both (Decodes options p content) (Unpacked (block_of options) content) (formats.decoders.unpacked options content) (some_decoded options p content)))
some_command laws formats given (Unhuff input options) files other judged listed =
    let p = huffman_program (block_of options) in
    some_fetches files input max_input (λ content. WithHuf1 content (Ends (Unhuffing options content))) (λ content e.
    some_huf1 formats.huf1 files content (Ends (Unhuffing options content)) (λ huf1.
    some_ends files (Unhuffing options content)
    (some_both (Decodes options p content) (Unhuffed (block_of options) content) (λ a. formats.decoders.unhuffed options content a huf1) (some_decoded options p content))))
some_command laws formats given (Lex machine input options) files other judged listed =
    some_fetches files machine max_machine _ (λ table e.
    some_lex1 formats.lex1 files table (λ states classes. Fetches input max_input (λ content. Ends (Lexing options table states classes content))) (λ states classes lex1.
    let p = lexer_program (block_of options) states classes in
    some_fetches files input max_input (λ content. Ends (Lexing options table states classes content)) (λ content e.
    some_ends files (Lexing options table states classes content)
    (some_both (Decodes options p (table ++ content)) (Tokenized (block_of options) table content)
    (λ a. formats.decoders.tokenized options states classes table content a lex1) (some_decoded options p (table ++ content))))))
some_command laws formats given (Show machine) files other judged listed =
    some_fetches files machine max_machine _ (λ table e.
    some_lex1 formats.lex1 files table (λ states classes. Ends (Is (written (machine_text table)))) (λ states classes lex1.
    some_ends files (Is (written (machine_text table))) (written (machine_text table), refl)))
some_command laws formats given (Build text) files other judged listed =
    some_fetches files text max_machine_text _ (λ bytes e.
    some_machine formats.machines files bytes (λ file. Ends (Is (written file))) (λ file. some_ends files (Is (written file)) (written file, refl)))
some_command laws formats given (Sim program input seed) files other judged listed =
    some_fetches files program max_program _ (λ text e.
    some_read files text (λ p. CheckedBy p (Fetches input max_input (λ content. Ends (Simulates given seed p content)))) (judged text e) (λ p.
    some_checked laws files p (Fetches input max_input (λ content. Ends (Simulates given seed p content))) (some_sim formats.logs files given input seed p)))
some_command laws formats given (Replay program input log) files other judged listed = absurd other
some_command laws formats given (Batch program list workers) files other judged listed =
    some_fetches files program max_program _ (λ text e. some_read files text (λ p. CheckedBy p (BatchesOn given list p)) (judged text e) (λ p.
    some_checked laws files p (BatchesOn given list p) (some_batch files given list p listed)))
some_command laws formats given (Demo decoder seed size workers) files other judged listed =
    some_ends files (Demonstrates decoder seed size) (some_demo formats.generated decoder seed size)

-- ---- an answer that isn't denied

-- it isn't the case that there is none
abbrev Undenied : Type 0 → Type 0
Undenied A = (A → ⊥) → ⊥

-- there is one
told : {A : Type 0} → A → Undenied A
told a never = never a

-- what follows from what isn't denied
with_it : {A B : Type 0} → Undenied A → (A → Undenied B) → Undenied B
with_it some f never = some (λ a. f a never)

undenied_fetches : (files : List Entry) (name : List ℕ) (limit : ℕ) (next : List ℕ → Course) → ((content : List ℕ) → lookup files name ≡ Some content → Undenied (HasOne (Over files (next content))))
    → Undenied (HasOne (Over files (Fetches name limit next)))
undenied_fetches files name limit next f = by (lookup files name) refl
  where
    by : (held : Option (List ℕ)) → lookup files name ≡ held → Undenied (HasOne (Over files (Fetches name limit next)))
    by None e = told (file_failed name, (record { name = name; limit = limit; gave = Err Missing } ∷ [], (e, tt), (refl, refl, refl)))
    by (Some content) e = elim (compare (length content) limit) [
      | inl l ↦ with_it (f content e) (λ one. told
          (one.0, (record { name = name; limit = limit; gave = Ok content } ∷ one.1.0, ((e, l), one.1.1), (refl, refl, one.1.2))))
      | inr l ↦ told (file_too_long name limit, (record { name = name; limit = limit; gave = Err TooLong } ∷ [], ((content, e, l), tt), (refl, refl, refl)))
    ]

undenied_read : NoTextIsLeftUnjudged → (files : List Entry) (text : List ℕ) (next : Program → Course) → ((p : Program) → Undenied (HasOne (Over files (next p)))) → Undenied (HasOne (Over files (Read text next)))
undenied_read left files text next f never = left text (λ v is. by v (λ one. never (one.0, (one.1.0, one.1.1, (v, is, one.1.2)))))
  where
    by : (w : TextVerdict) → Undenied (HasOne (Over files (WithText w next)))
    by (Says p) = f p
    by (Refuses refusal) = told (some_ends files (Is (text_refused refusal)) (text_refused refusal, refl))

undenied_checked : RuleLaws → (files : List Entry) (p : Program) (next : Course) → Undenied (HasOne (Over files next)) → Undenied (HasOne (Over files (CheckedBy p next)))
undenied_checked laws files p next f =
    elim (laws.some p) [
      | inl accepted ↦ with_it f (λ one. told (one.0, (one.1.0, one.1.1, inl (accepted, one.1.2))))
      | inr r ↦ told (rule_refused p r.0 r.1 r.2, ([], tt, inr (r.0, r.1, r.2, r.3, refl)))
    ]

undenied_log : LogLaws → (files : List Entry) (file : List ℕ) (next : List (List logged.Step) → Course) → All (λ b. b < 256) file → ((log : List (List logged.Step)) → Undenied (HasOne (Over files (next log))))
    → Undenied (HasOne (Over files (WithLog file next)))
undenied_log laws files file next bytes f =
    elim (laws.some file bytes) [
      | inl h ↦ with_it (f h.0) (λ one. told (one.0, (one.1.0, one.1.1, inl (h.0, h.1, one.1.2))))
      | inr r ↦ told (not_a_log r.0, ([], tt, inr (r.0, r.1, refl)))
    ]

-- a verdict with one more section that is as expected
later_verdict : (x : Expected) (xs : List Expected) (steps : List Step) (log : List (List Step)) → IsRun x.entry x.guess steps
    → (v : log_verdict.Verdict) × IsVerdict xs log v → (v : log_verdict.Verdict) × IsVerdict (x ∷ xs) (steps ∷ log) v
later_verdict x xs steps log run h = by h.0 h.1
  where
    by : (v : log_verdict.Verdict) → IsVerdict xs log v → (w : log_verdict.Verdict) × IsVerdict (x ∷ xs) (steps ∷ log) w
    by Yes all = (Yes, λ n. at n)
      where
        at : (n : ℕ) → SectionFits (x ∷ xs) (steps ∷ log) n
        at zero = run
        at (suc n) = all n
    by (No section) first = (No (suc section), ((λ n below. at n below), first.1))
      where
        at : (n : ℕ) → n < suc section → SectionFits (x ∷ xs) (steps ∷ log) n
        at zero below = run
        at (suc n) below = first.0 n (omega (arith, below))

no_first : (xs : List Expected) (log : List (List Step)) → (SectionFits xs log 0 → ⊥) → IsVerdict xs log (No 0)
no_first xs log wrong = ((λ n below. absurd (omega (arith, below))), wrong)

undenied_verdict : (xs : List Expected) (log : List (List Step)) → Undenied ((v : log_verdict.Verdict) × IsVerdict xs log v)
undenied_verdict [] [] = told (Yes, λ n. tt)
undenied_verdict [] (steps ∷ log) = told (No 0, no_first [] (steps ∷ log) (λ none. none))
undenied_verdict (x ∷ xs) [] = told (No 0, no_first (x ∷ xs) [] (λ none. none))
undenied_verdict (x ∷ xs) (steps ∷ log) = λ never.
    let wrong : IsRun x.entry x.guess steps → ⊥ = λ run. undenied_verdict xs log (λ v. never (later_verdict x xs steps log run v)) in
    never (No 0, no_first (x ∷ xs) (steps ∷ log) wrong)

undenied_replay : RuleLaws → NoTextIsLeftUnjudged → LogLaws → (given : Handed) (program input log : List ℕ) (files : List Entry) → HoldBytes files → Undenied (HasOne (Over files (WholeOf given (Replay program input log))))
undenied_replay laws left logs given program input log files bytes =
    undenied_fetches files program max_program _ (λ text e.
    undenied_read left files text (λ p. CheckedBy p (Fetches input max_input (λ content. Fetches log max_log (λ file. WithLog file (λ sections. Ends (Replays given p content sections)))))) (λ p.
    undenied_checked laws files p _ (
    undenied_fetches files input max_input _ (λ content e.
    undenied_fetches files log max_log _ (λ file held.
    undenied_log logs files file (λ sections. Ends (Replays given p content sections)) (held_bytes files log file bytes held) (λ sections.
    with_it (undenied_verdict (expected given.hosts p content) (map seen_steps sections)) (λ v. told
    (some_ends files (Replays given p content sections)
    (some_started (missing_host given.count (constructs_in p.main)) p content (Ruled given.hosts p content sections) (judged v.0, (v.0, v.1, refl)))))))))))

-- no list of words is left without an answer
pub none_unanswered : RuleLaws → NoTextIsLeftUnjudged → FormatLaws → EachAsksForOneOrNone → (given : Handed) (words : List (List ℕ)) (files : List Entry) → HoldBytes files → ((answer : Answer) → Over files (Whole given words) answer → ⊥) → ⊥
none_unanswered laws left formats asks given words files bytes never =
    elim (asks words) [
      | inl c ↦ by_command c.0 (λ a w. never a (w.0, w.1, inl (c.0, c.1.is, w.2)))
      | inr none ↦ never not_understood ([], tt, inr (none, refl))
    ]
  where
    same_text : (text other : List ℕ) → Some text ≡ Some other → text ≡ other
    same_text text other e = cc

    by_list : (command : Command) → IsNoReplay command → ((text : List ℕ) → lookup files (program_of command) ≡ Some text → HasVerdict text) → (held : Option (List ℕ)) → lookup files (list_of command) ≡ held
        → ((answer : Answer) → Over files (WholeOf given command) answer → ⊥) → ⊥
    by_list command other judged None e unanswered =
        let one = some_command laws formats given command files other judged (λ bytes is. let none : None ≡ Some bytes = sym e ∙ is in absurd (cc)) in
        unanswered one.0 one.1
    by_list command other judged (Some bytes) e unanswered =
        let with_list = λ (listed : IsListed bytes).
        let one = some_command laws formats given command files other judged (λ text is. subst IsListed (same_text bytes text (sym e ∙ is)) listed) in
        unanswered one.0 one.1 in
        formats.lists.some bytes (λ names are. with_list (inl (names, are))) (λ number bad. with_list (inr (number, bad)))

    by_file : (command : Command) → IsNoReplay command → (held : Option (List ℕ)) → lookup files (program_of command) ≡ held → ((answer : Answer) → Over files (WholeOf given command) answer → ⊥) → ⊥
    by_file command other None e unanswered =
        by_list command other (λ text is. let none : None ≡ Some text = sym e ∙ is in absurd (cc)) (lookup files (list_of command)) refl unanswered
    by_file command other (Some text) e unanswered =
        left text (λ v h. by_list command other (λ also is. subst HasVerdict (same_text text also (sym e ∙ is)) (v, h)) (lookup files (list_of command)) refl unanswered)

    at_file : (command : Command) → IsNoReplay command → ((answer : Answer) → Over files (WholeOf given command) answer → ⊥) → ⊥
    at_file command other unanswered = by_file command other (lookup files (program_of command)) refl unanswered

    by_command : (command : Command) → ((answer : Answer) → Over files (WholeOf given command) answer → ⊥) → ⊥
    by_command (Replay program input log) unanswered = undenied_replay laws left formats.logs given program input log files bytes (λ one. unanswered one.0 one.1)
    by_command command unanswered = at_file command tt unanswered
