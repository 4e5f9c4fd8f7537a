-- Each status of the whole answer has its cause.
use Rattle.std.specs.Prelude.{Option, Some, None, Result, Ok, Err}
use Rattle.std.proofs.Common.{◌≡◌, ◌⊎◌, ◌++◌, ℕ, Bool, true, false, List, [], ◌∷◌, length, refl, ap, ◌∙◌, inl, inr, nat_le, arith}
use Rattle.spf_ast.specs.Syntax.{Program}
use Rattle.spf_ast.specs.Program.{Outcome, Done, Stopped, outcome, cell_count_of, max_cells}
use Rattle.spf_exec_instance.specs.RunErrors.{counted}
use Rattle.spf_edge.specs.declared.files.FetchError.{FetchError}
use Rattle.spf_edge.specs.declared.files.FetchError.TheVariants.{Missing, Failed, TooLong, OutOfMemory}
use Rattle.spf_edge.specs.Entries.{Entry}
use Rattle.spf_edge.specs.Fetches.{Fetch}
use Rattle.spf_ast.specs.Construct.{constructs_in}
use Rattle.spf_guess_statistics.specs.Guess.{Hosts}
use Rattle.spf_guess.specs.Missing.{missing_host}
use Rattle.spf_guess_statistics.specs.Statistics.{tally}
use Rattle.spf_replay_log.specs.declared.log.Step as logged
use Rattle.spf_replay.specs.declared.verdict.Verdict as log_verdict
use Rattle.spf_replay.specs.declared.verdict.Verdict.TheVariants.{Yes, No}
use Rattle.spf_replay_sim.specs.Bytes.{bytes_of}
use Rattle.spf_guess_statistics.specs.declared.stats.Stats.{Stats}
use Rattle.spf_cli_words.specs.Command.{Command, Run, Check, Explain, Print, Unpack, Unhuff, Lex, Show, Build, Sim, Replay, Batch, Demo, Options, DecodeOptions}
use Rattle.spf_apps_machine_text.specs.MachineText.{machine_text}
use Rattle.spf_apps_programs.specs.PackBits.{packbits_program}
use Rattle.spf_apps_programs.specs.Huffman.{huffman_program}
use Rattle.spf_apps_programs.specs.Lexer.{lexer_program}
use Rattle.spf_cli_answers.specs.Answer.{Answer, not_understood, text_refused, accepted, rule_refused, explained, printed, file_failed, file_too_long, too_many_cells, host_missing, not_huf1, not_lex1, not_a_machine, not_a_name, not_a_log, too_many_steps, written, ran, simulated, judged, shown}
use Rattle.spf_cli_answers.specs.Reading.{TextVerdict, Says, Refuses}
use Rattle.spf_cli_answers.specs.Course.{Wanted, Is, Either, Course, Ends, Chosen, Unfetched, After, FetchesOr, Fetches}
use Rattle.spf_cli_answers.specs.Message.{failed_line, long_line, too_many_line}
use Rattle.spf_cli_answers.specs.Batched.{batch_answer, batch_done, FileUnfetched, RunsFiles}
use Rattle.spf_batch.specs.Batch.{max_input}
use Rattle.spf_cli_answers.specs.Whole.{Handed, handed, WithText, Read, CheckedBy, AcceptedIn, Allowed, Explained, WithHosts, Started, host_wanted, RunsTo, WithLog, Drawn, Simulates, Ruled, Replays, stats_of, Runs, RunsOn, Decodes, Unpacking, Unhuffing, Lexing, WithHuf1, WithLex1, WithMachine, Batches, BatchesOn, Demonstrates, WholeOf, AskForNothing, Whole, block_of, run_options, by_blocks, with_stats, RunsText, demo_program, demo_input, max_program, max_machine, max_machine_text, max_list, max_log}
use Rattle.spf_cli_answers.specs.Laws.{HasFailed, StatusesHaveCauses}

-- the status is none of those for words, for a file, for a put and for want of memory
record IsCommon (answer : Answer) : Type 0 where
  words : answer.status ≡ 2 → ⊥
  file : answer.status ≡ 5 → ⊥
  put : answer.status ≡ 6 → ⊥
  memory : answer.status ≡ 8 → ⊥

-- the status of an answer by another name
status_as : (a said : Answer) (n : ℕ) → a ≡ said → said.status ≡ n → a.status ≡ n
status_as a said n e is = ap (λ (x : Answer). x.status) e ∙ is

done : (a said : Answer) → a ≡ said → said.status ≡ 0 → IsCommon a
done a said e is = let s = status_as a said 0 e is in record { words = λ t. omega (arith, s, t); file = λ t. omega (arith, s, t); put = λ t. omega (arith, s, t); memory = λ t. omega (arith, s, t) }

trapped : (a said : Answer) → a ≡ said → said.status ≡ 1 → IsCommon a
trapped a said e is = let s = status_as a said 1 e is in record { words = λ t. omega (arith, s, t); file = λ t. omega (arith, s, t); put = λ t. omega (arith, s, t); memory = λ t. omega (arith, s, t) }

no_program : (a said : Answer) → a ≡ said → said.status ≡ 3 → IsCommon a
no_program a said e is = let s = status_as a said 3 e is in record { words = λ t. omega (arith, s, t); file = λ t. omega (arith, s, t); put = λ t. omega (arith, s, t); memory = λ t. omega (arith, s, t) }

refused : (a said : Answer) → a ≡ said → said.status ≡ 4 → IsCommon a
refused a said e is = let s = status_as a said 4 e is in record { words = λ t. omega (arith, s, t); file = λ t. omega (arith, s, t); put = λ t. omega (arith, s, t); memory = λ t. omega (arith, s, t) }

over_limit : (a said : Answer) → a ≡ said → said.status ≡ 7 → IsCommon a
over_limit a said e is = let s = status_as a said 7 e is in record { words = λ t. omega (arith, s, t); file = λ t. omega (arith, s, t); put = λ t. omega (arith, s, t); memory = λ t. omega (arith, s, t) }

wrong_format : (a said : Answer) → a ≡ said → said.status ≡ 9 → IsCommon a
wrong_format a said e is = let s = status_as a said 9 e is in record { words = λ t. omega (arith, s, t); file = λ t. omega (arith, s, t); put = λ t. omega (arith, s, t); memory = λ t. omega (arith, s, t) }

wrong_log : (a said : Answer) → a ≡ said → said.status ≡ 10 → IsCommon a
wrong_log a said e is = let s = status_as a said 10 e is in record { words = λ t. omega (arith, s, t); file = λ t. omega (arith, s, t); put = λ t. omega (arith, s, t); memory = λ t. omega (arith, s, t) }

-- ---- what is wanted

abbrev AreCommon : Wanted → Type 0
AreCommon wanted = (a : Answer) → wanted a → IsCommon a

ran_common : (options : Options) (p : Program) (len : ℕ) (o : Outcome) (stats : Stats) (a : Answer) → a ≡ ran options p len o stats → IsCommon a
ran_common options p len (Done cells output) stats a e = done a _ e refl
ran_common options p len (Stopped trap output) stats a e = trapped a _ e refl

shown_common : (o : Outcome) (stats : Stats) (a : Answer) → a ≡ shown o stats → IsCommon a
shown_common (Done cells output) stats a e = done a _ e refl
shown_common (Stopped trap output) stats a e = trapped a _ e refl

simulated_common : (o : Outcome) (stats : Stats) (log : List ℕ) (a : Answer) → a ≡ simulated o stats log → IsCommon a
simulated_common (Done cells output) stats log a e = done a _ e refl
simulated_common (Stopped trap output) stats log a e = trapped a _ e refl

judged_common : (v : log_verdict.Verdict) (a : Answer) → a ≡ judged v → IsCommon a
judged_common Yes a e = done a _ e refl
judged_common (No section) a e = wrong_log a _ e refl

hosts_common : (wanted : Option ℕ) (next : Wanted) (a : Answer) → (next a → IsCommon a) → WithHosts wanted next a → IsCommon a
hosts_common None next a f h = f h
hosts_common (Some host) next a f h = over_limit a (host_missing host) h refl

either_common : (b : Bool) (P Q : Wanted) (a : Answer) → (P a → IsCommon a) → (Q a → IsCommon a) → Either b P Q a → IsCommon a
either_common true P Q a f g h = f h
either_common false P Q a f g h = g h

started_common : (missing : Option ℕ) (p : Program) (input : List ℕ) (next : Wanted) (a : Answer) → (next a → IsCommon a) → Started missing p input next a → IsCommon a
started_common missing p input next a f h =
    either_common (nat_le (cell_count_of p (length input)) (max_cells p)) (WithHosts missing next) (Is (too_many_cells (counted (cell_count_of p (length input))) (max_cells p))) a
    (hosts_common missing next a f)
    (λ e. over_limit a (too_many_cells (counted (cell_count_of p (length input))) (max_cells p)) e refl) h

runs_common : (said : Outcome → Stats → Answer) → ((o : Outcome) (stats : Stats) (a : Answer) → a ≡ said o stats → IsCommon a)
    → (options : Options) (given : Handed) (p : Program) (input : List ℕ) (a : Answer) → RunsTo said options given p input a → IsCommon a
runs_common said f options given p input a h =
    started_common (host_wanted options given p) p input (Is (said (outcome p input) (stats_of options given p input))) a (f (outcome p input) (stats_of options given p input) a) h

drawn_common : (hosts : Hosts) (p : Program) (input : List ℕ) (seed : ℕ) (a : Answer) → Drawn hosts p input seed a → IsCommon a
drawn_common hosts p input seed a h =
    elim h [
      | inl x ↦ simulated_common (outcome p input) (tally hosts p input).stats (bytes_of x.0) a x.3
      | inr x ↦ over_limit a too_many_steps x.1 refl
    ]

simulates_common : (given : Handed) (seed : ℕ) (p : Program) (input : List ℕ) (a : Answer) → Simulates given seed p input a → IsCommon a
simulates_common given seed p input a h =
    started_common (missing_host given.count (constructs_in p.main)) p input (Drawn given.hosts p input seed) a (drawn_common given.hosts p input seed a) h

replays_common : (given : Handed) (p : Program) (input : List ℕ) (log : List (List logged.Step)) (a : Answer) → Replays given p input log a → IsCommon a
replays_common given p input log a h =
    started_common (missing_host given.count (constructs_in p.main)) p input (Ruled given.hosts p input log) a (λ x. judged_common x.0 a x.2) h

run_common : (options : Options) (given : Handed) (p : Program) (input : List ℕ) (a : Answer) → Runs options given p input a → IsCommon a
run_common options given p input a h = runs_common (ran options p (length input)) (ran_common options p (length input)) options given p input a h

-- ---- courses

-- a common status, or that of a file after a fetch that failed
abbrev IsCaused : List Fetch → Answer → Type 0
IsCaused fetches a = IsCommon a ⊎ ((a.status ≡ 5) × HasFailed fetches)

abbrev AreCaused : Course → Type 0
AreCaused course = (fetches : List Fetch) (a : Answer) → course fetches a → IsCaused fetches a

caused_ends : (wanted : Wanted) → ((a : Answer) → wanted a → IsCommon a) → AreCaused (Ends wanted)
caused_ends wanted f [] a h = inl (f a h)
caused_ends wanted f (fetch ∷ fetches) a h = absurd h

-- where a fetch gives no content, the status is that of a file, or a common one
record HasCause (left : FetchError → Wanted) : Type 0 where
  missing : (a : Answer) → left Missing a → a.status ≡ 5
  failed : (a : Answer) → left Failed a → a.status ≡ 5
  long : (a : Answer) → left TooLong a → IsCommon a
  memory : (a : Answer) → left OutOfMemory a → ⊥

caused_after : (left : FetchError → Wanted) (next : List ℕ → Course) → HasCause left → ((content : List ℕ) → AreCaused (next content)) → (fetch : Fetch) (fetches : List Fetch) (a : Answer)
    → (r : Result (List ℕ) FetchError) → fetch.gave ≡ r → After left r next fetches a → IsCaused (fetch ∷ fetches) a
caused_after left next so f fetch fetches a (Ok content) is h =
    elim (f content fetches a h) [
      | inl common ↦ inl common
      | inr file ↦ inr (file.0, inr (inr file.1))
    ]
caused_after left next so f fetch [] a (Err Missing) is h = inr (so.missing a h, inl is)
caused_after left next so f fetch [] a (Err Failed) is h = inr (so.failed a h, inr (inl is))
caused_after left next so f fetch [] a (Err TooLong) is h = inl (so.long a h)
caused_after left next so f fetch [] a (Err OutOfMemory) is h = absurd (so.memory a h)
caused_after left next so f fetch (other ∷ fetches) a (Err error) is h = absurd h

caused_fetches_or : (left : FetchError → Wanted) (name : List ℕ) (limit : ℕ) (next : List ℕ → Course) → HasCause left → ((content : List ℕ) → AreCaused (next content)) → AreCaused (FetchesOr left name limit next)
caused_fetches_or left name limit next so f [] a h = absurd h
caused_fetches_or left name limit next so f (fetch ∷ fetches) a h = caused_after left next so f fetch fetches a fetch.gave refl h.2

caused_fetches : (name : List ℕ) (limit : ℕ) (next : List ℕ → Course) → ((content : List ℕ) → AreCaused (next content)) → AreCaused (Fetches name limit next)
caused_fetches name limit next f = caused_fetches_or (Unfetched name limit) name limit next (record {
  missing = λ a e. status_as a (file_failed name) 5 e refl;
  failed = λ a e. status_as a (file_failed name) 5 e refl;
  long = λ a e. over_limit a (file_too_long name limit) e refl;
  memory = λ a none. none;
}) f

caused_read : (text : List ℕ) (next : Program → Course) → ((p : Program) → AreCaused (next p)) → AreCaused (Read text next)
caused_read text next f fetches a h = by h.0 h.2
  where
    by : (v : TextVerdict) → WithText v next fetches a → IsCaused fetches a
    by (Says p) judged = f p fetches a judged
    by (Refuses refusal) judged = caused_ends (Is (text_refused refusal)) (λ b e. no_program b (text_refused refusal) e refl) fetches a judged

caused_checked : (p : Program) (next : Course) → AreCaused next → AreCaused (CheckedBy p next)
caused_checked p next f fetches a h =
    elim h [
      | inl x ↦ f fetches a x.1
      | inr x ↦ caused_ends (Is (rule_refused p x.0 x.1 x.2)) (λ b e. refused b (rule_refused p x.0 x.1 x.2) e refl) fetches a x.4
    ]

caused_allowed : (plain : Bool) (p : Program) (next : Course) → AreCaused next → AreCaused (Allowed plain p next)
caused_allowed true p next f = f
caused_allowed false p next f = caused_checked p next f

caused_runs : (options : Options) (given : Handed) (input : List ℕ) (p : Program) → AreCaused (RunsOn options given input p)
caused_runs options given input p =
    caused_fetches input max_input (λ content. Ends (Runs options given p content)) (λ content. caused_ends (Runs options given p content) (run_common options given p content))

caused_chosen : (b : Bool) (first second : Course) → AreCaused first → AreCaused second → AreCaused (Chosen b first second)
caused_chosen true first second f g = f
caused_chosen false first second f g = g

caused_files : (hosts : Hosts) (p : Program) (files : List Entry) (names : List (List ℕ)) → AreCaused (RunsFiles hosts p files names)
caused_files hosts p files [] = caused_ends (Is (batch_done hosts p files)) (λ a e. done a (batch_done hosts p files) e refl)
caused_files hosts p files (name ∷ names) =
    caused_fetches_or (FileUnfetched p files name) name max_input _ (record {
      missing = λ a e. status_as a (batch_answer p files 5 (failed_line name)) 5 e refl;
      failed = λ a e. status_as a (batch_answer p files 5 (failed_line name)) 5 e refl;
      long = λ a e. over_limit a (batch_answer p files 7 (long_line name max_input)) e refl;
      memory = λ a none. none;
    }) (λ content. caused_chosen (nat_le (cell_count_of p (length content)) (max_cells p)) _ _
    (caused_files hosts p (files ++ record { name = name; content = content } ∷ []) names)
    (caused_ends (Is (batch_answer p files 7 (too_many_line (counted (cell_count_of p (length content))) (max_cells p))))
    (λ a e. over_limit a (batch_answer p files 7 (too_many_line (counted (cell_count_of p (length content))) (max_cells p))) e refl)))

caused_batches : (given : Handed) (p : Program) (names : List (List ℕ)) (missing : Option ℕ) → AreCaused (Batches given p names missing)
caused_batches given p names None = caused_files given.hosts p [] names
caused_batches given p names (Some host) = caused_ends (Is (host_missing host)) (λ a e. over_limit a (host_missing host) e refl)

caused_accepted : (name : List ℕ) (next : Program → Course) → ((p : Program) → AreCaused (next p)) → AreCaused (AcceptedIn name next)
caused_accepted name next f =
    caused_fetches name max_program (λ text. Read text (λ p. CheckedBy p (next p))) (λ text. caused_read text (λ p. CheckedBy p (next p)) (λ p. caused_checked p (next p) (f p)))

caused_log : (given : Handed) (p : Program) (input file : List ℕ) → AreCaused (WithLog file (λ sections. Ends (Replays given p input sections)))
caused_log given p input file fetches a h =
    elim h [
      | inl x ↦ caused_ends (Replays given p input x.0) (replays_common given p input x.0) fetches a x.2
      | inr x ↦ caused_ends (Is (not_a_log x.0)) (λ b e. wrong_format b (not_a_log x.0) e refl) fetches a x.2
    ]

caused_list : (given : Handed) (list : List ℕ) (p : Program) → AreCaused (BatchesOn given list p)
caused_list given list p =
    caused_fetches list max_list _ (λ bytes fetches a h.
    elim h [
      | inl x ↦ caused_batches given p x.0 (missing_host given.count (constructs_in p.main)) fetches a x.2
      | inr x ↦ caused_ends (Is (not_a_name x.0)) (λ b e. wrong_format b (not_a_name x.0) e refl) fetches a x.2
    ])

decoded_common : (options : DecodeOptions) (p : Program) (input : List ℕ) (a : Answer) → Decodes options p input a → IsCommon a
decoded_common options p input a h = run_common (run_options options) (handed []) p input a h

caused_command : (given : Handed) (command : Command) → AreCaused (WholeOf given command)
caused_command given (Run program input options) =
    caused_fetches program max_program (λ text. Read text (λ p. Allowed options.plain p (RunsOn options given input p))) (λ text.
    caused_read text (λ p. Allowed options.plain p (RunsOn options given input p)) (λ p. caused_allowed options.plain p (RunsOn options given input p) (caused_runs options given input p)))
caused_command given (Check program) =
    caused_accepted program (λ p. Ends (Is accepted)) (λ p. caused_ends (Is accepted) (λ a e. done a accepted e refl))
caused_command given (Explain program) =
    caused_fetches program max_program (λ text. Read text (λ p. Ends (Explained p))) (λ text.
    caused_read text (λ p. Ends (Explained p)) (λ p. caused_ends (Explained p) (λ a x. done a (explained x.0) x.2 refl)))
caused_command given (Print program) =
    caused_fetches program max_program (λ text. Read text (λ p. Ends (Is (printed p)))) (λ text.
    caused_read text (λ p. Ends (Is (printed p))) (λ p. caused_ends (Is (printed p)) (λ a e. done a (printed p) e refl)))
caused_command given (Unpack input options) =
    caused_fetches input max_input (λ content. Ends (Unpacking options content)) (λ content.
    caused_ends (Unpacking options content) (λ a h. decoded_common options (packbits_program (block_of options)) content a h.0))
caused_command given (Unhuff input options) =
    caused_fetches input max_input (λ content. WithHuf1 content (Ends (Unhuffing options content))) (λ content fetches a h.
    elim h [
      | inl x ↦ caused_ends (Unhuffing options content) (λ b y. decoded_common options (huffman_program (block_of options)) content b y.0) fetches a x.1
      | inr x ↦ caused_ends (Is (not_huf1 x.0)) (λ b e. wrong_format b (not_huf1 x.0) e refl) fetches a x.2
    ])
caused_command given (Lex machine input options) =
    caused_fetches machine max_machine (λ table. WithLex1 table (λ states classes. Fetches input max_input (λ content. Ends (Lexing options table states classes content)))) (λ table fetches a h.
    elim h [
      | inl x ↦ caused_fetches input max_input (λ content. Ends (Lexing options table x.0 x.1 content)) (λ content.
          caused_ends (Lexing options table x.0 x.1 content) (λ b y. decoded_common options (lexer_program (block_of options) x.0 x.1) (table ++ content) b y.0)) fetches a x.3
      | inr x ↦ caused_ends (Is (not_lex1 x.0)) (λ b e. wrong_format b (not_lex1 x.0) e refl) fetches a x.2
    ])
caused_command given (Show machine) =
    caused_fetches machine max_machine (λ table. WithLex1 table (λ states classes. Ends (Is (written (machine_text table))))) (λ table fetches a h.
    elim h [
      | inl x ↦ caused_ends (Is (written (machine_text table))) (λ b e. done b (written (machine_text table)) e refl) fetches a x.3
      | inr x ↦ caused_ends (Is (not_lex1 x.0)) (λ b e. wrong_format b (not_lex1 x.0) e refl) fetches a x.2
    ])
caused_command given (Build text) =
    caused_fetches text max_machine_text (λ bytes. WithMachine bytes (λ file. Ends (Is (written file)))) (λ bytes fetches a h.
    elim h [
      | inl x ↦ caused_ends (Is (written x.0)) (λ b e. done b (written x.0) e refl) fetches a x.2
      | inr x ↦ caused_ends (Is not_a_machine) (λ b e. wrong_format b not_a_machine e refl) fetches a x.1
    ])
caused_command given (Sim program input seed) =
    caused_accepted program (λ p. Fetches input max_input (λ content. Ends (Simulates given seed p content))) (λ p.
    caused_fetches input max_input (λ content. Ends (Simulates given seed p content)) (λ content. caused_ends (Simulates given seed p content) (simulates_common given seed p content)))
caused_command given (Replay program input log) =
    caused_accepted program (λ p. Fetches input max_input (λ content. Fetches log max_log (λ file. WithLog file (λ sections. Ends (Replays given p content sections))))) (λ p.
    caused_fetches input max_input _ (λ content. caused_fetches log max_log _ (caused_log given p content)))
caused_command given (Batch program list workers) = caused_accepted program (BatchesOn given list) (caused_list given list)
caused_command given (Demo decoder seed size workers) =
    caused_ends (Demonstrates decoder seed size) (λ a h. runs_common shown shown_common by_blocks (handed []) (demo_program decoder) (demo_input decoder h.0) a h.3)

-- ---- words

-- what holds for a command's answer with this status, and of that to words that ask for none
by_words : {A : Type 0} (given : Handed) (words : List (List ℕ)) (fetches : List Fetch) (a : Answer) → Whole given words fetches a
    → (IsCommon a → A) → ((a.status ≡ 5) → HasFailed fetches → A) → (AskForNothing words → a.status ≡ 2 → A) → A
by_words given words fetches a h common file none =
    elim h [
      | inl x ↦ elim (caused_command given x.0 fetches a x.2) [
        | inl c ↦ common c
        | inr f ↦ file f.0 f.1
      ]
      | inr x ↦ none x.0 (said fetches x.1)
    ]
  where
    said : (xs : List Fetch) → Ends (Is not_understood) xs a → a.status ≡ 2
    said [] e = status_as a not_understood 2 e refl
    said (x ∷ xs) e = absurd e

-- a run over bytes at hand fetches nothing
at_hand_common : (given : Handed) (workers : ℕ) (text input : List ℕ) (a : Answer) → RunsText given workers text input a → IsCommon a
at_hand_common given workers text input a h =
    elim (caused_read text (λ p. CheckedBy p (Ends (Runs (with_stats workers) given p input))) (λ p.
    caused_checked p (Ends (Runs (with_stats workers) given p input)) (caused_ends (Runs (with_stats workers) given p input) (run_common (with_stats workers) given p input))) [] a h) [
      | inl common ↦ common
      | inr file ↦ absurd file.1
    ]

pub statuses_have_causes : StatusesHaveCauses
statuses_have_causes = record {
  words = λ given words fetches a h s. by_words given words fetches a h (λ c. absurd (c.words s)) (λ five failed. absurd (omega (arith, s, five))) (λ none two. none);
  file = λ given words fetches a h s. by_words given words fetches a h (λ c. absurd (c.file s)) (λ five failed. failed) (λ none two. absurd (omega (arith, s, two)));
  put = λ given words fetches a h s. by_words given words fetches a h (λ c. c.put s) (λ five failed. omega (arith, s, five)) (λ none two. omega (arith, s, two));
  memory = λ given words fetches a h s. by_words given words fetches a h (λ c. c.memory s) (λ five failed. omega (arith, s, five)) (λ none two. omega (arith, s, two));
  at_hand = λ given workers text input a h. (at_hand_common given workers text input a h).put;
}
