-- Logs: the answers of `sim` and `replay`.
use Rattle.std.proofs.Common.{◌≡◌, ◌<◌, ◌≤◌, ℕ, zero, suc, List, [], ◌∷◌, ◌++◌, map, refl, sym, ap, ◌∙◌, arith, inl, inr, subst}
use Rattle.std.specs.Prelude.{Result, Ok, Err, IfOk, IfErr, Vec}
use Rattle.std.specs.declared.alloc.Global.{Global}
use Rattle.std.specs.List.{All}
use Rattle.spf_ast.specs.declared.syntax.Program as code_program
use Rattle.spf_ast.specs.View.{program}
use Rattle.spf_ast.specs.Syntax.{Program}
use Rattle.spf_ast.specs.Program.{Outcome, outcome, seen_outcome}
use Rattle.spf_guess_statistics.specs.declared.stats.Stats.{Stats}
use Rattle.spf_guess_statistics.specs.Guess.{Hosts}
use Rattle.spf_guess_statistics.specs.Statistics.{tally}
use Rattle.spf_speculation.specs.Steps.{Step}
use Rattle.spf_check.specs.Accepting.{IsAccepted}
use Rattle.spf_edge.specs.Fetches.{FilesState, Fetch, AreMade}
use Rattle.spf_edge.proofs.Fetched.{made_none, made_both}
use Rattle.spf_replay_log.specs.declared.log.Event as logged_event
use Rattle.spf_replay_log.specs.declared.log.Event.TheVariants as event
use Rattle.spf_replay_log.specs.declared.log.Step as logged
use Rattle.spf_replay_log.specs.Log.{IsLog, log_bytes, max_blocks, sections_of}
use Rattle.spf_replay_log.specs.Laws.{BytesAreOneLog, LogsDoNotBreak, LogsBreakOnce}
use Rattle.spf_replay.specs.Limits.{max_steps}
use Rattle.spf_replay.specs.Reading.{event_of}
use Rattle.spf_replay.specs.SeenSteps.{seen_steps}
use Rattle.spf_replay.specs.Expecting.{expected, IsSchedule, SchedulesOfRunsAreOne}
use Rattle.spf_replay.specs.declared.verdict.Verdict as log_verdict
use Rattle.spf_replay.specs.Verdicts.{VerdictsAreOne, IsVerdict}
use Rattle.spf_replay_sim.specs.Bytes.{bytes_of, logged_event_of, logged_step}
use Rattle.spf_replay_sim.specs.Drawing.{step_count, AreOfFewBlocks, HasTooManySteps}
use Rattle.spf_replay_sim.specs.Simulating.{IsSimulation}
use Rattle.spf_replay_sim.specs.declared.simulation.Simulated.{Simulated}
use Rattle.spf_replay_walk.specs.Judging.{seen_log}
use Rattle.spf_cli_words.specs.Only.{IsOnly}
use Rattle.spf_cli_answers.specs.Answer.{Answer, end_status, trap_lines, too_many_steps, not_a_log, simulated, judged}
use Rattle.spf_cli_answers.specs.Answering.{seen_answer, IsFetchExit, IsRuleExit, IsFollowed, AnswersWith}
use Rattle.spf_cli_answers.specs.Message.{stats_line}
use Rattle.spf_cli_answers.specs.Course.{Course, Fetches}
use Rattle.spf_cli_answers.specs.Laws.{RuleLaws}
use Rattle.spf_cli_answers.specs.Logs.{IsAcceptedText, IsFetchedAccepted, IsTextExit, IsNoneAccepted, IsLogExit, IsNoLog}
use Rattle.spf_cli_answers.specs.Reading.{Says, IsTextVerdict}
use Rattle.spf_cli_answers.specs.Replying.{LeadsTo}
use Rattle.spf_cli_answers.specs.Whole.{AcceptedIn, Read, CheckedBy, WithText, WithLog, Drawn, Ruled, max_program, max_log}
use Rattle.spf_cli_answers.specs.declared.answer.Answer as made
use Rattle.spf_cli_answers.specs.declared.answer.Exit.{Exit}
use Rattle.spf_cli_answers.specs.declared.answer.Exit.TheVariants.{Answered, NoMemory}
use Rattle.spf_cli_answers.proofs.Steps.{answers_with, answers_fetch, fetch_left, answers_read, read_left, rule_left}

-- ---- what is left of a course

-- a course was followed where what is left of it was
pub followed_on : (course rest : Course) (old mid new : FilesState) (a : Answer) → LeadsTo course rest old mid → IsFollowed rest mid new a → IsFollowed course old new a
followed_on course rest old mid new a l h = record {
  fetches = l.fetches ++ h.fetches;
  made = made_both old mid new l.fetches h.fetches l.made h.made;
  only = record { is = l.on h.fetches a h.only.is; only = λ b x. h.only.only b (l.back h.fetches b x) };
}

pub answers_on : (course rest : Course) (old mid new : FilesState) (r : Result made.Answer Exit) → LeadsTo course rest old mid → AnswersWith (IsFollowed rest mid new) r → AnswersWith (IsFollowed course old new) r
answers_on course rest old mid new r l h = answers_with (IsFollowed course old new) (IsFollowed rest mid new) r h (λ a. followed_on course rest old mid new a l)

-- ---- programs

-- after a program that the rules accept
pub accepted_leads : RuleLaws → (name : List ℕ) (next : Program → Course) (p : Program) (old new : FilesState) → IsFetchedAccepted old new name p → LeadsTo (AcceptedIn name next) (next p) old new
accepted_leads laws name next p old new is = record {
  fetches = record { name = name; limit = max_program; gave = Ok is.0 } ∷ [];
  made = is.1;
  on = λ more a h. (refl, refl, (Says p, is.2.is, inl (is.3, h)));
  back = λ more a x. back more a (subst (λ w. WithText w (λ q. CheckedBy q (next q)) more a) (is.2.only x.2.0 x.2.1) x.2.2);
}
  where
    back : (more : List Fetch) (a : Answer) → CheckedBy p (next p) more a → next p more a
    back more a h = elim h [
      | inl x ↦ x.1
      | inr x ↦ absurd (laws.refused p x.0 x.1 x.2 x.3 is.3)
    ]

-- without one
text_left : RuleLaws → (text : List ℕ) (next : Program → Course) (state : FilesState) (left : Exit) → IsTextExit text left → AnswersWith (IsFollowed (Read text (λ p. CheckedBy p (next p))) state state) (Err left)
text_left laws text next state left h =
    elim h [
      | inl x ↦ read_left text (λ p. CheckedBy p (next p)) state left x
      | inr x ↦ answers_read text x.0 (λ p. CheckedBy p (next p)) state state (Err left) x.1 (rule_left laws x.0 (next x.0) state left x.2)
    ]

pub accepted_left : RuleLaws → (name : List ℕ) (next : Program → Course) (old new : FilesState) (left : Exit) → IsNoneAccepted old new name left → AnswersWith (IsFollowed (AcceptedIn name next) old new) (Err left)
accepted_left laws name next old new (Answered a) h =
    elim h [
      | inl x ↦ fetch_left name max_program (λ text. Read text (λ p. CheckedBy p (next p))) old new (Answered a) x
      | inr x ↦ answers_fetch name max_program (λ text. Read text (λ p. CheckedBy p (next p))) x.0 old new new (Err (Answered a)) x.1 (text_left laws x.0 next new (Answered a) x.2)
    ]
accepted_left laws name next old new NoMemory h = tt

-- a text says a program that the rules accept
pub accepted_text : (text : List ℕ) (parsed : code_program.Program) (r : Result code_program.Program Exit) → IsOnly (IsTextVerdict text) (Says (program parsed))
    → IfOk r (λ checked. checked ≡ parsed) → IfOk r (λ checked. IsAccepted (program parsed)) → IfOk r (λ checked. IsAcceptedText text (program checked))
accepted_text text parsed (Ok checked) says same accepted = subst (λ q. IsAcceptedText text (program q)) (sym same) (says, accepted)
accepted_text text parsed (Err left) says same accepted = tt

-- it says one that they refuse
pub refused_text : (text : List ℕ) (p : Program) (r : Result code_program.Program Exit) → IsOnly (IsTextVerdict text) (Says p) → IfErr r (IsRuleExit p) → IfErr r (IsTextExit text)
refused_text text p (Ok checked) says h = tt
refused_text text p (Err left) says h = inr (p, says, h)

-- a program that was fetched, read and accepted
pub is_accepted : (old new : FilesState) (name text : List ℕ) (r : Result code_program.Program Exit)
    → AreMade old new (record { name = name; limit = max_program; gave = Ok text } ∷ []) → IfOk r (λ checked. IsAcceptedText text (program checked))
    → IfOk r (λ checked. IsFetchedAccepted old new name (program checked))
is_accepted old new name text (Ok checked) made h = (text, made, h.0, h.1)
is_accepted old new name text (Err left) made h = tt

-- a text without one
pub none_accepted : (old new : FilesState) (name text : List ℕ) (r : Result code_program.Program Exit)
    → AreMade old new (record { name = name; limit = max_program; gave = Ok text } ∷ []) → IfErr r (IsTextExit text) → IfErr r (IsNoneAccepted old new name)
none_accepted old new name text (Ok checked) made h = tt
none_accepted old new name text (Err (Answered a)) made h = inr (text, made, h)
none_accepted old new name text (Err NoMemory) made h = tt

-- a file that can't be fetched
pub none_fetched : (old new : FilesState) (name : List ℕ) (left : Exit) → IsFetchExit old new name max_program left → IsNoneAccepted old new name left
none_fetched old new name (Answered a) h = inl h
none_fetched old new name NoMemory h = tt

-- ---- simulations

-- the blocks of sections, as the code has them
pub few_blocks : (log : List (Vec logged.Step Global)) → AreOfFewBlocks (sections_of log) → All (λ (section : Vec logged.Step Global). All (λ (s : logged.Step). s.block < max_blocks) section.items) log
few_blocks [] h n d below = absurd (omega (arith, below))
few_blocks (x ∷ xs) h zero d below = h 0 [] (omega arith)
few_blocks (x ∷ xs) h (suc n) d below = few_blocks xs (λ k e l. h (suc k) e (omega (arith, l))) n d (omega (arith, below))

-- what logs hold, seen as plain data and held again
same_event : (e : logged_event.Event) → logged_event_of (event_of e) ≡ e
same_event (event.Load cell word) = refl
same_event (event.Store cell word) = refl
same_event (event.Turn number) = refl

same_steps : (steps : List logged.Step) → map logged_step (seen_steps steps) ≡ steps
same_steps [] = refl
same_steps (s ∷ steps) = λ i. record { block = s.block; event = same_event s.event i } ∷ same_steps steps i

same_sections : (log : List (List logged.Step)) → map (λ steps. map logged_step steps) (map seen_steps log) ≡ log
same_sections [] = refl
same_sections (steps ∷ log) = λ i. same_steps steps i ∷ same_sections log i

-- the answer of a simulation: the status of its outcome, the bytes of its log, and the lines in their order
pub said_simulated : (o : Outcome) (stats : Stats) (log : List (Vec logged.Step Global)) (status : ℕ) (bytes line : List ℕ) (first between lines : List (List ℕ))
    → status ≡ end_status o → IsLog (sections_of log) bytes → first ≡ [] → between ≡ first ++ trap_lines o → lines ≡ between ++ line ∷ []
    → line ≡ stats_line stats.blocks stats.hits stats.misses stats.blind
    → record { status = status; out = bytes ∷ []; err = lines } ≡ simulated o stats (bytes_of (seen_log log))
said_simulated o stats log status bytes line first between lines ends is none trap all last =
    let written : bytes ≡ bytes_of (seen_log log) = is.bytes_are ∙ ap log_bytes (sym (same_sections (sections_of log))) in
    let told : lines ≡ trap_lines o ++ stats_line stats.blocks stats.hits stats.misses stats.blind ∷ [] =
    all ∙ (λ i. (trap ∙ ap (λ xs. xs ++ trap_lines o) none) i ++ last i ∷ []) in
    λ i. record { status = ends i; out = written i ∷ []; err = told i }

-- the answer of a schedule that isn't too long
pub drawn_so : SchedulesOfRunsAreOne → (hosts : Hosts) (p : Program) (input : List ℕ) (seed : ℕ) (log : List (List Step)) (a : Answer) → IsSchedule hosts p input seed log → step_count log ≤ max_steps
    → a ≡ simulated (outcome p input) (tally hosts p input).stats (bytes_of log) → IsOnly (Drawn hosts p input seed) a
drawn_so one hosts p input seed log a is few e = record { is = inl (log, is, few, e); only = λ b x. other b x }
  where
    other : (b : Answer) → Drawn hosts p input seed b → b ≡ a
    other b x = elim x [
      | inl y ↦ y.3 ∙ ap (λ l. simulated (outcome p input) (tally hosts p input).stats (bytes_of l)) (one (expected hosts p input) seed y.0 log y.1 is) ∙ sym e
      | inr z ↦ let many = z.0 log is in absurd (omega (arith, many, few))
    ]

-- the answer of a simulation, by another name of the program and of the input
pub drawn_by : SchedulesOfRunsAreOne → (hosts : Hosts) (p q : Program) (input other : List ℕ) (seed : ℕ) (s : Simulated) (a : Answer) → q ≡ p → other ≡ input → IsSimulation hosts q other seed s
    → a ≡ simulated (seen_outcome s.outcome) s.stats (bytes_of (seen_log s.log.items)) → IsOnly (Drawn hosts p input seed) a
drawn_by one hosts p q input other seed s a same content is e =
    let named = subst (λ (x : Program × List ℕ). IsSimulation hosts x.0 x.1 seed s) (λ i. (same i, content i)) is in
    drawn_so one hosts p input seed (seen_log s.log.items) a named.log named.few (e ∙ (λ i. simulated (named.outcome_is i) (named.stats_are i) (bytes_of (seen_log s.log.items))))

-- that of one that is
pub too_long_so : (hosts : Hosts) (p : Program) (input : List ℕ) (seed : ℕ) (a : Answer) → HasTooManySteps hosts p input seed → a ≡ too_many_steps → IsOnly (Drawn hosts p input seed) a
too_long_so hosts p input seed a long e = record { is = inr (long, e); only = λ b x. other b x }
  where
    other : (b : Answer) → Drawn hosts p input seed b → b ≡ a
    other b x = elim x [
      | inl y ↦ let many = long y.0 y.1 in let few = y.2 in absurd (omega (arith, many, few))
      | inr z ↦ z.1 ∙ sym e
    ]

-- ---- verdicts

pub ruled_so : VerdictsAreOne → (hosts : Hosts) (p : Program) (input : List ℕ) (log : List (List logged.Step)) (v : log_verdict.Verdict) (a : Answer)
    → IsVerdict (expected hosts p input) (map seen_steps log) v → a ≡ judged v → IsOnly (Ruled hosts p input log) a
ruled_so one hosts p input log v a is e = record {
  is = (v, is, e);
  only = λ b x. x.2 ∙ ap judged (one (expected hosts p input) (map seen_steps log) x.0 v x.1 is) ∙ sym e;
}

-- ---- files of logs

-- bytes are a log in one way, or break at one offset
pub record LogLaws : Type 0 where
  pub one : BytesAreOneLog
  pub none : LogsDoNotBreak
  pub offset : LogsBreakOnce

-- a file that is a log leads on
pub followed_log : LogLaws → (file : List ℕ) (log : List (List logged.Step)) (next : List (List logged.Step) → Course) (old new : FilesState) (a : Answer) → IsLog log file → IsFollowed (next log) old new a
    → IsFollowed (WithLog file next) old new a
followed_log laws file log next old new a is h = record { fetches = h.fetches; made = h.made; only = record { is = inl (log, is, h.only.is); only = λ b x. other b x } }
  where
    other : (b : Answer) → WithLog file next h.fetches b → b ≡ a
    other b x = elim x [
      | inl y ↦ h.only.only b (subst (λ l. next l h.fetches b) (laws.one file y.0 log y.1 is) y.2)
      | inr z ↦ absurd (laws.none file log z.0 is z.1)
    ]

-- bytes aren't a log
log_left : LogLaws → (file : List ℕ) (next : List (List logged.Step) → Course) (state : FilesState) (left : Exit) → IsLogExit file left → AnswersWith (IsFollowed (WithLog file next) state state) (Err left)
log_left laws file next state (Answered a) h = record {
  fetches = [];
  made = made_none state;
  only = record { is = inr (h.0, h.1, h.2); only = λ b x. other b x };
}
  where
    other : (b : Answer) → WithLog file next [] b → b ≡ seen_answer a
    other b x = elim x [
      | inl y ↦ absurd (laws.none file y.0 h.0 y.1 h.1)
      | inr z ↦ z.2 ∙ ap not_a_log (laws.offset file z.0 h.0 z.1 h.1) ∙ sym h.2
    ]
log_left laws file next state NoMemory h = tt

-- the same of a result
pub no_log : {A : Type 0} (old new : FilesState) (name bytes : List ℕ) (r : Result A Exit) → AreMade old new (record { name = name; limit = max_log; gave = Ok bytes } ∷ []) → IfErr r (IsLogExit bytes) → IfErr r (IsNoLog old new name)
no_log old new name bytes (Ok log) made h = tt
no_log old new name bytes (Err (Answered a)) made h = inr (bytes, made, h)
no_log old new name bytes (Err NoMemory) made h = tt

pub answers_log : LogLaws → (file : List ℕ) (log : List (List logged.Step)) (next : List (List logged.Step) → Course) (old new : FilesState) (r : Result made.Answer Exit) → IsLog log file → AnswersWith (IsFollowed (next log) old new) r
    → AnswersWith (IsFollowed (WithLog file next) old new) r
answers_log laws file log next old new r is h = answers_with (IsFollowed (WithLog file next) old new) (IsFollowed (next log) old new) r h (λ a. followed_log laws file log next old new a is)

-- a file can't be fetched, or isn't a log
pub no_log_left : LogLaws → (name : List ℕ) (next : List (List logged.Step) → Course) (old new : FilesState) (left : Exit) → IsNoLog old new name left
    → AnswersWith (IsFollowed (Fetches name max_log (λ file. WithLog file next)) old new) (Err left)
no_log_left laws name next old new (Answered a) h =
    elim h [
      | inl x ↦ fetch_left name max_log (λ file. WithLog file next) old new (Answered a) x
      | inr x ↦ answers_fetch name max_log (λ file. WithLog file next) x.0 old new new (Err (Answered a)) x.1 (log_left laws x.0 next new (Answered a) x.2)
    ]
no_log_left laws name next old new NoMemory h = tt
