-- Answers of the program: a status, and what it writes.
use Rattle.std.specs.List.{sum_by}
use Rattle.std.specs.Prelude.{ℕ, Bool, true, false, List, [], ◌∷◌, ◌++◌, Option}
use Rattle.spf_ast.specs.Syntax.{Program}
use Rattle.spf_ast.specs.Program.{Outcome, Done, Stopped}
use Rattle.spf_ast.specs.Spelling.{spelled}
use Rattle.spf_print_forms.specs.Canonical.{canonical_text}
use Rattle.spf_region.specs.declared.range.Range.{Range}
use Rattle.spf_check.specs.declared.rule.Rule.{Rule}
use Rattle.spf_guess_statistics.specs.declared.stats.Stats.{Stats}
use Rattle.spf_cli_answers.specs.Message.{
  trap_line,
  words_line,
  failed_line,
  long_line,
  too_many_line,
  host_line,
  not_huf1_line,
  not_lex1_line,
  not_machine_line,
  not_name_line,
  not_log_line,
  steps_line,
  verdict_line,
  sum_line,
  accepted_line,
  rule_line,
  stats_line,
  array_lines,
}
use Rattle.spf_replay.specs.declared.verdict.Verdict.{Verdict}
use Rattle.spf_replay.specs.declared.verdict.Verdict.TheVariants.{Yes, No}
use Rattle.spf_cli_words.specs.Command.{Options}
use Rattle.spf_cli_answers.specs.Reading.{TextRefusal, refusal_line}

-- a status, with the texts on the output, each in pieces of its own, and the lines on the error stream
pub record Answer : Type 0 where
  pub status : ℕ
  pub out : List (List ℕ)
  pub err : List (List ℕ)

-- nothing was run: there is a line on the error stream alone
abbrev pub refused : ℕ → List ℕ → Answer
refused status said = record { status = status; out = [] ∷ []; err = said ∷ [] }

-- the words aren't those of a command
abbrev pub not_understood : Answer
not_understood = refused 2 words_line

-- the text has no lawful program
abbrev pub text_refused : TextRefusal → Answer
text_refused refusal = refused 3 (refusal_line refusal)

-- the program keeps the rules
abbrev pub accepted : Answer
accepted = record { status = 0; out = [] ∷ []; err = accepted_line ∷ [] }

-- a top construct of the program breaks a rule
abbrev pub rule_refused : Program → Rule → ℕ → Option Range → Answer
rule_refused p rule at range = refused 4 (rule_line p.arrays rule at range)

-- a file can't be fetched
abbrev pub file_failed : List ℕ → Answer
file_failed name = refused 5 (failed_line name)

-- a file is over its limit
abbrev pub file_too_long : List ℕ → ℕ → Answer
file_too_long name limit = refused 7 (long_line name limit)

-- the arrays have `count` cells, which is over the limit
abbrev pub too_many_cells : (count limit : ℕ) → Answer
too_many_cells count limit = refused 7 (too_many_line count limit)

-- a host that the program names isn't supplied
abbrev pub host_missing : ℕ → Answer
host_missing host = refused 7 (host_line host)

-- the input isn't a HUF1 file, because of what stands, or is missing, at this offset
abbrev pub not_huf1 : ℕ → Answer
not_huf1 offset = refused 9 (not_huf1_line offset)

-- the machine isn't a LEX1 file, because of what stands, or is missing, at this offset
abbrev pub not_lex1 : ℕ → Answer
not_lex1 offset = refused 9 (not_lex1_line offset)

-- the text is that of no machine
abbrev pub not_a_machine : Answer
not_a_machine = refused 9 not_machine_line

-- this line of a list, counted from 1, isn't a file's name
abbrev pub not_a_name : ℕ → Answer
not_a_name number = refused 9 (not_name_line number)

-- the file isn't a log, because of what stands, or is missing, at this offset
abbrev pub not_a_log : ℕ → Answer
not_a_log offset = refused 9 (not_log_line offset)

-- a schedule has too many steps
abbrev pub too_many_steps : Answer
too_many_steps = refused 7 steps_line

-- a machine's text, or its file, was written
abbrev pub written : List ℕ → Answer
written bytes = record { status = 0; out = bytes ∷ []; err = [] }

-- a program was printed
abbrev pub printed : Program → Answer
printed p = record { status = 0; out = canonical_text (spelled 0 p) ∷ []; err = [] }

-- a program was explained, by this text
abbrev pub explained : List ℕ → Answer
explained text = record { status = 0; out = text ∷ []; err = [] }

-- lines that stand only where they are asked for
abbrev pub asked : Bool → List (List ℕ) → List (List ℕ)
asked true lines = lines
asked false lines = []

-- the line of the statistics of a run
abbrev pub stats_lines : Options → Stats → List (List ℕ)
stats_lines options stats = asked options.stats (stats_line stats.blocks stats.hits stats.misses stats.blind ∷ [])

-- a program was run, on an input of this length, to its end or to a trap, with guesses of this quality
abbrev pub ran : Options → Program → ℕ → Outcome → Stats → Answer
ran options p len (Done cells output) stats =
    record { status = 0; out = output ∷ []; err = stats_lines options stats ++ asked options.cells (array_lines len p.arrays cells) }
ran options p len (Stopped trap output) stats = record { status = 1; out = output ∷ []; err = trap_line trap ∷ stats_lines options stats }

-- the status of a run that ended so
abbrev pub end_status : Outcome → ℕ
end_status (Done cells output) = 0
end_status (Stopped trap output) = 1

-- the line of its trap, where it trapped
abbrev pub trap_lines : Outcome → List (List ℕ)
trap_lines (Done cells output) = []
trap_lines (Stopped trap output) = trap_line trap ∷ []

-- a run was simulated, to its end or to a trap: its log is written, and on the error stream what a run writes there with its statistics
abbrev pub simulated : Outcome → Stats → List ℕ → Answer
simulated o stats log = record {
  status = end_status o;
  out = log ∷ [];
  err = trap_lines o ++ stats_line stats.blocks stats.hits stats.misses stats.blind ∷ [];
}

-- a log was judged
abbrev pub judged : Verdict → Answer
judged Yes = record { status = 0; out = verdict_line Yes ∷ []; err = [] }
judged (No section) = record { status = 10; out = verdict_line (No section) ∷ []; err = [] }

-- a decoder was run on a generated input: shown are the sum of the output's bytes and how good the guesses were, or the trap
abbrev pub shown : Outcome → Stats → Answer
shown (Done cells output) stats = record { status = 0; out = sum_line (sum_by (λ byte. byte) output) stats.blocks stats.hits stats.misses ∷ []; err = [] }
shown (Stopped trap output) stats = record { status = 1; out = [] ∷ []; err = trap_line trap ∷ [] }
