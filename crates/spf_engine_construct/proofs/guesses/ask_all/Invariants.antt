use Rattle.std.proofs.Common.{◌≡◌, map, length, List}
use Rattle.spf_guess_statistics.specs.Guess.{Hosts, Telling}
use Rattle.spf_guess.specs.Answers.{handed_in, WereTold}
use Rattle.spf_engine_construct.specs.Guesses.{seen_guess, block_guess, guesses_from}
use Rattle.spf_engine_construct.proofs.guesses.ask_all.Given as goal

-- the guesses for the blocks so far were taken
abbrev pub invariant-loop-n : goal.invariant-loop-n
invariant-loop-n g l = record {
  guesses : (before : Hosts) (telling : List Telling) → WereTold before telling (handed_in (map (λ h. (goal.Predictor-dyn g (h.vtable, h.value)).answer h.value) l.initial.hosts.items))
      → map seen_guess l.guesses.items ≡ guesses_from (block_guess before telling l.fn.at l.fn.header) 1 l.n;
  told : (before : Hosts) (telling : List Telling) → WereTold before telling (handed_in (map (λ h. (goal.Predictor-dyn g (h.vtable, h.value)).answer h.value) l.initial.hosts.items))
      → WereTold before telling (handed_in (map (λ h. (goal.Predictor-dyn g (h.vtable, h.value)).answer h.value) l.hosts.items));
  count : length l.hosts.items ≡ length l.initial.hosts.items;
  taken : length l.guesses.items ≡ l.n;
}
