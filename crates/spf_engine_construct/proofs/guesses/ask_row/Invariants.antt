use Rattle.std.proofs.Common.{◌≡◌, length, map, take, List, []}
use Rattle.spf_ast.specs.View.{predictor as seen_predictor}
use Rattle.spf_guess_statistics.specs.Guess.{Hosts, no_hosts, Telling, guess_of, parts_from}
use Rattle.spf_guess.specs.Answers.{handed_in, WereTold}
use Rattle.spf_engine_construct.specs.Guesses.{seen_guess, answered, Results}
use Rattle.spf_engine_construct.proofs.Words.{words_of}
use Rattle.spf_engine_construct.proofs.guesses.ask_row.Given as goal

-- the parts so far are guessed
abbrev pub invariant-loop-index : goal.invariant-loop-index
invariant-loop-index g l = record {
  words : (before : Hosts) (telling : List Telling) (results : Results) → WereTold before telling (handed_in (map (λ h. (goal.Predictor-dyn g (h.vtable, h.value)).answer h.value) l.initial.hosts.items))
      → seen_guess l.fn.predicted ≡ guess_of (parts_from (answered no_hosts [] l.fn.number) results 0 (map seen_predictor l.fn.predictors))
      → take l.index l.words ≡ take l.index (words_of (parts_from (answered before telling l.fn.number) results 0 (map seen_predictor l.fn.predictors)));
  told : (before : Hosts) (telling : List Telling) → WereTold before telling (handed_in (map (λ h. (goal.Predictor-dyn g (h.vtable, h.value)).answer h.value) l.initial.hosts.items))
      → WereTold before telling (handed_in (map (λ h. (goal.Predictor-dyn g (h.vtable, h.value)).answer h.value) l.hosts.items));
  count : length l.hosts.items ≡ length l.initial.hosts.items;
  room : length l.words ≡ 4;
}
