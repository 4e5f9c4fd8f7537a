use Rattle.std.proofs.Common.{◌≡◌, List, ◌++◌, ◌+ℤ◌, pos, length, map, take}
use Rattle.spf_ast.specs.View.{predictor as seen_predictor}
use Rattle.spf_guess_statistics.specs.Guess.{Hosts, Telling, tells_from}
use Rattle.spf_guess.specs.Answers.{handed_in, WereTold}
use Rattle.spf_engine_construct.proofs.telling.tell_from_one.Given as goal

-- the rows so far were told
abbrev pub invariant-loop-index : goal.invariant-loop-index
invariant-loop-index g l = record {
  count : length l.hosts.items ≡ length l.initial.hosts.items;
  told : (before : Hosts) (telling : List Telling) → WereTold before telling (handed_in (map (λ h. (goal.Predictor-dyn g (h.vtable, h.value)).answer h.value) l.initial.hosts.items))
      → WereTold before (telling ++ tells_from (map seen_predictor l.fn.predictors) (l.fn.header.low +ℤ pos 1) (take l.index l.fn.others)) (handed_in (map (λ h. (goal.Predictor-dyn g (h.vtable, h.value)).answer h.value) l.hosts.items));
}
