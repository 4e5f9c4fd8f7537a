use Rattle.std.proofs.Common.{◌≡◌, List, ◌++◌, length, map, take}
use Rattle.spf_ast.specs.View.{predictor as seen_predictor}
use Rattle.spf_guess_statistics.specs.Guess.{Hosts, Telling, tells_row}
use Rattle.spf_guess.specs.Answers.{handed_in, WereTold}
use Rattle.spf_engine_construct.proofs.telling.tell_row.Given as goal

-- the parts so far were told
abbrev pub invariant-loop-index : goal.invariant-loop-index
invariant-loop-index g l = record {
  count : length l.hosts.items ≡ length l.initial.hosts.items;
  told : (before : Hosts) (telling : List Telling) → WereTold before telling (handed_in (map (λ h. (goal.Predictor-dyn g (h.vtable, h.value)).answer h.value) l.initial.hosts.items))
      → WereTold before (telling ++ tells_row (take l.index (map seen_predictor l.fn.predictors)) l.fn.number l.fn.row) (handed_in (map (λ h. (goal.Predictor-dyn g (h.vtable, h.value)).answer h.value) l.hosts.items));
}
