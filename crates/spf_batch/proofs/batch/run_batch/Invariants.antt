use Rattle.std.proofs.Common.{◌≡◌, ◌*◌, List, length, map, take}
use Rattle.std.specs.Prelude.{string_bytes}
use Rattle.spf_ast.specs.View.{program as seen_program}
use Rattle.spf_guess.specs.Answers.{supplied}
use Rattle.spf_engine_construct.specs.Guesses.{AreAtMost}
use Rattle.spf_engine.specs.Counts.{most_counted}
use Rattle.spf_edge.specs.Entries.{Entry}
use Rattle.spf_batch.specs.Batch.{batch_tally}
use Rattle.spf_batch.specs.World.{world}
use Rattle.spf_batch.specs.Many.{names_of, HaveRun}
use Rattle.spf_batch.proofs.batch.run_batch.Given as goal

-- the files of the names so far were run
abbrev pub invariant-loop-place : goal.invariant-loop-place
invariant-loop-place g l = record {
  files : List Entry;
  names_are : names_of files ≡ take l.place (map string_bytes l.names);
  run : HaveRun (seen_program l.fn.checked) files
      (world (g.F.Files.state l.initial.files) (g.S.Sink.state l.initial.out) (supplied (λ h. (goal.Predictor-dyn g (h.vtable, h.value)).answer h.value) l.initial.hosts.items))
      (world (g.F.Files.state l.files) (g.S.Sink.state l.out) (supplied (λ h. (goal.Predictor-dyn g (h.vtable, h.value)).answer h.value) l.hosts.items));
  stats_are : l.stats ≡ (batch_tally (supplied (λ h. (goal.Predictor-dyn g (h.vtable, h.value)).answer h.value) l.initial.hosts.items) (seen_program l.fn.checked) files).stats;
  few : AreAtMost l.stats (most_counted * l.place);
  count : length l.hosts.items ≡ length l.initial.hosts.items;
}
