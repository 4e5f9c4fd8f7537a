use Rattle.std.proofs.Common.{[], ◌++◌, ◌∷◌, refl, ◌∙◌, map, ◌+◌, arith}
use Rattle.std.specs.Prelude.{string_bytes}
use Rattle.spf_ast.specs.View.{program as seen_program}
use Rattle.spf_edge.specs.Entries.{Entry}
use Rattle.spf_batch.proofs.Runs.{none-run, few-none, file-more, stats-more, few-more, names-more, stops-here, all-names, count-is}
use Rattle.spf_batch.proofs.batch.run_batch.Goals as goal

pub loop-place-init : goal.loop-place-init
loop-place-init g c = record {
  files = [];
  names_are = refl;
  run = none-run (seen_program c.args.checked.now) _;
  stats_are = c.none-stats.ensures;
  few = few-none c.none-stats.result _ c.none-stats.ensures;
  count = refl;
}

pub returns-in-Err-clause-stopped : goal.returns-in-Err-clause-stopped
returns-in-Err-clause-stopped g c =
    let i = c.loop-place.invariant in
    stops-here string_bytes (seen_program c.args.checked.now) c.args.names.now c.loop-place.place c.index-names-place.result c.as_str.result.now i.files _ _ _ _ c.in-Err.error
    (omega arith) c.index-names-place.is c.as_str.ensures.value i.names_are i.run c.in-Err.ensures.stopped

pub loop-place-preserved : goal.loop-place-preserved
loop-place-preserved g c =
    let p = seen_program c.args.checked.now in
    let i = c.loop-place.invariant in
    let ran = c.in-Ok.ensures.ran in
    let file : Entry = record { name = c.as_str.result.now; content = ran.0 } in
    record {
      files = i.files ++ file ∷ [];
      names_are = names-more string_bytes c.args.names.now c.loop-place.place c.index-names-place.result c.as_str.result.now i.files ran.0 (omega arith) c.index-names-place.is c.as_str.ensures.value i.names_are;
      run = file-more p i.files file _ _ _ i.run ran.1;
      stats_are = stats-more p i.files file _ _ c.in-Ok.file c.loop-place.stats c.plus-stats.result i.run ran.2 i.stats_are c.plus-stats.ensures;
      few = few-more c.loop-place.stats c.in-Ok.file c.plus-stats.result c.loop-place.place (c.loop-place.place + 1) i.few c.in-Ok.ensures.bounded c.plus-stats.ensures refl;
      count = c.run_file.ensures.count ∙ i.count;
    }
