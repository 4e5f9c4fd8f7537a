use Rattle.std.proofs.Common.{◌≡◌, ◌≢◌, ◌∙◌, ℕ, sym, ap, refl, subst, Some, None, length, slice_get, List, ℤ}
use Rattle.std.proofs.lemmas.List.{length-map}
use Rattle.spf_cells.specs.declared.view.LogEntry.{LogEntry}
use Rattle.spf_cells.specs.Values.{LaneValue}
use Rattle.spf_cells.specs.Finish.{AreAllLanes, IsFinish}
use Rattle.spf_chain.specs.declared.block.Settled.{Settled}
use Rattle.spf_speculation.specs.Steps.{Step, Merges}
use Rattle.spf_speculation.specs.Runs.{LogsComeTo, IsSpeculativeRun}
use Rattle.spf_speculation.specs.Prefixes.{PrefixesComplete}
use Rattle.spf_speculation_lanes.specs.Lanes.{trace_of, logs_in, AreLanesFor, EveryMergingOfLanes, LanesGiveThePlainMemory}
use Rattle.spf_chain.specs.declared.chain.Chain.TheInside.{Inside}
use Rattle.spf_speculation_entry.specs.Sites.{entry_at, guess_at}
use Rattle.spf_chain.specs.Standing.{validated_rows}
use Rattle.spf_chain.specs.Chains.{ChainValue, HasEnded, chain_cells}
use Rattle.spf_chain.specs.Kept.{chain_value, cells_inside, IsKept}
use Rattle.spf_chain.specs.Finishing.{lanes_in, result_as, IsFinished}
use Rattle.spf_chain.proofs.Finishing.{lanes-for, came-out, trace-come, CameOut}
use Rattle.spf_chain.proofs.chain.Chain.finish.Goals as goal

all-home : (a : Inside) (v : ChainValue) → chain_value a ≡ v → HasEnded v → (n : ℕ) → slice_get a.homes.items n ≢ Some None
all-home a v is ended n out = ended.home n (ap (λ (w : ChainValue). slice_get w.homes n) (sym is) ∙ out)

finished : PrefixesComplete → EveryMergingOfLanes → LanesGiveThePlainMemory → (a : Inside) (v : ChainValue) (lanes : List LaneValue) (trace : List (List LogEntry)) (before after : List ℤ) → IsKept a → chain_value a ≡ v → HasEnded v → lanes ≡ lanes_in a.homes.items
    → IsFinish (cells_inside a) lanes trace before after → IsFinished v a.validation.settled trace before after
finished complete merging gives a v lanes trace before after h is ended these finish =
    let e = entry_at a.site.value in
    let g = guess_at a.site.value in
    let all = all-home a v is ended in
    let lf : AreLanesFor e (cells_inside a) (lanes_in a.homes.items) = lanes-for a h all in
    let co : CameOut a = came-out complete a v h is ended in
    let come = trace-come a all co in
    subst (λ (w : ChainValue). IsFinished w a.validation.settled trace before after) is record {
      settled = refl;
      values = co.values;
      result = co.result;
      memory = λ x carried entry.
          gives e g (cells_inside a) (lanes_in a.homes.items) trace (validated_rows a.validation.count a.validation.blocks.items) x after h.ground.entry lf
          (subst (λ (s : Settled). LogsComeTo e g (logs_in (trace_of (lanes_in a.homes.items))) 0 e.header.start (validated_rows a.validation.count a.validation.blocks.items) (result_as s)) carried come)
          (subst (λ m. IsFinish (cells_inside a) (lanes_in a.homes.items) trace m after) entry (subst (λ l. IsFinish (cells_inside a) l trace before after) these finish));
      logs = ap length finish.logs ∙ length-map lanes (λ (l : LaneValue). l.log) ∙ ap length these ∙ lf.all.0 ∙ lf.made.blocks;
      merging = subst (λ (t : List (List LogEntry)). (steps : List Step) → Merges e.header.blocks (logs_in t) steps → IsSpeculativeRun e g steps (validated_rows a.validation.count a.validation.blocks.items) (result_as a.validation.settled)) (sym (finish.logs ∙ ap trace_of these))
          (merging e g (cells_inside a) (lanes_in a.homes.items) (validated_rows a.validation.count a.validation.blocks.items) (result_as a.validation.settled) h.ground.entry lf come);
    }

pub finish-trace-requires-clause-lanes : goal.finish-trace-requires-clause-lanes
finish-trace-requires-clause-lanes c =
    let a = c.self.inside in
    let lf = lanes-for a c.self.invariant (all-home a c.args.self c.self.view_is c.requires.ended) in
    let mine : cells_inside a ≡ c.args.cells = ap chain_cells c.self.view_is ∙ sym c.requires.own in
    subst (λ k. AreAllLanes k c.lanes_of-lanes.result.items) mine (subst (AreAllLanes (cells_inside a)) (sym c.lanes_of-lanes.ensures) lf.all)

pub returns : goal.returns
returns c =
    let a = c.self.inside in
    let mine : cells_inside a ≡ c.args.cells = ap chain_cells c.self.view_is ∙ sym c.requires.own in
    finished c.prefixes_grow.ensures.complete c.lanes_make_speculative_runs.ensures.merging c.lanes_make_speculative_runs.ensures.memory
    a c.args.self c.lanes_of-lanes.result.items c.finish-trace.result c.args.into.now c.finish-trace.new.into c.self.invariant c.self.view_is c.requires.ended c.lanes_of-lanes.ensures
    (subst (λ k. IsFinish k c.lanes_of-lanes.result.items c.finish-trace.result c.args.into.now c.finish-trace.new.into) (sym mine) c.finish-trace.ensures)
