use Rattle.spf_speculation_lanes.specs.Lanes.{trace_of, logs_in}
use Rattle.spf_speculation_lanes.proofs.Lanes.{finished-lanes, lanes-consistent, lanes-give, turns-below}
use Rattle.spf_speculation_lanes.proofs.laws.lanes_make_speculative_runs.Goals as goal

pub returns-clause-finished : goal.returns-clause-finished
returns-clause-finished c e cells lanes trace before after made all is = finished-lanes e cells lanes trace before after made all is

pub returns-clause-merging : goal.returns-clause-merging
returns-clause-merging c e guess cells lanes values result h are come steps merge =
    c.every_merging_is_a_speculative_run.ensures e guess (logs_in (trace_of lanes)) values result h come
    (lanes-consistent c.ascending_plans_are_disjoint.ensures.cells e cells lanes are) steps merge

pub returns-clause-memory : goal.returns-clause-memory
returns-clause-memory c e guess cells lanes trace values value memory h are come back =
    lanes-give c.ascending_plans_are_disjoint.ensures.cells c.speculative_runs_mean_the_plain_run.ensures.logs e guess cells lanes trace values value memory h are come back

pub returns-clause-second : goal.returns-clause-second
returns-clause-second c setting block log h = turns-below setting block log h
