use Rattle.std.proofs.Common.{◌≡◌, ℕ, List, map, subst, refl}
use Rattle.std.specs.Prelude.{Option, Some, None}
use Rattle.spf_ast.specs.Syntax.{Program}
use Rattle.spf_guess_statistics.specs.Guess.{Hosts}
use Rattle.spf_guess_statistics.specs.Statistics.{tally}
use Rattle.spf_guess.specs.Answers.{handed_in, WereTold}
use Rattle.spf_engine.specs.Runs.{WereToldFirst}
use Rattle.spf_engine.proofs.Stepping.{told-all, retold-as}
use Rattle.spf_replay_sim.specs.declared.simulation.Simulated.{Simulated}
use Rattle.spf_replay_sim.specs.Drawing.{HasTooManySteps}
use Rattle.spf_replay_sim.specs.Simulating.{IsSimulation, ComesTo}
use Rattle.spf_replay_sim.proofs.simulation.sim.Goals as goal

-- a simulation of the same program on the same input
same-simulation : (hosts : Hosts) (p q : Program) (input other : List ℕ) (seed : ℕ) (o : Option Simulated) (s : Simulated) → p ≡ q → input ≡ other → o ≡ Some s → ComesTo hosts p input seed o → IsSimulation hosts q other seed s
same-simulation hosts p q input other seed o s same given some h =
    subst (λ (x : Program × List ℕ). IsSimulation hosts x.0 x.1 seed s) (λ i. (same i, given i)) (subst (ComesTo hosts p input seed) some h)

-- too many steps of the same program on the same input
same-too-many : (hosts : Hosts) (p q : Program) (input other : List ℕ) (seed : ℕ) (o : Option Simulated) → p ≡ q → input ≡ other → o ≡ None → ComesTo hosts p input seed o → HasTooManySteps hosts q other seed
same-too-many hosts p q input other seed o same given none h =
    subst (λ (x : Program × List ℕ). HasTooManySteps hosts x.0 x.1 seed) (λ i. (same i, given i)) (subst (ComesTo hosts p input seed) none h)

-- all was told
told-whole : (hosts : Hosts) (p : Program) (input : List ℕ) (now : Hosts) → WereTold hosts (tally hosts p input).telling now → WereToldFirst hosts p input now
told-whole hosts p input now told = told-all hosts p input (tally hosts p input).telling now refl told

pub returns-in-Ok-Some-clause-log : goal.returns-in-Ok-Some-clause-log
returns-in-Ok-Some-clause-log g c =
    let hosts = (handed_in (map (λ h. (goal.Predictor-dyn g (h.vtable, h.value)).answer h.value) c.args.hosts.now.items)) in
    (same-simulation hosts _ _ _ _ c.args.seed _ _ c.in_ok-instance.ensures.program c.in_ok-instance.ensures.input c.in-Ok-Some.field-0-is c.in-Ok-Some.ensures.simulated).log

pub returns-in-Ok-Some-clause-right : goal.returns-in-Ok-Some-clause-right
returns-in-Ok-Some-clause-right g c =
    let hosts = (handed_in (map (λ h. (goal.Predictor-dyn g (h.vtable, h.value)).answer h.value) c.args.hosts.now.items)) in
    (same-simulation hosts _ _ _ _ c.args.seed _ _ c.in_ok-instance.ensures.program c.in_ok-instance.ensures.input c.in-Ok-Some.field-0-is c.in-Ok-Some.ensures.simulated).right

pub returns-in-Ok-Some-clause-outcome : goal.returns-in-Ok-Some-clause-outcome
returns-in-Ok-Some-clause-outcome g c =
    let hosts = (handed_in (map (λ h. (goal.Predictor-dyn g (h.vtable, h.value)).answer h.value) c.args.hosts.now.items)) in
    (same-simulation hosts _ _ _ _ c.args.seed _ _ c.in_ok-instance.ensures.program c.in_ok-instance.ensures.input c.in-Ok-Some.field-0-is c.in-Ok-Some.ensures.simulated).outcome_is

pub returns-in-Ok-Some-clause-statistics : goal.returns-in-Ok-Some-clause-statistics
returns-in-Ok-Some-clause-statistics g c =
    let hosts = (handed_in (map (λ h. (goal.Predictor-dyn g (h.vtable, h.value)).answer h.value) c.args.hosts.now.items)) in
    (same-simulation hosts _ _ _ _ c.args.seed _ _ c.in_ok-instance.ensures.program c.in_ok-instance.ensures.input c.in-Ok-Some.field-0-is c.in-Ok-Some.ensures.simulated).stats_are

pub returns-in-Ok-Some-clause-told : goal.returns-in-Ok-Some-clause-told
returns-in-Ok-Some-clause-told g c =
    retold-as (handed_in (map (λ h. (goal.Predictor-dyn g (h.vtable, h.value)).answer h.value) c.args.hosts.now.items)) _ _ _ _ _ c.in_ok-instance.ensures.program c.in_ok-instance.ensures.input c.in-Ok-Some.ensures.told

pub returns-in-Ok-None-clause-told_first : goal.returns-in-Ok-None-clause-told_first
returns-in-Ok-None-clause-told_first g c =
    let hosts = (handed_in (map (λ h. (goal.Predictor-dyn g (h.vtable, h.value)).answer h.value) c.args.hosts.now.items)) in
    told-whole hosts _ _ _
    (retold-as hosts _ _ _ _ _ c.in_ok-instance.ensures.program c.in_ok-instance.ensures.input c.in-Ok-None.ensures.told)

pub returns-in-Ok-None-clause-too_many_steps : goal.returns-in-Ok-None-clause-too_many_steps
returns-in-Ok-None-clause-too_many_steps g c = λ is.
    let hosts = (handed_in (map (λ h. (goal.Predictor-dyn g (h.vtable, h.value)).answer h.value) c.args.hosts.now.items)) in
    same-too-many hosts _ _ _ _ c.args.seed _ c.in_ok-instance.ensures.program c.in_ok-instance.ensures.input c.in-Ok-None.field-0-is c.in-Ok-None.ensures.simulated
