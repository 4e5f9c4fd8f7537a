-- What a step leads to.
use Rattle.std.proofs.Common.{◌≡◌, ℕ, ◌+◌, ◌-◌, ◌*◌, ◌≤◌, length, List, [], ◌∷◌, ◌++◌, refl, sym, ap, ◌∙◌, subst, append_assoc, arith}
use Rattle.std.specs.Prelude.{Some, Result, Ok, Err, IfOk, IfErr}
use Rattle.std.proofs.lemmas.List.{append-nil}
use Rattle.spf_ast.specs.Syntax.{Program, Block}
use Rattle.spf_ast.specs.Pieces.{construct_first, from_construct, rest_from, statement_count}
use Rattle.spf_ast.specs.Construct.{Construct, Header, constructs_in, Reached, reached_from, reals}
use Rattle.spf_guess_statistics.specs.Guess.{Hosts, Telling, tells}
use Rattle.spf_guess_statistics.specs.Statistics.{tally_from, tally}
use Rattle.spf_guess.specs.Answers.{WereTold}
use Rattle.spf_ast.specs.declared.outcome.Trap.{Trap}
use Rattle.spf_ast.specs.Program.{environment_of, Outcome, outcome, Done, Stopped}
use Rattle.spf_exec.specs.declared.pieces.Pause.{Pause}
use Rattle.spf_exec.specs.Pieces.{RunState, Advanced, ahead}
use Rattle.spf_engine_laws.specs.Progress.{Progress, GoesOn, HasCome, HasEntered}
use Rattle.spf_engine.specs.declared.account.Account.{Account}
use Rattle.spf_engine_laws.specs.Laws.{RunsAdvance, IsPausedSo, PassedHaveTheTraces}
use Rattle.spf_engine_laws.specs.Traces.{Trace, AreTraces}
use Rattle.spf_chain.specs.declared.block.Settled.{Settled}
use Rattle.spf_chain.specs.declared.block.Settled.TheVariants.{Carried, Trapped}
use Rattle.spf_engine_construct.specs.Guesses.{AreAtMost}
use Rattle.spf_guess_statistics.specs.declared.stats.Stats.{Stats}
use Rattle.spf_guess_statistics.specs.Statistics.{none, plus}
use Rattle.spf_ast.specs.declared.construct.TopConstruct.{TopConstruct}
use Rattle.spf_exec.specs.declared.pieces.Header as code_header
use Rattle.spf_engine.specs.declared.step.Step.{Step}
use Rattle.spf_engine.specs.declared.step.Step.TheVariants as step
use Rattle.spf_engine.specs.declared.step.Arrival.{Arrival}
use Rattle.spf_engine.specs.declared.step.Arrival.TheVariants.{AtBlocks, Over}
use Rattle.spf_engine.specs.Runs.{IsSettledBy, CountsAreBounded, IsProgressAfter, ComesFurther, ComesNearer, WereToldFirst}
use Rattle.spf_engine.specs.Accounts.{AgreesWith, StepsTo}
use Rattle.spf_engine.proofs.Ending.{advance-counts, few-none, few-advanced, goes-past, few-past}
use Rattle.spf_engine.proofs.Passing.{plus-none}

-- what is told later comes after what was told
record TellsOn (hosts : Hosts) (p : Program) (input : List ℕ) (constructs : List Construct) (others : List Reached) (telling : List Telling) : Type 0 where
  more : List Telling
  all : telling ++ more ≡ (tally_from hosts p input constructs others telling).telling

tells-on : (hosts : Hosts) (p : Program) (input : List ℕ) (constructs : List Construct) (others : List Reached) (telling : List Telling) → TellsOn hosts p input constructs others telling
tells-on hosts p input [] others telling = record { more = []; all = append-nil telling }
tells-on hosts p input (c ∷ cs) [] telling = record { more = []; all = append-nil telling }
tells-on hosts p input (c ∷ cs) (r ∷ rs) telling =
    let later = tells-on hosts p input cs rs (telling ++ tells c r.header r.reals.values) in
    record { more = tells c r.header r.reals.values ++ later.more; all = sym (append_assoc telling (tells c r.header r.reals.values) later.more) ∙ later.all }

-- hosts of a run that goes on were told the first of what they are told
pub told-first : (hosts : Hosts) (p : Program) (input : List ℕ) (s : RunState) (progress : Progress) (now : Hosts) → GoesOn hosts p input s progress → WereTold hosts progress.telling now → WereToldFirst hosts p input now
told-first hosts p input s progress now goes told =
    let on = tells-on hosts p input (constructs_in (ahead p s)) (reached_from (environment_of p input) (ahead p s) goes.moment) progress.telling in
    record { telling = progress.telling; more = on.more; all = on.all ∙ goes.completes.telling_is; told = told }

-- those of a run that has reached its end were told all
pub told-all : (hosts : Hosts) (p : Program) (input : List ℕ) (telling : List Telling) (now : Hosts) → telling ≡ (tally hosts p input).telling → WereTold hosts telling now → WereToldFirst hosts p input now
told-all hosts p input telling now is told = record { telling = telling; more = []; all = append-nil telling ∙ is; told = told }

-- so were those of a run that is at the end of a step
pub first-there : (hosts : Hosts) (p : Program) (input : List ℕ) (taken : Step) (s : RunState) (later : Progress) (now : Hosts) → IsProgressAfter hosts p input taken s later → WereTold hosts later.telling now → WereToldFirst hosts p input now
first-there hosts p input step.Next s later now there told = told-first hosts p input s later now there told
first-there hosts p input step.Finished s later now there told = told-all hosts p input later.telling now there.whole.telling_is told
first-there hosts p input (step.Trapped t) s later now there told = told-all hosts p input later.telling now there.whole.telling_is told

-- ---- further

-- where the run goes on, it is past the construct
pub further-after : (p : Program) (before s last : RunState) (c : Construct) (settled : Settled) (taken : Step) (counted more : Stats)
    → construct_first (ahead p before) ≡ Some c → s.place ≡ before.place → IsSettledBy p c s last settled taken
    → s.passed + length (constructs_in (ahead p s)) ≡ length (constructs_in p.main) → CountsAreBounded p before counted → AreAtMost more 4096
    → ComesFurther p taken before last (plus counted more)
further-after p before s last c (Carried v) taken counted more first place so count few at_most =
    let same : ahead p s ≡ ahead p before = ap (λ n. rest_from n p.main) place in
    let past = goes-past p s last c (ap construct_first same ∙ first) so.1.place in
    let fewer = past.statements in
    let left = ap statement_count same in
    let few_here : CountsAreBounded p s counted = subst (λ (x : Block). AreAtMost counted (4096 * (length (constructs_in p.main) - length (constructs_in x)))) (sym same) few in
    subst (λ t. ComesFurther p t before last (plus counted more)) (sym so.0) (omega (arith, fewer, left), few-past p s last counted more count past few_here at_most)
further-after p before s last c (Trapped t) taken counted more first place so count few at_most =
    subst (λ x. ComesFurther p x before last (plus counted more)) (sym so.0) tt

-- also where nothing was counted
pub further-uncounted : (p : Program) (before s last : RunState) (c : Construct) (settled : Settled) (taken : Step)
    → construct_first (ahead p before) ≡ Some c → s.place ≡ before.place → IsSettledBy p c s last settled taken
    → s.passed + length (constructs_in (ahead p s)) ≡ length (constructs_in p.main) → ComesNearer p before (Over taken) last
further-uncounted p before s last c settled taken first place so count = λ counted few.
    subst (ComesFurther p taken before last) (plus-none counted) (further-after p before s last c settled taken counted none first place so count few (few-none 4096))

-- it is further also from before
pub further-from : (p : Program) (before between last : RunState) (taken : Step) (counted : Stats) → statement_count (ahead p between) ≤ statement_count (ahead p before)
    → ComesFurther p taken between last counted → ComesFurther p taken before last counted
further-from p before between last step.Next counted nearer h = (let fewer = h.0 in (omega (arith, fewer, nearer), h.1))
further-from p before between last step.Finished counted nearer h = tt
further-from p before between last (step.Trapped t) counted nearer h = tt

-- a run is as near after a header as before it
pub near-there : (p : Program) (before after : RunState) (number : ℕ) (c : TopConstruct) (header : code_header.Header) → after.place ≡ before.place → ComesNearer p before (AtBlocks number c header) after
near-there p before after number c header place =
    let same : ahead p after ≡ ahead p before = ap (λ n. rest_from n p.main) place in
    let count = ap statement_count same in
    (omega (arith, count), λ counted few. subst (λ (x : Block). AreAtMost counted (4096 * (length (constructs_in p.main) - length (constructs_in x)))) (sym same) few)

-- it came nearer also from before
pub nearer-from : (p : Program) (before between last : RunState) (arrival : Arrival) → ahead p between ≡ from_construct (ahead p before) → ComesNearer p between arrival last → ComesNearer p before arrival last
nearer-from p before between last (AtBlocks number c header) at h =
    let nearer = advance-counts p before between at in
    let here = h.0 in
    (omega (arith, nearer, here), λ counted few. h.1 counted (few-advanced p before between counted at few))
nearer-from p before between last (Over taken) at h = λ counted few.
    further-from p before between last taken counted (advance-counts p before between at) (h counted (few-advanced p before between counted at few))

-- whatever hosts there were before
pub entered-told-first : (p : Program) (input : List ℕ) (c : Construct) (h : Header) (s : RunState) (was now : Hosts) → ((before : Hosts) (telling : List Telling) → WereTold before telling was → WereTold before telling now)
    → (before : Hosts) (progress : Progress) → WereTold before progress.telling was → HasEntered before p input c h s progress → WereToldFirst before p input now
entered-told-first p input c h s was now keeps before progress were e = told-first before p input e.before progress now e.goes (keeps before progress.telling were)

-- so it is with one whose construct was settled and told
pub told-there : (p : Program) (input : List ℕ) (c : Construct) (h : Header) (s last : RunState) (taken : Step) (was now : Hosts) (later : Hosts → Progress → Progress)
    → ((before : Hosts) (progress : Progress) → WereTold before progress.telling was → HasEntered before p input c h s progress → IsProgressAfter before p input taken last (later before progress) × WereTold before (later before progress).telling now)
    → (before : Hosts) (progress : Progress) → WereTold before progress.telling was → HasEntered before p input c h s progress → WereToldFirst before p input now
told-there p input c h s last taken was now later f before progress were e =
    let both = f before progress were e in
    first-there before p input taken last (later before progress) now both.0 both.1

pub same-told-first : (p : Program) (input : List ℕ) (s : RunState) (was : Hosts) (before : Hosts) (progress : Progress) → WereTold before progress.telling was → GoesOn before p input s progress → WereToldFirst before p input was
same-told-first p input s was before progress were goes = told-first before p input s progress was goes were

-- ---- results

-- what follows from a good result, and from an error
pub over-ok : {A E : Type 0} (P Q : A → Type 0) → ((a : A) → P a → Q a) → (r : Result A E) → IfOk r P → IfOk r Q
over-ok P Q f (Ok a) h = f a h
over-ok P Q f (Err e) h = tt

pub over-err : {A E : Type 0} (P Q : E → Type 0) → ((e : E) → P e → Q e) → (r : Result A E) → IfErr r P → IfErr r Q
over-err P Q f (Ok a) h = tt
over-err P Q f (Err e) h = f e h

pub if-err : {A E : Type 0} {X : Type 0} (r : Result A E) → X → IfErr r (λ e. X)
if-err (Ok a) x = tt
if-err (Err e) x = x

-- where a run paused, by what the pause is
pub paused-so : RunsAdvance → (hosts : Hosts) (p : Program) (input : List ℕ) (before after : RunState) (progress : Progress) {one other : Pause} → one ≡ other → GoesOn hosts p input before progress → Advanced p input before after one → IsPausedSo hosts p input after progress other
paused-so advance hosts p input before after progress {one} e goes a = subst (IsPausedSo hosts p input after progress) e (advance hosts p input before after progress one goes a)

-- ---- the end

-- a run has ended so: with the program's outcome and its statistics, with its traces, and all was told
pub record EndsSo (hosts : Hosts) (p : Program) (input : List ℕ) (o : Outcome) (account : Account) (now : Hosts) : Type 0 where
  pub outcome_is : o ≡ outcome p input
  pub stats : account.stats ≡ (tally hosts p input).stats
  pub traces : AreTraces hosts p input (constructs_in p.main) (reals p input) [] account.traces.items
  pub told : WereTold hosts (tally hosts p input).telling now

ends-so : PassedHaveTheTraces → (hosts : Hosts) (p : Program) (input : List ℕ) (o : Outcome) (later : Progress) (account : Account) (now : Hosts) → AgreesWith later account → WereTold hosts later.telling now → HasCome hosts p input o later → EndsSo hosts p input o account now
ends-so law hosts p input o later account now agrees told come = record {
  outcome_is = come.outcome_is;
  stats = agrees.stats ∙ come.whole.stats_are;
  traces = law hosts p input later account.traces.items come.whole agrees.traces;
  told = subst (λ telling. WereTold hosts telling now) come.whole.telling_is told;
}

pub finishes-so : PassedHaveTheTraces → (hosts : Hosts) (p : Program) (input : List ℕ) (taken : Step) (s : RunState) (account : Account) (now : Hosts) → StepsTo hosts p input taken s account now → taken ≡ step.Finished → EndsSo hosts p input (Done s.cells s.output) account now
finishes-so law hosts p input taken s account now to is =
    ends-so law hosts p input (Done s.cells s.output) to.later account now to.agrees to.told (subst (λ t. IsProgressAfter hosts p input t s to.later) is to.there)

pub traps-so : PassedHaveTheTraces → (hosts : Hosts) (p : Program) (input : List ℕ) (taken : Step) (t : Trap) (s : RunState) (account : Account) (now : Hosts) → StepsTo hosts p input taken s account now → taken ≡ step.Trapped t → EndsSo hosts p input (Stopped t s.output) account now
traps-so law hosts p input taken t s account now to is =
    ends-so law hosts p input (Stopped t s.output) to.later account now to.agrees to.told (subst (λ x. IsProgressAfter hosts p input x s to.later) is to.there)

-- hosts that were told nothing
pub told-nothing : (hosts : Hosts) (p : Program) (input : List ℕ) → WereToldFirst hosts p input hosts
told-nothing hosts p input = record { telling = []; more = (tally hosts p input).telling; all = refl; told = λ host pairs block. refl }

-- after a step the run goes on
pub goes-on-so : (hosts : Hosts) (p : Program) (input : List ℕ) (taken : Step) (s : RunState) (later : Progress) → IsProgressAfter hosts p input taken s later → taken ≡ step.Next → GoesOn hosts p input s later
goes-on-so hosts p input taken s later there is = subst (λ t. IsProgressAfter hosts p input t s later) is there

-- all was told, of the same program and input
pub retold-as : (hosts now : Hosts) (p q : Program) (input other : List ℕ) → p ≡ q → input ≡ other → WereTold hosts (tally hosts p input).telling now → WereTold hosts (tally hosts q other).telling now
retold-as hosts now p q input other same given were = subst (λ t. WereTold hosts t now) (λ i. (tally hosts (same i) (given i)).telling) were

-- so it is with traces
pub traces-as : (hosts : Hosts) (p q : Program) (input other : List ℕ) (traces : List Trace) → p ≡ q → input ≡ other
    → AreTraces hosts p input (constructs_in p.main) (reals p input) [] traces → AreTraces hosts q other (constructs_in q.main) (reals q other) [] traces
traces-as hosts p q input other traces same given are =
    subst (λ other_input. AreTraces hosts q other_input (constructs_in q.main) (reals q other_input) [] traces) given
    (subst (λ program. AreTraces hosts program input (constructs_in program.main) (reals program input) [] traces) same are)
