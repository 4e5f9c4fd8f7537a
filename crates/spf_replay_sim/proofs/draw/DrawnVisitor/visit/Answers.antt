use Rattle.std.specs.Prelude.{Result, Ok, Err, OnOk}
use Rattle.spf_replay.specs.Entered.{entry_of}
use Rattle.spf_replay_sim.proofs.Sections.{drawn-over, drawn-too-long, drawn-next}
use Rattle.spf_replay_sim.proofs.draw.DrawnVisitor.visit.Goals as goal

-- what follows from four facts on a result that is Ok
from-four : {T E : Type 0} {A B C D X : Type 0} (r : Result T E) → (A → B → C → D → X) → OnOk r A → OnOk r B → OnOk r C → OnOk r D → OnOk r X
from-four (Ok t) f a b c d = f a b c d
from-four (Err e) f a b c d = tt

pub returns-then-self-clause-next : goal.returns-then-self-clause-next
returns-then-self-clause-next c = λ passed x same guesses first drawn. drawn-over first.state passed x c.args.self.now c.if-self.true drawn

pub returns-in-Ok-clause-next : goal.returns-in-Ok-clause-next
returns-in-Ok-clause-next c =
    from-four c.add.result (λ log state counted over passed x same guesses first drawn.
    drawn-next c.schedules_are_runs.ensures first.state passed x (entry_of c.args.entered.now) c.args.self.now c.add.new.drawn c.in-Ok.schedule.steps.items c.in-Ok.schedule.state
    c.if-self.false over drawn same c.requires.is.is_entry c.requires.is.few (c.in-Ok.ensures.scheduled x.guess guesses) log state counted)
    c.add.ensures.log c.add.ensures.state c.add.ensures.counted c.add.ensures.over

pub returns-in-Err-TooManySteps-clause-next : goal.returns-in-Err-TooManySteps-clause-next
returns-in-Err-TooManySteps-clause-next c = λ passed x same guesses first drawn.
    drawn-too-long c.each_construct_has_one_schedule.ensures.one first.state passed x (entry_of c.args.entered.now) c.args.self.now c.if-self.false drawn same
    (λ steps last is. c.in-Err-TooManySteps.ensures.too_many x.guess guesses c.in-Err-TooManySteps.field-0-is steps last is)
