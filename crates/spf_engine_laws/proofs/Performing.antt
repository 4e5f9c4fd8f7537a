-- Forms that are performed alike end alike on a memory, and leave it alike.
use Rattle.std.proofs.Common.{◌≡◌, List, [], None, ℤ, refl, sym, ap, ◌∙◌, subst}
use Rattle.spf_ast.specs.Event.{Event, after}
use Rattle.spf_ast.specs.Interaction.{Interaction, Performed, Ended, Stopped, Misfit, perform, every_cell, State, Ending, Meaning}
use Rattle.spf_ast.specs.Plain.{plain_events, plain_answer, plain_memory}
use Rattle.spf_ast.proofs.PlainRuns.{plain_run, one_plain_run}
use Rattle.spf_ast_laws.specs.Agreement.{Relation, EndAlike, GoAlike, Relates}

-- a form that goes on alike from related states, as the laws say it
pub record Sees {A : Type 0} (Before After : Relation) (form : Meaning A) : Type 0 where
  pub relates : Relates Before After form

-- two trees end alike on a memory, and leave it alike
pub record EndAlikeOn {A : Type 0} (After : Relation) (t u : Interaction (Ending A)) (m : List ℤ) : Type 0 where
  pub answers : EndAlike After (plain_answer t m) (plain_answer u m)
  pub memories : plain_memory t m ≡ plain_memory u m

-- the plain run of the one is that of the other
pub ends-alike : {A : Type 0} (After : Relation) (t u : Interaction (Ending A)) (m : List ℤ) → ((es : List Event) → GoAlike After (perform every_cell [] None t es) (perform every_cell [] None u es)) → EndAlikeOn After t u m
ends-alike {A} After t u m alike =
    go (perform every_cell [] None u (plain_events t m)) refl
    (subst (λ r. GoAlike After r (perform every_cell [] None u (plain_events t m))) (plain_run t m).ends (alike (plain_events t m)))
  where
    go : (r : Performed (Ending A)) → perform every_cell [] None u (plain_events t m) ≡ r → GoAlike After (Ended (plain_answer t m) []) r → EndAlikeOn After t u m
    go (Ended e rest) is h =
        let run = plain_run t m in
        let same = (one_plain_run u m).only (plain_events t m) e (record { ends = is ∙ ap (Ended e) (sym h.1); consistent = run.consistent; unpolled = run.unpolled }) in
        record { answers = subst (EndAlike After (plain_answer t m)) same.1 h.0; memories = ap (λ es. after es m) same.0 }
    go (Stopped n rest) is h = elim h [ ]
    go Misfit is h = elim h [ ]

-- so it is of a form from related states
pub form-ends-alike : {A : Type 0} {Before After : Relation} {form : Meaning A} → Sees Before After form → (one other : State) → Before one other → (m : List ℤ) → EndAlikeOn After (form one) (form other) m
form-ends-alike {A} {Before} {After} {form} sees one other h m =
    ends-alike After (form one) (form other) m (λ es. sees.relates one other h every_cell [] None es)
