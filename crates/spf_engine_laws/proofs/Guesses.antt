-- Guesses see visible slots alone.
use Rattle.std.proofs.Common.{◌≡◌, ℕ, zero, suc, true, List, [], ◌∷◌, length, None, ℤ, pos, refl, sym, ap, ◌∙◌, subst}
use Rattle.std.specs.Prelude.{Some, Ok, Err, slice_get}
use Rattle.spf_ast.specs.Event.{Event}
use Rattle.spf_ast.specs.Interaction.{Interaction, State, Ending, Value, Trapped, result_of, Performed, Ended, Stopped, Misfit, perform, no_cell}
use Rattle.spf_ast.specs.Syntax.{Statement, Program, Predictor, By, Host}
use Rattle.spf_ast.specs.Meaning.{Environment}
use Rattle.spf_ast.specs.Plain.{unshared_answer}
use Rattle.spf_ast.specs.Program.{environment_of, extents_of}
use Rattle.spf_ast.specs.Construct.{Construct, construct_of, predictors_of, guess_means, guess_at, guess_part_means}
use Rattle.spf_ast.specs.BlockRun.{guess_asks, predicts}
use Rattle.spf_ast.specs.Laws.{HasOneUnsharedAnswer}
use Rattle.spf_ast.specs.Lawful.{Names, Scope, names_at, in_predictor, IsLawfulStatement, IsLawfulPredictor, AreLawfulPredictors}
use Rattle.spf_ast.proofs.Unshared.{one_unshared_answer}
use Rattle.spf_ast_laws.specs.Agreement.{Relation, LookAlike, EndAlike, GoAlike}
use Rattle.spf_ast_laws.proofs.Slots.{cons_rest}
use Rattle.spf_ast_laws.proofs.Primitives.{Sees, performed, sees-then, sees-fewer, gives-sees, sets-sees}
use Rattle.spf_ast_laws.proofs.Forms.{CallsSee, calls-see, operand-sees}
use Rattle.spf_ast_laws.proofs.Chains.{is-statement}
use Rattle.spf_guess_statistics.specs.Guess.{Hosts, Telling, told_to, part_by, parts_from, guess_of, guess_for}

-- ---- the guess of one part

predictor-sees : (g : Environment) → CallsSee g → (names : Names) (scope : Scope) (line : ℕ) (p : Predictor) → IsLawfulPredictor names scope p
    → Sees (LookAlike scope.visible) (LookAlike scope.visible) (guess_means g line p)
predictor-sees g calls names scope line (By guess) l = operand-sees g calls names scope line guess l
predictor-sees g calls names scope line (Host number) l = gives-sees (pos 0)

part-sees : (g : Environment) → CallsSee g → (names : Names) (scope : Scope) (line : ℕ) (ps : List Predictor) (index : ℕ) → AreLawfulPredictors names scope ps
    → Sees (LookAlike scope.visible) (LookAlike scope.visible) (guess_at g line (slice_get ps index))
part-sees g calls names scope line [] index l = gives-sees (pos 0)
part-sees g calls names scope line (p ∷ ps) zero l = predictor-sees g calls names scope line p l.0
part-sees g calls names scope line (p ∷ ps) (suc index) l = part-sees g calls names scope line ps index l.1

guess-sees : (g : Environment) → CallsSee g → (names : Names) (scope : Scope) (line : ℕ) (s : Statement) (c : Construct) → construct_of line s ≡ Some c → IsLawfulStatement names true scope s
    → (index : ℕ) (number : ℤ) → Sees (LookAlike scope.visible) (LookAlike scope.visible) (guess_part_means g c index number)
guess-sees g calls names scope line s c is l index number =
    is-statement line s c
    (λ t k. IsLawfulStatement names true scope t → Sees (LookAlike scope.visible) (LookAlike scope.visible) (guess_part_means g k index number))
    (λ head body l. sees-then (sets-sees head.block number)
    (λ u. sees-fewer (cons_rest head.block scope.visible) (part-sees g calls names (in_predictor scope head.block) line head.predict index l.5)))
    (λ head producer consumer l. part-sees g calls names scope line head.predict index l.3)
    is l

-- ---- what it comes to

-- endings that are alike give the same result
alike-results : {A : Type 0} (After : Relation) (e d : Ending A) → EndAlike After e d → result_of e ≡ result_of d
alike-results After (Value a s) (Value b t) h = ap Ok h.0
alike-results After (Value a s) (Trapped t o) h = elim h [ ]
alike-results After (Trapped t o) (Value a s) h = elim h [ ]
alike-results After (Trapped t o) (Trapped u q) h = ap Err h.0

-- two trees that are performed alike give the same result with no shared cell
same-result : {A : Type 0} (After : Relation) (t u : Interaction (Ending A)) (m : List ℤ) → HasOneUnsharedAnswer t m → HasOneUnsharedAnswer u m
    → ((es : List Event) → GoAlike After (perform no_cell m None t es) (perform no_cell m None u es)) → result_of (unshared_answer t m) ≡ result_of (unshared_answer u m)
same-result {A} After t u m one other alike = go (perform no_cell m None u one.events) refl (subst (λ x. GoAlike After x (perform no_cell m None u one.events)) one.ends (alike one.events))
  where
    go : (r : Performed (Ending A)) → perform no_cell m None u one.events ≡ r → GoAlike After (Ended (unshared_answer t m) []) r → result_of (unshared_answer t m) ≡ result_of (unshared_answer u m)
    go (Ended e rest) is h = alike-results After (unshared_answer t m) e h.0 ∙ ap result_of (other.only one.events e (is ∙ ap (Ended e) (sym h.1)))
    go (Stopped n rest) is h = elim h [ ]
    go Misfit is h = elim h [ ]

-- from slots that look alike the guess of a part gives the same result
same-part : (p : Program) (input : List ℕ) (scope : Scope) (line : ℕ) (s : Statement) (c : Construct) → construct_of line s ≡ Some c
    → IsLawfulStatement (names_at p (length p.functions) p.slots) true scope s
    → (one other : State) → LookAlike scope.visible one other → (m : List ℤ) (k : ℤ) (index : ℕ) → predicts p input c one.slots m k index ≡ predicts p input c other.slots m k index
same-part p input scope line s c is l one other h m k index =
    same-result (LookAlike scope.visible) (guess_asks p c index input one.slots k) (guess_asks p c index input other.slots k) m
    (one_unshared_answer (guess_asks p c index input one.slots k) m) (one_unshared_answer (guess_asks p c index input other.slots k) m)
    (λ es. performed (guess-sees (environment_of p input) (calls-see input (extents_of p (length input)) p.functions (length p.functions)) (names_at p (length p.functions) p.slots) scope line s c is l index k)
    (record { slots = one.slots; output = [] }) (record { slots = other.slots; output = [] })
    (record { agree = record { slots = h.agree.slots; output = refl }; slot_count = h.slot_count }) no_cell m None es)

-- ---- whole guesses

-- parts whose expressions give the same result are guessed alike
same-parts : (answer : ℕ → ℤ) (one other : ℕ → _) → ((index : ℕ) → one index ≡ other index) → (index : ℕ) (ps : List Predictor) → parts_from answer one index ps ≡ parts_from answer other index ps
same-parts answer one other same index [] = refl
same-parts answer one other same index (p ∷ ps) = λ i. part_by answer (same index i) p ∷ same-parts answer one other same (suc index) ps i

-- from slots that look alike the guesses are the same
pub same-guess : (p : Program) (input : List ℕ) (scope : Scope) (line : ℕ) (s : Statement) (c : Construct) → construct_of line s ≡ Some c
    → IsLawfulStatement (names_at p (length p.functions) p.slots) true scope s
    → (one other : State) → LookAlike scope.visible one other → (hosts : Hosts) (telling : List Telling) (m : List ℤ) (k : ℤ)
    → guess_for hosts telling p input c one.slots m k ≡ guess_for hosts telling p input c other.slots m k
same-guess p input scope line s c is l one other h hosts telling m k =
    ap guess_of (same-parts (λ host. hosts host (told_to host telling) k) (predicts p input c one.slots m k) (predicts p input c other.slots m k)
    (same-part p input scope line s c is l one other h m k) 0 (predictors_of c))
