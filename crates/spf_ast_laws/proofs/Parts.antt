-- The parts and the headers of constructs see visible slots alone.
use Rattle.std.proofs.Common.{◌≡◌, ℕ, true, List, [], ◌∷◌, length, ℤ, pos}
use Rattle.std.specs.Prelude.{Some, nat_lt}
use Rattle.std.specs.Int.{int_gap}
use Rattle.spf_ast.specs.declared.outcome.TrapKind.TheVariants as trap
use Rattle.spf_ast.specs.declared.syntax.Part.{Part}
use Rattle.spf_ast.specs.declared.syntax.Part.TheVariants.{Body, Producer, Consumer, Predictor}
use Rattle.spf_ast.specs.Carried.{Carried, no_row}
use Rattle.spf_ast.specs.Syntax.{Statement, Fold, Pair, By, Host}
use Rattle.spf_ast.specs.Syntax as syntax
use Rattle.spf_ast.specs.Meaning.{Environment, max_blocks}
use Rattle.spf_ast.specs.Construct.{Construct, fold, pair, construct_of, part_means, guess_means, guesses_mean, header_means}
use Rattle.spf_ast.specs.Lawful.{Names, Scope, in_predictor, IsLawfulStatement, IsLawfulPredictor, AreLawfulPredictors}
use Rattle.spf_ast_laws.specs.Agreement.{LookAlike}
use Rattle.spf_ast_laws.proofs.Slots.{cons_rest}
use Rattle.spf_ast_laws.proofs.Primitives.{Sees, sees-then, sees-if, sees-fewer, gives-sees, traps-sees, sets-sees, looking}
use Rattle.spf_ast_laws.proofs.Forms.{CallsSee, operand-sees, operands-see}
use Rattle.spf_ast_laws.proofs.Chains.{is-statement, body-sees, producer-sees, consumer-sees}

guess-sees : (g : Environment) → CallsSee g → (names : Names) (scope : Scope) (line : ℕ) (p : syntax.Predictor) → IsLawfulPredictor names scope p → Sees (LookAlike scope.visible) (LookAlike scope.visible) (guess_means g line p)
guess-sees g calls names scope line (By guess) l = operand-sees g calls names scope line guess l
guess-sees g calls names scope line (Host number) l = gives-sees (pos 0)

-- the guesses of a row's parts
guesses-see : (g : Environment) → CallsSee g → (names : Names) (scope : Scope) (line : ℕ) (ps : List syntax.Predictor) → AreLawfulPredictors names scope ps → Sees (LookAlike scope.visible) (LookAlike scope.visible) (guesses_mean g line ps)
guesses-see g calls names scope line [] l = gives-sees []
guesses-see g calls names scope line (first ∷ rest) l =
    sees-then (guess-sees g calls names scope line first l.0)
    (λ word. sees-then (guesses-see g calls names scope line rest l.1) (λ words. gives-sees (word ∷ words)))

-- a part of a construct that is this statement
abbrev Part-sees : Environment → Scope → Construct → Part → Type 0
Part-sees g scope c part = (b : ℤ) (v : Carried) → Sees (LookAlike scope.visible) (LookAlike scope.visible) (part_means g c part b v)

fold-part-sees : (g : Environment) → CallsSee g → (names : Names) (scope : Scope) (line : ℕ) (head : _) (body : _) → IsLawfulStatement names true scope (Fold head body) → (part : Part) → Part-sees g scope (fold line head body) part
fold-part-sees g calls names scope line head body l Body b v = body-sees g calls names scope line head body l b v
fold-part-sees g calls names scope line head body l Predictor b v =
    sees-then (sets-sees head.block b) (λ u. sees-fewer (cons_rest head.block scope.visible) (guesses-see g calls names (in_predictor scope head.block) line head.predict l.5))
fold-part-sees g calls names scope line head body l Producer b v = gives-sees (no_row (length head.carried))
fold-part-sees g calls names scope line head body l Consumer b v = gives-sees (no_row (length head.carried))

pair-part-sees : (g : Environment) → CallsSee g → (names : Names) (scope : Scope) (line : ℕ) (head : _) (producer consumer : _) → IsLawfulStatement names true scope (Pair head producer consumer) → (part : Part) → Part-sees g scope (pair line head producer consumer) part
pair-part-sees g calls names scope line head producer consumer l Producer b v = producer-sees g calls names scope line head producer consumer l b v
pair-part-sees g calls names scope line head producer consumer l Consumer b v = consumer-sees g calls names scope line head producer consumer l b v
pair-part-sees g calls names scope line head producer consumer l Predictor b v = guesses-see g calls names scope line head.predict l.3
pair-part-sees g calls names scope line head producer consumer l Body b v = gives-sees (no_row (length head.carried))

pub part-sees : (g : Environment) → CallsSee g → (names : Names) (scope : Scope) (line : ℕ) (s : Statement) (c : Construct) → construct_of line s ≡ Some c → IsLawfulStatement names true scope s → (part : Part) → Part-sees g scope c part
part-sees g calls names scope line s c is l part =
    is-statement line s c
    (λ t k. IsLawfulStatement names true scope t → Part-sees g scope k part)
    (λ head body l. fold-part-sees g calls names scope line head body l part)
    (λ head producer consumer l. pair-part-sees g calls names scope line head producer consumer l part)
    is l

pub header-sees : (g : Environment) → CallsSee g → (names : Names) (scope : Scope) (line : ℕ) (s : Statement) (c : Construct) → construct_of line s ≡ Some c → IsLawfulStatement names true scope s → Sees (LookAlike scope.visible) (LookAlike scope.visible) (header_means g c)
header-sees g calls names scope line s c is l =
    is-statement line s c
    (λ t k. IsLawfulStatement names true scope t → Sees (LookAlike scope.visible) (LookAlike scope.visible) (header_means g k))
    (λ head body l.
    sees-then (operands-see g calls names scope line head.start l.0)
    (λ start. sees-then (operand-sees g calls names scope line head.low l.1)
    (λ low. sees-then (operand-sees g calls names scope line head.high l.2)
    (λ high. sees-if (nat_lt max_blocks (int_gap low high)) (traps-sees scope.visible (LookAlike scope.visible) (looking scope.visible) trap.Blocks line)
    (gives-sees (record { low = low; blocks = int_gap low high; start = start }))))))
    (λ head producer consumer l. gives-sees (record { low = pos 0; blocks = 2; start = no_row (length head.carried) }))
    is l
