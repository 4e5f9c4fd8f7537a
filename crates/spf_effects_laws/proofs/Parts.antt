-- Parts of top constructs do no more than is found in them.
use Rattle.std.proofs.Common.{◌≡◌, ℕ, zero, suc, ◌+◌, ◌<◌, ◌≤◌, true, List, [], ◌∷◌, length, Some, ℤ, pos, refl, ◌∙◌, subst, arith}
use Rattle.std.specs.Prelude.{◌*ℤ◌, slice_set, slice_get}
use Rattle.std.proofs.lemmas.Int.{ints}
use Rattle.std.proofs.lemmas.List.{length-set}
use lib.IntN.{suc_ℤ-*ℤ, zero-*ℤ}
use Rattle.spf_ast.specs.declared.syntax.Part.{Part}
use Rattle.spf_ast.specs.declared.syntax.Part.TheVariants.{Body, Producer, Consumer, Predictor}
use Rattle.spf_ast.specs.Syntax.{Statement, Fold, Pair, Block, end, on_line, FoldHead, PairHead, By, Host, Program}
use Rattle.spf_ast.specs.Syntax as syntax
use Rattle.spf_ast.specs.Carried.{Carried, with_carried}
use Rattle.spf_ast.proofs.GoingOn.{block-goes, lawful-keeps}
use Rattle.spf_ast.specs.Interaction.{State}
use Rattle.spf_ast.specs.Meaning.{Environment}
use Rattle.spf_ast.specs.Construct.{Construct, fold, pair, constructs_in, guess_means, guesses_mean, part_means}
use Rattle.spf_ast.specs.Program.{extents_of, environment_of}
use Rattle.spf_ast.specs.Lawful.{Names, Scope, behind, in_predictor, in_body, in_producer, in_consumer, declared_in, scope_after, scope_at_end, IsLawfulStatement, IsLawfulBlock, IsLawfulPredictor, AreLawfulPredictors, IsScoped, names_at, nothing_declared}
use Rattle.spf_ast.specs.Lawful as lawful
use Rattle.spf_region.specs.declared.bound.Bound.{Bound}
use Rattle.spf_region.specs.declared.bound.Bound.TheVariants.{Known, Unknown}
use Rattle.spf_effects_findings.specs.Forms.{Setting, bounds_at_end}
use Rattle.spf_effects_findings.specs.Parts.{main_setting, outside, within_fold, guess_finds, guesses_find, part_finds}
use Rattle.spf_ast.specs.BlockRun.{Setup, IsSetup, part_asks}
use Rattle.spf_effects_laws.proofs.Meeting.{bound_at, Meets, AreWithin, IsKnown}
use Rattle.spf_effects_laws.proofs.Meets.{meets-then, meets-post, meets-after, meets-value}
use Rattle.spf_effects_laws.proofs.Leaves.{meets-onward}
use Rattle.spf_effects_laws.proofs.Expressions.{expression-meets, arguments-meet}
use Rattle.spf_effects_laws.proofs.Slots.{IsScope, IsSame, keep-len, within-row, within-declared, same-refl, same-row, scope-declared, declared-other, each-lies, next-each}
use Rattle.spf_effects_laws.proofs.Statements.{IsOf, IsBlockOf, first-of, rest-of, one-of, other-of, block-meets}
use Rattle.spf_effects_laws.proofs.Functions.{unknown-all, known-before}

-- ---- where a construct stands

-- the statement that a construct is
abbrev pub statement_of : Construct → Statement
statement_of (fold line head body) = Fold head body
statement_of (pair line head producer consumer) = Pair head producer consumer

-- what may be named in `main`
abbrev pub main_names : Program → Names
main_names p = names_at p (length p.functions) p.slots

-- it is lawful where it stands in `main`, and the slots that it declares are there
pub record Stands (p : Program) (construct : Construct) : Type 0 where
  pub scope : Scope
  pub is : IsLawfulStatement (main_names p) true scope (statement_of construct)
  pub of : IsOf (main_setting p) (statement_of construct)
  pub room : scope.next + lawful.declared (statement_of construct) ≤ length p.slots

stands-in : (p : Program) (construct : Construct) (b : Block) (scope : Scope) (n : ℕ) → IsLawfulBlock (main_names p) true scope b → IsBlockOf (main_setting p) b → scope.next + declared_in b ≤ length p.slots → slice_get (constructs_in b) n ≡ Some construct → Stands p construct
stands-in p construct end scope n l of room e = cc
stands-in p construct (on_line line (Fold head body) rest) scope zero l of room e =
    let same : fold line head body ≡ construct = cc in
    subst (Stands p) same (record { scope = scope; is = l.0; of = first-of (main_setting p) line (Fold head body) rest of; room = omega (arith, room) })
stands-in p construct (on_line line (Fold head body) rest) scope (suc n) l of room e =
    stands-in p construct rest (scope_after scope (Fold head body)) n l.1 (rest-of (main_setting p) line (Fold head body) rest of) (omega (arith, room)) e
stands-in p construct (on_line line (Pair head producer consumer) rest) scope zero l of room e =
    let same : pair line head producer consumer ≡ construct = cc in
    subst (Stands p) same (record { scope = scope; is = l.0; of = first-of (main_setting p) line (Pair head producer consumer) rest of; room = omega (arith, room) })
stands-in p construct (on_line line (Pair head producer consumer) rest) scope (suc n) l of room e =
    stands-in p construct rest (scope_after scope (Pair head producer consumer)) n l.1 (rest-of (main_setting p) line (Pair head producer consumer) rest of) (omega (arith, room)) e
stands-in p construct (on_line line s rest) scope n l of room e =
    stands-in p construct rest (scope_after scope s) n l.1 (rest-of (main_setting p) line s rest of) (omega (arith, room)) e

pub stands : (p : Program) (construct : Construct) (n : ℕ) → IsScoped p → slice_get (constructs_in p.main) n ≡ Some construct → Stands p construct
stands p construct n scoped e = stands-in p construct p.main nothing_declared n scoped.main (λ x h. h) (omega (arith, scoped.slots)) e

-- ---- what is known where a part begins

outside-scope : (p : Program) (n : ℕ) → IsScope (main_setting p) n (outside p)
outside-scope p n = record { fresh = λ x le. unknown-all (length p.slots) x; assigned = λ x set. unknown-all (length p.slots) x }

outside-within : (p : Program) (k : ℤ) (slots : List ℤ) → AreWithin k (outside p) slots
outside-within p k slots x = rw (unknown-all (length p.slots) x) tt

one-mul : (k : ℤ) → pos 1 *ℤ k ≡ k
one-mul k = omega (arith, ints, suc_ℤ-*ℤ (pos 0) k, zero-*ℤ k)

-- the block number, in its slot
number-within : (p : Program) (head : FoldHead) (k : ℤ) (slots : List ℤ) → head.block < length slots → AreWithin k (within_fold p head) (slice_set slots head.block k)
number-within p head k slots inside =
    within-declared (main_setting p) k 0 (outside p) slots head.block (Known (pos 1) (pos 0) (pos 0)) k (outside-scope p 0) inside (outside-within p k slots)
    (omega (arith, ints, one-mul k), omega (arith, ints, one-mul k))

-- nothing is wanted of the end
abbrev pub AnyEnd : Carried → State → List ℕ → Type 0
AnyEnd row e d = Unit {0}

-- the guess of one part of a row
guess-meets : (g : Environment) (v : Setting) (k : ℤ) (names : Names) (scope : Scope) (env : List Bound) (line : ℕ) → IsKnown g v k names → (predict : syntax.Predictor) → IsLawfulPredictor names scope predict → (t : State) → AreWithin k env t.slots → Meets g.extents k (guess_finds v env predict) (λ z e d. e.slots ≡ t.slots) (guess_means g line predict t)
guess-meets g v k names scope env line known (By guess) l t p = meets-post (λ z e d h. h.0) (expression-meets g v k names scope env line known guess l t p)
guess-meets g v k names scope env line known (Host number) l t p = meets-value (λ d. refl)

-- the guesses of all parts
guesses-meet : (g : Environment) (v : Setting) (k : ℤ) (names : Names) (scope : Scope) (env : List Bound) (line : ℕ) → IsKnown g v k names → (predict : List syntax.Predictor) → AreLawfulPredictors names scope predict → (t : State) → AreWithin k env t.slots → Meets g.extents k (guesses_find v env predict) AnyEnd (guesses_mean g line predict t)
guesses-meet g v k names scope env line known [] l t p = meets-value (λ d. tt)
guesses-meet g v k names scope env line known (first ∷ rest) l t p =
    meets-then (guess-meets g v k names scope env line known first l.0 t p)
    (λ z e d h. meets-after (guesses-meet g v k names scope env line known rest l.1 e (rw h p)) (λ zs e' d' h'. meets-value (λ d''. tt)))

-- ---- parts

body-part : (p : Program) (g : Environment) (k : ℤ) (w : Carried) (line : ℕ) (head : FoldHead) (body : Block) (t : State) → IsKnown g (main_setting p) k (main_names p) → Stands p (fold line head body) → length t.slots ≡ length p.slots → Meets g.extents k (part_finds p (fold line head body) Body) AnyEnd (part_means g (fold line head body) Body k w t)
body-part p g k w line head body t known at len =
    let v : Setting = main_setting p in
    let l = at.is in
    let room = at.room in
    let here : Scope = in_body at.scope head.carried head.block in
    let env : List Bound = within_fold p head in
    let is : head.block ≡ at.scope.next + length head.carried = l.4.0 ∙ next-each head.carried at.scope in
    let inside : head.block < length t.slots = omega (arith, is, room, len) in
    let first : List ℤ = slice_set t.slots head.block k in
    let new : List ℤ = with_carried head.carried w first in
    let within : AreWithin k env new = within-row k env first head.carried w (number-within p head k t.slots inside) (λ x c. other x (omega (arith, is, (each-lies (main_names p) at.scope head.carried l.3 x c).1))) in
    let scope : IsScope v here.next env = scope-declared v head.block here.next (outside p) head.block (Known (pos 1) (pos 0) (pos 0)) refl (omega (arith, is)) (outside-scope p head.block) in
    let size : IsSame v [] 0 first new = same-row v [] 0 first first head.carried w (same-refl v [] 0 first) (λ x c. omega arith) in
    let len' : length p.slots ≤ length new = keep-len (size.size ∙ length-set t.slots head.block k) (omega (arith, len)) in
    meets-then (meets-onward (block-goes g body (lawful-keeps (main_names p) true here body l.6 refl) (record t { slots = new }))
    (block-meets g v k (main_names p) true (length p.slots) known body here env l.6 at.of scope (omega (arith, room)) (record t { slots = new }) len' within))
    (λ u e d h. meets-post (λ z e' d' r. tt)
    (arguments-meet g v k (main_names p) (scope_at_end here body) (bounds_at_end v env body) head.next_line known head.next l.7 e h.0))
  where
    other : (x : ℕ) → x < head.block → bound_at (within_fold p head) x ≡ Unknown
    other x below = declared-other (main_setting p) head.block x (Known (pos 1) (pos 0) (pos 0)) (outside p) (λ e. absurd (omega (arith, below, e))) ∙ unknown-all (length p.slots) x

producer-part : (p : Program) (g : Environment) (k : ℤ) (w : Carried) (line : ℕ) (head : PairHead) (producer consumer : Block) (t : State) → IsKnown g (main_setting p) k (main_names p) → Stands p (pair line head producer consumer) → length t.slots ≡ length p.slots → Meets g.extents k (part_finds p (pair line head producer consumer) Producer) AnyEnd (part_means g (pair line head producer consumer) Producer k w t)
producer-part p g k w line head producer consumer t known at len =
    let v : Setting = main_setting p in
    let l = at.is in
    let room = at.room in
    let here : Scope = in_producer at.scope head.carried in
    meets-then (meets-onward (block-goes g producer (lawful-keeps (main_names p) true here producer l.1 refl) t)
    (block-meets g v k (main_names p) true (length p.slots) known producer here (outside p) l.1 (one-of v producer consumer at.of) (outside-scope p here.next) (omega (arith, room)) t (omega (arith, len)) (outside-within p k t.slots)))
    (λ u e d h. meets-post (λ z e' d' r. tt)
    (arguments-meet g v k (main_names p) (scope_at_end here producer) (bounds_at_end v (outside p) producer) head.give_line known head.give l.2 e h.0))

consumer-part : (p : Program) (g : Environment) (k : ℤ) (w : Carried) (line : ℕ) (head : PairHead) (producer consumer : Block) (t : State) → IsKnown g (main_setting p) k (main_names p) → Stands p (pair line head producer consumer) → length t.slots ≡ length p.slots → Meets g.extents k (part_finds p (pair line head producer consumer) Consumer) AnyEnd (part_means g (pair line head producer consumer) Consumer k w t)
consumer-part p g k w line head producer consumer t known at len =
    let v : Setting = main_setting p in
    let l = at.is in
    let room = at.room in
    let here : Scope = in_consumer at.scope head.carried producer in
    let new : List ℤ = with_carried head.carried w t.slots in
    let size : IsSame v [] 0 t.slots new = same-row v [] 0 t.slots t.slots head.carried w (same-refl v [] 0 t.slots) (λ x c. omega arith) in
    meets-after (meets-onward (block-goes g consumer (lawful-keeps (main_names p) true here consumer l.4 refl) (record t { slots = new }))
    (block-meets g v k (main_names p) true (length p.slots) known consumer here (outside p) l.4 (other-of v producer consumer at.of) (outside-scope p here.next) (omega (arith, room)) (record t { slots = new }) (keep-len size.size (omega (arith, len))) (outside-within p k new)))
    (λ u e d h. meets-value (λ d'. tt))

part-meets : (p : Program) (construct : Construct) (part : Part) (g : Environment) (k : ℤ) (w : Carried) (t : State) → IsKnown g (main_setting p) k (main_names p) → Stands p construct → length t.slots ≡ length p.slots → Meets g.extents k (part_finds p construct part) AnyEnd (part_means g construct part k w t)
part-meets p (fold line head body) Body g k w t known at len = body-part p g k w line head body t known at len
part-meets p (fold line head body) Producer g k w t known at len = meets-value (λ d. tt)
part-meets p (fold line head body) Consumer g k w t known at len = meets-value (λ d. tt)
part-meets p (fold line head body) Predictor g k w t known at len =
    let l = at.is in
    let room = at.room in
    let is : head.block ≡ at.scope.next + length head.carried = l.4.0 ∙ next-each head.carried at.scope in
    let inside : head.block < length t.slots = omega (arith, is, room, len) in
    guesses-meet g (main_setting p) k (main_names p) (in_predictor at.scope head.block) (within_fold p head) line known head.predict l.5 (record t { slots = slice_set t.slots head.block k }) (number-within p head k t.slots inside)
part-meets p (pair line head producer consumer) Body g k w t known at len = meets-value (λ d. tt)
part-meets p (pair line head producer consumer) Producer g k w t known at len = producer-part p g k w line head producer consumer t known at len
part-meets p (pair line head producer consumer) Consumer g k w t known at len = consumer-part p g k w line head producer consumer t known at len
part-meets p (pair line head producer consumer) Predictor g k w t known at len =
    guesses-meet g (main_setting p) k (main_names p) at.scope (outside p) line known head.predict (at.is).3 t (outside-within p k t.slots)

-- from any setup
pub asks-meets : (p : Program) (construct : Construct) (part : Part) (s : Setup) → IsScoped p → IsSetup p s → Stands p construct → Meets (extents_of p (length s.input)) s.number (part_finds p construct part) AnyEnd (part_asks p construct part s)
asks-meets p construct part s scoped setup at =
    part-meets p construct part (environment_of p s.input) s.number s.carried (record { slots = s.slots; output = s.output })
    (known-before p s.input (extents_of p (length s.input)) s.number (λ i below. setup.bytes i 0 below) scoped (length p.functions) (omega arith) p.slots p.main)
    at setup.slots
