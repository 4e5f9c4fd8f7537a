-- A top construct that keeps the rules is rollback free.
use Rattle.std.proofs.Common.{◌≡◌, ◌⊎◌, inl, inr, ℕ, ◌+◌, ◌-◌, ◌<◌, ◌≤◌, true, false, List, [], ◌∷◌, ◌++◌, length, ℤ, pos, refl, sym, subst, arith, Contains}
use Rattle.std.specs.Prelude.{◌+ℤ◌, ◌-ℤ◌, ◌*ℤ◌, ◌≤ℤ◌, slice_index_or}
use Rattle.std.proofs.lemmas.Int.{ints}
use Rattle.spf_ast.specs.Carried.{Carried}
use Rattle.spf_ast.specs.declared.syntax.Part.{Part}
use Rattle.spf_ast.specs.declared.syntax.Part.TheVariants.{Body, Producer, Consumer, Predictor}
use Rattle.spf_ast.specs.Event.{Event, Load, Store}
use Rattle.spf_ast.specs.Interaction.{State, Performed, HasReadAll, Ended, Ending, Value, Trapped}
use Rattle.spf_ast.specs.Syntax.{Program}
use Rattle.spf_ast.specs.Construct.{Construct, fold, pair}
use Rattle.spf_ast.specs.Program.{extents_of, environment_of}
use Rattle.spf_region.specs.Ranges.{offsets_of, wholes_of}
use Rattle.spf_region.specs.Cells.{Extent, at_block}
use Rattle.spf_ast.specs.Slots.{emits, assigns_outer, part_declares}
use Rattle.spf_effects_findings.specs.Parts.{part_effects}
use Rattle.spf_ast.specs.Construct.{statements_of}
use Rattle.spf_ast.specs.BlockRun.{Setup, IsSetup, part_asks}
use Rattle.spf_ast.specs.Laws.{LawfulFunctionsAreSilent, SilentPartsLeaveTheOutput}
use Rattle.spf_ast.specs.Silence.{FunctionsAreSilent}
use Rattle.spf_effects_laws.specs.Keeping.{PartsKeepToTheirEffects, KeepsToItsEffects, HasStored, AreStored, IsAmong}
use Rattle.spf_check_rules.specs.Performances.{IsPerformance, HasStore}
use Rattle.spf_check_rules.specs.Rules.{IsBlockPart, guessed_part, may_write, reads_bare, HasArray, KeepsTheRules}
use Rattle.spf_check_rules.specs.Freedom.{IsOwn, IsWrittenCell, HaveDisjointSpans, IsRollbackFree, TheRulesSetFree}
use Rattle.spf_ast_lemmas.proofs.Members.{cases, none-in}
use Rattle.spf_check_rules.proofs.Along.{Along, Comes, stored_by, along, stores-along, loads-along, load-after, stored-has}
use Rattle.spf_check_rules.proofs.Cells.{AtWhole, AtOffset, entry-of, offset-inside, offset-index, has-array-of, has-this-array, separate-blocks, nothing-shared}
use Rattle.spf_check_rules.proofs.Extents.{lie-apart, within}
use Rattle.spf_check_rules.proofs.Slots.{Anything, HasWord, part-keeps, calls-keep}
use Rattle.spf_check_rules.proofs.Quiet.{HasOutput, part-quiet}

-- what a performance does, by what is found in its part
abbrev pub Does : Program → Construct → Part → Setup → List Event → Performed (Ending Carried) → Type 0
Does p c part s es r =
    Along (IsAmong p s (part_effects p c part).may) (IsAmong p s (part_effects p c part).uncovered) [] es
    × Comes (HasStored p c part s) r (stored_by es [])

does : (p : Program) (c : Construct) (part : Part) (s : Setup) (es : List Event) (r : Performed (Ending Carried)) → KeepsToItsEffects p c part s → IsPerformance p c part s es r → Does p c part s es r
does p c part s es r keeps h =
    along (IsAmong p s (part_effects p c part).may) (IsAmong p s (part_effects p c part).uncovered) (HasStored p c part s) h.stop (part_asks p c part s) [] es r keeps h.performed h.whole

-- what a part loads bare has its array among the bare reads
bare-array : (p : Program) (c : Construct) (part : Part) (s : Setup) (cell : ℕ) → IsAmong p s (reads_bare p c part) cell → (w : IsWrittenCell p c (length s.input) cell) → HasArray (reads_bare p c part) w.array
bare-array p c part s cell bare w =
    has-this-array (extents_of p (length s.input)) (lie-apart p (length s.input)) s.number (reads_bare p c part) w.array cell bare w.inside

-- a cell that a block part may write is a written one
own-written : (p : Program) (c : Construct) (part : Part) (s : Setup) (cell : ℕ) → IsBlockPart part → IsAmong p s (may_write p c part) cell → IsWrittenCell p c (length s.input) cell
own-written p c part s cell block own =
    let h = has-array-of (extents_of p (length s.input)) s.number (may_write p c part) cell own in
    record { array = h.0; written = record { part = part; is_block_part = block; entry = h.1 }; inside = h.2 }

guessed-block : (c : Construct) → IsBlockPart (guessed_part c)
guessed-block (fold line head body) = tt
guessed-block (pair line head producer consumer) = tt

-- ---- all that may be written is stored

-- the cell of an offset at a block
index-is : (base cell : ℕ) (t o : ℤ) → base ≤ cell → (t +ℤ o) ≤ℤ (pos cell -ℤ pos base) → (pos cell -ℤ pos base) ≤ℤ (t +ℤ o) → pos (cell - base) ≡ t +ℤ o
index-is base cell t o le low high = omega (arith, ints)

stores-own : (p : Program) (c : Construct) (part : Part) (s : Setup) (stored : List ℕ) (cell : ℕ) → ((array : ℕ) → wholes_of (may_write p c part) array ≡ false) → ((array : ℕ) (f o : ℤ) → offsets_of (may_write p c part) array f o ≡ true → (part_effects p c part).must array f o ≡ true) → AreStored (extents_of p (length s.input)) s.number (part_effects p c part).must stored → IsAmong p s (may_write p c part) cell → Contains stored cell
stores-own p c part s stored cell no-whole sure are own = go (entry-of (extents_of p (length s.input)) s.number (may_write p c part) cell own)
  where
    ext : ℕ → Extent
    ext a = slice_index_or (extents_of p (length s.input)) a (0, 0)

    at : (a : ℕ) (f o : ℤ) → offsets_of (may_write p c part) a f o ≡ true → (ext a).0 ≤ cell → cell < (ext a).0 + (ext a).1 → pos (cell - (ext a).0) ≡ at_block s.number f o → Contains stored cell
    at a f o w le lt is =
        let i : Contains stored ((ext a).0 + (cell - (ext a).0)) = are a (cell - (ext a).0) f o (sure a f o w) is (omega (arith, le, lt)) in
        subst (Contains stored) (omega (arith, le)) i

    go : AtWhole (extents_of p (length s.input)) s.number (may_write p c part) cell ⊎ AtOffset (extents_of p (length s.input)) s.number (may_write p c part) cell → Contains stored cell
    go (inl (a, w, h)) = let n = no-whole a in cc
    go (inr (a, f, o, w, h)) =
        let i = within (ext a) cell (offset-inside (extents_of p (length s.input)) s.number a f o cell h) in
        let z = offset-index (extents_of p (length s.input)) s.number a f o cell h in
        at a f o w i.0 i.1 (index-is (ext a).0 cell (f *ℤ s.number) o i.0 z.0 z.1)

-- ---- point by point

-- what is known of one construct
pub record Known (p : Program) (c : Construct) : Type 0 where
  pub keeps : (part : Part) (s : Setup) → IsSetup p s → KeepsToItsEffects p c part s
  pub functions : FunctionsAreSilent p.functions
  pub quiet : SilentPartsLeaveTheOutput
  pub rules : KeepsTheRules p c

done : {p : Program} {c : Construct} → Known p c → (part : Part) (s : Setup) (es : List Event) (r : Performed (Ending Carried)) → IsPerformance p c part s es r → Does p c part s es r
done {p} {c} k part s es r h = does p c part s es r (k.keeps part s h.setup) h

stores-its-own : {p : Program} {c : Construct} → Known p c → (part : Part) (s : Setup) (es : List Event) (r : Performed (Ending Carried)) (cell : ℕ) (word : ℤ) → IsPerformance p c part s es r → Contains es (Store cell word) → IsOwn p c part (length s.input) s.number cell
stores-its-own {p} {c} k part s es r cell word h i =
    stores-along (IsAmong p s (may_write p c part)) (IsAmong p s (reads_bare p c part)) [] es cell word (done k part s es r h).0 i

-- stored by an event
by-event : (es : List Event) (cell : ℕ) → Contains (stored_by es []) cell → HasStore es cell
by-event es cell i = cases (stored-has es [] cell i) (λ h. h) (λ none. absurd (none-in cell none))

loads-what-it-stored : {p : Program} {c : Construct} → Known p c → (s : Setup) (es before later : List Event) (r : Performed (Ending Carried)) (cell : ℕ) (word : ℤ) → IsPerformance p c (guessed_part c) s es r → es ≡ before ++ Load cell word ∷ later → IsWrittenCell p c (length s.input) cell → HasStore before cell
loads-what-it-stored {p} {c} k s es before later r cell word h e w =
    cases (load-after (IsAmong p s (may_write p c (guessed_part c))) (IsAmong p s (reads_bare p c (guessed_part c))) [] before later cell word (subst (Along (IsAmong p s (may_write p c (guessed_part c))) (IsAmong p s (reads_bare p c (guessed_part c))) []) e (done k (guessed_part c) s es r h).0))
    (λ bare. absurd (k.rules.reads_after_writing w.array (bare-array p c (guessed_part c) s cell bare w) w.written))
    (λ i. by-event before cell i)

predictor-stores-nothing : {p : Program} {c : Construct} → Known p c → (s : Setup) (es : List Event) (r : Performed (Ending Carried)) (cell : ℕ) (word : ℤ) → IsPerformance p c Predictor s es r → Contains es (Store cell word) → ⊥
predictor-stores-nothing {p} {c} k s es r cell word h i =
    let a = has-array-of (extents_of p (length s.input)) s.number (may_write p c Predictor) cell (stores-its-own k Predictor s es r cell word h i) in
    k.rules.predictor_writes_nothing a.0 a.1

predictor-loads-apart : {p : Program} {c : Construct} → Known p c → (s : Setup) (es : List Event) (r : Performed (Ending Carried)) (cell : ℕ) (word : ℤ) → IsPerformance p c Predictor s es r → Contains es (Load cell word) → IsWrittenCell p c (length s.input) cell → ⊥
predictor-loads-apart {p} {c} k s es r cell word h i w = go (loads-along (IsAmong p s (may_write p c Predictor)) (IsAmong p s (reads_bare p c Predictor)) [] es cell word (done k Predictor s es r h).0 i)
  where
    go : IsAmong p s (reads_bare p c Predictor) cell ⊎ IsAmong p s (may_write p c Predictor) cell ⊎ Contains [] cell → ⊥
    go (inl bare) = k.rules.predictor_reads_unwritten w.array (bare-array p c Predictor s cell bare w) w.written
    go (inr (inl own)) =
        let a = has-array-of (extents_of p (length s.input)) s.number (may_write p c Predictor) cell own in
        k.rules.predictor_writes_nothing a.0 a.1
    go (inr (inr none)) = none-in cell none

stores-all : {p : Program} {c : Construct} → Known p c → (s : Setup) (es : List Event) (value : Carried) (state : State) (cell : ℕ) → IsPerformance p c (guessed_part c) s es (Ended (Value value state) []) → IsOwn p c (guessed_part c) (length s.input) s.number cell → HasStore es cell
stores-all {p} {c} k s es value state cell h own =
    by-event es cell (stores-own p c (guessed_part c) s (stored_by es []) cell k.rules.writes_all.no_whole k.rules.writes_all.sure (done k (guessed_part c) s es (Ended (Value value state) []) h).1 own)

disjoint-spans : {p : Program} (c : Construct) → Known p c → HaveDisjointSpans p c
disjoint-spans {p} (fold line head body) k = λ len n m cell ne x y.
    separate-blocks (extents_of p len) (lie-apart p len) (may_write p (fold line head body) Body) k.rules.writes_apart n m cell ne x y
disjoint-spans {p} (pair line head producer consumer) k = λ len n m cell x y.
    nothing-shared (extents_of p len) (lie-apart p len) (may_write p (pair line head producer consumer) Consumer) (may_write p (pair line head producer consumer) Producer) k.rules.writes_apart.1 m n cell y x

-- a fold has no producer, which asks nothing
no-producer : {p : Program} (line : ℕ) (head : _) (body : _) (s : Setup) (es : List Event) (r : Performed (Ending Carried)) → IsPerformance p (fold line head body) Producer s es r → es ≡ []
no-producer line head body s es r h = subst HasReadAll (sym h.performed) h.whole

producer-loads-apart : {p : Program} (c : Construct) → Known p c → (s : Setup) (es : List Event) (r : Performed (Ending Carried)) (block : ℤ) (cell : ℕ) (word : ℤ) → IsPerformance p c Producer s es r → Contains es (Load cell word) → IsOwn p c Consumer (length s.input) block cell → ⊥
producer-loads-apart {p} (fold line head body) k s es r block cell word h i own =
    none-in (Load cell word) (subst (λ l. Contains l (Load cell word)) (no-producer line head body s es r h) i)
producer-loads-apart {p} (pair line head producer consumer) k s es r block cell word h i own = go (loads-along (IsAmong p s (may_write p c Producer)) (IsAmong p s (reads_bare p c Producer)) [] es cell word (done k Producer s es r h).0 i)
  where
    c : Construct
    c = pair line head producer consumer

    go : IsAmong p s (reads_bare p c Producer) cell ⊎ IsAmong p s (may_write p c Producer) cell ⊎ Contains [] cell → ⊥
    go (inl bare) =
        nothing-shared (extents_of p (length s.input)) (lie-apart p (length s.input)) (may_write p c Consumer) (reads_bare p c Producer) k.rules.writes_apart.0 block s.number cell own bare
    go (inr (inl own')) =
        nothing-shared (extents_of p (length s.input)) (lie-apart p (length s.input)) (may_write p c Consumer) (may_write p c Producer) k.rules.writes_apart.1 block s.number cell own own'
    go (inr (inr none)) = none-in cell none

-- ---- what is left as it was

-- a part that is no block part has no statements
statement-rules : {p : Program} (c : Construct) → Known p c → (part : Part) → (assigns_outer (statements_of c part) ≡ false) × (emits (statements_of c part) ≡ false)
statement-rules c k Body = (k.rules.assigns_no_outer Body tt, k.rules.emits_nothing Body tt)
statement-rules c k Producer = (k.rules.assigns_no_outer Producer tt, k.rules.emits_nothing Producer tt)
statement-rules c k Consumer = (k.rules.assigns_no_outer Consumer tt, k.rules.emits_nothing Consumer tt)
statement-rules (fold line head body) k Predictor = (refl, refl)
statement-rules (pair line head producer consumer) k Predictor = (refl, refl)

-- the output at an end
same-output : {p : Program} {c : Construct} → Known p c → (part : Part) (s : Setup) (es : List Event) (r : Performed (Ending Carried)) → IsPerformance p c part s es r → Comes (HasOutput s.output) r (stored_by es [])
same-output {p} {c} k part s es r h =
    (along Anything Anything (HasOutput s.output) h.stop (part_asks p c part s) [] es r (part-quiet k.quiet p k.functions s.input c part (statement-rules c k part).1 s.number s.carried s.slots s.output []) h.performed h.whole).1

same-slot : {p : Program} {c : Construct} → Known p c → (part : Part) (s : Setup) (es : List Event) (r : Performed (Ending Carried)) → IsPerformance p c part s es r → (slot : ℕ) → part_declares c part slot ≡ false → Comes (HasWord slot (slice_index_or s.slots slot (pos 0))) r (stored_by es [])
same-slot {p} {c} k part s es r h slot outer =
    (along Anything Anything (HasWord slot (slice_index_or s.slots slot (pos 0))) h.stop (part_asks p c part s) [] es r
    ((part-keeps (environment_of p s.input) (calls-keep s.input _ p.functions _) c part (statement-rules c k part).0 outer s.number s.carried).ways (record { slots = s.slots; output = s.output }) [])
    h.performed h.whole).1

set-free : (p : Program) (c : Construct) → Known p c → IsRollbackFree p c
set-free p c k = record {
  stores_its_own = λ part s es r h cell word i. stores-its-own k part s es r cell word h i;
  loads_what_it_stored = λ s es r h before later cell word e w. loads-what-it-stored k s es before later r cell word h e w;
  producer_loads_apart = λ s es r h block cell word i own. producer-loads-apart c k s es r block cell word h i own;
  stores_all = λ s es row state h cell own. stores-all k s es row state cell h own;
  spans_are_disjoint = disjoint-spans c k;
  predictor_stores_nothing = λ s es r h cell word i. predictor-stores-nothing k s es r cell word h i;
  predictor_loads_apart = λ s es r h cell word i w. predictor-loads-apart k s es r cell word h i w;
  leaves_the_rest = λ part s es value state h. record {
    output = same-output k part s es (Ended (Value value state) []) h;
    slots = λ slot outer. same-slot k part s es (Ended (Value value state) []) h slot outer;
  };
  leaves_the_output = λ part s es trap output h. same-output k part s es (Ended (Trapped trap output) []) h;
}

pub rules-set-free : PartsKeepToTheirEffects → LawfulFunctionsAreSilent → SilentPartsLeaveTheOutput → TheRulesSetFree
rules-set-free keeps silent quiet p n c lawful is rules =
    set-free p c (record { keeps = λ part s setup. keeps p n c part s lawful is setup; functions = silent p lawful; quiet = quiet; rules = rules })
