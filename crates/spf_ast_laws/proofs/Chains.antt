-- What a construct means is what its block runs come to.
use Rattle.std.proofs.Common.{◌≡◌, ℕ, zero, suc, ◌<◌, ◌⊎◌, inl, inr, Bool, true, false, List, [], ◌∷◌, ◌++◌, length, ℤ, pos, ◌+◌, ◌+ℤ◌, refl, sym, ap, ◌∙◌, subst, arith}
use Rattle.std.specs.Prelude.{Result, Ok, Err, Option, Some, None, if◌then◌else◌, nat_lt}
use Rattle.std.specs.List.{Contains}
use Rattle.std.specs.Int.{int_gap}
use Rattle.std.proofs.lemmas.List.Elements.{Contains-append_left, Contains-append_cases}
use Rattle.spf_ast.specs.declared.outcome.Trap.{Trap}
use Rattle.spf_ast.specs.declared.outcome.TrapKind.TheVariants as trap
use Rattle.spf_ast.specs.declared.syntax.Part.{Part}
use Rattle.spf_ast.specs.declared.syntax.Part.TheVariants.{Body, Producer, Consumer}
use Rattle.spf_ast.specs.Carried.{Carried, no_row, with_carried}
use Rattle.spf_ast.specs.Interaction.{Answer, State, Flow, Ending, Value, Trapped, Meaning, after_ending, ◌>>=◌, ◌>>◌}
use Rattle.spf_ast.specs.Plain.{plain_answer, plain_memory}
use Rattle.spf_ast.specs.Syntax.{Statement, Fold, Pair, FoldHead, PairHead, Block}
use Rattle.spf_ast.specs.Meaning.{Environment, gives, traps, done, sets_row, fold_blocks, fold_range, max_blocks, expression_means, arguments_mean, block_means, statement_means}
use Rattle.spf_ast.specs.Construct.{Construct, fold, pair, construct_of, part_means, Moment, plainly, Header, header_means, fold_header, RealValues, begun_at, blocks_from}
use Rattle.spf_ast.specs.Silence.{with_output, LeavesOutput, PartIsSilent}
use Rattle.spf_ast.specs.Lawful.{Names, Scope, in_body, in_producer, in_consumer, showing_each, DeclaresEach, IsLawfulStatement, declared_in, scope_at_end}
use Rattle.spf_ast_laws.specs.Agreement.{Relation, LookAlike, EndAlike}
use Rattle.spf_ast_laws.specs.Keeping.{IsSelfContained}
use Rattle.spf_ast_laws.specs.Keeping.{AreDeclared}
use Rattle.spf_ast_laws.specs.Chained.{Chained, chained_on, chained, is_trap, IsSettledAs, IsItsBlocks}
use Rattle.spf_ast_laws.proofs.Slots.{cons_rest, within_midst, within_rest, look_row}
use Rattle.spf_ast_laws.proofs.Primitives.{Sees, sees-then, sees-more, sees-fewer, sets-sees, sets_row-sees, gives-sees}
use Rattle.spf_ast_laws.proofs.Forms.{CallsSee, operands-see, end-grows, part-block-sees}
use Rattle.spf_ast_laws.proofs.Keeping.{each-next, AreKept, EndLeaves, answer-leaves, Keeps, keeps-then, sets-keeps, sets_row-keeps, gives-keeps, CallsKeep, arguments-keep, block-keeps, AreSpared, unseen, unseen-each, spared-each, spared-body, spared-producer, spared-consumer}
use Rattle.spf_ast_laws.proofs.Plainly.{answer-bind, memory-bind, answers-alike, memories-alike, Comes, comes-then, comes-trap, Parted, gave, trapped, part}

-- in this environment each part that holds no `emit` leaves the output alone
abbrev pub PartsLeave : Environment → Type 0
PartsLeave g = (c : Construct) (part : Part) → PartIsSilent c part → (b : ℤ) (v : Carried) → LeavesOutput (part_means g c part b v)

-- ---- one block

-- the plain part and the block run end alike: with the same value, in a state that looks like this one, or with the same trap
abbrev EndsAs : List ℕ → State → Ending Carried → Ending Carried → Type 0
EndsAs outer entry plain run = EndAlike (λ one other. LookAlike outer one entry) plain (with_output entry.output run)

-- a part that is performed plainly, and its block run from an entry that looks alike
record Ran (outer : List ℕ) (form : Meaning Carried) (s entry : State) (m : List ℤ) : Type 0 where
  ends : EndsAs outer entry (plain_answer (form s) m) (plain_answer (form (record { slots = entry.slots; output = [] })) m)
  memory : plain_memory (form s) m ≡ plain_memory (form (record { slots = entry.slots; output = [] })) m

-- an ending has this output
abbrev HasOutput : List ℕ → Ending Carried → Type 0
HasOutput output (Value a s) = s.output ≡ output
HasOutput output (Trapped trap o) = o ≡ output

put-has : (output : List ℕ) (e : Ending Carried) → HasOutput output (with_output output e)
put-has output (Value a s) = refl
put-has output (Trapped trap o) = refl

looks-kept : (outer : List ℕ) (s after entry : State) → AreKept outer s.slots after.slots → after.output ≡ s.output → LookAlike outer s entry → LookAlike outer after entry
looks-kept outer s after entry k o h = record {
  agree = record { slots = λ slot c. k.words slot c ∙ h.agree.slots slot c; output = o ∙ h.agree.output };
  slot_count = k.slot_count ∙ h.slot_count;
}

ends-as : (outer : List ℕ) (After : Relation) (s entry : State) → LookAlike outer s entry → (plain run : Ending Carried) → EndAlike After plain (with_output entry.output run) → EndLeaves (AreKept outer s.slots) plain → HasOutput s.output plain → EndsAs outer entry plain run
ends-as outer After s entry h (Value a p) (Value b q) e k o = (e.0, looks-kept outer s p entry k o h)
ends-as outer After s entry h (Value a p) (Trapped y q) e k o = elim e [ ]
ends-as outer After s entry h (Trapped x p) (Value b q) e k o = elim e [ ]
ends-as outer After s entry h (Trapped x p) (Trapped y q) e k o = (e.0, o ∙ h.agree.output)

one-block : (outer : List ℕ) (After : Relation) (form : Meaning Carried) → LeavesOutput form → Sees (LookAlike outer) After form → Keeps outer form → (s entry : State) → LookAlike outer s entry → (m : List ℤ) → Ran outer form s entry m
one-block outer After form l sees keeps s entry h m =
    let inner = form (record { slots = entry.slots; output = [] }) in
    let at_entry : plain_answer (form entry) m ≡ with_output entry.output (plain_answer inner m)
    = ap (λ t. plain_answer t m) (l.same entry.slots entry.output) ∙ answer-bind inner (λ e. Answer (with_output entry.output e)) m in
    let at_memory : plain_memory (form entry) m ≡ plain_memory inner m
    = ap (λ t. plain_memory t m) (l.same entry.slots entry.output) ∙ memory-bind inner (λ e. Answer (with_output entry.output e)) m in
    let same_output : HasOutput s.output (plain_answer (form s) m)
    = subst (HasOutput s.output)
    (sym (ap (λ t. plain_answer t m) (l.same s.slots s.output) ∙ answer-bind (form (record { slots = s.slots; output = [] })) (λ e. Answer (with_output s.output e)) m))
    (put-has s.output (plain_answer (form (record { slots = s.slots; output = [] })) m)) in
    record {
      ends = ends-as outer After s entry h (plain_answer (form s) m) (plain_answer inner m)
          (subst (EndAlike After (plain_answer (form s) m)) at_entry (answers-alike After (form s) (form entry) (sees.alike s entry h) m))
          (answer-leaves (AreKept outer s.slots) (form s) m (keeps.leaves s))
          same_output;
      memory = memories-alike After (form s) (form entry) (sees.alike s entry h) m ∙ at_memory;
    }

-- ---- parts

-- the visible slots are spared by what assigns none of them
spares-visible : (scope : Scope) → AreDeclared scope → AreSpared scope.visible scope.visible scope
spares-visible scope d = record { declared = d; fixed = λ slot c. inr c }

-- a body
pub body-sees : (g : Environment) → CallsSee g → (names : Names) (scope : Scope) (line : ℕ) (head : FoldHead) (body : Block) → IsLawfulStatement names true scope (Fold head body) → (b : ℤ) (v : Carried) → Sees (LookAlike scope.visible) (LookAlike scope.visible) (part_means g (fold line head body) Body b v)
body-sees g calls names scope line head body l b v =
    let inner = in_body scope head.carried head.block in
    sees-then (sets-sees head.block b)
    (λ u. sees-then (sets_row-sees head.carried v)
    (λ w. sees-more (within_midst head.block head.carried scope.visible)
    (sees-fewer
    (λ k c. end-grows inner body k (cons_rest head.block (head.carried ++ scope.visible) k (within_rest head.carried scope.visible k c)))
    (sees-then (part-block-sees g calls names true inner body l.6 refl)
    (λ x. operands-see g calls names (scope_at_end inner body) head.next_line head.next l.7)))))

body-keeps : (g : Environment) → CallsKeep g → (names : Names) (scope : Scope) → AreDeclared scope → (line : ℕ) (head : FoldHead) (body : Block) → IsLawfulStatement names true scope (Fold head body) → IsSelfContained scope.visible (fold line head body) → (b : ℤ) (v : Carried) → Keeps scope.visible (part_means g (fold line head body) Body b v)
body-keeps g calls names scope d line head body l own b v =
    let spared = spares-visible scope d in
    keeps-then (sets-keeps head.block b (unseen names (showing_each head.carried scope) head.block (spared-each head.carried scope spared) l.4))
    (λ u. keeps-then (sets_row-keeps head.carried v (unseen-each names scope head.carried spared l.3))
    (λ w. keeps-then (block-keeps g calls names true (in_body scope head.carried head.block) body l.6 (spared-body scope head.carried head.block spared) own.0)
    (λ x. arguments-keep g calls head.next_line head.next)))

-- a producer
pub producer-sees : (g : Environment) → CallsSee g → (names : Names) (scope : Scope) (line : ℕ) (head : PairHead) (producer consumer : Block) → IsLawfulStatement names true scope (Pair head producer consumer) → (b : ℤ) (v : Carried) → Sees (LookAlike scope.visible) (LookAlike scope.visible) (part_means g (pair line head producer consumer) Producer b v)
producer-sees g calls names scope line head producer consumer l b v =
    let inner = in_producer scope head.carried in
    sees-then (part-block-sees g calls names true inner producer l.1 refl)
    (λ u. sees-fewer (end-grows inner producer) (operands-see g calls names (scope_at_end inner producer) head.give_line head.give l.2))

producer-keeps : (g : Environment) → CallsKeep g → (names : Names) (scope : Scope) → AreDeclared scope → (line : ℕ) (head : PairHead) (producer consumer : Block) → IsLawfulStatement names true scope (Pair head producer consumer) → IsSelfContained scope.visible (pair line head producer consumer) → (b : ℤ) (v : Carried) → Keeps scope.visible (part_means g (pair line head producer consumer) Producer b v)
producer-keeps g calls names scope d line head producer consumer l own b v =
    keeps-then (block-keeps g calls names true (in_producer scope head.carried) producer l.1 (spared-producer scope head.carried (spares-visible scope d)) own.0.0)
    (λ u. arguments-keep g calls head.give_line head.give)

-- a consumer, whose own block keeps its carried value too
pub consumer-sees : (g : Environment) → CallsSee g → (names : Names) (scope : Scope) (line : ℕ) (head : PairHead) (producer consumer : Block) → IsLawfulStatement names true scope (Pair head producer consumer) → (b : ℤ) (v : Carried) → Sees (LookAlike scope.visible) (LookAlike scope.visible) (part_means g (pair line head producer consumer) Consumer b v)
consumer-sees g calls names scope line head producer consumer l b v =
    let inner = in_consumer scope head.carried producer in
    sees-then (sets_row-sees head.carried v)
    (λ u. sees-fewer {many = head.carried ++ scope.visible} (within_rest head.carried scope.visible)
    (sees-then (sees-fewer (end-grows inner consumer) (part-block-sees g calls names true inner consumer l.4 refl)) (λ w. gives-sees v)))

carried-spared : (names : Names) (scope : Scope) (carried : List ℕ) (producer : Block) → AreDeclared scope → DeclaresEach names scope carried → AreSpared scope.visible (carried ++ scope.visible) (in_consumer scope carried producer)
carried-spared names scope carried producer d declares = record {
  declared = λ slot c. below slot (Contains-append_cases carried scope.visible slot c);
  fixed = λ slot c. spared slot (Contains-append_cases carried scope.visible slot c);
}
  where
    below : (slot : ℕ) → Contains carried slot ⊎ Contains scope.visible slot → slot < scope.next + (length carried + declared_in producer)
    below slot (inl i) = let h = each-next names scope carried declares slot i in omega (arith, h)
    below slot (inr c) = let h = d slot c in omega (arith, h)

    spared : (slot : ℕ) → Contains carried slot ⊎ Contains scope.visible slot → Contains (carried ++ scope.fixed) slot ⊎ Contains scope.visible slot
    spared slot (inl i) = inl (Contains-append_left carried scope.fixed slot i)
    spared slot (inr c) = inr c

consumer-block-keeps : (g : Environment) → CallsKeep g → (names : Names) (scope : Scope) → AreDeclared scope → (line : ℕ) (head : PairHead) (producer consumer : Block) → IsLawfulStatement names true scope (Pair head producer consumer) → IsSelfContained scope.visible (pair line head producer consumer) → Keeps (head.carried ++ scope.visible) (block_means g consumer)
consumer-block-keeps g calls names scope d line head producer consumer l own =
    block-keeps g calls names true (in_consumer scope head.carried producer) consumer l.4
    (carried-spared names scope head.carried producer d l.0) own.1.0

consumer-keeps : (g : Environment) → CallsKeep g → (names : Names) (scope : Scope) → AreDeclared scope → (line : ℕ) (head : PairHead) (producer consumer : Block) → IsLawfulStatement names true scope (Pair head producer consumer) → IsSelfContained scope.visible (pair line head producer consumer) → (b : ℤ) (v : Carried) → Keeps scope.visible (part_means g (pair line head producer consumer) Consumer b v)
consumer-keeps g calls names scope d line head producer consumer l own b v =
    keeps-then (sets_row-keeps head.carried v (unseen-each names scope head.carried (spares-visible scope d) l.0))
    (λ u. keeps-then
    (block-keeps g calls names true (in_consumer scope head.carried producer) consumer l.4
    (spared-consumer scope head.carried producer (spares-visible scope d)) own.1.0)
    (λ w. gives-keeps v))

-- ---- the blocks of a fold

-- blocks that are performed plainly end as their chained runs do
abbrev IsChainEnd : List ℕ → State → Result Carried Trap → Ending Carried → Type 0
IsChainEnd outer entry (Ok value) (Value other s) = (other ≡ value) × LookAlike outer s entry
IsChainEnd outer entry (Err trap) (Trapped other output) = (other ≡ trap) × (output ≡ entry.output)
IsChainEnd outer entry _ _ = ⊥

record BlocksCame (outer : List ℕ) (entry : State) (plain : Ending Carried) (memory : List ℤ) (reals : RealValues) (c : Chained) : Type 0 where
  ends : IsChainEnd outer entry c.result plain
  same_memory : memory ≡ c.memory
  values : reals.values ≡ c.values
  trapped : reals.trapped ≡ is_trap c.result

-- one more block
block-more : (outer : List ℕ) (entry : State) (v : Carried) (next : Carried → Meaning Carried) (others : Carried → State → List ℤ → RealValues) (chain : Carried → List ℤ → Chained)
    → ((w : Carried) (s : State) → LookAlike outer s entry → (m : List ℤ) → BlocksCame outer entry (plain_answer (next w s) m) (plain_memory (next w s) m) (others w s m) (chain w m))
    → (plain run : Ending Carried) (x y : List ℤ) → EndsAs outer entry plain run → x ≡ y
    → BlocksCame outer entry (plain_answer (after_ending next plain) x) (plain_memory (after_ending next plain) x) (begun_at v plain (λ w s. others w s x)) (chained_on v run y (λ w. chain w y))
block-more outer entry v next others chain later (Value a p) (Value b q) x y e same =
    rw (e.0, same) (record {
      ends = (later b p e.1 y).ends;
      same_memory = (later b p e.1 y).same_memory;
      values = ap (λ l. v ∷ l) (later b p e.1 y).values;
      trapped = (later b p e.1 y).trapped;
    })
block-more outer entry v next others chain later (Value a p) (Trapped t q) x y e same = elim e [ ]
block-more outer entry v next others chain later (Trapped u p) (Value b q) x y e same = elim e [ ]
block-more outer entry v next others chain later (Trapped u p) (Trapped t q) x y e same =
    record { ends = (e.0, e.1); same_memory = same; values = refl; trapped = refl }

fold-blocks : (g : Environment) → CallsSee g → CallsKeep g → PartsLeave g → (names : Names) (scope : Scope) → AreDeclared scope → (line : ℕ) (head : FoldHead) (body : Block) → IsLawfulStatement names true scope (Fold head body) → IsSelfContained scope.visible (fold line head body)
    → (entry : State) (index count : ℕ) (b : ℤ) (v : Carried) (s : State) → LookAlike scope.visible s entry → (m : List ℤ)
    → BlocksCame scope.visible entry
    (plain_answer (fold_blocks count b head.block head.carried v (block_means g body >> arguments_mean g head.next_line head.next) s) m)
    (plain_memory (fold_blocks count b head.block head.carried v (block_means g body >> arguments_mean g head.next_line head.next) s) m)
    (blocks_from g (fold line head body) index count b v (record { state = s; memory = m }))
    (chained g (fold line head body) entry.slots index count b v m)
fold-blocks g see keep leave names scope d line head body l own entry index zero b v s h m =
    record { ends = (refl, h); same_memory = refl; values = refl; trapped = refl }
fold-blocks g see keep leave names scope d line head body l own entry index (suc count) b v s h m =
    let value : Meaning Carried = block_means g body >> arguments_mean g head.next_line head.next in
    let later : Carried → Meaning Carried = λ next. fold_blocks count (b +ℤ pos 1) head.block head.carried next value in
    let form : Meaning Carried = part_means g (fold line head body) Body b v in
    let ran = one-block scope.visible (LookAlike scope.visible) form (leave (fold line head body) Body own.1 b v) (body-sees g see names scope line head body l b v) (body-keeps g keep names scope d line head body l own b v) s entry h m in
    let more = block-more scope.visible entry v later
    (λ w t x. blocks_from g (fold line head body) (suc index) count (b +ℤ pos 1) w (record { state = t; memory = x }))
    (λ w x. chained g (fold line head body) entry.slots (suc index) count (b +ℤ pos 1) w x)
    (λ w t k x. fold-blocks g see keep leave names scope d line head body l own entry (suc index) count (b +ℤ pos 1) w t k x)
    (plain_answer (form s) m) _ (plain_memory (form s) m) _ ran.ends ran.memory in
    record {
      ends = subst (IsChainEnd scope.visible entry (chained g (fold line head body) entry.slots index (suc count) b v m).result)
          (sym (answer-bind (form s) (after_ending later) m)) more.ends;
      same_memory = memory-bind (form s) (after_ending later) m ∙ more.same_memory;
      values = more.values;
      trapped = more.trapped;
    }

-- ---- folds

-- parts of an ending
abbrev value_or : {A : Type 0} → A → Ending A → A
value_or a (Value b s) = b
value_or a (Trapped trap output) = a

abbrev state_or : {A : Type 0} → State → Ending A → State
state_or s (Value b t) = t
state_or s (Trapped trap output) = s

-- a choice whose first part traps, and that gives a value
record Chose {A : Type 0} (b : Bool) (given : Header) (s : State) (x : List ℤ) (h : Header) (after : State) (y : List ℤ) (first second : Meaning A) : Type 0 where
  header : given ≡ h
  state : s ≡ after
  memory : x ≡ y
  second_is : (if b then first else second) ≡ second

chose : {A : Type 0} (b : Bool) (line : ℕ) (given : Header) (s : State) (x : List ℤ) (h : Header) (after : State) (y : List ℤ) (first second : Meaning A) → Comes (if b then traps trap.Blocks line else gives given) s x (Value h after) y → Chose b given s x h after y first second
chose true line given s x h after y first second p = let wrong = p.answer in cc
chose false line given s x h after y first second p = record { header = ap (value_or h) p.answer; state = ap (state_or s) p.answer; memory = p.memory; second_is = refl }

-- a fold whose header is done goes on with its blocks
fold-runs : (g : Environment) (line : ℕ) (head : FoldHead) (body : Block) (s after : State) (m x : List ℤ) (h : Header) → Comes (header_means g (fold line head body)) s m (Value h after) x
    → (e : Ending Flow) (y : List ℤ)
    → Comes (fold_blocks h.blocks h.low head.block head.carried h.start (block_means g body >> arguments_mean g head.next_line head.next) >>= sets_row head.carried) after x e y
    → Comes (statement_means g line (Fold head body)) s m e y
fold-runs g line head body s after m x h p e y q = with_start (part _ _ s m _ x p)
  where
    value : Meaning Carried
    value = block_means g body >> arguments_mean g head.next_line head.next

    with_high : (start : Carried) (low : ℤ) (s2 : State) (x2 : List ℤ)
        → Parted (expression_means g line head.high) (λ high. fold_header line start low high) s2 x2 (Value h after) x
        → Comes (expression_means g line head.high >>= λ high. fold_range line head start low high value >>= sets_row head.carried) s2 x2 e y
    with_high start low s2 x2 (gave high s3 x3 p3 r3) =
        let c = chose {A = Carried} (nat_lt max_blocks (int_gap low high)) line (record { low = low; blocks = int_gap low high; start = start }) s3 x3 h after x
        (traps trap.Blocks line) (fold_blocks (int_gap low high) low head.block head.carried start value) r3 in
        comes-then (λ n. fold_range line head start low n value >>= sets_row head.carried) p3
        (subst (λ form. Comes (form >>= sets_row head.carried) s3 x3 e y) (sym c.second_is)
        (subst (λ t. Comes (fold_blocks (int_gap low high) low head.block head.carried start value >>= sets_row head.carried) t x3 e y) (sym c.state)
        (subst (λ z. Comes (fold_blocks (int_gap low high) low head.block head.carried start value >>= sets_row head.carried) after z e y) (sym c.memory)
        (subst (λ k. Comes (fold_blocks k.blocks k.low head.block head.carried k.start value >>= sets_row head.carried) after x e y) (sym c.header) q))))
    with_high start low s2 x2 (trapped t o p3 wrong) = cc

    with_low : (start : Carried) (s1 : State) (x1 : List ℤ)
        → Parted (expression_means g line head.low) (λ low. expression_means g line head.high >>= λ high. fold_header line start low high) s1 x1 (Value h after) x
        → Comes (expression_means g line head.low >>= λ low. expression_means g line head.high >>= λ high. fold_range line head start low high value >>= sets_row head.carried) s1 x1 e y
    with_low start s1 x1 (gave low s2 x2 p2 r2) =
        comes-then (λ n. expression_means g line head.high >>= λ high. fold_range line head start n high value >>= sets_row head.carried) p2
        (with_high start low s2 x2 (part _ _ s2 x2 _ x r2))
    with_low start s1 x1 (trapped t o p2 wrong) = cc

    with_start : Parted (arguments_mean g line head.start) (λ start. expression_means g line head.low >>= λ low. expression_means g line head.high >>= λ high. fold_header line start low high) s m (Value h after) x
        → Comes (statement_means g line (Fold head body)) s m e y
    with_start (gave start s1 x1 p1 r1) =
        comes-then (λ n. expression_means g line head.low >>= λ low. expression_means g line head.high >>= λ high. fold_range line head n low high value >>= sets_row head.carried) p1
        (with_low start s1 x1 (part _ _ s1 x1 _ x r1))
    with_start (trapped t o p1 wrong) = cc

-- parts of a trapped ending
abbrev trap_or : {A : Type 0} → Trap → Ending A → Trap
trap_or t (Value b s) = t
trap_or t (Trapped u output) = u

abbrev output_or : {A : Type 0} → List ℕ → Ending A → List ℕ
output_or o (Value b s) = o
output_or o (Trapped u output) = output

-- a trap, as an ending
abbrev trap_end : (A : Type 0) → Trap → List ℕ → Ending A
trap_end A t o = Trapped t o

-- the same trap, as an ending of another kind
as_ending : {A B : Type 0} {t u : Trap} {o q : List ℕ} → trap_end A t o ≡ trap_end A u q → trap_end B t o ≡ trap_end B u q
as_ending {A} {B} {t} {u} {o} {q} e = ap (λ (d : Ending A). trap_end B (trap_or t d) (output_or o d)) e

-- a trapped choice traps the other one too
chose-trap : (b : Bool) (line : ℕ) (given : Header) (s : State) (x : List ℤ) (t : Trap) (o : List ℕ) (y : List ℤ) (second : Meaning Carried) → Comes (if b then traps trap.Blocks line else gives given) s x (Trapped t o) y → Comes (if b then traps trap.Blocks line else second) s x (Trapped t o) y
chose-trap true line given s x t o y second p = record { answer = ap (λ (e : Ending Header). Trapped (trap_or t e) (output_or o e)) p.answer; memory = p.memory }
chose-trap false line given s x t o y second p = let wrong = p.answer in cc

-- a fold whose header traps
fold-traps : (g : Environment) (line : ℕ) (head : FoldHead) (body : Block) (s : State) (m x : List ℤ) (t : Trap) (o : List ℕ) → Comes (header_means g (fold line head body)) s m (Trapped t o) x → Comes (statement_means g line (Fold head body)) s m (Trapped t o) x
fold-traps g line head body s m x t o p = with_start (part _ _ s m _ x p)
  where
    value : Meaning Carried
    value = block_means g body >> arguments_mean g head.next_line head.next

    with_high : (start : Carried) (low : ℤ) (s2 : State) (x2 : List ℤ)
        → Parted (expression_means g line head.high) (λ high. fold_header line start low high) s2 x2 (Trapped t o) x
        → Comes (expression_means g line head.high >>= λ high. fold_range line head start low high value >>= sets_row head.carried) s2 x2 (Trapped t o) x
    with_high start low s2 x2 (gave high s3 x3 p3 r3) =
        comes-then (λ n. fold_range line head start low n value >>= sets_row head.carried) p3
        (comes-trap (sets_row head.carried) (chose-trap (nat_lt max_blocks (int_gap low high)) line (record { low = low; blocks = int_gap low high; start = start }) s3 x3 t o x
        (fold_blocks (int_gap low high) low head.block head.carried start value) r3))
    with_high start low s2 x2 (trapped u q p3 e) =
        subst (λ d. Comes (expression_means g line head.high >>= λ high. fold_range line head start low high value >>= sets_row head.carried) s2 x2 d x) (as_ending e)
        (comes-trap (λ n. fold_range line head start low n value >>= sets_row head.carried) p3)

    with_low : (start : Carried) (s1 : State) (x1 : List ℤ)
        → Parted (expression_means g line head.low) (λ low. expression_means g line head.high >>= λ high. fold_header line start low high) s1 x1 (Trapped t o) x
        → Comes (expression_means g line head.low >>= λ low. expression_means g line head.high >>= λ high. fold_range line head start low high value >>= sets_row head.carried) s1 x1 (Trapped t o) x
    with_low start s1 x1 (gave low s2 x2 p2 r2) =
        comes-then (λ n. expression_means g line head.high >>= λ high. fold_range line head start n high value >>= sets_row head.carried) p2
        (with_high start low s2 x2 (part _ _ s2 x2 _ x r2))
    with_low start s1 x1 (trapped u q p2 e) =
        subst (λ d. Comes (expression_means g line head.low >>= λ low. expression_means g line head.high >>= λ high. fold_range line head start low high value >>= sets_row head.carried) s1 x1 d x) (as_ending e)
        (comes-trap (λ n. expression_means g line head.high >>= λ high. fold_range line head start n high value >>= sets_row head.carried) p2)

    with_start : Parted (arguments_mean g line head.start) (λ start. expression_means g line head.low >>= λ low. expression_means g line head.high >>= λ high. fold_header line start low high) s m (Trapped t o) x
        → Comes (statement_means g line (Fold head body)) s m (Trapped t o) x
    with_start (gave start s1 x1 p1 r1) =
        comes-then (λ n. expression_means g line head.low >>= λ low. expression_means g line head.high >>= λ high. fold_range line head n low high value >>= sets_row head.carried) p1
        (with_low start s1 x1 (part _ _ s1 x1 _ x r1))
    with_start (trapped u q p1 e) =
        subst (λ d. Comes (statement_means g line (Fold head body)) s m d x) (as_ending e)
        (comes-trap (λ n. expression_means g line head.low >>= λ low. expression_means g line head.high >>= λ high. fold_range line head n low high value >>= sets_row head.carried) p1)

-- the last value goes into the carried slot
settles : (outer : List ℕ) (entry : State) (carried : List ℕ) (r : Result Carried Trap) (plain : Ending Carried) (m : List ℤ) → IsChainEnd outer entry r plain
    → IsSettledAs outer entry carried r (plain_answer (after_ending (sets_row carried) plain) m)
settles outer entry carried (Ok v) (Value w s) m h = rw h.0 (look_row outer carried v s entry h.1)
settles outer entry carried (Ok v) (Trapped u o) m h = elim h [ ]
settles outer entry carried (Err t) (Value w s) m h = elim h [ ]
settles outer entry carried (Err t) (Trapped u o) m h = h

settles-memory : (carried : List ℕ) (plain : Ending Carried) (m : List ℤ) → plain_memory (after_ending (sets_row carried) plain) m ≡ m
settles-memory carried (Value w s) m = refl
settles-memory carried (Trapped u o) m = refl

fold-is-blocks : (g : Environment) → CallsSee g → CallsKeep g → PartsLeave g → (names : Names) (scope : Scope) → AreDeclared scope → (line : ℕ) (head : FoldHead) (body : Block) → IsLawfulStatement names true scope (Fold head body) → IsSelfContained scope.visible (fold line head body)
    → (m : Moment) (h : Header) (after entry : State) → plainly (header_means g (fold line head body)) m ≡ Value h after → LookAlike scope.visible after entry
    → IsItsBlocks g scope.visible line (Fold head body) (fold line head body) m h after entry
fold-is-blocks g see keep leave names scope d line head body l own m h after entry e alike =
    let x = plain_memory (header_means g (fold line head body) m.state) m.memory in
    let blocks : Meaning Carried = fold_blocks h.blocks h.low head.block head.carried h.start (block_means g body >> arguments_mean g head.next_line head.next) in
    let came = fold-blocks g see keep leave names scope d line head body l own entry 0 h.blocks h.low h.start after alike x in
    let plain = plain_answer (blocks after) x in
    let memory = plain_memory (blocks after) x in
    let whole = fold-runs g line head body m.state after m.memory x h (record { answer = e; memory = refl })
    (plain_answer (after_ending (sets_row head.carried) plain) memory) (plain_memory (after_ending (sets_row head.carried) plain) memory)
    (record { answer = answer-bind (blocks after) (after_ending (sets_row head.carried)) x; memory = memory-bind (blocks after) (after_ending (sets_row head.carried)) x }) in
    record {
      settled = subst (IsSettledAs scope.visible entry head.carried (chained g (fold line head body) entry.slots 0 h.blocks h.low h.start x).result) (sym whole.answer)
          (settles scope.visible entry head.carried (chained g (fold line head body) entry.slots 0 h.blocks h.low h.start x).result plain memory came.ends);
      memory = whole.memory ∙ settles-memory head.carried plain memory ∙ came.same_memory;
      values = came.values;
      trapped = came.trapped;
    }

-- ---- pairs

-- three forms, one after another, give the same whichever two are grouped together
regrouped : {A B C : Type 0} (first : Meaning A) (second : Meaning B) (next : B → Meaning C) (s : State) (m : List ℤ) (e : Ending C) (y : List ℤ) → Comes (first >> second >>= next) s m e y → Comes (first >> (second >>= next)) s m e y
regrouped {A} {B} {C} first second next s m e y p = outer (part (first >> second) next s m e y p)
  where
    with_value : (b : B) (s1 : State) (x1 : List ℤ) → Comes (next b) s1 x1 e y → Parted first (λ u. second) s m (Value b s1) x1 → Comes (first >> (second >>= next)) s m e y
    with_value b s1 x1 r (gave a s0 x0 pa pb) = comes-then (λ u. second >>= next) pa (comes-then next pb r)
    with_value b s1 x1 r (trapped t o pa wrong) = cc

    with_trap : (t : Trap) (o : List ℕ) → trap_end C t o ≡ e → Parted first (λ u. second) s m (Trapped t o) y → Comes (first >> (second >>= next)) s m e y
    with_trap t o h (gave a s0 x0 pa pb) = subst (λ d. Comes (first >> (second >>= next)) s m d y) h (comes-then (λ u. second >>= next) pa (comes-trap next pb))
    with_trap t o h (trapped u q pa same) = subst (λ d. Comes (first >> (second >>= next)) s m d y) (as_ending same ∙ h) (comes-trap (λ u. second >>= next) pa)

    outer : Parted (first >> second) next s m e y → Comes (first >> (second >>= next)) s m e y
    outer (gave b s1 x1 pb r) = with_value b s1 x1 r (part first (λ u. second) s m (Value b s1) x1 pb)
    outer (trapped t o pt h) = with_trap t o h (part first (λ u. second) s m (Trapped t o) y pt)

-- a consumer's block leaves the carried slot and the visible ones as they were
consumer-settles : (outer carried : List ℕ) (v : Carried) (s entry : State) → LookAlike outer s entry
    → (block : Ending Flow) (run : Ending Carried) (x y : List ℤ)
    → EndLeaves (AreKept (carried ++ outer) (with_carried carried v s.slots)) block
    → EndsAs outer entry (plain_answer (after_ending (λ u. gives v) block) x) run
    → IsSettledAs outer entry carried (chained_on v run y (λ w. record { values = []; result = Ok w; memory = y })).result (plain_answer (after_ending (λ u. done) block) x)
consumer-settles outer carried v s entry h (Value u p) (Value w q) x y k e =
    rw (sym e.0) (looks-kept (carried ++ outer) (record s { slots = with_carried carried v s.slots }) p (record entry { slots = with_carried carried v entry.slots }) k
    (e.1.agree.output ∙ sym h.agree.output) (look_row outer carried v s entry h))
consumer-settles outer carried v s entry h (Value u p) (Trapped t q) x y k e = elim e [ ]
consumer-settles outer carried v s entry h (Trapped t p) (Value w q) x y k e = elim e [ ]
consumer-settles outer carried v s entry h (Trapped t p) (Trapped u q) x y k e = e

consumer-memory : (v : Carried) (block : Ending Flow) (x : List ℤ) → plain_memory (after_ending (λ u. gives v) block) x ≡ x
consumer-memory v (Value u p) x = refl
consumer-memory v (Trapped t p) x = refl

done-memory : (block : Ending Flow) (x : List ℤ) → plain_memory (after_ending (λ u. done) block) x ≡ x
done-memory (Value u p) x = refl
done-memory (Trapped t p) x = refl

gives-memory : (plain : Ending Carried) (x : List ℤ) → plain_memory (after_ending gives plain) x ≡ x
gives-memory (Value w s) x = refl
gives-memory (Trapped t o) x = refl

-- what a pair came to after its producer
record PairCame (outer : List ℕ) (entry : State) (carried : List ℕ) (plain : Ending Flow) (memory : List ℤ) (reals : RealValues) (c : Chained) : Type 0 where
  ends : IsSettledAs outer entry carried c.result plain
  same_memory : memory ≡ c.memory
  values : reals.values ≡ c.values
  trapped : reals.trapped ≡ is_trap c.result

-- the last block
block-last : (outer : List ℕ) (entry : State) (v : Carried) (plain run : Ending Carried) (x y : List ℤ) → EndsAs outer entry plain run → x ≡ y
    → BlocksCame outer entry (plain_answer (after_ending gives plain) x) (plain_memory (after_ending gives plain) x) (begun_at v plain (λ w s. record { values = []; trapped = false })) (chained_on v run y (λ w. record { values = []; result = Ok w; memory = y }))
block-last outer entry v plain run x y e same =
    block-more outer entry v gives (λ w s m. record { values = []; trapped = false }) (λ w m. record { values = []; result = Ok w; memory = m })
    (λ w s h m. record { ends = (refl, h); same_memory = refl; values = refl; trapped = refl }) plain run x y e same

consumer-comes : (g : Environment) → CallsSee g → CallsKeep g → PartsLeave g → (names : Names) (scope : Scope) → AreDeclared scope → (line : ℕ) (head : PairHead) (producer consumer : Block) → IsLawfulStatement names true scope (Pair head producer consumer) → IsSelfContained scope.visible (pair line head producer consumer)
    → (entry : State) (v : Carried) (s : State) → LookAlike scope.visible s entry → (m : List ℤ)
    → PairCame scope.visible entry head.carried
    (plain_answer ((sets_row head.carried v >> (block_means g consumer >> done)) s) m)
    (plain_memory ((sets_row head.carried v >> (block_means g consumer >> done)) s) m)
    (blocks_from g (pair line head producer consumer) 1 1 (pos 1) v (record { state = s; memory = m }))
    (chained g (pair line head producer consumer) entry.slots 1 1 (pos 1) v m)
consumer-comes g see keep leave names scope d line head producer consumer l own entry v s h m =
    let form : Meaning Carried = part_means g (pair line head producer consumer) Consumer (pos 1) v in
    let set : State = record s { slots = with_carried head.carried v s.slots } in
    let ran = one-block scope.visible (LookAlike scope.visible) form (leave (pair line head producer consumer) Consumer own.1.1 (pos 1) v) (consumer-sees g see names scope line head producer consumer l (pos 1) v) (consumer-keeps g keep names scope d line head producer consumer l own (pos 1) v) s entry h m in
    let last = block-last scope.visible entry v (plain_answer (form s) m) _ (plain_memory (form s) m) _ ran.ends ran.memory in
    let kept = answer-leaves (AreKept (head.carried ++ scope.visible) set.slots) (block_means g consumer set) m ((consumer-block-keeps g keep names scope d line head producer consumer l own).leaves set) in
    record {
      ends = subst (IsSettledAs scope.visible entry head.carried (chained g (pair line head producer consumer) entry.slots 1 1 (pos 1) v m).result)
          (sym (answer-bind (block_means g consumer set) (after_ending (λ u. done)) m))
          (consumer-settles scope.visible head.carried v s entry h (plain_answer (block_means g consumer set) m) _ (plain_memory (block_means g consumer set) m) _ kept
          (subst (λ p. EndsAs scope.visible entry p (plain_answer (form (record { slots = entry.slots; output = [] })) m)) (answer-bind (block_means g consumer set) (after_ending (λ u. gives v)) m) ran.ends));
      same_memory =
          memory-bind (block_means g consumer set) (after_ending (λ u. done)) m
          ∙ done-memory (plain_answer (block_means g consumer set) m) (plain_memory (block_means g consumer set) m)
          ∙ sym (consumer-memory v (plain_answer (block_means g consumer set) m) (plain_memory (block_means g consumer set) m))
          ∙ sym (memory-bind (block_means g consumer set) (after_ending (λ u. gives v)) m)
          ∙ sym (gives-memory (plain_answer (form s) m) (plain_memory (form s) m))
          ∙ last.same_memory;
      values = last.values;
      trapped = last.trapped;
    }

-- a pair, from its producer's ending on
pair-more : (outer : List ℕ) (entry : State) (carried : List ℕ) (zero_row : Carried) (next : Carried → Meaning Flow) (others : Carried → State → List ℤ → RealValues) (chain : Carried → List ℤ → Chained)
    → ((w : Carried) (s : State) → LookAlike outer s entry → (m : List ℤ) → PairCame outer entry carried (plain_answer (next w s) m) (plain_memory (next w s) m) (others w s m) (chain w m))
    → (plain run : Ending Carried) (x y : List ℤ) → EndsAs outer entry plain run → x ≡ y
    → PairCame outer entry carried (plain_answer (after_ending next plain) x) (plain_memory (after_ending next plain) x) (begun_at zero_row plain (λ w s. others w s x)) (chained_on zero_row run y (λ w. chain w y))
pair-more outer entry carried zero_row next others chain later (Value a p) (Value b q) x y e same =
    rw (e.0, same) (record {
      ends = (later b p e.1 y).ends;
      same_memory = (later b p e.1 y).same_memory;
      values = ap (λ l. zero_row ∷ l) (later b p e.1 y).values;
      trapped = (later b p e.1 y).trapped;
    })
pair-more outer entry carried zero_row next others chain later (Value a p) (Trapped t q) x y e same = elim e [ ]
pair-more outer entry carried zero_row next others chain later (Trapped u p) (Value b q) x y e same = elim e [ ]
pair-more outer entry carried zero_row next others chain later (Trapped u p) (Trapped t q) x y e same =
    record { ends = (e.0, e.1); same_memory = same; values = refl; trapped = refl }

-- a pair at its entry
pair-comes : (g : Environment) → CallsSee g → CallsKeep g → PartsLeave g → (names : Names) (scope : Scope) → AreDeclared scope → (line : ℕ) (head : PairHead) (producer consumer : Block) → IsLawfulStatement names true scope (Pair head producer consumer) → IsSelfContained scope.visible (pair line head producer consumer)
    → (entry s : State) → LookAlike scope.visible s entry → (m : List ℤ)
    → PairCame scope.visible entry head.carried
    (plain_answer (statement_means g line (Pair head producer consumer) s) m)
    (plain_memory (statement_means g line (Pair head producer consumer) s) m)
    (blocks_from g (pair line head producer consumer) 0 2 (pos 0) (no_row (length head.carried)) (record { state = s; memory = m }))
    (chained g (pair line head producer consumer) entry.slots 0 2 (pos 0) (no_row (length head.carried)) m)
pair-comes g see keep leave names scope d line head producer consumer l own entry s h m =
    let form : Meaning Carried = part_means g (pair line head producer consumer) Producer (pos 0) (no_row (length head.carried)) in
    let next : Carried → Meaning Flow = λ given. sets_row head.carried given >> (block_means g consumer >> done) in
    let ran = one-block scope.visible (LookAlike scope.visible) form (leave (pair line head producer consumer) Producer own.0.1 (pos 0) (no_row (length head.carried))) (producer-sees g see names scope line head producer consumer l (pos 0) (no_row (length head.carried))) (producer-keeps g keep names scope d line head producer consumer l own (pos 0) (no_row (length head.carried))) s entry h m in
    let more = pair-more scope.visible entry head.carried (no_row (length head.carried)) next
    (λ w t x. blocks_from g (pair line head producer consumer) 1 1 (pos 1) w (record { state = t; memory = x }))
    (λ w x. chained g (pair line head producer consumer) entry.slots 1 1 (pos 1) w x)
    (λ w t k x. consumer-comes g see keep leave names scope d line head producer consumer l own entry w t k x)
    (plain_answer (form s) m) _ (plain_memory (form s) m) _ ran.ends ran.memory in
    let whole = regrouped (block_means g producer) (arguments_mean g head.give_line head.give) next s m
    (plain_answer (after_ending next (plain_answer (form s) m)) (plain_memory (form s) m)) (plain_memory (after_ending next (plain_answer (form s) m)) (plain_memory (form s) m))
    (record { answer = answer-bind (form s) (after_ending next) m; memory = memory-bind (form s) (after_ending next) m }) in
    record {
      ends = subst (IsSettledAs scope.visible entry head.carried (chained g (pair line head producer consumer) entry.slots 0 2 (pos 0) (no_row (length head.carried)) m).result) (sym whole.answer) more.ends;
      same_memory = whole.memory ∙ more.same_memory;
      values = more.values;
      trapped = more.trapped;
    }

-- the header of a pair is done at once
pair-is-blocks : (g : Environment) → CallsSee g → CallsKeep g → PartsLeave g → (names : Names) (scope : Scope) → AreDeclared scope → (line : ℕ) (head : PairHead) (producer consumer : Block) → IsLawfulStatement names true scope (Pair head producer consumer) → IsSelfContained scope.visible (pair line head producer consumer)
    → (m : Moment) (h : Header) (after entry : State) → plainly (header_means g (pair line head producer consumer)) m ≡ Value h after → LookAlike scope.visible after entry
    → IsItsBlocks g scope.visible line (Pair head producer consumer) (pair line head producer consumer) m h after entry
pair-is-blocks g see keep leave names scope d line head producer consumer l own m h after entry e alike =
    let header : record { low = pos 0; blocks = 2; start = no_row (length head.carried) } ≡ h = ap (value_or h) e in
    let state : m.state ≡ after = ap (state_or after) e in
    let came = pair-comes g see keep leave names scope d line head producer consumer l own entry m.state (subst (λ t. LookAlike scope.visible t entry) (sym state) alike) m.memory in
    subst (λ t. IsItsBlocks g scope.visible line (Pair head producer consumer) (pair line head producer consumer) m h t entry) state
    (subst (λ k. IsItsBlocks g scope.visible line (Pair head producer consumer) (pair line head producer consumer) m k m.state entry) header
    (record { settled = came.ends; memory = came.same_memory; values = came.values; trapped = came.trapped }))

-- ---- constructs

-- what holds of a construct that is there
abbrev there : (Construct → Type 0) → Option Construct → Type 0
there P None = Unit {0}
there P (Some c) = P c

-- the statement that a construct is
pub is-statement : (line : ℕ) (s : Statement) (c : Construct) (P : Statement → Construct → Type 0)
    → ((head : FoldHead) (body : Block) → P (Fold head body) (fold line head body))
    → ((head : PairHead) (producer consumer : Block) → P (Pair head producer consumer) (pair line head producer consumer))
    → construct_of line s ≡ Some c → P s c
is-statement line (Fold head body) c P f p e = subst (there (P (Fold head body))) e (f head body)
is-statement line (Pair head producer consumer) c P f p e = subst (there (P (Pair head producer consumer))) e (p head producer consumer)
is-statement line s c P f p e = cc

pub construct-is-blocks : (g : Environment) → CallsSee g → CallsKeep g → PartsLeave g → (names : Names) (scope : Scope) → AreDeclared scope → (line : ℕ) (s : Statement) (c : Construct) → construct_of line s ≡ Some c → IsLawfulStatement names true scope s → IsSelfContained scope.visible c
    → (m : Moment) (h : Header) (after entry : State) → plainly (header_means g c) m ≡ Value h after → LookAlike scope.visible after entry
    → IsItsBlocks g scope.visible line s c m h after entry
construct-is-blocks g see keep leave names scope d line s c is =
    is-statement line s c
    (λ t k. IsLawfulStatement names true scope t → IsSelfContained scope.visible k
    → (m : Moment) (h : Header) (after entry : State) → plainly (header_means g k) m ≡ Value h after → LookAlike scope.visible after entry
    → IsItsBlocks g scope.visible line t k m h after entry)
    (λ head body l own. fold-is-blocks g see keep leave names scope d line head body l own)
    (λ head producer consumer l own. pair-is-blocks g see keep leave names scope d line head producer consumer l own)
    is

-- a header that traps is that of a fold
pub header-traps : (g : Environment) (line : ℕ) (s : Statement) (c : Construct) → construct_of line s ≡ Some c → (m : Moment) (t : Trap) (o : List ℕ) → plainly (header_means g c) m ≡ Trapped t o
    → Comes (statement_means g line s) m.state m.memory (Trapped t o) (plain_memory (header_means g c m.state) m.memory)
header-traps g line s c is =
    is-statement line s c
    (λ r k. (m : Moment) (t : Trap) (o : List ℕ) → plainly (header_means g k) m ≡ Trapped t o → Comes (statement_means g line r) m.state m.memory (Trapped t o) (plain_memory (header_means g k m.state) m.memory))
    (λ head body m t o e. fold-traps g line head body m.state m.memory _ t o (record { answer = e; memory = refl }))
    (λ head producer consumer m t o wrong. cc)
    is
