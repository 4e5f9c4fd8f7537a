-- A block that holds no `break` of a loop around it goes on.
use Rattle.std.proofs.Common.{◌≡◌, ℕ, zero, suc, Bool, true, false, ℤ, pos, ◌+ℤ◌, refl}
use Rattle.std.specs.Prelude.{if◌then◌else◌, nat_lt, negsuc, length, ◌&&◌, Option, Some, None, IfSome, slice_get}
use Rattle.std.specs.Int.{int_gap}
use Rattle.spf_ast.specs.declared.outcome.TrapKind.TheVariants as trap
use Rattle.spf_ast.specs.Interaction.{Interaction, Answer, AskLoad, AskStore, AskTurn, bind, Flow, Onward, Broken, Ending, Value, Trapped, Meaning, State, after_ending, ◌>>=◌, ◌>>◌, unless_broken, unless_ended}
use Rattle.spf_ast.specs.Syntax.{Statement, Let, Assign, Store, Fill, Emit, Fail, If, For, While, Do, Fold, Pair, Break, Block, end, on_line, Call, Function}
use Rattle.spf_ast.specs.Meaning.{Environment, expression_means, arguments_mean, condition_means, statement_means, block_means, done, traps, checked, sets, sets_row, stores, stores_each, emits, max_output, turns, for_turns, while_turns, fold_range, cell_of, cells_of, extent_in}
use Rattle.spf_ast.specs.Slots.{statement_breaks, breaks}
use Rattle.spf_ast.specs.GoingOn.{GoesOn, StatementIsOrderly, BlockIsOrderly, FunctionIsOrderly, LawfulProgramsAreOrderly}
use Rattle.spf_ast.specs.Lawful.{Names, Scope, IsLawfulStatement, IsLawfulBlock, IsLawfulFunction}
use Rattle.spf_ast_lemmas.proofs.Bools.{neither, either_fails}

-- whatever comes first, what comes last goes on
goes-after : {A : Type 0} (t : Interaction (Ending A)) (next : A → Meaning Flow) → ((a : A) (s : State) → GoesOn (next a s)) → GoesOn (bind t (after_ending next))
goes-after (Answer (Value a s)) next n = n a s
goes-after (Answer (Trapped w o)) next n = tt
goes-after (AskLoad c k) next n = λ word. goes-after (k word) next n
goes-after (AskStore c v t) next n = goes-after t next n
goes-after (AskTurn t) next n = goes-after t next n

-- a statement that goes on, and then others
goes-on : (t : Interaction (Ending Flow)) (next : Meaning Flow) → GoesOn t → ((s : State) → GoesOn (next s)) → GoesOn (bind t (after_ending (unless_broken next)))
goes-on (Answer (Value Onward s)) next h n = n s
goes-on (Answer (Value Broken s)) next h n = absurd h
goes-on (Answer (Trapped w o)) next h n = tt
goes-on (AskLoad c k) next h n = λ word. goes-on (k word) next (h word) n
goes-on (AskStore c v t) next h n = goes-on t next h n
goes-on (AskTurn t) next h n = goes-on t next h n

-- the turns of a loop go on, whatever its body does
goes-ended : (others : Meaning Flow) → ((s : State) → GoesOn (others s)) → (flow : Flow) (s : State) → GoesOn (unless_ended others flow s)
goes-ended others n Onward s = n s
goes-ended others n Broken s = tt

goes-if : (b : Bool) (first second : Meaning Flow) (s : State) → GoesOn (first s) → GoesOn (second s) → GoesOn ((if b then first else second) s)
goes-if true first second s f g = f
goes-if false first second s f g = g

for-goes : (count : ℕ) (i : ℤ) (slot : ℕ) (body : Meaning Flow) (s : State) → GoesOn (for_turns count i slot body s)
for-goes zero i slot body s = tt
for-goes (suc count) i slot body s =
    goes-after (body _) (unless_ended (for_turns count (i +ℤ pos 1) slot body)) (goes-ended _ (for-goes count (i +ℤ pos 1) slot body))

while-goes : (line most : ℕ) (test : Meaning Bool) (body : Meaning Flow) (s : State) → GoesOn (while_turns line most test body s)
while-goes line zero test body s = goes-after (test s) _ (λ holds r. goes-if holds (traps trap.Turns line) done r tt tt)
while-goes line (suc most) test body s =
    goes-after (test s) _
    (λ holds r. goes-if holds (turns >> (body >>= unless_ended (while_turns line most test body))) done r
    (goes-after (body r) (unless_ended (while_turns line most test body)) (goes-ended _ (while-goes line most test body)))
    tt)

stores-go : (first count : ℕ) (word : ℤ) (s : State) → GoesOn (stores_each first count word s)
stores-go first zero word s = tt
stores-go first (suc count) word s = stores-go (suc first) count word s

emits-go : (line : ℕ) (value : ℤ) (s : State) → GoesOn (emits line value s)
emits-go line (pos n) s = go (nat_lt n 256 && nat_lt (length s.output) max_output) _
  where
    go : (b : Bool) (r : State) → GoesOn (if b then Answer (Value Onward r) else traps trap.Emit line s)
    go true r = tt
    go false r = tt
emits-go line (negsuc n) s = tt

mutual
  pub statement-goes : (g : Environment) (line : ℕ) (x : Statement) → statement_breaks x ≡ false → (s : State) → GoesOn (statement_means g line x s)
  statement-goes g line (Let slot value) h s = goes-after (expression_means g line value s) (sets slot) (λ w r. tt)
  statement-goes g line (Assign slot value) h s = goes-after (expression_means g line value s) (sets slot) (λ w r. tt)
  statement-goes g line (Store array index value) h s =
      goes-after (expression_means g line index s) _
      (λ i r. goes-after (expression_means g line value r) _
      (λ w q. goes-after (checked line (cell_of (extent_in g.extents array) i) q) (λ cell. stores cell w) (λ cell p. tt)))
  statement-goes g line (Fill array low high value) h s =
      goes-after (expression_means g line low s) _
      (λ i r. goes-after (expression_means g line high r) _
      (λ j q. goes-after (expression_means g line value q) _
      (λ w p. goes-after (checked line (cells_of (extent_in g.extents array) i j) p) (λ cells. stores_each cells.0 cells.1 w) (λ cells o. stores-go cells.0 cells.1 w o))))
  statement-goes g line (Emit value) h s = goes-after (expression_means g line value s) (emits line) (emits-go line)
  statement-goes g line (Fail number) h s = tt
  statement-goes g line (If test a b) h s =
      goes-after (condition_means g line test s) _
      (λ holds r. goes-if holds (block_means g a) (block_means g b) r
      (block-goes g a (neither (breaks a) (breaks b) h).0 r) (block-goes g b (neither (breaks a) (breaks b) h).1 r))
  statement-goes g line (For slot low high body) h s =
      goes-after (expression_means g line low s) _
      (λ i r. goes-after (expression_means g line high r) _ (λ j q. for-goes (int_gap i j) i slot (block_means g body) q))
  statement-goes g line (While test most body) h s = while-goes line most (condition_means g line test) (block_means g body) s
  statement-goes g line (Do f given) h s = goes-after (expression_means g line (Call f given) s) (λ _. done) (λ w r. tt)
  statement-goes g line (Fold head body) h s =
      goes-after (arguments_mean g line head.start s) _
      (λ start r. goes-after (expression_means g line head.low r) _
      (λ low q. goes-after (expression_means g line head.high q) _
      (λ high p. goes-after (fold_range line head start low high (block_means g body >> arguments_mean g head.next_line head.next) p) (sets_row head.carried) (λ w o. tt))))
  statement-goes g line (Pair head producer consumer) h s =
      goes-after (block_means g producer s) _
      (λ u r. goes-after (arguments_mean g head.give_line head.give r) _
      (λ given q. goes-after (block_means g consumer _) (λ _. done) (λ w o. tt)))
  statement-goes g line Break h s = absurd (cc)

  pub block-goes : (g : Environment) (b : Block) → breaks b ≡ false → (s : State) → GoesOn (block_means g b s)
  block-goes g end h s = tt
  block-goes g (on_line line first rest) h s =
      goes-on (statement_means g line first s) (block_means g rest) (statement-goes g line first (neither (statement_breaks first) (breaks rest) h).0 s)
      (block-goes g rest (neither (statement_breaks first) (breaks rest) h).1)

mutual
  pub statement-keeps : (names : Names) (in_main : Bool) (scope : Scope) (x : Statement) → IsLawfulStatement names in_main scope x → scope.in_loop ≡ false → statement_breaks x ≡ false
  statement-keeps names in_main scope (If c a b) h out =
      either_fails (breaks a) (breaks b) (lawful-keeps names in_main scope a h.1 out) (lawful-keeps names in_main _ b h.2 out)
  statement-keeps names in_main scope Break h out = let e = h.1 in cc
  statement-keeps names in_main scope (Let slot value) h out = refl
  statement-keeps names in_main scope (Assign slot value) h out = refl
  statement-keeps names in_main scope (Store array index value) h out = refl
  statement-keeps names in_main scope (Fill array low high value) h out = refl
  statement-keeps names in_main scope (Emit value) h out = refl
  statement-keeps names in_main scope (Fail number) h out = refl
  statement-keeps names in_main scope (For slot low high body) h out = refl
  statement-keeps names in_main scope (While c most body) h out = refl
  statement-keeps names in_main scope (Do f given) h out = refl
  statement-keeps names in_main scope (Fold head body) h out = refl
  statement-keeps names in_main scope (Pair head producer consumer) h out = refl

  pub lawful-keeps : (names : Names) (in_main : Bool) (scope : Scope) (b : Block) → IsLawfulBlock names in_main scope b → scope.in_loop ≡ false → breaks b ≡ false
  lawful-keeps names in_main scope end h out = refl
  lawful-keeps names in_main scope (on_line line first rest) h out =
      either_fails (statement_breaks first) (breaks rest) (statement-keeps names in_main scope first h.0 out) (lawful-keeps names in_main _ rest h.1 out)

mutual
  statement-within : (names : Names) (in_main : Bool) (scope : Scope) (x : Statement) → IsLawfulStatement names in_main scope x → StatementIsOrderly x
  statement-within names in_main scope (If c a b) h = (block-within names in_main scope a h.1, block-within names in_main _ b h.2)
  statement-within names in_main scope (For slot low high body) h = block-within names in_main _ body h.3
  statement-within names in_main scope (While c most body) h = block-within names in_main _ body h.2
  statement-within names in_main scope (Fold head body) h = (h.8, lawful-keeps names in_main _ body h.6 refl, block-within names in_main _ body h.6)
  statement-within names in_main scope (Pair head producer consumer) h =
      (h.5, lawful-keeps names in_main _ producer h.1 refl, lawful-keeps names in_main _ consumer h.4 refl, block-within names in_main _ producer h.1, block-within names in_main _ consumer h.4)
  statement-within names in_main scope (Let slot value) h = tt
  statement-within names in_main scope (Assign slot value) h = tt
  statement-within names in_main scope (Store array index value) h = tt
  statement-within names in_main scope (Fill array low high value) h = tt
  statement-within names in_main scope (Emit value) h = tt
  statement-within names in_main scope (Fail number) h = tt
  statement-within names in_main scope (Do f given) h = tt
  statement-within names in_main scope Break h = tt

  block-within : (names : Names) (in_main : Bool) (scope : Scope) (b : Block) → IsLawfulBlock names in_main scope b → BlockIsOrderly b
  block-within names in_main scope end h = tt
  block-within names in_main scope (on_line line first rest) h = (statement-within names in_main scope first h.0, block-within names in_main _ rest h.1)

pub program-keeps : LawfulProgramsAreOrderly
program-keeps p l = record {
  functions = λ index. go (slice_get p.functions index) index (l.scoped.functions index);
  main = block-within _ true _ p.main l.scoped.main;
}
  where
    go : (o : Option Function) (index : ℕ) → IfSome o (IsLawfulFunction p index) → FunctionIsOrderly o
    go None index h = tt
    go (Some f) index h = (lawful-keeps _ false _ f.body h.body refl, block-within _ false _ f.body h.body)
