-- Code only adds to the output.
use Rattle.std.proofs.Common.{◌≡◌, ℕ, zero, suc, List, Option, Some, None, ℤ, pos, refl}
use Rattle.std.specs.Prelude.{◌==◌, ◌-◌, drop, take, length, nat_lt, not, if◌then◌else◌, slice_get}
use Rattle.std.specs.Int.{int_gap}
use Rattle.std.specs.Ordering.{int_eq}
use Rattle.spf_ast.specs.declared.outcome.TrapKind.TheVariants as trap
use Rattle.spf_ast.specs.Event.{Event}
use Rattle.spf_ast.specs.Interaction.{Interaction, Answer, bind, Onward, Broken, Ending, Value, Trapped, Meaning}
use Rattle.spf_ast.specs.Word.{binary_words, sub_words}
use Rattle.spf_ast.specs.Meaning.{Extent, extent_in, byte_of, cell_of, cells_of, compares, max_blocks}
use Rattle.spf_code.specs.declared.function.FunctionCode.{FunctionCode}
use Rattle.spf_code.specs.Code.{Node, Code, stop, step, ◌then◌, zeros, Constant, Move, Length, Negate, Compute, ComputeWith, LoadByte, Load, Compare, CompareWith, Not, Call, Store, Fill, Emit, Fail, Choose, ChooseWith, Branch, For, While, Fold, Break, Missing, Setting, prefixed, in_window, is_on, flag, node_means, code_means}
use Rattle.spf_code.specs.NodeView.{code}
use Rattle.spf_code.specs.Settings.{known_or, word_in, perform_code, invoke_one, invoke_before, setting_before}
use Rattle.spf_exec_memory.specs.Growing.{output_of, OnlyAdds, IsUnfinished}
use Rattle.spf_exec_memory.proofs.Growing.{extends-as, unfinished-as, adds-then, adds-on, adds-if, gives-adds, traps-add, checked-adds, reads-add, sets-add, loads-add, stores-add, stores_each-adds, emits-add, for-adds, while-adds}
use Rattle.spf_exec_instructions.specs.declared.context.Context as code
use Rattle.spf_exec_instructions.specs.Instructions.{setting}

-- a call of a function only adds to the output
pub record CallsAdd (c : Setting) : Type 0 where
  pub call : (f count : ℕ) → OnlyAdds (c.invoke f count)

front-keeps : {A : Type 0} (front : List ℤ) (e : Ending A) → output_of (prefixed front e) ≡ output_of e
front-keeps front (Value a s) = refl
front-keeps front (Trapped t o) = refl

-- what is left in the middle of a form over a window
pub unfinished-window : {A : Type 0} (front : List ℤ) (t : Interaction (Ending A)) (es : List Event) (bytes : List ℕ) → IsUnfinished t es bytes → IsUnfinished (bind t (λ e. Answer (prefixed front e))) es bytes
unfinished-window front t es bytes u = unfinished-as t es bytes (prefixed front) (front-keeps front) u

pub window-adds : {A : Type 0} (from : ℕ) {inner : Meaning A} → OnlyAdds inner → OnlyAdds (in_window from inner)
window-adds from {inner = inner} n = record {
  adds = λ s. extends-as s.output (inner (record s { slots = drop from s.slots })) (prefixed (take from s.slots)) (front-keeps (take from s.slots)) (n.adds (record s { slots = drop from s.slots }));
}

pub is_on-adds : (r : ℕ) → OnlyAdds (is_on r)
is_on-adds r = adds-then (reads-add r) (λ x. gives-adds (not (int_eq x (pos 0))))

mutual
  pub node-adds : (c : Setting) → CallsAdd c → (x : Node) → OnlyAdds (node_means c x)
  node-adds c calls (Constant d n) = sets-add d n
  node-adds c calls (Move d a) = adds-then (reads-add a) (λ x. sets-add d x)
  node-adds c calls (Length d) = sets-add d (pos (length c.input))
  node-adds c calls (Negate d a line) = adds-then (reads-add a) (λ x. adds-then (checked-adds line (sub_words (pos 0) x)) (λ v. sets-add d v))
  node-adds c calls (Compute op d a b line) =
      adds-then (reads-add a) (λ x. adds-then (reads-add b) (λ y. adds-then (checked-adds line (binary_words op x y)) (λ v. sets-add d v)))
  node-adds c calls (ComputeWith op d a n line) =
      adds-then (reads-add a) (λ x. adds-then (checked-adds line (binary_words op x n)) (λ v. sets-add d v))
  node-adds c calls (LoadByte d i line) =
      adds-then (reads-add i) (λ x. adds-then (checked-adds line (byte_of c.input x)) (λ v. sets-add d v))
  node-adds c calls (Load d array i line) =
      adds-then (reads-add i)
      (λ x. adds-then (checked-adds line (cell_of (extent_in c.extents array) x)) (λ cell. adds-then (loads-add cell) (λ v. sets-add d v)))
  node-adds c calls (Compare test d a b) = adds-then (reads-add a) (λ x. adds-then (reads-add b) (λ y. sets-add d (flag (compares test x y))))
  node-adds c calls (CompareWith test d a n) = adds-then (reads-add a) (λ x. sets-add d (flag (compares test x n)))
  node-adds c calls (Not d a) = adds-then (is_on-adds a) (λ on. sets-add d (flag (not on)))
  node-adds c calls (Call d f w count) = adds-then (window-adds w (calls.call f count)) (λ v. sets-add d v)
  node-adds c calls (Store array i v line) =
      adds-then (reads-add i)
      (λ x. adds-then (reads-add v) (λ word. adds-then (checked-adds line (cell_of (extent_in c.extents array) x)) (λ cell. stores-add cell word)))
  node-adds c calls (Fill array low high v line) =
      adds-then (reads-add low)
      (λ x. adds-then (reads-add high)
      (λ y. adds-then (reads-add v)
      (λ word. adds-then (checked-adds line (cells_of (extent_in c.extents array) x y)) (λ cells. stores_each-adds cells.0 cells.1 word))))
  node-adds c calls (Emit v line) = adds-then (reads-add v) (λ x. emits-add line x)
  node-adds c calls (Fail number line) = traps-add (trap.Fail number) line
  node-adds c calls (Choose test a b first second) =
      adds-then (reads-add a) (λ x. adds-then (reads-add b) (λ y. adds-if (compares test x y) (code-adds c calls first) (code-adds c calls second)))
  node-adds c calls (ChooseWith test a n first second) =
      adds-then (reads-add a) (λ x. adds-if (compares test x n) (code-adds c calls first) (code-adds c calls second))
  node-adds c calls (Branch r first second) =
      adds-then (is_on-adds r) (λ on. adds-if on (code-adds c calls first) (code-adds c calls second))
  node-adds c calls (For slot low high body) =
      adds-then (reads-add low) (λ x. adds-then (reads-add high) (λ y. for-adds (int_gap x y) x slot (code-adds c calls body)))
  node-adds c calls (While r most test body line) =
      while-adds line most (adds-then (code-adds c calls test) (λ u. is_on-adds r)) (code-adds c calls body)
  node-adds c calls (Fold block low high body line) =
      adds-then (reads-add low)
      (λ x. adds-then (reads-add high)
      (λ y. adds-if (nat_lt max_blocks (int_gap x y)) (traps-add trap.Blocks line) (for-adds (int_gap x y) x block (code-adds c calls body))))
  node-adds c calls Break = gives-adds Broken
  node-adds c calls Missing = gives-adds Onward

  pub code-adds : (c : Setting) → CallsAdd c → (x : Code) → OnlyAdds (code_means c x)
  code-adds c calls stop = gives-adds Onward
  code-adds c calls (step x rest) = adds-on (node-adds c calls x) (code-adds c calls rest)

-- ---- calls

known-adds : (word : Option ℤ) {m : Meaning ℤ} → OnlyAdds m → OnlyAdds (known_or word m)
known-adds (Some w) n = gives-adds w
known-adds None n = n

performed-adds : (c : Setting) → CallsAdd c → (k : FunctionCode) (count : ℕ) → OnlyAdds (perform_code c k count)
performed-adds c calls k count =
    adds-then (code-adds c calls (zeros count (k.slots - count) then code k.code.items)) (λ u. reads-add k.register)

one-adds : (c : Setting) → CallsAdd c → (k : Option FunctionCode) (count : ℕ) → OnlyAdds (invoke_one c k count)
one-adds c calls None count = gives-adds (pos 0)
one-adds c calls (Some k) count = record {
  adds = λ s. (known-adds (word_in k.tables count s.slots) (performed-adds c calls k count)).adds s;
}

invoked-adds : (input : List ℕ) (extents : List Extent) (codes : List FunctionCode) (n f count : ℕ) → OnlyAdds (invoke_before input extents codes n f count)
invoked-adds input extents codes zero f count = gives-adds (pos 0)
invoked-adds input extents codes (suc n) f count =
    adds-if (f == n)
    (one-adds (setting_before input extents codes n) (record { call = invoked-adds input extents codes n }) (slice_get codes n) count)
    (invoked-adds input extents codes n f count)

-- so does each call in the setting of a context
pub calls-add : (context : code.Context) (below : ℕ) → CallsAdd (setting context below)
calls-add context below = record { call = invoked-adds context.input.now context.extents.now context.functions.now below }

pub run-adds : (context : code.Context) (below : ℕ) (x : Code) → OnlyAdds (code_means (setting context below) x)
run-adds context below x = code-adds (setting context below) (calls-add context below) x
