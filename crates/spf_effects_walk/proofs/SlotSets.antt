-- Sets of slots that are filled while a block is read.
use Rattle.std.proofs.Common.{◌≡◌, ℕ, zero, suc, ◌+◌, ◌<◌, ◌≤◌, Bool, true, false, List, [], ◌∷◌, ◌++◌, length, get_or, set, take, drop, replicate, refl, sym, ap, ◌∙◌, arith}
use Rattle.std.proofs.lemmas.Bool.Decides.{Decides-eqb, nat_tests}
use Rattle.std.proofs.lemmas.List.{take_all, drop_all, get_or-set_same, get_or-set_other}
use Rattle.std.proofs.Math.Seq.{drop-cons}
use Rattle.std.specs.Prelude.{Result, Ok, Err, OnOk, ◌||◌, ◌==◌, is_ok, if◌then◌else◌}
use Rattle.std.specs.declared.vec.Vec.{Vec}
use Rattle.std.specs.declared.boxed.Box.{Box}
use Rattle.std.specs.declared.alloc.Global.{Global}
use Rattle.spf_ast.specs.declared.syntax.Expr.{Expr}
use Rattle.spf_ast.specs.declared.syntax.Cond.{Cond}
use Rattle.spf_ast.specs.declared.syntax.Fold.{Fold, out-Fold}
use Rattle.spf_ast.specs.declared.syntax.Pair.{Pair, out-Pair}
use Rattle.spf_ast.specs.declared.syntax.Stmt.{Stmt}
use Rattle.spf_ast.specs.declared.syntax.StmtKind.{StmtKind}
use Rattle.spf_ast.specs.declared.syntax.StmtKind.TheVariants as s
use Rattle.spf_ast.specs.Syntax.{Block, FoldHead, PairHead, If, For, While}
use Rattle.spf_ast.specs.Syntax as syntax
use Rattle.spf_ast.specs.View.{statement, block, fold_head, pair_head}
use Rattle.spf_ast.proofs.Views.{statement-if, statement-for, statement-while, statement-fold, statement-pair}
use Rattle.spf_ast.specs.Slots.{assigns, statement_assigns, is_among, declares, statement_declares}
use Rattle.spf_effects_walk.specs.declared.slot_sets.Slots as code
use Rattle.spf_effects_walk.specs.SlotSets.{SlotSets, sets_of, has_slot, no_slot, with_slot, with_slots, with_statement, with_block}
use Rattle.spf_effects_findings.proofs.Then.{or_moves}
use Rattle.spf_effects_findings.proofs.Either.{or_none}
use Rattle.spf_effects_walk.proofs.Walks.{item_at}

none_more : (n x : ℕ) → get_or (replicate n false) x false ≡ false
none_more zero x = refl
none_more (suc n) zero = refl
none_more (suc n) (suc x) = none_more n x

padded_at : (flags : List Bool) (n x : ℕ) → get_or (flags ++ replicate n false) x false ≡ get_or flags x false
padded_at [] n x = none_more n x
padded_at (f ∷ flags) n zero = refl
padded_at (f ∷ flags) n (suc x) = padded_at flags n x

-- a table that is made longer
pub padded : {E : Type 0} (result : Result (Unit {0}) E) (flags new : List Bool) (n more : ℕ) → length flags ≤ n → new ≡ (if is_ok result then take n flags ++ replicate more false else flags) → OnOk result (has_slot new ≡ has_slot flags)
padded (Ok u) flags new n more h e =
    ap has_slot (e ∙ ap (λ l. l ++ replicate more false) (take_all n flags h))
    ∙ (λ i x. padded_at flags more x i)
padded (Err x) flags new n more h e = tt

flag_at : (flags : List Bool) (index x : ℕ) → index < length flags → get_or (set flags index true) x false ≡ ((x == index) || get_or flags x false)
flag_at flags index x h = at_test (x == index) refl
  where
    at_test : (b : Bool) → (x == index) ≡ b → get_or (set flags index true) x false ≡ ((x == index) || get_or flags x false)
    at_test true e =
        let same : x ≡ index = (Decides-eqb x index).0 e in
        ap (λ y. get_or (set flags index true) y false) same ∙ get_or-set_same flags index true false h ∙ sym (ap (λ b. b || get_or flags x false) e)
    at_test false e =
        let apart : x ≡ index → ⊥ = λ same. let yes = (Decides-eqb x index).1 same in cc in
        get_or-set_other flags index x true false apart ∙ sym (ap (λ b. b || get_or flags x false) e)

-- a flag that is set
pub flagged : (old flags : List Bool) (index : ℕ) → has_slot flags ≡ has_slot old → index < length flags → has_slot (set flags index true) ≡ with_slot index (has_slot old)
flagged old flags index e h = (λ i x. flag_at flags index x h i) ∙ ap (with_slot index) e

-- ---- a set that many slots are put into

pub each_next : (slots : List ℕ) (i : ℕ) (now new whole : ℕ → Bool) → i < length slots → new ≡ with_slot (get_or slots i 0) now → with_slots (drop i slots) now ≡ whole → with_slots (drop (i + 1) slots) new ≡ whole
each_next slots i now new whole h e k =
    ap (with_slots (drop (i + 1) slots)) e
    ∙ (λ j x. or_moves (x == get_or slots i 0) (is_among x (drop (i + 1) slots)) (now x) j)
    ∙ ap (λ l. with_slots l now) (sym (drop-cons slots i 0 h ∙ ap (λ n. get_or slots i 0 ∷ drop n slots) (let n : suc i ≡ i + 1 = omega arith in n)))
    ∙ k

pub each_none : (slots : List ℕ) (i : ℕ) (now whole : ℕ → Bool) → length slots ≤ i → with_slots (drop i slots) now ≡ whole → now ≡ whole
each_none slots i now whole h k = sym (ap (λ l. with_slots l now) (drop_all i slots h)) ∙ k

same_slot : (x y : ℕ) → (x == y) ≡ (y == x)
same_slot x y = grind (arith, nat_tests)

or_three : (c b d s : Bool) → (d || (b || (c || s))) ≡ ((c || (b || d)) || s)
or_three true true true s = refl
or_three true true false s = refl
or_three true false true s = refl
or_three true false false s = refl
or_three false true true s = refl
or_three false true false s = refl
or_three false false true s = refl
or_three false false false s = refl

-- ---- statements

pub let_with : (kind : StmtKind) (slot : ℕ) (value : Expr) → kind ≡ s.Let slot value → (sets : SlotSets) → record { assigned = sets.assigned; declared = with_slot slot sets.declared } ≡ with_statement (statement kind) sets
let_with kind slot value is sets = ap (λ k. with_statement (statement k) sets) (sym is)

pub assign_with : (kind : StmtKind) (slot : ℕ) (value : Expr) → kind ≡ s.Assign slot value → (sets : SlotSets) → record { assigned = with_slot slot sets.assigned; declared = sets.declared } ≡ with_statement (statement kind) sets
assign_with kind slot value is sets =
    (λ i. record { assigned = λ x. same_slot x slot i || sets.assigned x; declared = sets.declared })
    ∙ ap (λ k. with_statement (statement k) sets) (sym is)

pub if_with : (kind : StmtKind) (test : Cond) (first second : Vec Stmt Global) → kind ≡ s.If test first second → (sets : SlotSets) → with_block (block second.items) (with_block (block first.items) sets) ≡ with_statement (statement kind) sets
if_with kind test first second is sets =
    (λ i. record {
      assigned = λ x. or_moves (assigns (λ other. other == x) (block first.items)) (assigns (λ other. other == x) (block second.items)) (sets.assigned x) i;
      declared = λ x. or_moves (declares x (block first.items)) (declares x (block second.items)) (sets.declared x) i;
    })
    ∙ ap (λ t. with_statement t sets) (sym (statement-if test first second)) ∙ ap (λ k. with_statement (statement k) sets) (sym is)

pub for_with : (kind : StmtKind) (slot : ℕ) (low high : Expr) (body : Vec Stmt Global) → kind ≡ s.For slot low high body → (sets : SlotSets) → with_block (block body.items) (record { assigned = sets.assigned; declared = with_slot slot sets.declared }) ≡ with_statement (statement kind) sets
for_with kind slot low high body is sets =
    (λ i. record {
      assigned = λ x. assigns (λ other. other == x) (block body.items) || sets.assigned x;
      declared = λ x. or_moves (x == slot) (declares x (block body.items)) (sets.declared x) i;
    })
    ∙ ap (λ t. with_statement t sets) (sym (statement-for slot low high body)) ∙ ap (λ k. with_statement (statement k) sets) (sym is)

pub while_with : (kind : StmtKind) (test : Cond) (most : ℕ) (body : Vec Stmt Global) → kind ≡ s.While test most body → (sets : SlotSets) → with_block (block body.items) sets ≡ with_statement (statement kind) sets
while_with kind test most body is sets =
    ap (λ t. with_statement t sets) (sym (statement-while test most body)) ∙ ap (λ k. with_statement (statement k) sets) (sym is)

pub fold_with : (head : FoldHead) (body : Block) (sets : SlotSets) → with_block body (record { assigned = sets.assigned; declared = with_slot head.block (with_slots head.carried sets.declared) }) ≡ with_statement (syntax.Fold head body) sets
fold_with head body sets = λ i. record {
  assigned = λ x. assigns (λ other. other == x) body || sets.assigned x;
  declared = λ x. or_three (is_among x head.carried) (x == head.block) (declares x body) (sets.declared x) i;
}

pub pair_with : (head : PairHead) (producer consumer : Block) (sets : SlotSets) → with_block consumer (with_block producer (record { assigned = sets.assigned; declared = with_slots head.carried sets.declared })) ≡ with_statement (syntax.Pair head producer consumer) sets
pair_with head producer consumer sets = λ i. record {
  assigned = λ x. or_moves (assigns (λ other. other == x) producer) (assigns (λ other. other == x) consumer) (sets.assigned x) i;
  declared = λ x. or_three (is_among x head.carried) (declares x producer) (declares x consumer) (sets.declared x) i;
}

pub fold_kind_with : (kind : StmtKind) (fold : Box Fold Global) → kind ≡ s.Fold fold → (sets : SlotSets) → with_statement (syntax.Fold (fold_head fold.value) (block (out-Fold fold.value).body.items)) sets ≡ with_statement (statement kind) sets
fold_kind_with kind fold is sets =
    ap (λ t. with_statement t sets) (sym (statement-fold fold)) ∙ ap (λ k. with_statement (statement k) sets) (sym is)

pub pair_kind_with : (kind : StmtKind) (pair : Box Pair Global) → kind ≡ s.Pair pair → (sets : SlotSets) → with_statement (syntax.Pair (pair_head pair.value) (block (out-Pair pair.value).producer.items) (block (out-Pair pair.value).consumer.items)) sets ≡ with_statement (statement kind) sets
pair_kind_with kind pair is sets =
    ap (λ t. with_statement t sets) (sym (statement-pair pair)) ∙ ap (λ k. with_statement (statement k) sets) (sym is)

-- ---- the statements of a block, from an index on

pub with_next : (xs : List Stmt) (i : ℕ) (x : Stmt) (now new whole : SlotSets) → i < length xs → x ≡ get_or xs i x → new ≡ with_statement (statement x.kind) now → with_block (block (drop i xs)) now ≡ whole → with_block (block (drop (i + 1) xs)) new ≡ whole
with_next xs i x now new whole h is e k =
    ap (with_block rest) e
    ∙ (λ i. record {
      assigned = λ y. or_moves (statement_assigns (λ other. other == y) (statement x.kind)) (assigns (λ other. other == y) rest) (now.assigned y) i;
      declared = λ y. or_moves (statement_declares y (statement x.kind)) (declares y rest) (now.declared y) i;
    })
    ∙ ap (λ l. with_block (block l) now) (sym (item_at xs i x h is)) ∙ k
  where
    rest : Block
    rest = block (drop (i + 1) xs)

pub with_none : (xs : List Stmt) (i : ℕ) (now whole : SlotSets) → length xs ≤ i → with_block (block (drop i xs)) now ≡ whole → now ≡ whole
with_none xs i now whole h k = sym (ap (λ l. with_block (block l) now) (drop_all i xs h)) ∙ k

-- the assigned slots of a block
pub assigned_in : (tables : code.Slots) (b : Block) → sets_of tables ≡ with_block b (record { assigned = no_slot; declared = no_slot }) → has_slot tables.assigned ≡ (λ slot. assigns (λ other. other == slot) b)
assigned_in tables b e = ap (λ (s : SlotSets). s.assigned) e ∙ (λ i slot. or_none (assigns (λ other. other == slot) b) i)

-- the declared slots of a block
pub declared_in : (tables : code.Slots) (b : Block) → sets_of tables ≡ with_block b (record { assigned = no_slot; declared = no_slot }) → has_slot tables.declared ≡ (λ slot. declares slot b)
declared_in tables b e = ap (λ (s : SlotSets). s.declared) e ∙ (λ i slot. or_none (declares slot b) i)
