-- Statements and blocks do no more than is found in them.
use Rattle.std.proofs.Common.{◌≡◌, inl, inr, ℕ, ◌+◌, ◌<◌, ◌≤◌, Bool, true, false, List, [], ◌∷◌, ◌++◌, length, ℤ, pos, negsuc, refl, ap, ◌∙◌, subst, arith}
use Rattle.std.specs.Prelude.{if◌then◌else◌, ◌&&◌, ◌||◌, ◌==◌, nat_lt, slice_index_or, slice_set}
use Rattle.std.specs.List.{Contains}
use Rattle.std.proofs.lemmas.List.Elements.{Contains-append_right}
use Rattle.spf_ast.specs.Carried.{with_carried}
use Rattle.std.specs.Int.{int_gap}
use Rattle.std.proofs.lemmas.Bool.Decides.{Decides-eqb}
use Rattle.spf_ast.specs.declared.outcome.TrapKind.TheVariants as trap
use Rattle.spf_ast.specs.Syntax.{Call, FoldHead, PairHead}
use Rattle.spf_ast.specs.Syntax.{Statement, Let, Assign, Store, Fill, Emit, Fail, If, For, While, Do, Fold, Pair, Break, Block, end, on_line}
use Rattle.spf_ast.specs.Interaction.{Interaction, Flow, State, Ending, ◌>>◌}
use Rattle.spf_ast.specs.Meaning.{Environment, Extent, max_output, max_blocks, done, traps, emits, fold_blocks, arguments_mean, condition_means, statement_means, block_means}
use Rattle.spf_ast.specs.Lawful.{Names, Scope, behind, in_turn, showing_fixed, in_body, in_producer, in_consumer, declared_in, scope_after, scope_at_end, IsLawfulStatement, IsLawfulBlock}
use Rattle.spf_ast.specs.Lawful as lawful
use Rattle.spf_region.specs.declared.bound.Bound.{Bound}
use Rattle.spf_region.proofs.Bools.{or-left, or-right}
use Rattle.spf_effects_findings.specs.Found.{Finds, finds_nothing, ◌then◌, perhaps, either, Sweep, turn_bound, turns}
use Rattle.spf_effects_findings.specs.Forms.{Setting, expression_bound, declared, bounds_behind, bounds_at_end, bounds_in_turn, sweeps, loop_sweeps, condition_finds, statement_finds, block_finds, block_then_row}
use Rattle.spf_ast.specs.Slots.{statement_assigns, assigns, breaks}
use Rattle.spf_ast.proofs.GoingOn.{block-goes, lawful-keeps}
use Rattle.spf_effects_laws.proofs.Ways.{in-first}
use Rattle.spf_effects_laws.proofs.Meeting.{IsWithin, Meets, Leaves, AreWithin, IsKnown, AreSwept}
use Rattle.spf_effects_laws.proofs.Meets.{meets-then, meets-post, meets-after, meets-value, meets-trap, meets-also}
use Rattle.spf_effects_laws.proofs.Leaves.{by-flow, of-flow, leaves-post, leaves-either-left, leaves-either-right, leaves-if, leaves-onward, leaves-broken, leaves-plainly, leaves-then, leaves-on, leaves-goes, meets-left, meets-onward}
use Rattle.spf_effects_laws.proofs.Expressions.{expression-meets, arguments-meet, condition-meets, when}
use Rattle.spf_effects_laws.proofs.Slots.{IsScope, IsSame, keep-len, within-other, within-back, same-refl, same-trans, same-set, same-slots, same-row, within-row, scope-later, scope-declared, within-declared, each-lies, next-each}
use Rattle.spf_effects_laws.proofs.Stores.{store-meets, fill-meets}
use Rattle.spf_effects_laws.proofs.Turns.{swept-grows}
use Rattle.spf_effects_laws.proofs.Sweeps.{index-is, sweeps_of, store-swept, swept-line}
use Rattle.spf_effects_laws.proofs.Loops.{Between, BodyEnds, BlockTurnMeets, for-meets, while-meets, blocks-meet}

-- ---- what a statement stands in

-- what it assigns counts as assigned
abbrev pub IsOf : Setting → Statement → Type 0
IsOf v s = (x : ℕ) → statement_assigns (λ other. other == x) s ≡ true → v.is_assigned x ≡ true

abbrev pub IsBlockOf : Setting → Block → Type 0
IsBlockOf v b = (x : ℕ) → assigns (λ other. other == x) b ≡ true → v.is_assigned x ≡ true

pub first-of : (v : Setting) (line : ℕ) (s : Statement) (rest : Block) → IsBlockOf v (on_line line s rest) → IsOf v s
first-of v line s rest p x e = p x (or-left (statement_assigns (λ other. other == x) s) _ e)

pub rest-of : (v : Setting) (line : ℕ) (s : Statement) (rest : Block) → IsBlockOf v (on_line line s rest) → IsBlockOf v rest
rest-of v line s rest p x e = p x (or-right (statement_assigns (λ other. other == x) s) _ e)

-- of two blocks
pub one-of : (v : Setting) (a b : Block) → ((x : ℕ) → (assigns (λ other. other == x) a || assigns (λ other. other == x) b) ≡ true → v.is_assigned x ≡ true) → IsBlockOf v a
one-of v a b p x e = p x (or-left (assigns (λ other. other == x) a) _ e)

pub other-of : (v : Setting) (a b : Block) → ((x : ℕ) → (assigns (λ other. other == x) a || assigns (λ other. other == x) b) ≡ true → v.is_assigned x ≡ true) → IsBlockOf v b
other-of v a b p x e = p x (or-right (assigns (λ other. other == x) a) _ e)

-- ---- what holds at the end of a statement

-- the bounds after it, the slots before it, and its sweeps
abbrev pub After : List Extent → Setting → ℤ → List ℕ → ℕ → List Bound → (ℕ → List Sweep) → State → State → List ℕ → Type 0
After g v k fixed n env made s e d =
    AreWithin k env e.slots × IsSame v fixed n s.slots e.slots × ((x : ℕ) → x < n → Contains fixed x → AreSwept g (made x) (slice_index_or s.slots x (pos 0)) d)

-- where it broke off, the slots before it
abbrev pub Out : Setting → List ℕ → ℕ → State → State → List ℕ → Type 0
Out v fixed n s e d = IsSame v fixed n s.slots e.slots

abbrev pub no_sweeps : ℕ → List Sweep
no_sweeps x = []

emits-meets : (g : List Extent) (k : ℤ) (line : ℕ) (z : ℤ) (s : State) → Meets g k finds_nothing (λ u e d. e.slots ≡ s.slots) (emits line z s)
emits-meets g k line (pos n) s = go (nat_lt n 256 && nat_lt (length s.output) max_output)
  where
    go : (b : Bool) → Meets g k finds_nothing (λ u e d. e.slots ≡ s.slots) (if b then done (record s { output = s.output ++ n ∷ [] }) else traps trap.Emit line s)
    go true = meets-value (λ d. refl)
    go false = meets-trap _ _
emits-meets g k line (negsuc n) s = meets-trap _ _

-- a statement that leaves the slots as they were
kept-slots : (g : List Extent) (v : Setting) (k : ℤ) (fixed : List ℕ) (n : ℕ) (env : List Bound) (s e : State) (d : List ℕ) → AreWithin k env s.slots → e.slots ≡ s.slots → After g v k fixed n env no_sweeps s e d
kept-slots g v k fixed n env s e d p is = (rw is p, (rw is (same-refl v fixed n s.slots)), λ x below un. tt)

-- a slot is set to a value
let-after : (g : List Extent) (v : Setting) (k : ℤ) (fixed : List ℕ) (n x : ℕ) (env : List Bound) (b : Bound) (s f : State) (z : ℤ) (d : List ℕ) → IsScope v n env → x ≡ n → n < length s.slots → AreWithin k env s.slots → f.slots ≡ s.slots → IsWithin k b z → After g v k fixed n (declared v x b env) no_sweeps s (record f { slots = slice_set f.slots x z }) d
let-after g v k fixed n x env b s f z d scope is below p same h = (
  rw same (within-declared v k n env s.slots x b z scope (omega arith) p h),
  rw same (same-set v fixed n s.slots s.slots x z (same-refl v fixed n s.slots) (inl (omega arith))),
  λ y under un. tt,
)

assign-after : (g : List Extent) (v : Setting) (k : ℤ) (fixed : List ℕ) (n x : ℕ) (env : List Bound) (s f : State) (z : ℤ) (d : List ℕ) → IsScope v n env → v.is_assigned x ≡ true → (Contains fixed x → ⊥) → AreWithin k env s.slots → f.slots ≡ s.slots → After g v k fixed n env no_sweeps s (record f { slots = slice_set f.slots x z }) d
assign-after g v k fixed n x env s f z d scope set free p same = (
  rw same (within-other k env s.slots x z p (scope.assigned x set)),
  rw same (same-set v fixed n s.slots s.slots x z (same-refl v fixed n s.slots) (inr (set, free))),
  λ y under un. tt,
)

-- what a branch or a body leaves
left-block : (g : List Extent) (v : Setting) (k : ℤ) (fixed : List ℕ) (n m : ℕ) (env inner : List Bound) (made : ℕ → List Sweep) (s f e : State) (d : List ℕ) → n ≤ m → IsScope v n env → AreWithin k env s.slots → f.slots ≡ s.slots → After g v k fixed m inner made f e d → After g v k fixed n env no_sweeps s e d
left-block g v k fixed n m env inner made s f e d le scope p same h =
    let kept : IsSame v fixed n s.slots e.slots = same-trans v fixed fixed n m s.slots f.slots e.slots le (λ x c. c) (rw same (same-refl v fixed n s.slots)) h.1 in
    (within-back v fixed k n env s.slots e.slots scope p kept, kept, λ x below un. tt)

left-out : (v : Setting) (fixed : List ℕ) (n m : ℕ) (s f e : State) (d : List ℕ) → n ≤ m → f.slots ≡ s.slots → Out v fixed m f e d → Out v fixed n s e d
left-out v fixed n m s f e d le same h =
    same-trans v fixed fixed n m s.slots f.slots e.slots le (λ x c. c) (rw same (same-refl v fixed n s.slots)) h

-- a statement that holds no `break` of a loop around it
plainly : (g : List Extent) (v : Setting) (k : ℤ) (fixed : List ℕ) (n : ℕ) (env : List Bound) (made : ℕ → List Sweep) (s : State) {f : Finds} {t : Interaction (Ending Flow)} → Meets g k f (λ u. After g v k fixed n env made s) t → Leaves g k f (After g v k fixed n env made s) (Out v fixed n s) t
plainly g v k fixed n env made s m = leaves-plainly (λ e d r. r.1) m

-- how the body of a loop is left
turn-left : (g : Environment) (v : Setting) (k : ℤ) (fixed : List ℕ) (m x : ℕ) (inside : List Bound) (f : Finds) (body : Block) (t : State) → x < m → Leaves g.extents k f (After g.extents v k (x ∷ fixed) m inside (λ y. sweeps y body) t) (Out v (x ∷ fixed) m t) (block_means g body t) → Meets g.extents k (perhaps f) (BodyEnds g.extents v fixed m x (loop_sweeps x body) t) (block_means g body t)
turn-left g v k fixed m x inside f body t below one = go (breaks body) refl
  where
    go : (b : Bool) → breaks body ≡ b → Meets g.extents k (perhaps f) (BodyEnds g.extents v fixed m x (if b then [] else sweeps x body) t) (block_means g body t)
    go true e = meets-post (by-flow (λ s d r. (r.1, tt)) (λ s d r. (r, λ y d'. tt))) (meets-left one)
    go false e =
        meets-post (by-flow (λ s d r. (r.1, r.2 x below (in-first x x fixed refl))) (λ s d r. absurd r))
        (meets-left (leaves-goes {most = λ s d. ⊥} (block-goes g body e t) one))

-- what holds between turns still does
between-again : (g : Environment) (v : Setting) (k : ℤ) (scope : Scope) (env : List Bound) (t mid e : State) → IsScope v scope.next env → AreWithin k env t.slots → IsSame v scope.fixed scope.next t.slots mid.slots → IsSame v scope.fixed scope.next mid.slots e.slots → Between v k scope.fixed scope.next env t e
between-again g v k scope env t mid e known_scope p q h =
    let kept : IsSame v scope.fixed scope.next t.slots e.slots = same-trans v scope.fixed scope.fixed scope.next scope.next t.slots mid.slots e.slots (omega arith) (λ x r. r) q h in
    (within-back v scope.fixed k scope.next env t.slots e.slots known_scope p kept, kept)

-- where bounds are known after a statement
scope-behind : (v : Setting) (names : Names) (in_main : Bool) (scope : Scope) (env : List Bound) (s : Statement) → IsLawfulStatement names in_main scope s → IsScope v scope.next env → IsScope v (scope.next + lawful.declared s) (bounds_behind v env s)
scope-behind v names in_main scope env (Let x e) l p = scope-declared v scope.next _ env x (expression_bound v env e) l.1.0 (omega arith) p
scope-behind v names in_main scope env s l p = scope-later v scope.next _ env (omega arith) p

-- ---- what is claimed

-- a statement does no more than is found in it, wherever it stands; where it breaks off, it set no spared slot, and what was stored before it still is
abbrev pub StatementMeets : Environment → Setting → ℤ → Names → Bool → ℕ → ℕ → Statement → Type 0
StatementMeets g v k names in_main size line s =
    (scope : Scope) (env : List Bound) → IsLawfulStatement names in_main scope s → IsOf v s
    → IsScope v scope.next env → scope.next + lawful.declared s ≤ size
    → (t : State) → size ≤ length t.slots → AreWithin k env t.slots
    → Leaves g.extents k (statement_finds v env s) (After g.extents v k scope.fixed scope.next (bounds_behind v env s) (λ x. sweeps_of x s) t) (Out v scope.fixed scope.next t) (statement_means g line s t)

-- a block does no more than is found in it, wherever it stands
abbrev pub BlockMeets : Environment → Setting → ℤ → Names → Bool → ℕ → Block → Type 0
BlockMeets g v k names in_main size b =
    (scope : Scope) (env : List Bound) → IsLawfulBlock names in_main scope b → IsBlockOf v b
    → IsScope v scope.next env → scope.next + declared_in b ≤ size
    → (t : State) → size ≤ length t.slots → AreWithin k env t.slots
    → Leaves g.extents k (block_finds v env b) (After g.extents v k scope.fixed scope.next (bounds_at_end v env b) (λ x. sweeps x b) t) (Out v scope.fixed scope.next t) (block_means g b t)

-- ---- folds and pairs, where their blocks do so

body-meets : (g : Environment) (v : Setting) (k : ℤ) (names : Names) (in_main : Bool) (scope : Scope) (size : ℕ) (env : List Bound) → IsKnown g v k names → (head : FoldHead) (body : Block) → BlockMeets g v k names in_main size body → IsLawfulStatement names in_main scope (Fold head body) → IsBlockOf v body → IsScope v scope.next env → scope.next + (length head.carried + 1 + declared_in body) ≤ size
    → BlockTurnMeets g.extents v k scope.fixed (scope.next + (length head.carried + 1)) size head.block head.carried (bounds_in_turn v env head.block head.low head.high) (block_then_row v (bounds_in_turn v env head.block head.low head.high) body head.next) (block_means g body >> arguments_mean g head.next_line head.next)
body-meets g v k names in_main scope size env known head body one l of known_scope room inner len within =
    let inside : List Bound = bounds_in_turn v env head.block head.low head.high in
    let here : Scope = in_body scope head.carried head.block in
    let b : Bound = turn_bound (expression_bound v env head.low) (expression_bound v env head.high) in
    let is : head.block ≡ scope.next + length head.carried = l.4.0 ∙ next-each head.carried scope in
    let later : IsScope v here.next inside = scope-declared v (scope.next + length head.carried) here.next env head.block b is (omega arith) (scope-later v scope.next (scope.next + length head.carried) env (omega arith) known_scope) in
    meets-then (meets-onward (block-goes g body (lawful-keeps names in_main here body l.6 refl) inner) (one here inside l.6 of later (omega (arith, room)) inner len within))
    (λ u e dd r. meets-post (λ w e' d3 r'. same-slots v here.fixed here.next inner.slots e.slots e'.slots r.1 r'.0)
    (arguments-meet g v k names (scope_at_end here body) (bounds_at_end v inside body) head.next_line known head.next l.7 e r.0))

fold-meets : (g : Environment) (v : Setting) (k : ℤ) (names : Names) (in_main : Bool) (size line : ℕ) → IsKnown g v k names → (head : FoldHead) (body : Block) → BlockMeets g v k names in_main size body → StatementMeets g v k names in_main size line (Fold head body)
fold-meets g v k names in_main size line known head body one scope env l of known_scope room t len p =
    let inside : List Bound = bounds_in_turn v env head.block head.low head.high in
    let is : head.block ≡ scope.next + length head.carried = l.4.0 ∙ next-each head.carried scope in
    plainly g.extents v k scope.fixed scope.next env no_sweeps t
    (meets-then (arguments-meet g v k names scope env line known head.start l.0 t p)
    (λ c0 f0 d0 h0. meets-then (expression-meets g v k names scope env line known head.low l.1 f0 (rw h0.0 p))
    (λ y f d h. meets-then (expression-meets g v k names scope env line known head.high l.2 f (rw (h.0 ∙ h0.0) p))
    (λ z f' d' h'.
    let same : f'.slots ≡ t.slots = h'.0 ∙ h.0 ∙ h0.0 in
    meets-after (when g.extents k (turns (expression_bound v env head.low) (expression_bound v env head.high) [] (block_then_row v inside body head.next)) (nat_lt max_blocks (int_gap y z)) (traps trap.Blocks line) (fold_blocks (int_gap y z) y head.block head.carried c0 (block_means g body >> arguments_mean g head.next_line head.next)) f' (λ w e d. Between v k scope.fixed scope.next env t e)
    (meets-trap _ _)
    (meets-post (λ w e dd r. (r.0, rw (← same) r.1))
    (blocks-meet g.extents v k scope.fixed scope.next (scope.next + (length head.carried + 1)) size head.block head.carried env (expression_bound v env head.low) (expression_bound v env head.high) y z c0 (block_then_row v inside body head.next) (block_means g body >> arguments_mean g head.next_line head.next) f'
    (record { scope = known_scope; behind = omega (arith, is); before = omega (arith, is); fits = omega (arith, room); there = keep-len (ap length same) len; within = rw same p; low = h.1; high = h'.1 })
    (λ x c. let lies = each-lies names scope head.carried l.3 x c in (lies.0, omega (arith, lies.1, is)))
    (body-meets g v k names in_main scope size env known head body one l of known_scope room))))
    (λ w e dd r. meets-value (λ d3. (
      within-row k env e.slots head.carried w r.0 (λ x c. known_scope.fresh x (each-lies names scope head.carried l.3 x c).0),
      same-row v scope.fixed scope.next t.slots e.slots head.carried w r.1 (λ x c. (each-lies names scope head.carried l.3 x c).0),
      λ x below un. tt,
    )))))))

pair-meets : (g : Environment) (v : Setting) (k : ℤ) (names : Names) (in_main : Bool) (size line : ℕ) → IsKnown g v k names → (head : PairHead) (producer consumer : Block) → BlockMeets g v k names in_main size producer → BlockMeets g v k names in_main size consumer → StatementMeets g v k names in_main size line (Pair head producer consumer)
pair-meets g v k names in_main size line known head producer consumer one other scope env l of known_scope room t len p =
    let first : Scope = in_producer scope head.carried in
    let second : Scope = in_consumer scope head.carried producer in
    plainly g.extents v k scope.fixed scope.next env no_sweeps t
    (meets-then (meets-onward (block-goes g producer (lawful-keeps names in_main first producer l.1 refl) t) (one first env l.1 (one-of v producer consumer of) (scope-later v scope.next first.next env (omega arith) known_scope) (omega (arith, room)) t len p))
    (λ u f d h. meets-then (arguments-meet g v k names (scope_at_end first producer) (bounds_at_end v env producer) head.give_line known head.give l.2 f h.0)
    (λ w f' d' h'.
    let to_f : IsSame v scope.fixed scope.next t.slots f'.slots = same-slots v scope.fixed scope.next t.slots f.slots f'.slots (same-trans v scope.fixed scope.fixed scope.next first.next t.slots t.slots f.slots (omega arith) (λ x r. r) (same-refl v scope.fixed scope.next t.slots) h.1) h'.0 in
    let new : List ℤ = with_carried head.carried w f'.slots in
    let to_set : IsSame v scope.fixed scope.next t.slots new = same-row v scope.fixed scope.next t.slots f'.slots head.carried w to_f (λ x c. (each-lies names scope head.carried l.0 x c).0) in
    meets-after
    (meets-onward (block-goes g consumer (lawful-keeps names in_main second consumer l.4 refl) (record f' { slots = new }))
    (other second env l.4 (other-of v producer consumer of) (scope-later v scope.next second.next env (omega arith) known_scope) (omega (arith, room)) (record f' { slots = new }) (keep-len to_set.size len) (within-back v scope.fixed k scope.next env t.slots new known_scope p to_set)))
    (λ u' e dd r. meets-value (λ d3.
    let kept : IsSame v scope.fixed scope.next t.slots e.slots = same-trans v scope.fixed second.fixed scope.next second.next t.slots new e.slots (omega arith) (λ x c. Contains-append_right head.carried scope.fixed x c) to_set r.1 in
    (within-back v scope.fixed k scope.next env t.slots e.slots known_scope p kept, kept, λ x below un. tt))))))

-- ---- statements

mutual
  pub statement-meets : (g : Environment) (v : Setting) (k : ℤ) (names : Names) (in_main : Bool) (size line : ℕ) → IsKnown g v k names → (s : Statement) → StatementMeets g v k names in_main size line s
  statement-meets g v k names in_main size line known (Let x e) scope env l of known_scope room t len p =
      plainly g.extents v k scope.fixed scope.next (declared v x (expression_bound v env e) env) no_sweeps t
      (meets-after (expression-meets g v k names scope env line known e l.0 t p)
      (λ z f d h. meets-value (λ d'. let-after g.extents v k scope.fixed scope.next x env (expression_bound v env e) t f z d' known_scope l.1.0 (omega (arith, room, len)) p h.0 h.1)))
  statement-meets g v k names in_main size line known (Assign x e) scope env l of known_scope room t len p =
      plainly g.extents v k scope.fixed scope.next env no_sweeps t
      (meets-after (expression-meets g v k names scope env line known e l.2 t p)
      (λ z f d h. meets-value (λ d'. assign-after g.extents v k scope.fixed scope.next x env t f z d' known_scope (of x ((Decides-eqb x x).1 refl)) l.1 p h.0)))
  statement-meets g v k names in_main size line known (Store a i e) scope env l of known_scope room t len p =
      plainly g.extents v k scope.fixed scope.next env (λ x. sweeps_of x (Store a i e)) t
      (meets-then (meets-also (expression-meets g v k names scope env line known i l.1 t p) (index-is g k line i t))
      (λ z f d h. meets-then (expression-meets g v k names scope env line known e l.2 f (rw h.0.0 p))
      (λ z' f' d' h'. meets-post
      (λ u e' dd r. let same : e'.slots ≡ t.slots = r.0 ∙ h'.0 ∙ h.0.0 in (rw same p, (rw same (same-refl v scope.fixed scope.next t.slots)), λ x below un. store-swept g.extents a i t z dd x h.1 r.1))
      (store-meets g.extents k a (expression_bound v env i) z z' line f' h.0.1))))
  statement-meets g v k names in_main size line known (Fill a i j e) scope env l of known_scope room t len p =
      plainly g.extents v k scope.fixed scope.next env no_sweeps t
      (meets-then (expression-meets g v k names scope env line known i l.1 t p)
      (λ x f d h. meets-then (expression-meets g v k names scope env line known j l.2 f (rw h.0 p))
      (λ y f' d' h'. meets-then (expression-meets g v k names scope env line known e l.3 f' (rw (h'.0 ∙ h.0) p))
      (λ z f3 d3 h3. meets-post (λ u e' dd r. kept-slots g.extents v k scope.fixed scope.next env t e' dd p (r ∙ h3.0 ∙ h'.0 ∙ h.0))
      (fill-meets g.extents k a (expression_bound v env i) (expression_bound v env j) x y z line f3 h.1 h'.1)))))
  statement-meets g v k names in_main size line known (Emit e) scope env l of known_scope room t len p =
      plainly g.extents v k scope.fixed scope.next env no_sweeps t
      (meets-after (expression-meets g v k names scope env line known e l.1 t p)
      (λ z f d h. meets-post (λ u e' d' r. kept-slots g.extents v k scope.fixed scope.next env t e' d' p (r ∙ h.0)) (emits-meets g.extents k line z f)))
  statement-meets g v k names in_main size line known (Fail c) scope env l of known_scope room t len p =
      plainly g.extents v k scope.fixed scope.next env no_sweeps t (meets-trap _ _)
  statement-meets g v k names in_main size line known (If c a b) scope env l of known_scope room t len p =
      leaves-then (condition-meets g v k names scope env line known c l.0 t p)
      (λ holds f d h. leaves-if g.extents k (either (block_finds v env a) (block_finds v env b)) holds (block_means g a) (block_means g b) f (After g.extents v k scope.fixed scope.next env no_sweeps t) (Out v scope.fixed scope.next t)
      (leaves-either-left (block_finds v env b) (leaves-post
      (λ e d' r. left-block g.extents v k scope.fixed scope.next scope.next env (bounds_at_end v env a) (λ x. sweeps x a) t f e d' (omega arith) known_scope p h r)
      (λ e d' r. left-out v scope.fixed scope.next scope.next t f e d' (omega arith) h r)
      (block-meets g v k names in_main size known a scope env l.1 (one-of v a b of) known_scope (omega (arith, room)) f (keep-len (ap length h) len) (rw h p))))
      (leaves-either-right (block_finds v env a) (leaves-post
      (λ e d' r. left-block g.extents v k scope.fixed scope.next (scope.next + declared_in a) env (bounds_at_end v env b) (λ x. sweeps x b) t f e d' (omega arith) known_scope p h r)
      (λ e d' r. left-out v scope.fixed scope.next (scope.next + declared_in a) t f e d' (omega arith) h r)
      (block-meets g v k names in_main size known b (behind (declared_in a) scope) env l.2 (other-of v a b of) (scope-later v scope.next _ env (omega arith) known_scope) (omega (arith, room)) f (keep-len (ap length h) len) (rw h p)))))
  statement-meets g v k names in_main size line known (For x low high body) scope env l of known_scope room t len p =
      plainly g.extents v k scope.fixed scope.next env no_sweeps t
      (meets-then (expression-meets g v k names scope env line known low l.0 t p)
      (λ y f d h. meets-then (expression-meets g v k names scope env line known high l.1 f (rw h.0 p))
      (λ z f' d' h'.
      let same : f'.slots ≡ t.slots = h'.0 ∙ h.0 in
      let inside : List Bound = bounds_in_turn v env x low high in
      let here : Scope = in_turn (behind 1 (showing_fixed x scope)) in
      meets-post (λ u e dd r. let kept : IsSame v scope.fixed scope.next t.slots e.slots = rw (← same) r.1 in (r.0, kept, λ x' below un. tt))
      (for-meets g.extents v k scope.fixed scope.next (scope.next + 1) size x env (expression_bound v env low) (expression_bound v env high) y z (loop_sweeps x body) (block_finds v inside body) (block_means g body) f'
      (record { scope = known_scope; behind = omega (arith, l.2.0); before = omega (arith, l.2.0); fits = omega (arith, room); there = keep-len (ap length same) len; within = rw same p; low = h.1; high = h'.1 })
      (λ inner len' within. turn-left g v k scope.fixed (scope.next + 1) x (bounds_at_end v inside body) (block_finds v inside body) body inner (omega (arith, l.2.0))
      (block-meets g v k names in_main size known body here inside l.3 of (scope-declared v scope.next _ env x _ l.2.0 (omega arith) known_scope) (omega (arith, room)) inner len' within))))))
  statement-meets g v k names in_main size line known (While c most body) scope env l of known_scope room t len p =
      plainly g.extents v k scope.fixed scope.next env no_sweeps t
      (meets-post (λ u e d r. (r.0, r.1, λ x below un. tt))
      (while-meets g.extents k (condition_finds v env c) (block_finds v env body) line (condition_means g line c) (block_means g body) (Between v k scope.fixed scope.next env t)
      (λ t' q. meets-post (λ b e d h. (rw h q.0, same-slots v scope.fixed scope.next t.slots t'.slots e.slots q.1 h)) (condition-meets g v k names scope env line known c l.0 t' q.0))
      (λ t' q. meets-post (of-flow (λ e d h. between-again g v k scope env t t' e known_scope p q.1 h.1) (λ e d h. between-again g v k scope env t t' e known_scope p q.1 h))
      (meets-left (block-meets g v k names in_main size known body (in_turn scope) env l.2 of known_scope room t' (keep-len (q.1.size) len) q.0)))
      most t (p, same-refl v scope.fixed scope.next t.slots)))
  statement-meets g v k names in_main size line known (Do f given) scope env l of known_scope room t len p =
      plainly g.extents v k scope.fixed scope.next env no_sweeps t
      (meets-after (expression-meets g v k names scope env line known (Call f given) l t p)
      (λ z e d h. meets-value (λ d'. kept-slots g.extents v k scope.fixed scope.next env t e d' p h.0)))
  statement-meets g v k names in_main size line known (Fold head body) scope env l of known_scope room t len p =
      fold-meets g v k names in_main size line known head body (block-meets g v k names in_main size known body) scope env l of known_scope room t len p
  statement-meets g v k names in_main size line known (Pair head a b) scope env l of known_scope room t len p =
      pair-meets g v k names in_main size line known head a b (block-meets g v k names in_main size known a) (block-meets g v k names in_main size known b) scope env l of known_scope room t len p
  statement-meets g v k names in_main size line known Break scope env l of known_scope room t len p =
      leaves-broken (λ d. same-refl v scope.fixed scope.next t.slots)

  pub block-meets : (g : Environment) (v : Setting) (k : ℤ) (names : Names) (in_main : Bool) (size : ℕ) → IsKnown g v k names → (b : Block) → BlockMeets g v k names in_main size b
  block-meets g v k names in_main size known end scope env l of known_scope room t len p = leaves-onward (λ d. (p, (same-refl v scope.fixed scope.next t.slots), λ x below un. tt))
  block-meets g v k names in_main size known (on_line line s rest) scope env l of known_scope room t len p =
      leaves-on (statement-meets g v k names in_main size line known s scope env l.0 (first-of v line s rest of) known_scope (omega (arith, room)) t len p)
      (λ f d h. leaves-post
      (λ e d' r grows. (
        r.0,
        (same-trans v scope.fixed scope.fixed scope.next (scope.next + lawful.declared s) t.slots f.slots e.slots (omega arith) (λ x c. c) h.1 r.1),
        λ x below un. swept-line g.extents x line s rest (slice_index_or t.slots x (pos 0)) d'
            (swept-grows g.extents (sweeps_of x s) _ d d' grows (h.2 x below un))
            (subst (λ y. AreSwept g.extents (sweeps x rest) y d') (h.1.slots x below (inr un)) (r.2 x (omega arith) un)),
      ))
      (λ e d' r. same-trans v scope.fixed scope.fixed scope.next (scope.next + lawful.declared s) t.slots f.slots e.slots (omega arith) (λ x c. c) h.1 r)
      (block-meets g v k names in_main size known rest (scope_after scope s) (bounds_behind v env s) l.1 (rest-of v line s rest of) (scope-behind v names in_main scope env s l.0 known_scope) (omega (arith, room)) f (keep-len (h.1.size) len) h.0))
