-- The counting program is lawful, its fold is rollback free, and what an attempt of its block 1 logs that ends.
use Rattle.std.proofs.Common.{◌≡◌, inl, inr, ℕ, zero, suc, ◌<◌, ◌≤◌, Bool, true, false, List, [], ◌∷◌, length, Some, ℤ, pos, refl, sym, ap, ◌∙◌, arith, Contains, get_or}
use Rattle.std.specs.Prelude.{slice_get, if◌then◌else◌, nat_le, replicate}
use Rattle.spf_ast_lemmas.proofs.Members.{none-in, first-or-later, cases}
use Rattle.spf_ast.specs.declared.syntax.Part.{Part}
use Rattle.spf_ast.specs.declared.syntax.Part.TheVariants.{Body, Producer, Consumer, Predictor}
use Rattle.std.specs.declared.vec.Vec.{Vec}
use Rattle.std.specs.declared.boxed.Box.{Box}
use Rattle.std.specs.declared.alloc.Global.{Global}
use Rattle.spf_ast.specs.declared.syntax.Expr.TheVariants as e
use Rattle.spf_ast.specs.declared.syntax.Stmt.{Stmt}
use Rattle.spf_ast.specs.declared.syntax.StmtKind.TheVariants as s
use Rattle.spf_ast.specs.declared.syntax.Fold as code_fold
use Rattle.spf_ast.specs.declared.syntax.Fold.{out-Fold}
use Rattle.spf_ast.specs.Syntax.{Number, Local, For, Fold, end, on_line}
use Rattle.spf_ast.specs.View.{block, statement, fold_head}
use Rattle.spf_ast.proofs.Views.{statement-for, statement-fold}
use Rattle.spf_ast.specs.Carried.{Carried}
use Rattle.spf_ast.specs.Event.{Event, Load, Store, Turn}
use Rattle.spf_ast.specs.Interaction.{Interaction, Answer, AskTurn, Ended, Stopped, Misfit, Ending, Value, State, perform}
use Rattle.spf_ast.specs.GoingOn.{IsOrderly}
use Rattle.spf_ast.specs.Lawful.{IsLawful, IsName, FoldHasOneWidth, reserved_words}
use Rattle.spf_region.specs.declared.span.Span.{Span}
use Rattle.spf_region.specs.Cells.{in_spans}
use Rattle.spf_effects_findings.specs.Parts.{part_effects}
use Rattle.spf_check_rules.specs.Rules.{KeepsTheRules, IsBlockPart, HasArray}
use Rattle.spf_check_rules.specs.Freedom.{TheRulesSetFree}
use Rattle.spf_exec.specs.declared.stop.Stop.TheVariants as stop
use Rattle.spf_speculation_entry.specs.Entry.{IsEntry, own}
use Rattle.spf_speculation_entry.specs.Attempts.{attempted}
use Rattle.spf_speculation_entry.specs.Sites.{AreMadeFor}
use Rattle.spf_ticket.specs.Tickets.{EndsAs}
use Rattle.spf_tests_runtime.specs.CountingFold.{counting, counting_head, counting_body, counting_fold, counting_setting, counting_entry, no_cells, five_turns}

-- ---- the program is lawful and orderly

-- each of these words has two letters or more
long : List (List ℕ) → Bool
long [] = true
long ([] ∷ words) = false
long ((a ∷ []) ∷ words) = false
long ((a ∷ b ∷ w) ∷ words) = long words

not-reserved : (words : List (List ℕ)) (x : ℕ) → long words ≡ true → Contains words (x ∷ []) → ⊥
unfolding long
not-reserved [] x l c = none-in (x ∷ []) c
not-reserved ([] ∷ words) x l c = absurd cc
not-reserved ((a ∷ []) ∷ words) x l c = absurd cc
not-reserved ((a ∷ b ∷ w) ∷ words) x l c = cases (first-or-later (a ∷ b ∷ w) (x ∷ []) words c) (λ e. longer a b x w e) (λ i. not-reserved words x l i)
  where
    longer : (a b x : ℕ) (w : List ℕ) → (a ∷ b ∷ w) ≡ (x ∷ []) → ⊥
    longer a b x w e = let n : length (a ∷ b ∷ w) ≡ 1 = ap (λ (l : List ℕ). length l) e in omega (arith, n)

-- a letter alone is a name
letter : (x : ℕ) → 97 ≤ x → x ≤ 122 → IsName (x ∷ [])
unfolding long
letter x low high = ((inr (inl (low, high)), λ k d h. absurd (omega (arith, h))), not-reserved reserved_words x refl)

names : (k : ℕ) (d : List ℕ) → k < 3 → IsName (get_or counting.slots k d)
names zero d h = letter 115 (omega arith) (omega arith)
names (suc zero) d h = letter 107 (omega arith) (omega arith)
names (suc (suc zero)) d h = letter 105 (omega arith) (omega arith)
names (suc (suc (suc k))) d h = absurd (omega (arith, h))

-- slots have names of their own
other-name : (k d : ℕ) → k < 2 → slice_get counting.slots (get_or (1 ∷ 0 ∷ []) k d) ≡ Some (105 ∷ []) → ⊥
other-name zero d h e = let n : ◌≡◌ {A = ℕ} 107 105 = cc in omega (arith, n)
other-name (suc zero) d h e = let n : ◌≡◌ {A = ℕ} 115 105 = cc in omega (arith, n)
other-name (suc (suc k)) d h e = omega (arith, h)

first-name : (k d : ℕ) → k < 1 → slice_get counting.slots (get_or (0 ∷ []) k d) ≡ Some (107 ∷ []) → ⊥
first-name zero d h e = let n : ◌≡◌ {A = ℕ} 115 107 = cc in omega (arith, n)
first-name (suc k) d h e = omega (arith, h)

one_width : FoldHasOneWidth counting_head
one_width = record { width = (omega arith, omega arith); start = refl; predict = refl; next = refl }

pub counting_orderly : IsOrderly counting
counting_orderly = record { functions = λ index. tt; main = ((one_width, refl, (tt, tt)), (tt, tt)) }

pub counting_lawful : IsLawful counting
counting_lawful = record {
  scoped = record {
    taken_are_names = λ k d h. absurd (omega (arith, h));
    taken_are_different = tt;
    sizes = λ k d h. absurd (omega (arith, h));
    functions = λ index. tt;
    slots_are_names = names;
    main = (
      (
        ((grind arith, grind arith), tt),
        (grind arith, grind arith),
        (grind arith, grind arith),
        ((refl, (none-in (115 ∷ []), λ k d h e. absurd (omega (arith, h)))), tt),
        (refl, (none-in (107 ∷ []), first-name)),
        ((grind arith, grind arith), tt),
        (((grind arith, grind arith), (1, omega arith, refl), (refl, (none-in (105 ∷ []), other-name)), tt), tt),
        ((grind arith, grind arith), tt),
        one_width,
      ),
      ((refl, (0, omega arith, refl)), tt),
    );
    slots = refl;
    version = inl refl;
  };
  limits = record { arrays = omega arith; functions = omega arith; function_size = λ f. omega arith; size = omega arith; depth = omega arith; slots = omega arith };
}

-- ---- its fold keeps the rules

-- a list without ranges has no array
nothing-in : (array : ℕ) → HasArray [] array → ⊥
nothing-in array h = cases h (λ whole. let n : false ≡ true = whole in false-not n) (λ some. let n : false ≡ true = some.2 in false-not n)
  where
    false-not : false ≡ true → ⊥
    false-not e = absurd cc

pub counting_kept : KeepsTheRules counting counting_fold
counting_kept = record {
  assigns_no_outer = no-outer;
  emits_nothing = no-emit;
  predictor_writes_nothing = nothing-in;
  writes_apart = record { no_whole = λ a. refl; near = λ a f g o p one other. absurd (nothing-in a (inr (f, o, one))) };
  predictor_reads_unwritten = λ array h w. nothing-in array h;
  reads_after_writing = λ array h w. nothing-in array h;
  writes_all = record { no_whole = λ array. refl; sure = λ array f o h. absurd (nothing-in array (inr (f, o, h))) };
}
  where
    no-outer : (part : Part) → IsBlockPart part → (part_effects counting counting_fold part).assigns_outer ≡ false
    no-outer Body b = refl
    no-outer Producer b = refl
    no-outer Consumer b = refl
    no-outer Predictor b = refl

    no-emit : (part : Part) → IsBlockPart part → (part_effects counting counting_fold part).emits ≡ false
    no-emit Body b = refl
    no-emit Producer b = refl
    no-emit Consumer b = refl
    no-emit Predictor b = refl

pub counting_is_entry : TheRulesSetFree → IsEntry counting_entry
counting_is_entry law = record {
  free = law counting 0 counting_fold counting_lawful refl counting_kept;
  bytes = λ k d h. absurd (omega (arith, h));
  slots = refl;
  blocks = tt;
}

pub counting_made : AreMadeFor counting_entry counting_setting
counting_made = record { memory = refl; blocks = refl; spans = empty }
  where
    empty : (n : ℕ) (spans : List Span) (cell : ℕ) → slice_get no_cells n ≡ Some spans → in_spans spans cell ≡ false
    empty zero spans cell e = ap (λ s. in_spans s cell) (let is : spans ≡ [] = cc in is)
    empty (suc zero) spans cell e = ap (λ s. in_spans s cell) (let is : spans ≡ [] = cc in is)
    empty (suc (suc n)) spans cell e = absurd cc

-- ---- the log of an attempt that ended

misfit-not : (a : Ending Carried) (rest : List Event) → Misfit ≡ Ended a rest → ⊥
misfit-not a rest e = absurd cc

stopped-not : (n : ℕ) (a : Ending Carried) (rest later : List Event) → Stopped n later ≡ Ended a rest → ⊥
stopped-not n a rest later e = absurd cc

ended-rest : (a b : Ending Carried) (rest later : List Event) → Ended a rest ≡ Ended b later → rest ≡ later
ended-rest a b rest later e = cc

-- a number of turns, and then a value
abbrev turns : ℕ → Carried → State → Interaction (Ending Carried)
turns zero value state = Answer (Value value state)
turns (suc n) value state = AskTurn (turns n value state)

-- a first attempt that made its turns to the end polled 0 at each
turned : (shared : ℕ → Bool) (memory : List ℤ) (n : ℕ) (value v : Carried) (state : State) (log : List Event)
    → EndsAs (perform shared memory (Some 1) (turns n value state) log) (stop.Ended v) → log ≡ replicate n (Turn 0)
turned shared memory zero value v state log h = ended-rest _ _ log [] h.1
turned shared memory (suc n) value v state [] h = absurd (misfit-not _ _ h.1)
turned shared memory (suc n) value v state (Load c w ∷ rest) h = absurd (misfit-not _ _ h.1)
turned shared memory (suc n) value v state (Store c w ∷ rest) h = absurd (misfit-not _ _ h.1)
turned shared memory (suc n) value v state (Turn zero ∷ rest) h = ap (λ l. Turn 0 ∷ l) (turned shared memory n value v state rest h)
turned shared memory (suc n) value v state (Turn (suc seen) ∷ rest) h =
    absurd (stopped-not (suc seen) _ _ rest (ap (λ b. if b then Stopped (suc seen) rest else perform shared memory (Some 1) (turns n value state) rest) (sym reached) ∙ h.1))
  where
    reached : nat_le 1 (suc seen) ≡ true
    reached = grind arith

pub five : (log : List Event) (v : Carried) → EndsAs (attempted counting_entry 1 (pos 5 ∷ []) 1 log) (stop.Ended v) → log ≡ five_turns
five log v h = turned (own counting_entry 1) [] 5 (pos 1 ∷ []) v (record { slots = pos 5 ∷ pos 1 ∷ pos 4 ∷ []; output = [] }) log h

-- ---- the program's statements in the code

pub looped : (statements : List Stmt) (body : Vec Stmt Global) → statements ≡ record { line = 1; kind = s.For 2 (e.Number (pos 0)) (e.Local 0) body } ∷ [] → body.items ≡ [] → block statements ≡ counting_body
looped statements body is empty = ap block is ∙ ap (λ form. on_line 1 form end) (statement-for 2 (e.Number (pos 0)) (e.Local 0) body ∙ ap (λ b. For 2 (Number (pos 0)) (Local 0) (block b)) empty)

pub folded : (fold : Box code_fold.Fold Global) → fold_head fold.value ≡ counting_head → block (out-Fold fold.value).body.items ≡ counting_body → statement (s.Fold fold) ≡ Fold counting_head counting_body
folded fold head body = statement-fold fold ∙ (λ t. Fold (head t) (body t))
