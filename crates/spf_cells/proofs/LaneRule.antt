-- Each step of a lane keeps the rule of the table.
use Rattle.std.proofs.Common.{◌≡◌, ◌≢◌, ℕ, zero, suc, ◌+◌, ◌<◌, ◌≤◌, List, [], ◌∷◌, ◌++◌, length, get_or, set, sym, refl, ap, ◌∙◌, subst, ⊎_elim, arith, ℤ, pos, length-set, get_or-set_other, get_or-set_same}
use Rattle.std.proofs.lemmas.List.{set-get_or}
use Rattle.std.specs.Int.{cast_signed}
use Rattle.std.specs.List.{Contains}
use mir.Syntax.{w64}
use mathlib.Core.Option.{some, none, some-ne-none, some-injective}
use lib.ListN.{get_elem?}
use mathlib.Core.Logic.{dite}
use native.Mathlib.Decide.{ℕ_discrete}
use Rattle.atomic_table.specs.Table.{State, Me, step, Act, keeps, stepped, Allows, Valid, carried_after}
use Rattle.atomic_table.proofs.Lists.{at_set}
use Rattle.spf_cells.specs.declared.view.Setting.{Setting}
use Rattle.spf_cells.specs.declared.view.LogEntry.{LogEntry}
use Rattle.spf_cells.specs.declared.view.LogEntry.TheVariants.{Load, Store, Turn}
use Rattle.spf_cells.specs.declared.view.Role.{Role}
use Rattle.spf_cells.specs.declared.view.Role.TheVariants.{Spent, Lane, Warden}
use Rattle.spf_cells.specs.declared.view.View.{View}
use Rattle.spf_ast.specs.Event.{after}
use Rattle.spf_cells.specs.Log.{content, events}
use Rattle.spf_cells.specs.Spans.{cells_with_blocks}
use Rattle.spf_cells.specs.Rule.{blocks, view_of, lane_view, Knows, HasSetting, IsConsistentTable, cell_of_word, IsLoad, IsStore, IsPoll}
use Rattle.spf_cells.proofs.Plans.{pair_inside, pair_once}
use Rattle.spf_cells.proofs.Logs.{after_one, put, put_here, put_else, after-append, length-after}

-- what another seat knows stays, where the log of a block that it does not have grows
others : (n : ℕ) (words words' : List ℕ) (logs : ℕ → List LogEntry) (owner : ℕ → ℕ) (warden j b id : ℕ) (log' : List LogEntry) (role : Role)
    → owner b ≡ id → j ≢ id → ((c : ℕ) → c < n → get_or words' c 0 ≡ get_or words c 0)
    → Knows n words logs owner warden j role → Knows n words' (put logs b log') owner warden j role
others n words words' logs owner warden j b id log' Spent mine other flags h = tt
others n words words' logs owner warden j b id log' (Lane c l) mine other flags h =
    let ne : c ≢ b = λ e. other (sym h.1 ∙ (ap owner e ∙ mine)) in (h.0, h.1, put_else logs b log' c ne ∙ h.2)
others n words words' logs owner warden j b id log' (Warden p) mine other flags h =
    let ne : (c : ℕ) → owner c ≡ j → c ≢ b = λ c o e. other (sym o ∙ (ap owner e ∙ mine)) in record {
      one = h.one;
      count = h.count;
      flags = (λ c l. flags c l ∙ h.flags c l);
      taken = (λ i t at. let o = h.taken i t at in (o.0, put_else logs b log' t.block (ne t.block o.0) ∙ o.1));
      once = h.once;
      handed_out = h.handed_out;
      kept = (λ c m. let o = h.kept c m in (o.0, put_else logs b log' c (ne c o.0) ∙ o.1));
    }

-- the lane of block b gets the log log', and the words become words'
lane_step : (k : Setting) (s : State ℕ View) (r : IsConsistentTable k s) (id b : ℕ) (log log' : List LogEntry) (words' : List ℕ)
    → get_elem? s.views id ≡ some (lane_view k b log) → length words' ≡ length s.words
    → ((i : ℕ) (p : ℕ × ℕ) → get_elem? (cells_with_blocks k.plan) i ≡ some p → cast_signed w64 (get_or words' (blocks k + i) 0) ≡ content k (put r.logs b log' p.0) p.1)
    → ((c : ℕ) → c < blocks k → get_or words' c 0 ≡ get_or s.words c 0)
    → IsConsistentTable k record { words = words'; homes = s.homes; views = set s.views id (lane_view k b log') }
lane_step k s r id b log log' words' at as_wide cells same =
    let mine = r.seats id (lane_view k b log) at in record {
      logs = put r.logs b log';
      owner = r.owner;
      warden = r.warden;
      apart = r.apart;
      wide = as_wide ∙ r.wide;
      cells = cells;
      flags = λ c l. subst (λ (x : ℕ). (x ≤ 1) × (0 < x → Contains k.raisable c)) (sym (same c l)) (r.flags c l);
      settings = λ j v e. ⊎_elim (λ (t : (j ≡ id) × (lane_view k b log' ≡ v)). subst (λ (z : View). HasSetting k z.setting z.role) t.1 refl)
          (λ (t : (j ≢ id) × (get_elem? s.views j ≡ some v)). r.settings j v t.1) (at_set s.views id j (lane_view k b log') v e);
      seats = λ j v e. ⊎_elim (λ (t : (j ≡ id) × (lane_view k b log' ≡ v)). subst (λ (z : View). Knows (blocks k) words' (put r.logs b log') r.owner r.warden j z.role) t.1
          (mine.0, mine.1 ∙ sym t.0, put_here r.logs b log'))
          (λ (t : (j ≢ id) × (get_elem? s.views j ≡ some v)). others (blocks k) s.words words' r.logs r.owner r.warden j b id log' v.role mine.1 t.0 same (r.seats j v t.1))
          (at_set s.views id j (lane_view k b log') v e);
    }

-- a log that grows by an event which changes no memory
quiet : (k : Setting) (logs : ℕ → List LogEntry) (b : ℕ) (e : LogEntry) → ((m : List ℤ) → after_one e m ≡ m) → (p : ℕ × ℕ) → content k (put logs b (logs b ++ e ∷ []) p.0) p.1 ≡ content k (logs p.0) p.1
quiet k logs b e same p = dite (ℕ_discrete p.0 b)
    (λ is. ap (λ (l : List LogEntry). content k l p.1) (ap (put logs b (logs b ++ e ∷ [])) is ∙ put_here logs b (logs b ++ e ∷ []))
    ∙ (ap (λ (m : List ℤ). get_or m p.1 (pos 0)) (after-append (logs b) e k.entry ∙ same (after (events (logs b)) k.entry)) ∙ ap (λ (c : ℕ). content k (logs c) p.1) (sym is)))
    (λ ne. ap (λ (l : List LogEntry). content k l p.1) (put_else logs b (logs b ++ e ∷ []) p.0 ne))

-- a load by the lane, which adds an event that changes no memory
quiet_step : (k : Setting) (s : State ℕ View) (r : IsConsistentTable k s) (id b i : ℕ) (log : List LogEntry) (e : LogEntry) → ((m : List ℤ) → after_one e m ≡ m)
    → get_elem? s.views id ≡ some (lane_view k b log)
    → IsConsistentTable k record { words = set s.words i (get_or s.words i 0); homes = s.homes; views = set s.views id (lane_view k b (log ++ e ∷ [])) }
quiet_step k s r id b i log e same at =
    let mine = r.seats id (lane_view k b log) at in
    let log_is : r.logs b ≡ log = mine.2 in
    subst (λ (ws : List ℕ). IsConsistentTable k record { words = ws; homes = s.homes; views = set s.views id (lane_view k b (log ++ e ∷ [])) }) (sym (set-get_or s.words i 0))
    (lane_step k s r id b log (log ++ e ∷ []) s.words at refl
    (λ j p is. r.cells j p is ∙ sym (ap (λ (l : List LogEntry). content k (put r.logs b (l ++ e ∷ []) p.0) p.1) (sym log_is) ∙ quiet k r.logs b e same p))
    (λ c l. refl))

pair_index : (l : List (ℕ × ℕ)) (i : ℕ) (p d : ℕ × ℕ) → get_elem? l i ≡ some p → get_or l i d ≡ p
pair_index [] i p d at = absurd (some-ne-none p (sym at))
pair_index (x ∷ xs) zero p d at = some-injective x p at
pair_index (x ∷ xs) (suc i) p d at = pair_index xs i p d at

index_below : (l : List (ℕ × ℕ)) (i : ℕ) (p : ℕ × ℕ) → get_elem? l i ≡ some p → i < length l
index_below [] i p at = absurd (some-ne-none p (sym at))
index_below (x ∷ xs) zero p at = omega arith
index_below (x ∷ xs) (suc i) p at = let h = index_below xs i p at in omega arith

pub cell_is : (k : Setting) (i b c : ℕ) → get_elem? (cells_with_blocks k.plan) i ≡ some (b, c) → cell_of_word k (blocks k + i) ≡ c
cell_is k i b c at = ap (λ (p : ℕ × ℕ). p.1) (ap (λ (j : ℕ). get_or (cells_with_blocks k.plan) j (0, 0)) (omega arith) ∙ pair_index (cells_with_blocks k.plan) i (b, c) (0, 0) at)

-- where a seat is allowed a step at the key that its view names, it is allowed it
pub at_own : (key z : Setting) (role : Role) (slots id word : ℕ) (carried : List (ℕ × ℕ)) (f : ℕ → ℕ) (then : ℕ → Me ℕ View → Type 0)
    → ((k : Setting) → HasSetting k z role → z ≡ k)
    → ((s : State ℕ View) (r : IsConsistentTable z s) → get_elem? s.views id ≡ some (view_of z role)
    → (w : View) × (a : Act ℕ) × Valid s.homes carried a × IsConsistentTable z (stepped s word (f (get_or s.words word 0)) id carried w a) × then (get_or s.words word 0) (w, carried_after carried a))
    → Allows (IsConsistentTable key) slots id (view_of z role, carried) word f then
at_own key z role slots id word carried f then of go s r deep at low =
    let same : z ≡ key = of key (r.settings id (view_of z role) at) in
    let back : Setting → Type 0 = λ y. IsConsistentTable y s → (w : View) × (a : Act ℕ) × Valid s.homes carried a × IsConsistentTable y (stepped s word (f (get_or s.words word 0)) id carried w a) × then (get_or s.words word 0) (w, carried_after carried a) in
    subst back same (λ own. go s own at) r

store_cells : (k : Setting) (s : State ℕ View) (r : IsConsistentTable k s) (b i c x : ℕ) (v : ℤ) → get_elem? (cells_with_blocks k.plan) i ≡ some (b, c) → cast_signed w64 x ≡ v → (j : ℕ) (p : ℕ × ℕ) → get_elem? (cells_with_blocks k.plan) j ≡ some p
    → cast_signed w64 (get_or (set s.words (blocks k + i) x) (blocks k + j) 0) ≡ content k (put r.logs b (r.logs b ++ Store c v ∷ []) p.0) p.1
store_cells k s r b i c x v pair is j p at =
    let L : List LogEntry = r.logs b ++ Store c v ∷ [] in
    let wide = r.wide in
    let inside : c < length k.entry = pair_inside k.plan (length k.entry) r.apart i (b, c) pair in
    let here : blocks k + i < length s.words = omega (arith, index_below (cells_with_blocks k.plan) i (b, c) pair) in
    let grown : after (events L) k.entry ≡ set (after (events (r.logs b)) k.entry) c v = after-append (r.logs b) (Store c v) k.entry in
    dite (ℕ_discrete j i)
    (λ e. let same : p ≡ (b, c) = some-injective p (b, c) (sym at ∙ (ap (get_elem? (cells_with_blocks k.plan)) e ∙ pair)) in
    ap (cast_signed w64) (ap (λ (q : ℕ). get_or (set s.words (blocks k + i) x) (blocks k + q) 0) e ∙ get_or-set_same s.words (blocks k + i) x 0 here) ∙ is
    ∙ sym (ap (λ (q : ℕ × ℕ). content k (put r.logs b L q.0) q.1) same ∙ (ap (λ (l : List LogEntry). content k l c) (put_here r.logs b L)
    ∙ (ap (λ (m : List ℤ). get_or m c (pos 0)) grown ∙ get_or-set_same (after (events (r.logs b)) k.entry) c v (pos 0) (subst (λ (q : ℕ). c < q) (sym (length-after (r.logs b) k.entry)) inside)))))
    (λ ne. ap (cast_signed w64) (get_or-set_other s.words (blocks k + i) (blocks k + j) x 0 (λ e. ne (omega arith))) ∙ (r.cells j p at ∙ sym (dite (ℕ_discrete p.0 b)
    (λ mine. let other : p.1 ≢ c = λ e. ne (pair_once k.plan (length k.entry) r.apart j i p (b, c) at pair e) in
    ap (λ (l : List LogEntry). content k l p.1) (ap (put r.logs b L) mine ∙ put_here r.logs b L)
    ∙ (ap (λ (m : List ℤ). get_or m p.1 (pos 0)) grown ∙ (get_or-set_other (after (events (r.logs b)) k.entry) c p.1 v (pos 0) other ∙ ap (λ (q : ℕ). content k (r.logs q) p.1) (sym mine))))
    (λ not. ap (λ (l : List LogEntry). content k l p.1) (put_else r.logs b L p.0 not)))))

pub stores : (key z : Setting) (slots id b i c x : ℕ) (log : List LogEntry) (carried : List (ℕ × ℕ)) → get_elem? (cells_with_blocks z.plan) i ≡ some (b, c)
    → Allows (IsConsistentTable key) slots id (lane_view z b log, carried) (blocks z + i) (λ _. x) (λ _. IsStore (step slots (blocks z + i) x 0 none) (lane_view z b log, carried) x)
stores key z slots id b i c x log carried pair =
    at_own key z (Lane b log) slots id (blocks z + i) carried (λ _. x) (λ _. IsStore (step slots (blocks z + i) x 0 none) (lane_view z b log, carried) x) (λ k h. h)
    (λ s r at. let e : LogEntry = Store (cell_of_word z (blocks z + i)) (cast_signed w64 x) in
    let mine = r.seats id (lane_view z b log) at in
    let cell : cell_of_word z (blocks z + i) ≡ c = cell_is z i b c pair in (
      lane_view z b (log ++ e ∷ []),
      keeps,
      tt,
      lane_step z s r id b log (log ++ e ∷ []) (set s.words (blocks z + i) x) at (length-set s.words (blocks z + i) x)
          (λ j p is. store_cells z s r b i c x (cast_signed w64 x) pair refl j p is
          ∙ (λ t. content z (put r.logs b (mine.2 t ++ Store (sym cell t) (cast_signed w64 x) ∷ []) p.0) p.1))
          (λ q l. get_or-set_other s.words (blocks z + i) q x 0 (λ e. omega arith)),
      refl,
    ))

pub polls : (key z : Setting) (slots id b : ℕ) (log : List LogEntry) (carried : List (ℕ × ℕ))
    → Allows (IsConsistentTable key) slots id (lane_view z b log, carried) b (λ n. n) (IsPoll (step slots b 0 0 none) (lane_view z b log, carried))
polls key z slots id b log carried =
    at_own key z (Lane b log) slots id b carried (λ n. n) (IsPoll (step slots b 0 0 none) (lane_view z b log, carried)) (λ k h. h)
    (λ s r at. let n : ℕ = get_or s.words b 0 in let mine = r.seats id (lane_view z b log) at in let f = r.flags b mine.0 in (
      lane_view z b (log ++ Turn n ∷ []),
      keeps,
      tt,
      quiet_step z s r id b b log (Turn n) (λ m. refl) at,
      (refl, f),
    ))

pub loads : (key z : Setting) (slots id b i c : ℕ) (log : List LogEntry) (carried : List (ℕ × ℕ)) → get_elem? (cells_with_blocks z.plan) i ≡ some (b, c)
    → Allows (IsConsistentTable key) slots id (lane_view z b log, carried) (blocks z + i) (λ n. n) (IsLoad (step slots (blocks z + i) 0 0 none) (lane_view z b log, carried))
loads key z slots id b i c log carried pair =
    at_own key z (Lane b log) slots id (blocks z + i) carried (λ n. n) (IsLoad (step slots (blocks z + i) 0 0 none) (lane_view z b log, carried)) (λ k h. h)
    (λ s r at. let e : LogEntry = Load (cell_of_word z (blocks z + i)) (cast_signed w64 (get_or s.words (blocks z + i) 0)) in
    let mine = r.seats id (lane_view z b log) at in (
      lane_view z b (log ++ e ∷ []),
      keeps,
      tt,
      quiet_step z s r id b (blocks z + i) log e (λ m. refl) at,
      (refl, r.cells i (b, c) pair ∙ (ap (λ (l : List LogEntry). content z l c) mine.2 ∙ ap (content z log) (sym (cell_is z i b c pair)))),
    ))
