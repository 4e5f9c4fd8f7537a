-- The blocks of the program that runs a machine.
use Rattle.std.proofs.Common.{◌≡◌, ℕ, suc, ◌+◌, ◌-◌, ◌*◌, ◌<◌, ◌≤◌, List, [], ◌∷◌, ◌++◌, length, replicate, ℤ, pos, refl, ap, sym, ◌∙◌, subst, arith}
use Rattle.std.specs.Prelude.{slice_index, slice_set, slice_index_or}
use Rattle.std.proofs.Math.Nat.{mul-suc}
use Rattle.spf_ast_lemmas.proofs.Members.{cases}
use Rattle.spf_ast.specs.Interaction.{Flow, State, Meaning, ◌>>◌}
use Rattle.spf_ast.specs.Syntax.{argument, no_more, Local, Let, Fill, For, end, on_line}
use Rattle.spf_ast.specs.Meaning.{arguments_mean, Environment, block_means, statement_means, extent_in}
use Rattle.spf_ast_laws.proofs.Plainly.{comes-then}
use Rattle.spf_apps_programs.specs.Writing.{number, only}
use Rattle.spf_apps_programs.specs.Lexer.{block_begin, block_end, one_byte, body}
use Rattle.spf_apps_formats.specs.Tokens.{next_state, mark}
use Rattle.spf_apps_laws.proofs.LexIndices.{state_at, marks_before, marks_at, state_inside, state_outside, mark_inside, mark_outside, marks_count, state_below, entry_number}
use Rattle.spf_apps_laws.proofs.LexBody.{Lexes, at, index-inside, index-outside}
use Rattle.spf_apps_laws.proofs.Indices.{set_next, keep_next, zero_behind}
use Rattle.spf_apps_laws.proofs.Blocks.{gives-begin, gives-end, in_or_out}
use Rattle.spf_apps_laws.proofs.Steps.{gives-row, gives-number, gives-local, comes-let, comes-fill, zeros-stay, with_slot, Reaches, Yields, reached, reaches-on, reaches-end, reaches-for, for-reaches}

-- how many cells there are
abbrev pub cells_for : (size : ℕ) (machine content : List ℕ) → ℕ
cells_for size machine content = (length machine + length content) + size

-- ---- indices

-- the indices before this one were read
record At (size : ℕ) (machine content : List ℕ) (p : ℕ) (s : State) (m : List ℤ) : Type 0 where
  carried : ℤ
  number : ℤ
  index : ℤ
  entry : ℤ
  out : ℤ
  s_is : s ≡ at carried number (pos (state_at machine content p)) index entry out
  m_is : m ≡ marks_at machine content (cells_for size machine content) p

abbrev index_form : Environment → ℕ → ℕ → Meaning Flow
index_form g classes machine = block_means g (one_byte classes machine)

inside-turn : (g : Environment) (size states classes : ℕ) (machine content : List ℕ) → Lexes g size states classes machine content → (p : ℕ) (c k e x : ℤ) → p < length content → Reaches (index_form g classes (length machine)) (At size machine content (suc p)) (at c k (pos (state_at machine content p)) (pos p) e x) (marks_at machine content (cells_for size machine content) p)
inside-turn g size states classes machine content d p c k e x there =
    let all = cells_for size machine content in
    let q = state_at machine content p in
    let b = slice_index content p in
    let many : all - p ≡ suc (all - suc p) = omega (arith, there) in
    let before = marks_before machine content p in
    let memory = ap (λ n. slice_set (before ++ replicate n (pos 0)) p (pos (mark machine q b))) many
    ∙ ap (λ n. slice_set (before ++ replicate (suc (all - suc p)) (pos 0)) n (pos (mark machine q b))) (sym (marks_count machine content p))
    ∙ set_next before (all - suc p) (pos (mark machine q b))
    ∙ ap (λ n. (before ++ pos n ∷ []) ++ replicate (all - suc p) (pos 0)) (sym (mark_inside machine content p there)) in
    reached (index_form g classes (length machine)) (At size machine content (suc p)) (at c k (pos q) (pos p) e x) (at c k (pos (next_state machine q b)) (pos p) (pos (262 + 2 * entry_number machine classes q b)) x) (marks_at machine content all p) (slice_set (marks_at machine content all p) p (pos (mark machine q b)))
    (index-inside g size states classes machine content d c k e x q p (marks_at machine content all p) (state_below machine content states classes d.lex1 d.content_bytes p) there)
    (record { carried = c; number = k; index = pos p; entry = pos (262 + 2 * entry_number machine classes q b); out = x; s_is = ap (λ n. at c k (pos n) (pos p) (pos (262 + 2 * entry_number machine classes q b)) x) (sym (state_inside machine content p there)); m_is = memory })

outside-turn : (g : Environment) (size states classes : ℕ) (machine content : List ℕ) → Lexes g size states classes machine content → (p : ℕ) (c k e x : ℤ) → p < cells_for size machine content → length content ≤ p → Reaches (index_form g classes (length machine)) (At size machine content (suc p)) (at c k (pos (state_at machine content p)) (pos p) e x) (marks_at machine content (cells_for size machine content) p)
outside-turn g size states classes machine content d p c k e x there out =
    let all = cells_for size machine content in
    let q = state_at machine content p in
    let many : all - p ≡ suc (all - suc p) = omega (arith, there) in
    let before = marks_before machine content p in
    let memory = ap (λ n. before ++ replicate n (pos 0)) many
    ∙ keep_next before (all - suc p)
    ∙ ap (λ n. (before ++ pos n ∷ []) ++ replicate (all - suc p) (pos 0)) (sym (mark_outside machine content p out)) in
    reached (index_form g classes (length machine)) (At size machine content (suc p)) (at c k (pos q) (pos p) e x) (at c k (pos q) (pos p) e x) (marks_at machine content all p) (marks_at machine content all p)
    (index-outside g size states classes machine content d c k (pos q) e x p (marks_at machine content all p) out)
    (record { carried = c; number = k; index = pos p; entry = e; out = x; s_is = ap (λ n. at c k (pos n) (pos p) e x) (sym (state_outside machine content p out)); m_is = memory })

index-turn : (g : Environment) (size states classes : ℕ) (machine content : List ℕ) → Lexes g size states classes machine content → (p : ℕ) (s : State) (m : List ℤ) → p < cells_for size machine content → At size machine content p s m → Reaches (index_form g classes (length machine)) (At size machine content (suc p)) (with_slot 3 (pos p) s) m
index-turn g size states classes machine content d p s m there h =
    subst (λ (z : State × List ℤ). Reaches (index_form g classes (length machine)) (At size machine content (suc p)) (with_slot 3 (pos p) z.0) z.1) (λ i. (sym h.s_is i, sym h.m_is i))
    (cases (in_or_out p (length content))
    (λ inside. inside-turn g size states classes machine content d p h.carried h.number h.entry h.out inside)
    (λ outside. outside-turn g size states classes machine content d p h.carried h.number h.entry h.out there outside))

-- ---- a block

-- the blocks before this one were run
pub record BlockAt (size : ℕ) (machine content : List ℕ) (k : ℕ) (s : State) (m : List ℤ) : Type 0 where
  pub carried : ℤ
  pub number : ℤ
  pub state : ℤ
  pub index : ℤ
  pub entry : ℤ
  pub out : ℤ
  pub s_is : s ≡ at carried number state index entry out
  pub m_is : m ≡ marks_at machine content (cells_for size machine content) (size * k)

pub block-yields : (g : Environment) (size states classes : ℕ) (machine content : List ℕ) → Lexes g size states classes machine content → (k : ℕ) → size * k < length content → (s : State) (m : List ℤ) → BlockAt size machine content k s m
    → Yields (block_means g (body size classes (length machine)) >> arguments_mean g 20 (argument (Local 2) no_more)) (pos (state_at machine content (size * suc k))) (BlockAt size machine content (suc k)) (with_slot 0 (pos (state_at machine content (size * k))) (with_slot 1 (pos k) s)) m
block-yields g size states classes machine content d k there s m h =
    let all = cells_for size machine content in
    let low = size * k in
    let v = pos (state_at machine content low) in
    let t = with_slot 0 v (with_slot 1 (pos k) s) in
    let fits : low + size ≤ 4194304 = omega (arith, there, d.few) in
    let t_is = ap (λ (z : State). with_slot 0 v (with_slot 1 (pos k) z)) h.s_is in
    let block_is : slice_index_or t.slots 1 (pos 0) ≡ pos k = ap (λ (z : State). slice_index_or z.slots 1 (pos 0)) t_is in
    let u = with_slot 2 v t in
    let u_is = ap (λ (z : State). with_slot 2 v z) t_is in
    let block_still : slice_index_or u.slots 1 (pos 0) ≡ pos k = ap (λ (z : State). slice_index_or z.slots 1 (pos 0)) u_is in
    let zero_there = λ (c : ℕ) (n : (extent_in g.extents 0).0 + low ≤ c). ap (λ (l : List ℤ). slice_index_or l c (pos 0)) h.m_is ∙ zero_behind (marks_before machine content low) (all - low) c (omega (arith, n, d.first, marks_count machine content low)) in
    let begun : At size machine content low u m = record { carried = v; number = pos k; index = h.index; entry = h.entry; out = h.out; s_is = u_is; m_is = h.m_is } in
    let next : low + size ≡ size * suc k = omega (arith, mul-suc size k) in
    let filled = Fill 0 (block_begin size) (block_end size) (number 0) in
    let bytes = For 3 (block_begin size) (block_end size) (one_byte classes (length machine)) in
    let r : Reaches (block_means g (body size classes (length machine))) (At size machine content (low + size)) t m =
    reaches-on g 11 filled (on_line 12 (Let 2 (Local 0)) (only 13 bytes)) (λ a b. (a ≡ t) × (b ≡ m)) (At size machine content (low + size)) t m
    (reached (statement_means g 11 filled) (λ a b. (a ≡ t) × (b ≡ m)) t t m m
    (comes-fill g 11 0 (block_begin size) (block_end size) (number 0) t m m low (low + size) (pos 0) (gives-begin g 11 size k t m block_is (omega (arith, fits))) (gives-end g 11 size k t m block_is fits) (gives-number g 11 (pos 0) t m) (omega arith) (omega (arith, there, d.room))
    (zeros-stay ((extent_in g.extents 0).0 + low) ((low + size) - low) t m zero_there)) (refl, refl))
    (λ a b e. subst (λ (z : State × List ℤ). Reaches (block_means g (on_line 12 (Let 2 (Local 0)) (only 13 bytes))) (At size machine content (low + size)) z.0 z.1) (λ i. (sym e.0 i, sym e.1 i))
    (reaches-on g 12 (Let 2 (Local 0)) (only 13 bytes) (λ a b. (a ≡ u) × (b ≡ m)) (At size machine content (low + size)) t m
    (reached (statement_means g 12 (Let 2 (Local 0))) (λ a b. (a ≡ u) × (b ≡ m)) t u m m (comes-let g 12 2 (Local 0) t m v (gives-local g 12 0 t m v (ap (λ (z : State). slice_index_or z.slots 0 (pos 0)) t_is))) (refl, refl))
    (λ a b e. subst (λ (z : State × List ℤ). Reaches (block_means g (only 13 bytes)) (At size machine content (low + size)) z.0 z.1) (λ i. (sym e.0 i, sym e.1 i))
    (reaches-on g 13 bytes end (At size machine content (low + size)) (At size machine content (low + size)) u m
    (reaches-for g 13 3 (block_begin size) (block_end size) (one_byte classes (length machine)) (At size machine content (low + size)) u m low size (gives-begin g 13 size k u m block_still (omega (arith, fits))) (gives-end g 13 size k u m block_still fits)
    (for-reaches 3 (index_form g classes (length machine)) (At size machine content) low size (λ p a b from to q. index-turn g size states classes machine content d p a b (omega (arith, to, there)) q) u m begun))
    (λ a b q. reaches-end g (At size machine content (low + size)) a b q))))) in
    let at_end = r.holds in
    record {
      state = r.state;
      memory = r.memory;
      comes = comes-then (λ _. arguments_mean g 20 (argument (Local 2) no_more)) r.comes (gives-row g 20 (Local 2) r.state r.memory (pos (state_at machine content (size * suc k))) (gives-local g 20 2 r.state r.memory (pos (state_at machine content (size * suc k))) (ap (λ (z : State). slice_index_or z.slots 2 (pos 0)) at_end.s_is ∙ ap (λ n. pos (state_at machine content n)) next)));
      holds = record {
        carried = at_end.carried;
        number = at_end.number;
        state = pos (state_at machine content (low + size));
        index = at_end.index;
        entry = at_end.entry;
        out = at_end.out;
        s_is = at_end.s_is;
        m_is = at_end.m_is ∙ ap (marks_at machine content all) next;
      };
    }
