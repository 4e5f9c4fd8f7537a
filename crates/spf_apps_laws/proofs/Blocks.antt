-- The blocks of the program that unpacks PackBits.
use Rattle.std.proofs.Common.{◌≡◌, ◌⊎◌, ℕ, zero, suc, ◌+◌, ◌-◌, ◌*◌, ◌<◌, ◌≤◌, List, [], ◌∷◌, ◌++◌, length, replicate, ℤ, pos, negsuc, refl, ap, sym, ◌∙◌, subst, arith}
use Rattle.std.specs.Prelude.{slice_index, slice_set, slice_index_or, ◌+ℤ◌}
use Rattle.std.proofs.lemmas.Int.{ints}
use Rattle.std.proofs.Math.Nat.{mul-suc}
use Rattle.spf_ast_lemmas.proofs.Members.{cases}
use Rattle.spf_ast.specs.declared.syntax.Op.TheVariants.{Add, Mul}
use Rattle.spf_ast.specs.Word.{exact}
use Rattle.spf_ast.specs.Interaction.{Flow, State, Meaning, ◌>>◌}
use Rattle.spf_ast.specs.Syntax.{argument, no_more, Local, Len, Compare, Let, Fill, If, end, on_line}
use Rattle.spf_ast.specs.declared.syntax.Test.TheVariants.{Lt}
use Rattle.spf_ast.specs.Meaning.{arguments_mean, Environment, block_means, statement_means, extent_in}
use Rattle.spf_ast_laws.proofs.Plainly.{comes-then}
use Rattle.spf_apps_programs.specs.Writing.{number, only}
use Rattle.spf_apps_programs.specs.PackBits.{block_begin, block_end, block_bytes, one_byte, body}
use Rattle.spf_apps_laws.proofs.Bytes.{times_of}
use Rattle.spf_apps_laws.proofs.Indices.{left_at, times_before, memory_at, left_inside, left_outside, times_inside, times_outside, times_count, left_small, set_next, keep_next, zero_behind}
use Rattle.spf_apps_laws.proofs.Body.{at, stored, index-inside, index-outside}
use Rattle.spf_apps_laws.proofs.Steps.{gives-row, Gives, gives-number, gives-local, gives-binary, comes-let, comes-fill, zeros-stay, with_slot, Reaches, Yields, reached, reaches-on, reaches-end, reaches-for, for-reaches, word-ok}

-- where the program runs: its one array is as long as the input and a block, and its cells are few
pub record Runs (g : Environment) (size : ℕ) : Type 0 where
  pub first : (extent_in g.extents 0).0 ≡ 0
  pub room : (extent_in g.extents 0).1 ≡ length g.input + size
  pub bytes : (p : ℕ) → slice_index g.input p < 256
  pub some : 1 ≤ size
  pub few : length g.input + size ≤ 4194304

-- ---- indices

-- the indices before this one were read
record At (g : Environment) (size p : ℕ) (s : State) (m : List ℤ) : Type 0 where
  carried : ℤ
  number : ℤ
  index : ℤ
  byte : ℤ
  out : ℤ
  turn : ℤ
  s_is : s ≡ at carried number (left_at g.input p) index byte out turn
  m_is : m ≡ memory_at g.input (length g.input + size) p

-- a byte's cell, among zeros
stored-next : (before : List ℤ) (r p : ℕ) (left : ℤ) → length before ≡ p → stored left p (before ++ replicate (suc r) (pos 0)) ≡ (before ++ pos (times_of left) ∷ []) ++ replicate r (pos 0)
stored-next before r p (pos zero) e = keep_next before r
stored-next before r p (pos (suc n)) e = ap (λ q. slice_set (before ++ replicate (suc r) (pos 0)) q (pos 1)) (sym e) ∙ set_next before r (pos 1)
stored-next before r p (negsuc n) e = ap (λ q. slice_set (before ++ replicate (suc r) (pos 0)) q (pos (suc n))) (sym e) ∙ set_next before r (pos (suc n))

abbrev index_form : Environment → Meaning Flow
index_form g = block_means g (only 7 (If (Compare Lt (Local 3) Len) one_byte end))

inside-turn : (g : Environment) (size p : ℕ) (c k i b x y : ℤ) → Runs g size → p < length g.input → Reaches (index_form g) (At g size (suc p)) (at c k (left_at g.input p) (pos p) b x y) (memory_at g.input (length g.input + size) p)
inside-turn g size p c k i b x y d there =
    let input = g.input in
    let all = length input + size in
    let left = left_at input p in
    let byte = slice_index input p in
    let many : all - p ≡ suc (all - suc p) = omega (arith, there) in
    let room : p < (extent_in g.extents 0).1 = omega (arith, there, d.room) in
    let memory = ap (λ n. stored left p (times_before input p ++ replicate n (pos 0))) many
    ∙ stored-next (times_before input p) (all - suc p) p left (times_count input p)
    ∙ ap (λ n. (times_before input p ++ pos n ∷ []) ++ replicate (all - suc p) (pos 0)) (sym (times_inside input p there)) in
    reached (index_form g) (At g size (suc p)) (at c k left (pos p) b x y) _ (memory_at input all p) _
    (index-inside g c k left b x y p (memory_at input all p) d.first room there (d.bytes p) (left_small input d.bytes p))
    (record { carried = c; number = k; index = pos p; byte = pos byte; out = x; turn = y; s_is = ap (λ l. at c k l (pos p) (pos byte) x y) (sym (left_inside input p there)); m_is = memory })

outside-turn : (g : Environment) (size p : ℕ) (c k i b x y : ℤ) → p < length g.input + size → length g.input ≤ p → Reaches (index_form g) (At g size (suc p)) (at c k (left_at g.input p) (pos p) b x y) (memory_at g.input (length g.input + size) p)
outside-turn g size p c k i b x y there out =
    let input = g.input in
    let all = length input + size in
    let left = left_at input p in
    let many : all - p ≡ suc (all - suc p) = omega (arith, there) in
    let memory = ap (λ n. times_before input p ++ replicate n (pos 0)) many
    ∙ keep_next (times_before input p) (all - suc p)
    ∙ ap (λ n. (times_before input p ++ pos n ∷ []) ++ replicate (all - suc p) (pos 0)) (sym (times_outside input p out)) in
    reached (index_form g) (At g size (suc p)) (at c k left (pos p) b x y) _ (memory_at input all p) _
    (index-outside g c k left b x y p (memory_at input all p) out)
    (record { carried = c; number = k; index = pos p; byte = b; out = x; turn = y; s_is = ap (λ l. at c k l (pos p) b x y) (sym (left_outside input p out)); m_is = memory })

pub in_or_out : (p n : ℕ) → (p < n) ⊎ (n ≤ p)
in_or_out p n = grind arith

index-turn : (g : Environment) (size p : ℕ) (s : State) (m : List ℤ) → Runs g size → p < length g.input + size → At g size p s m → Reaches (index_form g) (At g size (suc p)) (with_slot 3 (pos p) s) m
index-turn g size p s m d there h =
    subst (λ (z : State × List ℤ). Reaches (index_form g) (At g size (suc p)) (with_slot 3 (pos p) z.0) z.1) (λ i. (sym h.s_is i, sym h.m_is i))
    (cases (in_or_out p (length g.input))
    (λ inside. inside-turn g size p h.carried h.number h.index h.byte h.out h.turn d inside)
    (λ outside. outside-turn g size p h.carried h.number h.index h.byte h.out h.turn there outside))

-- ---- a block

-- the blocks before this one were run
pub record BlockAt (g : Environment) (size k : ℕ) (s : State) (m : List ℤ) : Type 0 where
  pub carried : ℤ
  pub number : ℤ
  pub left : ℤ
  pub index : ℤ
  pub byte : ℤ
  pub out : ℤ
  pub turn : ℤ
  pub s_is : s ≡ at carried number left index byte out turn
  pub m_is : m ≡ memory_at g.input (length g.input + size) (size * k)

-- the block's ends
pub gives-begin : (g : Environment) (line size k : ℕ) (s : State) (m : List ℤ) → slice_index_or s.slots 1 (pos 0) ≡ pos k → size * k ≤ 4194304 → Gives g line (block_begin size) s m (pos (size * k))
gives-begin g line size k s m e h =
    gives-binary g line Mul (number size) (Local 1) s m (pos size) (pos k) (pos (size * k)) (gives-number g line (pos size) s m) (gives-local g line 1 s m (pos k) e)
    (word-ok (size * k) (omega (arith, h)))

pub gives-end : (g : Environment) (line size k : ℕ) (s : State) (m : List ℤ) → slice_index_or s.slots 1 (pos 0) ≡ pos k → size * k + size ≤ 4194304 → Gives g line (block_end size) s m (pos (size * k + size))
gives-end g line size k s m e h =
    let sum : pos (size * k) +ℤ pos size ≡ pos (size * k + size) = omega (arith, ints) in
    gives-binary g line Add (block_begin size) (number size) s m (pos (size * k)) (pos size) (pos (size * k + size)) (gives-begin g line size k s m e (omega (arith, h))) (gives-number g line (pos size) s m)
    (ap exact sum ∙ word-ok (size * k + size) (omega (arith, h)))

-- a block of the file
pub block-yields : (g : Environment) (size k : ℕ) → Runs g size → size * k < length g.input → (s : State) (m : List ℤ) → BlockAt g size k s m
    → Yields (block_means g (body size) >> arguments_mean g 27 (argument (Local 2) no_more)) (left_at g.input (size * suc k)) (BlockAt g size (suc k)) (with_slot 0 (left_at g.input (size * k)) (with_slot 1 (pos k) s)) m
block-yields g size k d there s m h =
    let input = g.input in
    let all = length input + size in
    let low = size * k in
    let v = left_at input low in
    let t = with_slot 0 v (with_slot 1 (pos k) s) in
    let fits : low + size ≤ 4194304 = omega (arith, there, d.few) in
    let t_is = ap (λ (z : State). with_slot 0 v (with_slot 1 (pos k) z)) h.s_is in
    let block_is : slice_index_or t.slots 1 (pos 0) ≡ pos k = ap (λ (z : State). slice_index_or z.slots 1 (pos 0)) t_is in
    let u = with_slot 2 v t in
    let u_is = ap (λ (z : State). with_slot 2 v z) t_is in
    let block_still : slice_index_or u.slots 1 (pos 0) ≡ pos k = ap (λ (z : State). slice_index_or z.slots 1 (pos 0)) u_is in
    let zero_there = λ (c : ℕ) (n : (extent_in g.extents 0).0 + low ≤ c). ap (λ (l : List ℤ). slice_index_or l c (pos 0)) h.m_is ∙ zero_behind (times_before input low) (all - low) c (omega (arith, n, d.first, times_count input low)) in
    let begun : At g size low u m = record { carried = v; number = pos k; index = h.index; byte = h.byte; out = h.out; turn = h.turn; s_is = u_is; m_is = h.m_is } in
    let next : low + size ≡ size * suc k = omega (arith, mul-suc size k) in
    let r : Reaches (block_means g (body size)) (At g size (low + size)) t m =
    reaches-on g 4 (Fill 0 (block_begin size) (block_end size) (number 0)) (on_line 5 (Let 2 (Local 0)) (only 6 (block_bytes size))) (λ a b. (a ≡ t) × (b ≡ m)) (At g size (low + size)) t m
    (reached (statement_means g 4 (Fill 0 (block_begin size) (block_end size) (number 0))) (λ a b. (a ≡ t) × (b ≡ m)) t t m m
    (comes-fill g 4 0 (block_begin size) (block_end size) (number 0) t m m low (low + size) (pos 0) (gives-begin g 4 size k t m block_is (omega (arith, fits))) (gives-end g 4 size k t m block_is fits) (gives-number g 4 (pos 0) t m) (omega arith) (omega (arith, there, d.room))
    (zeros-stay ((extent_in g.extents 0).0 + low) ((low + size) - low) t m zero_there)) (refl, refl))
    (λ a b e. subst (λ (z : State × List ℤ). Reaches (block_means g (on_line 5 (Let 2 (Local 0)) (only 6 (block_bytes size)))) (At g size (low + size)) z.0 z.1) (λ i. (sym e.0 i, sym e.1 i))
    (reaches-on g 5 (Let 2 (Local 0)) (only 6 (block_bytes size)) (λ a b. (a ≡ u) × (b ≡ m)) (At g size (low + size)) t m
    (reached (statement_means g 5 (Let 2 (Local 0))) (λ a b. (a ≡ u) × (b ≡ m)) t u m m (comes-let g 5 2 (Local 0) t m v (gives-local g 5 0 t m v (ap (λ (z : State). slice_index_or z.slots 0 (pos 0)) t_is))) (refl, refl))
    (λ a b e. subst (λ (z : State × List ℤ). Reaches (block_means g (only 6 (block_bytes size))) (At g size (low + size)) z.0 z.1) (λ i. (sym e.0 i, sym e.1 i))
    (reaches-on g 6 (block_bytes size) end (At g size (low + size)) (At g size (low + size)) u m
    (reaches-for g 6 3 (block_begin size) (block_end size) (only 7 (If (Compare Lt (Local 3) Len) one_byte end)) (At g size (low + size)) u m low size (gives-begin g 6 size k u m block_still (omega (arith, fits))) (gives-end g 6 size k u m block_still fits)
    (for-reaches 3 (index_form g) (At g size) low size (λ p a b from to q. index-turn g size p a b d (omega (arith, to, there)) q) u m begun))
    (λ a b q. reaches-end g (At g size (low + size)) a b q))))) in
    let at_end = r.holds in
    record {
      state = r.state;
      memory = r.memory;
      comes = comes-then (λ _. arguments_mean g 27 (argument (Local 2) no_more)) r.comes (gives-row g 27 (Local 2) r.state r.memory (left_at input (size * suc k)) (gives-local g 27 2 r.state r.memory (left_at input (size * suc k)) (ap (λ (z : State). slice_index_or z.slots 2 (pos 0)) at_end.s_is ∙ ap (left_at input) next)));
      holds = record {
        carried = at_end.carried;
        number = at_end.number;
        left = left_at input (low + size);
        index = at_end.index;
        byte = at_end.byte;
        out = at_end.out;
        turn = at_end.turn;
        s_is = at_end.s_is;
        m_is = at_end.m_is ∙ ap (memory_at input all) next;
      };
    }
