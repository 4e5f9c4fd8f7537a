-- What the program that unpacks PackBits writes at its end.
use Rattle.std.proofs.Common.{◌≡◌, ◌≢◌, ◌⊎◌, ℕ, zero, suc, ◌+◌, ◌<◌, ◌≤◌, List, [], ◌∷◌, ◌++◌, length, replicate, drop, ℤ, pos, refl, ap, sym, ◌∙◌, subst, arith, append_assoc, append-nil, length-append, get_or-set_same, get_or-set_other}
use Rattle.std.specs.Prelude.{◌&&◌, if◌then◌else◌, slice_index, slice_index_or}
use Rattle.std.proofs.lemmas.Bool.{lt-ltb}
use Rattle.std.proofs.lemmas.List.{length-set, length-replicate}
use Rattle.spf_ast_lemmas.proofs.Members.{cases}
use Rattle.spf_ast.specs.Event.{word_at}
use Rattle.spf_ast.specs.Interaction.{Onward, State, Value, Answer}
use Rattle.spf_ast.specs.Plain.{plain_answer, plain_memory}
use Rattle.spf_ast.specs.Syntax.{Expression, Local, Len, Input, Load, Emit, For, Block, end}
use Rattle.spf_ast.specs.Meaning.{Environment, block_means, statement_means, extent_in, emits, max_output, traps}
use Rattle.spf_ast.specs.declared.outcome.TrapKind.TheVariants as trap
use Rattle.spf_ast_laws.proofs.Plainly.{Comes, comes-then}
use Rattle.spf_apps_programs.specs.Writing.{number, only}
use Rattle.spf_apps_programs.specs.PackBits.{output}
use Rattle.spf_apps_laws.proofs.Bytes.{times_of, read_on}
use Rattle.spf_apps_laws.proofs.Indices.{left_at, times_at, times_before, written_before, times_inside, times_count, written_on}
use Rattle.spf_apps_laws.proofs.Blocks.{Runs}
use Rattle.spf_apps_laws.proofs.Steps.{Gives, gives-number, gives-local, gives-len, gives-input, gives-load, with_slot, Reaches, reached, reaches-on, reaches-end, reaches-for, for-reaches, comes-only}

pub comes-emit : (g : Environment) (line : ℕ) (e : Expression) (s : State) (m : List ℤ) (b : ℕ) → Gives g line e s m (pos b) → b < 256 → length s.output < max_output → Comes (statement_means g line (Emit e)) s m (Value Onward (record s { output = s.output ++ b ∷ [] })) m
comes-emit g line e s m b p small room = comes-then (emits line) p put
  where
    put : Comes (emits line (pos b)) s m (Value Onward (record s { output = s.output ++ b ∷ [] })) m
    put = record {
      answer = λ i. plain_answer (if lt-ltb b 256 small i && lt-ltb (length s.output) max_output room i then Answer (Value Onward (record s { output = s.output ++ b ∷ [] })) else traps trap.Emit line s) m;
      memory = λ i. plain_memory (if lt-ltb b 256 small i && lt-ltb (length s.output) max_output room i then Answer (Value Onward (record s { output = s.output ++ b ∷ [] })) else traps trap.Emit line s) m;
    }

-- the cell of an index that was read
pub times_word : (input : List ℕ) (far : ℕ) (behind : List ℤ) (p : ℕ) → p < far → slice_index_or (times_before input far ++ behind) p (pos 0) ≡ pos (times_at input p)
times_word input zero behind p h = absurd (omega (arith, h))
times_word input (suc far) behind p h =
    let whole = append_assoc (times_before input far) (pos (times_at input far) ∷ []) behind in
    ap (λ (l : List ℤ). slice_index_or l p (pos 0)) whole
    ∙ cases (below p far h)
    (λ before. times_word input far (pos (times_at input far) ∷ behind) p before)
    (λ here. ap (λ q. slice_index_or (times_before input far ++ pos (times_at input far) ∷ behind) q (pos 0)) (here ∙ sym (times_count input far)) ∙ at_seam (times_before input far) (pos (times_at input far)) behind ∙ ap (λ q. pos (times_at input q)) (sym here))
  where
    below : (k n : ℕ) → k < suc n → (k < n) ⊎ (k ≡ n)
    below k n l = grind (arith, l)

    at_seam : (before : List ℤ) (v : ℤ) (more : List ℤ) → slice_index_or (before ++ v ∷ more) (length before) (pos 0) ≡ v
    at_seam [] v more = refl
    at_seam (x ∷ before) v more = at_seam before v more

-- ---- the byte at an index, as often as it is written

pub record Repeats (g : Environment) (cells : List ℤ) (p n : ℕ) (s : State) (m : List ℤ) : Type 0 where
  pub output_is : s.output ≡ written_before g.input p ++ replicate n (slice_index g.input p)
  pub memory_is : m ≡ cells
  pub slots_are : length s.slots ≡ 7
  pub index_is : slice_index_or s.slots 5 (pos 0) ≡ pos p

more_repeated : (before : List ℕ) (n b : ℕ) → (before ++ replicate n b) ++ b ∷ [] ≡ before ++ replicate (suc n) b
more_repeated before n b = append_assoc before (replicate n b) (b ∷ []) ∙ ap (λ l. before ++ l) (ends n)
  where
    ends : (k : ℕ) → replicate k b ++ b ∷ [] ≡ replicate (suc k) b
    ends zero = refl
    ends (suc k) = ap (λ l. b ∷ l) (ends k)

abbrev pub emitted : Block
emitted = only 31 (Emit (Input (Local 5)))

pub emit-turn : (g : Environment) (size : ℕ) (cells : List ℤ) (p n : ℕ) (s : State) (m : List ℤ) → Runs g size → p < length g.input → length (written_before g.input p) + n < max_output → Repeats g cells p n s m → Reaches (block_means g emitted) (Repeats g cells p (suc n)) (with_slot 6 (pos n) s) m
emit-turn g size cells p n s m d there room h =
    let b = slice_index g.input p in
    let t = with_slot 6 (pos n) s in
    let other : 5 ≢ 6 = omega arith in
    let index : slice_index_or t.slots 5 (pos 0) ≡ pos p = get_or-set_other s.slots 6 5 (pos n) (pos 0) other ∙ h.index_is in
    let long : length s.output < max_output = omega (arith, room, ap (λ (l : List ℕ). length l) h.output_is, length-append (written_before g.input p) (replicate n b), length-replicate n b) in
    reached (block_means g emitted) (Repeats g cells p (suc n)) t (record t { output = t.output ++ b ∷ [] }) m m
    (comes-only g 31 (Emit (Input (Local 5))) t (record t { output = t.output ++ b ∷ [] }) m m
    (comes-emit g 31 (Input (Local 5)) t m b (gives-input g 31 (Local 5) t m p (gives-local g 31 5 t m (pos p) index) there) (d.bytes p) long))
    (record {
      output_is = ap (λ l. l ++ b ∷ []) h.output_is ∙ more_repeated (written_before g.input p) n b;
      memory_is = h.memory_is;
      slots_are = length-set s.slots 6 (pos n) ∙ h.slots_are;
      index_is = index;
    })

-- ---- all indices

-- the bytes before an index were written
pub record Written (g : Environment) (cells : List ℤ) (p : ℕ) (s : State) (m : List ℤ) : Type 0 where
  pub output_is : s.output ≡ written_before g.input p
  pub memory_is : m ≡ cells
  pub slots_are : length s.slots ≡ 7

abbrev pub repeated : Block
repeated = only 30 (For 6 (number 0) (Load 0 (Local 5)) emitted)

-- nothing that is written before an index goes beyond the whole
written_within : (input : List ℕ) (p : ℕ) → p ≤ length input → length (written_before input p) ≤ length (read_on (pos 0) input)
written_within input p h =
    omega (arith, length-append (written_before input p) (read_on (left_at input p) (drop p input)), ap (λ (l : List ℕ). length l) (written_on input p h))

index-written : (g : Environment) (size far p : ℕ) (behind : List ℤ) (s : State) (m : List ℤ) → Runs g size → p < length g.input → length g.input ≤ far → length (read_on (pos 0) g.input) ≤ max_output → Written g (times_before g.input far ++ behind) p s m → Reaches (block_means g repeated) (Written g (times_before g.input far ++ behind) (suc p)) (with_slot 5 (pos p) s) m
index-written g size far p behind s m d there enough limit h =
    let input = g.input in
    let cells = times_before input far ++ behind in
    let times = times_of (left_at input p) in
    let b = slice_index input p in
    let t = with_slot 5 (pos p) s in
    let inside : 5 < length s.slots = omega (arith, h.slots_are) in
    let index : slice_index_or t.slots 5 (pos 0) ≡ pos p = get_or-set_same s.slots 5 (pos p) (pos 0) inside in
    let base = (extent_in g.extents 0).0 in
    let cell : base + p ≡ p = omega (arith, d.first) in
    let word : word_at m (base + p) ≡ pos (0 + times) =
    (λ i. word_at (h.memory_is i) (cell i)) ∙ times_word input far behind p (omega (arith, there, enough)) ∙ ap pos (times_inside input p there) ∙ ap pos (let e : times ≡ 0 + times = omega arith in e) in
    let within = written_within input (suc p) (omega (arith, there)) in
    let sizes = length-append (written_before input p) (replicate times b) in
    let begun : Repeats g cells p 0 t m = record { output_is = h.output_is ∙ sym (append-nil (written_before input p)); memory_is = h.memory_is; slots_are = length-set s.slots 5 (pos p) ∙ h.slots_are; index_is = index } in
    reaches-on g 30 (For 6 (number 0) (Load 0 (Local 5)) emitted) end (Repeats g cells p (0 + times)) (Written g cells (suc p)) t m
    (reaches-for g 30 6 (number 0) (Load 0 (Local 5)) emitted (Repeats g cells p (0 + times)) t m 0 times (gives-number g 30 (pos 0) t m)
    (subst (λ v. Gives g 30 (Load 0 (Local 5)) t m v) word (gives-load g 30 0 (Local 5) t m p (gives-local g 30 5 t m (pos p) index) (omega (arith, there, d.room))))
    (for-reaches 6 (block_means g emitted) (Repeats g cells p) 0 times (λ n a x low high q. emit-turn g size cells p n a x d there (omega (arith, high, within, sizes, length-replicate times b, limit)) q) t m begun))
    (λ a x q. reaches-end g (Written g cells (suc p)) a x (record { output_is = q.output_is ∙ ap (λ n. written_before input p ++ replicate n b) (let e : 0 + times ≡ times = omega arith in e); memory_is = q.memory_is; slots_are = q.slots_are }))

pub output-written : (g : Environment) (size far : ℕ) (behind : List ℤ) (s : State) (m : List ℤ) → Runs g size → length g.input ≤ far → length (read_on (pos 0) g.input) ≤ max_output → Written g (times_before g.input far ++ behind) 0 s m → Reaches (statement_means g 29 output) (Written g (times_before g.input far ++ behind) (length g.input)) s m
output-written g size far behind s m d enough limit h =
    let cells = times_before g.input far ++ behind in
    let all : 0 + length g.input ≡ length g.input = omega arith in
    subst (λ n. Reaches (statement_means g 29 output) (Written g cells n) s m) all
    (reaches-for g 29 5 (number 0) Len repeated (Written g cells (0 + length g.input)) s m 0 (length g.input) (gives-number g 29 (pos 0) s m)
    (subst (λ n. Gives g 29 Len s m (pos n)) (sym all) (gives-len g 29 s m))
    (for-reaches 5 (block_means g repeated) (Written g cells) 0 (length g.input) (λ p a x low high q. index-written g size far p behind a x d (omega (arith, high)) enough limit q) s m h))
