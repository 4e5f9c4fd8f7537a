-- The program that unpacks PackBits, where the output goes beyond its limit.
use Rattle.std.proofs.Common.{◌≡◌, inl, inr, ℕ, zero, suc, ◌+◌, ◌-◌, ◌*◌, ◌<◌, ◌≤◌, false, List, [], ◌∷◌, ◌++◌, length, replicate, take, drop, ℤ, pos, refl, ap, sym, ◌∙◌, subst, arith, append_assoc, append-nil, length-append, get_or-set_same, get_or-set_other}
use Rattle.std.specs.Prelude.{nat_lt, ◌&&◌, if◌then◌else◌, slice_index, slice_index_or}
use Rattle.std.specs.List.{AllByRecursion}
use Rattle.std.proofs.lemmas.Bool.{lt-ltb}
use Rattle.std.proofs.lemmas.Bool.Decides.{nat_tests}
use Rattle.std.proofs.lemmas.List.{length-set, length-replicate}
use Rattle.spf_ast_lemmas.proofs.Members.{cases}
use Rattle.spf_ast.specs.Event.{word_at}
use Rattle.spf_ast.specs.declared.outcome.Trap.{Trap}
use Rattle.spf_ast.specs.declared.outcome.TrapKind.TheVariants as trap
use Rattle.spf_ast.specs.Interaction.{unless_broken, Onward, State, Value, Trapped, Answer}
use Rattle.spf_ast.specs.Plain.{plain_answer, plain_memory}
use Rattle.spf_ast.specs.Program.{environment_of, start_of, zeros_of, cell_count_of, outcome, outcome_from, Stopped, max_cells_in}
use Rattle.spf_ast.specs.Syntax.{Local, Len, Load, For, Fold, end}
use Rattle.spf_ast.specs.Meaning.{Environment, block_means, statement_means, extent_in, emits, traps, max_output, max_blocks}
use Rattle.spf_ast_laws.proofs.Plainly.{Comes, comes-then, comes-trap}
use Rattle.spf_apps_formats.specs.PackBits.{Unpacks}
use Rattle.spf_apps_programs.specs.Laws.{IsBlockSize}
use Rattle.spf_apps_programs.specs.Writing.{number, only}
use Rattle.spf_apps_programs.specs.PackBits.{packbits_program, head, body, output}
use Rattle.spf_apps_laws.proofs.Bytes.{times_of, next_left, read_on, file_read}
use Rattle.spf_apps_laws.proofs.Indices.{left_at, times_before, memory_at, written_before, written_on, written_all, times_inside, bytes_small, drop_next}
use Rattle.spf_apps_laws.proofs.Blocks.{Runs, BlockAt, in_or_out}
use Rattle.spf_apps_laws.proofs.Output.{times_word, Repeats, Written, emit-turn, emitted, repeated}
use Rattle.spf_apps_laws.proofs.Whole.{blocks_of, blocks_enough, fold-comes, cells_are}
use Rattle.spf_apps_laws.proofs.Steps.{main-comes, below_differs, Gives, gives-number, gives-local, gives-len, gives-input, gives-load, with_slot, Halts, Goes, goes-on, for-goes, goes-for, comes-on}

abbrev full : Trap
full = record { kind = trap.Emit; line = 31 }

-- the first bytes of what the input stands for, as many as an output may have
abbrev first_bytes : List ℕ → List ℕ
first_bytes input = take max_output (read_on (pos 0) input)

take_front : (a b : List ℕ) (n : ℕ) → length a ≡ n → take n (a ++ b) ≡ a
take_front [] b zero h = refl
take_front [] b (suc n) h = absurd (omega (arith, h))
take_front (x ∷ a) b zero h = absurd (omega (arith, h))
take_front (x ∷ a) b (suc n) h = ap (λ l. x ∷ l) (take_front a b n (omega (arith, h)))

repeated_split : (n r b : ℕ) → replicate (n + r) b ≡ replicate n b ++ replicate r b
repeated_split zero r b = ap (λ k. replicate k b) (let e : 0 + r ≡ r = omega arith in e)
repeated_split (suc n) r b = ap (λ k. replicate k b) (let e : suc n + r ≡ suc (n + r) = omega arith in e) ∙ ap (λ l. b ∷ l) (repeated_split n r b)

-- what is written is a prefix of what the input stands for
written_begins : (input : List ℕ) (p n : ℕ) → p < length input → n ≤ times_of (left_at input p) → (rest : List ℕ) × (read_on (pos 0) input ≡ (written_before input p ++ replicate n (slice_index input p)) ++ rest)
written_begins input p n there few =
    let left = left_at input p in
    let b = slice_index input p in
    let before = written_before input p in
    let later = read_on (next_left left b) (drop (suc p) input) in
    let more = times_of left - n in
    let split : times_of left ≡ n + more = omega (arith, few) in (
      replicate more b ++ later,
      sym (written_on input p (omega (arith, there)))
          ∙ ap (λ l. before ++ read_on left l) (drop_next input p there)
          ∙ ap (λ k. before ++ (replicate k b ++ later)) split
          ∙ ap (λ l. before ++ (l ++ later)) (repeated_split n more b)
          ∙ ap (λ l. before ++ l) (append_assoc (replicate n b) (replicate more b) later)
          ∙ sym (append_assoc before (replicate n b) (replicate more b ++ later)),
    )

full_is : (input out : List ℕ) (p n : ℕ) → p < length input → n ≤ times_of (left_at input p) → out ≡ written_before input p ++ replicate n (slice_index input p) → length out ≡ max_output → out ≡ first_bytes input
full_is input out p n there few is long =
    let begun = written_begins input p n there few in
    is ∙ sym (take_front (written_before input p ++ replicate n (slice_index input p)) begun.0 max_output (ap (λ (l : List ℕ). length l) (sym is) ∙ long)) ∙ ap (take max_output) (sym begun.1)

-- ---- a byte

record RepeatsWithin (g : Environment) (cells : List ℤ) (p n : ℕ) (s : State) (m : List ℤ) : Type 0 where
  repeats : Repeats g cells p n s m
  within : length s.output ≤ max_output

record WrittenWithin (g : Environment) (cells : List ℤ) (p : ℕ) (s : State) (m : List ℤ) : Type 0 where
  written : Written g cells p s m
  within : length s.output ≤ max_output

no_room : (n most : ℕ) → most ≤ n → nat_lt n most ≡ false
no_room n most h = grind (arith, nat_tests, h)

-- a byte for which the output has no room
traps_full : (b : ℕ) (s : State) (m : List ℤ) → b < 256 → max_output ≤ length s.output → Comes (emits 31 (pos b)) s m (Trapped full s.output) m
traps_full b s m small many = record {
  answer = λ i. plain_answer (if lt-ltb b 256 small i && no_room (length s.output) max_output many i then Answer (Value Onward (record s { output = s.output ++ b ∷ [] })) else traps trap.Emit 31 s) m;
  memory = λ i. plain_memory (if lt-ltb b 256 small i && no_room (length s.output) max_output many i then Answer (Value Onward (record s { output = s.output ++ b ∷ [] })) else traps trap.Emit 31 s) m;
}

emit-goes : (g : Environment) (size : ℕ) (cells : List ℤ) (p n : ℕ) (s : State) (m : List ℤ) → Runs g size → p < length g.input → n < times_of (left_at g.input p) → RepeatsWithin g cells p n s m
    → Goes (block_means g emitted) (RepeatsWithin g cells p (suc n)) full (first_bytes g.input) (with_slot 6 (pos n) s) m
emit-goes g size cells p n s m d there few h =
    cases (in_or_out (length s.output) max_output)
    (λ room.
    let long = ap (λ (l : List ℕ). length l) h.repeats.output_is in
    let r = emit-turn g size cells p n s m d there (omega (arith, room, long, sizes n)) h.repeats in
    inl (record {
      state = r.state;
      memory = r.memory;
      comes = r.comes;
      holds = record { repeats = r.holds; within = omega (arith, room, long, sizes n, sizes (suc n), ap (λ (l : List ℕ). length l) r.holds.output_is) };
    }))
    (λ enough.
    let t = with_slot 6 (pos n) s in
    let b = slice_index g.input p in
    let within = h.within in
    let index : slice_index_or t.slots 5 (pos 0) ≡ pos p = get_or-set_other s.slots 6 5 (pos n) (pos 0) (below_differs 5 6 (omega arith)) ∙ h.repeats.index_is in
    let is = full_is g.input s.output p n there (omega (arith, few)) h.repeats.output_is (omega (arith, enough, within)) in
    inr (record {
      memory = m;
      comes = subst (λ o. Comes (block_means g emitted) t m (Trapped full o) m) is
          (comes-trap (unless_broken (block_means g end)) (comes-then (emits 31) (gives-input g 31 (Local 5) t m p (gives-local g 31 5 t m (pos p) index) there) (traps_full b t m (d.bytes p) enough)));
    }))
  where
    sizes : (k : ℕ) → length (written_before g.input p ++ replicate k (slice_index g.input p)) ≡ length (written_before g.input p) + k
    sizes k = length-append (written_before g.input p) (replicate k (slice_index g.input p)) ∙ ap (λ x. length (written_before g.input p) + x) (length-replicate k (slice_index g.input p))

-- ---- all indices

index-goes : (g : Environment) (size far p : ℕ) (behind : List ℤ) (s : State) (m : List ℤ) → Runs g size → p < length g.input → length g.input ≤ far → WrittenWithin g (times_before g.input far ++ behind) p s m
    → Goes (block_means g repeated) (WrittenWithin g (times_before g.input far ++ behind) (suc p)) full (first_bytes g.input) (with_slot 5 (pos p) s) m
index-goes g size far p behind s m d there enough h =
    let input = g.input in
    let cells = times_before input far ++ behind in
    let times = times_of (left_at input p) in
    let b = slice_index input p in
    let t = with_slot 5 (pos p) s in
    let w = h.written in
    let slots = w.slots_are in
    let index : slice_index_or t.slots 5 (pos 0) ≡ pos p = get_or-set_same s.slots 5 (pos p) (pos 0) (omega (arith, slots)) in
    let base = (extent_in g.extents 0).0 in
    let first = d.first in
    let has = d.room in
    let cell : base + p ≡ p = omega (arith, first) in
    let word : word_at m (base + p) ≡ pos (0 + times) =
    (λ i. word_at (w.memory_is i) (cell i)) ∙ times_word input far behind p (omega (arith, there, enough)) ∙ ap pos (times_inside input p there) ∙ ap pos (let e : times ≡ 0 + times = omega arith in e) in
    let begun : RepeatsWithin g cells p 0 t m = record {
      repeats = record { output_is = w.output_is ∙ sym (append-nil (written_before input p)); memory_is = w.memory_is; slots_are = length-set s.slots 5 (pos p) ∙ slots; index_is = index };
      within = h.within;
    } in
    goes-on g 30 (For 6 (number 0) (Load 0 (Local 5)) emitted) end (RepeatsWithin g cells p (0 + times)) (WrittenWithin g cells (suc p)) full (first_bytes input) t m
    (goes-for g 30 6 (number 0) (Load 0 (Local 5)) emitted (RepeatsWithin g cells p (0 + times)) full (first_bytes input) t m 0 times (gives-number g 30 (pos 0) t m)
    (subst (λ v. Gives g 30 (Load 0 (Local 5)) t m v) word (gives-load g 30 0 (Local 5) t m p (gives-local g 30 5 t m (pos p) index) (omega (arith, there, has))))
    (for-goes 6 (block_means g emitted) (RepeatsWithin g cells p) full (first_bytes input) 0 times (λ n a x low high q. emit-goes g size cells p n a x d there (omega (arith, high)) q) t m begun))
    (λ a x q. inl (record {
      state = a;
      memory = x;
      comes = record { answer = refl; memory = refl };
      holds = record {
        written = record { output_is = q.repeats.output_is ∙ ap (λ n. written_before input p ++ replicate n b) (let e : 0 + times ≡ times = omega arith in e); memory_is = q.repeats.memory_is; slots_are = q.repeats.slots_are };
        within = q.within;
      };
    }))

output-halts : (g : Environment) (size far : ℕ) (behind : List ℤ) (s : State) (m : List ℤ) → Runs g size → length g.input ≤ far → max_output < length (read_on (pos 0) g.input) → WrittenWithin g (times_before g.input far ++ behind) 0 s m
    → Halts (statement_means g 29 output) full (first_bytes g.input) s m
output-halts g size far behind s m d enough beyond h =
    let cells = times_before g.input far ++ behind in
    let all : 0 + length g.input ≡ length g.input = omega arith in
    over (goes-for g 29 5 (number 0) Len repeated (WrittenWithin g cells (0 + length g.input)) full (first_bytes g.input) s m 0 (length g.input) (gives-number g 29 (pos 0) s m)
    (subst (λ n. Gives g 29 Len s m (pos n)) (sym all) (gives-len g 29 s m))
    (for-goes 5 (block_means g repeated) (WrittenWithin g cells) full (first_bytes g.input) 0 (length g.input) (λ p a x low high q. index-goes g size far p behind a x d (omega (arith, high)) enough q) s m h))
  where
    over : Goes (statement_means g 29 output) (WrittenWithin g (times_before g.input far ++ behind) (0 + length g.input)) full (first_bytes g.input) s m → Halts (statement_means g 29 output) full (first_bytes g.input) s m
    over (inr k) = k
    over (inl r) =
        let is = ap (λ (l : List ℕ). length l) (r.holds.written.output_is ∙ ap (written_before g.input) (let e : 0 + length g.input ≡ length g.input = omega arith in e) ∙ written_all g.input) in
        let within = r.holds.within in
        absurd (omega (arith, is, within, beyond))

-- ---- the program

main-halts : (g : Environment) (size : ℕ) (s : State) (m : List ℤ) → Runs g size → length g.input ≤ 4096 * size → max_output < length (read_on (pos 0) g.input) → BlockAt g size 0 s m
    → Halts (block_means g (packbits_program size).main) full (first_bytes g.input) s m
main-halts g size s m d limit beyond h =
    let far = size * blocks_of (length g.input) size in
    let behind = replicate ((length g.input + size) - far) (pos 0) in
    let cells = memory_at g.input (length g.input + size) far in
    let r = fold-comes g size s m d limit h in
    let q = r.holds in
    let none = ap (λ (z : State). z.output) q.s_is in
    let begun : WrittenWithin g cells 0 r.state r.memory = record {
      written = record { output_is = none; memory_is = q.m_is; slots_are = ap (λ (z : State). length z.slots) q.s_is };
      within = omega (arith, ap (λ (l : List ℕ). length l) none);
    } in
    let k = output-halts g size far behind r.state r.memory d (blocks_enough (length g.input) size d.some) beyond begun in
    record {
      memory = k.memory;
      comes = comes-on g 3 (Fold (head size) (body size)) (only 29 output) s r.state m r.memory k.memory (Trapped full (first_bytes g.input)) r.comes (comes-trap (unless_broken (block_means g end)) k.comes);
    }

pub stops : (size : ℕ) (file output : List ℕ) → IsBlockSize size → AllByRecursion (λ b. b < 256) file → length file + size ≤ max_cells_in 1 → length file ≤ max_blocks * size → Unpacks file output → max_output < length output
    → outcome (packbits_program size) file ≡ Stopped (record { kind = trap.Emit; line = 31 }) (take max_output output)
stops size file written h small cells blocks u beyond =
    let p = packbits_program size in
    let g = environment_of p file in
    let is = file_read file written small u in
    let d : Runs g size = record { first = refl; room = cells_are (length file) size; bytes = bytes_small file small; some = h.0; few = cells } in
    let zeros : zeros_of p (length file) ≡ memory_at file (length file + size) (size * 0) =
    ap (λ n. replicate n (pos 0)) (let e : cell_count_of p (length file) ≡ (length file + size) - 0 = omega (arith, cell_count) in e)
    ∙ ap (λ k. memory_at file (length file + size) k) (let e : 0 ≡ size * 0 = omega arith in e) in
    let begun : BlockAt g size 0 (start_of p) (zeros_of p (length file)) = record { carried = pos 0; number = pos 0; left = pos 0; index = pos 0; byte = pos 0; out = pos 0; turn = pos 0; s_is = refl; m_is = zeros } in
    let r = main-halts g size (start_of p) (zeros_of p (length file)) d blocks (omega (arith, beyond, ap (λ (l : List ℕ). length l) is)) begun in
    let c = main-comes g p.main (start_of p) (zeros_of p (length file)) r.memory (Trapped full (first_bytes file)) r.comes tt in
    (λ i. outcome_from (c.answer i) (c.memory i)) ∙ ap (λ l. Stopped full (take max_output l)) is
  where
    cell_count : cell_count_of (packbits_program size) (length file) ≡ length file + size
    cell_count = let e = cells_are (length file) size in omega (arith, e)
