-- What the program that decodes HUF1 writes at its end.
use Rattle.std.proofs.Common.{◌≡◌, ℕ, zero, suc, ◌+◌, ◌*◌, ◌<◌, ◌≤◌, Bool, true, false, List, [], ◌∷◌, ◌++◌, length, take, Ok, ℤ, pos, refl, ap, sym, ◌∙◌, subst, arith, append-nil, length-append, get_or-set_same, get_or-set_other}
use Rattle.std.specs.Prelude.{not, nat_lt, if◌then◌else◌, slice_index, slice_index_or, slice_set, int_lt}
use Rattle.std.specs.Ordering.{int_eq}
use Rattle.std.proofs.lemmas.Int.{ints}
use Rattle.std.proofs.lemmas.List.{length-set}
use Rattle.spf_ast_lemmas.proofs.Members.{cases}
use Rattle.spf_ast.specs.Event.{word_at}
use Rattle.spf_ast.specs.declared.outcome.TrapKind.TheVariants as trap
use Rattle.spf_ast.specs.declared.syntax.Op.TheVariants.{Add, Sub, Mul}
use Rattle.spf_ast.specs.declared.syntax.Test.TheVariants.{Ne, Lt}
use Rattle.spf_ast.specs.Interaction.{unless_broken, Flow, Onward, State, Ending, Value, Trapped}
use Rattle.spf_ast.specs.Program.{Done, Stopped, outcome_from}
use Rattle.spf_ast.specs.Syntax.{Expression, Condition, Block, Local, Input, Load, Compare, Assign, Emit, Fail, If, end, on_line}
use Rattle.spf_ast.specs.Meaning.{Environment, block_means, statement_means, condition_means, extent_in}
use Rattle.spf_ast_laws.proofs.Plainly.{Comes, comes-trap}
use Rattle.spf_apps_programs.specs.Writing.{number, plus, minus, times, only}
use Rattle.spf_apps_programs.specs.Huffman.{code_bytes, with_byte, wanted, symbol_out, symbols_out, too_few}
use Rattle.spf_apps_formats.specs.Huffman.{bits_of}
use Rattle.spf_apps_laws.proofs.HufWords.{IsTable, entry_at, grown, symbol}
use Rattle.spf_apps_laws.proofs.HufIndices.{number_at, entry_of, found_before, cells_at, read_word, bits_long}
use Rattle.spf_apps_laws.proofs.HufTable.{room_for, Decoding}
use Rattle.spf_apps_laws.proofs.HufBits.{less_ok}
use Rattle.spf_apps_laws.proofs.HufBlocks.{gives-content}
use Rattle.spf_apps_laws.proofs.LexBody.{sum_ok, product_ok}
use Rattle.spf_apps_laws.proofs.Output.{comes-emit}
use Rattle.spf_apps_laws.proofs.Blocks.{in_or_out}
use Rattle.spf_apps_laws.proofs.Steps.{main_ending, IsOnward, below_differs, Gives, gives-number, gives-local, gives-input, gives-load, gives-binary, tells, comes-assign, comes-on, comes-only, comes-end, comes-then_branch, comes-else_branch, with_slot, Reaches, reached, reaches-for, for-reaches, Ends}

-- ---- how many symbols are wanted

-- four bytes as a number, the highest first
abbrev pub four_bytes : (a b c d : ℕ) → ℕ
four_bytes a b c d = ((a * 256 + b) * 256 + c) * 256 + d

gives-byte : (g : Environment) (i : ℕ) (s : State) (m : List ℤ) → i < length g.input → Gives g 47 (Input (number i)) s m (pos (slice_index g.input i))
gives-byte g i s m h = gives-input g 47 (number i) s m i (gives-number g 47 (pos i) s m) h

gives-with_byte : (g : Environment) (i x : ℕ) (before : Expression) (s : State) (m : List ℤ) → Gives g 47 before s m (pos x) → x < 16777216 → i < length g.input → slice_index g.input i < 256 → Gives g 47 (with_byte before i) s m (pos (x * 256 + slice_index g.input i))
gives-with_byte g i x before s m p small h byte =
    gives-binary g 47 Add (times before (number 256)) (Input (number i)) s m (pos (x * 256)) (pos (slice_index g.input i)) (pos (x * 256 + slice_index g.input i))
    (gives-binary g 47 Mul before (number 256) s m (pos x) (pos 256) (pos (x * 256)) p (gives-number g 47 (pos 256) s m) (product_ok x 256 (omega (arith, small))))
    (gives-byte g i s m h) (sum_ok (x * 256) (slice_index g.input i) (omega (arith, small, byte)))

pub gives-wanted : (g : Environment) (s : State) (m : List ℤ) → 264 ≤ length g.input → ((i : ℕ) → slice_index g.input i < 256)
    → Gives g 47 wanted s m (pos (four_bytes (slice_index g.input 260) (slice_index g.input 261) (slice_index g.input 262) (slice_index g.input 263)))
gives-wanted g s m long bytes =
    let a = slice_index g.input 260 in
    let b = slice_index g.input 261 in
    let c = slice_index g.input 262 in
    let a_small = bytes 260 in
    let b_small = bytes 261 in
    let c_small = bytes 262 in
    gives-with_byte g 263 ((a * 256 + b) * 256 + c) (with_byte (with_byte (Input (number 260)) 261) 262) s m
    (gives-with_byte g 262 (a * 256 + b) (with_byte (Input (number 260)) 261) s m
    (gives-with_byte g 261 a (Input (number 260)) s m (gives-byte g 260 s m (omega (arith, long))) (omega (arith, a_small)) (omega (arith, long)) b_small)
    (omega (arith, a_small, b_small)) (omega (arith, long)) c_small)
    (omega (arith, a_small, b_small, c_small)) (omega (arith, long)) (bytes 263)

-- ---- as many symbols as are wanted

take_room : (want y : ℕ) (xs : List ℕ) → length (take want xs) < want → take want xs ++ y ∷ [] ≡ take want (xs ++ y ∷ [])
take_room zero y xs h = absurd (omega (arith, h))
take_room (suc zero) y [] h = refl
take_room (suc (suc want)) y [] h = refl
take_room (suc want) y (x ∷ xs) h = ap (λ l. x ∷ l) (take_room want y xs (omega (arith, h)))

take_full : (want y : ℕ) (xs : List ℕ) → want ≤ length (take want xs) → take want xs ≡ take want (xs ++ y ∷ [])
take_full zero y xs h = refl
take_full (suc want) y [] h = absurd (omega (arith, h))
take_full (suc want) y (x ∷ xs) h = ap (λ l. x ∷ l) (take_full want y xs (omega (arith, h)))

take_short : (want : ℕ) (xs : List ℕ) → length (take want xs) ≤ length xs
take_short zero xs = omega arith
take_short (suc want) [] = omega arith
take_short (suc want) (x ∷ xs) = let e = take_short want xs in omega (arith, e)

symbol_short : (e : ℕ) → length (symbol e) ≤ 1
symbol_short zero = omega arith
symbol_short (suc y) = omega arith

found_short : (code : List ℕ) (all : List Bool) (p : ℕ) → length (found_before code all p) ≤ p
found_short code all zero = omega arith
found_short code all (suc p) = omega (arith, length-append (found_before code all p) (symbol (entry_of code all p)), symbol_short (entry_of code all p), found_short code all p)

-- ---- an index

entry_from : (code : List ℕ) (h : ℕ) (b : Bool) (y : ℕ) → entry_at code h b ≡ suc y → (n : ℕ) × (slice_index code n ≡ suc y)
entry_from code zero b y e = absurd (omega (arith, e))
entry_from code (suc h) b y e = by_test (nat_lt 65535 (grown (suc h) b)) e
  where
    by_test : (c : Bool) → (if c then 0 else slice_index code (grown (suc h) b)) ≡ suc y → (n : ℕ) × (slice_index code n ≡ suc y)
    by_test true k = absurd (omega (arith, k))
    by_test false k = (grown (suc h) b, k)

-- the state with one more symbol
abbrev wrote : ℕ → State → State
wrote y s = record { slots = slice_set s.slots 10 (pos (suc (length s.output))); output = s.output ++ y ∷ [] }

abbrev is_symbol : Condition
is_symbol = Compare Ne (Load 1 (Local 11)) (number 0)

abbrev is_wanted : Condition
is_wanted = Compare Lt (Local 10) (Local 9)

abbrev put : Block
put = on_line 50 (Emit (minus (Load 1 (Local 11)) (number 1))) (only 50 (Assign 10 (plus (Local 10) (number 1))))

abbrev put_wanted : Block
put_wanted = only 50 (If is_wanted put end)

-- the symbols before an index were written, as many as are wanted
pub record Written (code : List ℕ) (all : List Bool) (cells : List ℤ) (want p : ℕ) (s : State) (m : List ℤ) : Type 0 where
  pub output_is : s.output ≡ take want (found_before code all p)
  pub got_is : slice_index_or s.slots 10 (pos 0) ≡ pos (length s.output)
  pub want_is : slice_index_or s.slots 9 (pos 0) ≡ pos want
  pub slots_are : length s.slots ≡ 12
  pub memory_is : m ≡ cells

-- what an index needs: its cell, and room for a byte
record Stands (g : Environment) (p e want : ℕ) (s : State) (m : List ℤ) : Type 0 where
  cell : Gives g 50 (Load 1 (Local 11)) s m (pos e)
  got_is : slice_index_or s.slots 10 (pos 0) ≡ pos (length s.output)
  want_is : slice_index_or s.slots 9 (pos 0) ≡ pos want
  few : length s.output < 4194304

symbol_tells : (g : Environment) (p e want : ℕ) (s : State) (m : List ℤ) (holds : Bool) → Stands g p e want s m → not (int_eq (pos e) (pos 0)) ≡ holds → Comes (condition_means g 50 is_symbol) s m (Value holds s) m
symbol_tells g p e want s m holds d is = tells g 50 Ne (Load 1 (Local 11)) (number 0) s m (pos e) (pos 0) holds d.cell (gives-number g 50 (pos 0) s m) is

wanted_tells : (g : Environment) (p e want line : ℕ) (s : State) (m : List ℤ) (holds : Bool) → slice_index_or s.slots 10 (pos 0) ≡ pos (length s.output) → slice_index_or s.slots 9 (pos 0) ≡ pos want → int_lt (pos (length s.output)) (pos want) ≡ holds → Comes (condition_means g line is_wanted) s m (Value holds s) m
wanted_tells g p e want line s m holds got want_is is = tells g line Lt (Local 10) (Local 9) s m (pos (length s.output)) (pos want) holds (gives-local g line 10 s m (pos (length s.output)) got) (gives-local g line 9 s m (pos want) want_is) is

-- no symbol ends at the index
none-comes : (g : Environment) (p want : ℕ) (s : State) (m : List ℤ) → Stands g p 0 want s m → Comes (block_means g symbol_out) s m (Value Onward s) m
none-comes g p want s m d =
    comes-only g 50 (If is_symbol put_wanted end) s s m m
    (comes-else_branch g 50 is_symbol put_wanted end s m m (Value Onward s) (symbol_tells g p 0 want s m false d refl) (comes-end g s m))

some_word : (y : ℕ) → not (int_eq (pos (suc y)) (pos 0)) ≡ true
some_word y = ap not (let o : int_eq (pos (suc y)) (pos 0) ≡ false = grind (arith, ints) in o)

-- a symbol that isn't wanted
left-comes : (g : Environment) (p y want : ℕ) (s : State) (m : List ℤ) → Stands g p (suc y) want s m → want ≤ length s.output → Comes (block_means g symbol_out) s m (Value Onward s) m
left-comes g p y want s m d enough =
    let low : int_lt (pos (length s.output)) (pos want) ≡ false = grind (arith, ints, enough) in
    comes-only g 50 (If is_symbol put_wanted end) s s m m
    (comes-then_branch g 50 is_symbol put_wanted end s m m (Value Onward s) (symbol_tells g p (suc y) want s m true d (some_word y))
    (comes-only g 50 (If is_wanted put end) s s m m
    (comes-else_branch g 50 is_wanted put end s m m (Value Onward s) (wanted_tells g p (suc y) want 50 s m false d.got_is d.want_is low) (comes-end g s m))))

-- and one that is
put-comes : (g : Environment) (p y want : ℕ) (s : State) (m : List ℤ) → Stands g p (suc y) want s m → length s.output < want → y < 256 → Comes (block_means g symbol_out) s m (Value Onward (wrote y s)) m
put-comes g p y want s m d more byte =
    let few = d.few in
    let t : State = record s { output = s.output ++ y ∷ [] } in
    let u = wrote y s in
    let low : int_lt (pos (length s.output)) (pos want) ≡ true = grind (arith, ints, more) in
    let later : length s.output + 1 ≡ suc (length s.output) = omega arith in
    comes-only g 50 (If is_symbol put_wanted end) s u m m
    (comes-then_branch g 50 is_symbol put_wanted end s m m (Value Onward u) (symbol_tells g p (suc y) want s m true d (some_word y))
    (comes-only g 50 (If is_wanted put end) s u m m
    (comes-then_branch g 50 is_wanted put end s m m (Value Onward u) (wanted_tells g p (suc y) want 50 s m true d.got_is d.want_is low)
    (comes-on g 50 (Emit (minus (Load 1 (Local 11)) (number 1))) (only 50 (Assign 10 (plus (Local 10) (number 1)))) s t m m m (Value Onward u)
    (comes-emit g 50 (minus (Load 1 (Local 11)) (number 1)) s m y
    (gives-binary g 50 Sub (Load 1 (Local 11)) (number 1) s m (pos (suc y)) (pos 1) (pos y) d.cell (gives-number g 50 (pos 1) s m) (less_ok (suc y) 1 y (omega arith) (omega (arith, byte))))
    byte (omega (arith, few)))
    (comes-only g 50 (Assign 10 (plus (Local 10) (number 1))) t u m m
    (comes-assign g 50 10 (plus (Local 10) (number 1)) t m (pos (suc (length s.output)))
    (gives-binary g 50 Add (Local 10) (number 1) t m (pos (length s.output)) (pos 1) (pos (suc (length s.output))) (gives-local g 50 10 t m (pos (length s.output)) d.got_is) (gives-number g 50 (pos 1) t m)
    (sum_ok (length s.output) 1 (omega (arith, few)) ∙ ap (λ n. Ok (pos n)) later))))))))

-- an index, by what its cell holds
index-reaches : (g : Environment) (size : ℕ) (lengths content code : List ℕ) → Decoding g size lengths content → IsTable lengths code → (cells : List ℤ) (want p e : ℕ) (s : State) (m : List ℤ) → entry_of code (bits_of content) p ≡ e → Stands g p e want s m → Written code (bits_of content) cells want p s m
    → Reaches (block_means g symbol_out) (Written code (bits_of content) cells want (suc p)) s m
index-reaches g size lengths content code d table cells want p zero s m is stands h =
    let all = bits_of content in
    reached (block_means g symbol_out) (Written code all cells want (suc p)) s s m m (none-comes g p want s m stands)
    (record {
      output_is = h.output_is ∙ ap (take want) (sym (append-nil (found_before code all p)) ∙ ap (λ n. found_before code all p ++ symbol n) (sym is));
      got_is = h.got_is;
      want_is = h.want_is;
      slots_are = h.slots_are;
      memory_is = h.memory_is;
    })
index-reaches g size lengths content code d table cells want p (suc y) s m is stands h =
    cases (in_or_out (length s.output) want)
    (λ more.
    let slots = h.slots_are in
    let o : s.output ++ y ∷ [] ≡ take want (found_before code (bits_of content) p ++ y ∷ []) =
    ap (λ l. l ++ y ∷ []) h.output_is ∙ take_room want y (found_before code (bits_of content) p) (omega (arith, more, ap (λ (l : List ℕ). length l) h.output_is)) in
    reached (block_means g symbol_out) (Written code (bits_of content) cells want (suc p)) s (wrote y s) m m (put-comes g p y want s m stands more byte)
    (record {
      output_is = o ∙ ap (λ n. take want (found_before code (bits_of content) p ++ symbol n)) (sym is);
      got_is = get_or-set_same s.slots 10 (pos (suc (length s.output))) (pos 0) (omega (arith, slots)) ∙ ap pos (let e = length-append s.output (y ∷ []) in omega (arith, e));
      want_is = get_or-set_other s.slots 10 9 (pos (suc (length s.output))) (pos 0) (below_differs 9 10 (omega arith)) ∙ h.want_is;
      slots_are = length-set s.slots 10 (pos (suc (length s.output))) ∙ h.slots_are;
      memory_is = h.memory_is;
    }))
    (λ enough.
    reached (block_means g symbol_out) (Written code (bits_of content) cells want (suc p)) s s m m (left-comes g p y want s m stands enough)
    (record {
      output_is = h.output_is ∙ take_full want y (found_before code (bits_of content) p) (omega (arith, enough, ap (λ (l : List ℕ). length l) h.output_is)) ∙ ap (λ n. take want (found_before code (bits_of content) p ++ symbol n)) (sym is);
      got_is = h.got_is;
      want_is = h.want_is;
      slots_are = h.slots_are;
      memory_is = h.memory_is;
    }))
  where
    byte : y < 256
    byte =
        let from = entry_from code (number_at code (bits_of content) p) (slice_index_or (bits_of content) p false) y is in
        let known = (table.only from.0 y from.1).0 in
        let inside = known.inside in
        let many = d.many in
        omega (arith, inside, many)

index-turn : (g : Environment) (size : ℕ) (lengths content code : List ℕ) → Decoding g size lengths content → length code ≡ 65536 → IsTable lengths code → (far want p : ℕ) (s : State) (m : List ℤ) → p < 8 * length content → 8 * length content ≤ far → Written code (bits_of content) (cells_at code (bits_of content) (room_for size content) far) want p s m
    → Reaches (block_means g symbol_out) (Written code (bits_of content) (cells_at code (bits_of content) (room_for size content) far) want (suc p)) (with_slot 11 (pos p) s) m
index-turn g size lengths content code d long table far want p s m there enough h =
    let all = bits_of content in
    let room = room_for size content in
    let cells = cells_at code all room far in
    let t = with_slot 11 (pos p) s in
    let slots = h.slots_are in
    let index : slice_index_or t.slots 11 (pos 0) ≡ pos p = get_or-set_same s.slots 11 (pos p) (pos 0) (omega (arith, slots)) in
    let got = get_or-set_other s.slots 11 10 (pos p) (pos 0) (below_differs 10 11 (omega arith)) ∙ h.got_is in
    let wants = get_or-set_other s.slots 11 9 (pos p) (pos 0) (below_differs 9 11 (omega arith)) ∙ h.want_is in
    let base = (extent_in g.extents 1).0 in
    let first = d.arrays.sym_first in
    let has = d.arrays.sym_room in
    let few = d.few in
    let cell : base + p ≡ 65536 + p = omega (arith, first) in
    let word : word_at m (base + p) ≡ pos (entry_of code all p) =
    (λ i. word_at (h.memory_is i) (cell i)) ∙ read_word code all 65536 room far p long (omega (arith, there, enough)) (omega (arith, there, bits_long content)) in
    let short : length s.output < 4194304 = omega (arith, ap (λ (l : List ℕ). length l) h.output_is, take_short want (found_before code all p), found_short code all p, there, few) in
    index-reaches g size lengths content code d table cells want p (entry_of code all p) t m refl
    (record {
      cell = subst (λ v. Gives g 50 (Load 1 (Local 11)) t m v) word (gives-load g 50 1 (Local 11) t m p (gives-local g 50 11 t m (pos p) index) (omega (arith, there, has)));
      got_is = got;
      want_is = wants;
      few = short;
    })
    (record { output_is = h.output_is; got_is = got; want_is = wants; slots_are = length-set s.slots 11 (pos p) ∙ h.slots_are; memory_is = h.memory_is })

pub symbols-written : (g : Environment) (size : ℕ) (lengths content code : List ℕ) → Decoding g size lengths content → length code ≡ 65536 → IsTable lengths code → (far want : ℕ) (s : State) (m : List ℤ) → 8 * length content ≤ far → Written code (bits_of content) (cells_at code (bits_of content) (room_for size content) far) want 0 s m
    → Reaches (statement_means g 49 symbols_out) (Written code (bits_of content) (cells_at code (bits_of content) (room_for size content) far) want (8 * length content)) s m
symbols-written g size lengths content code d long table far want s m enough h =
    let all = bits_of content in
    let cells = cells_at code all (room_for size content) far in
    let n = 8 * length content in
    let few = d.few in
    let whole : 0 + n ≡ n = omega arith in
    subst (λ k. Reaches (statement_means g 49 symbols_out) (Written code all cells want k) s m) whole
    (reaches-for g 49 11 (number 0) (times (number 8) code_bytes) symbol_out (Written code all cells want (0 + n)) s m 0 n (gives-number g 49 (pos 0) s m)
    (subst (λ k. Gives g 49 (times (number 8) code_bytes) s m (pos k)) (sym whole)
    (gives-binary g 49 Mul (number 8) code_bytes s m (pos 8) (pos (length content)) (pos n) (gives-number g 49 (pos 8) s m) (gives-content g 49 s m (length content) d.long (omega (arith, few))) (product_ok 8 (length content) (omega (arith, few)))))
    (for-reaches 11 (block_means g symbol_out) (Written code all cells want) 0 n (λ p a x low high q. index-turn g size lengths content code d long table far want p a x (omega (arith, high)) enough q) s m h))

-- ---- the end

-- the program ended with this output; where it has fewer symbols than are wanted, by a trap
pub record Ended (output : List ℕ) (want : ℕ) (e : Ending Flow) (m : List ℤ) : Type 0 where
  pub onward : IsOnward e
  pub whole : (length output < want → ⊥) → outcome_from (main_ending e) m ≡ Done m output
  pub short : length output < want → outcome_from (main_ending e) m ≡ Stopped (record { kind = trap.Fail 1; line = 53 }) output

abbrev fails : Block
fails = only 53 (Fail 1)

pub few-ends : (g : Environment) (code : List ℕ) (all : List Bool) (cells : List ℤ) (want p : ℕ) (s : State) (m : List ℤ) → Written code all cells want p s m → Ends (block_means g (only 52 too_few)) (Ended (take want (found_before code all p)) want) s m
few-ends g code all cells want p s m h =
    cases (in_or_out (length s.output) want)
    (λ few.
    let low : int_lt (pos (length s.output)) (pos want) ≡ true = grind (arith, ints, few) in
    let failed : Comes (block_means g fails) s m (Trapped (record { kind = trap.Fail 1; line = 53 }) s.output) m = record { answer = refl; memory = refl } in
    record {
      ending = Trapped (record { kind = trap.Fail 1; line = 53 }) s.output;
      memory = m;
      comes = stops (comes-then_branch g 52 is_wanted fails end s m m (Trapped (record { kind = trap.Fail 1; line = 53 }) s.output) (wanted_tells g p 0 want 52 s m true h.got_is h.want_is low) failed);
      holds = record {
        onward = tt;
        whole = λ k. absurd (k (omega (arith, few, ap (λ (l : List ℕ). length l) h.output_is)));
        short = λ k. ap (Stopped (record { kind = trap.Fail 1; line = 53 })) h.output_is;
      };
    })
    (λ enough.
    let low : int_lt (pos (length s.output)) (pos want) ≡ false = grind (arith, ints, enough) in
    record {
      ending = Value Onward s;
      memory = m;
      comes = comes-only g 52 too_few s s m m (comes-else_branch g 52 is_wanted fails end s m m (Value Onward s) (wanted_tells g p 0 want 52 s m false h.got_is h.want_is low) (comes-end g s m));
      holds = record {
        onward = tt;
        whole = λ k. ap (Done m) h.output_is;
        short = λ k. absurd (omega (arith, k, enough, ap (λ (l : List ℕ). length l) h.output_is));
      };
    })
  where
    stops : Comes (statement_means g 52 too_few) s m (Trapped (record { kind = trap.Fail 1; line = 53 }) s.output) m → Comes (block_means g (only 52 too_few)) s m (Trapped (record { kind = trap.Fail 1; line = 53 }) s.output) m
    stops c = comes-trap (unless_broken (block_means g end)) c
