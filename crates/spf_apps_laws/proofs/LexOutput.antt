-- What the program that runs a machine writes at its end.
use Rattle.std.proofs.Common.{◌≡◌, ℕ, zero, suc, ◌+◌, ◌/◌, ◌%◌, ◌<◌, ◌≤◌, ◌^◌, true, false, List, [], ◌∷◌, ◌++◌, length, Ok, ℤ, pos, refl, ap, sym, ◌∙◌, subst, arith, append-nil, length-append, get_or-set_same}
use Rattle.std.specs.Prelude.{not, slice_index_or, ◌-ℤ◌}
use Rattle.std.specs.Ordering.{int_eq}
use Rattle.std.specs.Int.{int_bit_and, w64, byte_at}
use Rattle.std.specs.Int.Bits.{bit_and}
use Rattle.std.proofs.lemmas.Int.{ints, to_z_pos}
use Rattle.std.proofs.lemmas.Nat.{and_mask, div_below}
use Rattle.std.proofs.Math.Nat.{mod-eq_of_lt, mod-lt, div-le_self}
use Rattle.std.proofs.lemmas.List.{length-set}
use Rattle.spf_ast.specs.Event.{word_at}
use Rattle.spf_ast.specs.declared.syntax.Op.TheVariants.{Sub, Shr, And}
use Rattle.spf_ast.specs.declared.syntax.Test.TheVariants.{Ne}
use Rattle.spf_ast.specs.Word.{exact, binary_words}
use Rattle.spf_ast.specs.Interaction.{Onward, State, Value}
use Rattle.spf_ast.specs.Syntax.{Condition, Block, Local, Len, Load, Compare, Emit, If, end, on_line}
use Rattle.spf_ast.specs.Meaning.{Environment, block_means, statement_means, extent_in, max_output}
use Rattle.spf_ast_laws.proofs.Plainly.{Comes}
use Rattle.spf_apps_formats.specs.Tokens.{token}
use Rattle.spf_apps_programs.specs.Writing.{number, shifted_right, masked, only}
use Rattle.spf_apps_programs.specs.Lexer as lexer
use Rattle.spf_apps_laws.proofs.LexIndices.{mark_of, marks_before, tokens_before, tokens_short, marks_word, mark_inside}
use Rattle.spf_apps_laws.proofs.LexBody.{Lexes}
use Rattle.spf_apps_laws.proofs.Output.{comes-emit}
use Rattle.spf_apps_laws.proofs.Steps.{Gives, gives-number, gives-local, gives-len, gives-load, gives-binary, tells, with_slot, Reaches, reached, reaches-for, for-reaches, comes-on, comes-only, comes-end, comes-then_branch, comes-else_branch, word-ok}

-- ---- bytes of an index

some_bytes : 0 < 256
some_bytes = omega arith

byte_lt : (n : ℕ) → n % 256 < 256
byte_lt n = mod-lt n {m = 256} some_bytes

-- the lowest byte of a number
low_byte : (n : ℕ) → n < 2 ^ 63 → int_bit_and w64 (pos n) (pos 255) ≡ pos (n % 256)
low_byte n h =
    let masked_is = and_mask n 8 in
    to_z_pos w64 (bit_and n 255) (let small : n % 256 < 256 = byte_lt n in omega (arith, masked_is, small)) ∙ ap pos masked_is

-- the state with this output
abbrev wrote : List ℕ → State → State
wrote o s = record s { output = o }

gives-byte : (g : Environment) (line indices p : ℕ) (s : State) (m : List ℤ) → slice_index_or s.slots 5 (pos 0) ≡ pos p → p < 4194304 → binary_words Shr (pos p) (pos indices) ≡ Ok (pos (p / 2 ^ indices)) → Gives g line (masked (shifted_right (Local 5) (number indices)) (number 255)) s m (pos (p / 2 ^ indices % 256))
gives-byte g line indices p s m e small shifted =
    let below = div-le_self p (2 ^ indices) in
    gives-binary g line And (shifted_right (Local 5) (number indices)) (number 255) s m (pos (p / 2 ^ indices)) (pos 255) (pos (p / 2 ^ indices % 256))
    (gives-binary g line Shr (Local 5) (number indices) s m (pos p) (pos indices) (pos (p / 2 ^ indices)) (gives-local g line 5 s m (pos p) e) (gives-number g line (pos indices) s m) shifted)
    (gives-number g line (pos 255) s m)
    (ap Ok (low_byte (p / 2 ^ indices) (omega (arith, below, small))))

five : (o : List ℕ) (a b c d e : ℕ) → ((((o ++ a ∷ []) ++ b ∷ []) ++ c ∷ []) ++ d ∷ []) ++ e ∷ [] ≡ o ++ (a ∷ b ∷ c ∷ d ∷ e ∷ [])
five [] a b c d e = refl
five (x ∷ o) a b c d e = ap (λ l. x ∷ l) (five o a b c d e)

one_longer : (o : List ℕ) (b n : ℕ) → length o + suc n ≤ max_output → length (o ++ b ∷ []) + n ≤ max_output
one_longer o b n h = omega (arith, h, length-append o (b ∷ []))

-- a token
token-comes : (g : Environment) (p kind : ℕ) (s : State) (m : List ℤ) → slice_index_or s.slots 5 (pos 0) ≡ pos p → p < 4194304 → p < (extent_in g.extents 0).1 → word_at m ((extent_in g.extents 0).0 + p) ≡ pos (suc kind) → suc kind < 256 → length s.output + 5 ≤ max_output
    → Comes (block_means g lexer.token) s m (Value Onward (wrote (s.output ++ token (suc kind) p) s)) m
token-comes g p kind s m e small room word byte long =
    let o0 = s.output in
    let b3 = byte_at 3 p in
    let b2 = byte_at 2 p in
    let b1 = byte_at 1 p in
    let b0 = byte_at 0 p in
    let o1 = o0 ++ suc kind ∷ [] in
    let o2 = o1 ++ b3 ∷ [] in
    let o3 = o2 ++ b2 ∷ [] in
    let o4 = o3 ++ b1 ∷ [] in
    let o5 = o4 ++ b0 ∷ [] in
    let l1 = one_longer o0 (suc kind) 4 long in
    let l2 = one_longer o1 b3 3 l1 in
    let l3 = one_longer o2 b2 2 l2 in
    let l4 = one_longer o3 b1 1 l3 in
    let high : p / 2 ^ 24 ≡ b3 = sym (mod-eq_of_lt (omega (arith, div-le_self p (2 ^ 24), div_below p (2 ^ 24) 256 (omega arith) (omega (arith, small))))) in
    let line28 = only 28 (Emit (masked (Local 5) (number 255))) in
    let line27 = on_line 27 (lexer.offset_byte 8) line28 in
    let line26 = on_line 26 (lexer.offset_byte 16) line27 in
    let line25 = on_line 25 (Emit (shifted_right (Local 5) (number 24))) line26 in
    subst (λ o. Comes (block_means g lexer.token) s m (Value Onward (wrote o s)) m) (five o0 (suc kind) b3 b2 b1 b0)
    (comes-on g 24 (Emit (Load 0 (Local 5))) line25 s (wrote o1 s) m m m (Value Onward (wrote o5 s))
    (comes-emit g 24 (Load 0 (Local 5)) s m (suc kind) (subst (λ v. Gives g 24 (Load 0 (Local 5)) s m v) word (gives-load g 24 0 (Local 5) s m p (gives-local g 24 5 s m (pos p) e) room)) byte (omega (arith, long)))
    (comes-on g 25 (Emit (shifted_right (Local 5) (number 24))) line26 (wrote o1 s) (wrote o2 s) m m m (Value Onward (wrote o5 s))
    (comes-emit g 25 (shifted_right (Local 5) (number 24)) (wrote o1 s) m b3
    (subst (λ v. Gives g 25 (shifted_right (Local 5) (number 24)) (wrote o1 s) m (pos v)) high
    (gives-binary g 25 Shr (Local 5) (number 24) (wrote o1 s) m (pos p) (pos 24) (pos (p / 2 ^ 24)) (gives-local g 25 5 (wrote o1 s) m (pos p) e) (gives-number g 25 (pos 24) (wrote o1 s) m) refl))
    (byte_lt (p / 2 ^ 24)) (omega (arith, l1)))
    (comes-on g 26 (lexer.offset_byte 16) line27 (wrote o2 s) (wrote o3 s) m m m (Value Onward (wrote o5 s))
    (comes-emit g 26 (masked (shifted_right (Local 5) (number 16)) (number 255)) (wrote o2 s) m b2 (gives-byte g 26 16 p (wrote o2 s) m e small refl) (byte_lt (p / 2 ^ 16)) (omega (arith, l2)))
    (comes-on g 27 (lexer.offset_byte 8) line28 (wrote o3 s) (wrote o4 s) m m m (Value Onward (wrote o5 s))
    (comes-emit g 27 (masked (shifted_right (Local 5) (number 8)) (number 255)) (wrote o3 s) m b1 (gives-byte g 27 8 p (wrote o3 s) m e small refl) (byte_lt (p / 2 ^ 8)) (omega (arith, l3)))
    (comes-only g 28 (Emit (masked (Local 5) (number 255))) (wrote o4 s) (wrote o5 s) m m
    (comes-emit g 28 (masked (Local 5) (number 255)) (wrote o4 s) m b0
    (gives-binary g 28 And (Local 5) (number 255) (wrote o4 s) m (pos p) (pos 255) (pos b0) (gives-local g 28 5 (wrote o4 s) m (pos p) e) (gives-number g 28 (pos 255) (wrote o4 s) m) (ap Ok (low_byte p (omega (arith, small)))))
    (byte_lt p) (omega (arith, l4))))))))

-- ---- all indices

-- the tokens before an index were written
pub record Written (machine content : List ℕ) (cells : List ℤ) (p : ℕ) (s : State) (m : List ℤ) : Type 0 where
  pub output_is : s.output ≡ tokens_before machine content p
  pub memory_is : m ≡ cells
  pub slots_are : length s.slots ≡ 6

abbrev is_token : Condition
is_token = Compare Ne (Load 0 (Local 5)) (number 0)

abbrev index_out : Block
index_out = only 23 (If is_token lexer.token end)

-- where a token begins, or not
kind-comes : (g : Environment) (p kind : ℕ) (s : State) (m : List ℤ) → slice_index_or s.slots 5 (pos 0) ≡ pos p → p < 4194304 → p < (extent_in g.extents 0).1 → word_at m ((extent_in g.extents 0).0 + p) ≡ pos kind → kind < 256 → length s.output + 5 ≤ max_output
    → Comes (statement_means g 23 (If is_token lexer.token end)) s m (Value Onward (wrote (s.output ++ token kind p) s)) m
kind-comes g p zero s m e small room word byte long =
    subst (λ o. Comes (statement_means g 23 (If is_token lexer.token end)) s m (Value Onward (wrote o s)) m) (sym (append-nil s.output))
    (comes-else_branch g 23 is_token lexer.token end s m m (Value Onward s)
    (tells g 23 Ne (Load 0 (Local 5)) (number 0) s m (pos 0) (pos 0) false (subst (λ v. Gives g 23 (Load 0 (Local 5)) s m v) word (gives-load g 23 0 (Local 5) s m p (gives-local g 23 5 s m (pos p) e) room)) (gives-number g 23 (pos 0) s m) refl)
    (comes-end g s m))
kind-comes g p (suc kind) s m e small room word byte long =
    let other : not (int_eq (pos (suc kind)) (pos 0)) ≡ true = ap not (let n : int_eq (pos (suc kind)) (pos 0) ≡ false = grind (arith, ints) in n) in
    comes-then_branch g 23 is_token lexer.token end s m m (Value Onward (wrote (s.output ++ token (suc kind) p) s))
    (tells g 23 Ne (Load 0 (Local 5)) (number 0) s m (pos (suc kind)) (pos 0) true (subst (λ v. Gives g 23 (Load 0 (Local 5)) s m v) word (gives-load g 23 0 (Local 5) s m p (gives-local g 23 5 s m (pos p) e) room)) (gives-number g 23 (pos 0) s m) other)
    (token-comes g p kind s m e small room word byte long)

index-written : (g : Environment) (size states classes : ℕ) (machine content : List ℕ) → Lexes g size states classes machine content → (far p : ℕ) (behind : List ℤ) (s : State) (m : List ℤ) → p < length content → length content ≤ far → Written machine content (marks_before machine content far ++ behind) p s m → Reaches (block_means g index_out) (Written machine content (marks_before machine content far ++ behind) (suc p)) (with_slot 5 (pos p) s) m
index-written g size states classes machine content d far p behind s m there enough h =
    let cells = marks_before machine content far ++ behind in
    let kind = mark_of machine content p in
    let t = with_slot 5 (pos p) s in
    let inside : 5 < length s.slots = omega (arith, h.slots_are) in
    let index : slice_index_or t.slots 5 (pos 0) ≡ pos p = get_or-set_same s.slots 5 (pos p) (pos 0) inside in
    let base = (extent_in g.extents 0).0 in
    let cell : base + p ≡ p = omega (arith, d.first) in
    let word : word_at m (base + p) ≡ pos kind =
    (λ i. word_at (h.memory_is i) (cell i)) ∙ marks_word machine content far behind p (omega (arith, there, enough)) ∙ ap pos (mark_inside machine content p there) in
    let short = tokens_short machine content p in
    let sizes = ap (λ (l : List ℕ). length l) h.output_is in
    reached (block_means g index_out) (Written machine content cells (suc p)) t (wrote (t.output ++ token kind p) t) m m
    (comes-only g 23 (If is_token lexer.token end) t (wrote (t.output ++ token kind p) t) m m
    (kind-comes g p kind t m index (omega (arith, there, d.few)) (omega (arith, there, d.room)) word (d.machine_bytes _) (omega (arith, short, sizes, there, d.few))))
    (record {
      output_is = ap (λ l. l ++ token kind p) h.output_is;
      memory_is = h.memory_is;
      slots_are = length-set s.slots 5 (pos p) ∙ h.slots_are;
    })

pub output-written : (g : Environment) (size states classes : ℕ) (machine content : List ℕ) → Lexes g size states classes machine content → length g.input ≡ length machine + length content → (far : ℕ) (behind : List ℤ) (s : State) (m : List ℤ) → length content ≤ far → Written machine content (marks_before machine content far ++ behind) 0 s m
    → Reaches (statement_means g 22 (lexer.output (length machine))) (Written machine content (marks_before machine content far ++ behind) (length content)) s m
output-written g size states classes machine content d long far behind s m enough h =
    let cells = marks_before machine content far ++ behind in
    let all : 0 + length content ≡ length content = omega arith in
    let rest : pos (length g.input) -ℤ pos (length machine) ≡ pos (0 + length content) = omega (arith, ints, long) in
    subst (λ n. Reaches (statement_means g 22 (lexer.output (length machine))) (Written machine content cells n) s m) all
    (reaches-for g 22 5 (number 0) (lexer.content (length machine)) index_out (Written machine content cells (0 + length content)) s m 0 (length content) (gives-number g 22 (pos 0) s m)
    (gives-binary g 22 Sub Len (number (length machine)) s m (pos (length g.input)) (pos (length machine)) (pos (0 + length content)) (gives-len g 22 s m) (gives-number g 22 (pos (length machine)) s m) (ap exact rest ∙ word-ok (0 + length content) (omega (arith, d.few))))
    (for-reaches 5 (block_means g index_out) (Written machine content cells) 0 (length content) (λ p a x low high q. index-written g size states classes machine content d far p behind a x (omega (arith, high)) enough q) s m h))
