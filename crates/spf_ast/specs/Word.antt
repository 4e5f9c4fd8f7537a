-- Words, which are the signed integers of 64 bits, and the operations on them.
use Rattle.std.specs.Prelude.{ℕ, ◌^◌, Bool, nat_lt, if◌then◌else◌, ℤ, pos, negsuc, ◌+ℤ◌, ◌-ℤ◌, ◌*ℤ◌, int_div, int_rem}
use Rattle.std.specs.Prelude.{Result, Ok, Err}
use Rattle.std.specs.Int.{int_bit_and, int_bit_or, int_bit_xor, int_shr, w64}
use Rattle.std.specs.Ordering.{int_eq}
use Rattle.spf_ast.specs.declared.outcome.TrapKind.{TrapKind}
use Rattle.spf_ast.specs.declared.outcome.TrapKind.TheVariants.{Overflow, DivZero, Shift}
use Rattle.spf_ast.specs.declared.syntax.Op.{Op}
use Rattle.spf_ast.specs.declared.syntax.Op.TheVariants.{Add, Sub, Mul, Div, Rem, And, Or, Xor, Shl, Shr}

-- a word is an integer from -2^63 to 2^63 - 1
abbrev pub is_word : ℤ → Bool
is_word (pos n) = nat_lt n (2 ^ 63)
is_word (negsuc n) = nat_lt n (2 ^ 63)

-- the answer, or Overflow where the number that goes with it isn't a word
abbrev pub where_word : ℤ → ℤ → Result ℤ TrapKind
where_word number answer = if is_word number then Ok answer else Err Overflow

-- the exact number, or Overflow where it isn't a word
abbrev pub exact : ℤ → Result ℤ TrapKind
exact number = where_word number number

-- the exact sum
abbrev pub add_words : ℤ → ℤ → Result ℤ TrapKind
add_words a b = exact (a +ℤ b)

-- the exact difference
abbrev pub sub_words : ℤ → ℤ → Result ℤ TrapKind
sub_words a b = exact (a -ℤ b)

-- the exact product
abbrev pub mul_words : ℤ → ℤ → Result ℤ TrapKind
mul_words a b = exact (a *ℤ b)

-- the quotient, truncated towards 0
abbrev pub div_words : ℤ → ℤ → Result ℤ TrapKind
div_words a b = if int_eq b (pos 0) then Err DivZero else exact (int_div a b)

-- the remainder of the truncated quotient, where that quotient is a word
abbrev pub rem_words : ℤ → ℤ → Result ℤ TrapKind
rem_words a b = if int_eq b (pos 0) then Err DivZero else where_word (int_div a b) (int_rem a b)

-- a shift by 0 to 63 bits
abbrev pub shift_words : (ℕ → Result ℤ TrapKind) → ℤ → Result ℤ TrapKind
shift_words shifted (pos n) = if nat_lt n 64 then shifted n else Err Shift
shift_words shifted (negsuc n) = Err Shift

-- a times 2^b, exactly
abbrev pub shl_words : ℤ → ℤ → Result ℤ TrapKind
shl_words a b = shift_words (λ n. exact (a *ℤ pos (2 ^ n))) b

-- the floor of a divided by 2^b
abbrev pub shr_words : ℤ → ℤ → Result ℤ TrapKind
shr_words a b = shift_words (λ n. Ok (int_shr a n)) b

-- what an operator gives; `&`, `|` and `^` work on the 64 bits of two's complement
abbrev pub binary_words : Op → ℤ → ℤ → Result ℤ TrapKind
binary_words Add a b = add_words a b
binary_words Sub a b = sub_words a b
binary_words Mul a b = mul_words a b
binary_words Div a b = div_words a b
binary_words Rem a b = rem_words a b
binary_words And a b = Ok (int_bit_and w64 a b)
binary_words Or a b = Ok (int_bit_or w64 a b)
binary_words Xor a b = Ok (int_bit_xor w64 a b)
binary_words Shl a b = shl_words a b
binary_words Shr a b = shr_words a b
