-- The text of a machine is read as the file of this machine.
use Rattle.std.proofs.Common.{◌≡◌, ◌⊎◌, inl, inr, ℕ, zero, suc, ◌+◌, ◌-◌, ◌*◌, ◌/◌, ◌%◌, ◌<◌, ◌≤◌, ◌^◌, Bool, true, false, List, [], ◌∷◌, ◌++◌, length, map, drop, replicate, refl, ap, sym, ◌∙◌, subst, arith, append_assoc, eq-eqb}
use Rattle.std.specs.Prelude.{if◌then◌else◌, ◌==◌, ◌&&◌, codes, slice_index, slice_get, Some}
use Rattle.std.specs.List.{flat_map, range_with_len}
use Rattle.std.specs.Fmt.{decimal}
use Rattle.std.proofs.lemmas.Bool.{eqb-true, eqb-false}
use Rattle.std.proofs.lemmas.Bool.Decides.{nat_tests}
use Rattle.std.proofs.lemmas.Fmt.{decimal_by_steps}
use Rattle.std.proofs.lemmas.List.{drop_more, drop_all, append-nil, get_or_past}
use Rattle.spf_apps_formats.specs.Laws.{AreBytes}
use Rattle.spf_apps_formats.specs.Lex1.{IsLex1, signature, class_at, next_at}
use Rattle.spf_apps_machine_text.specs.MachineText.{hex_digit as digit, byte_text, states_of, classes_of, class_of, all_bytes, member_text, counts_line, class_line, entry_at, entry_text, state_line, machine_text, IsTextOf}
use Rattle.spf_apps_machine_text.proofs.Steps.{members_are}
use Rattle.spf_apps_machine_text.specs.Reading.{is_digit, number_from, number_at, begins, in_front, bytes_read, line_read, classes_read, next_read, mark_read, behind, entries_read, state_read, states_read, states_count, classes_count, table_read, file_read}

-- ---- numbers

-- a text that doesn't begin with a digit
pub record Ends (text : List ℕ) : Type 0 where
  pub byte : ℕ
  pub rest : List ℕ
  pub text_is : text ≡ byte ∷ rest
  pub other : is_digit byte ≡ false

digit_is : (n : ℕ) → n < 10 → is_digit (48 + n) ≡ true
digit_is n h = grind (arith, nat_tests)

take_digit : (b : Bool) (value byte : ℕ) (rest : List ℕ) → b ≡ true → (if b then number_from ((value * 10 + (byte - 48)) % 256) rest else (value, byte ∷ rest)) ≡ number_from ((value * 10 + (byte - 48)) % 256) rest
take_digit true value byte rest h = refl
take_digit false value byte rest h = cc

leave_other : (b : Bool) (value byte : ℕ) (rest : List ℕ) → b ≡ false → (if b then number_from ((value * 10 + (byte - 48)) % 256) rest else (value, byte ∷ rest)) ≡ (value, byte ∷ rest)
leave_other true value byte rest h = cc
leave_other false value byte rest h = refl

one_digit : (value n : ℕ) (rest : List ℕ) → n < 10 → number_from value ((48 + n) ∷ rest) ≡ number_from ((value * 10 + n) % 256) rest
one_digit value n rest h =
    let same : 48 + n - 48 ≡ n = omega arith in
    take_digit (is_digit (48 + n)) value (48 + n) rest (digit_is n h) ∙ ap (λ d. number_from ((value * 10 + d) % 256) rest) same

-- the digits of a number, whatever comes after them, make this number
abbrev Reads : ℕ → List ℕ → Type 0
Reads n digits = (more : List ℕ) → number_from 0 (digits ++ more) ≡ number_from (n % 256) more

decimal_reads : (n : ℕ) → n < 2 ^ 64 → Reads n (decimal n)
decimal_reads n h = decimal_by_steps Reads one more n h
  where
    one : (n : ℕ) → n < 10 → Reads n ((48 + n) ∷ [])
    one n h more = one_digit 0 n more h ∙ ap (λ v. number_from v more) (omega arith)

    more : (n : ℕ) (ds : List ℕ) → 10 ≤ n → Reads (n / 10) ds → Reads n (ds ++ ((48 + n % 10) ∷ []))
    more n ds h before rest =
        let last : n % 10 < 10 = omega arith in
        let same : ((n / 10) % 256 * 10 + n % 10) % 256 ≡ n % 256 = omega arith in
        ap (number_from 0) (append_assoc ds ((48 + n % 10) ∷ []) rest) ∙ before ((48 + n % 10) ∷ rest)
        ∙ one_digit ((n / 10) % 256) (n % 10) rest last ∙ ap (λ v. number_from v rest) same

pub number_again : (n : ℕ) (more : List ℕ) → n < 256 → Ends more → number_at (decimal n ++ more) ≡ (n, more)
number_again n more h e =
    let small : n % 256 ≡ n = omega arith in
    decimal_reads n (omega arith) more ∙ ap (λ v. number_from v more) small ∙ ap (number_from n) e.text_is
    ∙ leave_other (is_digit e.byte) n e.byte e.rest e.other ∙ ap (λ t. (n, t)) (sym e.text_is)

-- ---- bytes of a class

same_digit : (a b : ℕ) → a < 16 → b < 16 → digit a ≡ digit b → a ≡ b
same_digit a b h k e = grind (arith, nat_tests)

two_equal : (a b c d : ℕ) → (a == b) && ((c == d) && true) ≡ true → (a ≡ b) × (c ≡ d)
two_equal a b c d h = grind (arith, nat_tests)

same_byte : (a b : ℕ) (more : List ℕ) → a < 256 → b < 256 → begins (byte_text a) (byte_text b ++ more) ≡ true → a ≡ b
same_byte a b more h k e =
    let both = two_equal (digit (b / 16)) (digit (a / 16)) (digit (b % 16)) (digit (a % 16)) e in
    let high = same_digit (b / 16) (a / 16) (omega arith) (omega arith) both.0 in
    let low = same_digit (b % 16) (a % 16) (omega arith) (omega arith) both.1 in
    omega arith

begins_itself : (byte : ℕ) (more : List ℕ) → begins (byte_text byte) (byte_text byte ++ more) ≡ true
begins_itself byte more =
    (λ i. eq-eqb (digit (byte / 16)) (digit (byte / 16)) refl i && (eq-eqb (digit (byte % 16)) (digit (byte % 16)) refl i && true))

-- a test that isn't true is false
no_true : (b : Bool) → (b ≡ true → ⊥) → b ≡ false
no_true true h = absurd (h refl)
no_true false h = refl

begins_no_other : (a b : ℕ) (more : List ℕ) → a < 256 → b < 256 → a < b → begins (byte_text a) (byte_text b ++ more) ≡ false
begins_no_other a b more h k l = no_true (begins (byte_text a) (byte_text b ++ more)) (λ e. let same = same_byte a b more h k e in omega arith)

-- the bytes of a class, from one on
abbrev members_text : List ℕ → (class count byte : ℕ) → List ℕ
members_text file class count byte = flat_map (member_text file class) (range_with_len byte count)

-- what the text of the bytes of a class begins with, where the line ends after it
members_behind : (file more : List ℕ) (class count byte earlier : ℕ) → byte + count ≤ 256 → earlier < byte
    → begins (byte_text earlier) (members_text file class count byte ++ 10 ∷ more) ≡ false
members_behind file more class zero byte earlier h l = refl
members_behind file more class (suc count) byte earlier h l =
    by_class (class_of file byte == class) (members_behind file more class count (byte + 1) earlier (omega arith) (omega arith))
  where
    by_class : (b : Bool) → begins (byte_text earlier) (members_text file class count (byte + 1) ++ 10 ∷ more) ≡ false
        → begins (byte_text earlier) (((if b then byte_text byte else []) ++ members_text file class count (byte + 1)) ++ 10 ∷ more) ≡ false
    by_class true later = begins_no_other earlier byte (members_text file class count (byte + 1) ++ 10 ∷ more) (omega arith) (omega arith) l
    by_class false later = later

members_end : (file more : List ℕ) (class count byte : ℕ) → Ends (members_text file class count byte ++ 10 ∷ more)
members_end file more class zero byte = record { byte = 10; rest = more; text_is = refl; other = refl }
members_end file more class (suc count) byte = by_class (class_of file byte == class) (members_end file more class count (byte + 1))
  where
    by_class : (b : Bool) → Ends (members_text file class count (byte + 1) ++ 10 ∷ more)
        → Ends (((if b then byte_text byte else []) ++ members_text file class count (byte + 1)) ++ 10 ∷ more)
    by_class true later = record {
      byte = 32;
      rest = digit (byte / 16) ∷ digit (byte % 16) ∷ (members_text file class count (byte + 1) ++ 10 ∷ more);
      text_is = refl;
      other = refl;
    }
    by_class false later = later

-- the classes of the bytes, once those of a class are known
abbrev known : List ℕ → ℕ → (ℕ → ℕ) → ℕ → ℕ
known file class before byte = if class_of file byte == class then class else before byte

-- one more byte, by whether the text has it
abbrev step : (class byte old : ℕ) (table : List ℕ) → Bool → List ℕ → List ℕ × List ℕ
step class byte old table has text =
    if has then in_front class (bytes_read class (byte + 1) table (drop 3 text)) else in_front old (bytes_read class (byte + 1) table text)

bytes_again : (file more : List ℕ) (before : ℕ → ℕ) (class count byte : ℕ) → byte + count ≤ 256
    → bytes_read class byte (map before (range_with_len byte count)) (members_text file class count byte ++ 10 ∷ more)
    ≡ (map (known file class before) (range_with_len byte count), 10 ∷ more)
unfolding bytes_read
bytes_again file more before class zero byte h = refl
bytes_again file more before class (suc count) byte h =
    by_class (class_of file byte == class) (bytes_again file more before class count (byte + 1) (omega arith))
  where
    by_class : (b : Bool) → bytes_read class (byte + 1) (map before (range_with_len (byte + 1) count)) (members_text file class count (byte + 1) ++ 10 ∷ more)
        ≡ (map (known file class before) (range_with_len (byte + 1) count), 10 ∷ more)
        → step class byte (before byte) (map before (range_with_len (byte + 1) count)) (begins (byte_text byte) (((if b then byte_text byte else []) ++ members_text file class count (byte + 1)) ++ 10 ∷ more))
        (((if b then byte_text byte else []) ++ members_text file class count (byte + 1)) ++ 10 ∷ more)
        ≡ ((if b then class else before byte) ∷ map (known file class before) (range_with_len (byte + 1) count), 10 ∷ more)
    by_class true later =
        ap (λ b. step class byte (before byte) (map before (range_with_len (byte + 1) count)) b (byte_text byte ++ (members_text file class count (byte + 1) ++ 10 ∷ more))) (begins_itself byte (members_text file class count (byte + 1) ++ 10 ∷ more))
        ∙ ap (in_front class) later
    by_class false later =
        ap (λ b. step class byte (before byte) (map before (range_with_len (byte + 1) count)) b (members_text file class count (byte + 1) ++ 10 ∷ more)) (members_behind file more class count (byte + 1) byte (omega arith) (omega arith))
        ∙ ap (in_front (before byte)) later

-- the line of a class, over the bytes below `count`
line_again : (file more members : List ℕ) (before : ℕ → ℕ) (class count : ℕ) → class < 256 → count ≤ 256 → members ≡ members_text file class count 0
    → bytes_read class 0 (map before (range_with_len 0 count)) (number_at ((decimal class ++ (members ++ 10 ∷ [])) ++ more)).1
    ≡ (map (known file class before) (range_with_len 0 count), 10 ∷ more)
line_again file more members before class count h few m =
    let grouped : (decimal class ++ (members ++ 10 ∷ [])) ++ more ≡ decimal class ++ (members ++ 10 ∷ more) = simp append_assoc in
    ap (λ t. bytes_read class 0 (map before (range_with_len 0 count)) (number_at t).1) (grouped ∙ ap (λ t. decimal class ++ (t ++ 10 ∷ more)) m)
    ∙ ap (λ r. bytes_read class 0 (map before (range_with_len 0 count)) r.1) (number_again class (members_text file class count 0 ++ 10 ∷ more) h (members_end file more class count 0))
    ∙ bytes_again file more before class count 0 (omega arith)

-- the lines of `count` classes from one on
abbrev class_lines : List ℕ → (count class : ℕ) → List ℕ
class_lines file count class = flat_map (class_line file) (range_with_len class count)

-- the classes of the bytes, once those of `count` classes are known
after : List ℕ → (count class : ℕ) → (ℕ → ℕ) → ℕ → ℕ
after file zero class before = before
after file (suc count) class before = after file count (class + 1) (known file class before)

classes_again : (file more : List ℕ) (count class : ℕ) (before : ℕ → ℕ) → class + count ≤ 256
    → classes_read count class (map before (range_with_len 0 256), class_lines file count class ++ more)
    ≡ (map (after file count class before) (range_with_len 0 256), more)
unfolding after
classes_again file more zero class before h = refl
classes_again file more (suc count) class before h =
    ap (λ r. classes_read count (class + 1) (r.0, drop 1 r.1))
    (ap (line_read class (map before (range_with_len 0 256))) (append_assoc (class_line file class) (class_lines file count (class + 1)) more)
    ∙ line_again file (class_lines file count (class + 1) ++ more) (flat_map (member_text file class) all_bytes) before class 256 (omega arith) (omega arith)
    (members_are file class))
    ∙ classes_again file more count (class + 1) (known file class before) (omega arith)

-- the class of a byte, once that of each class below has been read
after_is : (file : List ℕ) (count class : ℕ) (before : ℕ → ℕ) (byte : ℕ) → class_of file byte < class + count
    → (class_of file byte < class → before byte ≡ class_of file byte) → after file count class before byte ≡ class_of file byte
unfolding after
after_is file zero class before byte l h = h (omega arith)
after_is file (suc count) class before byte l h =
    after_is file count (class + 1) (known file class before) byte (omega arith) (λ k. by_test (class_of file byte == class) refl k)
  where
    by_test : (b : Bool) → class_of file byte == class ≡ b → class_of file byte < class + 1 → (if b then class else before byte) ≡ class_of file byte
    by_test true e k = sym (eqb-true (class_of file byte) class e)
    by_test false e k = h (let other = eqb-false (class_of file byte) class e in grind arith)

map_same : (f g : ℕ → ℕ) (count first : ℕ) → ((x : ℕ) → x < first + count → f x ≡ g x) → map f (range_with_len first count) ≡ map g (range_with_len first count)
map_same f g zero first h = refl
map_same f g (suc count) first h =
    (λ i. h first (omega arith) i ∷ map_same f g count (first + 1) (λ x l. h x (omega arith)) i)

-- ---- entries

-- the bytes of `count` entries from one on
entry_bytes : List ℕ → (count entry : ℕ) → List ℕ
entry_bytes file zero entry = []
entry_bytes file (suc count) entry = slice_index file (next_at entry) ∷ slice_index file (next_at entry + 1) ∷ entry_bytes file count (entry + 1)

-- each number is that of a byte
abbrev EachByte : List ℕ → Type 0
EachByte file = (offset : ℕ) → slice_index file offset < 256

-- the entries of a state, for `count` classes from one on
abbrev entries_text : List ℕ → (state count class : ℕ) → List ℕ
entries_text file state count class = flat_map (entry_text file state) (range_with_len class count)

entries_end : (file more : List ℕ) (state count class : ℕ) → Ends (entries_text file state count class ++ 10 ∷ more)
entries_end file more state zero class = record { byte = 10; rest = more; text_is = refl; other = refl }
entries_end file more state (suc count) class = record { byte = 32; rest = _; text_is = refl; other = refl }

-- an entry's numbers are read
next_again : (next mark : ℕ) (rest : List ℕ) → next < 256 → next_read (32 ∷ (decimal next ++ 47 ∷ (decimal mark ++ rest))) ≡ (next, 47 ∷ (decimal mark ++ rest))
next_again next mark rest h = number_again next (47 ∷ (decimal mark ++ rest)) h (record { byte = 47; rest = decimal mark ++ rest; text_is = refl; other = refl })

mark_again : (next mark : ℕ) (rest : List ℕ) → next < 256 → mark < 256 → Ends rest → mark_read (32 ∷ (decimal next ++ 47 ∷ (decimal mark ++ rest))) ≡ (mark, rest)
mark_again next mark rest h k e = ap (λ r. number_at (drop 1 r.1)) (next_again next mark rest h) ∙ number_again mark rest k e

entry_again : (next mark count : ℕ) (text rest : List ℕ) → next < 256 → mark < 256 → Ends rest → text ≡ 32 ∷ (decimal next ++ 47 ∷ (decimal mark ++ rest))
    → entries_read (suc count) text ≡ behind (next ∷ mark ∷ []) (entries_read count rest)
entry_again next mark count text rest h k e t =
    ap (entries_read (suc count)) t
    ∙ (λ i. behind ((next_again next mark rest h i).0 ∷ (mark_again next mark rest h k e i).0 ∷ []) (entries_read count (mark_again next mark rest h k e i).1))

entries_again : (file more : List ℕ) → EachByte file → (state count class entry : ℕ) → entry ≡ state * classes_of file + class
    → entries_read count (entries_text file state count class ++ 10 ∷ more) ≡ (entry_bytes file count entry, 10 ∷ more)
unfolding entry_bytes
entries_again file more bytes state zero class entry e = refl
entries_again file more bytes state (suc count) class entry e =
    entry_again (slice_index file (entry_at file state class)) (slice_index file (entry_at file state class + 1)) count (entries_text file state (suc count) class ++ 10 ∷ more) (entries_text file state count (class + 1) ++ 10 ∷ more)
    (bytes (entry_at file state class)) (bytes (entry_at file state class + 1)) (entries_end file more state count (class + 1)) (simp append_assoc)
    ∙ ap (behind (slice_index file (entry_at file state class) ∷ slice_index file (entry_at file state class + 1) ∷ []))
    (entries_again file more bytes state count (class + 1) (entry + 1) (omega arith))
    ∙ ap (λ k. (slice_index file (next_at k) ∷ slice_index file (next_at k + 1) ∷ entry_bytes file count (entry + 1), 10 ∷ more)) (sym e)

state_again : (file more : List ℕ) → EachByte file → (state : ℕ) → state < 256
    → state_read (classes_of file) (state_line file state ++ more) ≡ (entry_bytes file (classes_of file) (state * classes_of file), 10 ∷ more)
state_again file more bytes state h =
    let entries = entries_text file state (classes_of file) 0 in
    let grouped : (decimal state ++ (entries ++ 10 ∷ [])) ++ more ≡ decimal state ++ (entries ++ 10 ∷ more) = simp append_assoc in
    ap (λ t. entries_read (classes_of file) (number_at t).1) grouped
    ∙ ap (λ r. entries_read (classes_of file) r.1) (number_again state (entries ++ 10 ∷ more) h (entries_end file more state (classes_of file) 0))
    ∙ entries_again file more bytes state (classes_of file) 0 (state * classes_of file) (omega arith)

-- the lines of `count` states from one on, and the bytes of their entries
abbrev state_lines : List ℕ → (count state : ℕ) → List ℕ
state_lines file count state = flat_map (state_line file) (range_with_len state count)

states_bytes : List ℕ → (count state : ℕ) → List ℕ
states_bytes file zero state = []
states_bytes file (suc count) state = entry_bytes file (classes_of file) (state * classes_of file) ++ states_bytes file count (state + 1)

states_again : (file : List ℕ) → EachByte file → (count state : ℕ) → state + count ≤ 256
    → states_read (classes_of file) count (state_lines file count state) ≡ (states_bytes file count state, [])
unfolding states_bytes
states_again file bytes zero state h = refl
states_again file bytes (suc count) state h =
    ap (λ r. behind r.0 (states_read (classes_of file) count (drop 1 r.1))) (state_again file (state_lines file count (state + 1)) bytes state (omega arith))
    ∙ ap (behind (entry_bytes file (classes_of file) (state * classes_of file))) (states_again file bytes count (state + 1) (omega arith))

-- ---- where all this stands in the file

entry_bytes_are : (file : List ℕ) (count entry : ℕ) → next_at (entry + count) ≤ length file
    → entry_bytes file count entry ++ drop (next_at (entry + count)) file ≡ drop (next_at entry) file
unfolding entry_bytes
entry_bytes_are file zero entry h = ap (λ k. drop (next_at k) file) (omega arith)
entry_bytes_are file (suc count) entry h =
    let behind_mark : next_at entry + 1 + 1 ≡ next_at (entry + 1) = omega arith in
    let last : entry + suc count ≡ entry + 1 + count = omega arith in
    ap (λ k. slice_index file (next_at entry) ∷ slice_index file (next_at entry + 1) ∷ (entry_bytes file count (entry + 1) ++ drop (next_at k) file)) last
    ∙ ap (λ t. slice_index file (next_at entry) ∷ slice_index file (next_at entry + 1) ∷ t) (entry_bytes_are file count (entry + 1) (omega arith))
    ∙ ap (λ k. slice_index file (next_at entry) ∷ slice_index file (next_at entry + 1) ∷ drop k file) (sym behind_mark)
    ∙ ap (λ t. slice_index file (next_at entry) ∷ t) (sym (drop_more file (next_at entry + 1) 0 (omega arith)))
    ∙ sym (drop_more file (next_at entry) 0 (omega arith))

states_bytes_are : (file : List ℕ) (count state last : ℕ) → last ≡ (state + count) * classes_of file → next_at last ≤ length file
    → states_bytes file count state ++ drop (next_at last) file ≡ drop (next_at (state * classes_of file)) file
unfolding states_bytes
states_bytes_are file zero state last e h = ap (λ k. drop (next_at k) file) (omega arith)
states_bytes_are file (suc count) state last e h =
    let next : (state + 1) * classes_of file ≡ state * classes_of file + classes_of file = omega arith in
    let rest : last ≡ (state + 1) * classes_of file + count * classes_of file = omega arith in
    append_assoc (entry_bytes file (classes_of file) (state * classes_of file)) (states_bytes file count (state + 1)) (drop (next_at last) file)
    ∙ ap (λ t. entry_bytes file (classes_of file) (state * classes_of file) ++ t)
    (states_bytes_are file count (state + 1) last (omega arith) h ∙ ap (λ k. drop (next_at k) file) next)
    ∙ entry_bytes_are file (classes_of file) (state * classes_of file) (omega arith)

table_is : (file : List ℕ) (count byte : ℕ) → class_at (byte + count) ≤ length file
    → map (class_of file) (range_with_len byte count) ++ drop (class_at (byte + count)) file ≡ drop (class_at byte) file
table_is file zero byte h = ap (λ k. drop (class_at k) file) (omega arith)
table_is file (suc count) byte h =
    let last : byte + suc count ≡ byte + 1 + count = omega arith in
    let next : class_at (byte + 1) ≡ class_at byte + 1 = omega arith in
    ap (λ k. class_of file byte ∷ (map (class_of file) (range_with_len (byte + 1) count) ++ drop (class_at k) file)) last
    ∙ ap (λ t. class_of file byte ∷ t) (table_is file count (byte + 1) (omega arith))
    ∙ ap (λ k. class_of file byte ∷ drop k file) next
    ∙ sym (drop_more file (class_at byte) 0 (omega arith))

-- what stands at an offset
stands : (xs : List ℕ) (offset value : ℕ) → slice_get xs offset ≡ Some value → slice_index xs offset ≡ value
stands [] offset value e = cc
stands (x ∷ xs) zero value e = cc
stands (x ∷ xs) (suc offset) value e = stands xs offset value e

front_is : (file : List ℕ) → 6 ≤ length file → slice_index file 0 ≡ 76 → slice_index file 1 ≡ 69 → slice_index file 2 ≡ 88 → slice_index file 3 ≡ 49
    → file ≡ signature ++ (states_of file ∷ classes_of file ∷ []) ++ drop 6 file
front_is file h a b c d =
    drop_more file 0 0 (omega arith)
    ∙ (λ i. a i ∷ drop_more file 1 0 (omega arith) i)
    ∙ (λ i. 76 ∷ b i ∷ drop_more file 2 0 (omega arith) i)
    ∙ (λ i. 76 ∷ 69 ∷ c i ∷ drop_more file 3 0 (omega arith) i)
    ∙ (λ i. 76 ∷ 69 ∷ 88 ∷ d i ∷ drop_more file 4 0 (omega arith) i)
    ∙ (λ i. 76 ∷ 69 ∷ 88 ∷ 49 ∷ slice_index file 4 ∷ drop_more file 5 0 (omega arith) i)

each_byte : (file : List ℕ) → AreBytes file → EachByte file
each_byte file h offset = by_length (below offset (length file))
  where
    below : (a b : ℕ) → (a < b) ⊎ (b ≤ a)
    below a b = grind arith

    by_length : (offset < length file) ⊎ (length file ≤ offset) → slice_index file offset < 256
    by_length (inl l) = h offset 0 l
    by_length (inr l) = let past = get_or_past file offset 0 l in omega arith

-- ---- the whole text

states_count_again : (file more : List ℕ) (states classes : ℕ) → states < 256
    → states_count (counts_line states classes ++ more) ≡ (states, (codes " classes " ++ (decimal classes ++ codes "\n")) ++ more)
states_count_again file more states classes h =
    ap number_at (append_assoc (decimal states) (codes " classes " ++ (decimal classes ++ codes "\n")) more)
    ∙ number_again states ((codes " classes " ++ (decimal classes ++ codes "\n")) ++ more) h (record { byte = 32; rest = _; text_is = refl; other = refl })

classes_count_again : (file more : List ℕ) (states classes : ℕ) → states < 256 → classes < 256
    → classes_count (counts_line states classes ++ more) ≡ (classes, 10 ∷ more)
classes_count_again file more states classes h k =
    ap (λ r. number_at (drop 9 r.1)) (states_count_again file more states classes h)
    ∙ ap number_at (append_assoc (decimal classes) (codes "\n") more)
    ∙ number_again classes (10 ∷ more) k (record { byte = 10; rest = more; text_is = refl; other = refl })

table_again : (file more : List ℕ) (states classes : ℕ) → states < 256 → classes ≤ 64 → ((byte : ℕ) → byte < 256 → class_of file byte < classes)
    → table_read (counts_line states classes ++ (class_lines file (classes - 1) 1 ++ more)) ≡ (map (class_of file) (range_with_len 0 256), more)
unfolding table_read
table_again file more states classes h k below =
    ap (λ r. classes_read (r.0 - 1) 1 (replicate 256 0, drop 1 r.1)) (classes_count_again file (class_lines file (classes - 1) 1 ++ more) states classes h (omega arith))
    ∙ classes_again file more (classes - 1) 1 (λ _. 0) (omega arith)
    ∙ ap (λ t. (t, more)) (map_same (after file (classes - 1) 1 (λ _. 0)) (class_of file) 256 0 (λ byte l.
    after_is file (classes - 1) 1 (λ _. 0) byte (let b = below byte (omega arith) in omega arith) (λ z. omega arith)))

none : (classes : ℕ) → 0 * classes ≡ 0
none classes = omega arith

-- a file of this size is put together again
whole_again : (file : List ℕ) → length file ≡ 262 + 2 * (states_of file * classes_of file)
    → slice_index file 0 ≡ 76 → slice_index file 1 ≡ 69 → slice_index file 2 ≡ 88 → slice_index file 3 ≡ 49
    → signature ++ (states_of file ∷ classes_of file ∷ []) ++ map (class_of file) (range_with_len 0 256) ++ states_bytes file (states_of file) 0 ≡ file
whole_again file size a b c d =
    let end : next_at (states_of file * classes_of file) ≤ length file = omega arith in
    let entries : states_bytes file (states_of file) 0 ≡ drop 262 file =
    sym (append-nil (states_bytes file (states_of file) 0))
    ∙ ap (λ t. states_bytes file (states_of file) 0 ++ t) (sym (drop_all (next_at (states_of file * classes_of file)) file (omega arith)))
    ∙ states_bytes_are file (states_of file) 0 (states_of file * classes_of file) (omega arith) end
    ∙ ap (λ k. drop (next_at k) file) (none (classes_of file)) in
    ap (λ t. signature ++ (states_of file ∷ classes_of file ∷ []) ++ map (class_of file) (range_with_len 0 256) ++ t) entries
    ∙ append_assoc (signature ++ (states_of file ∷ classes_of file ∷ [])) (map (class_of file) (range_with_len 0 256)) (drop 262 file)
    ∙ ap (λ t. signature ++ (states_of file ∷ classes_of file ∷ []) ++ t) (table_is file 256 0 (omega arith))
    ∙ sym (front_is file (omega arith) a b c d)

-- where the counts are few, what is read is put together
counts_again : (file : List ℕ) → EachByte file → states_of file ≤ 64 → classes_of file ≤ 64 → ((byte : ℕ) → byte < 256 → class_of file byte < classes_of file)
    → file_read (machine_text file)
    ≡ signature ++ (states_of file ∷ classes_of file ∷ []) ++ map (class_of file) (range_with_len 0 256) ++ states_bytes file (states_of file) 0
unfolding file_read machine_text
counts_again file bytes s c below =
    let more = state_lines file (states_of file) 0 in
    let states = states_count_again file (class_lines file (classes_of file - 1) 1 ++ more) (states_of file) (classes_of file) (omega arith) in
    let classes = classes_count_again file (class_lines file (classes_of file - 1) 1 ++ more) (states_of file) (classes_of file) (omega arith) (omega arith) in
    let table = table_again file more (states_of file) (classes_of file) (omega arith) c below in
    (λ i. signature ++ ((states i).0 ∷ (classes i).0 ∷ []) ++ (table i).0 ++ (states_read (classes i).0 (states i).0 (table i).1).0)
    ∙ ap (λ r. signature ++ (states_of file ∷ classes_of file ∷ []) ++ map (class_of file) (range_with_len 0 256) ++ r.0) (states_again file bytes (states_of file) 0 (omega arith))

pub read_again : (file : List ℕ) (states classes : ℕ) → AreBytes file → IsLex1 file states classes → file_read (machine_text file) ≡ file
read_again file states classes bytes h =
    let counts = h.classed.sized.counts in
    let s : states_of file ≡ states = stands file 4 states counts.states_at.stands in
    let c : classes_of file ≡ classes = stands file 5 classes counts.classes_at.stands in
    let few : states_of file ≤ 64 = (let l = counts.states_at.few in omega arith) in
    let few_classes : classes_of file ≤ 64 = (let l = counts.classes_at.few in omega arith) in
    let size : length file ≡ 262 + 2 * (states_of file * classes_of file) = h.classed.sized.size ∙ (λ i. 262 + 2 * (sym s i * sym c i)) in
    counts_again file (each_byte file bytes) few few_classes (λ byte l. subst (λ n. class_of file byte < n) (sym c) (h.classed.below byte l))
    ∙ whole_again file size (stands file 0 76 (counts.begins 0 (omega arith))) (stands file 1 69 (counts.begins 1 (omega arith)))
    (stands file 2 88 (counts.begins 2 (omega arith))) (stands file 3 49 (counts.begins 3 (omega arith)))

-- the text of a machine is read as this machine
pub text_again : (text file : List ℕ) → IsTextOf text file → file_read text ≡ file
text_again text file h = ap file_read h.text_is ∙ read_again file h.machine.0 h.machine.1 h.bytes h.machine.2
