-- Loops over the definitions, one iteration after another.
use Rattle.std.proofs.Common.{◌≡◌, ℕ, suc, ◌+◌, ◌-◌, ◌*◌, ◌%◌, ◌<◌, ◌≤◌, Bool, true, false, List, [], ◌∷◌, ◌++◌, length, take, drop, get_or, set, replicate, refl, ap, sym, ◌∙◌, arith, append_assoc, eq-eqb}
use Rattle.std.specs.Prelude.{if◌then◌else◌}
use Rattle.std.specs.List.{flat_map, range_with_len}
use Rattle.std.proofs.lemmas.Bool.{ne_eqb}
use Rattle.std.proofs.lemmas.List.{drop_more, take_more, take_more_set, drop_all, take_all, append-nil, drop-set-lt}
use Rattle.spf_apps_machine_text.specs.MachineText.{states_of, classes_of, counts_line, machine_text, class_of, byte_text, all_bytes, member_text, class_line, state_line}
use Rattle.spf_apps_formats.specs.Lex1.{signature}
use Rattle.spf_apps_machine_text.specs.Reading.{states_count, classes_count, table_read, file_read, is_digit, number_from, begins, in_front, bytes_read, line_read, classes_read, next_read, mark_read, behind, entries_read, state_read, states_read}

-- ---- numbers

-- what a digit makes of the number that was read before it, and where another byte ends it
by_test : (b : Bool) (value byte : ℕ) (rest : List ℕ) → b ≡ true → (if b then number_from ((value * 10 + (byte - 48)) % 256) rest else (value, byte ∷ rest)) ≡ number_from ((value * 10 + (byte - 48)) % 256) rest
by_test true value byte rest h = refl
by_test false value byte rest h = cc

by_no : (b : Bool) (value byte : ℕ) (rest : List ℕ) → b ≡ false → (if b then number_from ((value * 10 + (byte - 48)) % 256) rest else (value, byte ∷ rest)) ≡ (value, byte ∷ rest)
by_no true value byte rest h = cc
by_no false value byte rest h = refl

pub digit_more : (value byte next offset more : ℕ) (text : List ℕ) → offset < length text → byte ≡ get_or text offset 0 → is_digit byte ≡ true → next ≡ (value * 10 + (byte - 48)) % 256 → more ≡ offset + 1
    → number_from value (drop offset text) ≡ number_from next (drop more text)
digit_more value byte next offset more text l e h n m =
    ap (number_from value) (drop_more text offset 0 l ∙ ap (λ b. b ∷ drop (offset + 1) text) (sym e))
    ∙ by_test (is_digit byte) value byte (drop (offset + 1) text) h
    ∙ (λ i. number_from (sym n i) (drop (sym m i) text))

pub digit_none : (value byte offset : ℕ) (text : List ℕ) → offset < length text → byte ≡ get_or text offset 0 → is_digit byte ≡ false
    → number_from value (drop offset text) ≡ (value, drop offset text)
digit_none value byte offset text l e h =
    let split : drop offset text ≡ byte ∷ drop (offset + 1) text = drop_more text offset 0 l ∙ ap (λ b. b ∷ drop (offset + 1) text) (sym e) in
    ap (number_from value) split ∙ by_no (is_digit byte) value byte (drop (offset + 1) text) h ∙ ap (λ t. (value, t)) (sym split)

pub digits_all : (value offset : ℕ) (text : List ℕ) → length text ≤ offset → number_from value (drop offset text) ≡ (value, drop offset text)
digits_all value offset text l = ap (number_from value) (drop_all offset text l) ∙ ap (λ t. (value, t)) (sym (drop_all offset text l))

-- ---- pieces of a text that are appended one by one

-- one more piece
pub one_more : (piece : ℕ → List ℕ) (front next : List ℕ) (count fewer first after : ℕ) → count ≡ suc fewer → after ≡ first + 1 → next ≡ front ++ piece first
    → next ++ flat_map piece (range_with_len after fewer) ≡ front ++ flat_map piece (range_with_len first count)
one_more piece front next count fewer first after e a n =
    (λ i. n i ++ flat_map piece (range_with_len (a i) fewer))
    ∙ append_assoc front (piece first) (flat_map piece (range_with_len (first + 1) fewer))
    ∙ ap (λ k. front ++ flat_map piece (range_with_len first k)) (sym e)

-- no piece left
pub none_left : (piece : ℕ → List ℕ) (front : List ℕ) (count first : ℕ) → count ≡ 0 → front ++ flat_map piece (range_with_len first count) ≡ front
none_left piece front count first e = ap (λ k. front ++ flat_map piece (range_with_len first k)) e ∙ append-nil front

-- ---- bytes of a class

pub members_are : (file : List ℕ) (class : ℕ) → flat_map (member_text file class) all_bytes ≡ flat_map (member_text file class) (range_with_len 0 256)
unfolding all_bytes
members_are file class = refl

-- a byte that is of the class, and one that isn't
pub member_yes : (file : List ℕ) (class byte : ℕ) → class_of file byte ≡ class → member_text file class byte ≡ byte_text byte
member_yes file class byte h = ap (λ b. if b then byte_text byte else []) (eq-eqb (class_of file byte) class h)

pub member_no : (file front : List ℕ) (class byte : ℕ) → (class_of file byte ≡ class → ⊥) → front ≡ front ++ member_text file class byte
member_no file front class byte h = sym (ap (λ b. front ++ (if b then byte_text byte else [])) (ne_eqb (class_of file byte) class h) ∙ append-nil front)

-- ---- reading the bytes of a class

pub bytes_yes : (class byte : ℕ) (table text : List ℕ) → byte < length table → begins (byte_text byte) text ≡ true
    → behind (take (byte + 1) (set table byte class)) (bytes_read class (byte + 1) (drop (byte + 1) (set table byte class)) (drop 3 text))
    ≡ behind (take byte table) (bytes_read class byte (drop byte table) text)
unfolding bytes_read
bytes_yes class byte table text l h =
    (λ i. behind (take_more_set table byte class l i) (bytes_read class (byte + 1) (drop-set-lt (byte + 1) table byte class (omega arith) i) (drop 3 text)))
    ∙ grouped (take byte table) class (bytes_read class (byte + 1) (drop (byte + 1) table) (drop 3 text))
    ∙ sym (ap (λ t. behind (take byte table) (bytes_read class byte t text)) (drop_more table byte 0 l)
    ∙ ap (λ b. behind (take byte table) (if b then in_front class (bytes_read class (byte + 1) (drop (byte + 1) table) (drop 3 text)) else in_front (get_or table byte 0) (bytes_read class (byte + 1) (drop (byte + 1) table) text))) h)
  where
    grouped : (front : List ℕ) (x : ℕ) (read : List ℕ × List ℕ) → behind (front ++ x ∷ []) read ≡ behind front (in_front x read)
    grouped front x read = ap (λ t. (t, read.1)) (append_assoc front (x ∷ []) read.0)

pub bytes_no : (class byte : ℕ) (table text : List ℕ) → byte < length table → begins (byte_text byte) text ≡ false
    → behind (take (byte + 1) table) (bytes_read class (byte + 1) (drop (byte + 1) table) text)
    ≡ behind (take byte table) (bytes_read class byte (drop byte table) text)
unfolding bytes_read
bytes_no class byte table text l h =
    ap (λ t. behind t (bytes_read class (byte + 1) (drop (byte + 1) table) text)) (take_more table byte 0 l)
    ∙ grouped (take byte table) (get_or table byte 0) (bytes_read class (byte + 1) (drop (byte + 1) table) text)
    ∙ sym (ap (λ t. behind (take byte table) (bytes_read class byte t text)) (drop_more table byte 0 l)
    ∙ ap (λ b. behind (take byte table) (if b then in_front class (bytes_read class (byte + 1) (drop (byte + 1) table) (drop 3 text)) else in_front (get_or table byte 0) (bytes_read class (byte + 1) (drop (byte + 1) table) text))) h)
  where
    grouped : (front : List ℕ) (x : ℕ) (read : List ℕ × List ℕ) → behind (front ++ x ∷ []) read ≡ behind front (in_front x read)
    grouped front x read = ap (λ t. (t, read.1)) (append_assoc front (x ∷ []) read.0)

pub bytes_all : (class byte : ℕ) (table text : List ℕ) → length table ≤ byte
    → behind (take byte table) (bytes_read class byte (drop byte table) text) ≡ (table, text)
unfolding bytes_read
bytes_all class byte table text l =
    (λ i. behind (take_all byte table l i) (bytes_read class byte (drop_all byte table l i) text)) ∙ ap (λ t. (t, text)) (append-nil table)

-- ---- reading lines

pub classes_more : (count fewer class : ℕ) (table next text rest : List ℕ) → count ≡ suc fewer
    → next ≡ (line_read class table text).0 → rest ≡ drop 1 (line_read class table text).1
    → classes_read fewer (class + 1) (next, rest) ≡ classes_read count class (table, text)
classes_more count fewer class table next text rest e n r =
    (λ i. classes_read fewer (class + 1) (n i, r i)) ∙ ap (λ k. classes_read k class (table, text)) (sym e)

pub classes_none : (count class : ℕ) (read : List ℕ × List ℕ) → count ≡ 0 → classes_read count class read ≡ read
classes_none count class read e = ap (λ k. classes_read k class read) e

pub read_more : (count fewer next mark : ℕ) (file one two text rest : List ℕ) → count ≡ suc fewer
    → next ≡ (next_read text).0 → mark ≡ (mark_read text).0 → rest ≡ (mark_read text).1
    → one ≡ file ++ next ∷ [] → two ≡ one ++ mark ∷ []
    → behind two (entries_read fewer rest) ≡ behind file (entries_read count text)
read_more count fewer next mark file one two text rest e n m r o t =
    (λ i. behind ((t ∙ ap (λ x. x ++ mark ∷ []) o ∙ append_assoc file (next ∷ []) (mark ∷ [])) i) (entries_read fewer (r i)))
    ∙ (λ i. behind (file ++ n i ∷ m i ∷ []) (entries_read fewer (mark_read text).1))
    ∙ twice file ((next_read text).0 ∷ (mark_read text).0 ∷ []) (entries_read fewer (mark_read text).1)
    ∙ ap (λ k. behind file (entries_read k text)) (sym e)
  where
    twice : (front more : List ℕ) (read : List ℕ × List ℕ) → behind (front ++ more) read ≡ behind front (behind more read)
    twice front more read = ap (λ t. (t, read.1)) (append_assoc front more read.0)

pub read_none : (count : ℕ) (file text : List ℕ) → count ≡ 0 → behind file (entries_read count text) ≡ (file, text)
read_none count file text e = ap (λ k. behind file (entries_read k text)) e ∙ ap (λ t. (t, text)) (append-nil file)

pub states_more : (classes count fewer : ℕ) (file next text rest : List ℕ) → count ≡ suc fewer
    → next ≡ file ++ (state_read classes text).0 → rest ≡ drop 1 (state_read classes text).1
    → behind next (states_read classes fewer rest) ≡ behind file (states_read classes count text)
states_more classes count fewer file next text rest e n r =
    (λ i. behind (n i) (states_read classes fewer (r i)))
    ∙ twice file (state_read classes text).0 (states_read classes fewer (drop 1 (state_read classes text).1))
    ∙ ap (λ k. behind file (states_read classes k text)) (sym e)
  where
    twice : (front more : List ℕ) (read : List ℕ × List ℕ) → behind (front ++ more) read ≡ behind front (behind more read)
    twice front more read = ap (λ t. (t, read.1)) (append_assoc front more read.0)

pub states_none : (classes count : ℕ) (file text : List ℕ) → count ≡ 0 → behind file (states_read classes count text) ≡ (file, text)
states_none classes count file text e = ap (λ k. behind file (states_read classes k text)) e ∙ ap (λ t. (t, text)) (append-nil file)

-- ---- the file

pub assembled : (text : List ℕ) (states classes : ℕ) (one two three four five table rest : List ℕ)
    → states ≡ (states_count text).0 → classes ≡ (classes_count text).0 → (table, rest) ≡ table_read text
    → one ≡ signature → two ≡ one ++ states ∷ [] → three ≡ two ++ classes ∷ [] → four ≡ three ++ table → five ≡ four ++ (states_read classes states rest).0
    → five ≡ file_read text
unfolding file_read
assembled text states classes one two three four five table rest s c t e1 e2 e3 e4 e5 =
    let front : three ≡ signature ++ (states ∷ classes ∷ []) = e3 ∙ ap (λ x. x ++ classes ∷ []) (e2 ∙ ap (λ x. x ++ states ∷ []) e1) in
    e5 ∙ ap (λ x. x ++ (states_read classes states rest).0) (e4 ∙ ap (λ x. x ++ table) front)
    ∙ (λ i. signature ++ (s i ∷ c i ∷ []) ++ (t i).0 ++ (states_read (c i) (s i) (t i).1).0)

pub table_is : (text : List ℕ) (classes : ℕ) (zeros rest : List ℕ) (read : List ℕ × List ℕ) → classes ≡ (classes_count text).0 → zeros ≡ replicate 256 0
    → rest ≡ drop 1 (classes_count text).1 → read ≡ classes_read (classes - 1) 1 (zeros, rest) → read ≡ table_read text
unfolding table_read
table_is text classes zeros rest read c z r e = e ∙ (λ i. classes_read (c i - 1) 1 (z i, r i))

-- ---- the text

pub whole_text : (file start one two three : List ℕ) → start ≡ [] → one ≡ start ++ counts_line (states_of file) (classes_of file)
    → two ≡ one ++ flat_map (class_line file) (range_with_len 1 (classes_of file - 1)) → three ≡ two ++ flat_map (state_line file) (range_with_len 0 (states_of file))
    → three ≡ machine_text file
unfolding machine_text
whole_text file start one two three s o t e =
    let classes = flat_map (class_line file) (range_with_len 1 (classes_of file - 1)) in
    let states = flat_map (state_line file) (range_with_len 0 (states_of file)) in
    e ∙ ap (λ x. x ++ states) (t ∙ ap (λ x. x ++ classes) (o ∙ ap (λ x. x ++ counts_line (states_of file) (classes_of file)) s))
    ∙ append_assoc (counts_line (states_of file) (classes_of file)) classes states
