-- An input of each kind, seed and size is generated, and only one.
use Rattle.std.proofs.Common.{◌≡◌, ◌⊎◌, inl, inr, ℕ, zero, suc, ◌+◌, ◌-◌, ◌*◌, ◌/◌, ◌%◌, ◌^◌, ◌<◌, ◌≤◌, Bool, true, false, List, [], ◌∷◌, ◌++◌, length, replicate, refl, ap, sym, ◌∙◌, subst, arith, rules, append_assoc, append-nil, length-append}
use Rattle.std.specs.Prelude.{slice_index, slice_index_or, ◌==◌, if◌then◌else◌}
use Rattle.std.specs.Int.{to_be_bytes, w32}
use Rattle.std.specs.List.{AllByRecursion}
use Rattle.std.proofs.Math.Nat.{pow-suc}
use Rattle.std.proofs.lemmas.List.Elements.{All-nil, All-cons, All-head, All-tail, All-append, All-push, All-map, All-replicate, All-from_recursion}
use Rattle.spf_apps_formats.specs.declared.generate.Kind.{Kind}
use Rattle.spf_apps_formats.specs.declared.generate.Kind.TheVariants.{Unpack, Unhuff, Lex}
use Rattle.spf_apps_formats.specs.Huffman.{bits, bits_of, code_words}
use Rattle.spf_apps_formats.specs.Huf1.{Holds, Encodes, header, signature}
use Rattle.spf_apps_formats.specs.Draws.{given_by, next_state, draws, drawn_bytes, picked_bytes, literal, repeat, packet_of, packet_from, packets, IsPacked, five_lengths, five_symbols, letters, IsGenerated}
use Rattle.spf_apps_formats.specs.Laws.{AreBytes}
use Rattle.spf_apps_formats.proofs.BitStrings.{partial_more, whole_more, fits_byte, padded, unpadded}
use Rattle.spf_apps_formats.proofs.PrefixFree.{bits_length, same_bits, begin_alike}
use Rattle.spf_apps_formats.proofs.Five.{five_are_lengths, picked_have_words}

-- ---- bytes

abbrev IsByte : ℕ → Type 0
IsByte b = b < 256

bytes-append : (xs ys : List ℕ) → AreBytes xs → AreBytes ys → AreBytes (xs ++ ys)
bytes-append xs ys h k = All-append IsByte xs ys h k

bytes-after : (xs ys : List ℕ) → AreBytes (xs ++ ys) → AreBytes ys
bytes-after [] ys h = h
bytes-after (x ∷ xs) ys h = bytes-after xs ys (All-tail IsByte x (xs ++ ys) h)

-- ---- bits in bytes

-- whole bytes, and the bits of a partial one
record Stands (l : List Bool) : Type 0 where
  bytes : List ℕ
  count : ℕ
  partial : ℕ
  few : count < 8
  fits : partial < 2 ^ count
  are_bytes : AreBytes bytes
  bits_are : bits_of bytes ++ bits count partial ≡ l

next_fits : (count partial b : ℕ) → partial < 2 ^ count → b < 2 → partial * 2 + b < 2 ^ suc count
next_fits count partial b h k = omega (arith, h, k, pow-suc 2 count)

abbrev number_of : Bool → ℕ
number_of bit = if bit then 1 else 0

number_below : (bit : Bool) → number_of bit < 2
number_below true = omega arith
number_below false = omega arith

full_or_not : (count : ℕ) → count < 8 → (count ≡ 7) ⊎ (suc count < 8)
full_or_not count h = grind arith

stands-more : (l : List Bool) (bit : Bool) → Stands l → Stands (l ++ bit ∷ [])
stands-more l bit s = by_count (full_or_not s.count s.few)
  where
    byte : ℕ
    byte = s.partial * 2 + number_of bit

    byte_fits : byte < 2 ^ suc s.count
    byte_fits = next_fits s.count s.partial (number_of bit) s.fits (number_below bit)

    by_count : (s.count ≡ 7) ⊎ (suc s.count < 8) → Stands (l ++ bit ∷ [])
    by_count (inl full) = record {
      bytes = s.bytes ++ byte ∷ [];
      count = 0;
      partial = 0;
      few = omega arith;
      fits = omega arith;
      are_bytes = All-push IsByte s.bytes byte s.are_bytes (subst (λ n. byte < 2 ^ suc n) full byte_fits);
      bits_are = whole_more s.bytes (s.bytes ++ byte ∷ []) s.count s.partial (number_of bit) bit full refl refl ∙ ap (λ r. r ++ bit ∷ []) s.bits_are;
    }
    by_count (inr more) = record {
      bytes = s.bytes;
      count = suc s.count;
      partial = byte;
      few = more;
      fits = byte_fits;
      are_bytes = s.are_bytes;
      bits_are = partial_more s.bytes s.count s.partial (number_of bit) bit refl ∙ ap (λ r. r ++ bit ∷ []) s.bits_are;
    }

stands-all : (l done : List Bool) → Stands done → Stands (done ++ l)
stands-all [] done s = subst Stands (sym (append-nil done)) s
stands-all (bit ∷ l) done s = subst Stands (append_assoc done (bit ∷ []) l) (stands-all l (done ++ bit ∷ []) (stands-more done bit s))

none_stands : Stands []
none_stands = record { bytes = []; count = 0; partial = 0; few = omega arith; fits = omega arith; are_bytes = All-nil IsByte; bits_are = refl }

-- bits as bytes
abbrev Packed : List Bool → Type 0
Packed l = (bytes : List ℕ) × AreBytes bytes × Holds l bytes

some_or_none : (count : ℕ) → (0 < count) ⊎ (count ≡ 0)
some_or_none count = grind arith

packed-stands : (l : List Bool) → Stands l → Packed l
packed-stands l s = by_count (some_or_none s.count)
  where
    byte : ℕ
    byte = s.partial * 2 ^ (8 - s.count)

    by_count : (0 < s.count) ⊎ (s.count ≡ 0) → Packed l
    by_count (inl some) = (
      s.bytes ++ byte ∷ [],
      All-push IsByte s.bytes byte s.are_bytes (fits_byte s.count s.partial s.few s.fits),
      subst (λ r. Holds r (s.bytes ++ byte ∷ [])) s.bits_are (padded s.bytes (s.bytes ++ byte ∷ []) s.count s.partial some s.few refl),
    )
    by_count (inr none) = (s.bytes, s.are_bytes, subst (λ r. Holds r s.bytes) s.bits_are (unpadded s.bytes s.count s.partial none))

all_packed : (l : List Bool) → Packed l
all_packed l = packed-stands l (stands-all l [] none_stands)

-- ---- bytes of bits

bits_of-length : (bytes : List ℕ) → length (bits_of bytes) ≡ 8 * length bytes
bits_of-length [] = refl
bits_of-length (b ∷ bytes) = omega (arith, length-append (bits 8 b) (bits_of bytes), bits_length 8 b, bits_of-length bytes)

-- bytes with the same bits are the same
bytes_of-once : (xs ys : List ℕ) → AreBytes xs → AreBytes ys → bits_of xs ≡ bits_of ys → xs ≡ ys
bytes_of-once [] [] h k e = refl
bytes_of-once [] (y ∷ ys) h k e = absurd (let n = ap (λ (l : List Bool). length l) e in omega (arith, n))
bytes_of-once (x ∷ xs) [] h k e = absurd (let n = ap (λ (l : List Bool). length l) e in omega (arith, n))
bytes_of-once (x ∷ xs) (y ∷ ys) h k e =
    let alike = begin_alike (bits 8 x) (bits 8 y) (bits_of xs) (bits_of ys) refl e in
    let first = same_bits 8 x y (All-head IsByte x xs h) (All-head IsByte y ys k) alike.0 in
    let rest = bytes_of-once xs ys (All-tail IsByte x xs h) (All-tail IsByte y ys k) alike.1 in
    (λ i. first i ∷ rest i)

-- fewer than eight zeros make whole bytes in one way
held_once : (l : List Bool) (xs ys : List ℕ) → AreBytes xs → AreBytes ys → Holds l xs → Holds l ys → xs ≡ ys
held_once l xs ys h k a b = bytes_of-once xs ys h k (a.bits_are ∙ ap (λ n. l ++ replicate n false) same ∙ sym b.bits_are)
  where
    zeros : (n : ℕ) → length (replicate n false) ≡ n
    zeros zero = refl
    zeros (suc n) = ap suc (zeros n)

    whole : (bytes : List ℕ) (n : ℕ) → bits_of bytes ≡ l ++ replicate n false → 8 * length bytes ≡ length l + n
    whole bytes n e = omega (arith, bits_of-length bytes, ap (λ (r : List Bool). length r) e, length-append l (replicate n false), zeros n)

    same : a.padding ≡ b.padding
    same = omega (arith, whole xs a.padding a.bits_are, whole ys b.padding b.bits_are, a.few, b.few)

-- ---- drawn bytes

any_offset : (xs : List ℕ) → AllByRecursion IsByte xs → (k : ℕ) → slice_index xs k < 256
any_offset [] h k = omega arith
any_offset (x ∷ xs) h zero = h.0
any_offset (x ∷ xs) h (suc k) = any_offset xs h.1 k

letter_is_byte : (k : ℕ) → slice_index letters k < 256
letter_is_byte k = any_offset letters (search rules) k

letters-bytes : (n x : ℕ) → AreBytes (picked_bytes letters n x)
letters-bytes n x = All-map IsByte (λ d. slice_index letters (d % 16)) (draws n x) (λ k d less. letter_is_byte (slice_index_or (draws n x) k d % 16))

drawn-bytes : (n x : ℕ) → AreBytes (drawn_bytes n x)
drawn-bytes n x = All-map IsByte (λ d. d % 256) (draws n x) (λ k d less. omega arith)

-- ---- packets

-- a packet has some bytes
abbrev HasBytes : List ℕ → Type 0
HasBytes xs = AreBytes xs × (1 ≤ length xs)

packet-bytes : (d x : ℕ) → HasBytes (packet_of d x).0
packet-bytes d x = by_kind (d % 2 == 0)
  where
    by_kind : (b : Bool) → HasBytes (if b then literal (d / 2 % 128) x else repeat (2 + d / 2 % 127) x).0
    by_kind true = (All-cons IsByte (d / 2 % 128) (drawn_bytes (d / 2 % 128 + 1) x) (omega arith) (drawn-bytes (d / 2 % 128 + 1) x), omega arith)
    by_kind false = (All-cons IsByte (257 - (2 + d / 2 % 127)) (drawn_bytes 1 x) (omega arith) (drawn-bytes 1 x), omega arith)

packets-bytes : (n x : ℕ) → AreBytes (packets n x).0
packets-bytes zero x = All-nil IsByte
packets-bytes (suc n) x = bytes-append (packets n x).0 (packet_from (packets n x).1).0 (packets-bytes n x) (packet-bytes (given_by (next_state (packets n x).1)) (next_state (packets n x).1)).0

packets-reach : (n x : ℕ) → n ≤ length (packets n x).0
packets-reach zero x = omega arith
packets-reach (suc n) x =
    omega (arith, packets-reach n x, (packet-bytes (given_by (next_state (packets n x).1)) (next_state (packets n x).1)).1, length-append (packets n x).0 (packet_from (packets n x).1).0)

-- the least number at which a function reaches a size
record Least (f : ℕ → ℕ) (size : ℕ) : Type 0 where
  count : ℕ
  reaches : size ≤ f count
  fewest : (fewer : ℕ) → fewer < count → f fewer < size

compare : (a b : ℕ) → (a < b) ⊎ (b ≤ a)
compare a b = grind arith

split : (k n : ℕ) → k < suc n → (k < n) ⊎ (k ≡ n)
split k n h = grind arith

least_from : (f : ℕ → ℕ) (size more count end : ℕ) → end ≡ count + more → size ≤ f end → ((fewer : ℕ) → fewer < count → f fewer < size) → Least f size
least_from f size zero count end e h before =
    record { count = count; reaches = subst (λ n. size ≤ f n) (let same : end ≡ count = omega (arith, e) in same) h; fewest = before }
least_from f size (suc more) count end e h before = elim (compare (f count) size) [
  | inl short ↦ least_from f size more (suc count) end (omega (arith, e)) h (λ fewer less. elim (split fewer count less) [
    | inl earlier ↦ before fewer earlier
    | inr last ↦ subst (λ n. f n < size) (sym last) short
  ])
  | inr there ↦ record { count = count; reaches = there; fewest = before }
]

least : (f : ℕ → ℕ) (size : ℕ) → size ≤ f size → Least f size
least f size h = least_from f size size 0 size (omega arith) h (λ fewer less. absurd (omega (arith, less)))

-- ---- inputs

abbrev Generated : Kind → ℕ → ℕ → Type 0
Generated kind seed size = (file : List ℕ) × AreBytes file × IsGenerated kind seed size file

some_packed : (seed size : ℕ) → Generated Unpack seed size
some_packed seed size =
    let found = least (λ n. length (packets n seed).0) size (packets-reach size seed) in
    ((packets found.count seed).0, packets-bytes found.count seed, record { count = found.count; file_is = refl; reaches = found.reaches; fewest = found.fewest })

header-bytes : (n : ℕ) → AreBytes (header five_lengths n)
header-bytes n =
    bytes-append signature (five_lengths ++ to_be_bytes w32 n) (All-from_recursion IsByte signature (search rules))
    (bytes-append five_lengths (to_be_bytes w32 n) lengths (All-from_recursion IsByte (to_be_bytes w32 n) (omega arith, (omega arith, (omega arith, (omega arith, tt))))))
  where
    few : List ℕ
    few = 1 ∷ 2 ∷ 3 ∷ 4 ∷ 4 ∷ []

    lengths : AreBytes five_lengths
    lengths = bytes-append few (replicate 251 0) (All-from_recursion IsByte few (search rules)) (All-replicate IsByte 251 0 (omega arith))

some_encoded : (seed size : ℕ) → Generated Unhuff seed size
some_encoded seed size =
    let symbols = picked_bytes five_symbols size seed in
    let words = all_packed (code_words five_lengths symbols) in (
      header five_lengths (length symbols) ++ words.0,
      bytes-append (header five_lengths (length symbols)) words.0 (header-bytes (length symbols)) words.1,
      record { lengths_are = five_are_lengths; have_words = picked_have_words (length symbols) size seed; words = words.0; file_is = refl; words_are = words.2 },
    )

pub is_generated : (kind : Kind) (seed size : ℕ) → Generated kind seed size
is_generated Unpack seed size = some_packed seed size
is_generated Unhuff seed size = some_encoded seed size
is_generated Lex seed size = (picked_bytes letters size seed, letters-bytes size seed, refl)

order : (m n : ℕ) → (m < n) ⊎ ((m ≡ n) ⊎ (n < m))
order m n = grind arith

not_fewer : (seed size : ℕ) (file other : List ℕ) (a : IsPacked seed size file) (b : IsPacked seed size other) → a.count < b.count → ⊥
not_fewer seed size file other a b less = omega (arith, a.reaches, ap (λ (l : List ℕ). length l) a.file_is, b.fewest a.count less)

one_packed : (seed size : ℕ) (file other : List ℕ) → IsPacked seed size file → IsPacked seed size other → file ≡ other
one_packed seed size file other a b = a.file_is ∙ ap (λ n. (packets n seed).0) (same (order a.count b.count)) ∙ sym b.file_is
  where
    same : (a.count < b.count) ⊎ ((a.count ≡ b.count) ⊎ (b.count < a.count)) → a.count ≡ b.count
    same (inl less) = absurd (not_fewer seed size file other a b less)
    same (inr (inl e)) = e
    same (inr (inr more)) = absurd (not_fewer seed size other file b a more)

one_encoded : (lengths symbols file other : List ℕ) → AreBytes file → AreBytes other → Encodes lengths symbols file → Encodes lengths symbols other → file ≡ other
one_encoded lengths symbols file other h k a b =
    let front = header lengths (length symbols) in
    let same = held_once (code_words lengths symbols) a.words b.words (bytes-after front a.words (subst AreBytes a.file_is h)) (bytes-after front b.words (subst AreBytes b.file_is k)) a.words_are b.words_are in
    a.file_is ∙ ap (λ w. front ++ w) same ∙ sym b.file_is

pub generated_once : (kind : Kind) (seed size : ℕ) (file other : List ℕ) → AreBytes file → AreBytes other → IsGenerated kind seed size file → IsGenerated kind seed size other → file ≡ other
generated_once Unpack seed size file other h k a b = one_packed seed size file other a b
generated_once Unhuff seed size file other h k a b = one_encoded five_lengths (picked_bytes five_symbols size seed) file other h k a b
generated_once Lex seed size file other h k a b = a ∙ sym b
