-- PackBits read byte by byte: how many bytes are left to be copied, or how often the next one is repeated.
use Rattle.std.proofs.Common.{◌≡◌, ℕ, zero, suc, ◌+◌, ◌-◌, ◌<◌, ◌≤◌, Bool, true, false, List, [], ◌∷◌, ◌++◌, length, drop, replicate, ℤ, pos, negsuc, refl, ap, sym, ◌∙◌, subst, arith, append_assoc}
use Rattle.std.specs.Prelude.{◌==◌, nat_lt, if◌then◌else◌, ◌-ℤ◌}
use Rattle.std.specs.List.{AllByRecursion, flat_map}
use Rattle.std.proofs.lemmas.Int.{ints}
use Rattle.std.proofs.lemmas.Bool.Decides.{nat_tests}
use Rattle.std.proofs.lemmas.List.{append-nil}
use Rattle.spf_apps_formats.specs.PackBits.{Packet, data_size, IsPacket, packet_bytes, unpacked, IsRest, Unpacks}

-- what a header leaves to be done
abbrev pub after_header : ℕ → ℤ
after_header b = if nat_lt b 128 then pos (suc b) else if b == 128 then pos 0 else pos b -ℤ pos 257

-- what is left to be done after a byte
abbrev pub next_left : ℤ → ℕ → ℤ
next_left (pos zero) b = after_header b
next_left (pos (suc n)) b = pos n
next_left (negsuc n) b = pos 0

-- how often a byte is written
abbrev pub times_of : ℤ → ℕ
times_of (pos zero) = 0
times_of (pos (suc n)) = 1
times_of (negsuc n) = suc n

-- what bytes stand for, where this is left to be done
abbrev pub read_on : ℤ → List ℕ → List ℕ
read_on left [] = []
read_on left (b ∷ bytes) = replicate (times_of left) b ++ read_on (next_left left b) bytes

-- bytes that are copied
copied : (bytes more : List ℕ) → read_on (pos (length bytes)) (bytes ++ more) ≡ bytes ++ read_on (pos 0) more
copied [] more = refl
copied (b ∷ bytes) more = ap (λ l. b ∷ l) (copied bytes more)

-- as far as there are any
copied_short : (bytes : List ℕ) (n : ℕ) → length bytes ≤ n → read_on (pos n) bytes ≡ bytes
copied_short [] n h = refl
copied_short (b ∷ bytes) zero h = absurd (omega (arith, h))
copied_short (b ∷ bytes) (suc n) h = ap (λ l. b ∷ l) (copied_short bytes n (omega (arith, h)))

-- what the header is
pub data Header (b : ℕ) : Type 0 where
  copies : b < 128 → Header b
  skips : b ≡ 128 → Header b
  repeats : 128 < b → Header b

pub header_of : (b : ℕ) → Header b
header_of b = by_test (nat_lt b 128) refl (b == 128) refl
  where
    by_test : (c : Bool) → nat_lt b 128 ≡ c → (d : Bool) → (b == 128) ≡ d → Header b
    by_test true e d f = copies (grind (arith, nat_tests, e))
    by_test false e true f = skips (grind (arith, nat_tests, f))
    by_test false e false f = repeats (grind (arith, nat_tests, e, f))

-- the tests on a header
low_test : (b : ℕ) → b < 128 → nat_lt b 128 ≡ true
low_test b h = grind (arith, nat_tests, h)

high_test : (b : ℕ) → 128 ≤ b → nat_lt b 128 ≡ false
high_test b h = grind (arith, nat_tests, h)

other_test : (b : ℕ) → 128 < b → (b == 128) ≡ false
other_test b h = grind (arith, nat_tests, h)

pub copies_left : (b : ℕ) → b < 128 → after_header b ≡ pos (suc b)
copies_left b h = ap (λ c. if c then pos (suc b) else if b == 128 then pos 0 else pos b -ℤ pos 257) (low_test b h)

pub repeats_left : (b : ℕ) → 128 < b → b < 256 → after_header b ≡ negsuc (256 - b)
repeats_left b h k =
    (λ i. if high_test b (omega (arith, h)) i then pos (suc b) else if other_test b h i then pos 0 else pos b -ℤ pos 257) ∙ difference
  where
    difference : pos b -ℤ pos 257 ≡ negsuc (256 - b)
    difference = grind (arith, ints, h, k)

size_low : (b : ℕ) → b < 128 → data_size b ≡ b + 1
size_low b h = ap (λ c. if c then b + 1 else if b == 128 then 0 else 1) (low_test b h)

size_high : (b : ℕ) → 128 < b → data_size b ≡ 1
size_high b h = λ i. if high_test b (omega (arith, h)) i then b + 1 else if other_test b h i then 0 else 1

-- a whole packet
packet_read : (header : ℕ) (bytes more : List ℕ) → header < 256 → length bytes ≡ data_size header → read_on (pos 0) (header ∷ (bytes ++ more)) ≡ unpacked (record { header = header; bytes = bytes }) ++ read_on (pos 0) more
packet_read header bytes more small size = by_header (header_of header)
  where
    by_header : Header header → read_on (pos 0) (header ∷ (bytes ++ more)) ≡ unpacked (record { header = header; bytes = bytes }) ++ read_on (pos 0) more
    by_header (copies h) =
        let many : suc header ≡ length bytes = omega (arith, size, size_low header h) in
        ap (λ l. read_on l (bytes ++ more)) (copies_left header h ∙ ap pos many)
        ∙ copied bytes more
        ∙ ap (λ c. (if c then bytes else flat_map (λ b. replicate (257 - header) b) bytes) ++ read_on (pos 0) more) (sym (low_test header h))
    by_header (skips e) = subst (λ h. length bytes ≡ data_size h → read_on (pos 0) (h ∷ (bytes ++ more)) ≡ unpacked (record { header = h; bytes = bytes }) ++ read_on (pos 0) more) (sym e) (none bytes) size
      where
        none : (l : List ℕ) → length l ≡ 0 → read_on (pos 0) (128 ∷ (l ++ more)) ≡ unpacked (record { header = 128; bytes = l }) ++ read_on (pos 0) more
        none [] k = refl
        none (x ∷ l) k = absurd (omega (arith, k))
    by_header (repeats h) = one bytes (size ∙ size_high header h)
      where
        one : (l : List ℕ) → length l ≡ 1 → read_on (pos 0) (header ∷ (l ++ more)) ≡ unpacked (record { header = header; bytes = l }) ++ read_on (pos 0) more
        one [] k = absurd (omega (arith, k))
        one (x ∷ []) k =
            ap (λ l. read_on l (x ∷ more)) (repeats_left header h small)
            ∙ ap (λ n. replicate n x ++ read_on (pos 0) more) (let times : suc (256 - header) ≡ 257 - header = omega (arith, small) in times)
            ∙ ap (λ l. l ++ read_on (pos 0) more) (sym (append-nil (replicate (257 - header) x)))
            ∙ ap (λ c. (if c then x ∷ [] else flat_map (λ b. replicate (257 - header) b) (x ∷ [])) ++ read_on (pos 0) more) (sym (high_test header (omega (arith, h))))
        one (x ∷ y ∷ l) k = absurd (omega (arith, k))

-- a packet that is cut off
rest_read : (rest : List ℕ) → AllByRecursion (λ b. b < 256) rest → IsRest rest → read_on (pos 0) rest ≡ drop 1 rest
rest_read [] small r = refl
rest_read (header ∷ bytes) small r = by_header (header_of header)
  where
    by_header : Header header → read_on (pos 0) (header ∷ bytes) ≡ bytes
    by_header (copies h) = ap (λ l. read_on l bytes) (copies_left header h) ∙ copied_short bytes (suc header) (omega (arith, r, size_low header h))
    by_header (skips e) = absurd (let few : length bytes < data_size 128 = subst (λ h. length bytes < data_size h) e r in omega (arith, few))
    by_header (repeats h) = none bytes (omega (arith, r, size_high header h))
      where
        none : (l : List ℕ) → length l ≤ 0 → read_on (pos 0) (header ∷ l) ≡ l
        none [] k = refl
        none (x ∷ l) k = absurd (omega (arith, k))

-- the parts of a list that all pass a test
parts : (a b : List ℕ) → AllByRecursion (λ n. n < 256) (a ++ b) → AllByRecursion (λ n. n < 256) b
parts [] b h = h
parts (x ∷ a) b h = parts a b h.1

cut_read : (packets : List Packet) (rest : List ℕ) → AllByRecursion IsPacket packets → IsRest rest → AllByRecursion (λ b. b < 256) (flat_map packet_bytes packets ++ rest) → read_on (pos 0) (flat_map packet_bytes packets ++ rest) ≡ flat_map unpacked packets ++ drop 1 rest
cut_read [] rest h r small = rest_read rest small r
cut_read (p ∷ packets) rest h r small =
    let whole = append_assoc (packet_bytes p) (flat_map packet_bytes packets) rest in
    let each = subst (AllByRecursion (λ b. b < 256)) whole small in
    ap (read_on (pos 0)) whole
    ∙ packet_read p.header p.bytes (flat_map packet_bytes packets ++ rest) each.0 h.0
    ∙ ap (λ l. unpacked p ++ l) (cut_read packets rest h.1 r (parts (packet_bytes p) (flat_map packet_bytes packets ++ rest) each))
    ∙ sym (append_assoc (unpacked p) (flat_map unpacked packets) (drop 1 rest))

-- a file read byte by byte gives what it stands for
pub file_read : (file output : List ℕ) → AllByRecursion (λ b. b < 256) file → Unpacks file output → read_on (pos 0) file ≡ output
file_read file output small u =
    ap (read_on (pos 0)) u.cut.file_is
    ∙ cut_read u.packets u.rest u.cut.packets_are u.cut.rest_is (subst (AllByRecursion (λ b. b < 256)) u.cut.file_is small)
    ∙ sym u.output_is
