-- A linear congruential generator, and the inputs that are drawn from it.
use Rattle.std.specs.Prelude.{
  ◌≡◌,
  ℕ,
  zero,
  suc,
  ◌+◌,
  ◌-◌,
  ◌*◌,
  ◌/◌,
  ◌%◌,
  ◌<◌,
  ◌≤◌,
  ◌^◌,
  if◌then◌else◌,
  ◌==◌,
  List,
  [],
  ◌∷◌,
  ◌++◌,
  length,
  map,
  replicate,
  slice_index,
  codes,
}
use Rattle.spf_apps_formats.specs.declared.generate.Kind.{Kind}
use Rattle.spf_apps_formats.specs.declared.generate.Kind.TheVariants.{Unpack, Unhuff, Lex}
use Rattle.spf_apps_formats.specs.Huf1.{Encodes}

-- the state after a draw
abbrev pub next_state : ℕ → ℕ
next_state x = (x * 6364136223846793005 + 1442695040888963407) % 2 ^ 64

-- what a state gives: its highest 32 bits
abbrev pub given_by : ℕ → ℕ
given_by x = x / 2 ^ 32

-- the state after this many draws
abbrev pub state_after : ℕ → ℕ → ℕ
state_after zero x = x
state_after (suc n) x = state_after n (next_state x)

-- this many draws
abbrev pub draws : ℕ → ℕ → List ℕ
draws zero x = []
draws (suc n) x = given_by (next_state x) ∷ draws n (next_state x)

-- each draw modulo 256
abbrev pub drawn_bytes : ℕ → ℕ → List ℕ
drawn_bytes n x = map (λ d. d % 256) (draws n x)

-- each draw modulo 16 picks from a table
abbrev pub picked_bytes : List ℕ → ℕ → ℕ → List ℕ
picked_bytes table n x = map (λ d. slice_index table (d % 16)) (draws n x)

-- ---- PackBits

-- n + 1 bytes that are copied, and the state after them
abbrev pub literal : ℕ → ℕ → List ℕ × ℕ
literal n x = (n ∷ drawn_bytes (n + 1) x, state_after (n + 1) x)

-- a byte that is repeated n times, and the state after it
abbrev pub repeat : ℕ → ℕ → List ℕ × ℕ
repeat n x = ((257 - n) ∷ drawn_bytes 1 x, state_after 1 x)

-- the packet that a draw of d begins, with the state after that draw
abbrev pub packet_of : ℕ → ℕ → List ℕ × ℕ
packet_of d x = if d % 2 == 0 then literal (d / 2 % 128) x else repeat (2 + d / 2 % 127) x

-- the next packet, and the state after it
abbrev pub packet_from : ℕ → List ℕ × ℕ
packet_from x = packet_of (given_by (next_state x)) (next_state x)

-- this many packets, and the state after them
abbrev pub packets : ℕ → ℕ → List ℕ × ℕ
packets zero x = ([], x)
packets (suc n) x =
    let before = packets n x in
    let next = packet_from before.1 in
    (before.0 ++ next.0, next.1)

-- packets from this seed: the fewest that together have the size
pub record IsPacked (seed size : ℕ) (file : List ℕ) : Type 0 where
  pub count : ℕ
  pub file_is : file ≡ (packets count seed).0
  pub reaches : size ≤ length file
  pub fewest : (fewer : ℕ) → fewer < count → length (packets fewer seed).0 < size

-- ---- HUF1

-- symbols 0 to 4 have code words
abbrev pub five_lengths : List ℕ
five_lengths = (1 ∷ 2 ∷ 3 ∷ 4 ∷ 4 ∷ []) ++ replicate 251 0

-- symbol 0 is picked by 8 draws of 16, symbol 1 by 4, symbol 2 by 2, and symbols 3 and 4 by one each
abbrev pub five_symbols : List ℕ
five_symbols = replicate 8 0 ++ replicate 4 1 ++ replicate 2 2 ++ (3 ∷ 4 ∷ [])

-- ---- lexers

abbrev pub letters : List ℕ
letters = codes "abcdefgh  " ++ (10 ∷ []) ++ codes "\"/*1+"

-- ---- inputs

abbrev pub IsGenerated : Kind → ℕ → ℕ → List ℕ → Type 0
IsGenerated Unpack seed size file = IsPacked seed size file
IsGenerated Unhuff seed size file = Encodes five_lengths (picked_bytes five_symbols size seed) file
IsGenerated Lex seed size file = file ≡ picked_bytes letters size seed
