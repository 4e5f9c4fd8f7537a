-- PackBits (TIFF 6.0, section 9): packets, each a header and its data.
use Rattle.std.specs.Prelude.{◌≡◌, ℕ, ◌+◌, ◌-◌, ◌<◌, if◌then◌else◌, ◌==◌, nat_lt, List, [], ◌∷◌, ◌++◌, length, drop, replicate}
use Rattle.std.specs.List.{AllByRecursion, flat_map}

-- a header byte, and the bytes after it
pub record Packet : Type 0 where
  pub header : ℕ
  pub bytes : List ℕ

-- how many bytes of data a header needs: n + 1 for n of 0 to 127, none for 128, which is -128 as a signed byte, and one for 129 to 255, which are -127 to -1
abbrev pub data_size : ℕ → ℕ
data_size header = if nat_lt header 128 then header + 1 else if header == 128 then 0 else 1

abbrev pub IsPacket : Packet → Type 0
IsPacket p = length p.bytes ≡ data_size p.header

abbrev pub packet_bytes : Packet → List ℕ
packet_bytes p = p.header ∷ p.bytes

-- what a packet stands for: its data, or its one byte repeated 1 - n times for the signed header n
abbrev pub unpacked : Packet → List ℕ
unpacked p = if nat_lt p.header 128 then p.bytes else flat_map (λ b. replicate (257 - p.header) b) p.bytes

-- what is cut off at the end of a file: nothing, or a header with fewer data than it needs
abbrev pub IsRest : List ℕ → Type 0
IsRest [] = Unit {0}
IsRest (header ∷ bytes) = length bytes < data_size header

-- the file is these packets, and then this rest
pub record IsCut (file : List ℕ) (packets : List Packet) (rest : List ℕ) : Type 0 where
  pub packets_are : AllByRecursion IsPacket packets
  pub rest_is : IsRest rest
  pub file_is : file ≡ flat_map packet_bytes packets ++ rest

-- what the file stands for: what its packets do, and then the data of the rest
pub record Unpacks (file output : List ℕ) : Type 0 where
  pub packets : List Packet
  pub rest : List ℕ
  pub cut : IsCut file packets rest
  pub output_is : output ≡ flat_map unpacked packets ++ drop 1 rest
