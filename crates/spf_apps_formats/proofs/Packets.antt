-- Files of PackBits are cut into packets in one way.
use Rattle.std.proofs.Common.{◌≡◌, ◌⊎◌, inl, inr, ℕ, zero, suc, ◌+◌, ◌-◌, ◌<◌, ◌≤◌, List, [], ◌∷◌, ◌++◌, length, take, drop, refl, ap, sym, ◌∙◌, subst, arith, append_assoc, length-drop, length-append}
use Rattle.std.specs.List.{AllByRecursion, flat_map}
use Rattle.std.proofs.lemmas.List.{length-take-le, take-append-drop}
use Rattle.spf_apps_formats.specs.PackBits.{Packet, data_size, IsPacket, packet_bytes, unpacked, IsRest, IsCut, Unpacks}

-- ---- some way

abbrev Cut : List ℕ → Type 0
Cut file = (packets : List Packet) × (rest : List ℕ) × IsCut file packets rest

compare : (a b : ℕ) → (a < b) ⊎ (b ≤ a)
compare a b = grind arith

-- a packet before a file that is cut
in_front : (header k : ℕ) (bytes : List ℕ) → k ≡ data_size header → k ≤ length bytes → Cut (drop k bytes) → Cut (header ∷ bytes)
in_front header k bytes size enough (packets, rest, cut) = (
  record { header = header; bytes = take k bytes } ∷ packets,
  rest,
  record {
    packets_are = (length-take-le k bytes enough ∙ size, cut.packets_are);
    rest_is = cut.rest_is;
    file_is = ap (λ l. header ∷ l) (sym (take-append-drop k bytes) ∙ ap (λ l. take k bytes ++ l) cut.file_is ∙ sym (append_assoc (take k bytes) (flat_map packet_bytes packets) rest));
  },
)

some_cut : (n : ℕ) (file : List ℕ) → length file ≤ n → Cut file
some_cut n [] h = ([], [], record { packets_are = tt; rest_is = tt; file_is = refl })
some_cut zero (header ∷ bytes) h = absurd (omega (arith, h))
some_cut (suc n) (header ∷ bytes) h =
    by_size (compare (length bytes) (data_size header)) (λ enough. some_cut n (drop (data_size header) bytes) (omega (arith, h, length-drop (data_size header) bytes)))
  where
    by_size : (length bytes < data_size header) ⊎ (data_size header ≤ length bytes) → (data_size header ≤ length bytes → Cut (drop (data_size header) bytes)) → Cut (header ∷ bytes)
    by_size (inl few) later = ([], header ∷ bytes, record { packets_are = tt; rest_is = few; file_is = refl })
    by_size (inr enough) later = in_front header (data_size header) bytes refl enough (later enough)

pub is_cut : (file : List ℕ) → Cut file
is_cut file = some_cut (length file) file (omega arith)

-- ---- one way

-- two lists that begin with parts of one length begin alike, and go on alike
split_once : (a b x y : List ℕ) → length a ≡ length b → a ++ x ≡ b ++ y → (a ≡ b) × (x ≡ y)
split_once [] [] x y h e = (refl, e)
split_once [] (n ∷ b) x y h e = absurd (omega (arith, h))
split_once (m ∷ a) [] x y h e = absurd (omega (arith, h))
split_once (m ∷ a) (n ∷ b) x y h e =
    let heads : m ≡ n = cc in
    let tails : a ++ x ≡ b ++ y = cc in
    let rest = split_once a b x y (omega (arith, h)) tails in
    ((λ i. heads i ∷ rest.0 i), rest.1)

-- no rest begins with a packet
rest_no_packet : (rest : List ℕ) (p : Packet) (more : List ℕ) → IsRest rest → IsPacket p → rest ≡ packet_bytes p ++ more → ⊥
rest_no_packet [] p more r q e = cc
rest_no_packet (header ∷ bytes) p more r q e =
    let heads : header ≡ p.header = cc in
    let tails : bytes ≡ p.bytes ++ more = cc in
    omega (arith, r, q, ap data_size heads, ap (λ (l : List ℕ). length l) tails, length-append p.bytes more)

-- the packets and the rests of two cuts
abbrev Same : (packets others : List Packet) (rest other : List ℕ) → Type 0
Same packets others rest other = (packets ≡ others) × (rest ≡ other)

cut_once : (packets others : List Packet) (rest other : List ℕ) → AllByRecursion IsPacket packets → AllByRecursion IsPacket others → IsRest rest → IsRest other → flat_map packet_bytes packets ++ rest ≡ flat_map packet_bytes others ++ other → Same packets others rest other
cut_once [] [] rest other h k r s e = (refl, e)
cut_once [] (q ∷ others) rest other h k r s e =
    absurd (rest_no_packet rest q (flat_map packet_bytes others ++ other) r k.0 (e ∙ append_assoc (packet_bytes q) (flat_map packet_bytes others) other))
cut_once (p ∷ packets) [] rest other h k r s e =
    absurd (rest_no_packet other p (flat_map packet_bytes packets ++ rest) s h.0 (sym e ∙ append_assoc (packet_bytes p) (flat_map packet_bytes packets) rest))
cut_once (p ∷ packets) (q ∷ others) rest other h k r s e =
    let whole : p.header ∷ (p.bytes ++ (flat_map packet_bytes packets ++ rest)) ≡ q.header ∷ (q.bytes ++ (flat_map packet_bytes others ++ other)) =
    sym (append_assoc (packet_bytes p) (flat_map packet_bytes packets) rest) ∙ e ∙ append_assoc (packet_bytes q) (flat_map packet_bytes others) other in
    let heads : p.header ≡ q.header = cc in
    let tails : p.bytes ++ (flat_map packet_bytes packets ++ rest) ≡ q.bytes ++ (flat_map packet_bytes others ++ other) = cc in
    let parts = split_once p.bytes q.bytes (flat_map packet_bytes packets ++ rest) (flat_map packet_bytes others ++ other) (h.0 ∙ ap data_size heads ∙ sym k.0) tails in
    let later = cut_once packets others rest other h.1 k.1 r s parts.1 in
    ((λ i. record { header = heads i; bytes = parts.0 i } ∷ later.0 i), later.1)

pub one_cut : (file : List ℕ) (packets others : List Packet) (rest other : List ℕ) → IsCut file packets rest → IsCut file others other → Same packets others rest other
one_cut file packets others rest other c d =
    cut_once packets others rest other c.packets_are d.packets_are c.rest_is d.rest_is (sym c.file_is ∙ d.file_is)

pub one_output : (file output other : List ℕ) → Unpacks file output → Unpacks file other → output ≡ other
one_output file output other u v =
    let same = one_cut file u.packets v.packets u.rest v.rest u.cut v.cut in
    u.output_is ∙ (λ i. flat_map unpacked (same.0 i) ++ drop 1 (same.1 i)) ∙ sym v.output_is
