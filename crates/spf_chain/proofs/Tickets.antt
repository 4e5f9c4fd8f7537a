-- The tickets of the first attempts.
use Rattle.std.proofs.Common.{◌≡◌, ℕ, ◌+◌, ◌<◌, ◌≤◌, zero, suc, List, [], ◌∷◌, ◌++◌, length, refl, sym, ap, ◌∙◌, subst, inl, inr, Some, ℤ, pos, ◌+ℤ◌, ◌≤ℤ◌, arith, slice_get}
use Rattle.std.proofs.lemmas.Int.{ints}
use Rattle.spf_cells.specs.Values.{LaneValue, CellsValue}
use Rattle.spf_cells.specs.Made.{new_lane, new_lanes}
use Rattle.spf_ticket.specs.declared.ticket.Ticket.{Ticket}
use Rattle.spf_chain.specs.declared.block.ChainBlock.{ChainBlock}
use Rattle.spf_chain.specs.Beginning.{IsFirstTicket, AreFirstTickets}
use Rattle.spf_ast_lemmas.proofs.Indices.{index-within, last-index, earlier-index, one-longer, last_or_before}
use Rattle.spf_ast_lemmas.proofs.Members.{some_is}

lane-from : (k : CellsValue) (b n : ℕ) (ys : List LaneValue) (l : LaneValue) (rest : List LaneValue) → new_lanes k b n ≡ ys ++ l ∷ rest → (l ≡ new_lane k (b + length ys)) × (length ys < n)
lane-from k b zero [] l rest e = absurd cc
lane-from k b zero (y ∷ ys) l rest e = absurd cc
lane-from k b (suc n) [] l rest e =
    let head : new_lane k b ≡ l = cc in
    let here : b ≡ b + 0 = omega arith in
    (sym head ∙ ap (new_lane k) here, omega arith)
lane-from k b (suc n) (y ∷ ys) l rest e =
    let tail : new_lanes k (suc b) n ≡ ys ++ l ∷ rest = cc in
    let r = lane-from k (suc b) n ys l rest tail in
    let more : suc b + length ys ≡ b + suc (length ys) = omega arith in
    let low = r.1 in
    (r.0 ∙ ap (new_lane k) more, omega (arith, low))

-- the next one of n new lanes
pub next-lane : (k : CellsValue) (n : ℕ) (lanes ys rest : List LaneValue) (l : LaneValue) → lanes ≡ new_lanes k 0 n → lanes ≡ ys ++ l ∷ rest → (l ≡ new_lane k (length ys)) × (length ys < n)
next-lane k n lanes ys rest l new split =
    let r = lane-from k 0 n ys l rest (sym new ∙ split) in
    let here : 0 + length ys ≡ length ys = omega arith in
    (r.0 ∙ ap (new_lane k) here, r.1)

-- one more ticket
pub more-tickets : (k : CellsValue) (low : ℤ) (blocks : List ChainBlock) (frame : List ℤ) (n : ℕ) (old new : List Ticket) (t : Ticket)
    → AreFirstTickets k low blocks frame n old → IsFirstTicket (new_lane k n) low blocks frame n t → new ≡ old ++ t ∷ [] → AreFirstTickets k low blocks frame (n + 1) new
more-tickets k low blocks frame n old new t are one added = record {
  size = ap length added ∙ one-longer old t n are.size;
  each = λ i x at.
      let here : slice_get (old ++ t ∷ []) i ≡ Some x = ap (λ l. slice_get l i) (sym added) ∙ at in
      let inside = index-within (old ++ t ∷ []) i x here in
      let size = one-longer old t n are.size in
      elim (last_or_before i n (omega (arith, inside, size))) [
        | inl last ↦
            let is : t ≡ x = some_is t x (sym (last-index old t) ∙ ap (slice_get (old ++ t ∷ [])) (are.size ∙ sym last) ∙ here) in
            subst (λ m. IsFirstTicket (new_lane k m) low blocks frame m x) (sym last) (subst (IsFirstTicket (new_lane k n) low blocks frame n) is one)
        | inr before ↦ are.each i x (sym (earlier-index old (t ∷ []) i (omega (arith, before, are.size))) ∙ here)
      ];
}

pub no-tickets : (k : CellsValue) (low : ℤ) (blocks : List ChainBlock) (frame : List ℤ) → AreFirstTickets k low blocks frame 0 []
no-tickets k low blocks frame = record { size = refl; each = λ i x at. absurd cc }

-- a smaller block number fits too
pub smaller : (low : ℤ) (n m : ℕ) → n ≤ m → (low +ℤ pos m) ≤ℤ pos 9223372036854775807 → (low +ℤ pos n) ≤ℤ pos 9223372036854775807
smaller low n m le h = omega (arith, ints, le, h)

pub no-rest : (n : ℕ) (l : List LaneValue) → n ≡ 0 → n ≡ length l → l ≡ []
no-rest n [] z e = refl
no-rest n (x ∷ xs) z e = absurd (omega (arith, z, e))

pub length-new : (k : CellsValue) (b n : ℕ) → length (new_lanes k b n) ≡ n
length-new k b zero = refl
length-new k b (suc n) = ap suc (length-new k (suc b) n)
