-- What functions count by their number, and tables of it.
use Rattle.std.proofs.Common.{◌≡◌, ◌≢◌, ℕ, zero, suc, true, false, inl, inr, nat_eq, Some, List, [], ◌∷◌, ◌++◌, length, get_or, refl, sym, ap, ◌∙◌, subst, arith}
use Rattle.std.specs.Prelude.{slice_get}
use Rattle.std.proofs.lemmas.Bool.{cases_order}
use Rattle.std.proofs.lemmas.Bool.Decides.{nat_tests}
use Rattle.std.proofs.Math.Seq.{get_or-append_seam}
use Rattle.spf_ast.specs.Syntax.{Function}
use Rattle.spf_code_registers.specs.Registers.{function_needs, rooms_before}
use Rattle.spf_code_registers.specs.Counted.{capped, IsTable}

same_number : (n : ℕ) → nat_eq n n ≡ true
same_number n = grind (arith, nat_tests)

other_number : (k n : ℕ) → k ≢ n → nat_eq k n ≡ false
other_number k n h = grind (arith, nat_tests)

-- a call of the function at an index needs what the function needs, given those before it
room_at : (fs : List Function) (n : ℕ) (f : Function) → slice_get fs n ≡ Some f → rooms_before fs (suc n) n ≡ function_needs (rooms_before fs n) f
room_at fs n f e = rw (same_number n, e) refl

-- any other function needs what it did
room_other : (fs : List Function) (n k : ℕ) → k ≢ n → rooms_before fs (suc n) k ≡ rooms_before fs n k
room_other fs n k h = rw (other_number k n h) refl

-- ---- tables

pub table_none : (fs : List Function) → IsTable (rooms_before fs 0) []
table_none fs = λ f. refl

other_item : (xs : List ℕ) (s d k : ℕ) → k ≢ length xs → get_or (xs ++ s ∷ []) k d ≡ get_or xs k d
other_item [] s d zero h = absurd (h refl)
other_item [] s d (suc k) h = refl
other_item (x ∷ xs) s d zero h = refl
other_item (x ∷ xs) s d (suc k) h = other_item xs s d k (λ same. h (let e : suc k ≡ length (x ∷ xs) = ap suc same in e))

-- the room of one more function
pub table_more : (fs : List Function) (items : List ℕ) (n : ℕ) (f : Function) (now : ℕ) → length items ≡ n → slice_get fs n ≡ Some f → IsTable (rooms_before fs n) items → now ≡ capped (function_needs (rooms_before fs n) f) → IsTable (rooms_before fs (suc n)) (items ++ now ∷ [])
table_more fs items n f now count at table has = λ k. elim (cases_order k n) [ inl same ↦ subst (λ q. get_or (items ++ now ∷ []) q 0 ≡ capped (rooms_before fs (suc n) q)) (sym same) last | inr order ↦ before k (λ same. elim order [ inl l ↦ omega (arith, same, l) | inr g ↦ omega (arith, same, g) ]) ]
  where
    seam : get_or (items ++ now ∷ []) n 0 ≡ now
    seam = ap (λ q. get_or (items ++ now ∷ []) q 0) (sym count) ∙ get_or-append_seam items now [] 0

    last : get_or (items ++ now ∷ []) n 0 ≡ capped (rooms_before fs (suc n) n)
    last = seam ∙ has ∙ ap capped (sym (room_at fs n f at))

    before : (k : ℕ) → k ≢ n → get_or (items ++ now ∷ []) k 0 ≡ capped (rooms_before fs (suc n) k)
    before k ne = other_item items now 0 k (λ same. ne (same ∙ count)) ∙ table k ∙ ap capped (sym (room_other fs n k ne))
