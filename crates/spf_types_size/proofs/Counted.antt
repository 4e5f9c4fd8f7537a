-- What functions count by their number, and tables of it.
use Rattle.std.proofs.Common.{◌≡◌, ◌≢◌, ℕ, ◌+◌, ◌<◌, ◌≤◌, zero, suc, true, false, inl, inr, nat_eq, Some, List, [], ◌∷◌, ◌++◌, length, get_or, refl, sym, ap, ◌∙◌, subst, arith}
use Rattle.std.specs.Prelude.{slice_get}
use Rattle.std.proofs.lemmas.Bool.{cases_order}
use Rattle.std.proofs.lemmas.Bool.Decides.{nat_tests}
use Rattle.std.proofs.Math.Seq.{get_or-append_seam}
use Rattle.spf_ast.specs.Syntax.{Function}
use Rattle.spf_ast.specs.Size.{by_size, by_depth, by_slots, function_measure, counted_before}
use Rattle.spf_types_size.specs.declared.size.Size.{Size}
use Rattle.spf_types_size.specs.Sizes.{capped, IsSize, counts_before, HasSize, IsTable}

same_number : (n : ℕ) → nat_eq n n ≡ true
same_number n = grind (arith, nat_tests)

other_number : (k n : ℕ) → k ≢ n → nat_eq k n ≡ false
other_number k n h = grind (arith, nat_tests)

-- the function at an index counts what it is measured to be, given those before it
pub counted_at : (fs : List Function) (measure : (ℕ → ℕ) → Function → ℕ) (n : ℕ) (f : Function) → slice_get fs n ≡ Some f → counted_before fs measure (suc n) n ≡ measure (counted_before fs measure n) f
counted_at fs measure n f e = rw (same_number n, e) refl

-- any other function counts as it did
pub counted_other : (fs : List Function) (measure : (ℕ → ℕ) → Function → ℕ) (n k : ℕ) → k ≢ n → counted_before fs measure (suc n) k ≡ counted_before fs measure n k
counted_other fs measure n k h = rw (other_number k n h) refl

pub counted_stays : (fs : List Function) (measure : (ℕ → ℕ) → Function → ℕ) (n k d : ℕ) → k < n → counted_before fs measure (d + n) k ≡ counted_before fs measure n k
counted_stays fs measure n k zero h = ap (λ m. counted_before fs measure m k) (let e : 0 + n ≡ n = omega arith in e)
counted_stays fs measure n k (suc d) h =
    ap (λ m. counted_before fs measure m k) (let e : suc d + n ≡ suc (d + n) = omega arith in e)
    ∙ counted_other fs measure (d + n) k (λ same. omega (arith, h, same)) ∙ counted_stays fs measure n k d h

-- a function that isn't there counts nothing
pub counted_beyond : (fs : List Function) (measure : (ℕ → ℕ) → Function → ℕ) (n k : ℕ) → n ≤ k → counted_before fs measure n k ≡ 0
counted_beyond fs measure zero k h = refl
counted_beyond fs measure (suc n) k h = counted_other fs measure n k (λ same. omega (arith, h, same)) ∙ counted_beyond fs measure n k (omega (arith, h))

-- ---- tables

abbrev none : Size
none = record { nodes = 0; depth = 0; slots = 0 }

pub table_none : (fs : List Function) → IsTable (counts_before fs 0) []
table_none fs = λ f. record { nodes_is = refl; depth_is = refl; slots_is = refl }

other_item : (xs : List Size) (s d : Size) (k : ℕ) → k ≢ length xs → get_or (xs ++ s ∷ []) k d ≡ get_or xs k d
other_item [] s d zero h = absurd (h refl)
other_item [] s d (suc k) h = refl
other_item (x ∷ xs) s d zero h = refl
other_item (x ∷ xs) s d (suc k) h = other_item xs s d k (λ same. h (let e : suc k ≡ length (x ∷ xs) = ap suc same in e))

pub added : (n s m : ℕ) → s ≡ capped m → capped (n + s) ≡ capped (n + m)
added n s m h = omega (arith, h)

-- the size of one more function
pub table_more : (fs : List Function) (items : List Size) (n : ℕ) (f : Function) (size now : Size) → length items ≡ n → slice_get fs n ≡ Some f → IsTable (counts_before fs n) items → HasSize (counts_before fs n) (λ m. function_measure m f) size →
    now.nodes ≡ size.nodes → now.depth ≡ size.depth → now.slots ≡ capped (length f.slots + size.slots) → IsTable (counts_before fs (suc n)) (items ++ now ∷ [])
table_more fs items n f size now count at table has a b c = λ k. elim (cases_order k n) [ inl same ↦ subst (λ q. IsSize (get_or (items ++ now ∷ []) q none) ((counts_before fs (suc n)).nodes q) ((counts_before fs (suc n)).depth q) ((counts_before fs (suc n)).slots q)) (sym same) last | inr order ↦ before k (λ same. elim order [ inl l ↦ omega (arith, same, l) | inr g ↦ omega (arith, same, g) ]) ]
  where
    seam : get_or (items ++ now ∷ []) n none ≡ now
    seam = ap (λ q. get_or (items ++ now ∷ []) q none) (sym count) ∙ get_or-append_seam items now [] none

    last : IsSize (get_or (items ++ now ∷ []) n none) ((counts_before fs (suc n)).nodes n) ((counts_before fs (suc n)).depth n) ((counts_before fs (suc n)).slots n)
    last = record {
      nodes_is = ap (λ (z : Size). z.nodes) seam ∙ a ∙ has.nodes_is ∙ ap capped (sym (counted_at fs (λ sizes g. function_measure (by_size sizes) g) n f at));
      depth_is = ap (λ (z : Size). z.depth) seam ∙ b ∙ has.depth_is ∙ ap capped (sym (counted_at fs (λ depths g. function_measure (by_depth depths) g) n f at));
      slots_is = ap (λ (z : Size). z.slots) seam ∙ c ∙ added (length f.slots) size.slots _ has.slots_is ∙ ap capped (sym (counted_at fs (λ slots g. length g.slots + function_measure (by_slots slots) g) n f at));
    }

    before : (k : ℕ) → k ≢ n → IsSize (get_or (items ++ now ∷ []) k none) ((counts_before fs (suc n)).nodes k) ((counts_before fs (suc n)).depth k) ((counts_before fs (suc n)).slots k)
    before k ne =
        let item = other_item items now none k (λ same. ne (same ∙ count)) in
        let t = table k in
        record {
          nodes_is = ap (λ (z : Size). z.nodes) item ∙ t.nodes_is ∙ ap capped (sym (counted_other fs (λ sizes g. function_measure (by_size sizes) g) n k ne));
          depth_is = ap (λ (z : Size). z.depth) item ∙ t.depth_is ∙ ap capped (sym (counted_other fs (λ depths g. function_measure (by_depth depths) g) n k ne));
          slots_is = ap (λ (z : Size). z.slots) item ∙ t.slots_is ∙ ap capped (sym (counted_other fs (λ slots g. length g.slots + function_measure (by_slots slots) g) n k ne));
        }
