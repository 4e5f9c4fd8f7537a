-- Stores and fills do no more than is found in them.
use Rattle.std.proofs.Common.{◌≡◌, ◌⊎◌, inl, inr, ℕ, zero, suc, ◌+◌, ◌<◌, ◌≤◌, Bool, true, false, List, [], ◌∷◌, ℤ, pos, negsuc, refl, ap, ◌∙◌, subst, arith}
use Rattle.std.specs.Prelude.{◌-ℤ◌, ◌≤ℤ◌, ◌-◌, Result, Ok, Err, if◌then◌else◌, ◌&&◌, ◌==◌, nat_le, int_le, int_lt}
use Rattle.std.specs.Ordering.{int_eq}
use Rattle.std.proofs.lemmas.Int.{ints}
use Rattle.std.proofs.lemmas.Bool.Decides.{Decides-int_eq, Decides-eqb}
use Rattle.spf_ast.specs.declared.outcome.TrapKind.{TrapKind}
use Rattle.spf_ast.specs.Interaction.{Flow, Onward, bind, State, Ending, Value, after_ending}
use Rattle.spf_ast.specs.Meaning.{Extent, extent_in, cell_of, cells_of, checked, stores, stores_each}
use Rattle.spf_region.specs.declared.bound.Bound.{Bound}
use Rattle.spf_region.specs.declared.bound.Bound.TheVariants.{Known, Unknown}
use Rattle.spf_region.specs.declared.range.Range.TheVariants.{Whole, Affine}
use Rattle.spf_region.specs.Ranges.{Offsets, joined, is_between}
use Rattle.spf_region.specs.Cells.{at_block}
use Rattle.spf_region.proofs.Bools.{and-left, and-right, or-cases, int-le-is}
use Rattle.spf_effects_findings.specs.Found.{◌then◌, writes_element, writes_range, may_write_between, surely_writes_between, may_write_whole}
use Rattle.spf_effects_laws.specs.Ways.{Keeps}
use Rattle.spf_effects_laws.proofs.Ways.{IsIn, in-first, in-rest, Grows}
use Rattle.spf_effects_laws.proofs.Meeting.{IsWithin, IsElement, IsAmong, AreStored, EndsWith, Meets}
use Rattle.spf_effects_laws.proofs.Meets.{among-left, meets-trap}
use Rattle.spf_effects_laws.proofs.Expressions.{cell_of-is}

pub stored-grows : (g : List Extent) (k : ℤ) (w : Offsets) (d e : List ℕ) → Grows d e → AreStored g k w d → AreStored g k w e
stored-grows g k w d e grows p a f o cell index is el at = grows cell (p a f o cell index is el at)

-- what is joined, and what was written before
pub stored-joined : (g : List Extent) (k : ℤ) (a : ℕ) (f from to : ℤ) (w : Offsets) (d : List ℕ) → ((o : ℤ) (cell index : ℕ) → from ≤ℤ o → o ≤ℤ to → IsElement (extent_in g a) cell index → pos index ≡ at_block k f o → IsIn cell d) → AreStored g k w d → AreStored g k (joined (Affine a f from to) w) d
stored-joined g k a f from to w d fresh old a' f' o cell index is el spot =
    go (or-cases ((a' == a) && (int_eq f' f && is_between from to o)) _ is)
  where
    go : (((a' == a) && (int_eq f' f && is_between from to o)) ≡ true) ⊎ (w a' f' o ≡ true) → IsIn cell d
    go (inr e) = old a' f' o cell index e el spot
    go (inl e) =
        let ea : a' ≡ a = (Decides-eqb a' a).0 (and-left _ _ e) in
        let rest = and-right (a' == a) _ e in
        let ef : f' ≡ f = (Decides-int_eq f' f).0 (and-left _ _ rest) in
        let tests = and-right (int_eq f' f) _ rest in
        let low : from ≤ℤ o = int-le-is from o (and-left _ _ tests) in
        let high : o ≤ℤ to = int-le-is o to (and-right (int_le from o) _ tests) in
        fresh o cell index low high (rw ea at el) (rw ef at spot)

-- two elements at one index are one cell
same-cell : (extent : Extent) (c d p q : ℕ) → IsElement extent c p → IsElement extent d q → pos p ≡ pos q → c ≡ d
same-cell extent c d p q x y e = let f : p ≡ q = cc in omega (arith, x.is, y.is)

-- the element at z has been stored
abbrev pub HasElement : List Extent → ℕ → ℤ → List ℕ → Type 0
HasElement g a z d = (cell index : ℕ) → IsElement (extent_in g a) cell index → pos index ≡ z → IsIn cell d

store-known : (g : List Extent) (k : ℤ) (a : ℕ) (f l h z : ℤ) (cell : ℕ) (w : Offsets) (done : List ℕ) → IsWithin k (Known f l h) z → HasElement g a z (cell ∷ done) → AreStored g k w (cell ∷ done) → (b : Bool) → int_eq l h ≡ b → AreStored g k (if b then joined (Affine a f l h) w else w) (cell ∷ done)
store-known g k a f l h z cell w done within has stored false e = stored
store-known g k a f l h z cell w done within has stored true e =
    let lh : l ≡ h = (Decides-int_eq l h).0 e in
    stored-joined g k a f l h w (cell ∷ done)
    (λ o c p low high el spot. has c p el (let same : o ≡ l = omega (arith, ints) in let at_l : pos p ≡ at_block k f l = rw same at spot in omega (arith, ints, within.0, within.1)))
    stored

store-found : (g : List Extent) (k : ℤ) (a : ℕ) (b : Bound) (z v : ℤ) (cell index : ℕ) (s : State) → IsWithin k b z → IsElement (extent_in g a) cell index → z ≡ pos index → Meets g k (writes_element a b) (λ u e d. (e.slots ≡ s.slots) × HasElement g a z d) (stores cell v s)
store-found g k a b z v cell index s within el is = go b within
  where
    has : (done : List ℕ) → HasElement g a z (cell ∷ done)
    has done c p el' e = in-first c cell done (same-cell (extent_in g a) c cell p index el' el (e ∙ is))

    more : (w : Offsets) (done : List ℕ) → AreStored g k w done → AreStored g k w (cell ∷ done)
    more w done stored = stored-grows g k w done (cell ∷ done) (λ c i. in-rest c cell done i) stored

    go : (b : Bound) → IsWithin k b z → Meets g k (writes_element a b) (λ u e d. (e.slots ≡ s.slots) × HasElement g a z d) (stores cell v s)
    go Unknown p = record { holds = λ w done stored. (inl (index, el), (more w done stored, (refl, has done))) }
    go (Known f l h) p = record {
      holds = λ w done stored. (
        inl (index, el, (rw is at p.0), (rw is at p.1)),
        (store-known g k a f l h z cell w done p (has done) (more w done stored) (int_eq l h) refl, (refl, has done)),
      );
    }

pub store-meets : (g : List Extent) (k : ℤ) (a : ℕ) (b : Bound) (z v : ℤ) (line : ℕ) (s : State) → IsWithin k b z → Meets g k (writes_element a b) (λ u e d. (e.slots ≡ s.slots) × HasElement g a z d) (bind (checked line (cell_of (extent_in g a) z) s) (after_ending (λ cell. stores cell v)))
store-meets g k a b z v line s within = go (cell_of (extent_in g a) z) refl
  where
    go : (r : Result ℕ TrapKind) → cell_of (extent_in g a) z ≡ r → Meets g k (writes_element a b) (λ u e d. (e.slots ≡ s.slots) × HasElement g a z d) (bind (checked line r s) (after_ending (λ cell. stores cell v)))
    go (Ok cell) e = let h = cell_of-is (extent_in g a) z cell e in store-found g k a b z v cell h.0 s within h.1 h.2
    go (Err why) e = meets-trap _ _

-- ---- a fill

each-keeps : (may bare : ℕ → Type 0) (ends : Ending Flow → List ℕ → Type 0) (n c : ℕ) (v : ℤ) (s : State) (done : List ℕ) → ((j : ℕ) → j < n → may (c + j)) → ((d : List ℕ) → Grows done d → ((j : ℕ) → j < n → IsIn (c + j) d) → ends (Value Onward s) d) → Keeps may bare ends done (stores_each c n v s)
each-keeps may bare ends zero c v s done m e = e done (λ d i. i) (λ j below. absurd (omega arith))
each-keeps may bare ends (suc n) c v s done m e = (
  subst may (omega arith) (m 0 (omega arith)),
  each-keeps may bare ends n (suc c) v s (c ∷ done)
      (λ j below. subst may (omega arith) (m (suc j) (omega arith)))
      (λ d grows all. e d (λ x i. grows x (in-rest x c done i)) (λ j below. go d grows all j below)),
)
  where
    go : (d : List ℕ) → Grows (c ∷ done) d → ((j : ℕ) → j < n → IsIn (suc c + j) d) → (j : ℕ) → j < suc n → IsIn (c + j) d
    go d grows all zero below = subst (λ x. IsIn x d) (omega arith) (grows c (in-first c c done refl))
    go d grows all (suc j) below = subst (λ x. IsIn x d) (omega arith) (all j (omega arith))

if-cells : (b : Bool) (p q : ℕ) (cells : ℕ × ℕ) (why : TrapKind) → (if b then Ok (p, q) else Err why) ≡ Ok cells → (b ≡ true) × (cells ≡ (p, q))
if-cells true p q cells why e = (refl, cc)
if-cells false p q cells why e = cc

-- a filled part of an array: its first index and the index after it
pub record IsPart (extent cells : ℕ × ℕ) (x y : ℤ) : Type 0 where
  pub first : ℕ
  pub past : ℕ
  pub from_is : x ≡ pos first
  pub to_is : y ≡ pos past
  pub ordered : first ≤ past
  pub within : past ≤ extent.1
  pub cell_is : cells.0 ≡ extent.0 + first
  pub count_is : cells.1 ≡ past - first

cells_of-is : (extent : Extent) (x y : ℤ) (cells : ℕ × ℕ) → cells_of extent x y ≡ Ok cells → IsPart extent cells x y
cells_of-is extent (pos i) (pos j) cells e =
    let h = if-cells (nat_le i j && nat_le j extent.1) (extent.0 + i) (j - i) cells _ e in
    let a : nat_le i j ≡ true = and-left _ _ h.0 in
    let b : nat_le j extent.1 ≡ true = and-right (nat_le i j) _ h.0 in
    record { first = i; past = j; from_is = refl; to_is = refl; ordered = grind (arith, a); within = grind (arith, b); cell_is = ap (λ c. c.0) h.1; count_is = ap (λ c. c.1) h.1 }
cells_of-is extent (pos i) (negsuc j) cells e = cc
cells_of-is extent (negsuc i) (pos j) cells e = cc
cells_of-is extent (negsuc i) (negsuc j) cells e = cc

-- what is filled where both factors are f
part-meets : (g : List Extent) (k : ℤ) (a : ℕ) (f l h m i x y v : ℤ) (cells : ℕ × ℕ) (s : State) → IsPart (extent_in g a) cells x y → IsWithin k (Known f l h) x → IsWithin k (Known f m i) y → Meets g k ((may_write_between a f l i then surely_writes_between a f l h m i)) (λ u e d. e.slots ≡ s.slots) (stores_each cells.0 cells.1 v s)
part-meets g k a f l h m i x y v cells s part p q = record {
  holds = λ w done stored. each-keeps (IsAmong g k ((may_write_between a f l i then surely_writes_between a f l h m i) w).may) (IsAmong g k []) (EndsWith g k ((may_write_between a f l i then surely_writes_between a f l h m i) w).written (λ u e d. e.slots ≡ s.slots)) cells.1 cells.0 v s done
      (λ j below. among-left g k (if int_lt l i then Affine a f l (i -ℤ pos 1) ∷ [] else []) [] (cells.0 + j) (may w j below (int_lt l i) refl))
      (λ d grows all. (written w d (stored-grows g k w done d grows stored) all (int_eq l h && (int_eq m i && int_lt l m)) refl, refl));
}
  where
    may : (w : Offsets) (j : ℕ) → j < cells.1 → (t : Bool) → int_lt l i ≡ t → IsAmong g k (if t then Affine a f l (i -ℤ pos 1) ∷ [] else []) (cells.0 + j)
    may w j below true e =
        let count = part.count_is in
        let el : IsElement (extent_in g a) (cells.0 + j) (part.first + j) = record { inside = omega (arith, part.within); is = omega (arith, part.cell_is) } in
        inl (part.first + j, el, omega (arith, ints, p.0, part.from_is), omega (arith, ints, q.1, part.to_is))
    may w j below false e =
        let count = part.count_is in
        let no_more : i ≤ℤ l = grind (arith, ints, e) in
        absurd (omega (arith, ints, p.0, q.1, part.from_is, part.to_is))

    written : (w : Offsets) (d : List ℕ) → AreStored g k w d → ((j : ℕ) → j < cells.1 → IsIn (cells.0 + j) d) → (t : Bool) → (int_eq l h && (int_eq m i && int_lt l m)) ≡ t → AreStored g k (if t then joined (Affine a f l (m -ℤ pos 1)) w else w) d
    written w d stored all false e = stored
    written w d stored all true e =
        let lh : l ≡ h = (Decides-int_eq l h).0 (and-left _ _ e) in
        let rest = and-right (int_eq l h) _ e in
        let mi : m ≡ i = (Decides-int_eq m i).0 (and-left _ _ rest) in
        stored-joined g k a f l (m -ℤ pos 1) w d (λ o c index low high el spot.
        let count = part.count_is in
        let above : part.first ≤ index = omega (arith, ints, p.0, p.1, part.from_is) in
        let below : index < part.past = omega (arith, ints, q.0, q.1, part.to_is, mi) in
        subst (λ z. IsIn z d) (omega (arith, el.is, part.cell_is)) (all (index - part.first) (omega arith)))
        stored

-- what is filled where nothing is known
whole-meets : (g : List Extent) (k : ℤ) (a : ℕ) (x y v : ℤ) (cells : ℕ × ℕ) (s : State) → IsPart (extent_in g a) cells x y → Meets g k (may_write_whole a) (λ u e d. e.slots ≡ s.slots) (stores_each cells.0 cells.1 v s)
whole-meets g k a x y v cells s part = record {
  holds = λ w done stored. each-keeps (IsAmong g k (Whole a ∷ [])) (IsAmong g k []) (EndsWith g k w (λ u e d. e.slots ≡ s.slots)) cells.1 cells.0 v s done
      (λ j below. let count = part.count_is in inl (part.first + j, record { inside = omega (arith, part.within); is = omega (arith, part.cell_is) }))
      (λ d grows all. (stored-grows g k w done d grows stored, refl));
}

fill-found : (g : List Extent) (k : ℤ) (a : ℕ) (b c : Bound) (x y v : ℤ) (cells : ℕ × ℕ) (s : State) → IsPart (extent_in g a) cells x y → IsWithin k b x → IsWithin k c y → Meets g k (writes_range a b c) (λ u e d. e.slots ≡ s.slots) (stores_each cells.0 cells.1 v s)
fill-found g k a Unknown c x y v cells s part p q = whole-meets g k a x y v cells s part
fill-found g k a (Known f l h) Unknown x y v cells s part p q = whole-meets g k a x y v cells s part
fill-found g k a (Known f l h) (Known f' m i) x y v cells s part p q = go (int_eq f f') refl
  where
    go : (t : Bool) → int_eq f f' ≡ t → Meets g k (if t then (may_write_between a f l i then surely_writes_between a f l h m i) else may_write_whole a) (λ u e d. e.slots ≡ s.slots) (stores_each cells.0 cells.1 v s)
    go true e = let ff : f ≡ f' = (Decides-int_eq f f').0 e in part-meets g k a f l h m i x y v cells s part p (rw ff q)
    go false e = whole-meets g k a x y v cells s part

pub fill-meets : (g : List Extent) (k : ℤ) (a : ℕ) (b c : Bound) (x y v : ℤ) (line : ℕ) (s : State) → IsWithin k b x → IsWithin k c y → Meets g k (writes_range a b c) (λ u e d. e.slots ≡ s.slots) (bind (checked line (cells_of (extent_in g a) x y) s) (after_ending (λ cells. stores_each cells.0 cells.1 v)))
fill-meets g k a b c x y v line s p q = go (cells_of (extent_in g a) x y) refl
  where
    go : (r : Result (ℕ × ℕ) TrapKind) → cells_of (extent_in g a) x y ≡ r → Meets g k (writes_range a b c) (λ u e d. e.slots ≡ s.slots) (bind (checked line r s) (after_ending (λ cells. stores_each cells.0 cells.1 v)))
    go (Ok cells) e = fill-found g k a b c x y v cells s (cells_of-is (extent_in g a) x y cells e) p q
    go (Err why) e = meets-trap _ _
