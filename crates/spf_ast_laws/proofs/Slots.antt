-- States that look alike on a list of slots.
use Rattle.std.proofs.Common.{◌≡◌, ℕ, zero, suc, ◌<◌, ◌⊎◌, inl, inr, List, [], ◌∷◌, ◌++◌, drop, length, ℤ, pos, refl, sym, ap, ◌∙◌, subst, arith}
use Rattle.std.specs.Prelude.{slice_get, slice_index_or, slice_set}
use Rattle.std.specs.List.{Contains}
use Rattle.std.specs.Option.{unwrap_or}
use Rattle.std.proofs.lemmas.List.{length-set}
use Rattle.std.proofs.lemmas.Option.{unwrap_or-slice_get}
use Rattle.std.proofs.lemmas.List.Elements.{Contains-append_left, Contains-append_right, Contains-append_cases}
use Rattle.spf_ast.specs.Carried.{Carried, with_carried}
use Rattle.spf_ast.specs.Interaction.{State}
use Rattle.spf_ast_laws.specs.Agreement.{LookAlike}

-- each slot of the one list is in the other
abbrev pub IsWithin : List ℕ → List ℕ → Type 0
IsWithin few many = (slot : ℕ) → Contains few slot → Contains many slot

-- an element of a list with one more in front
pub cons_cases : (x : ℕ) (xs : List ℕ) (y : ℕ) → Contains (x ∷ xs) y → (x ≡ y) ⊎ Contains xs y
cons_cases x xs y h = go h.0 h.1 h.2
  where
    go : (k : ℕ) → k < length (x ∷ xs) → slice_index_or (x ∷ xs) k y ≡ y → (x ≡ y) ⊎ Contains xs y
    go zero l e = inl e
    go (suc k) l e = inr (k, omega (arith, l), e)

-- the first element of a list is in it
pub cons_first : (x : ℕ) (xs : List ℕ) → Contains (x ∷ xs) x
cons_first x xs = (zero, omega arith, refl)

-- the other elements are in it too
pub cons_rest : (x : ℕ) (xs : List ℕ) → IsWithin xs (x ∷ xs)
cons_rest x xs y h = (suc h.0, (let l = h.1 in omega (arith, l)), h.2)

-- the first two elements may be swapped
pub cons_swap : (x y : ℕ) (xs : List ℕ) → IsWithin (x ∷ y ∷ xs) (y ∷ x ∷ xs)
cons_swap x y xs z h = go (cons_cases x (y ∷ xs) z h)
  where
    later : (y ≡ z) ⊎ Contains xs z → Contains (y ∷ x ∷ xs) z
    later (inl e) = subst (Contains (y ∷ x ∷ xs)) e (cons_first y (x ∷ xs))
    later (inr k) = cons_rest y (x ∷ xs) z (cons_rest x xs z k)

    go : (x ≡ z) ⊎ Contains (y ∷ xs) z → Contains (y ∷ x ∷ xs) z
    go (inl e) = cons_rest y (x ∷ xs) z (subst (Contains (x ∷ xs)) e (cons_first x xs))
    go (inr k) = later (cons_cases y xs z k)

-- an element may stand in the middle
pub within_midst : (x : ℕ) (xs ys : List ℕ) → IsWithin (x ∷ (xs ++ ys)) (xs ++ (x ∷ ys))
within_midst x xs ys k c = first (cons_cases x (xs ++ ys) k c)
  where
    then_ : Contains xs k ⊎ Contains ys k → Contains (xs ++ (x ∷ ys)) k
    then_ (inl d) = Contains-append_left xs (x ∷ ys) k d
    then_ (inr d) = Contains-append_right xs (x ∷ ys) k (cons_rest x ys k d)

    first : (x ≡ k) ⊎ Contains (xs ++ ys) k → Contains (xs ++ (x ∷ ys)) k
    first (inl e) = Contains-append_right xs (x ∷ ys) k (subst (Contains (x ∷ ys)) e (cons_first x ys))
    first (inr d) = then_ (Contains-append_cases xs ys k d)

-- the last elements of a list
pub within_rest : (xs ys : List ℕ) → IsWithin ys (xs ++ ys)
within_rest xs ys k c = Contains-append_right xs ys k c

-- the same word set in lists of the same length is the same there
set_same : (xs ys : List ℤ) (slot : ℕ) (v : ℤ) → length xs ≡ length ys → slice_get (slice_set xs slot v) slot ≡ slice_get (slice_set ys slot v) slot
set_same [] [] slot v l = refl
set_same [] (y ∷ ys) slot v l = absurd (omega (arith, l))
set_same (x ∷ xs) [] slot v l = absurd (omega (arith, l))
set_same (x ∷ xs) (y ∷ ys) zero v l = refl
set_same (x ∷ xs) (y ∷ ys) (suc slot) v l = set_same xs ys slot v (omega (arith, l))

-- lists that agree at an index still do when the same word is set in both
set_kept : (xs ys : List ℤ) (slot : ℕ) (v : ℤ) (k : ℕ) → length xs ≡ length ys → slice_get xs k ≡ slice_get ys k → slice_get (slice_set xs slot v) k ≡ slice_get (slice_set ys slot v) k
set_kept [] [] slot v k l e = refl
set_kept [] (y ∷ ys) slot v k l e = absurd (omega (arith, l))
set_kept (x ∷ xs) [] slot v k l e = absurd (omega (arith, l))
set_kept (x ∷ xs) (y ∷ ys) zero v zero l e = refl
set_kept (x ∷ xs) (y ∷ ys) zero v (suc k) l e = e
set_kept (x ∷ xs) (y ∷ ys) (suc slot) v zero l e = e
set_kept (x ∷ xs) (y ∷ ys) (suc slot) v (suc k) l e = set_kept xs ys slot v k (omega (arith, l)) e

-- states that look alike on many slots do on fewer
pub look_narrower : (few many : List ℕ) (one other : State) → IsWithin few many → LookAlike many one other → LookAlike few one other
look_narrower few many one other within h = record {
  agree = record { slots = λ slot c. h.agree.slots slot (within slot c); output = h.agree.output };
  slot_count = h.slot_count;
}

-- states that look alike still do when the same word is set in both, and then on that slot besides
pub look_set : (visible : List ℕ) (one other : State) (slot : ℕ) (v : ℤ) → LookAlike visible one other → LookAlike (slot ∷ visible) (record one { slots = slice_set one.slots slot v }) (record other { slots = slice_set other.slots slot v })
look_set visible one other slot v h = record {
  agree = record { slots = λ k c. at k (cons_cases slot visible k c); output = h.agree.output };
  slot_count = length-set one.slots slot v ∙ h.slot_count ∙ sym (length-set other.slots slot v);
}
  where
    at : (k : ℕ) → (slot ≡ k) ⊎ Contains visible k → slice_get (slice_set one.slots slot v) k ≡ slice_get (slice_set other.slots slot v) k
    at k (inl e) = subst (λ i. slice_get (slice_set one.slots slot v) i ≡ slice_get (slice_set other.slots slot v) i) e (set_same one.slots other.slots slot v h.slot_count)
    at k (inr c) = set_kept one.slots other.slots slot v k h.slot_count (h.agree.slots k c)

-- and so they do when the same row is put into slots of both
pub look_row : (visible slots : List ℕ) (row : Carried) (one other : State) → LookAlike visible one other → LookAlike (slots ++ visible) (record one { slots = with_carried slots row one.slots }) (record other { slots = with_carried slots row other.slots })
look_row visible [] row one other h = h
look_row visible (slot ∷ slots) row one other h =
    let word = slice_index_or row 0 (pos 0) in
    let first = record one { slots = slice_set one.slots slot word } in
    let second = record other { slots = slice_set other.slots slot word } in
    look_narrower (slot ∷ (slots ++ visible)) (slots ++ (slot ∷ visible)) _ _ (within_midst slot slots visible)
    (look_row (slot ∷ visible) slots (drop 1 row) first second (look_set visible one other slot word h))

-- lists that agree at an index have the same word there
pub same_read : (xs ys : List ℤ) (slot : ℕ) → slice_get xs slot ≡ slice_get ys slot → slice_index_or xs slot (pos 0) ≡ slice_index_or ys slot (pos 0)
same_read xs ys slot e =
    sym (unwrap_or-slice_get xs slot (pos 0)) ∙ ap (λ found. unwrap_or found (pos 0)) e ∙ unwrap_or-slice_get ys slot (pos 0)
