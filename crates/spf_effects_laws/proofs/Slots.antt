-- Slots whose bounds are known, and slots that stay as they are.
use Rattle.std.proofs.Common.{◌≡◌, ◌⊎◌, ◌≢◌, inl, inr, ℕ, zero, suc, ◌+◌, ◌<◌, ◌≤◌, Bool, true, false, List, [], ◌∷◌, length, drop, ℤ, pos, refl, sym, ap, ◌∙◌, subst, arith}
use Rattle.std.specs.Prelude.{if◌then◌else◌, slice_index_or, slice_set}
use Rattle.std.specs.List.{Contains}
use Rattle.std.proofs.lemmas.List.{get_or-set_same, get_or-set_other, length-set, get_or_past}
use Rattle.spf_region.specs.declared.bound.Bound.{Bound}
use Rattle.spf_region.specs.declared.bound.Bound.TheVariants.{Unknown}
use Rattle.spf_effects_findings.specs.Forms.{Setting, declared}
use Rattle.spf_ast.specs.Carried.{Carried, with_carried}
use Rattle.spf_ast.specs.Lawful.{Names, Scope, behind, showing, showing_each, DeclaresEach}
use Rattle.spf_effects_laws.proofs.Ways.{Grows, in-first, in-rest, in-none}
use Rattle.spf_effects_laws.proofs.Meeting.{IsWithin, bound_at, AreWithin}

-- only slots below n that no assignment sets have known bounds
pub record IsScope (v : Setting) (n : ℕ) (env : List Bound) : Type 0 where
  pub fresh : (x : ℕ) → n ≤ x → bound_at env x ≡ Unknown
  pub assigned : (x : ℕ) → v.is_assigned x ≡ true → bound_at env x ≡ Unknown

-- no assignment sets the slot, or none may here
abbrev pub IsSpared : Setting → List ℕ → ℕ → Type 0
IsSpared v fixed x = (v.is_assigned x ≡ false) ⊎ Contains fixed x

-- the spared slots below n are as they were
pub record IsSame (v : Setting) (fixed : List ℕ) (n : ℕ) (old new : List ℤ) : Type 0 where
  pub slots : (x : ℕ) → x < n → IsSpared v fixed x → slice_index_or new x (pos 0) ≡ slice_index_or old x (pos 0)
  pub size : length new ≡ length old

nat-cases : (x y : ℕ) → (x ≡ y) ⊎ (x ≢ y)
nat-cases x y = grind arith

or-at-least : (x n : ℕ) → (x < n) ⊎ (n ≤ x)
or-at-least x n = grind arith

pub keep-len : {size m n : ℕ} → m ≡ n → size ≤ n → size ≤ m
keep-len e le = omega arith

-- ---- setting a slot

-- a slot's value and its bound are set together
within-set : (k : ℤ) (env : List Bound) (slots : List ℤ) (x : ℕ) (b : Bound) (z : ℤ) → AreWithin k env slots → x < length slots → IsWithin k b z → AreWithin k (slice_set env x b) (slice_set slots x z)
within-set k env slots x b z p inside h y = go (nat-cases y x) (or-at-least x (length env))
  where
    go : (y ≡ x) ⊎ (y ≢ x) → (x < length env) ⊎ (length env ≤ x) → IsWithin k (bound_at (slice_set env x b) y) (slice_index_or (slice_set slots x z) y (pos 0))
    go (inl same) (inl in_env) = rw (same, get_or-set_same env x b Unknown in_env, get_or-set_same slots x z (pos 0) inside) h
    go (inl same) (inr past) = rw (same, get_or_past (slice_set env x b) x Unknown (rw (length-set env x b) past)) tt
    go (inr other) i = rw (get_or-set_other env x y b Unknown other, get_or-set_other slots x y z (pos 0) other) (p y)

-- a slot whose bound is unknown is set
pub within-other : (k : ℤ) (env : List Bound) (slots : List ℤ) (x : ℕ) (z : ℤ) → AreWithin k env slots → bound_at env x ≡ Unknown → AreWithin k env (slice_set slots x z)
within-other k env slots x z p unknown y = go (nat-cases y x)
  where
    go : (y ≡ x) ⊎ (y ≢ x) → IsWithin k (bound_at env y) (slice_index_or (slice_set slots x z) y (pos 0))
    go (inl same) = rw (same, unknown) tt
    go (inr other) = rw (get_or-set_other slots x y z (pos 0) other) (p y)

-- ---- slots that stay

pub same-refl : (v : Setting) (fixed : List ℕ) (n : ℕ) (a : List ℤ) → IsSame v fixed n a a
same-refl v fixed n a = record { slots = λ x b c. refl; size = refl }

spared-more : (v : Setting) (fixed more : List ℕ) (x : ℕ) → Grows fixed more → IsSpared v fixed x → IsSpared v more x
spared-more v fixed more x grows (inl e) = inl e
spared-more v fixed more x grows (inr c) = inr (grows x c)

pub same-trans : (v : Setting) (fixed more : List ℕ) (n m : ℕ) (a b c : List ℤ) → n ≤ m → Grows fixed more → IsSame v fixed n a b → IsSame v more m b c → IsSame v fixed n a c
same-trans v fixed more n m a b c le grows p q = record { slots = λ x below un. q.slots x (omega arith) (spared-more v fixed more x grows un) ∙ p.slots x below un; size = q.size ∙ p.size }

-- a slot is set that isn't among them
pub same-set : (v : Setting) (fixed : List ℕ) (n : ℕ) (a b : List ℤ) (x : ℕ) (z : ℤ) → IsSame v fixed n a b → (n ≤ x) ⊎ ((v.is_assigned x ≡ true) × (Contains fixed x → ⊥)) → IsSame v fixed n a (slice_set b x z)
same-set v fixed n a b x z p out = record { slots = λ y below un. get_or-set_other b x y z (pos 0) (other y below un out) ∙ p.slots y below un; size = length-set b x z ∙ p.size }
  where
    other : (y : ℕ) → y < n → IsSpared v fixed y → (n ≤ x) ⊎ ((v.is_assigned x ≡ true) × (Contains fixed x → ⊥)) → y ≢ x
    other y below un (inl le) = λ e. absurd (omega arith)
    other y below (inl un) (inr set) = λ e. let f : true ≡ false = sym set.0 ∙ ap v.is_assigned (sym e) ∙ un in cc
    other y below (inr c) (inr set) = λ e. set.1 (subst (Contains fixed) e c)

pub same-slots : (v : Setting) (fixed : List ℕ) (n : ℕ) (a b c : List ℤ) → IsSame v fixed n a b → c ≡ b → IsSame v fixed n a c
same-slots v fixed n a b c p e = rw e p

-- slots are set to the words of a row that aren't among them
pub same-row : (v : Setting) (fixed : List ℕ) (n : ℕ) (a b : List ℤ) (carried : List ℕ) (row : Carried) → IsSame v fixed n a b → ((x : ℕ) → Contains carried x → n ≤ x) → IsSame v fixed n a (with_carried carried row b)
same-row v fixed n a b [] row p out = p
same-row v fixed n a b (x ∷ others) row p out =
    same-row v fixed n a (slice_set b x (slice_index_or row 0 (pos 0))) others (drop 1 row)
    (same-set v fixed n a b x (slice_index_or row 0 (pos 0)) p (inl (out x (in-first x x others refl))))
    (λ y c. out y (in-rest y x others c))

-- and whose bounds are unknown
pub within-row : (k : ℤ) (env : List Bound) (slots : List ℤ) (carried : List ℕ) (row : Carried) → AreWithin k env slots → ((x : ℕ) → Contains carried x → bound_at env x ≡ Unknown) → AreWithin k env (with_carried carried row slots)
within-row k env slots [] row p unknown = p
within-row k env slots (x ∷ others) row p unknown =
    within-row k env (slice_set slots x (slice_index_or row 0 (pos 0))) others (drop 1 row)
    (within-other k env slots x (slice_index_or row 0 (pos 0)) p (unknown x (in-first x x others refl)))
    (λ y c. unknown y (in-rest y x others c))

-- what was known before still holds
pub within-back : (v : Setting) (fixed : List ℕ) (k : ℤ) (n : ℕ) (env : List Bound) (a b : List ℤ) → IsScope v n env → AreWithin k env a → IsSame v fixed n a b → AreWithin k env b
within-back v fixed k n env a b scope p same x = go (or-at-least x n) (v.is_assigned x) refl
  where
    go : (x < n) ⊎ (n ≤ x) → (d : Bool) → v.is_assigned x ≡ d → IsWithin k (bound_at env x) (slice_index_or b x (pos 0))
    go (inr le) d e = rw (scope.fresh x le) tt
    go (inl below) true e = rw (scope.assigned x e) tt
    go (inl below) false e = rw (same.slots x below (inl e)) (p x)

-- ---- where bounds are known

pub scope-later : (v : Setting) (n m : ℕ) (env : List Bound) → n ≤ m → IsScope v n env → IsScope v m env
scope-later v n m env le p = record { fresh = λ x below. p.fresh x (omega arith); assigned = p.assigned }

pub scope-declared : (v : Setting) (n m : ℕ) (env : List Bound) (x : ℕ) (b : Bound) → x ≡ n → n < m → IsScope v n env → IsScope v m (declared v x b env)
scope-declared v n m env x b is below p = go (v.is_assigned x) refl
  where
    go : (t : Bool) → v.is_assigned x ≡ t → IsScope v m (if t then env else slice_set env x b)
    go true e = scope-later v n m env (omega arith) p
    go false e = record {
      fresh = λ y above. get_or-set_other env x y b Unknown (λ q. absurd (omega arith)) ∙ p.fresh y (omega arith);
      assigned = λ y set. get_or-set_other env x y b Unknown (λ q. let f : true ≡ false = sym set ∙ ap v.is_assigned q ∙ e in cc) ∙ p.assigned y set;
    }

pub within-declared : (v : Setting) (k : ℤ) (n : ℕ) (env : List Bound) (slots : List ℤ) (x : ℕ) (b : Bound) (z : ℤ) → IsScope v n env → x < length slots → AreWithin k env slots → IsWithin k b z → AreWithin k (declared v x b env) (slice_set slots x z)
within-declared v k n env slots x b z scope inside p h = go (v.is_assigned x) refl
  where
    go : (t : Bool) → v.is_assigned x ≡ t → AreWithin k (if t then env else slice_set env x b) (slice_set slots x z)
    go true e = within-other k env slots x z p (scope.assigned x e)
    go false e = within-set k env slots x b z p inside h

pub declared-other : (v : Setting) (x y : ℕ) (b : Bound) (env : List Bound) → y ≢ x → bound_at (declared v x b env) y ≡ bound_at env y
declared-other v x y b env ne = go (v.is_assigned x)
  where
    go : (t : Bool) → bound_at (if t then env else slice_set env x b) y ≡ bound_at env y
    go true = refl
    go false = get_or-set_other env x y b Unknown ne

-- ---- the slots of a row

cons-cases : (first : ℕ) (rest : List ℕ) (x : ℕ) → Contains (first ∷ rest) x → (first ≡ x) ⊎ Contains rest x
cons-cases first rest x h = go h.0 h.1 h.2
  where
    go : (i : ℕ) → i < length (first ∷ rest) → slice_index_or (first ∷ rest) i x ≡ x → (first ≡ x) ⊎ Contains rest x
    go zero below e = inl e
    go (suc i) below e = inr (i, omega (arith, below), e)

-- the slots of the next declarations lie from the next one on, one after another
pub each-lies : (names : Names) (scope : Scope) (slots : List ℕ) → DeclaresEach names scope slots → (x : ℕ) → Contains slots x → (scope.next ≤ x) × (x < scope.next + length slots)
each-lies names scope [] d x c = in-none x c
each-lies names scope (slot ∷ slots) d x c = go (cons-cases slot slots x c) (λ i. each-lies names (behind 1 (showing slot scope)) slots d.1 x i)
  where
    go : (slot ≡ x) ⊎ Contains slots x → (Contains slots x → (scope.next + 1 ≤ x) × (x < scope.next + 1 + length slots)) → (scope.next ≤ x) × (x < scope.next + length (slot ∷ slots))
    go (inl e) later = let next = d.0.0 in (omega (arith, e, next), omega (arith, e, next))
    go (inr i) later = let l = later i in (omega (arith, l.0), omega (arith, l.1))

pub next-each : (slots : List ℕ) (scope : Scope) → (showing_each slots scope).next ≡ scope.next + length slots
next-each [] scope = omega arith
next-each (slot ∷ slots) scope = let l = next-each slots (behind 1 (showing slot scope)) in omega (arith, l)
