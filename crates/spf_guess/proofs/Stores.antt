-- Stores that keep a value for each of the first different keys of a list.
use Rattle.std.proofs.Common.{◌≡◌, Bool, true, false, ℕ, ◌+◌, nat_lt, List, [], ◌∷◌, ◌++◌, length, Option, Some, None, refl, sym, ap, subst, ◌∙◌, ℤ, length-append}
use Rattle.std.specs.Prelude.{◌||◌, if◌then◌else◌}
use Rattle.std.specs.Ordering.{int_eq}
use Rattle.std.specs.Map.{update}
use Rattle.std.proofs.lemmas.Bool.Decides.{Decides-int_eq}
use Rattle.std.proofs.lemmas.List.Folds.{list_any-append}
use Rattle.std.proofs.Math.Bool.{or-false}
use Rattle.spf_guess.specs.Kinds.{kept}
use Rattle.spf_guess.specs.Stores.{Stored, IsEmptyStore, takes, put_into}
use Rattle.spf_guess.proofs.Kept.{has, kept_with, eq_self, eq_turned}

module _ {V : Type 0} where
  -- the store with this room that has these keys, and the values that a function gives for them
  abbrev pub keeping : ℕ → List ℤ → (ℤ → V) → Stored V
  keeping room keys value = record { room = room; count = length keys; value = λ key. if has key keys then Some (value key) else None }

  -- a store that keeps nothing
  pub keeping-none : (room : ℕ) (store : Stored V) (f : ℤ → V) → IsEmptyStore room store → store ≡ keeping room [] f
  keeping-none room store f (same_room, none, nothing) = λ i. record { room = same_room i; count = none i; value = λ key. nothing key i }

  -- two such stores whose values are equal at each of their keys are the same
  pub keeping-alike : (room : ℕ) (keys : List ℤ) (f g : ℤ → V) → ((key : ℤ) → has key keys ≡ true → f key ≡ g key) → keeping room keys f ≡ keeping room keys g
  keeping-alike room keys f g alike = λ i. record { room = room; count = length keys; value = λ key. go key (has key keys) refl i }
    where
      go : (key : ℤ) (b : Bool) → has key keys ≡ b → (keeping room keys f).value key ≡ (keeping room keys g).value key
      go key true e = rw e (ap Some (alike key e))
      go key false e = rw e refl

  -- the value under a key after one was put
  abbrev valued : (ℤ → Bool) → (ℤ → V) → ℤ → Option V
  valued has_key value key = if has_key key then Some (value key) else None

  -- values after one was put under a key that is kept now
  values-put : (before now : ℤ → Bool) (f g : ℤ → V) (key : ℤ) (value : V)
      → g key ≡ value
      → ((other : ℤ) → int_eq key other ≡ false → g other ≡ f other)
      → now key ≡ true
      → ((other : ℤ) → int_eq key other ≡ false → now other ≡ before other)
      → (q : ℤ) → update int_eq (valued before f) key (Some value) q ≡ valued now g q
  values-put before now f g key value here there kept alike q = go (int_eq key q) refl
    where
      go : (c : Bool) → int_eq key q ≡ c → update int_eq (valued before f) key (Some value) q ≡ valued now g q
      go true e = subst (λ w. update int_eq (valued before f) key (Some value) w ≡ valued now g w) ((Decides-int_eq key q).0 e) (rw (eq_self key, kept) (ap Some (sym here)))
      go false e = rw (e, alike q e) (ap (λ v. if before q then Some v else None) (sym (there q e)))

  -- a value that comes under a key that is kept, or for which there is room, is kept; otherwise nothing changes
  pub put-keeping : (room : ℕ) (keys : List ℤ) (f g : ℤ → V) (key : ℤ) (value : V)
      → (takes (keeping room keys f) key ≡ true → g key ≡ value)
      → ((other : ℤ) → int_eq key other ≡ false → g other ≡ f other)
      → put_into (keeping room keys f) key value ≡ keeping room (kept_with room keys key) g
  put-keeping room keys f g key value here there = go (has key keys) (nat_lt (length keys) room) refl refl
    where
      go : (a b : Bool) → has key keys ≡ a → nat_lt (length keys) room ≡ b → put_into (keeping room keys f) key value ≡ keeping room (kept_with room keys key) g
      go true b ea eb =
          let value_is : g key ≡ value = here (rw ea refl) in
          rw ea (λ i. record {
            room = room;
            count = length keys;
            value = λ q. values-put (λ other. has other keys) (λ other. has other keys) f g key value value_is there ea (λ other e. refl) q i;
          })
      go false true ea eb =
          let value_is : g key ≡ value = here (rw (ea, eb) refl) in
          let now : has key (keys ++ key ∷ []) ≡ true = list_any-append (int_eq key) keys (key ∷ []) ∙ rw (ea, eq_self key) refl in
          let longer : length keys + 1 ≡ length (keys ++ key ∷ []) = sym (length-append keys (key ∷ [])) in
          rw (ea, eb) (λ i. record {
            room = room;
            count = longer i;
            value = λ q. values-put (λ other. has other keys) (λ other. has other (keys ++ key ∷ [])) f g key value value_is there now (λ other e. behind other e) q i;
          })
        where
          behind : (other : ℤ) → int_eq key other ≡ false → has other (keys ++ key ∷ []) ≡ has other keys
          behind other e = list_any-append (int_eq other) keys (key ∷ []) ∙ rw (eq_turned key other false e) (or-false (has other keys))
      go false false ea eb = rw (ea, eb) (keeping-alike room keys f g (λ other e. sym (there other (apart other e (int_eq key other) refl))))
        where
          apart : (other : ℤ) → has other keys ≡ true → (c : Bool) → int_eq key other ≡ c → int_eq key other ≡ false
          apart other e false d = d
          apart other e true d = let back : has key keys ≡ true = subst (λ w. has w keys ≡ true) (sym ((Decides-int_eq key other).0 d)) e in cc

-- ---- which keys are kept

-- a key that is taken is kept
pub kept_with-has : (room : ℕ) (keys : List ℤ) (key : ℤ) → (has key keys || nat_lt (length keys) room) ≡ true → has key (kept_with room keys key) ≡ true
kept_with-has room keys key e = go (has key keys) (nat_lt (length keys) room) refl refl e
  where
    go : (a b : Bool) → has key keys ≡ a → nat_lt (length keys) room ≡ b → (a || b) ≡ true → has key (kept_with room keys key) ≡ true
    go true b ea eb t = rw ea ea
    go false true ea eb t = rw (ea, eb) (list_any-append (int_eq key) keys (key ∷ []) ∙ rw (ea, eq_self key) refl)
    go false false ea eb t = cc

-- nothing changes for other keys
pub kept_with-others : (room : ℕ) (keys : List ℤ) (key other : ℤ) → int_eq key other ≡ false → has other (kept_with room keys key) ≡ has other keys
kept_with-others room keys key other e = go (has key keys) (nat_lt (length keys) room) refl refl
  where
    go : (a b : Bool) → has key keys ≡ a → nat_lt (length keys) room ≡ b → has other (kept_with room keys key) ≡ has other keys
    go true b ea eb = rw ea refl
    go false true ea eb = rw (ea, eb) (list_any-append (int_eq other) keys (key ∷ []) ∙ rw (eq_turned key other false e) (or-false (has other keys)))
    go false false ea eb = rw (ea, eb) refl

-- a key that is kept stays
pub kept_with-stays : (room : ℕ) (keys : List ℤ) (key other : ℤ) → has other keys ≡ true → has other (kept_with room keys key) ≡ true
kept_with-stays room keys key other e = go (has key keys) (nat_lt (length keys) room) refl refl
  where
    go : (a b : Bool) → has key keys ≡ a → nat_lt (length keys) room ≡ b → has other (kept_with room keys key) ≡ true
    go true b ea eb = rw ea e
    go false true ea eb = rw (ea, eb) (list_any-append (int_eq other) keys (key ∷ []) ∙ rw e refl)
    go false false ea eb = rw (ea, eb) e

-- where a key isn't taken, the keys stay
pub kept_with-full : (room : ℕ) (keys : List ℤ) (key : ℤ) → (has key keys || nat_lt (length keys) room) ≡ false → (kept_with room keys key ≡ keys) × (has key keys ≡ false)
kept_with-full room keys key e = go (has key keys) (nat_lt (length keys) room) refl refl e
  where
    go : (a b : Bool) → has key keys ≡ a → nat_lt (length keys) room ≡ b → (a || b) ≡ false → (kept_with room keys key ≡ keys) × (has key keys ≡ false)
    go true b ea eb t = cc
    go false true ea eb t = cc
    go false false ea eb t = (rw (ea, eb) refl, ea)
