-- Calls of functions that stand before an index.
use Rattle.std.proofs.Common.{◌≡◌, ℕ, zero, suc, ◌+◌, ◌-◌, ◌*◌, ◌<◌, ◌≤◌, Bool, true, false, List, [], ◌∷◌, ◌++◌, length, get_or, take, replicate, max, refl, sym, ap, ◌∙◌, arith}
use Rattle.std.proofs.lemmas.Bool.Decides.{Decides-eqb}
use Rattle.std.proofs.lemmas.List.{take_all}
use Rattle.std.specs.Prelude.{◌==◌, slice_get, map, Some, None, if◌then◌else◌}
use Rattle.spf_region.specs.declared.bound.Bound.{Bound}
use Rattle.spf_region.specs.declared.bound.Bound.TheVariants.{Unknown}
use Rattle.spf_ast.specs.Syntax.{Function}
use Rattle.spf_effects_findings.specs.Parts.{call_before, entered, parameter_bounds, own_bounds}
use Rattle.spf_effects_walk.specs.Settings.{never_entered}
use Rattle.spf_effects_walk.proofs.Weight.{weight_before, weight_of}

-- f stands last, or before
last_or_before_at : {P : Type 0} (b : Bool) (f n : ℕ) → (f == n) ≡ b → f < suc n → (f ≡ n → P) → (f < n → (f == n) ≡ false → P) → P
last_or_before_at true f n e h p q = p ((Decides-eqb f n).0 e)
last_or_before_at false f n e h p q =
    let ne : f ≡ n → ⊥ = λ same. let yes = (Decides-eqb f n).1 same in cc in
    let l : f < n = omega (arith, ne) in q l e

last_or_before : {P : Type 0} (f n : ℕ) → f < suc n → (f ≡ n → P) → (f < n → (f == n) ≡ false → P) → P
last_or_before f n h p q = last_or_before_at (f == n) f n refl h p q

-- a call of a function that stands before the index
pub call_of : (fs : List Function) (f n : ℕ) (given : List Bound) → f < n → call_before fs n f given ≡ entered (call_before fs f) (slice_get fs f) given
call_of fs f zero given h = let no : ⊥ = omega arith in absurd no
call_of fs f (suc n) given h =
    last_or_before f n h
    (λ e. ap (λ b. if b then entered (call_before fs n) (slice_get fs n) given else call_before fs n f given) ((Decides-eqb f n).1 e) ∙ ap (λ m. entered (call_before fs m) (slice_get fs m) given) (sym e))
    (λ l e. ap (λ b. if b then entered (call_before fs n) (slice_get fs n) given else call_before fs n f given) e ∙ call_of fs f n given l)

apart : (f n : ℕ) → n < f → (f == n) ≡ false
apart f n h = at_test (f == n) refl
  where
    at_test : (b : Bool) → (f == n) ≡ b → (f == n) ≡ false
    at_test true e = let same = (Decides-eqb f n).0 e in let no : ⊥ = omega (arith, same) in absurd no
    at_test false e = e

-- a call of a function that doesn't stand before the index
pub call_beyond : (fs : List Function) (f n : ℕ) (given : List Bound) → n ≤ f → call_before fs n f given ≡ never_entered
call_beyond fs f zero given h = refl
call_beyond fs f (suc n) given h =
    ap (λ b. if b then entered (call_before fs n) (slice_get fs n) given else call_before fs n f given) (apart f n (omega arith))
    ∙ call_beyond fs f n given (omega arith)

none_at : {A : Type 0} (xs : List A) (i : ℕ) → length xs ≤ i → slice_get xs i ≡ None
none_at [] i h = refl
none_at (x ∷ xs) zero h = let no : ⊥ = omega arith in absurd no
none_at (x ∷ xs) (suc i) h = none_at xs i (omega arith)

-- a call of a function that isn't there
pub call_absent : (fs : List Function) (f n : ℕ) (given : List Bound) → f < n → length fs ≤ f → call_before fs n f given ≡ never_entered
call_absent fs f n given h k = call_of fs f n given h ∙ ap (λ o. entered (call_before fs f) o given) (none_at fs f k)

pub depth_at : (fs : List Function) (f n : ℕ) → f < n → 2 * weight_of (slice_get fs f) + 6 + weight_before fs f ≤ weight_before fs n
depth_at fs f zero h = omega arith
depth_at fs f (suc n) h =
    last_or_before f n h
    (λ e. omega (arith, ap (λ m. 2 * weight_of (slice_get fs m) + 6 + weight_before fs m) e))
    (λ l _. omega (arith, depth_at fs f n l))

-- ---- bounds of parameters

length_of : (is_assigned : ℕ → Bool) (slot : ℕ) (given : List Bound) → length (parameter_bounds is_assigned slot given) ≡ length given
length_of is_assigned slot [] = refl
length_of is_assigned slot (b ∷ given) = ap suc (length_of is_assigned (suc slot) given)

-- the bounds of parameters, filled up to those of all slots
pub own_of : (is_assigned : ℕ → Bool) (count : ℕ) (given bounds new : List Bound) (long : ℕ) → bounds ≡ parameter_bounds is_assigned 0 given → long ≡ length bounds → new ≡ take (max count (length given)) bounds ++ replicate (max count (length given) - long) Unknown → new ≡ own_bounds is_assigned count given
own_of is_assigned count given bounds new long e n k =
    let l = ap length e ∙ length_of is_assigned 0 given in
    let within : length bounds ≤ max count (length given) = omega (arith, l) in
    let more : max count (length given) - long ≡ count - length given = omega (arith, l, n) in
    k ∙ ap (λ z. z ++ replicate (max count (length given) - long) Unknown) (take_all (max count (length given)) bounds within ∙ e)
    ∙ ap (λ m. parameter_bounds is_assigned 0 given ++ replicate m Unknown) more

pub some_at : {A B : Type 0} (f : A → B) (xs : List A) (i : ℕ) (x : A) → i < length xs → x ≡ get_or xs i x → slice_get (map f xs) i ≡ Some (f x)
some_at f [] i x h e = let no : ⊥ = omega arith in absurd no
some_at f (y ∷ ys) zero x h e = ap (λ z. Some (f z)) (sym e)
some_at f (y ∷ ys) (suc i) x h e = some_at f ys i x (omega arith) e
